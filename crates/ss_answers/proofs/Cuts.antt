-- A text is cut at its first space, or at its first line feed, in one way.
use Rattle.std.proofs.Common.{◌≡◌, ℕ, eqb, false, List, [], ◌∷◌, ◌++◌, refl}
use Rattle.std.proofs.lemmas.List.Elements.{recursion_from_All}
use Rattle.std.proofs.lemmas.Bool.{eqb-false}
use Rattle.ss_octets.proofs.Base64Text.{Clear}
use Rattle.ss_answers.specs.Lines.{Lacks}

pub cut_clear : (c : ℕ) (a x b y : List ℕ) → Clear c a → Clear c b → a ++ c ∷ x ≡ b ++ c ∷ y → (a ≡ b) × (x ≡ y)
cut_clear c [] x [] y h k e = (refl, cc)
cut_clear c [] x (d ∷ b) y h k e = let same : d ≡ c = cc in absurd (eqb-false d c k.0 same)
cut_clear c (d ∷ a) x [] y h k e = let same : d ≡ c = cc in absurd (eqb-false d c h.0 same)
cut_clear c (d ∷ a) x (f ∷ b) y h k e =
    let heads : d ≡ f = cc in
    let tails : a ++ c ∷ x ≡ b ++ c ∷ y = cc in
    let rest : (a ≡ b) × (x ≡ y) = cut_clear c a x b y h.1 k.1 tails in
    let same : a ≡ b = rest.0 in
    (cc, rest.1)

-- the first place of an octet cuts a text in one way
pub cut_once : (c : ℕ) (a x b y : List ℕ) → Lacks c a → Lacks c b → a ++ c ∷ x ≡ b ++ c ∷ y → (a ≡ b) × (x ≡ y)
cut_once c a x b y h k e = cut_clear c a x b y (recursion_from_All _ a h) (recursion_from_All _ b k) e

pub clear_nowhere : (c : ℕ) (a x : List ℕ) → Clear c (a ++ c ∷ x) → ⊥
clear_nowhere c [] x h = eqb-false c c h.0 refl
clear_nowhere c (d ∷ a) x h = clear_nowhere c a x h.1

-- a text that lacks an octet has it nowhere
pub nowhere : (c : ℕ) (a x text : List ℕ) → Lacks c text → text ≡ a ++ c ∷ x → ⊥
nowhere c a x text h e = clear_nowhere c a x (rw e at (recursion_from_All (λ x. eqb x c ≡ false) text h))
