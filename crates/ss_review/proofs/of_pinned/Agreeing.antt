-- Certificate blocks that agree with a payload: where their octets stand in it.
use Rattle.std.proofs.Common.{◌≡◌, inl, inr, ℕ, zero, suc, ◌+◌, ◌-◌, ◌<◌, ◌≤◌, true, false, ◌&&◌, List, [], ◌∷◌, ◌++◌, length, drop, length-drop, refl, sym, ap, ◌∙◌, arith}
use Rattle.std.specs.Prelude.{◌==◌, nat_eq, Some, None, option_map, slice_get, slice_index, slice_range}
use Rattle.std.specs.List.{starts_with}
use Rattle.std.proofs.lemmas.Bool.{and_parts, and_from, and_left, cases_eq, eqb-true, eq-eqb, ne_eqb}
use Rattle.std.proofs.lemmas.Bool.Decides.{Decides-eqb}
use Rattle.std.proofs.lemmas.Slice.Eq.{starts_is}
use Rattle.std.proofs.lemmas.List.{take_all}
use Rattle.ss_block.specs.Block as block
use Rattle.ss_block.specs.Joining.{placed}
use Rattle.ss_block.specs.Meanings.{octets_of}
use Rattle.ss_octets.proofs.Members.{Has}
use Rattle.ss_review.specs.declared.keep.kept_block.Stated.{Stated}
use Rattle.ss_review.specs.keep.BlockMessage.{BlockContent, Hashes, Fragment}
use Rattle.ss_review.specs.keep.Stated.{States}
use Rattle.ss_review.specs.pinned.Pinned.{agrees, agrees_in}
use Rattle.ss_review.specs.sessions.Payloads.{certificate_of}

-- ---- elements by index

pub in_front : {X : Type 0} (xs ys : List X) (i : ℕ) (x : X) → slice_get xs i ≡ Some x → slice_get (xs ++ ys) i ≡ Some x
in_front [] ys i x e = absurd (cc)
in_front (y ∷ xs) ys zero x e = e
in_front (y ∷ xs) ys (suc i) x e = in_front xs ys i x e

pub behind_drop : {X : Type 0} (k : ℕ) (xs : List X) (i : ℕ) (x : X) → slice_get (drop k xs) i ≡ Some x → slice_get xs (k + i) ≡ Some x
behind_drop zero xs i x e = let at : 0 + i ≡ i = omega arith in ap (slice_get xs) at ∙ e
behind_drop (suc k) [] i x e = absurd (cc)
behind_drop (suc k) (y ∷ xs) i x e = let at : suc k + i ≡ suc (k + i) = omega arith in ap (slice_get (y ∷ xs)) at ∙ behind_drop k xs i x e

pub before_drop : {X : Type 0} (k : ℕ) (xs : List X) (i : ℕ) (x : X) → slice_get xs (k + i) ≡ Some x → slice_get (drop k xs) i ≡ Some x
before_drop zero xs i x e = let at : i ≡ 0 + i = omega arith in ap (slice_get xs) at ∙ e
before_drop (suc k) [] i x e = absurd (cc)
before_drop (suc k) (y ∷ xs) i x e = let at : suc (k + i) ≡ suc k + i = omega arith in before_drop k xs i x (ap (slice_get (y ∷ xs)) at ∙ e)

-- a list begins as another where it has each of its elements
pub begins_as : {X : Type 0} (xs ys : List X) → ((i : ℕ) (x : X) → slice_get xs i ≡ Some x → slice_get ys i ≡ Some x) → (rest : List X) × (ys ≡ xs ++ rest)
begins_as [] ys same = (ys, refl)
begins_as (x ∷ xs) [] same = let e = same 0 x refl in absurd (cc)
begins_as (x ∷ xs) (y ∷ ys) same =
    let w = begins_as xs ys (λ i z e. same (suc i) z e) in
    let e : Some y ≡ Some x = same 0 x refl in
    let head : y ≡ x = cc in
    (w.0, λ i. head i ∷ w.1 i)

-- ---- the octets of a fragment

pub from_placed : (n : ℕ) (xs : List ℕ) (i o : ℕ) → Has (placed n xs) (i, o) → (j : ℕ) × (i ≡ n + j) × (slice_get xs j ≡ Some o)
from_placed n [] i o h = absurd h
from_placed n (x ∷ xs) i o (inl e) =
    let at : n ≡ i = ap (λ (p : ℕ × ℕ). p.0) e in
    let same : x ≡ o = ap (λ (p : ℕ × ℕ). p.1) e in
    (0, omega (arith, at), ap (λ (q : ℕ). Some q) same)
from_placed n (x ∷ xs) i o (inr h) =
    let w = from_placed (n + 1) xs i o h in
    let at = w.1 in
    (suc w.0, omega (arith, at), w.2)

pub to_placed : (n : ℕ) (xs : List ℕ) (j o i : ℕ) → slice_get xs j ≡ Some o → i ≡ n + j → Has (placed n xs) (i, o)
to_placed n [] j o i e at = absurd (cc)
to_placed n (x ∷ xs) zero o i e at =
    let same : x ≡ o = cc in
    let here : n ≡ i = omega (arith, at) in
    inl (λ k. (here k, same k))
to_placed n (x ∷ xs) (suc j) o i e at = inr (to_placed (n + 1) xs j o i e (omega (arith, at)))

-- ---- agreeing

-- each octet of the fragment stands in the payload at its index, and the total is the payload's length
pub record Says (p : List ℕ) (c : block.Certificate) : Type 0 where
  pub total : c.total ≡ length p
  pub octet : (i o : ℕ) → Has (placed c.index c.fragment) (i, o) → (1 ≤ i) × (slice_get p (i - 1) ≡ Some o)

pub agreeing_says : (p : List ℕ) (c : block.Certificate) → 1 ≤ c.index → agrees p c ≡ true → Says p c
agreeing_says p c some e =
    let both = and_parts (c.total == length p) (starts_with nat_eq (drop (c.index - 1) p) c.fragment) e in
    let begins = (starts_is Decides-eqb (drop (c.index - 1) p) c.fragment (starts_with nat_eq (drop (c.index - 1) p) c.fragment) refl).0 both.1 in
    record {
      total = eqb-true c.total (length p) both.0;
      octet = λ i o h.
          (let w = from_placed c.index c.fragment i o h in
          let at = w.1 in
          let here : c.index - 1 + w.0 ≡ i - 1 = omega (arith, at, some) in
          let there : slice_get (drop (c.index - 1) p) w.0 ≡ Some o
          = ap (λ ys. slice_get ys w.0) begins ∙ in_front c.fragment (drop (length c.fragment) (drop (c.index - 1) p)) w.0 o w.2 in
          (omega (arith, at, some), ap (slice_get p) (sym here) ∙ behind_drop (c.index - 1) p w.0 o there));
    }

pub says_agreeing : (p : List ℕ) (c : block.Certificate) → 1 ≤ c.index → Says p c → agrees p c ≡ true
says_agreeing p c some says =
    let begins = begins_as c.fragment (drop (c.index - 1) p) (λ j o e.
    (let w = says.octet (c.index + j) o (to_placed c.index c.fragment j o (c.index + j) e refl) in
    let here : c.index + j - 1 ≡ c.index - 1 + j = omega (arith, some) in
    before_drop (c.index - 1) p j o (ap (slice_get p) (sym here) ∙ w.1))) in
    and_from (c.total == length p) (starts_with nat_eq (drop (c.index - 1) p) c.fragment)
    ((Decides-eqb c.total (length p)).1 says.total)
    ((starts_is Decides-eqb (drop (c.index - 1) p) c.fragment (starts_with nat_eq (drop (c.index - 1) p) c.fragment) refl).1 begins.0 begins.1)

-- ---- where two payloads of one length differ

pub differ_at : (p q : List ℕ) → length p ≡ length q → (p ≡ q → ⊥) → (i : ℕ) × (i < length p) × (slice_index p i ≡ slice_index q i → ⊥)
differ_at [] [] l n = absurd (n refl)
differ_at [] (y ∷ q) l n = absurd (omega (arith, l))
differ_at (x ∷ p) [] l n = absurd (omega (arith, l))
differ_at (x ∷ p) (y ∷ q) l n =
    elim (cases_eq x y) [
      | inl same ↦ (let w = differ_at p q (omega (arith, l)) (λ e. n (λ i. same i ∷ e i)) in
          let below = w.1 in
          (suc w.0, omega (arith, below), w.2))
      | inr apart ↦ (0, omega arith, apart)
    ]

-- ---- what a block states of the payload

pub agrees_by : (p : List ℕ) (said : BlockContent) (c : block.Certificate) → certificate_of said ≡ Some c → agrees_in p said ≡ agrees p c
agrees_by p (Hashes b) c e = absurd (cc)
agrees_by p (Fragment d) c e = let same : d ≡ c = cc in ap (agrees p) same

pub not_agreeing : (p : List ℕ) (said : BlockContent) → certificate_of said ≡ None → agrees_in p said ≡ false
not_agreeing p (Hashes b) e = refl
not_agreeing p (Fragment c) e = absurd (cc)

pub not_as_long : (p : List ℕ) (said : BlockContent) → ¬ (option_map (λ (c : block.Certificate). c.total) (certificate_of said) ≡ Some (length p)) → agrees_in p said ≡ false
not_as_long p (Hashes b) n = refl
not_as_long p (Fragment c) n =
    and_left (c.total == length p) (starts_with nat_eq (drop (c.index - 1) p) c.fragment) (ne_eqb c.total (length p) (λ e. n (ap (λ (k : ℕ). Some k) e)))

-- it is as long, so it begins as the fragment from its index on or not
pub as_long : (p : List ℕ) (s : Stated) (c : block.Certificate) → States s c → s.total ≡ length p
    → agrees p c ≡ starts_with nat_eq (drop (s.index - 1) p) (octets_of s.fragment)
as_long p s c states e =
    ap (λ b. b && starts_with nat_eq (drop (c.index - 1) p) c.fragment) (eq-eqb c.total (length p) (sym states.total ∙ e))
    ∙ (λ i. starts_with nat_eq (drop (sym states.index i - 1) p) (sym states.fragment i))

-- what stands from there up to the end
pub up_to_end : (p rest : List ℕ) (from : ℕ) → rest ≡ slice_range p from (length p) → rest ≡ drop from p
up_to_end p rest from e =
    let long = length-drop from p in
    e ∙ take_all (length p - from) (drop from p) (omega (arith, long))
