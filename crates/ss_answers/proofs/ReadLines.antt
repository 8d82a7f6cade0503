-- A step of reading the lines of a text, whatever kind they are of.
use Rattle.std.proofs.Common.{◌≡◌, ℕ, List, [], ◌∷◌, ◌++◌, sym, refl, ap, ◌∙◌}
use Rattle.std.specs.List.{AllByRecursion}
use Rattle.std.proofs.lemmas.List.{append-nil, append_assoc}
use Rattle.ss_octets.specs.Ascii.{lf}
use Rattle.ss_answers.specs.Lines.{ended, first_line}
use Rattle.ss_octets.proofs.Base64Text.{Clear}

pub first_clear : (a b : List ℕ) → Clear lf a → first_line (a ++ lf ∷ b) ≡ a
first_clear [] b h = refl
first_clear (x ∷ a) b h = rw (h.0, first_clear a b h.1) refl

pub whole_clear : (a : List ℕ) → Clear lf a → first_line a ≡ a
whole_clear [] h = refl
whole_clear (x ∷ a) h = rw (h.0, whole_clear a h.1) refl

pub ended-push : {A : Type 0} (spell : A → List ℕ) (lines : List A) (line : A)
    → ended spell (lines ++ line ∷ []) ≡ ended spell lines ++ (spell line ++ lf ∷ [])
ended-push spell [] line = append-nil (spell line ++ lf ∷ [])
ended-push spell (x ∷ lines) line =
    ap (λ t. (spell x ++ lf ∷ []) ++ t) (ended-push spell lines line)
    ∙ sym (append_assoc (spell x ++ lf ∷ []) (ended spell lines) (spell line ++ lf ∷ []))

pub good-push : {A : Type 0} (good : A → Type 0) (lines : List A) (line : A) → AllByRecursion good lines → good line
    → AllByRecursion good (lines ++ line ∷ [])
good-push good [] line h k = (k, tt)
good-push good (x ∷ lines) line h k = (h.0, good-push good lines line h.1 k)
