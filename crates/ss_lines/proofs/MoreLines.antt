-- One more line.
use Rattle.std.proofs.Common.{◌≡◌, ℕ, List, [], ◌∷◌, ◌++◌, flat_map, sym, ap, subst, ◌∙◌, append-nil}
use Rattle.std.specs.List.{AllByRecursion}
use Rattle.std.specs.Io.KnownBytes.{Consumes}
use Rattle.std.proofs.KnownBytes.{Consumes-trans}
use Rattle.std.proofs.lemmas.Grind.{flat_map-append}
use Rattle.ss_octets.specs.Ascii.{lf}
use Rattle.ss_octets.specs.Cut.{Lacks}
use Rattle.ss_frame.specs.Watched.{Source}
use Rattle.ss_lines.specs.Reading.{ended, HasRead}

-- one more at the end
pub one_more : {A : Type 0} (f : List ℕ → List A) (lines : List (List ℕ)) (line : List ℕ) → flat_map f (lines ++ line ∷ []) ≡ flat_map f lines ++ f line
one_more {A = A} f lines line = flat_map-append f lines (line ∷ []) ∙ ap (λ (x : List A). flat_map f lines ++ x) (append-nil (f line))

all_more : (lines : List (List ℕ)) (line : List ℕ) → AllByRecursion (Lacks lf) lines → Lacks lf line → AllByRecursion (Lacks lf) (lines ++ line ∷ [])
all_more [] line all is = (is, tt)
all_more (x ∷ lines) line all is = (all.0, all_more lines line all.1 is)

-- octets after the lines
pub read_rest : (a b c : Source) (lines : List (List ℕ)) (rest : List ℕ) → HasRead a b lines [] → Consumes b.left c.left rest → HasRead a c lines rest
read_rest a b c lines rest h k =
    let none : ended lines ++ [] ≡ ended lines = append-nil (ended lines) in
    record {
      taken = Consumes-trans a.left b.left c.left (ended lines) rest (subst (Consumes a.left b.left) none h.taken) k;
      each = h.each;
    }

-- a line more
pub read_more : (a b c : Source) (lines : List (List ℕ)) (line : List ℕ) → HasRead a b lines [] → Consumes b.left c.left (line ++ lf ∷ []) → Lacks lf line → HasRead a c (lines ++ line ∷ []) []
read_more a b c lines line h k is =
    let r = read_rest a b c lines (line ++ lf ∷ []) h k in
    let same : ended lines ++ (line ++ lf ∷ []) ≡ ended (lines ++ line ∷ []) ++ [] = sym (append-nil (ended (lines ++ line ∷ [])) ∙ one_more (λ (l : List ℕ). l ++ lf ∷ []) lines line) in
    record { taken = subst (Consumes a.left c.left) same r.taken; each = all_more lines line h.each is }
