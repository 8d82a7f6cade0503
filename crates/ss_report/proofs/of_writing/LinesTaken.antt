-- Lines that are visited one after the other.
use Rattle.std.proofs.Common.{◌≡◌, ℕ, ◌+◌, ◌<◌, Option, List, [], ◌∷◌, ◌++◌, length, get_or, take, map, flat_map, filter_map, refl, sym, ap, ◌∙◌, subst, append-nil}
use Rattle.std.proofs.lemmas.Grind.{flat_map-append}
use Rattle.std.proofs.lemmas.List.{map-append, take_more}
use Rattle.std.proofs.lemmas.List.Elements.{filter_map-append}
use Rattle.ss_report.specs.lines.Lines.{ReportLine}
use Rattle.ss_report.specs.lines.Taken.{TakesAll}

-- lines, and others after them
pub lines_then : {S : Type 0} (takes : S → S → ReportLine → Type 0) (a b c : S) (some others : List ReportLine)
    → TakesAll takes a b some → TakesAll takes b c others → TakesAll takes a c (some ++ others)
lines_then takes a b c [] others first rest = subst (λ s. TakesAll takes s c others) first rest
lines_then takes a b c (line ∷ some) others first rest = (first.0, first.1, lines_then takes first.0 b c some others first.2 rest)

-- a line, and the others after it
pub line_then : {S : Type 0} (takes : S → S → ReportLine → Type 0) (a b c : S) (line : ReportLine) (others : List ReportLine)
    → takes a b line → TakesAll takes b c others → TakesAll takes a c (line ∷ others)
line_then takes a b c line others first rest = (b, first, rest)

-- one line alone
pub one_line : {S : Type 0} (takes : S → S → ReportLine → Type 0) (a b : S) (line : ReportLine) → takes a b line → TakesAll takes a b (line ∷ [])
one_line takes a b line taken = (b, taken, refl)

pub taken_same : {S : Type 0} (takes : S → S → ReportLine → Type 0) (a b : S) (xs ys : List ReportLine) → TakesAll takes a b xs → xs ≡ ys → TakesAll takes a b ys
taken_same takes a b xs ys taken e = subst (TakesAll takes a b) e taken

-- the lines of the items so far, and then those of the next one
taken_next : {S X : Type 0} (takes : S → S → ReportLine → Type 0) (f : List X → List ReportLine) → ((xs ys : List X) → f (xs ++ ys) ≡ f xs ++ f ys) → (xs : List X) (i : ℕ) (d : X) (a b c : S) (told : List ReportLine)
    → i < length xs → TakesAll takes a b (f (take i xs)) → TakesAll takes b c told → told ≡ f (get_or xs i d ∷ []) → TakesAll takes a c (f (take (i + 1) xs))
taken_next takes f splits xs i d a b c told within so_far next is =
    let x = get_or xs i d in
    let more : f (take i xs) ++ told ≡ f (take (i + 1) xs) =
    ap (λ t. f (take i xs) ++ t) is ∙ sym (ap f (take_more xs i d within) ∙ splits (take i xs) (x ∷ [])) in
    taken_same takes a c _ _ (lines_then takes a b c _ _ so_far next) more

pub lines_more : {S X : Type 0} (takes : S → S → ReportLine → Type 0) (of : X → List ReportLine) (xs : List X) (i : ℕ) (d : X) (a b c : S) (told : List ReportLine) → i < length xs
    → TakesAll takes a b (flat_map of (take i xs)) → TakesAll takes b c told → told ≡ of (get_or xs i d) → TakesAll takes a c (flat_map of (take (i + 1) xs))
lines_more takes of xs i d a b c told within so_far next is =
    taken_next takes (flat_map of) (flat_map-append of) xs i d a b c told within so_far next (is ∙ sym (append-nil (of (get_or xs i d))))

pub line_more : {S X : Type 0} (takes : S → S → ReportLine → Type 0) (of : X → ReportLine) (xs : List X) (i : ℕ) (d : X) (a b c : S) (told : ReportLine) → i < length xs
    → TakesAll takes a b (map of (take i xs)) → takes b c told → told ≡ of (get_or xs i d) → TakesAll takes a c (map of (take (i + 1) xs))
line_more takes of xs i d a b c told within so_far next is =
    taken_next takes (map of) (map-append of) xs i d a b c (told ∷ []) within so_far (one_line takes b c told next) (ap (λ l. l ∷ []) is)

-- the lines of what is left of the items so far, and then that of what is left of the next one
pub left_more : {S X Y : Type 0} (takes : S → S → ReportLine → Type 0) (of : Y → ReportLine) (h : X → Option Y) (xs : List X) (i : ℕ) (d : X) (a b c : S) → i < length xs
    → TakesAll takes a b (map of (filter_map h (take i xs))) → TakesAll takes b c (map of (filter_map h (get_or xs i d ∷ []))) → TakesAll takes a c (map of (filter_map h (take (i + 1) xs)))
left_more takes of h xs i d a b c within so_far next =
    taken_next takes (λ ys. map of (filter_map h ys)) (λ ys zs. ap (map of) (filter_map-append h ys zs) ∙ map-append of (filter_map h ys) (filter_map h zs)) xs i d a b c _ within so_far next refl
