-- Places that a key is assigned, and those that none is.
use Rattle.std.proofs.Common.{◌≡◌, inl, inr, ℕ, ◌==◌, ◌<◌, ◌≤◌, Bool, true, false, not, cond, ◌||◌, List, [], ◌∷◌, length, get_or, map, filter, refl, sym, ap, ◌∙◌, arith}
use Rattle.std.specs.Prelude.{Option, Some, None, Result, Ok, Err, MatchResult}
use Rattle.std.specs.Result.{is_ok}
use Rattle.std.specs.List.{list_any, filter_map}
use Rattle.std.proofs.lemmas.Bool.{eq-eqb, ne_eqb, cases_lt}
use Rattle.std.proofs.lemmas.List.{get_or_default}
use Rattle.std.proofs.lemmas.List.Elements.{filter_agree}
use Rattle.std.proofs.lemmas.List.Folds.{list_any_at, list_any_none}
use Rattle.ss_review.specs.declared.keep.message.NormalMessage.{NormalMessage}
use Rattle.ss_review.specs.announced.Announced.{Row, keys}
use Rattle.ss_review.specs.assign.Assigned.{is_place, assigned, is_taken}
use Rattle.ss_review.specs.report.Report.{unlisted}

-- ---- a place among others

-- what a search found tells whether a place is among places that rise
pub among_is : (xs : List ℕ) (x : ℕ) (r : Result ℕ ℕ)
    → MatchResult r (λ i. (i < length xs) × (get_or xs i 0 ≡ x)) (λ i. (i ≤ length xs) × ((k : ℕ) → k < i → get_or xs k 0 < x) × ((k : ℕ) → i ≤ k → k < length xs → x < get_or xs k 0))
    → is_ok r ≡ list_any (λ p. p == x) xs
among_is xs x (Ok i) found = sym (list_any_at (λ p. p == x) xs i 0 found.0 (eq-eqb (get_or xs i 0) x found.1))
among_is xs x (Err i) apart =
    sym (list_any_none (λ p. p == x) xs (λ k d below. ne_eqb (get_or xs k d) x (λ e.
    (let here : get_or xs k 0 ≡ x = get_or_default xs k 0 d below ∙ e in
    elim (cases_lt k i) [ inl less ↦ absurd (omega (arith, here, apart.1 k less)) | inr least ↦ absurd (omega (arith, here, apart.2 k least below)) ]))))

-- the places that are assigned, without those that aren't
pub any_given : (place : ℕ) (os : List (Option ℕ)) → list_any (λ p. p == place) (filter_map (λ o. o) os) ≡ list_any (is_place place) os
any_given place [] = refl
any_given place (None ∷ os) = any_given place os
any_given place (Some p ∷ os) = ap (λ b. (p == place) || b) (any_given place os)

-- ---- the places that none is assigned

any_map : {X Y : Type 0} (p : Y → Bool) (f : X → Y) (xs : List X) → list_any p (map f xs) ≡ list_any (λ x. p (f x)) xs
any_map p f [] = refl
any_map p f (x ∷ xs) = ap (λ b. p (f x) || b) (any_map p f xs)

map_cond : {X Y : Type 0} (f : X → Y) (b : Bool) (x : X) (xs : List X) → cond b (f x ∷ map f xs) (map f xs) ≡ map f (cond b (x ∷ xs) xs)
map_cond f true x xs = refl
map_cond f false x xs = refl

pub filter_map_is : {X Y : Type 0} (p : Y → Bool) (f : X → Y) (xs : List X) → filter p (map f xs) ≡ map f (filter (λ x. p (f x)) xs)
filter_map_is p f [] = refl
filter_map_is p f (x ∷ xs) = ap (λ ys. cond (p (f x)) (f x ∷ ys) ys) (filter_map_is p f xs) ∙ map_cond f (p (f x)) x (filter (λ y. p (f y)) xs)

pub untaken : (ms : List NormalMessage) (rs : List Row) (taken : List ℕ)
    → ((place : ℕ) → list_any (λ p. p == place) taken ≡ list_any (is_place place) (map (assigned ms rs) (keys rs)))
    → filter (λ place. not (list_any (λ p. p == place) taken)) (map (λ (m : NormalMessage). m.place) ms) ≡ unlisted ms rs
unfolding is_taken
untaken ms rs taken has =
    filter_map_is (λ place. not (list_any (λ p. p == place) taken)) (λ (m : NormalMessage). m.place) ms
    ∙ ap (map (λ (m : NormalMessage). m.place))
    (filter_agree (λ (m : NormalMessage). not (list_any (λ p. p == m.place) taken)) (λ (m : NormalMessage). not (is_taken ms rs m.place))
    (λ m. ap not (has m.place ∙ any_map (is_place m.place) (assigned ms rs) (keys rs))) ms)
