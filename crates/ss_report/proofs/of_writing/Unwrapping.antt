-- Messages that are taken out of their wraps, one after the other.
use Rattle.std.proofs.Common.{◌≡◌, ℕ, suc, ◌+◌, ◌<◌, List, [], ◌∷◌, ◌++◌, length, map, take, drop, set, get_or, sym, ap, ◌∙◌, arith, add-one, drop-cons}
use Rattle.std.proofs.lemmas.List.{map-append, take_more, take_more_set, drop-set-lt}
use Rattle.ss_report.specs.runs.Extraction.{out_of_wrap}

-- one message more that is taken out of its wrap, in place
pub unwrap_more : (xs first : List (List ℕ)) (i : ℕ) (item y : List ℕ)
    → i < length xs
    → i < length first
    → take i xs ≡ map out_of_wrap (take i first)
    → drop i xs ≡ drop i first
    → item ≡ get_or xs i item
    → y ≡ out_of_wrap item
    → (take (i + 1) (set xs i y) ≡ map out_of_wrap (take (i + 1) first)) × (drop (i + 1) (set xs i y) ≡ drop (i + 1) first)
unwrap_more xs first i item y less within done left here off =
    let both : get_or xs i item ∷ drop (suc i) xs ≡ get_or first i item ∷ drop (suc i) first
    = sym (drop-cons xs i item less) ∙ left ∙ drop-cons first i item within in
    let same : get_or xs i item ≡ get_or first i item = ap (λ ys. get_or ys 0 item) both in
    let behind : drop (suc i) xs ≡ drop (suc i) first = ap (drop 1) both in
    let now : y ≡ out_of_wrap (get_or first i item) = off ∙ ap out_of_wrap (here ∙ same) in (
      take_more_set xs i y less
          ∙ ap (λ ys. ys ++ y ∷ []) done
          ∙ ap (λ z. map out_of_wrap (take i first) ++ z ∷ []) now
          ∙ sym (map-append out_of_wrap (take i first) (get_or first i item ∷ []))
          ∙ ap (map out_of_wrap) (sym (take_more first i item within)),
      drop-set-lt (i + 1) xs i y (omega arith) ∙ ap (λ k. drop k xs) (add-one i) ∙ behind ∙ ap (λ k. drop k first) (sym (add-one i)),
    )
