-- What is counted of entries, with one more entry.
use Rattle.std.proofs.Common.{◌≡◌, ◌∙◌, ℕ, ◌+◌, ◌<◌, Option, List, [], ◌∷◌, ◌++◌, length, take, get_or, fold, filter_map, ap, sym}
use Rattle.std.proofs.lemmas.List.{take_more}
use Rattle.std.proofs.lemmas.List.Elements.{filter_map-append}
use Rattle.std.proofs.lemmas.Grind.{fold-append}
use Rattle.ss_review.specs.declared.report.entry.Entry.{Entry}

-- what is counted of what is left of the entries so far, and then that with what is left of the next one
pub one_left : {T : Type 0} (with_entry : T → Entry → T) (none : T) (IsWithin : ℕ → T → Type 0) (h : Entry → Option Entry) (es : List Entry) (i : ℕ) (d : Entry) (t u : T) → i < length es → (t ≡ fold with_entry none (filter_map h (take i es))) × IsWithin i t
    → u ≡ fold with_entry t (filter_map h (get_or es i d ∷ [])) → ((count : ℕ) → IsWithin count t → IsWithin (count + 1) u) → (u ≡ fold with_entry none (filter_map h (take (i + 1) es))) × IsWithin (i + 1) u
one_left with_entry none IsWithin h es i d t u within so_far told more =
    let before = filter_map h (take i es) in
    let next = filter_map h (get_or es i d ∷ []) in
    let parts : filter_map h (take (i + 1) es) ≡ before ++ next = ap (filter_map h) (take_more es i d within) ∙ filter_map-append h (take i es) (get_or es i d ∷ []) in (
      told ∙ (ap (λ s. fold with_entry s next) so_far.0 ∙ sym (ap (fold with_entry none) parts ∙ fold-append with_entry none before next)),
      more i so_far.1,
    )
