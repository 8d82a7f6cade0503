use Rattle.std.proofs.Common.{◌≡◌, ℕ, ◌==◌, ◌++◌, [], ◌∷◌, Bool, not, cond, filter, take, get_or, sym, ap, ◌∙◌}
use Rattle.std.specs.Result.{is_ok}
use Rattle.std.specs.List.{list_any}
use Rattle.std.proofs.lemmas.List.{append-nil}
use Rattle.std.proofs.lemmas.List.Elements.{filter_more}
use Rattle.ss_review.proofs.report.unlisted.outside.Goals as goal
use Rattle.ss_review.proofs.report.unlisted.outside.Goals.{in-Ok, in-Err+in_ok-push-in-Err}

pub loop-place-preserved : goal.loop-place-preserved
loop-place-preserved c =
    let p : ℕ → Bool = λ place. not (list_any (λ q. q == place) c.args.others.now) in
    let ps = c.args.places.now in
    let i = c.loop-place.place-index in
    let x = get_or ps i 0 in
    let so_far = filter p (take i ps) in
    let more = filter_more p ps i 0 c.loop-place-test.true in
    let kept : p x ≡ not (is_ok c.search.result) = ap not (sym c.search.ensures) in
    elim c.match-search.branch [
      | in-Ok w ↦
          (λ j. (w.outside-is j).items)
          ∙ c.loop-place.invariant
          ∙ sym (more ∙ ap (λ b. so_far ++ cond b (x ∷ []) []) (kept ∙ ap (λ r. not (is_ok r)) w.in-Ok.is) ∙ append-nil so_far)
      | in-Err+in_ok-push-in-Err w ↦
          (λ j. (w.outside-is j).items)
          ∙ w.in_ok-push-in-Err.ensures.items
          ∙ ap (λ ys. ys ++ x ∷ []) c.loop-place.invariant
          ∙ sym (more ∙ ap (λ b. so_far ++ cond b (x ∷ []) []) (kept ∙ ap (λ r. not (is_ok r)) w.in-Err.is))
    ]
