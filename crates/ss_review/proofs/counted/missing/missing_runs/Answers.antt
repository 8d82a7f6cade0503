use Rattle.std.proofs.Common.{◌≡◌, ◌+◌, ◌++◌, drop, get_or, cond, sym, ap, ◌∙◌}
use Rattle.std.proofs.lemmas.List.{drop_more, drop_all}
use Rattle.std.proofs.lemmas.Bool.{le-ltb}
use Rattle.ss_review.specs.counted.Counted.{run_between}
use Rattle.ss_review.proofs.of_counters.MissingRuns.{missing_after, missing_is}
use Rattle.ss_review.proofs.counted.missing.missing_runs.Goals as goal
use Rattle.ss_review.proofs.counted.missing.missing_runs.Goals.{else-loop-gbc-test, then-loop-gbc-test+then-gbc-next}

pub returns : goal.returns
returns c = λ up.
    let gs = c.args.gbcs.now in
    let next = c.args.next in
    let i = c.loop-gbc.gbc-index in
    let first = c.loop-gbc.first in
    let runs = c.loop-gbc.runs.items in
    let last : run_between first next ≡ missing_after next first (drop i gs)
    = elim c.loop-gbc-test.branch [
      | else-loop-gbc-test w ↦ ap (missing_after next first) (sym (drop_all i gs w.loop-gbc-test.false))
      | then-loop-gbc-test+then-gbc-next w ↦
          ap (λ b. cond b (run_between first (get_or gs i 0) ++ missing_after next (get_or gs i 0 + 1) (drop (i + 1) gs)) (run_between first next)) (sym (le-ltb (get_or gs i 0) next w.if-gbc-next.true))
          ∙ ap (missing_after next first) (sym (drop_more gs i 0 w.loop-gbc-test.true))
    ] in
    c.from_vec.ensures ∙ c.in_ok-add_run-2.ensures ∙ ap (λ rest. runs ++ rest) last ∙ c.loop-gbc.invariant ∙ missing_is next gs up
