use Rattle.std.proofs.Common.{◌∙◌, ap, sym, subst}
use Rattle.std.proofs.lemmas.List.Elements.{All-from_recursion}
use Rattle.std.specs.List.{All, AllByRecursion}
use Rattle.ss_block.specs.Writing.{head_session}
use Rattle.ss_review.specs.counted.CounterRange.{IsCounter}
use Rattle.ss_answers.specs.Start.{start_of}
use Rattle.ssign.proofs.start.start_in.Goals as goal

pub returns-in-Ok-start_of : goal.returns-in-Ok-start_of
returns-in-Ok-start_of g c =
    let config = c.args.config.now in
    let started = c.in-Ok-start_of.ensures.ok ∙ ap (λ s. start_of s config.grouping c.as_slice.result.now) c.in-Ok.ensures
    ∙ ap (start_of (head_session config.head config.rsid) config.grouping) c.as_slice.ensures in
    let in_range : AllByRecursion IsCounter c.in-Ok-Some.counters = rw c.in-Ok-Some.field-0-is at c.in-Ok-Some.ensures.in_range in
    let fit = c.in-Ok-start_of.ensures.fit (subst (All IsCounter) (sym c.as_slice.ensures) (All-from_recursion IsCounter _ in_range)) in
    (c.in-Ok-Some.counters, rw c.in-Ok-Some.field-0-is at c.in-Ok-Some.ensures.given, started, fit)
