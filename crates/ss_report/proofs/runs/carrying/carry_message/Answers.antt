use Rattle.std.proofs.Common.{◌++◌, [], sym, ap, subst, ◌∙◌}
use Rattle.std.specs.List.{cons_option}
use Rattle.std.proofs.lemmas.List.{append-nil}
use Rattle.ss_review.proofs.of_kept_messages.NotedBlocks.{none_held}
use Rattle.ss_report.specs.runs.CarriedSoFar.{KnowsExtents, carried_at}
use Rattle.ss_report.proofs.of_carrying.CarriedBlocks.{read_held}
use Rattle.ss_report.proofs.runs.carrying.carry_message.Goals as goal

pub returns-then-not-may_hold_block-clause-carried : goal.returns-then-not-may_hold_block-clause-carried
returns-then-not-may_hold_block-clause-carried c = λ before knows.
    let none = none_held c.args.place c.args.text.now (c.may_hold_block.ensures.no_block c.if-not-may_hold_block.true) in
    let places = c.args.carried.now.places.items in
    sym (ap (λ o. places ++ carried_at c.args.report.now before o) none ∙ append-nil places)

pub returns-then-not-may_hold_block-clause-known : goal.returns-then-not-may_hold_block-clause-known
returns-then-not-may_hold_block-clause-known c = λ before knows.
    let none = none_held c.args.place c.args.text.now (c.may_hold_block.ensures.no_block c.if-not-may_hold_block.true) in
    subst (λ bs. KnowsExtents c.args.report.now bs c.args.carried.now.known) (sym (ap (λ o. before ++ cons_option o []) none ∙ append-nil before)) knows

pub returns-clause-carried : goal.returns-clause-carried
returns-clause-carried c = λ before knows.
    let read = c.in_ok-read.ensures in
    let held = read_held c.args.place c.args.text.now c.in_ok-read.read read.reading read.session read.signed in
    rw held at (c.carry_read.ensures.carried before knows)

pub returns-clause-known : goal.returns-clause-known
returns-clause-known c = λ before knows.
    let read = c.in_ok-read.ensures in
    let held = read_held c.args.place c.args.text.now c.in_ok-read.read read.reading read.session read.signed in
    rw held at (c.carry_read.ensures.known before knows)
