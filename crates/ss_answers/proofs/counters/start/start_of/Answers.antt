use Rattle.std.proofs.Common.{rules, ◌≡◌, true, Err, sym, ap, subst}
use Rattle.std.specs.Prelude.{Result}
use Rattle.ss_origin.specs.declared.counters.Counters.{Counters}
use Rattle.ss_origin.specs.Counting.{are_counters}
use Rattle.ss_answers.specs.Start.{start_of}
use Rattle.ss_answers.specs.declared.counters.start_fault.StartFault.{StartFault}
use Rattle.ss_answers.specs.declared.counters.start_fault.StartFault.TheVariants.{OtherGroup}
use Rattle.ss_answers.proofs.Starts.{none_is_first, first_is_one, start_fits}
use Rattle.ss_answers.proofs.counters.start.start_of.Goals as goal

pub returns-in-Some-clause-other_group : goal.returns-in-Some-clause-other_group
returns-in-Some-clause-other_group c =
    let refused : _ → Result Counters StartFault = λ line. Err (OtherGroup line) in
    λ line has first. ap refused (first_is_one c.args.session.now c.args.grouping.now c.args.counters.now c.in-Some.counter line c.in-Some.ensures first)

pub returns-clause-other_group : goal.returns-clause-other_group
returns-clause-other_group c = λ line has first. absurd (none_is_first c.args.session.now c.args.grouping.now c.args.counters.now line c.in_default.ensures first)

pub returns-clause-fit : goal.returns-clause-fit
returns-clause-fit c =
    let s = c.args.session.now in
    let grouping = c.args.grouping.now in
    let cs = c.args.counters.now in
    let gbc : c.greatest_gbc.result ≡ (start_of s grouping cs).gbc = search rules in
    let groups : c.from_vec.result ≡ (start_of s grouping cs).groups = search rules in
    λ all. subst (λ (k : Counters). are_counters grouping k ≡ true) (λ j. record { gbc = sym gbc j; groups = sym groups j })
    (start_fits s grouping cs all c.in_default.ensures)
