use Rattle.std.proofs.Common.{◌≡◌, true, false, sym, ap, ◌∙◌, subst}
use Rattle.std.proofs.lemmas.Result.{on_ok_weaker}
use Rattle.ss_origin.specs.Counting.{are_counters}
use Rattle.ss_signing.specs.Accepted.{started}
use Rattle.ss_signing.proofs.Sending.{anew_fits}
use Rattle.ss_signing.proofs.calls.originator_of.Goals as goal

differ : true ≡ false → ⊥
differ e = absurd (cc)

pub returns-in-None-clause-can_start : goal.returns-in-None-clause-can_start
returns-in-None-clause-can_start g c =
    let in_range = subst (λ o. are_counters c.args.config.grouping (started o).counters ≡ true) (sym c.in-None.is) (anew_fits c.args.config.grouping) in
    on_ok_weaker c.new.result (λ fit. (fit, in_range)) c.new.ensures.fit

pub returns-in-None-clause-counters_first : goal.returns-in-None-clause-counters_first
returns-in-None-clause-counters_first g c = λ out_of_range.
    absurd (differ (sym (anew_fits c.args.config.grouping) ∙ ap (λ o. are_counters c.args.config.grouping (started o).counters) (sym c.in-None.is) ∙ out_of_range))
