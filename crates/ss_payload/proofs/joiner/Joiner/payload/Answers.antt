use Rattle.ss_payload.proofs.Standing.{payload, whole, not_whole, all_one}
use Rattle.ss_payload.proofs.joiner.Joiner.payload.Goals as goal

pub returns-in_ok-text-in-Some-clause-payload : goal.returns-in_ok-text-in-Some-clause-payload
returns-in_ok-text-in-Some-clause-payload c = λ s h.
    let all = c.in-Some.ensures.some in
    (whole c.args.self.now s h c.in-Some.total all, payload c.args.self.now s h c.in-Some.total all c.in_ok-text-in-Some.field-0 (c.in_ok-text-in-Some.ensures (all_one c.args.self.now s h c.in-Some.total all)))

pub returns-in-None-clause-payload : goal.returns-in-None-clause-payload
returns-in-None-clause-payload c = λ s h. not_whole c.args.self.now s h c.in-None.ensures.none

pub returns-in_ok-text-in-Some-clause-state_first : goal.returns-in_ok-text-in-Some-clause-state_first
returns-in_ok-text-in-Some-clause-state_first c = λ s h other. absurd (other (whole c.args.self.now s h c.in-Some.total c.in-Some.ensures.some))

pub returns-in_err-text-in-Some-clause-state_first : goal.returns-in_err-text-in-Some-clause-state_first
returns-in_err-text-in-Some-clause-state_first c = λ s h other. absurd (other (whole c.args.self.now s h c.in-Some.total c.in-Some.ensures.some))
