use Rattle.std.proofs.Common.{◌∙◌, arith, sym}
use Rattle.ss_payload.proofs.Runs.{said_in_run, said_in_none}
use Rattle.ss_payload.proofs.joiner.runs.Runs.covers_part.Goals as goal

pub returns-in-Some-clause-yes : goal.returns-in-Some-clause-yes
returns-in-Some-clause-yes c = λ t j lt e.
    c.are_said.ensures.yes t j lt (sym (said_in_run c.args.self.now c.args.index j (omega (arith, lt)) c.in-Some.run'.now (sym c.in-Some.ensures.value)) ∙ e)

pub returns-in-Some-clause-no : goal.returns-in-Some-clause-no
returns-in-Some-clause-no c = λ f.
    let at = c.are_said.ensures.no f in
    (at.0, at.1, said_in_run c.args.self.now c.args.index at.0 (omega (arith, at.1)) c.in-Some.run'.now (sym c.in-Some.ensures.value) ∙ at.2)

pub returns-in-None-clause-no : goal.returns-in-None-clause-no
returns-in-None-clause-no c = λ f. (0, omega arith, said_in_none c.args.self.now c.args.index 0 (omega arith) (sym c.in-None.ensures.value))
