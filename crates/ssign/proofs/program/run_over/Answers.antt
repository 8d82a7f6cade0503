use Rattle.ssign.proofs.program.run_over.Goals as goal

pub returns : goal.returns
returns g c = record {
  ended = c.run_reported-ended.result;
  ends = c.run_reported-ended.ensures;
  outcome = rw (c.form_in.ensures, c.kept.ensures) at c.outcome_of.ensures;
}
