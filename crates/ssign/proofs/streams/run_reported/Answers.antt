use Rattle.ssign.proofs.streams.run_reported.Goals as goal

pub returns : goal.returns
returns g c = rw c.new-reader.ensures.inner at c.run_buffered-ended.ensures
