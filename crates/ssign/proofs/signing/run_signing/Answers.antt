use Rattle.ssign.proofs.signing.run_signing.Goals as goal

pub returns-clause-stopped : goal.returns-clause-stopped
returns-clause-stopped g c = rw (c.in-Sign.is, ← c.new-sealer.ensures.answers, ← c.new-sealer.ensures.payload) c.run_sign_from.ensures.stopped
