use Rattle.std.proofs.Common.{ap, ◌∙◌}
use Rattle.ss_block.specs.declared.block.BlockHeader.{BlockHeader}
use Rattle.ss_block.proofs.SenderPlaces.{sender_before, told_of_signature, told_of_certificate}
use Rattle.ss_block.proofs.session_places.sender_with.Goals.{in-Signature, in-Certificate}
use Rattle.ss_block.proofs.session_places.sender_with.Goals as goal

pub returns-clause-sender : goal.returns-clause-sender
returns-clause-sender c = elim c.match-reading.branch [
  | in-Signature w ↦ told_of_signature c.args.message.now c.args.reading.now _ c.match-reading.rsid c.requires.read c.requires.reading w.in-Signature.is (w.rsid-is ∙ ap (λ (h : BlockHeader). h.rsid) w.header.ensures)
  | in-Certificate w ↦ told_of_certificate c.args.message.now c.args.reading.now _ c.match-reading.rsid c.requires.read c.requires.reading w.in-Certificate.is (w.rsid-is ∙ ap (λ (h : BlockHeader). h.rsid) w.header-in-Certificate.ensures)
]

pub returns-clause-before : goal.returns-clause-before
returns-clause-before c = sender_before c.args.message.now c.match-reading.rsid c.requires.read
