use Rattle.ss_report.proofs.of_strangers.RaisedReaches.{certificate_adds_none, signature_adds}
use Rattle.ss_report.proofs.strangers.reach.add_block.Goals as goal

pub returns-in_ok-raise-in-Signature-2 : goal.returns-in_ok-raise-in-Signature-2
returns-in_ok-raise-in-Signature-2 c = λ refused bs verified has.
    let it = c.in-Signature in
    let one = rw c.from-in-Signature-2.ensures at c.in_ok-raise-in-Signature.ensures in
    let two = rw (c.from.ensures, c.from-in-Signature.ensures) at c.in_ok-raise-in-Signature-2.ensures in
    signature_adds refused bs c.args.block.now c.args.reaches.now has c.raise.new.reaches c.raise-in-Signature.new.reaches it.alg it.group it.gbc it.first it.count it.is verified one two

pub returns-in-Certificate : goal.returns-in-Certificate
returns-in-Certificate c = λ refused bs verified has.
    let it = c.in-Certificate in
    certificate_adds_none refused bs c.args.block.now c.args.reaches.now has it.alg it.group it.total it.index it.length it.is
