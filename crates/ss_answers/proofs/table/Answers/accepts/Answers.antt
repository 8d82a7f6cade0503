use Rattle.std.proofs.Common.{◌∙◌}
use Rattle.ss_answers.proofs.OrderedLines.{valid_from_find}
use Rattle.ss_answers.proofs.table.Answers.accepts.Goals as goal

pub returns : goal.returns
returns c =
    let found = rw (c.yes.ensures, c.deref.ensures.value, c.deref-2.ensures.value) at c.find.ensures in
    rw (← c.self.view_is)
    (c.is_some.ensures ∙ valid_from_find c.self.inside.octets.items c.self.inside.places.items c.args.payload.now c.args.bytes.now c.args.signature.now c.find.result found)
