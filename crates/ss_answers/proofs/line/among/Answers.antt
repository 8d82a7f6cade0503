use Rattle.ss_answers.proofs.KeptLines.{AreKnown-grows, AreKnown-insert, AreKnown-known_by, Grows-none, KeepsPayload-known_by, found_at}
use Rattle.ss_answers.specs.AnswerLine.{AreKnown, HasField}
use Rattle.ss_answers.proofs.line.among.Goals as goal

pub returns-in-Some-clause-ok : goal.returns-in-Some-clause-ok
returns-in-Some-clause-ok c =
    let has : HasField c.args.octets.now.items c.args.text.now c.in-Some.span.now =
    found_at c.args.octets.now.items c.args.text.now c.args.payloads.now.entries c.in-Some.span.now c.requires.payloads c.in-Some.ensures.value in
    KeepsPayload-known_by _ _ _ _ _ has (Grows-none _ _) c.known_by.ensures.ok

pub returns-in-Ok-insert-clause-payloads : goal.returns-in-Ok-insert-clause-payloads
returns-in-Ok-insert-clause-payloads c =
    let field : HasField c.keep.new.octets.items c.in-Ok.name.items c.in_ok-span.span = rw c.in-Ok.ensures.items c.in_ok-span.ensures.ok.has in
    let known : AreKnown c.keep.new.octets.items c.args.payloads.now.entries = AreKnown-grows _ _ _ _ c.in_ok-span.ensures.ok.grows c.requires.payloads in
    AreKnown-known_by _ _ _ (rw c.in-Ok-insert.ensures.entries (AreKnown-insert c.keep.new.octets.items c.in-Ok.name c.in_ok-span.span _ known field))
