use Rattle.std.proofs.Common.{Some, None, ◌∙◌}
use Rattle.ss_block.specs.Parsed.{IsReadAs}
use Rattle.ss_block.proofs.Parses.{session_none, session_read, signed_none, signed_read, value_read}
use Rattle.ss_block.proofs.full_reading.read_fully.Goals as goal

pub returns-in_default-clause-session : goal.returns-in_default-clause-session
returns-in_default-clause-session c =
    let read : IsReadAs c.args.bytes.now c.in_ok-reading.reading None = rw c.in_default.is at c.in_ok-reading.ensures in
    session_none c.args.bytes.now read.parsed

pub returns-in_default-clause-signed : goal.returns-in_default-clause-signed
returns-in_default-clause-signed c =
    let read : IsReadAs c.args.bytes.now c.in_ok-reading.reading None = rw c.in_default.is at c.in_ok-reading.ensures in
    signed_none c.args.bytes.now read.parsed

pub signed_with-requires-clause-reading : goal.signed_with-requires-clause-reading
signed_with-requires-clause-reading c =
    let read : IsReadAs c.args.bytes.now c.in_ok-reading.reading (Some c.in-Some.message) = rw c.in-Some.is at c.in_ok-reading.ensures in
    value_read c.args.bytes.now c.in_ok-reading.reading c.in-Some.message read

pub returns-clause-session : goal.returns-clause-session
returns-clause-session c =
    let read : IsReadAs c.args.bytes.now c.in_ok-reading.reading (Some c.in-Some.message) = rw c.in-Some.is at c.in_ok-reading.ensures in
    c.in_ok-session.ensures ∙ session_read c.args.bytes.now c.in_ok-reading.reading c.in-Some.message read

pub returns-clause-signed : goal.returns-clause-signed
returns-clause-signed c =
    let read : IsReadAs c.args.bytes.now c.in_ok-reading.reading (Some c.in-Some.message) = rw c.in-Some.is at c.in_ok-reading.ensures in
    c.in_ok-signed.ensures.value ∙ signed_read c.args.bytes.now c.in_ok-reading.reading c.in-Some.message read
