use Rattle.std.proofs.Common.{Some, None, ◌∙◌}
use Rattle.ss_block.specs.Parsed.{IsReadAs}
use Rattle.ss_block.proofs.Parses.{session_none, session_read}
use Rattle.ss_block.proofs.session.classify_with_session.Goals as goal

pub returns-in_default-clause-session : goal.returns-in_default-clause-session
returns-in_default-clause-session c =
    let read : IsReadAs c.args.bytes.now c.in_ok-reading.reading None = rw c.in_default.is at c.in_ok-reading.ensures in
    session_none c.args.bytes.now read.parsed

pub returns-clause-session : goal.returns-clause-session
returns-clause-session c =
    let read : IsReadAs c.args.bytes.now c.in_ok-reading.reading (Some c.in-Some.message) = rw c.in-Some.is at c.in_ok-reading.ensures in
    c.in_ok-session.ensures ∙ session_read c.args.bytes.now c.in_ok-reading.reading c.in-Some.message read
