use Rattle.std.proofs.Common.{◌≤◌, ◌+◌, ℕ, List, length, Option, Some, None, sym, subst, ◌∙◌, arith}
use Rattle.std.specs.Prelude.{IfSome}
use Rattle.base64.specs.GeneralPurpose.{IsBytes}
use Rattle.ss_message.specs.Layout.{value_of}
use Rattle.ss_block.specs.declared.session.Session.{Session}
use Rattle.ss_block.specs.Parsed.{IsReadAs}
use Rattle.ss_block.specs.PlacedReading.{signature_in}
use Rattle.ss_block.specs.Session.{session}
use Rattle.ss_block.specs.SessionPlaces.{HasSender}
use Rattle.ss_block.specs.Signed.{signed_if_block}
use Rattle.ss_block.proofs.Parses.{session_none, session_read, signed_none, signed_read, value_read}
use Rattle.ss_block.proofs.ContentPlaces.{no_content, signed_small}
use Rattle.ss_block.proofs.SenderPlaces.{stands_before}
use Rattle.ss_block.proofs.placed_reading.read_placed.Goals as goal

pub returns-in_default-clause-signed : goal.returns-in_default-clause-signed
returns-in_default-clause-signed c =
    let read : IsReadAs c.args.bytes.now c.in_ok-reading.reading None = rw c.in_default.is at c.in_ok-reading.ensures in
    signed_none c.args.bytes.now read.parsed

pub returns-in_default-clause-content : goal.returns-in_default-clause-content
returns-in_default-clause-content c = no_content c.args.bytes.now c.in_ok-reading.reading (rw c.in_default.is at c.in_ok-reading.ensures)

pub returns-in_default-clause-sender : goal.returns-in_default-clause-sender
returns-in_default-clause-sender c =
    let read : IsReadAs c.args.bytes.now c.in_ok-reading.reading None = rw c.in_default.is at c.in_ok-reading.ensures in
    sym (session_none c.args.bytes.now read.parsed)

pub sender_with-sender-requires-clause-reading : goal.sender_with-sender-requires-clause-reading
sender_with-sender-requires-clause-reading c =
    let read : IsReadAs c.args.bytes.now c.in_ok-reading.reading (Some c.in-Some.message) = rw c.in-Some.is at c.in_ok-reading.ensures in
    value_read c.args.bytes.now c.in_ok-reading.reading c.in-Some.message read

pub signed_with-requires-clause-reading : goal.signed_with-requires-clause-reading
signed_with-requires-clause-reading c =
    let read : IsReadAs c.args.bytes.now c.in_ok-reading.reading (Some c.in-Some.message) = rw c.in-Some.is at c.in_ok-reading.ensures in
    value_read c.args.bytes.now c.in_ok-reading.reading c.in-Some.message read

pub content_with-content-requires-clause-reading : goal.content_with-content-requires-clause-reading
content_with-content-requires-clause-reading c =
    let read : IsReadAs c.args.bytes.now c.in_ok-reading.reading (Some c.in-Some.message) = rw c.in-Some.is at c.in_ok-reading.ensures in
    value_read c.args.bytes.now c.in_ok-reading.reading c.in-Some.message read

pub returns-clause-sender : goal.returns-clause-sender
returns-clause-sender c =
    let t = c.args.bytes.now in
    let m = c.in-Some.message in
    let r = c.in_ok-reading.reading in
    let read : IsReadAs t r (Some m) = rw c.in-Some.is at c.in_ok-reading.ensures in
    let told = subst (λ (s : Option Session). HasSender (signed_if_block r (value_of m)) c.sender_with-sender.result s) (session_read t r m read) c.sender_with-sender.ensures.sender in
    subst (λ (o : Option (List ℕ)). HasSender o c.sender_with-sender.result (session t)) (sym c.in_ok-signed.ensures.value) told

pub returns-clause-signed : goal.returns-clause-signed
returns-clause-signed c =
    let read : IsReadAs c.args.bytes.now c.in_ok-reading.reading (Some c.in-Some.message) = rw c.in-Some.is at c.in_ok-reading.ensures in
    c.in_ok-signed.ensures.value ∙ signed_read c.args.bytes.now c.in_ok-reading.reading c.in-Some.message read

pub returns-clause-before : goal.returns-clause-before
returns-clause-before c = stands_before c.sender_with-sender.result c.content_with-content.result c.in-Some.message.msgid c.sender_with-sender.ensures.before c.content_with-content.ensures.behind

pub returns-clause-small : goal.returns-clause-small
returns-clause-small c =
    let m = c.in-Some.message in
    let r = c.in_ok-reading.reading in
    let read : IsReadAs c.args.bytes.now r (Some m) = rw c.in-Some.is at c.in_ok-reading.ensures in
    let bytes : IsBytes m.source.now = subst IsBytes (sym read.parsed.0) (λ i. omega (arith, c.type_inv.bytes i)) in
    let small = signed_small m r bytes read.parsed.1 (value_read c.args.bytes.now r m read) in
    let told = subst (λ (o : Option (List ℕ)). IfSome o (λ octets. length octets + length (signature_in r) ≤ length m.source.now)) (sym c.in_ok-signed.ensures.value) small in
    subst (λ (t : List ℕ). IfSome c.in_ok-signed.signed (λ octets. length octets + length (signature_in r) ≤ length t)) read.parsed.0 told
