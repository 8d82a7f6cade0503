use Rattle.std.proofs.Common.{◌≡◌, List, ℕ, Option, Some, None, subst}
use Rattle.std.specs.Prelude.{IfOk}
use Rattle.ss_block.specs.Parsed.{IsReadAs}
use Rattle.ss_block.proofs.Parses.{signed_none, signed_read, value_read}
use Rattle.ss_block.proofs.signed.signed_bytes.Goals as goal

pub returns-in_default-clause-value : goal.returns-in_default-clause-value
returns-in_default-clause-value c =
    let read : IsReadAs c.args.bytes.now c.in_ok-reading.reading None = rw c.in_default.is at c.in_ok-reading.ensures in
    signed_none c.args.bytes.now read.parsed

pub signed_with-requires-clause-reading : goal.signed_with-requires-clause-reading
signed_with-requires-clause-reading c =
    let read : IsReadAs c.args.bytes.now c.in_ok-reading.reading (Some c.in-Some.message) = rw c.in-Some.is at c.in_ok-reading.ensures in
    value_read c.args.bytes.now c.in_ok-reading.reading c.in-Some.message read

pub returns-clause-value : goal.returns-clause-value
returns-clause-value c =
    let read : IsReadAs c.args.bytes.now c.in_ok-reading.reading (Some c.in-Some.message) = rw c.in-Some.is at c.in_ok-reading.ensures in
    let told = signed_read c.args.bytes.now c.in_ok-reading.reading c.in-Some.message read in
    subst (λ (x : Option (List ℕ)). IfOk c.signed_with.result (λ o. o ≡ x)) told c.signed_with.ensures.value
