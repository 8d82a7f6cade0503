use Rattle.std.proofs.Common.{arith}
use Rattle.ss_payload.proofs.Payloads.{found_in, again_in}
use Rattle.ss_payload.proofs.payload.Payload.parse.Goals as goal

pub returns-clause-found : goal.returns-clause-found
returns-clause-found c =
    found_in c.args.bytes.now c.payload_of.result (λ i. omega (arith, c.type_inv.bytes i)) c.payload_of.ensures.value c.payload_of.ensures.in_range

pub returns-clause-only : goal.returns-clause-only
returns-clause-only c = λ p valid spelled. again_in c.args.bytes.now c.payload_of.result p c.payload_of.ensures.value valid spelled
