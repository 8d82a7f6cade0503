use Rattle.std.proofs.Common.{refl, subst}
use Rattle.ss_payload.specs.Payload.{IsPayload, payload_text}
use Rattle.ss_payload.specs.Payload.Spells.{exactly}
use Rattle.ss_payload.proofs.Payloads.{payload_again, same_payload}
use Rattle.ss_payload.proofs.payload.Payload.write.Goals as goal

pub returns-clause-again : goal.returns-clause-again
returns-clause-again c =
    let valid : IsPayload c.args.self.now = subst IsPayload c.self.view_is c.self.invariant in
    payload_again (payload_text c.args.self.now) c.args.self.now valid (exactly refl)

pub returns-clause-alone : goal.returns-clause-alone
returns-clause-alone c = λ p in_range same.
    let valid : IsPayload c.args.self.now = subst IsPayload c.self.view_is c.self.invariant in
    same_payload p c.args.self.now in_range valid same
