-- What a sealer was made of.
use Rattle.std.specs.Borrow.{Bor}
use Rattle.ss_payload.specs.Payload.{PayloadValue}
use Rattle.ss_origin.specs.declared.sealer.Sealer.{Sealer}

-- the scheme that it signs for
abbrev pub scheme_of : {S F : Type 0} → Sealer S F → Bor S
scheme_of s = s.scheme

-- the payload, which states its key
abbrev pub key_of : {S F : Type 0} → Sealer S F → PayloadValue
key_of s = s.payload

-- the closure that signs
abbrev pub closure_of : {S F : Type 0} → Sealer S F → F
closure_of s = s.seal
