-- What a verifier was given.
use Rattle.std.specs.Borrow.{Bor}
use Rattle.ss_review.specs.declared.sessions.verifier.Verifier.{Verifier}

module _ {S T C : Type 0} where
  -- the scheme that it answers for
  abbrev pub scheme_of : Verifier S T C → Bor S
  scheme_of v = v.scheme

  -- what it asks whether a payload is trusted
  abbrev pub trust_of : Verifier S T C → T
  trust_of v = v.trust

  -- what it asks whether octets have a signature
  abbrev pub check_of : Verifier S T C → C
  check_of v = v.check
