-- What was found of blocks so far (RFC 5848, section 7).
use Rattle.std.specs.Prelude.{◌≡◌, Bool, Some}
use Rattle.std.specs.BTreeMap.{get}
use Rattle.ss_review.specs.keep.BlockMessage.{BlockMessage}
use Rattle.ss_review.specs.declared.sessions.claim.Claim.{Claim}
use Rattle.ss_review.specs.declared.sessions.found_blocks.FoundBlocks.{FoundBlocks}
use Rattle.ss_review.specs.sessions.Claims.{claim_cmp, IsClaimOf}
use Rattle.ss_review.specs.sessions.Verified.{signature_of}

-- the same of all blocks of a session with one signature of the same octets
abbrev pub TellsEqualsAlike : (BlockMessage → Bool) → Type 0
TellsEqualsAlike f = (b c : BlockMessage) → signature_of b.said ≡ signature_of c.said → b.signed ≡ c.signed
    → b.session ≡ c.session → f b ≡ f c

-- whatever is kept of a block is what holds of it
abbrev pub KeepsWhatHolds : (BlockMessage → Bool) → FoundBlocks → Type 0
KeepsWhatHolds f kept = (k : Claim) (b : BlockMessage) (v : Bool) → IsClaimOf k b → get claim_cmp kept.found k ≡ Some v
    → v ≡ f b

-- this is kept of the block
pub record IsKeptOfBlock (kept : FoundBlocks) (b : BlockMessage) (v : Bool) : Type 0 where
  pub claim : Claim
  pub of : IsClaimOf claim b
  pub found : get claim_cmp kept.found claim ≡ Some v
