-- Which numbers are announced, by membership.
use Rattle.std.specs.Prelude.{◌≡◌, ◌≢◌, ℕ, ◌+◌, true, List, slice_get, Some, Contains}
use Rattle.ss_block.specs.declared.hash.Hash.{Hash}
use Rattle.ss_block.specs.Block as block
use Rattle.ss_review.specs.keep.BlockMessage.{BlockMessage, Hashes}
use Rattle.ss_review.specs.sessions.Verified.{Answers, is_verified}
use Rattle.ss_review.specs.announced.Announced.{Key}

-- a verified signature block has the hash at the key's number
pub record Announces (says : Answers) (bs : List BlockMessage) (k : Key) (h : Hash) : Type 0 where
  pub message : BlockMessage
  pub stored : Contains bs message
  pub verified : is_verified says bs message ≡ true
  pub session_is : message.session ≡ k.session
  pub said : block.Signature
  pub says_so : message.said ≡ Hashes said
  pub group_is : said.group ≡ k.group
  pub index : ℕ
  pub number : k.number ≡ said.first + index
  pub hash : slice_get said.hashes index ≡ Some h

abbrev pub IsAnnounced : Answers → List BlockMessage → Key → Type 0
IsAnnounced says bs k = (h : Hash) × Announces says bs k h

-- two different hashes are announced for the key
abbrev pub IsDisputedKey : Answers → List BlockMessage → Key → Type 0
IsDisputedKey says bs k = (h : Hash) × (g : Hash) × Announces says bs k h × Announces says bs k g × (h ≢ g)
