-- Where the report on a log has each of its places.
use Rattle.std.specs.Prelude.{◌≡◌, ℕ, true, List, map, Contains}
use Rattle.ss_review.specs.keep.BlockMessage.{BlockMessage}
use Rattle.ss_review.specs.declared.report.report.Report.{Report}
use Rattle.ss_review.specs.sessions.Verified.{Answers, is_verified}
use Rattle.ss_review.specs.announced.Announced.{Key}
use Rattle.ss_review.specs.report.Meaning.{IsListed}

-- what became of the message at a place
pub data Account : Type 0 where
  Listed : Account
  Unlisted : Account
  Verified : Account
  Refused : Account
  Spoilt : Account

abbrev pub IsVerifiedAt : Answers → List BlockMessage → ℕ → Type 0
IsVerifiedAt says bs place = (b : BlockMessage) × Contains bs b × (b.place ≡ place) × (is_verified says bs b ≡ true)

-- A message is listed under some number, reported as unlisted, a verified block, reported as refused, or reported as
-- spoilt. The blocks are those of the log.
abbrev pub HasAccount : Answers → List BlockMessage → Report → ℕ → Account → Type 0
HasAccount says bs r place Listed = (k : Key) × IsListed r k place
HasAccount says bs r place Unlisted = Contains r.unlisted place
HasAccount says bs r place Verified = IsVerifiedAt says bs place
HasAccount says bs r place Refused = Contains r.refused place
HasAccount says bs r place Spoilt = Contains (map (λ s. s.place) r.spoilt) place
