-- Which counters have a line: those whose session and numbers are in the ranges of the standards.
use Rattle.std.specs.Prelude.{◌≡◌, ℕ, ◌≤◌, true}
use Rattle.ss_message.specs.declared.draft.Field.{Field}
use Rattle.ss_message.specs.Draft.{drafted_field}
use Rattle.ss_message.specs.Message.{is_field}
use Rattle.ss_block.specs.declared.session.Session.{Session}
use Rattle.ss_block.specs.Block.{IsGroup}
use Rattle.ss_block.specs.Ranges.{last_number, past_last_number}
use Rattle.ss_review.specs.declared.counted.counter.Counter.{Counter}
use Rattle.ss_review.specs.declared.counted.counter.Counts.{Counts}
use Rattle.ss_review.specs.declared.counted.counter.Counts.TheVariants.{Blocks, Messages}

-- a header field: absent, or so many octets of printable US-ASCII that aren't `-` (RFC 5424, section 6)
abbrev pub IsName : (limit : ℕ) → Field → Type 0
IsName limit f = is_field limit (drafted_field f) ≡ true

-- HOSTNAME, APP-NAME and PROCID (RFC 5424, section 6.2), and RSID of at most ten digits (RFC 5848, section 4.2.2)
pub record IsSession (s : Session) : Type 0 where
  pub host : IsName 255 s.host
  pub app : IsName 48 s.app
  pub procid : IsName 128 s.procid
  pub rsid : s.rsid ≤ last_number

-- the GBC or the number of what comes next, which may be the one after the last
abbrev pub IsNext : Counts → ℕ → Type 0
IsNext Blocks next = next ≤ past_last_number
IsNext (Messages g) next = IsGroup g × (1 ≤ next) × (next ≤ past_last_number)

pub record IsCounter (c : Counter) : Type 0 where
  pub session : IsSession c.session
  pub next : IsNext c.counts c.next
