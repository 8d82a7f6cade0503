-- Which indexes of a payload fragments cover, by where each begins and ends.
use Rattle.std.specs.Prelude.{◌≡◌, ℕ, ◌+◌, ◌<◌, ◌≤◌, ◌&&◌, nat_le, nat_lt, Bool, true, false, List, length, map, Option}
use Rattle.std.specs.Prelude.{None, option_map, if◌then◌else◌}
use Rattle.std.specs.List.{list_any}
use Rattle.ss_block.specs.Block as block
use Rattle.ss_review.specs.declared.sessions.span.Span.{Span}
use Rattle.ss_review.specs.keep.BlockMessage.{BlockMessage}
use Rattle.ss_review.specs.sessions.Payloads.{certificate_of}
use Rattle.ss_review.specs.sessions.Verified.{Answers, is_valid}

-- from the first index up to the first after the fragment
abbrev pub span_of : block.Certificate → Span
span_of c = record { start = c.index; end = c.index + length c.fragment }

abbrev pub spans_of : List block.Certificate → List Span
spans_of cs = map span_of cs

abbrev pub is_within : ℕ → Span → Bool
is_within i span = nat_le span.start i && nat_lt i span.end

abbrev pub covers : List Span → ℕ → Bool
covers spans i = list_any (is_within i) spans

-- the first index, from 1 on, that none of them covers
pub record IsFirstUncovered (spans : List Span) (i : ℕ) : Type 0 where
  pub some_index : 1 ≤ i
  pub before : (k : ℕ) → 1 ≤ k → k < i → covers spans k ≡ true
  pub at : covers spans i ≡ false

-- the span of a certificate block that is valid under a payload
abbrev pub accepted_span : Answers → List ℕ → BlockMessage → Option Span
accepted_span says payload m = if is_valid says payload m then option_map span_of (certificate_of m.said) else None
