-- Where who sent a block stands in its signed octets, in less room.
use Rattle.std.specs.Prelude.{◌<◌, ◌^◌}
use Rattle.ss_message.specs.declared.span.Span.{Span}
use Rattle.ss_block.specs.declared.session_places.SessionPlaces.{SessionPlaces}
use Rattle.ss_review.specs.declared.keep.kept_sender.KeptSender.{KeptSender}
use Rattle.ss_review.specs.declared.keep.kept_sender.ShortSpan.{ShortSpan}

-- the span
abbrev pub span_at : ShortSpan → Span
span_at s = record { start = s.start; end = s.end }

-- the places
abbrev pub places_at : KeptSender → SessionPlaces
places_at k = record { host = span_at k.host; app = span_at k.app; procid = span_at k.procid; rsid = k.rsid }

-- the span fits in the room
abbrev pub IsShort : Span → Type 0
IsShort s = (s.start < 2 ^ 32) × (s.end < 2 ^ 32)

-- all three do
abbrev pub AreShort : SessionPlaces → Type 0
AreShort p = IsShort p.host × IsShort p.app × IsShort p.procid
