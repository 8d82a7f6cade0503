-- A line of an answers file as it is read, and as the program keeps it.
use Rattle.std.specs.Prelude.{◌≡◌, ℕ, ◌≤◌, Bool, ◌&&◌, nat_le, if◌then◌else◌, List, [], ◌∷◌, ◌++◌, length, map}
use Rattle.std.specs.Prelude.{slice_range, Option, Some, None}
use Rattle.std.specs.List.{AllByRecursion}
use Rattle.std.specs.Ordering.{is_eq, is_lt}
use Rattle.std.specs.List.Sorted.{IsSortedBy}
use Rattle.std.specs.declared.vec.Vec.{Vec}
use Rattle.std.specs.declared.alloc.Global.{Global}
use Rattle.ss_answers.specs.declared.field.LineFault.{LineFault}
use Rattle.ss_answers.specs.declared.field.LineFault.TheVariants as faults
use Rattle.ss_answers.specs.declared.field.Span.{Span}
use Rattle.ss_answers.specs.declared.line.Known.{Known}
use Rattle.ss_octets.specs.Ascii.{sp}
use Rattle.ss_octets.specs.StrictBase64.{base64}
use Rattle.ss_origin.specs.declared.sealer.SealFault.{SealFault}
use Rattle.ss_origin.specs.declared.sealer.SealFault.TheVariants as refusals
use Rattle.ss_answers.specs.declared.place.Place.{Place}
use Rattle.ss_answers.specs.declared.lines.Lines.{Lines}
use Rattle.ss_answers.specs.AnswerKey.{SortKey, key_cmp, key_of}
use Rattle.ss_answers.specs.Answers.{Answer, Trust, Yes, Seal, HasFields, IsField, line_text}

-- what a fault says about the text, where it isn't out of memory
abbrev pub IfBad : LineFault → Type 0 → Type 0
IfBad faults.Bad P = P
IfBad faults.Memory P = Unit {0}

-- what a refusal says, where it isn't out of memory
abbrev pub IfRefused : SealFault → Type 0 → Type 0
IfRefused refusals.Refused P = P
IfRefused refusals.Memory P = Unit {0}

-- ---- lines as the places of their fields among the octets of all lines

-- a line by its fields, of which those that it lacks are empty
abbrev pub answer_by_fields : List ℕ → List ℕ → List ℕ → Answer
answer_by_fields [] octets signature = Seal octets signature
answer_by_fields (x ∷ payload) [] signature = Trust (x ∷ payload)
answer_by_fields (x ∷ payload) (y ∷ octets) signature = Yes (x ∷ payload) (y ∷ octets) signature

-- the octets from one place to another, none where there are no such places
unfoldable pub part : List ℕ → ℕ → ℕ → List ℕ
part octets from to = if nat_le from to && nat_le to (length octets) then slice_range octets from to else []

-- what the line at a place says
unfoldable pub answer_at : List ℕ → Place → Answer
answer_at octets place = answer_by_fields (part octets place.payload.start place.payload.end)
    (part octets place.start place.middle) (part octets place.middle place.end)

abbrev pub answers_at : List ℕ → List Place → List Answer
answers_at octets places = map (answer_at octets) places

-- what kept lines say
abbrev pub answers_of : Lines → List Answer
answers_of lines = answers_at lines.octets.items lines.places.items

-- no field ends past the octets
abbrev pub IsWithin : ℕ → Place → Type 0
IsWithin limit place = (place.payload.end ≤ limit) × (place.middle ≤ limit) × (place.end ≤ limit)

abbrev pub AreWithin : Lines → Type 0
AreWithin lines = AllByRecursion (IsWithin (length lines.octets.items)) lines.places.items

-- where a field stands that a line lacks
abbrev pub no_span : Span
no_span = record { start = 0; end = 0 }

-- the place of a line whose signature stands after its octets
abbrev pub place_of : Span → Span → Span → Place
place_of payload octets signature =
    record { payload = payload; start = octets.start; middle = octets.end; end = signature.end }

-- ---- a step of the reading: a text is spelt, and the octets of its fields come after the others

-- at most so many octets came after the others
pub record Grows (old new : List ℕ) (most : ℕ) : Type 0 where
  pub more : List ℕ
  pub appended : new ≡ old ++ more
  pub size : length more ≤ most

-- the text spells a field, whose octets stand here
pub record HasField (octets text : List ℕ) (span : Span) : Type 0 where
  pub field : List ℕ
  pub is_field : IsField field
  pub spelt : text ≡ base64 field
  pub here : part octets span.start span.end ≡ field
  pub within : span.end ≤ length octets

-- a field came after the others
pub record KeepsField (old new text : List ℕ) (span : Span) : Type 0 where
  pub has : HasField new text span
  pub grows : Grows old new (length text)
  pub start : span.start ≡ length old
  pub end : span.end ≡ length new

-- a payload that is known stands at its place
abbrev pub IsKnown : List ℕ → Option Known → Type 0
IsKnown octets None = Unit {0}
IsKnown octets (Some known) = HasField octets known.text.items known.span

-- payloads that are known stand at their places
abbrev pub AreKnown : List ℕ → List (Vec ℕ Global × Span) → Type 0
AreKnown octets payloads = AllByRecursion (λ entry. HasField octets entry.0.items entry.1) payloads

-- the text spells a payload, which came now or stood there before
pub record KeepsPayload (old new text : List ℕ) (known : Known) : Type 0 where
  pub has : HasField new known.text.items known.span
  pub same : known.text.items ≡ text
  pub grows : Grows old new (length text)

-- the text is two fields, which came one after the other
pub record KeepsPair (old new text : List ℕ) (first second : Span) : Type 0 where
  pub left : List ℕ
  pub right : List ℕ
  pub spelt : text ≡ left ++ sp ∷ right
  pub one : HasField new left first
  pub two : HasField new right second
  pub seam : first.end ≡ second.start
  pub grows : Grows old new (length text)

-- the text is a payload, which came now or stood there before, and two fields
pub record KeepsTriple (old new text : List ℕ) (known : Known) (first second : Span) : Type 0 where
  pub left : List ℕ
  pub right : List ℕ
  pub spelt : text ≡ known.text.items ++ sp ∷ (left ++ sp ∷ right)
  pub payload : HasField new known.text.items known.span
  pub one : HasField new left first
  pub two : HasField new right second
  pub seam : first.end ≡ second.start
  pub grows : Grows old new (length text)

-- the text spells a line, which is that at the place
pub record KeepsLine (old new text : List ℕ) (place : Place) : Type 0 where
  pub line : Answer
  pub fields : HasFields line
  pub spelt : text ≡ line_text line
  pub says : answer_at new place ≡ line
  pub within : IsWithin (length new) place
  pub grows : Grows old new (length text)

-- ---- in order

-- the key of the line at a place
unfoldable pub place_key : List ℕ → Place → SortKey
place_key octets place = key_of (answer_at octets place)

-- the line at a place has this key
abbrev pub has_key : List ℕ → SortKey → Place → Bool
has_key octets key place = is_eq (key_cmp (place_key octets place) key)

-- no line has a lower key than the one before it
abbrev pub IsInOrder : List ℕ → List Place → Type 0
IsInOrder octets places = IsSortedBy (λ a b. is_lt (key_cmp (place_key octets a) (place_key octets b))) places
