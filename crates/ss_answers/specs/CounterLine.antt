-- A line of a file of counters: what it is cut into as it is read.
use Rattle.std.specs.Prelude.{◌≡◌, ℕ, ◌≤◌, true, List, ◌∷◌, ◌++◌, decimal}
use Rattle.ss_octets.specs.Ascii.{sp}
use Rattle.ss_message.specs.declared.draft.Field.{Field}
use Rattle.ss_message.specs.Layout.{field_of}
use Rattle.ss_message.specs.Octets.{is_text}
use Rattle.ss_block.specs.declared.block.Group.{Group}
use Rattle.ss_block.specs.declared.session.Session.{Session}
use Rattle.ss_block.specs.Session.{field_from}
use Rattle.ss_review.specs.declared.counted.counter.Counter.{Counter}
use Rattle.ss_review.specs.declared.counted.counter.Counts.{Counts}
use Rattle.ss_review.specs.declared.counted.counter.Counts.TheVariants.{Blocks, Messages}
use Rattle.ss_review.specs.counted.CounterRange.{IsSession, IsNext, IsCounter}
use Rattle.ss_review.specs.counted.CounterText.{counter_line, field_word}
use Rattle.ss_answers.specs.declared.counters.words.CounterWords.{CounterWords}
use Rattle.ss_answers.specs.declared.counters.words.SessionWords.{SessionWords}
use Rattle.ss_answers.specs.Lines.{SpellsNone}

-- a text is the spelling of no counter
abbrev pub IsNoCounter : List ℕ → Type 0
IsNoCounter text = SpellsNone IsCounter counter_line text

-- ---- parts of the reading

-- what stands after `count `: a session and the rest after it, and then what is counted
abbrev pub session_text : Session → List ℕ → List ℕ
session_text s rest =
    field_word s.host ++ sp ∷ (field_word s.app ++ sp ∷ (field_word s.procid ++ sp ∷ (decimal s.rsid ++ sp ∷ rest)))

abbrev pub next_text : Counts → ℕ → List ℕ
next_text Blocks next = decimal next
next_text (Messages g) next = decimal g.sg ++ sp ∷ (decimal g.spri ++ sp ∷ decimal next)

-- a text begins with a word of so many octets of printable US-ASCII, as fields are spelt, and with no such word
pub record BeginsWithWord (limit : ℕ) (text word rest : List ℕ) : Type 0 where
  pub printable : is_text limit word ≡ true
  pub spelt : text ≡ word ++ sp ∷ rest

abbrev pub BeginsWithNoWord : (limit : ℕ) → List ℕ → Type 0
BeginsWithNoWord limit text = (word rest : List ℕ) → BeginsWithWord limit text word rest → ⊥

-- a text begins with the spelling of a number, and with that of none
pub record BeginsWithNumber (least most : ℕ) (text : List ℕ) (number : ℕ) (rest : List ℕ) : Type 0 where
  pub low : least ≤ number
  pub high : number ≤ most
  pub spelt : text ≡ decimal number ++ sp ∷ rest

abbrev pub BeginsWithNoNumber : (least most : ℕ) → List ℕ → Type 0
BeginsWithNoNumber least most text = (number : ℕ) (rest : List ℕ) → BeginsWithNumber least most text number rest → ⊥

-- a text begins with the spelling of a session, and with that of none
pub record BeginsWithSession (text : List ℕ) (s : Session) (rest : List ℕ) : Type 0 where
  pub session : IsSession s
  pub spelt : text ≡ session_text s rest

abbrev pub BeginsWithNoSession : List ℕ → Type 0
BeginsWithNoSession text = (s : Session) (rest : List ℕ) → BeginsWithSession text s rest → ⊥

-- a text names what is counted, and it doesn't
pub record SpellsNext (text : List ℕ) (counts : Counts) (next : ℕ) : Type 0 where
  pub in_range : IsNext counts next
  pub spelt : text ≡ next_text counts next

abbrev pub SpellsNoNext : List ℕ → Type 0
SpellsNoNext text = (counts : Counts) (next : ℕ) → SpellsNext text counts next → ⊥

abbrev pub SpellsNoGroup : List ℕ → Type 0
SpellsNoGroup text = (g : Group) (next : ℕ) → SpellsNext text (Messages g) next → ⊥

-- a text is the line of a counter
pub record SpellsCounter (text : List ℕ) (c : Counter) : Type 0 where
  pub counter : IsCounter c
  pub spelt : text ≡ counter_line c

-- the field, the session and the counter of words
abbrev pub field_by : List ℕ → Field
field_by octets = field_from (field_of octets)

abbrev pub session_by : SessionWords → Session
session_by w = record {
  host = field_by w.host.now;
  app = field_by w.app.now;
  procid = field_by w.procid.now;
  rsid = w.rsid;
}

abbrev pub counter_by : CounterWords → Counter
counter_by w = record { session = session_by w.session; counts = w.counts; next = w.next }
