-- What a text was parsed to.
use Rattle.std.specs.Prelude.{◌≡◌, ℕ, List, Option, Some, None, Result, Ok, Err}
use Rattle.ss_message.specs.declared.fault.BadPart.{BadPart}
use Rattle.ss_message.specs.declared.message.Message.{Message}
use Rattle.ss_message.specs.Message.{IsMessage, text}
use Rattle.ss_message.specs.Layout.{Layout, layout_of, value_of}
use Rattle.ss_message.specs.Places.{PartsLie}
use Rattle.ss_message.specs.Reading.{layout_at}
use Rattle.ss_block.specs.declared.reading.Reading.{Reading}
use Rattle.ss_block.specs.Reading.{reading}

-- a message as it is read from its source: its value, that value's spelling, and where each part lies
pub record IsRead (m : Message) : Type 0 where
  pub layout : layout_at m.source.now ≡ Ok (layout_of m)
  pub valid : IsMessage (value_of m)
  pub spelled : m.source.now ≡ text (value_of m)
  pub places : PartsLie m.source.now (layout_of m)

abbrev pub IsFault : Result Layout BadPart → Type 0
IsFault (Ok l) = ⊥
IsFault (Err e) = Unit {0}

abbrev pub IsParsed : List ℕ → Option Message → Type 0
IsParsed t (Some m) = (m.source.now ≡ t) × IsRead m
IsParsed t None = IsFault (layout_at t)

-- what a text is, and the message that was parsed from it, if it spells one
pub record IsReadAs (t : List ℕ) (r : Reading) (m : Option Message) : Type 0 where
  pub reading : r ≡ reading t
  pub parsed : IsParsed t m
