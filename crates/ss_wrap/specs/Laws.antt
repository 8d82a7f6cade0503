-- What holds of every wrap, whatever its octets are.
use Rattle.std.specs.Prelude.{◌≡◌, ℕ, true, List, Option, Some}
use Rattle.ss_message.specs.Message.{IsMessage, is_timestamp}
use Rattle.ss_message.specs.Stamp.{Moment}
use Rattle.ss_block.specs.Head.{HeadValue, IsHead}
use Rattle.ss_block.specs.Reading.{reading}
use Rattle.ss_origin.specs.Refusals.{is_plain}
use Rattle.ss_wrap.specs.Wrap.{wrap_value, wrap_text, original, needs_wrap, prepared, unwrapped}

-- what a wrap says is a message
abbrev pub WrapsAreMessages : Type 0
WrapsAreMessages = (h : HeadValue) (stamp : Option Moment) (octets : List ℕ) → IsHead h → is_timestamp stamp ≡ true
    → IsMessage (wrap_value h stamp octets)

-- a wrap is a message without a block element
abbrev pub WrapsArePlain : Type 0
WrapsArePlain = (h : HeadValue) (stamp : Option Moment) (octets : List ℕ) → IsHead h → is_timestamp stamp ≡ true
    → is_plain (reading (wrap_text h stamp octets)) ≡ true

-- a wrap gives back its octets
abbrev pub OriginalsComeBack : Type 0
OriginalsComeBack = (h : HeadValue) (stamp : Option Moment) (octets : List ℕ) → IsHead h → is_timestamp stamp ≡ true
    → original (wrap_text h stamp octets) ≡ Some octets

-- Wraps of different octets differ, also where their heads and stamps do.
abbrev pub WrapsDiffer : Type 0
WrapsDiffer = (g h : HeadValue) (stamp time : Option Moment) (octets other : List ℕ)
    → IsHead g → IsHead h → is_timestamp stamp ≡ true → is_timestamp time ≡ true
    → wrap_text g stamp octets ≡ wrap_text h time other
    → octets ≡ other

-- a wrap that is itself a message of a log is signed in a wrap
abbrev pub WrapsAreWrapped : Type 0
WrapsAreWrapped = (h : HeadValue) (stamp : Option Moment) (octets : List ℕ) → IsHead h → is_timestamp stamp ≡ true
    → needs_wrap (wrap_text h stamp octets) ≡ true

-- what is signed for a message, whatever its octets are, is a message without a block element
abbrev pub PreparedArePlain : Type 0
PreparedArePlain = (h : HeadValue) (stamp : Option Moment) (message : List ℕ) → IsHead h → is_timestamp stamp ≡ true
    → is_plain (reading (prepared h stamp message)) ≡ true

-- and gives back the message
abbrev pub PreparedComeBack : Type 0
PreparedComeBack = (h : HeadValue) (stamp : Option Moment) (message : List ℕ) → IsHead h → is_timestamp stamp ≡ true
    → unwrapped (prepared h stamp message) ≡ message

-- If the same text is signed for two messages, they are one, also where their wraps have different heads and stamps.
abbrev pub PreparedDiffer : Type 0
PreparedDiffer = (g h : HeadValue) (stamp time : Option Moment) (message other : List ℕ)
    → IsHead g → IsHead h → is_timestamp stamp ≡ true → is_timestamp time ≡ true
    → prepared g stamp message ≡ prepared h time other
    → message ≡ other
