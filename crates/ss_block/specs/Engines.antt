-- Engines that read base64 strictly.
use Rattle.std.specs.Prelude.{◌≡◌, ℕ, List}
use Rattle.base64.specs.declared.engine.general_purpose.GeneralPurpose.{GeneralPurpose}
use Rattle.base64.specs.Engines.{standard}
use Rattle.base64.specs.GeneralPurpose.{decode_of}

-- the engine reads each text as strict base64 (`octets_in`) does
unfoldable pub IsStrict : GeneralPurpose → Type 0
IsStrict e = (text : List ℕ) → decode_of e text ≡ decode_of standard text
