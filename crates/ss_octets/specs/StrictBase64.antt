-- Strict base64 (RFC 4648, section 4): padded, with zero unused bits, of at least one octet.
use Rattle.std.specs.Prelude.{ℕ, List, [], ◌∷◌, Option, Some, None, Result, Ok, Err}
use Rattle.base64.specs.Engines.{standard}
use Rattle.base64.specs.GeneralPurpose.{decode_of, encode_of}

abbrev pub some_octets : List ℕ → Option (List ℕ)
some_octets [] = None
some_octets (b ∷ rest) = Some (b ∷ rest)

abbrev pub octets_decoded : {E : Type 0} → Result (List ℕ) E → Option (List ℕ)
octets_decoded (Ok octets) = some_octets octets
octets_decoded (Err e) = None

-- the octets that a text spells, at least one of them
unfoldable pub octets_in : List ℕ → Option (List ℕ)
octets_in text = octets_decoded (decode_of standard text)

-- the spelling of octets
unfoldable pub base64 : List ℕ → List ℕ
base64 octets = encode_of standard octets
