-- A payload block read from the left: what it says, or none.
use Rattle.std.specs.Prelude.{ℕ, List, [], ◌∷◌, Option, Some, None, option_map, ◌==◌, if◌then◌else◌}
use Rattle.ss_octets.specs.Ascii.{sp}
use Rattle.ss_octets.specs.Cut.{parts_at}
use Rattle.ss_message.specs.Octets.{is_absent}
use Rattle.ss_message.specs.Stamp.{Moment}
use Rattle.ss_message.specs.StampReading.{◌>>=◌, past, stamp_of}
use Rattle.ss_payload.specs.declared.kind.Kind.{Kind}
use Rattle.ss_payload.specs.declared.kind.Kind.TheVariants.{C, P, K, N, U}
use Rattle.ss_octets.specs.StrictBase64.{octets_in}
use Rattle.ss_payload.specs.Payload.{PayloadValue, if_suited}

-- a stamp, or `-` for none
unfoldable pub stamp_in : List ℕ → Option (Option Moment)
stamp_in text = if is_absent text then Some None else option_map (λ m. Some m) (stamp_of text)

-- the stamp before the first SP, and what follows that SP
unfoldable pub stamp_and_rest_in : List ℕ → Option (Option Moment × List ℕ)
stamp_and_rest_in text = do
  parts ← parts_at sp text
  stamp ← stamp_in parts.0
  Some (stamp, parts.1)

abbrev pub kind_in : ℕ → Option Kind
kind_in octet =
    if octet == 67 then Some C
    else (if octet == 80 then Some P
    else (if octet == 75 then Some K
    else (if octet == 78 then Some N
    else (if octet == 85 then Some U else None))))

-- nothing, or one SP
abbrev pub no_blob_in : List ℕ → Option (List ℕ)
no_blob_in [] = Some []
no_blob_in (octet ∷ []) = if octet == sp then Some [] else None
no_blob_in (octet ∷ next ∷ rest) = None

-- SP and the blob in base64
abbrev pub some_blob_in : List ℕ → Option (List ℕ)
some_blob_in text = past sp text >>= octets_in

unfoldable pub blob_in : Kind → List ℕ → Option (List ℕ)
blob_in C text = some_blob_in text
blob_in P text = some_blob_in text
blob_in K text = some_blob_in text
blob_in N text = no_blob_in text
blob_in U text = some_blob_in text

-- the first octet, and what follows it
abbrev pub first_in : List ℕ → Option (ℕ × List ℕ)
first_in [] = None
first_in (octet ∷ rest) = Some (octet, rest)

-- all of the text
unfoldable pub payload_in : List ℕ → Option PayloadValue
payload_in text = do
  stamp ← stamp_and_rest_in text
  first ← first_in stamp.1
  kind ← kind_in first.0
  blob ← blob_in kind first.1
  if_suited (record { stamp = stamp.0; kind = kind; blob = blob })
