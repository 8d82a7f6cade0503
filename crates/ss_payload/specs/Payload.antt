-- The payload block of a session (RFC 5848, section 5.2): a timestamp, the type of the key blob, and the blob.
use Rattle.std.specs.Prelude.{◌≡◌, ℕ, Bool, true, not, List, [], ◌∷◌, ◌++◌, length, Option, Some, None, ◌==◌}
use Rattle.std.specs.Prelude.{if◌then◌else◌}
use Rattle.ss_octets.specs.Ascii.{sp}
use Rattle.base64.specs.GeneralPurpose.{IsBytes}
use Rattle.ss_message.specs.Stamp.{Moment}
use Rattle.ss_message.specs.Message.{timestamp_text, is_timestamp}
use Rattle.ss_payload.specs.declared.kind.Kind.{Kind}
use Rattle.ss_payload.specs.declared.kind.Kind.TheVariants.{C, P, K, N, U}
use Rattle.ss_octets.specs.StrictBase64.{base64}

pub record PayloadValue : Type 0 where
  pub stamp : Option Moment
  pub kind : Kind
  pub blob : List ℕ

-- `C`, `P`, `K`, `N` or `U`
abbrev pub letter : Kind → ℕ
letter C = 67
letter P = 80
letter K = 75
letter N = 78
letter U = 85

-- what stands after the letter: for `N` nothing, else SP and the blob
abbrev pub blob_text : Kind → List ℕ → List ℕ
blob_text C blob = sp ∷ base64 blob
blob_text P blob = sp ∷ base64 blob
blob_text K blob = sp ∷ base64 blob
blob_text N blob = []
blob_text U blob = sp ∷ base64 blob

-- TIMESTAMP, SP, the letter, and what stands after it
unfoldable pub payload_text : PayloadValue → List ℕ
payload_text p = timestamp_text p.stamp ++ sp ∷ letter p.kind ∷ blob_text p.kind p.blob

-- the blob is empty exactly for `N`
abbrev pub is_blob : Kind → List ℕ → Bool
is_blob C blob = not (length blob == 0)
is_blob P blob = not (length blob == 0)
is_blob K blob = not (length blob == 0)
is_blob N blob = length blob == 0
is_blob U blob = not (length blob == 0)

-- a payload in the ranges of its parts
pub record IsPayload (p : PayloadValue) : Type 0 where
  pub stamp : is_timestamp p.stamp ≡ true
  pub blob : is_blob p.kind p.blob ≡ true
  pub octets : IsBytes p.blob

-- the payload, if its blob suits its type
abbrev pub if_suited : PayloadValue → Option PayloadValue
if_suited p = if is_blob p.kind p.blob then Some p else None

-- the text is that of the payload; after `N` one SP may stand
pub data Spells (text : List ℕ) (p : PayloadValue) : Type 0 where
  exactly : text ≡ payload_text p → Spells text p
  with_space : p.kind ≡ N → text ≡ payload_text p ++ sp ∷ [] → Spells text p
