-- The messages in which blocks are sent (RFC 5848, sections 4.2 and 5.3.2), and what is signed of them: a header, the
-- block's element alone, and no MSG.
use Rattle.std.specs.Prelude.{ℕ, List, [], ◌∷◌, ◌++◌, length, map, codes, decimal, Option, None}
use Rattle.std.specs.List.{join_with_byte}
use Rattle.ss_octets.specs.Ascii.{sp}
use Rattle.ss_message.specs.Raw.{escaped}
use Rattle.ss_message.specs.Stamp.{Moment}
use Rattle.ss_message.specs.Message.{ParameterValue, ElementValue, MessageValue, text}
use Rattle.ss_block.specs.declared.block_parameter.BlockParameter.TheVariants as kinds
use Rattle.ss_block.specs.declared.hash.Hash.{Hash}
use Rattle.ss_block.specs.declared.hash.Hash.TheVariants as hashes
use Rattle.ss_block.specs.declared.session.Session.{Session}
use Rattle.ss_block.specs.Block as block
use Rattle.ss_octets.specs.StrictBase64.{base64}
use Rattle.ss_block.specs.Head.{HeadValue}
use Rattle.ss_block.specs.Parameters.{name_of}
use Rattle.ss_block.specs.Versions.{version_text}
use Rattle.ss_block.specs.Session.{field_from}

-- ---- parameters

-- the value is escaped
abbrev pub parameter : List ℕ → List ℕ → ParameterValue
parameter name value = record { name = name; raw = escaped value }

abbrev pub hash_octets : Hash → List ℕ
hash_octets (hashes.Sha1 octets) = octets
hash_octets (hashes.Sha256 octets) = octets

-- HB: each hash in base64 by itself, one SP between two
abbrev pub hashes_text : List Hash → List ℕ
hashes_text hs = join_with_byte sp (map (λ h. base64 (hash_octets h)) hs)

abbrev pub signature_parameters : block.Signature → List ParameterValue
signature_parameters b =
    parameter (name_of kinds.Ver) (version_text b.alg)
    ∷ parameter (name_of kinds.Rsid) (decimal b.rsid)
    ∷ parameter (name_of kinds.Sg) (decimal b.group.sg)
    ∷ parameter (name_of kinds.Spri) (decimal b.group.spri)
    ∷ parameter (name_of kinds.Gbc) (decimal b.gbc)
    ∷ parameter (name_of kinds.Fmn) (decimal b.first)
    ∷ parameter (name_of kinds.Cnt) (decimal (length b.hashes))
    ∷ parameter (name_of kinds.Hb) (hashes_text b.hashes)
    ∷ []

abbrev pub certificate_parameters : block.Certificate → List ParameterValue
certificate_parameters b =
    parameter (name_of kinds.Ver) (version_text b.alg)
    ∷ parameter (name_of kinds.Rsid) (decimal b.rsid)
    ∷ parameter (name_of kinds.Sg) (decimal b.group.sg)
    ∷ parameter (name_of kinds.Spri) (decimal b.group.spri)
    ∷ parameter (name_of kinds.Tpbl) (decimal b.total)
    ∷ parameter (name_of kinds.Index) (decimal b.index)
    ∷ parameter (name_of kinds.Flen) (decimal (length b.fragment))
    ∷ parameter (name_of kinds.Frag) b.fragment
    ∷ []

abbrev pub sign_parameter : List ℕ → ParameterValue
sign_parameter signature = parameter (name_of kinds.Sign) (base64 signature)

-- ---- messages

abbrev pub ssign_element : List ParameterValue → ElementValue
ssign_element ps = record { id = codes "ssign"; parameters = ps }

abbrev pub ssign_cert_element : List ParameterValue → ElementValue
ssign_cert_element ps = record { id = codes "ssign-cert"; parameters = ps }

-- the element alone, and no MSG
abbrev pub block_message : HeadValue → Option Moment → ElementValue → MessageValue
block_message h stamp e = record {
  pri = h.pri;
  stamp = stamp;
  hostname = h.hostname;
  app_name = h.app_name;
  procid = h.procid;
  msgid = h.msgid;
  elements = e ∷ [];
  msg = None;
}

-- what is signed: the message without SIGN
abbrev pub unsigned_signature_text : HeadValue → Option Moment → block.Signature → List ℕ
unsigned_signature_text h stamp b = text (block_message h stamp (ssign_element (signature_parameters b)))

abbrev pub signature_text : HeadValue → Option Moment → block.Signature → List ℕ
signature_text h stamp b =
    text (block_message h stamp (ssign_element (signature_parameters b ++ sign_parameter b.signature ∷ [])))

abbrev pub unsigned_certificate_text : HeadValue → Option Moment → block.Certificate → List ℕ
unsigned_certificate_text h stamp b = text (block_message h stamp (ssign_cert_element (certificate_parameters b)))

abbrev pub certificate_text : HeadValue → Option Moment → block.Certificate → List ℕ
certificate_text h stamp b =
    text (block_message h stamp (ssign_cert_element (certificate_parameters b ++ sign_parameter b.signature ∷ [])))

-- HOSTNAME, APP-NAME, PROCID and RSID
abbrev pub head_session : HeadValue → ℕ → Session
head_session h rsid =
    record { host = field_from h.hostname; app = field_from h.app_name; procid = field_from h.procid; rsid = rsid }
