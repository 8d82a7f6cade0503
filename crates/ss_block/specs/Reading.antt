-- What a stored text is to a review (RFC 5848, sections 4 and 5): a block, a spoilt block, an ordinary message, or no
-- message of RFC 5424.
use Rattle.std.specs.Prelude.{ℕ, ◌+◌, Bool, ◌&&◌, ◌||◌, not, List, [], ◌∷◌, length, drop, map, flat_map, codes, Option}
use Rattle.std.specs.Prelude.{Some, None, Result, Ok, Err, nat_lt, ◌==◌, if◌then◌else◌, is_some}
use Rattle.std.specs.List.{list_all, slice_split}
use Rattle.std.specs.Str.{bytes_eq}
use Rattle.std.specs.Cmp.Lexicographic.{pointwise}
use Rattle.ss_octets.specs.Ascii.{sp}
use Rattle.ss_message.specs.declared.fault.BadPart.{BadPart}
use Rattle.ss_message.specs.Raw.{meant}
use Rattle.ss_message.specs.Message.{ParameterValue, ElementValue, MessageValue}
use Rattle.ss_message.specs.Layout.{Layout, value_at}
use Rattle.ss_message.specs.Reading.{layout_at}
use Rattle.ss_block.specs.declared.hash.Alg.{Alg}
use Rattle.ss_block.specs.declared.hash.Alg.TheVariants as algs
use Rattle.ss_block.specs.declared.hash.Hash.{Hash}
use Rattle.ss_block.specs.declared.hash.Hash.TheVariants as hashes
use Rattle.ss_block.specs.declared.block_parameter.BlockParameter.{BlockParameter}
use Rattle.ss_block.specs.declared.block_parameter.BlockParameter.TheVariants as kinds
use Rattle.ss_block.specs.declared.spoil.Spoil.{Spoil}
use Rattle.ss_block.specs.declared.spoil.Spoil.TheVariants as spoils
use Rattle.ss_block.specs.declared.reading.Reading.{Reading}
use Rattle.ss_block.specs.declared.reading.Reading.TheVariants.{Plain, Unparsed, Signature, Certificate, Spoilt}
use Rattle.ss_block.specs.Block as block
use Rattle.ss_block.specs.Parameters.{names_in, place_of, signature_row, certificate_row}
use Rattle.ss_block.specs.Versions.{is_version, alg_of, hash_length}
use Rattle.ss_octets.specs.StrictBase64.{octets_in}
use Rattle.ss_octets.specs.Number.{number, is_number}
use Rattle.ss_block.specs.Ranges.{last_number, past_last_number}
use Rattle.ss_payload.specs.Ranges.{longest_payload}

-- ---- the parameters of an element

abbrev pub names_of : ElementValue → List (List ℕ)
names_of e = map (λ p. p.name) e.parameters

abbrev pub has_parameters : List (List ℕ) → ElementValue → Bool
has_parameters names e = pointwise bytes_eq (names_of e) names

abbrev pub first_text : List ParameterValue → List ℕ
first_text [] = []
first_text (p ∷ ps) = meant p.raw

-- what the value of parameter number i, from 0, stands for
abbrev pub text_at : ElementValue → ℕ → List ℕ
text_at e i = first_text (drop i e.parameters)

-- what the value of this parameter stands for, in an element that has the parameters of its block
abbrev pub text_of : ElementValue → BlockParameter → List ℕ
text_of e p = text_at e (place_of p)

-- ---- causes, in the order of their numbers

-- the first that applies
abbrev pub first_cause : List (Bool × Spoil) → Option Spoil
first_cause [] = None
first_cause (row ∷ rows) = if row.0 then Some row.1 else first_cause rows

abbrev pub hash_with : Alg → List ℕ → Hash
hash_with algs.Sha1 octets = hashes.Sha1 octets
hash_with algs.Sha256 octets = hashes.Sha256 octets

-- the hash that these octets are, if there are as many as the algorithm makes
abbrev pub hash_from : Alg → List ℕ → Option Hash
hash_from alg octets = if length octets == hash_length alg then Some (hash_with alg octets) else None

abbrev pub hash_decoded : Alg → Option (List ℕ) → Option Hash
hash_decoded alg None = None
hash_decoded alg (Some octets) = hash_from alg octets

-- the hash that a text spells in base64
abbrev pub hash_in : Alg → List ℕ → Option Hash
hash_in alg text = hash_decoded alg (octets_in text)

-- HB, cut at each SP
abbrev pub pieces : List ℕ → List (List ℕ)
pieces text = slice_split (λ b. b == sp) text

abbrev pub hash_list : Option Hash → List Hash
hash_list None = []
hash_list (Some h) = h ∷ []

-- the hashes that the pieces spell
abbrev pub hashes_in : Alg → List (List ℕ) → List Hash
hashes_in alg texts = flat_map (λ piece. hash_list (hash_in alg piece)) texts

abbrev pub or_none : Option (List ℕ) → List ℕ
or_none None = []
or_none (Some octets) = octets

-- ---- the element `ssign` (RFC 5848, section 4.2)

abbrev pub signature_names : List (List ℕ)
signature_names = names_in signature_row

pub record SignatureTexts : Type 0 where
  pub ver : List ℕ
  pub rsid : List ℕ
  pub sg : List ℕ
  pub spri : List ℕ
  pub gbc : List ℕ
  pub fmn : List ℕ
  pub cnt : List ℕ
  pub hb : List ℕ
  pub sign : List ℕ

abbrev pub signature_texts : ElementValue → SignatureTexts
signature_texts e =
    record {
      ver = text_of e kinds.Ver;
      rsid = text_of e kinds.Rsid;
      sg = text_of e kinds.Sg;
      spri = text_of e kinds.Spri;
      gbc = text_of e kinds.Gbc;
      fmn = text_of e kinds.Fmn;
      cnt = text_of e kinds.Cnt;
      hb = text_of e kinds.Hb;
      sign = text_of e kinds.Sign;
    }

abbrev pub signature_numbers : SignatureTexts → Bool
signature_numbers t =
    is_number 0 last_number t.rsid && is_number 0 3 t.sg && is_number 0 191 t.spri && is_number 0 last_number t.gbc
    && is_number 1 last_number t.fmn && is_number 1 99 t.cnt

-- each cause beside whether it applies
abbrev pub signature_causes : Bool → SignatureTexts → List (Bool × Spoil)
signature_causes named t =
    (not named, spoils.Names)
    ∷ (not (is_version t.ver), spoils.Version)
    ∷ (not (signature_numbers t), spoils.Number)
    ∷ (not (length (pieces t.hb) == number t.cnt), spoils.HashCount)
    ∷ (not (list_all (λ piece. is_some (hash_in (alg_of t.ver) piece)) (pieces t.hb)), spoils.Hash)
    ∷ (not (is_some (octets_in t.sign)), spoils.Sign)
    ∷ (nat_lt past_last_number (number t.fmn + number t.cnt), spoils.LastNumber)
    ∷ []

abbrev pub signature_block : SignatureTexts → block.Signature
signature_block t = record {
  alg = alg_of t.ver;
  rsid = number t.rsid;
  group = record { sg = number t.sg; spri = number t.spri };
  gbc = number t.gbc;
  first = number t.fmn;
  hashes = hashes_in (alg_of t.ver) (pieces t.hb);
  signature = or_none (octets_in t.sign);
}

abbrev pub unless_spoilt : Option Spoil → Reading → Reading
unless_spoilt None r = r
unless_spoilt (Some cause) r = Spoilt cause

-- the block, or the first cause that applies
unfoldable pub signature_reading : ElementValue → Reading
signature_reading e =
    unless_spoilt (first_cause (signature_causes (has_parameters signature_names e) (signature_texts e)))
    (Signature (signature_block (signature_texts e)))

-- ---- the element `ssign-cert` (RFC 5848, section 5.3.2)

abbrev pub certificate_names : List (List ℕ)
certificate_names = names_in certificate_row

pub record CertificateTexts : Type 0 where
  pub ver : List ℕ
  pub rsid : List ℕ
  pub sg : List ℕ
  pub spri : List ℕ
  pub tpbl : List ℕ
  pub index : List ℕ
  pub flen : List ℕ
  pub frag : List ℕ
  pub sign : List ℕ

abbrev pub certificate_texts : ElementValue → CertificateTexts
certificate_texts e =
    record {
      ver = text_of e kinds.Ver;
      rsid = text_of e kinds.Rsid;
      sg = text_of e kinds.Sg;
      spri = text_of e kinds.Spri;
      tpbl = text_of e kinds.Tpbl;
      index = text_of e kinds.Index;
      flen = text_of e kinds.Flen;
      frag = text_of e kinds.Frag;
      sign = text_of e kinds.Sign;
    }

abbrev pub certificate_numbers : CertificateTexts → Bool
certificate_numbers t =
    is_number 0 last_number t.rsid && is_number 0 3 t.sg && is_number 0 191 t.spri && is_number 1 longest_payload t.tpbl
    && is_number 1 longest_payload t.index && is_number 1 9999 t.flen

abbrev pub certificate_causes : Bool → CertificateTexts → List (Bool × Spoil)
certificate_causes named t =
    (not named, spoils.Names)
    ∷ (not (is_version t.ver), spoils.Version)
    ∷ (not (certificate_numbers t), spoils.Number)
    ∷ (not (is_some (octets_in t.sign)), spoils.Sign)
    ∷ (
      nat_lt (number t.tpbl + 1) (number t.index + number t.flen)
          || not (length t.frag == number t.flen),
      spoils.Fragment,
    )
    ∷ []

abbrev pub certificate_block : CertificateTexts → block.Certificate
certificate_block t = record {
  alg = alg_of t.ver;
  rsid = number t.rsid;
  group = record { sg = number t.sg; spri = number t.spri };
  total = number t.tpbl;
  index = number t.index;
  fragment = t.frag;
  signature = or_none (octets_in t.sign);
}

unfoldable pub certificate_reading : ElementValue → Reading
certificate_reading e =
    unless_spoilt (first_cause (certificate_causes (has_parameters certificate_names e) (certificate_texts e)))
    (Certificate (certificate_block (certificate_texts e)))

-- ---- a whole message

-- the element with this SD-ID; a message has one at most
abbrev pub element_with : List ℕ → List ElementValue → Option ElementValue
element_with id [] = None
element_with id (e ∷ es) = if bytes_eq e.id id then Some e else element_with id es

abbrev pub ssign : List ElementValue → Option ElementValue
ssign es = element_with (codes "ssign") es

abbrev pub ssign_cert : List ElementValue → Option ElementValue
ssign_cert es = element_with (codes "ssign-cert") es

abbrev pub reading_with : Option ElementValue → Option ElementValue → Reading
reading_with None None = Plain
reading_with (Some e) None = signature_reading e
reading_with None (Some e) = certificate_reading e
reading_with (Some e) (Some f) = Spoilt spoils.BothBlocks

-- what a message with this value is
abbrev pub value_reading : MessageValue → Reading
value_reading v = reading_with (ssign v.elements) (ssign_cert v.elements)

abbrev pub reading_from : List ℕ → Result Layout BadPart → Reading
reading_from t (Ok l) = value_reading (value_at t l)
reading_from t (Err e) = Unparsed e.part e.pos

-- What a stored text is: what its value is, or the fault for which it is the text of no value.
unfoldable pub reading : List ℕ → Reading
reading t = reading_from t (layout_at t)
