-- How a call reports why an element holds no block.
use Rattle.std.specs.Prelude.{◌≡◌, ◌+◌, ◌≤◌, nat_lt, ◌||◌, Bool, true, false, not, List, [], ◌∷◌, length, Some, None}
use Rattle.std.specs.Prelude.{Result, Ok, Err, ◌==◌, is_some}
use Rattle.std.specs.List.{list_all}
use Rattle.ss_block.specs.declared.spoil.Spoil.{Spoil}
use Rattle.ss_block.specs.declared.spoil.Spoil.TheVariants as spoils
use Rattle.ss_block.specs.declared.refusal.Refusal.{Refusal}
use Rattle.ss_block.specs.declared.refusal.Refusal.TheVariants as refusals
use Rattle.ss_block.specs.declared.reading.Reading.{Reading}
use Rattle.ss_block.specs.declared.reading.Reading.TheVariants.{Spoilt}
use Rattle.ss_block.specs.declared.signature_reading.SignatureNumbers.{SignatureNumbers}
use Rattle.ss_block.specs.declared.certificate_reading.CertificateNumbers.{CertificateNumbers}
use Rattle.ss_octets.specs.Number.{number}
use Rattle.ss_block.specs.Reading.{first_cause, hash_in, pieces, SignatureTexts, CertificateTexts}
use Rattle.ss_block.specs.Ranges.{last_number}
use Rattle.ss_block.specs.Versions.{alg_of}
use Rattle.ss_payload.specs.Ranges.{longest_payload}

-- a value where the test holds, else the cause, unless memory ran out
abbrev pub Tests : {X : Type 0} → Spoil → Bool → (X → Type 0) → Result X Refusal → Type 0
Tests cause test is (Ok x) = (test ≡ true) × is x
Tests cause test is (Err (refusals.Spoilt told)) = (test ≡ false) × (told ≡ cause)
Tests cause test is (Err refusals.Memory) = Unit {0}

-- a value where no cause of these applies, else the first that does, unless memory ran out
abbrev pub Spoils : {X : Type 0} → List (Bool × Spoil) → (X → Type 0) → Result X Refusal → Type 0
Spoils rows is (Ok x) = (first_cause rows ≡ None) × is x
Spoils rows is (Err (refusals.Spoilt told)) = first_cause rows ≡ Some told
Spoils rows is (Err refusals.Memory) = Unit {0}

-- the causes that lie in HB
abbrev pub hash_causes : SignatureTexts → List (Bool × Spoil)
hash_causes t =
    (not (length (pieces t.hb) == number t.cnt), spoils.HashCount)
    ∷ (not (list_all (λ piece. is_some (hash_in (alg_of t.ver) piece)) (pieces t.hb)), spoils.Hash)
    ∷ []

-- the fragment ends after the payload, or hasn't FLEN octets
abbrev pub misfits : CertificateTexts → Bool
misfits t = nat_lt (number t.tpbl + 1) (number t.index + number t.flen) || not (length t.frag == number t.flen)

-- the reading, unless memory ran out
abbrev pub Reads : {X : Type 0} → (X → Reading) → Result X Refusal → Reading → Type 0
Reads block (Ok x) reading = reading ≡ block x
Reads block (Err (refusals.Spoilt cause)) reading = reading ≡ Spoilt cause
Reads block (Err refusals.Memory) reading = Unit {0}

-- what the texts of a signature block's numbers spell, in their ranges
pub record IsSignatureNumbers (t : SignatureTexts) (n : SignatureNumbers) : Type 0 where
  pub rsid : n.rsid ≡ number t.rsid
  pub sg : n.group.sg ≡ number t.sg
  pub spri : n.group.spri ≡ number t.spri
  pub gbc : n.gbc ≡ number t.gbc
  pub first : n.first ≡ number t.fmn
  pub count : n.count ≡ number t.cnt
  pub small_rsid : n.rsid ≤ last_number
  pub small_sg : n.group.sg ≤ 3
  pub small_spri : n.group.spri ≤ 191
  pub small_gbc : n.gbc ≤ last_number
  pub some_first : 1 ≤ n.first
  pub small_first : n.first ≤ last_number
  pub some_hash : 1 ≤ n.count
  pub small_count : n.count ≤ 99

-- what the texts of a certificate block's numbers spell, in their ranges
pub record IsCertificateNumbers (t : CertificateTexts) (n : CertificateNumbers) : Type 0 where
  pub rsid : n.rsid ≡ number t.rsid
  pub sg : n.group.sg ≡ number t.sg
  pub spri : n.group.spri ≡ number t.spri
  pub total : n.total ≡ number t.tpbl
  pub index : n.index ≡ number t.index
  pub octets : n.octets ≡ number t.flen
  pub small_rsid : n.rsid ≤ last_number
  pub small_sg : n.group.sg ≤ 3
  pub small_spri : n.group.spri ≤ 191
  pub small_total : n.total ≤ longest_payload
  pub some_index : 1 ≤ n.index
  pub small_index : n.index ≤ longest_payload
  pub some_octet : 1 ≤ n.octets
  pub small_octets : n.octets ≤ 9999
