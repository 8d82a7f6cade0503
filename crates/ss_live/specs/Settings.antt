-- How a signer signs.
use Rattle.std.specs.Prelude.{ℕ, ◌≤◌, List, length}
use Rattle.ss_payload.specs.Ranges.{longest_payload}

pub record SettingsValue : Type 0 where
  -- the text of the payload block (RFC 5848, section 5.2)
  pub payload : List ℕ
  -- the most messages of a signature block, and the most octets of the payload in a certificate block
  pub count : ℕ
  pub frag : ℕ
  -- what stands in front of the number in the name of a file
  pub stem : List ℕ

-- TPBL, CNT and FLEN can have these numbers (RFC 5848, sections 4.2 and 5.3.2).
pub record AreSettings (s : SettingsValue) : Type 0 where
  pub some_payload : 1 ≤ length s.payload
  pub payload : length s.payload ≤ longest_payload
  pub some_count : 1 ≤ s.count
  pub count : s.count ≤ 99
  pub some_frag : 1 ≤ s.frag
  pub frag : s.frag ≤ 9999

abbrev pub settings_of : List ℕ → ℕ → ℕ → List ℕ → SettingsValue
settings_of payload count frag stem = record { payload = payload; count = count; frag = frag; stem = stem }
