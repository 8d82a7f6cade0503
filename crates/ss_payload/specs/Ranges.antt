-- How long a payload block may be (RFC 5848, section 5.3.2).
use Rattle.std.specs.Prelude.{ℕ}

-- the most octets that TPBL, a number of at most eight digits, can state
abbrev pub longest_payload : ℕ
longest_payload = 99999999
