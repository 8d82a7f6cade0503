-- How far the numbers of blocks go: RSID, GBC and FMN have at most ten digits (RFC 5848, section 4.2).
use Rattle.std.specs.Prelude.{ℕ}

-- the greatest of ten digits
abbrev pub last_number : ℕ
last_number = 9999999999

-- the one after it, which no block can state
abbrev pub past_last_number : ℕ
past_last_number = 10000000000
