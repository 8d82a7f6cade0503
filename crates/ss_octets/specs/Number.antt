-- Numbers in decimal, without leading zeros.
use Rattle.std.specs.Prelude.{ℕ, Bool, ◌&&◌, List, nat_le, decimal, Option, Some, None, if◌then◌else◌}
use Rattle.std.specs.Str.{bytes_eq}
use Rattle.std.specs.Str.Parse.{digits_value}

-- the number that the digits write; it means something where `is_number` holds of the text
unfoldable pub number : List ℕ → ℕ
number text = digits_value 10 text

-- the text is the one spelling of a number from least to most
unfoldable pub is_number : ℕ → ℕ → List ℕ → Bool
is_number least most text =
    bytes_eq (decimal (number text)) text && nat_le least (number text) && nat_le (number text) most

abbrev pub number_in : ℕ → ℕ → List ℕ → Option ℕ
number_in least most text = if is_number least most text then Some (number text) else None
