-- The groups of messages (RFC 5848, section 4.2.3), as an option spells them.
use Rattle.std.specs.Prelude.{ℕ, Bool, ◌==◌, ◌&&◌, List, map, codes, Option, Some, None, option_map, if◌then◌else◌}
use Rattle.std.specs.List.{list_all, slice_split}
use Rattle.std.specs.Str.{bytes_eq}
use Rattle.ss_octets.specs.Number.{number, is_number}
use Rattle.ss_origin.specs.declared.grouping.Grouping.{Grouping}
use Rattle.ss_origin.specs.declared.grouping.Grouping.TheVariants.{One, ByPri, Ranges}
use Rattle.ss_origin.specs.Groups.{are_bounds}

-- what stands between commas
abbrev pub pieces : List ℕ → List (List ℕ)
pieces text = slice_split (λ octet. octet == 44) text

-- the numbers that the pieces write
abbrev pub numbers_in : List ℕ → List ℕ
numbers_in text = map number (pieces text)

-- each piece is the one spelling of a PRI, and these rise strictly, to 191
abbrev pub spells_bounds : List ℕ → Bool
spells_bounds text = list_all (is_number 0 191) (pieces text) && are_bounds (numbers_in text)

abbrev pub bounds_in : List ℕ → Option (List ℕ)
bounds_in text = if spells_bounds text then Some (numbers_in text) else None

-- `one`, `pri`, or bounds
abbrev pub grouping_in : List ℕ → Option Grouping
grouping_in text =
    if bytes_eq text (codes "one") then Some (One 0)
    else (if bytes_eq text (codes "pri") then Some ByPri
    else option_map (λ bounds. Ranges bounds) (bounds_in text))
