-- What was stated for the length of a payload.
use Rattle.std.specs.Prelude.{ℕ, Bool, true, false, not, eqb, cond}
use Rattle.ss_payload.specs.declared.joiner.totals.Totals.{Totals}
use Rattle.ss_payload.specs.declared.joiner.totals.Totals.TheVariants.{Unstated, One, Many}

-- what is stated after a total is stated too
abbrev pub joined_total : Totals → ℕ → Totals
joined_total Unstated total = One total
joined_total (One other) total = cond (eqb other total) (One other) Many
joined_total Many total = Many

-- whether another total was stated
abbrev pub total_differs : Totals → ℕ → Bool
total_differs Unstated total = false
total_differs (One other) total = not (eqb other total)
total_differs Many total = true
