-- A fault's code: its name, and its place where it has one.
use Rattle.std.specs.Prelude.{ℕ, List, Option, None, Some, ◌≡◌, ◌++◌, codes, decimal}
use Rattle.ss_octets.specs.declared.code.Code.{Code}

-- this is the code
abbrev pub IsCode : Code → List ℕ × Option ℕ → Type 0
IsCode code told = (code.name.now, code.place) ≡ told

-- how it is printed: its name; if it has a place, a space and the place in decimal follow
abbrev pub code_text : List ℕ × Option ℕ → List ℕ
code_text (name, None) = name
code_text (name, Some place) = name ++ codes " " ++ decimal place
