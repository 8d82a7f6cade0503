-- What the options of an extract ask for.
use Rattle.std.specs.Prelude.{◌≡◌, ◌↔◌, ◌<◌, ◌^◌, ℕ, Bool, true, false, List, [], ◌∷◌, Contains, Option, None}
use Rattle.std.specs.Prelude.{Some, IsSome, IfSome, option_map, Result, Ok, Err}
use Rattle.std.specs.List.{AllByRecursion}
use Rattle.std.specs.List.Sorted.{IsStrictlyIncreasing}
use Rattle.clap.specs.Words.{found_of, matched_of, raw_values}
use Rattle.clap.specs.declared.parser.matches.ArgMatches.{ArgMatches}
use Rattle.ss_report.specs.declared.runs.extraction.Extraction.{Extraction}
use Rattle.ss_report.specs.declared.runs.extraction.Selection.{Selection}
use Rattle.ss_report.specs.declared.runs.extraction.Selection.TheVariants.{Listed, Unlisted, Carried, At}
use Rattle.ssign.specs.CommandLine.{SpellsNumber, form_of}
use Rattle.ssign.specs.declared.extraction.ExtractionFault.{ExtractionFault}
use Rattle.ssign.specs.declared.extraction.ExtractionFault.TheVariants.{Both, FileAndUnlisted, FileAndPlace, NoNumber, Memory}

-- the texts of an option in their order, where it is given
abbrev pub texts_given : ArgMatches → List ℕ → Option (List (List ℕ))
texts_given matches option = option_map raw_values (matched_of (found_of matches) option)

-- each text spells the number that stands in its place
abbrev pub SpellNumbers : List (List ℕ) → List ℕ → Type 0
SpellNumbers [] [] = Unit {0}
SpellNumbers (text ∷ texts) (n ∷ ns) = SpellsNumber text n × SpellNumbers texts ns
SpellNumbers _ _ = ⊥

-- the same numbers, each once, rising
pub record AreInOrder (given numbers : List ℕ) : Type 0 where
  pub rise : IsStrictlyIncreasing numbers
  pub same : (n : ℕ) → Contains numbers n ↔ Contains given n

-- two options exclude each other
abbrev pub is_of_options : ExtractionFault → Bool
is_of_options Both = true
is_of_options FileAndUnlisted = true
is_of_options FileAndPlace = true
is_of_options NoNumber = false
is_of_options Memory = false

-- what is selected with or without `--unlisted`, with these texts of `--place`, and with or without a file of `--places`,
-- which stands beside neither of the others
abbrev pub Selects : (unlisted : Bool) → Option (List (List ℕ)) → (file : Bool) → Result Selection ExtractionFault → Type 0
Selects unlisted texts file (Ok Listed) = (unlisted ≡ false) × (texts ≡ None)
Selects unlisted texts file (Ok Unlisted) = (unlisted ≡ true) × (texts ≡ None) × (file ≡ false)
Selects unlisted texts file (Ok Carried) = ⊥
Selects unlisted texts file (Ok (At places)) =
    (unlisted ≡ false) × (file ≡ false)
    × IfSome texts (λ ts. (given : List ℕ) × SpellNumbers ts given × AreInOrder given places) × IsSome texts
Selects unlisted texts file (Err Both) = (unlisted ≡ true) × IsSome texts
Selects unlisted texts file (Err FileAndUnlisted) = (unlisted ≡ true) × (texts ≡ None) × (file ≡ true)
Selects unlisted texts file (Err FileAndPlace) = (unlisted ≡ false) × (file ≡ true) × IsSome texts
Selects unlisted texts file (Err NoNumber) = (unlisted ≡ false) × (file ≡ false)
    × IfSome texts (λ ts. (ns : List ℕ) → SpellNumbers ts ns → ¬ AllByRecursion (λ n. n < 2 ^ 32) ns) × IsSome texts
Selects unlisted texts file (Err Memory) = Unit {0}

-- the same, in the form with or without `--lines-out`, and out of wraps with or without `--unwrap`
abbrev pub GivesExtraction : (unlisted : Bool) → Option (List (List ℕ)) → (file lines unwrap : Bool)
    → Result Extraction ExtractionFault → Type 0
GivesExtraction unlisted texts file lines unwrap (Ok e) =
    Selects unlisted texts file (Ok e.selection) × (e.form ≡ form_of lines) × (e.unwrap ≡ unwrap)
GivesExtraction unlisted texts file lines unwrap (Err fault) = Selects unlisted texts file (Err fault)

-- what is extracted where a file gives these places: the messages there, each once, by rising place; without a file what
-- the options name
abbrev pub IsAt : Option (List ℕ) → (named extracted : Extraction) → Type 0
IsAt None named e = e ≡ named
IsAt (Some given) named e =
    (places : List ℕ) × AreInOrder given places × (e ≡ record named { selection = At places })
