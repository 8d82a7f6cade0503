-- The lines of a text of places: what each spells, and a step of reading them.
use Rattle.std.proofs.Common.{◌≡◌, ℕ, ◌<◌, List, [], ◌∷◌, ◌++◌, Some, None, sym, ap, ◌∙◌, arith, append_assoc}
use Rattle.std.specs.Fmt.{decimal}
use Rattle.ss_octets.specs.Ascii.{lf}
use Rattle.ss_octets.specs.Number.{number_in}
use Rattle.ss_block.proofs.Values.{in_range}
use Rattle.ss_answers.specs.Lines.{SpellsNone}
use Rattle.ss_answers.specs.PlaceFile.{IsPlace, text_of_places}
use Rattle.ss_answers.proofs.CounterWords.{no_number, number_is}
use Rattle.ss_answers.proofs.ReadLines.{ended-push}

-- a number that is read is a place
pub is_place : (line : List ℕ) (place : ℕ) → number_in 0 9999999 line ≡ Some place → IsPlace place
is_place line place e = let within = in_range 0 9999999 line place e in omega (arith, within.1)

-- a line that isn't read spells no place
pub no_place : (line : List ℕ) → number_in 0 9999999 line ≡ None → SpellsNone IsPlace decimal line
no_place line none = λ place good spelt. no_number 0 9999999 line place (omega arith) none (omega arith) (omega (arith, good)) spelt

-- a place more
pub places_push : (text rest line after places : List ℕ) (place : ℕ) → text ≡ text_of_places places ++ rest → rest ≡ line ++ lf ∷ after
    → number_in 0 9999999 line ≡ Some place → text ≡ text_of_places (places ++ place ∷ []) ++ after
places_push text rest line after places place spelt cut is =
    spelt
    ∙ ap (λ t. text_of_places places ++ t) (cut ∙ ap (λ t. t ++ lf ∷ after) (number_is 0 9999999 line place is) ∙ sym (append_assoc (decimal place) (lf ∷ []) after))
    ∙ sym (append_assoc (text_of_places places) (decimal place ++ lf ∷ []) after)
    ∙ ap (λ t. t ++ after) (sym (ended-push decimal places place))
