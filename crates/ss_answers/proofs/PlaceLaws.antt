-- A text of places is read in one way, and shows no fault.
use Rattle.std.proofs.Common.{◌≡◌, ℕ, ◌+◌, ◌<◌, ◌≤◌, inl, List, [], ◌∷◌, ◌++◌, length, sym, refl, ap, ◌∙◌, subst, arith, length-append}
use Rattle.std.specs.Fmt.{decimal}
use Rattle.std.specs.List.{AllByRecursion}
use Rattle.std.proofs.lemmas.Fmt.{decimal_nonempty}
use Rattle.std.proofs.lemmas.List.Elements.{recursion_from_All}
use Rattle.ss_octets.specs.Ascii.{lf}
use Rattle.ss_octets.proofs.Base64Text.{Clear}
use Rattle.ss_answers.specs.Lines.{AreLines, ended}
use Rattle.ss_answers.specs.PlaceFile.{BeginsWithPlaces, BreaksOffInLine, HasFirstBadPlace, HasPlaces, HasTooManyPlaces, IsPlace, PlacesAreReadBack, text_of_places}
use Rattle.ss_answers.proofs.CounterWords.{Clear-decimal, decimal-injective}
use Rattle.ss_answers.proofs.Cuts.{clear_nowhere}
use Rattle.ss_answers.proofs.LineLaws as laws
use Rattle.ss_answers.proofs.LineLaws.{AreSpelt, ended-cons}
use Rattle.ss_answers.proofs.ReadLines.{first_clear}

are_spelt : AreSpelt IsPlace decimal
are_spelt = record {
  clear = λ place h. Clear-decimal lf place (omega arith) (omega (arith, h));
  some = λ place h e. omega (arith, decimal_nonempty place (omega (arith, h)), ap length e);
  apart = λ a b h k e. decimal-injective a b (omega (arith, h)) (omega (arith, k)) e;
}

lines : {text places : List ℕ} → HasPlaces text places → AreLines IsPlace decimal text places
lines has = record { fields = has.fields; spelt = inl has.spelt }

no_others : (text places others : List ℕ) → HasPlaces text places → HasPlaces text others → others ≡ places
no_others text places others has other = laws.lines_are_determined IsPlace decimal are_spelt text others places (lines other) (lines has)

none_bad : (text places : List ℕ) (number : ℕ) → HasPlaces text places → HasFirstBadPlace text number → ⊥
none_bad text places number has bad =
    laws.none_good_and_bad IsPlace decimal are_spelt text places number (lines has) (record {
      lines = bad.places;
      rest = bad.line ++ lf ∷ bad.after;
      fields = bad.begins.fields;
      before = bad.begins.spelt;
      some = bad.begins.some;
      place = bad.place;
      bad = rw (first_clear bad.line bad.after (recursion_from_All _ bad.line bad.lacks)) bad.bad;
    })

-- what follows the first places of a text of places
after : {text places before rest : List ℕ} → HasPlaces text places → BeginsWithPlaces text before rest
    → (others : List ℕ) × (places ≡ before ++ others) × (rest ≡ text_of_places others)
after {text} {places} {before} {rest} has begins =
    laws.first_ones IsPlace decimal are_spelt before places rest begins.fields has.fields (sym begins.spelt ∙ has.spelt)

-- places whose text has no line feed are none
clear_none : (others rest : List ℕ) → Clear lf rest → rest ≡ text_of_places others → length rest ≡ 0
clear_none [] rest clear e = ap length e
clear_none (place ∷ others) rest clear e =
    absurd (clear_nowhere lf (decimal place) (ended decimal others) (subst (Clear lf) (e ∙ ended-cons decimal place others) clear))

whole : (text places : List ℕ) → HasPlaces text places → BreaksOffInLine text → ⊥
whole text places has off =
    let more = after has off.begins in
    omega (arith, off.begins.some, clear_none more.0 off.rest (recursion_from_All _ off.rest off.lacks) more.2)

-- no places are no text
none : (others rest : List ℕ) → length others ≡ 0 → rest ≡ text_of_places others → length rest ≡ 0
none [] rest e is = ap length is
none (place ∷ others) rest e is = absurd (omega (arith, e))

few : (text places : List ℕ) → HasPlaces text places → HasTooManyPlaces text → ⊥
few text places has many =
    let more = after has many.begins in
    let left : length more.0 ≡ 0 = omega (arith, ap length more.1, length-append many.places more.0, many.all, has.few) in
    omega (arith, many.begins.some, none more.0 many.rest left more.2)

pub places_are_read_back : PlacesAreReadBack
places_are_read_back places good small =
    let text = text_of_places places in
    let has : HasPlaces text places = record { fields = recursion_from_All IsPlace places good; few = small; spelt = refl } in
    record {
      has = has;
      no_others = λ others other. no_others text places others has other;
      none_bad = λ number bad. none_bad text places number has bad;
      whole = λ off. whole text places has off;
      few = λ many. few text places has many;
    }
