-- A message is plain where it has neither of the two block elements.
use Rattle.std.proofs.Common.{◌≡◌, ℕ, ◌+◌, Bool, true, false, cond, List, [], ◌∷◌, refl, ap}
use Rattle.std.specs.Prelude.{◌||◌, not, Option, Some, None, is_some}
use Rattle.std.specs.List.{All, AllByRecursion}
use Rattle.std.specs.Str.{bytes_eq}
use Rattle.std.proofs.lemmas.Bool.{le-leb}
use Rattle.std.proofs.lemmas.List.Elements.{recursion_from_All}
use Rattle.ss_message.specs.declared.message.Element.{Element}
use Rattle.ss_message.specs.Octets.{part_of}
use Rattle.ss_message.specs.Elements.{element_from}
use Rattle.ss_message.specs.Message.{ElementValue}
use Rattle.ss_message.specs.Layout.{element_value, element_values}
use Rattle.ss_message.specs.Places.{ElementIsWithin}
use Rattle.ss_block.specs.declared.spoil.Spoil.{Spoil}
use Rattle.ss_block.specs.declared.reading.Reading.{Reading}
use Rattle.ss_block.specs.Reading.{unless_spoilt, first_cause, signature_causes, signature_texts, signature_block, signature_names, has_parameters, signature_reading, certificate_causes, certificate_texts, certificate_block, certificate_names, certificate_reading, element_with, reading_with}
use Rattle.ss_block.specs.declared.reading.Reading.TheVariants as readings
use Rattle.ss_origin.specs.Refusals.{is_unparsed, is_plain}

-- an element with the SD-ID is found by its span where one is found by what it says
same_from : (n : ℕ) (source id : List ℕ) (es : List Element) → AllByRecursion (ElementIsWithin source) es → is_some (element_from n source id es) ≡ is_some (element_with id (element_values source es))
same_from n source id [] within = refl
same_from n source id (e ∷ es) within =
    let low = le-leb _ _ within.0.0.0 in
    let high = le-leb _ _ within.0.0.1 in
    rw (low, high) (by (bytes_eq (part_of source e.id) id) (same_from (n + 1) source id es within.1))
  where
    by : (b : Bool) → is_some (element_from (n + 1) source id es) ≡ is_some (element_with id (element_values source es))
        → is_some (cond b (Some n) (element_from (n + 1) source id es)) ≡ is_some (cond b (Some (element_value source e)) (element_with id (element_values source es)))
    by true rest = refl
    by false rest = rest

pub found_alike : (source id : List ℕ) (es : List Element) → All (ElementIsWithin source) es → is_some (element_from 0 source id es) ≡ is_some (element_with id (element_values source es))
found_alike source id es within = same_from 0 source id es (recursion_from_All (ElementIsWithin source) es within)

-- ---- a block element makes a message that isn't plain, whatever stands in it

abbrev IsBlock : Reading → Type 0
IsBlock r = (is_plain r ≡ false) × (is_unparsed r ≡ false)

signature_blocks : (e : ElementValue) → IsBlock (signature_reading e)
unfolding signature_reading
signature_blocks e = by (first_cause (signature_causes (has_parameters signature_names e) (signature_texts e)))
  where
    by : (o : Option Spoil) → IsBlock (unless_spoilt o (readings.Signature (signature_block (signature_texts e))))
    by None = (refl, refl)
    by (Some cause) = (refl, refl)

certificate_blocks : (e : ElementValue) → IsBlock (certificate_reading e)
unfolding certificate_reading
certificate_blocks e = by (first_cause (certificate_causes (has_parameters certificate_names e) (certificate_texts e)))
  where
    by : (o : Option Spoil) → IsBlock (unless_spoilt o (readings.Certificate (certificate_block (certificate_texts e))))
    by None = (refl, refl)
    by (Some cause) = (refl, refl)

pub plain_without : (signature certificate : Option ElementValue) → not (is_plain (reading_with signature certificate)) ≡ (is_some signature || is_some certificate)
plain_without None None = refl
plain_without (Some e) None = ap not (signature_blocks e).0
plain_without None (Some e) = ap not (certificate_blocks e).0
plain_without (Some e) (Some f) = refl

pub parsed_with : (signature certificate : Option ElementValue) → is_unparsed (reading_with signature certificate) ≡ false
parsed_with None None = refl
parsed_with (Some e) None = (signature_blocks e).1
parsed_with None (Some e) = (certificate_blocks e).1
parsed_with (Some e) (Some f) = refl
