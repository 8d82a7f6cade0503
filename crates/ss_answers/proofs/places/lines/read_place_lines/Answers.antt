use Rattle.std.proofs.Common.{◌≡◌, ◌∷◌, ◌++◌, [], length, length-append, subst, sym, ap, ◌∙◌, arith, rules}
use Rattle.std.specs.List.{AllByRecursion}
use Rattle.ss_octets.specs.Ascii.{lf}
use Rattle.ss_answers.specs.PlaceFile.{IsPlace, text_of_places}
use Rattle.ss_answers.proofs.PlaceLines.{is_place, no_place, places_push}
use Rattle.ss_answers.proofs.ReadLines.{good-push}
use Rattle.ss_answers.proofs.places.lines.read_place_lines.Goals as goal

pub returns-in_default-number_of-clause-err : goal.returns-in_default-number_of-clause-err
returns-in_default-number_of-clause-err c =
    let cut = c.in-Some.ensures.cut in
    record {
      places = c.loop-rest.places.items;
      line = c.in-Some.line.now;
      after = c.in-Some.after.now;
      begins = record {
        fields = c.loop-rest.invariant.fields;
        spelt = c.loop-rest.invariant.spelt ∙ ap (λ t. text_of_places c.loop-rest.places.items ++ t) cut.1;
        some = omega (arith, length-append c.in-Some.line.now (lf ∷ c.in-Some.after.now));
      };
      few = search rules;
      lacks = cut.0;
      bad = no_place c.in-Some.line.now (sym c.number_of.ensures ∙ c.in_default-number_of.is);
      place = search rules;
    }

pub overflow_cast-place : goal.overflow_cast-place
overflow_cast-place c =
    let within = is_place c.in-Some.line.now c.in-Some-number_of.place (sym c.number_of.ensures ∙ c.in-Some-number_of.is) in
    omega (arith, within)

pub loop-rest-preserved : goal.loop-rest-preserved
loop-rest-preserved c =
    let is = sym c.number_of.ensures ∙ c.in-Some-number_of.is in
    let within = is_place c.in-Some.line.now c.in-Some-number_of.place is in
    record {
      fields = search (rules, within, good-push IsPlace c.loop-rest.places.items c.in-Some-number_of.place c.loop-rest.invariant.fields within);
      few = search rules;
      spelt = search (rules, places_push _ _ _ _ c.loop-rest.places.items c.in-Some-number_of.place c.loop-rest.invariant.spelt c.in-Some.ensures.cut.1 is);
    }
