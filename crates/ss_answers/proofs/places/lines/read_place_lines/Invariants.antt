use Rattle.std.proofs.Common.{◌≡◌, ◌++◌, ◌≤◌, length}
use Rattle.std.specs.List.{AllByRecursion}
use Rattle.ss_answers.specs.PlaceFile.{IsPlace, text_of_places}
use Rattle.ss_answers.proofs.places.lines.read_place_lines.Given as goal

abbrev pub invariant-loop-rest : goal.invariant-loop-rest
invariant-loop-rest l = record {
  fields : AllByRecursion IsPlace l.places.items;
  few : length l.places.items ≤ 10000000;
  spelt : l.text ≡ text_of_places l.places.items ++ l.rest;
}

abbrev pub decreases-loop-rest : goal.decreases-loop-rest
decreases-loop-rest l = length l.rest
