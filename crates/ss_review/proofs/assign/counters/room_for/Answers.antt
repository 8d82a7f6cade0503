use Rattle.std.proofs.Common.{◌≢◌, ◌-◌, length, sym, arith}
use Rattle.std.proofs.lemmas.Bool.{eqb-false}
use Rattle.ss_octets.proofs.Members.{has_from_contains, contains_from_has}
use Rattle.ss_review.proofs.of_assignment.AssignedPlaces.{last_is_greatest}
use Rattle.ss_review.proofs.of_lists.Searching.{has_at}
use Rattle.ss_review.proofs.assign.counters.room_for.Goals as goal

pub returns-clause-room : goal.returns-clause-room
returns-clause-room c = λ up m here.
    let ms = c.args.messages.now in
    omega (arith, last_is_greatest ms (length ms - 1) (record { place = 0; pair = 0 }) (omega (arith, here.1)) up m (has_from_contains ms m here))

pub returns-clause-least : goal.returns-clause-least
returns-clause-least c = λ n above.
    let ms = c.args.messages.now in
    let some : length ms ≢ 0 = eqb-false (length ms) 0 (sym c.if-is_empty.ensures) in
    let last = has_at ms (length ms - 1) (record { place = 0; pair = 0 }) (omega (arith, some)) in
    omega (arith, above _ (contains_from_has ms _ last))
