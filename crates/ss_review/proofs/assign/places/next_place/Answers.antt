use Rattle.std.proofs.Common.{◌+◌, ◌++◌, ◌∷◌, [], sym, ap, ◌∙◌, subst, arith}
use Rattle.std.specs.Prelude.{count_by, slice_get}
use Rattle.std.proofs.lemmas.List.{length-map}
use Rattle.std.proofs.lemmas.List.Sums.{count_by-le-length}
use Rattle.ss_review.specs.assign.Assigned.{places_with}
use Rattle.ss_review.specs.assign.Assigning.{is_at, bearers_wanted, bearer_wanted}
use Rattle.ss_review.specs.assign.StoredHashes.{listed, IsFoundFor, counted_at}
use Rattle.ss_review.proofs.of_assignment.AssignedPlaces.{nothing_found, something_found, tallied, untallied}
use Rattle.ss_review.proofs.of_assignment.BearersWanted.{place_by_bearer, no_place}
use Rattle.ss_review.proofs.assign.places.next_place.Goals as goal

pub returns-in_default-clause-place : goal.returns-in_default-clause-place
returns-in_default-clause-place c = λ ms announced before hash l here up f t.
    no_place ms before hash (nothing_found (listed c.args.list.now.pairs.now c.args.list.now.entries.now) ms announced l up hash here (subst (IsFoundFor (listed c.args.list.now.pairs.now c.args.list.now.entries.now) hash) c.in_default.is f))

pub returns-in_default-clause-tallies : goal.returns-in_default-clause-tallies
returns-in_default-clause-tallies c = λ ms announced before hash l here up f t room few q.
    untallied c.args.counters.now (bearers_wanted ms before) t q
    ∙ ap (λ w. count_by (is_at q) (bearers_wanted ms before ++ w ∷ [])) (sym (nothing_found (listed c.args.list.now.pairs.now c.args.list.now.entries.now) ms announced l up hash here (subst (IsFoundFor (listed c.args.list.now.pairs.now c.args.list.now.entries.now) hash) c.in_default.is f)))

-- what the call found, from what stands there in the list
pub returns-clause-place : goal.returns-clause-place
returns-clause-place c = λ ms announced before hash l here up f t.
    let pairs = c.args.list.now.pairs.now in
    let entries = c.args.list.now.entries.now in
    let w = something_found (listed pairs entries) ms announced l up hash c.in-Some.at here (subst (IsFoundFor (listed pairs entries) hash) c.in-Some.is f) in
    let place = c.place.ensures w.stored w.at ∙ w.place in
    let number = c.count-number.ensures.before ∙ ap (counted_at c.args.counters.now) place ∙ t w.message.place in
    c.place_from.ensures w.stored w.at
    ∙ w.places c.count-number.result
    ∙ ap (slice_get (places_with ms w.message.pair)) number
    ∙ place_by_bearer ms up before hash w.message w.wanted

pub returns-clause-tallies : goal.returns-clause-tallies
returns-clause-tallies c = λ ms announced before hash l here up f t room few q.
    let pairs = c.args.list.now.pairs.now in
    let entries = c.args.list.now.entries.now in
    let w = something_found (listed pairs entries) ms announced l up hash c.in-Some.at here (subst (IsFoundFor (listed pairs entries) hash) c.in-Some.is f) in
    let place = c.place.ensures w.stored w.at ∙ w.place in
    let number = c.count-number.ensures.before ∙ ap (counted_at c.args.counters.now) place ∙ t w.message.place in
    let bound = count_by-le-length (is_at w.message.place) (bearers_wanted ms before) in
    tallied c.args.counters.now c.count-number.new.self (bearers_wanted ms before) w.message _ c.count-number.result place t c.count-number.ensures.before
    (c.count-number.ensures.after (omega (arith, room w.message w.stored_message, place)) (omega (arith, number, bound, length-map before (bearer_wanted ms), few))) q
    ∙ ap (λ o. count_by (is_at q) (bearers_wanted ms before ++ o ∷ [])) (sym w.wanted)
