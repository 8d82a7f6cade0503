use Rattle.std.proofs.Common.{◌+◌, ◌<◌, ◌^◌, ◌∷◌, [], ◌++◌, get_or, length, take, drop, sym, ap, ◌∙◌, subst, arith}
use Rattle.std.specs.Prelude.{None, Contains, count_by, slice_get}
use Rattle.std.proofs.lemmas.List.{append_assoc, append-nil, drop_all, length-take-le, map_more}
use Rattle.std.proofs.lemmas.Option.{slice_get-get_or}
use Rattle.ss_review.specs.assign.Assigning as assigning
use Rattle.ss_review.specs.assign.Assigning.{pairs_wanted, bearer_wanted, assigned_after, assigned_all}
use Rattle.std.specs.Ordering.{nat_cmp}
use Rattle.std.specs.List.Sorted.{IsStrictlySortedBy}
use Rattle.ss_review.specs.declared.assign.hash_entry.HashEntry.{HashEntry}
use Rattle.ss_review.specs.assign.StoredHashes.{listed, BeginsAsItsHash, Lists}
use Rattle.ss_review.proofs.of_lists.Counting.{assigned_at}
use Rattle.ss_review.proofs.of_lists.Searching.{has_at}
use Rattle.ss_review.proofs.of_kept_messages.StoredTold.{places_told, room_told}
use Rattle.ss_octets.proofs.Members.{contains_from_has}
use Rattle.ss_review.proofs.assign.places.assigned_places.Goals as goal

pub loop-at-init : goal.loop-at-init
loop-at-init c = λ ms t up. (
  ap (λ places. places ++ assigned_after ms [] (pairs_wanted ms c.args.hashes.now)) c.in_ok-places.ensures.items,
  c.in_ok-counters.ensures.none,
  room_told c.args.pairs.now c.args.messages.now ms t _ (c.in_ok-counters.ensures.room (subst (IsStrictlySortedBy nat_cmp) (sym (places_told c.args.pairs.now c.args.messages.now ms t)) up)),
)

pub loop-at-preserved : goal.loop-at-preserved
loop-at-preserved c = λ ms t up.
    let hs = c.args.hashes.now in
    let i = c.loop-at.at-index in
    let so_far = c.loop-at.invariant ms t up in
    let items = c.as_slice-at-items.result.now in
    let same = c.as_slice-at-items.ensures.value in
    let below : i < length hs = omega (arith, c.loop-at-test.true, ap length same, c.in_ok-found.ensures.length) in
    let hash = get_or hs i None in
    let here = contains_from_has hs hash (has_at hs i None below) in
    let in_order = subst (λ es. Lists (listed c.args.pairs.now es) ms hs) (sym c.as_slice.ensures.value) (c.in_ok-entries.ensures.lists ms t) in
    let begin = subst (λ es. (e : HashEntry) → Contains es e → BeginsAsItsHash c.args.pairs.now e) (sym c.as_slice.ensures.value) c.in_ok-entries.ensures.begin in
    let at = ap (λ xs. slice_get xs i) (sym same) ∙ slice_get-get_or items i None c.loop-at-test.true in
    let found = c.in_ok-found.ensures.found (begin, in_order.rises) i hash (get_or items i None) (slice_get-get_or hs i None below) at in
    let place = c.next_place.ensures.place ms hs (take i hs) hash in_order here up found so_far.1 in
    let few : length (take i hs) + 1 < 2 ^ 32 = omega (arith, length-take-le i hs (omega (arith, below)), below, c.in_ok-found.ensures.few) in
    let rest = assigned_after ms (pairs_wanted ms (take (i + 1) hs)) (pairs_wanted ms (drop (i + 1) hs)) in (
      ap (λ places. places ++ rest) c.in_ok-push.ensures.items
          ∙ append_assoc c.loop-at.places.items (c.next_place.result ∷ []) rest
          ∙ ap (λ p. c.loop-at.places.items ++ p ∷ rest) place
          ∙ ap (λ ps. c.loop-at.places.items ++ ps) (sym (assigned_at ms hs i None below))
          ∙ so_far.0,
      λ p. c.next_place.ensures.tallies ms hs (take i hs) hash in_order here up found so_far.1 so_far.2 few p
          ∙ ap (count_by (assigning.is_at p)) (sym (map_more (bearer_wanted ms) hs i None below)),
      λ m h. omega (arith, so_far.2 m h, c.next_place.ensures.length),
    )

pub returns : goal.returns
unfolding assigned_all
returns c = λ ms t up.
    let hs = c.args.hashes.now in
    let so_far = c.loop-at.invariant ms t up in
    sym (append-nil c.loop-at.places.items)
    ∙ ap (λ gs. c.loop-at.places.items ++ assigned_after ms (pairs_wanted ms (take c.loop-at.at-index hs)) (pairs_wanted ms gs))
    (sym (drop_all c.loop-at.at-index hs (omega (arith, c.loop-at-test.false, ap length c.as_slice-at-items.ensures.value, c.in_ok-found.ensures.length))))
    ∙ so_far.0
