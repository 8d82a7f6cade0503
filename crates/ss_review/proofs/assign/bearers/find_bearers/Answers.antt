use Rattle.std.proofs.Common.{◌≡◌, suc, ◌+◌, ◌<◌, ◌^◌, length, slice_set, map, sym, ap, ◌∙◌, subst, arith}
use Rattle.std.proofs.Math.ListN.{length-set}
use Rattle.std.specs.Prelude.{Some}
use Rattle.std.proofs.lemmas.List.{length-map}
use Rattle.ss_review.specs.declared.assign.hash_list.HashList.{HashList}
use Rattle.ss_review.specs.assign.StoredHashes.{listed, IsInOrder, FoundLast, IsNotBelow, IsBearerAt, KeyedHash, keyed, Wanted}
use Rattle.ss_review.proofs.of_assignment.ListedHashes.{bearer_within}
use Rattle.ss_review.proofs.of_assignment.Searches.{BearingsSoFar, NoneIsBelow, none_is_below, next_not_below, rest_not_below, bearings_start, bearings_set, bearings_past, bearings_end}
use Rattle.ss_review.proofs.of_assignment.WantedHashes.{element}
use Rattle.ss_review.proofs.assign.bearers.find_bearers.Goals.{then-key-len, else-key-len}
use Rattle.ss_review.proofs.assign.bearers.find_bearers.Goals as goal

pub loop-one-init : goal.loop-one-init
loop-one-init c =
    let hs = c.args.hashes.now in
    let ws = map keyed c.as_slice-one-items.result.now in
    let is = subst (λ vs. Wanted (map keyed vs) hs) (sym c.as_slice-one-items.ensures.value) c.in_ok-wanted.ensures.wanted in
    let search = c.new-search.result in (
      c.in_ok-found.ensures.length,
      c.new-search.ensures.list,
      none_is_below hs ws is search.last c.new-search.ensures.none,
      λ up. (subst (λ (l : HashList). FoundLast (listed l.pairs.now l.entries.now) search.start search.found search.last) c.new-search.ensures.list c.new-search.ensures.start, bearings_start hs ws is (listed c.args.list.now.pairs.now c.args.list.now.entries.now) c.in_ok-found.found.items c.in_ok-found.ensures.nothing),
    )

pub loop-one-preserved : goal.loop-one-preserved
loop-one-preserved c =
    let hs = c.args.hashes.now in
    let list = listed c.args.list.now.pairs.now c.args.list.now.entries.now in
    let ws = map keyed c.as_slice-one-items.result.now in
    let n = c.loop-one.one-index in
    let more : suc n ≡ n + 1 = omega arith in
    let few : length c.args.list.now.entries.now < 2 ^ 32 = omega arith in
    let here = element c.as_slice-one-items.result.now n _ c.find.new.self.last c.find.ensures.last c.loop-one-test.true in
    let one = here.0 in
    let at = here.1 in
    let is = subst (λ vs. Wanted (map keyed vs) hs) (sym c.as_slice-one-items.ensures.value) c.in_ok-wanted.ensures.wanted in
    let so_far = c.loop-one.found.items in
    let place = c.narrowed-at.result in
    let before = c.loop-one.search in
    let after = c.find.new.self in
    let inv = c.loop-one.invariant in
    let above = subst (λ (k : KeyedHash). IsNotBelow k.hash before.last) here.2 (next_not_below hs ws is n one at before.last inv.2) in
    let old_list = inv.1 in
    let new_list = c.find.ensures.list ∙ old_list in
    let at_start = λ (up : IsInOrder c.args.list.now). subst (λ (l : HashList). FoundLast (listed l.pairs.now l.entries.now) before.start before.found before.last) (sym old_list) (inv.3 up).0 in
    let told = λ (up : IsInOrder c.args.list.now). subst (λ (k : KeyedHash). IsBearerAt (listed before.list.pairs.now before.list.entries.now) k.hash c.find.result) (sym here.2) (c.find.ensures.found (subst IsInOrder (sym old_list) up) (at_start up) above) in
    let bears = λ (up : IsInOrder c.args.list.now). subst (λ (l : HashList). IsBearerAt (listed l.pairs.now l.entries.now) one.hash c.find.result) old_list (told up) in
    let narrow = λ (up : IsInOrder c.args.list.now). subst (IsBearerAt list one.hash) (sym (c.narrowed-at.ensures (λ i e. omega (arith, few, bearer_within c.args.list.now.pairs.now c.args.list.now.entries.now one.hash c.find.result (bears up) i e)))) (bears up) in
    let set = λ (up : IsInOrder c.args.list.now). subst (λ (k : KeyedHash). BearingsSoFar list hs ws (n + 1) (slice_set so_far k.key place)) here.2 (subst (λ m. BearingsSoFar list hs ws m (slice_set so_far one.key place)) more (bearings_set hs ws is n one at list so_far place (narrow up) (inv.3 up).1)) in (
      elim c.if-key-len.branch [
        | then-key-len w ↦ ap (λ v. length v.items) w.found-is ∙ length-set so_far _ place ∙ inv.0
        | else-key-len w ↦ ap (λ v. length v.items) w.found-is ∙ inv.0
      ],
      new_list,
      subst (NoneIsBelow ws (n + 1)) (sym c.find.ensures.last) (subst (λ (k : KeyedHash). NoneIsBelow ws (n + 1) (Some k.hash)) here.2 (subst (λ m. NoneIsBelow ws m (Some one.hash)) more (rest_not_below hs ws is n one at))),
      λ up. (
        subst (λ (l : HashList). FoundLast (listed l.pairs.now l.entries.now) after.start after.found after.last) new_list
            (subst (FoundLast (listed after.list.pairs.now after.list.entries.now) after.start after.found) (sym c.find.ensures.last) (c.find.ensures.next (subst IsInOrder (sym old_list) up) (at_start up) above)),
        elim c.if-key-len.branch [
          | then-key-len w ↦ subst (BearingsSoFar list hs ws (n + 1)) (sym (ap (λ v. v.items) w.found-is)) (set up)
          | else-key-len w ↦ subst (BearingsSoFar list hs ws (n + 1)) (sym (ap (λ v. v.items) w.found-is))
              (subst (λ m. BearingsSoFar list hs ws m so_far) more (bearings_past hs ws is n one at list so_far place (omega (arith, c.len.ensures, w.if-key-len.false, ap (λ (k : KeyedHash). k.key) here.2)) (narrow up) (inv.3 up).1))
        ],
      ),
    )

pub returns-clause-few : goal.returns-clause-few
returns-clause-few c = c.in_ok-wanted.ensures.few

pub returns-clause-found : goal.returns-clause-found
returns-clause-found c = λ up.
    let hs = c.args.hashes.now in
    let ws = map keyed c.as_slice-one-items.result.now in
    let is = subst (λ vs. Wanted (map keyed vs) hs) (sym c.as_slice-one-items.ensures.value) c.in_ok-wanted.ensures.wanted in
    bearings_end hs ws is (listed c.args.list.now.pairs.now c.args.list.now.entries.now) c.loop-one.one-index c.loop-one.found.items (omega (arith, length-map c.as_slice-one-items.result.now keyed, c.loop-one-test.false)) (c.loop-one.invariant.3 up).1
