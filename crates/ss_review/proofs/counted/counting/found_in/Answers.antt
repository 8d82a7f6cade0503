use Rattle.std.proofs.Common.{rules, ◌≡◌, List, [], ◌∷◌, length, get_or, map, take, drop, sym, ap, ◌∙◌, subst, length-append}
use Rattle.std.specs.List.Sorted.{IsStrictlySortedBy}
use Rattle.std.proofs.lemmas.List.{get_or-map, length-map}
use Rattle.std.proofs.lemmas.Slice.Zip.{zip_turn}
use Rattle.ss_block.specs.Order.{session_cmp}
use Rattle.ss_review.specs.declared.counted.counting.SessionGbcs.{SessionGbcs}
use Rattle.ss_review.specs.sessions.Sessions.{sessions}
use Rattle.ss_review.specs.sessions.Verified.{is_verified}
use Rattle.ss_review.specs.counted.CountedSoFar.{found_of, with_block}
use Rattle.ss_review.proofs.of_counters.CountedTold.{nothing_yet, found_rise, among_more, written_back}
use Rattle.ss_review.proofs.counted.counting.found_in.Goals as goal

pub loop-block-init : goal.loop-block-init
loop-block-init c = λ says told marks.
    c.in_ok-found.ensures ∙ nothing_yet says c.args.blocks.now c.args.sessions.now told

pub loop-block-preserved : goal.loop-block-preserved
loop-block-preserved c = λ says told marks.
    let bs = c.args.blocks.now in
    let block = c.in-Some.block.now in
    let verified = c.in-Some.is_verified.now in
    let n = length c.loop-block.yielded in
    let test = is_verified says bs in
    let old = c.loop-block.found.items in
    let so_far = c.loop-block.invariant says told marks in
    let turn = zip_turn bs c.args.verified.now c.loop-block.yielded c.into_iter-block-iterator.result c.loop-block.block-iterator c.next.new.self c.next.result (search rules) (search rules) c.loop-block.yielded_by (c.in-Some.block, c.in-Some.is_verified) c.in-Some.is c.next.ensures.steps in
    let slots = c.as_mut_slice.result.now in
    let value = c.as_mut_slice.ensures.value in
    let new = c.add_block.new.found in
    let rise : IsStrictlySortedBy session_cmp (map (λ (f : SessionGbcs). f.session.now) slots)
    = subst (λ (xs : List SessionGbcs). IsStrictlySortedBy session_cmp (map (λ (f : SessionGbcs). f.session.now) xs)) (sym value) (found_rise says bs old (take n bs) so_far) in
    let grown : map found_of new ≡ map (with_block verified block) (map found_of slots) = c.in_ok-add_block.ensures rise in
    let whole : c.loop-block.found.len ≡ length new
    = sym (sym (length-map new found_of) ∙ ap length grown ∙ length-map (map found_of slots) (with_block verified block) ∙ length-map slots found_of ∙ c.as_mut_slice.ensures.len) in
    let mark : verified ≡ test block
    = turn.3 verified ∙ ap (λ vs. get_or vs n verified) marks ∙ get_or-map test bs n block verified turn.0 ∙ ap test (sym (turn.2 block)) in
    ap (map found_of) (written_back new (drop (length new) old) c.loop-block.found.len whole)
    ∙ grown
    ∙ ap (λ xs. map (with_block verified block) (map found_of xs)) value
    ∙ ap (map (with_block verified block)) so_far
    ∙ among_more test (sessions bs) bs n _ block verified turn.0 (length-append c.loop-block.yielded ((c.in-Some.block, c.in-Some.is_verified) ∷ [])) (turn.2 block) mark
