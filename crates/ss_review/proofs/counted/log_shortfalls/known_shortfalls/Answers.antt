use Rattle.std.proofs.Common.{rules, ◌≤◌, ◌++◌, ◌∷◌, [], length, map, sym, ap, ◌∙◌, subst, length-append}
use Rattle.std.specs.Ordering.{nat_cmp}
use Rattle.std.specs.List.Sorted.{IsStrictlySortedBy}
use Rattle.std.proofs.lemmas.Slice.Zip.{zip_turn, zip_end}
use Rattle.ss_block.specs.Ranges.{past_last_number}
use Rattle.ss_review.specs.counted.Counted.{next_after}
use Rattle.ss_review.specs.counted.Kept.{shortfall_in, shortfall_beside, AreGroups}
use Rattle.ss_review.specs.counted.KeptSoFar.{led_to}
use Rattle.ss_review.proofs.of_counters.KnownSessions.{groups_are, range_is, known_more, known_all}
use Rattle.ss_review.proofs.counted.log_shortfalls.known_shortfalls.Goals as goal

pub loop-session-preserved : goal.loop-session-preserved
loop-session-preserved c = λ up are.
    let cs = led_to c.args.sorted.now in
    let ss = c.args.sessions.now in
    let qs = c.args.counted.now in
    let n = length c.loop-session.yielded in
    let s = c.in-Some.session.now in
    let q = c.in-Some.own_gbcs.now in
    let turn = zip_turn ss qs c.loop-session.yielded c.into_iter-session-iterator.result c.loop-session.session-iterator c.next.new.self c.next.result (search rules) (search rules) c.loop-session.yielded_by (c.in-Some.session, c.in-Some.own_gbcs) c.in-Some.is c.next.ensures.steps in
    let groups = groups_are ss qs are n s turn.0 (turn.2 s) in
    let range = range_is ss qs are n q turn.1 (turn.3 q) in
    let its_groups = c.as_slice.ensures in
    let its_gbcs = c.as_slice-in-loop-session.ensures in
    let own = c.of_session-own.ensures up in
    let here =
    c.in_ok-shortfall.ensures (subst AreGroups (sym its_groups) groups) (subst (IsStrictlySortedBy nat_cmp) (sym its_gbcs) range.rise) (subst (λ ns. next_after ns ≤ past_last_number) (sym its_gbcs) range.next)
    ∙ (λ i. shortfall_in (own i) s.session (its_groups i) (its_gbcs i)) in
    c.in_ok-push.ensures.items
    ∙ (λ i. c.loop-session.invariant up are i ++ here i ∷ [])
    ∙ sym (known_more ss qs (shortfall_beside cs) n _ s q turn.0 turn.1 (length-append c.loop-session.yielded ((c.in-Some.session, c.in-Some.own_gbcs) ∷ [])) (turn.2 s) (turn.3 q))

pub returns : goal.returns
returns c = λ up are.
    let ss = c.args.sessions.now in
    let qs = c.args.counted.now in
    let n = length c.loop-session.yielded in
    let last = zip_end ss qs c.loop-session.yielded c.into_iter-session-iterator.result c.loop-session.session-iterator c.next.new.self c.next.result (search rules) (search rules) c.loop-session.yielded_by c.in-None.is c.next.ensures.steps in
    c.from_vec.ensures
    ∙ c.loop-session.invariant up are
    ∙ ap (map (shortfall_beside (led_to c.args.sorted.now))) (known_all ss qs n last)
