use Rattle.std.proofs.Common.{◌≡◌, List, [], map, Bor, sym, ap, ◌∙◌, subst}
use Rattle.std.specs.List.{zip}
use Rattle.ss_block.specs.declared.session.Session.{Session}
use Rattle.ss_review.specs.declared.counted.counted_session.CountedSession.{CountedSession}
use Rattle.ss_review.specs.declared.counted.counter.Counter.{Counter}
use Rattle.ss_review.specs.declared.counted.shortfall.Shortfall.{Shortfall}
use Rattle.ss_review.specs.declared.report.session_report.SessionReport.{SessionReport}
use Rattle.ss_review.specs.counted.Kept.{counters_of, shortfall_in, absent_among, log_shortfalls}
use Rattle.ss_review.specs.counted.KeptSoFar.{led_to, StandBySession}
use Rattle.ss_review.proofs.counted.log_shortfalls.log_shortfalls.Goals as goal

pub returns : goal.returns
unfolding log_shortfalls
returns c = λ are.
    let sorted = c.in_ok-sorted.sorted.items in
    let sessions = c.args.sessions.now in
    let pairs = zip sessions c.args.counted.now in
    let reported = map (λ (s : SessionReport). s.session) sessions in
    let first = c.as_slice.ensures.value in
    let second = c.as_slice-2.ensures.value in
    let third = c.as_slice-3.ensures.value in
    let own : ◌≡◌ {A = Session → List Counter} (λ s. counters_of (led_to sorted) s) (λ s. counters_of c.args.counters.now s) = λ i s. c.in_ok-sorted.ensures.same s i in
    let known : (Session → List Counter) → List Shortfall = λ f. map (λ (p : SessionReport × CountedSession). shortfall_in (f p.0.session) p.0.session p.0.groups p.1.gbcs) pairs in
    let absent : (Session → List Counter) → List Session → List Shortfall = λ f kept. map (λ (s : Session). shortfall_in (f s) s [] []) (absent_among kept reported) in
    let known_is =
    c.in_ok-known_shortfalls.ensures (subst StandBySession (sym first) c.in_ok-sorted.ensures.stand) are
    ∙ (λ i. known (λ s. counters_of (led_to (first i)) s))
    ∙ ap known own in
    let absent_is =
    c.in_ok-absent_shortfalls.ensures (subst StandBySession (sym second) c.in_ok-sorted.ensures.stand) are.rise
    ∙ (λ i. absent (λ s. counters_of (led_to (second i)) s) (map (λ (s : Bor Session). s.now) (third i)))
    ∙ (λ i. absent (own i) (c.in_ok-kept.ensures i)) in
    λ i. record { known = known_is i; absent = absent_is i }
