use Rattle.std.proofs.Common.{cond, [], ◌∷◌, ◌++◌, take, map, Bor, sym, ap, ◌∙◌, arith}
use Rattle.std.proofs.lemmas.List.{append-nil, take_all}
use Rattle.ss_block.specs.declared.session.Session.{Session}
use Rattle.ss_review.specs.declared.counted.shortfall.Shortfall.{Shortfall}
use Rattle.ss_review.specs.declared.report.session_report.SessionReport.{SessionReport}
use Rattle.ss_review.specs.counted.Kept.{shortfall, shortfall_in, absent_among}
use Rattle.ss_review.specs.counted.KeptSoFar.{led_to}
use Rattle.ss_review.proofs.of_counters.KnownSessions.{no_groups, no_values, absent_more}
use Rattle.ss_review.proofs.counted.log_shortfalls.absent_shortfalls.Goals.{then-not-is_known+in_ok-shortfall+in_ok-push, else-not-is_known}
use Rattle.ss_review.proofs.counted.log_shortfalls.absent_shortfalls.Goals as goal

pub loop-session-preserved : goal.loop-session-preserved
loop-session-preserved c = λ stand up.
    let cs = led_to c.args.sorted.now in
    let kept = c.args.kept.now in
    let n = c.loop-session.session-index in
    let s = c.session-item.result in
    let known = map (λ (r : SessionReport). r.session) c.args.sessions.now in
    let F : Session → Shortfall = λ t. shortfall cs t [] [] in
    let more = absent_more F known kept n s c.is_known.result c.loop-session-test.true c.session-item.is (c.is_known.ensures up) in
    let before = map F (absent_among (map (λ (t : Bor Session). t.now) (take n kept)) known) in
    elim c.if-not-is_known.branch [
      | then-not-is_known+in_ok-shortfall+in_ok-push w ↦
          let here = w.in_ok-shortfall.ensures no_groups no_values (omega arith) ∙ ap (λ own. shortfall_in own s.now [] []) (w.of_session-own.ensures stand) in
          ap (λ v. v.items) w.absent-is
          ∙ w.in_ok-push.ensures.items
          ∙ (λ i. c.loop-session.invariant stand up i ++ here i ∷ [])
          ∙ sym (more ∙ ap (λ b. before ++ map F (cond b [] (s.now ∷ []))) w.if-not-is_known.true)
      | else-not-is_known w ↦
          ap (λ v. v.items) w.absent-is
          ∙ c.loop-session.invariant stand up
          ∙ sym (more ∙ ap (λ b. before ++ map F (cond b [] (s.now ∷ []))) w.if-not-is_known.false ∙ append-nil before)
    ]

pub returns : goal.returns
returns c = λ stand up.
    c.from_vec.ensures
    ∙ c.loop-session.invariant stand up
    ∙ ap (λ ss. map (λ t. shortfall (led_to c.args.sorted.now) t [] []) (absent_among (map (λ (s : Bor Session). s.now) ss) (map (λ (r : SessionReport). r.session) c.args.sessions.now))) (take_all c.loop-session.session-index c.args.kept.now c.loop-session-test.false)
