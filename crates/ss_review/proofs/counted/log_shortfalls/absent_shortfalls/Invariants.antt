-- What is missing of the absent sessions so far.
use Rattle.std.proofs.Common.{◌≡◌, [], take, map, Bor}
use Rattle.std.specs.List.Sorted.{IsStrictlySortedBy}
use Rattle.ss_block.specs.declared.session.Session.{Session}
use Rattle.ss_block.specs.Order.{session_cmp}
use Rattle.ss_review.specs.declared.report.session_report.SessionReport.{SessionReport}
use Rattle.ss_review.specs.counted.Kept.{shortfall, absent_among}
use Rattle.ss_review.specs.counted.KeptSoFar.{led_to, StandBySession}
use Rattle.ss_review.proofs.counted.log_shortfalls.absent_shortfalls.Given as goal

abbrev pub invariant-loop-session : goal.invariant-loop-session
invariant-loop-session l = StandBySession l.sorted → IsStrictlySortedBy session_cmp (map (λ (s : SessionReport). s.session) l.sessions)
    → l.absent.items ≡ map (λ s. shortfall (led_to l.sorted) s [] []) (absent_among (map (λ (s : Bor Session). s.now) (take l.session-index l.kept)) (map (λ (s : SessionReport). s.session) l.sessions))
