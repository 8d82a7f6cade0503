use Rattle.std.proofs.Common.{List, ◌++◌, sym, subst, flat_map}
use Rattle.std.specs.Prelude.{zip}
use Rattle.ss_review.specs.declared.counted.counted_session.CountedSession.{CountedSession}
use Rattle.ss_review.specs.declared.report.session_report.SessionReport.{SessionReport}
use Rattle.ss_report.specs.runs.Counters.{AreInRange, counters_beside, counters_end, counter_lines_with}
use Rattle.ss_report.proofs.of_reading.Answered.{runs_if_ok, stops_if_err, fails_by_write, never_of_memory}
use Rattle.ss_report.proofs.of_writing.Writings.{writes_same, writes_then}
use Rattle.ss_report.proofs.runs.counters.run_counters.Goals as goal

pub write_counters-requires : goal.write_counters-requires
write_counters-requires g c =
    subst (λ (p : List SessionReport × List CountedSession). AreInRange p.0 p.1) (λ i. (sym c.as_slice.ensures i, sym c.as_slice-2.ensures i)) c.in_ok-counted.ensures.made.1

pub returns-clause-counted : goal.returns-clause-counted
unfolding counter_lines_with
returns-clause-counted g c =
    let written = writes_same _ _ _ _ (writes_then _ _ _ _ _ c.write_counters.ensures c.write_counters_end.ensures)
    (λ i. flat_map (counters_beside c.args.notation) (zip (c.as_slice.ensures i) (c.as_slice-2.ensures i)) ++ counters_end c.args.notation (c.in_ok-counted.ensures.made.2 i)) in
    runs_if_ok _ _ _ _ _ _ _ (c.end_run.ensures _ _ _ _ _ _ (c.in_ok-counted.ensures.made.0 c.args.notation) written)

pub returns-clause-stopped : goal.returns-clause-stopped
unfolding counter_lines_with
returns-clause-stopped g c =
    let written = writes_same _ _ _ _ (writes_then _ _ _ _ _ c.write_counters.ensures c.write_counters_end.ensures)
    (λ i. flat_map (counters_beside c.args.notation) (zip (c.as_slice.ensures i) (c.as_slice-2.ensures i)) ++ counters_end c.args.notation (c.in_ok-counted.ensures.made.2 i)) in
    stops_if_err _ _ _ _ _ _ _ (c.end_run.ensures _ _ _ _ _ _ (c.in_ok-counted.ensures.made.0 c.args.notation) written)

pub returns-clause-untouched : goal.returns-clause-untouched
unfolding counter_lines_with
returns-clause-untouched g c =
    let written = writes_same _ _ _ _ (writes_then _ _ _ _ _ c.write_counters.ensures c.write_counters_end.ensures)
    (λ i. flat_map (counters_beside c.args.notation) (zip (c.as_slice.ensures i) (c.as_slice-2.ensures i)) ++ counters_end c.args.notation (c.in_ok-counted.ensures.made.2 i)) in
    fails_by_write _ _ _ _ _ _ _ _ (c.end_run.ensures _ _ _ _ _ _ (c.in_ok-counted.ensures.made.0 c.args.notation) written)

pub returns-clause-code : goal.returns-clause-code
unfolding counter_lines_with
returns-clause-code g c =
    let written = writes_same _ _ _ _ (writes_then _ _ _ _ _ c.write_counters.ensures c.write_counters_end.ensures)
    (λ i. flat_map (counters_beside c.args.notation) (zip (c.as_slice.ensures i) (c.as_slice-2.ensures i)) ++ counters_end c.args.notation (c.in_ok-counted.ensures.made.2 i)) in
    never_of_memory _ _ _ _ _ _ _ (c.end_run.ensures _ _ _ _ _ _ (c.in_ok-counted.ensures.made.0 c.args.notation) written)
