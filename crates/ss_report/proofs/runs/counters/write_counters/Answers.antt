use Rattle.std.proofs.Common.{rules, ◌∷◌, [], ◌++◌, length, length-append}
use Rattle.std.proofs.lemmas.Slice.Zip.{zip_turn, zip_end}
use Rattle.ss_report.proofs.of_reports.CountersWritten.{IsNextPair, pair_in_range, counters_more, all_counters}
use Rattle.ss_report.proofs.runs.counters.write_counters.Goals as goal

pub write_counters_of-requires : goal.write_counters_of-requires
write_counters_of-requires g c =
    let ss = c.args.sessions.now in
    let cs = c.args.counted.now in
    let s = c.in-Some.session in
    let found = c.in-Some.found in
    let n = length c.loop-session.yielded in
    let turn = zip_turn ss cs c.loop-session.yielded c.into_iter-session-iterator.result c.loop-session.session-iterator c.next.new.self c.next.result (search rules) (search rules) c.loop-session.yielded_by (s, found) c.in-Some.is c.next.ensures.steps in
    let at : IsNextPair ss cs n s.now found.now = record { in_sessions = turn.0; in_counted = turn.1; session = turn.2 s.now; counted = turn.3 found.now } in
    let both = pair_in_range ss cs c.requires n s.now found.now at in
    record { numbers = both.0; gbcs = both.1 }

pub loop-session-preserved : goal.loop-session-preserved
loop-session-preserved g c =
    let ss = c.args.sessions.now in
    let cs = c.args.counted.now in
    let s = c.in-Some.session in
    let found = c.in-Some.found in
    let n = length c.loop-session.yielded in
    let turn = zip_turn ss cs c.loop-session.yielded c.into_iter-session-iterator.result c.loop-session.session-iterator c.next.new.self c.next.result (search rules) (search rules) c.loop-session.yielded_by (s, found) c.in-Some.is c.next.ensures.steps in
    let at : IsNextPair ss cs n s.now found.now = record { in_sessions = turn.0; in_counted = turn.1; session = turn.2 s.now; counted = turn.3 found.now } in
    counters_more ss cs c.args.notation _ _ _ n (length (c.loop-session.yielded ++ (s, found) ∷ [])) s.now found.now at (length-append c.loop-session.yielded ((s, found) ∷ []))
    c.loop-session.invariant c.write_counters_of.ensures

pub returns : goal.returns
returns g c =
    let ss = c.args.sessions.now in
    let cs = c.args.counted.now in
    let all = zip_end ss cs c.loop-session.yielded c.into_iter-session-iterator.result c.loop-session.session-iterator c.next.new.self c.next.result (search rules) (search rules) c.loop-session.yielded_by c.in-None.is c.next.ensures.steps in
    all_counters ss cs c.args.notation _ _ (length c.loop-session.yielded) all c.loop-session.invariant
