use Rattle.std.proofs.Common.{rules, ◌∷◌, [], ◌++◌, length, length-append}
use Rattle.std.proofs.lemmas.Slice.Zip.{zip_turn, zip_end}
use Rattle.ss_report.proofs.of_reports.NightLines.{nights_more, all_nights}
use Rattle.ss_report.proofs.lines.walk.walk_nights.Goals as goal

pub loop-session-preserved : goal.loop-session-preserved
loop-session-preserved g c =
    let ss = c.args.sessions.now in
    let ms = c.args.known.now in
    let m = c.args.missing.now in
    let s = c.in-Some.session in
    let short = c.in-Some.short in
    let n = length c.loop-session.yielded in
    let turn = zip_turn ss ms c.loop-session.yielded c.into_iter-session-iterator.result c.loop-session.session-iterator c.next.new.self c.next.result (search rules) (search rules) c.loop-session.yielded_by (s, short) c.in-Some.is c.next.ensures.steps in
    nights_more c.args.detail m.first m.second (g.V.LineVisitor.takes c.args.visitor.now) ss ms _ _ _ n (length (c.loop-session.yielded ++ (s, short) ∷ [])) s.now short.now turn.0 turn.1 (turn.2 s.now) (turn.3 short.now)
    (length-append c.loop-session.yielded ((s, short) ∷ [])) c.loop-session.invariant c.walk_night.ensures

pub returns : goal.returns
returns g c =
    let ss = c.args.sessions.now in
    let ms = c.args.known.now in
    let m = c.args.missing.now in
    let all = zip_end ss ms c.loop-session.yielded c.into_iter-session-iterator.result c.loop-session.session-iterator c.next.new.self c.next.result (search rules) (search rules) c.loop-session.yielded_by c.in-None.is c.next.ensures.steps in
    all_nights c.args.detail m.first m.second (g.V.LineVisitor.takes c.args.visitor.now) ss ms _ _ (length c.loop-session.yielded) all c.loop-session.invariant
