use Rattle.std.proofs.Common.{rules, ◌∷◌, [], ◌++◌, length, length-append}
use Rattle.std.proofs.lemmas.Slice.Zip.{zip_turn, zip_end}
use Rattle.ss_report.proofs.of_writing.OnceTexts.{once_more, once_all}
use Rattle.ss_report.proofs.texts.questions_once.write_questions_once.Goals as goal

pub loop-mark-preserved : goal.loop-mark-preserved
loop-mark-preserved g c =
    let ms = c.args.marked.now in
    let ss = c.args.sessions.now in
    let m = c.in-Some.mark in
    let s = c.in-Some.session in
    let n = length c.loop-mark.yielded in
    let turn = zip_turn ms ss c.loop-mark.yielded c.into_iter-mark-iterator.result c.loop-mark.mark-iterator c.next.new.self c.next.result (search rules) (search rules) c.loop-mark.yielded_by (m, s) c.in-Some.is c.next.ensures.steps in
    once_more c.args.notation ms ss _ _ _ n (length (c.loop-mark.yielded ++ (m, s) ∷ [])) m.now s.now turn.0 turn.1 (turn.2 m.now) (turn.3 s.now) (length-append c.loop-mark.yielded ((m, s) ∷ []))
    c.loop-mark.invariant c.write_session_once.ensures

pub returns : goal.returns
returns g c =
    let ms = c.args.marked.now in
    let ss = c.args.sessions.now in
    let all = zip_end ms ss c.loop-mark.yielded c.into_iter-mark-iterator.result c.loop-mark.mark-iterator c.next.new.self c.next.result (search rules) (search rules) c.loop-mark.yielded_by c.in-None.is c.next.ensures.steps in
    once_all c.args.notation ms ss _ _ (length c.loop-mark.yielded) c.requires all c.loop-mark.invariant
