use Rattle.std.proofs.Common.{ap, ◌∙◌}
use Rattle.ss_review.specs.declared.questions.asked.AskedSession.{AskedSession}
use Rattle.ss_report.proofs.of_writing.MarksSoFar.{marked_all, marked_more, marked_none}
use Rattle.ss_report.proofs.texts.payload_marks.marks_of.Goals as goal

pub loop-session-init : goal.loop-session-init
loop-session-init c = marked_none _ _ _ c.new-known.ensures.empty c.new-known.ensures.len c.in_ok-marks.ensures.items

pub loop-session-preserved : goal.loop-session-preserved
loop-session-preserved c =
    let so_far = c.loop-session.invariant in
    let payload = c.as_slice.ensures ∙ ap (λ (s : AskedSession). s.payload) c.session-item.is in
    marked_more c.next_mark.new.known c.loop-session.known c.loop-session.marks.items c.push.new.self.items c.args.sessions.now c.loop-session.session-index c.session-item.result c.as_slice.result.now c.in_ok-next_mark.field-0
    c.loop-session-test.true payload so_far (c.in_ok-next_mark.ensures _ so_far.known) c.in_ok-push.ensures.items

pub returns : goal.returns
returns c = marked_all _ _ c.args.sessions.now c.loop-session.session-index c.loop-session-test.false c.loop-session.invariant
