use Rattle.std.proofs.Common.{sym, ◌∙◌, subst}
use Rattle.std.proofs.lemmas.Bool.{true≢false}
use Rattle.ss_review.specs.keep.Stated.{IsStated}
use Rattle.ss_review.specs.sessions.Payloads.{certificate_of}
use Rattle.ss_review.proofs.of_pinned.Agreeing.{agrees_by, not_agreeing, not_as_long}
use Rattle.ss_review.proofs.of_sessions.StatedFragments.{StatedBy, stated_by_some, none_stated}
use Rattle.ss_review.proofs.pinned.agreeing.agrees_in.Goals as goal

pub returns-then-not-is_as_long : goal.returns-then-not-is_as_long
returns-then-not-is_as_long c = sym (not_as_long c.args.payload.now c.args.block.now.said (λ e. true≢false (sym (c.if-not-is_as_long.ensures.1 (c.total.ensures ∙ e)))))

pub returns-in-None : goal.returns-in-None
returns-in-None c =
    let said = c.args.block.now.said in
    sym (not_agreeing c.args.payload.now said (none_stated (certificate_of said) (subst (λ o. IsStated o (certificate_of said)) c.in-None.is c.in_ok-stated.ensures)))

pub returns-in-Some : goal.returns-in-Some
returns-in-Some c =
    let said = c.args.block.now.said in
    let by : StatedBy c.in-Some.stated (certificate_of said)
    = stated_by_some c.in-Some.stated (certificate_of said) (subst (λ o. IsStated o (certificate_of said)) c.in-Some.is c.in_ok-stated.ensures) in
    c.agrees.ensures by.certificate by.states ∙ sym (agrees_by c.args.payload.now said by.certificate by.is)
