use Rattle.std.proofs.Common.{◌≡◌, map, sym, ap, ◌∙◌, subst, Bor}
use Rattle.std.specs.Prelude.{Err, IfOk, MatchOption}
use Rattle.ss_payload.specs.declared.joiner.JoinState.TheVariants.{Whole}
use Rattle.ss_block.specs.Joining.{HasState, IsPayload}
use Rattle.ss_review.specs.keep.BlockMessage.{BlockMessage}
use Rattle.ss_review.specs.declared.report.session_report.SessionState.{SessionState}
use Rattle.ss_review.specs.sessions.Payloads.{certificates}
use Rattle.ss_review.specs.sessions.Stated.{stated_in_turn}
use Rattle.ss_review.proofs.of_sessions.Stating.{stated_in_turn-IsStatedBy, whole_payload, unjoined_payload}
use Rattle.ss_review.proofs.sessions.joining.stated_payload.Goals as goal

pub returns-in-Some : goal.returns-in-Some
returns-in-Some c =
    let cs = certificates (map (λ (m : Bor BlockMessage). m.now) c.args.blocks.now) in
    let s = stated_in_turn cs in
    let told : HasState s Whole × IsPayload s c.in-Some.text
    = subst (λ o. MatchOption o (¬ HasState s Whole) (λ t. HasState s Whole × IsPayload s t)) c.in-Some.is (c.in_ok-text.ensures.payload s c.in_ok-joiner.ensures) in
    subst (λ p. IfOk c.payload_or_malformed.result (λ r. r ≡ p))
    (sym (whole_payload cs s (stated_in_turn-IsStatedBy cs) told.0 c.in-Some.text told.1))
    c.payload_or_malformed.ensures

pub returns : goal.returns
returns c =
    let cs = certificates (map (λ (m : Bor BlockMessage). m.now) c.args.blocks.now) in
    let s = stated_in_turn cs in
    let unjoined : ¬ HasState s Whole
    = subst (λ o. MatchOption o (¬ HasState s Whole) (λ t. HasState s Whole × IsPayload s t)) c.in-None.is (c.in_ok-text.ensures.payload s c.in_ok-joiner.ensures) in
    ap (λ (state : SessionState). Err state) c.unjoined.ensures
    ∙ sym (unjoined_payload cs s (stated_in_turn-IsStatedBy cs) unjoined c.state.result (c.state.ensures s c.in_ok-joiner.ensures))
