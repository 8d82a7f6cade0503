use Rattle.std.proofs.Common.{rules, ◌||◌, sym, ap, ◌∙◌, subst, get_or, All}
use Rattle.std.specs.Prelude.{Contains}
use Rattle.std.specs.List.{list_any}
use Rattle.std.proofs.lemmas.Fn.{always_returns_same}
use Rattle.std.proofs.lemmas.List.Elements.{All-get_or, Contains-get_or}
use Rattle.std.proofs.lemmas.Result.{IfOk-weaker}
use Rattle.ss_block.specs.Order.{session_cmp}
use Rattle.ss_block.specs.OrderLaws.{session_cmp_exact}
use Rattle.ss_review.specs.declared.pinned.claimant.ClaimedSession.{ClaimedSession}
use Rattle.ss_review.specs.sessions.Verified.{answers}
use Rattle.ss_review.specs.pinned.Finding.{payloads_of, IsFoundRight, AreFoundRight}
use Rattle.ss_review.specs.report.Verdict.{is_none}
use Rattle.ss_review.specs.pinned.Pinned.{is_signature, speaks_for}
use Rattle.ss_octets.proofs.Members.{has_from_contains}
use Rattle.ss_review.proofs.of_pinned.Keeping.{found_keeps, is_found}
use Rattle.ss_review.proofs.pinned.keeping.keeps.Goals as goal

pub keeps_by-requires-clause-askable : goal.keeps_by-requires-clause-askable
keeps_by-requires-clause-askable g c = λ claimant h.
    let xs = c.args.sessions.now in
    let d = c.index-sessions-index.result in
    let x = get_or xs c.in-Ok.index d in
    let tie = c.in-Ok.ensures.position (λ (x : ClaimedSession). session_cmp x.session.now c.args.block.now.session) (always_returns_same _ _ _ (λ a r q k. search rules)) d in
    c.requires.askable x claimant (Contains-get_or xs c.in-Ok.index d c.in-Ok.ensures.bound) (session_cmp_exact x.session.now c.args.block.now.session tie)
    (subst (λ cs. Contains cs claimant) c.as_slice.ensures.value h)

pub returns-in-Ok : goal.returns-in-Ok
returns-in-Ok g c = λ ps bs stored told right.
    let says = answers g.J.Judge.trusted g.J.Judge.valid c.args.judge.now in
    let xs = c.args.sessions.now in
    let b = c.args.block.now in
    let d = c.index-sessions-index.result in
    let x = get_or xs c.in-Ok.index d in
    let tie = c.in-Ok.ensures.position (λ (x : ClaimedSession). session_cmp x.session.now b.session) (always_returns_same _ _ _ (λ a r q k. search rules)) d in
    let among = Contains-get_or xs c.in-Ok.index d c.in-Ok.ensures.bound in
    let same = c.as_slice.ensures.value in
    let keeps_it =
    ap (λ cs. is_signature b.said || is_none (payloads_of cs) || list_any (λ p. speaks_for says p b) (payloads_of cs)) same
    ∙ found_keeps says ps bs xs told b x (has_from_contains xs x among) (session_cmp_exact x.session.now b.session tie) in
    IfOk-weaker c.keeps_by.result _ _ (λ b e. e ∙ keeps_it)
    (c.keeps_by.ensures (subst (All (IsFoundRight says)) (sym same) (All-get_or (AreFoundRight says) xs c.in-Ok.index d c.in-Ok.ensures.bound right)))

pub returns-in-Err : goal.returns-in-Err
returns-in-Err g c = λ ps bs stored told right.
    absurd (is_found (answers g.J.Judge.trusted g.J.Judge.valid c.args.judge.now) ps bs c.args.sessions.now told c.args.block.now (has_from_contains bs c.args.block.now stored) c.in-Err.field-0
    (c.in-Err.ensures.position (λ (x : ClaimedSession). session_cmp x.session.now c.args.block.now.session) (always_returns_same _ _ _ (λ a r q k. search rules))))
