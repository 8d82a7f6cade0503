use Rattle.std.proofs.Common.{refl, sym, ap, ◌∙◌}
use Rattle.std.specs.Prelude.{None, option_map, if◌then◌else◌}
use Rattle.ss_review.specs.sessions.Covering.{span_of}
use Rattle.ss_review.specs.sessions.Payloads.{certificate_of}
use Rattle.ss_review.specs.sessions.Verified.{answers, is_valid}
use Rattle.ss_review.proofs.of_sessions.EqualBlocks.{valid_alike}
use Rattle.ss_review.proofs.sessions.accepting.accepted_span.Goals as goal

pub returns-then-branch-clause-span : goal.returns-then-branch-clause-span
returns-then-branch-clause-span g c = λ had.
    let says = answers g.J.Judge.trusted g.J.Judge.valid c.args.judge.now in
    let valid = c.in_ok-valid_once.ensures.valid (is_valid says c.args.payload.now) had refl in
    sym c.in-Some.is
    ∙ c.span.ensures
    ∙ ap (λ t. if t then option_map span_of (certificate_of c.args.message.now.said) else None) (sym c.if-branch.true ∙ valid)

pub returns-else-branch-clause-span : goal.returns-else-branch-clause-span
returns-else-branch-clause-span g c = λ had.
    let says = answers g.J.Judge.trusted g.J.Judge.valid c.args.judge.now in
    let valid = c.in_ok-valid_once.ensures.valid (is_valid says c.args.payload.now) had refl in
    ap (λ t. if t then option_map span_of (certificate_of c.args.message.now.said) else None) (sym c.if-branch.false ∙ valid)

pub returns-then-branch-clause-kept : goal.returns-then-branch-clause-kept
returns-then-branch-clause-kept g c = λ had.
    let says = answers g.J.Judge.trusted g.J.Judge.valid c.args.judge.now in
    c.in_ok-valid_once.ensures.kept (is_valid says c.args.payload.now) (valid_alike says c.args.payload.now) had refl

pub returns-else-branch-clause-kept : goal.returns-else-branch-clause-kept
returns-else-branch-clause-kept g c = λ had.
    let says = answers g.J.Judge.trusted g.J.Judge.valid c.args.judge.now in
    c.in_ok-valid_once.ensures.kept (is_valid says c.args.payload.now) (valid_alike says c.args.payload.now) had refl
