use Rattle.std.proofs.Common.{◌≡◌, ℕ, List, length, filter, map, refl, sym, ap, ◌∙◌, subst}
use Rattle.ss_review.specs.sessions.FoundBlocks.{KeepsWhatHolds}
use Rattle.ss_review.specs.sessions.Payloads.{certificates, cover}
use Rattle.ss_review.specs.sessions.Sectioned.{referred}
use Rattle.ss_review.specs.sessions.Verified.{answers, is_valid}
use Rattle.ss_review.specs.pinned.Pinned.{speaks_for}
use Rattle.ss_review.proofs.of_pinned.Finding.{claims_where}
use Rattle.ss_review.proofs.pinned.claiming.spoken_for.Goals as goal

pub returns-then-branch : goal.returns-then-branch
returns-then-branch g c =
    let says = answers g.J.Judge.trusted g.J.Judge.valid c.args.judge.now in
    let p = c.args.payload.now in
    let own = referred c.args.blocks.now in
    let same : c.as_slice-text.result.now ≡ p = c.as_slice-text.ensures in
    let had = c.new-found.ensures (is_valid says c.as_slice-text.result.now) in
    let speaking = c.as_slice.ensures.value ∙ c.in_ok-speaking.ensures.speaking had ∙ ap (λ t. map (speaks_for says t) own) same in
    let covers = c.in_ok-covered.ensures (speaks_for says p) speaking ∙ ap (λ (t : List ℕ). cover (certificates (filter (speaks_for says p) own)) (length t)) same in (
      claims_where says p own c.requires.may c.requires.trusted ∙ sym covers ∙ c.if-branch.true,
      refl,
      subst (λ t. KeepsWhatHolds (is_valid says t) c.speaking.new.found) same (c.in_ok-speaking.ensures.kept had),
    )

pub returns : goal.returns
returns g c =
    let says = answers g.J.Judge.trusted g.J.Judge.valid c.args.judge.now in
    let p = c.args.payload.now in
    let own = referred c.args.blocks.now in
    let same : c.as_slice-text.result.now ≡ p = c.as_slice-text.ensures in
    let had = c.new-found.ensures (is_valid says c.as_slice-text.result.now) in
    let speaking = c.as_slice.ensures.value ∙ c.in_ok-speaking.ensures.speaking had ∙ ap (λ t. map (speaks_for says t) own) same in
    let covers = c.in_ok-covered.ensures (speaks_for says p) speaking ∙ ap (λ (t : List ℕ). cover (certificates (filter (speaks_for says p) own)) (length t)) same in
    claims_where says p own c.requires.may c.requires.trusted ∙ sym covers ∙ c.if-branch.false
