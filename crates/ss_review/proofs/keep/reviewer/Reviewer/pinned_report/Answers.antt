use Rattle.std.proofs.Common.{◌≡◌, ℕ, List, sym, ap, ◌∙◌, subst}
use Rattle.std.proofs.lemmas.Result.{IfOk-weaker}
use Rattle.ss_review.specs.declared.report.report.Report.{Report}
use Rattle.ss_review.specs.keep.Contents.{blocks, contents}
use Rattle.ss_review.specs.keep.Keeping.{Keeps, kept_blocks}
use Rattle.ss_review.specs.keep.Notes.{Note}
use Rattle.ss_review.specs.report.Report.{refused, report_of}
use Rattle.ss_review.specs.questions.Questions.{questions, AreAskable}
use Rattle.ss_review.specs.sessions.Verified.{answers}
use Rattle.ss_review.specs.pinned.Claimants.{AreWithin}
use Rattle.ss_review.specs.pinned.Finding.{IsTogether}
use Rattle.ss_review.specs.pinned.Pinned.{kept, left_out, pinned_contents, pinned_questions, refused_pinned}
use Rattle.ss_review.proofs.of_kept_messages.PlacesRise.{blocks_rise, normals_rise}
use Rattle.ss_review.proofs.of_pinned.Asking.{kept_askable}
use Rattle.ss_review.proofs.of_pinned.Refusing.{refused_together}
use Rattle.ss_review.proofs.keep.reviewer.Reviewer.pinned_report.Goals as goal

pub kept_blocks-requires-clause-askable : goal.kept_blocks-requires-clause-askable
kept_blocks-requires-clause-askable g c =
    subst (λ bs. AreAskable g.J.Judge.askable c.args.judge (pinned_questions c.args.payloads.now bs)) (sym c.in_ok-blocks.ensures) c.requires.askable

pub review-requires-clause-askable : goal.review-requires-clause-askable
review-requires-clause-askable g c =
    let says = answers g.J.Judge.trusted g.J.Judge.valid c.args.judge in
    let ps = c.args.payloads.now in
    subst (λ bs. AreAskable g.J.Judge.askable c.args.judge (questions bs)) (sym (c.in_ok-found.ensures.kept ∙ ap (kept says ps) c.in_ok-blocks.ensures))
    (kept_askable g.J.Judge.askable c.args.judge says ps (kept_blocks c.args.self) (subst AreWithin (c.as_slice.ensures.value ∙ c.in_ok-blocks.ensures) c.assure_within.ensures) c.requires.askable)

pub returns : goal.returns
unfolding report_of
returns g c =
    let says = answers g.J.Judge.trusted g.J.Judge.valid c.args.judge in
    let ps = c.args.payloads.now in
    let is : (ns : List Note) → Keeps c.args.self ns → c.in_ok-found.found.kept.items ≡ kept says ps (blocks ns)
    = λ ns k. c.in_ok-found.ensures.kept ∙ ap (kept says ps) (c.in_ok-blocks.ensures ∙ k.blocks) in
    let out : (ns : List Note) → Keeps c.args.self ns → c.in_ok-found.found.left_out.items ≡ left_out says ps (blocks ns)
    = λ ns k. c.in_ok-found.ensures.left_out ∙ ap (left_out says ps) (c.in_ok-blocks.ensures ∙ k.blocks) in
    let report : (ns : List Note) → Keeps c.args.self ns → c.in_ok-report.report ≡ report_of says (pinned_contents says ps (contents ns))
    = λ ns k. c.in_ok-report.ensures (pinned_contents says ps (contents ns)) (k.normal, normals_rise ns) (is ns k) (c.as_slice-2.ensures.value ∙ k.spoilt) k.count in
    let together : (ns : List Note) → Keeps c.args.self ns → IsTogether c.in_ok-report.report.refused c.in_ok-found.found.left_out.items (refused_pinned says ps (blocks ns))
    = λ ns k.
    subst (λ (xs : List ℕ). IsTogether xs c.in_ok-found.found.left_out.items (refused_pinned says ps (blocks ns))) (sym (ap (λ (r : Report). r.refused) (report ns k)))
    (subst (λ (xs : List ℕ). IsTogether (refused says (kept says ps (blocks ns))) xs (refused_pinned says ps (blocks ns))) (sym (out ns k))
    (refused_together says ps (blocks ns) (blocks_rise ns))) in
    λ ns k.
    IfOk-weaker c.with_left_out.result _ _ (λ r e. e ∙ ap (λ (x : Report). record x { refused = refused_pinned says ps (blocks ns) }) (report ns k))
    (c.with_left_out.ensures (refused_pinned says ps (blocks ns)) (together ns k))
