use Rattle.std.proofs.Common.{ℕ, List, Bor, ap, ◌∙◌}
use Rattle.std.specs.Prelude.{option_map}
use Rattle.ss_review.specs.keep.Contents.{blocks}
use Rattle.ss_review.specs.questions.Questions.{questions_shared}
use Rattle.ss_review.specs.pinned.Pinned.{sessions_by}
use Rattle.ss_review.proofs.of_questions.AskedShared.{shared_by}
use Rattle.ss_review.proofs.keep.reviewer.Reviewer.ask_by.Goals as goal

pub returns : goal.returns
returns c =
    let known = option_map (λ (ps : Bor (List (List ℕ))). ps.now) c.args.known in
    let told = c.in_ok-sessions_by.ensures ∙ ap (sessions_by known) (c.as_slice-2.ensures.value ∙ c.in_ok-blocks.ensures ∙ c.as_slice.ensures.value) in
    record {
      sessions = λ ns k. told ∙ ap (sessions_by known) k.blocks;
      asked = λ ns k. ap questions_shared (told ∙ ap (sessions_by known) k.blocks) ∙ shared_by known (blocks ns);
      fault = tt;
    }
