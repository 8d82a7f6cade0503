use Rattle.std.proofs.Common.{ap, ◌∙◌}
use Rattle.ss_review.specs.keep.Contents.{blocks}
use Rattle.ss_review.specs.questions.Questions.{asked_sessions, questions_shared}
use Rattle.ss_review.proofs.of_questions.AskedShared.{sessions_shared}
use Rattle.ss_review.proofs.of_questions.NeededBlocks.{same_sessions}
use Rattle.ss_review.proofs.questions.questioner.Questioner.ask.Goals as goal

pub returns : goal.returns
returns c =
    let told = c.in_ok-asked_sessions.ensures ∙ ap asked_sessions (c.as_slice.ensures.value ∙ c.in_ok-blocks.ensures) in
    record {
      sessions = λ ns k. told ∙ same_sessions c.args.self.blocks.items (blocks ns) k.blocks;
      asked = λ ns k. ap questions_shared (told ∙ same_sessions c.args.self.blocks.items (blocks ns) k.blocks) ∙ sessions_shared (blocks ns);
      fault = tt;
    }
