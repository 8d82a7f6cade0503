use Rattle.std.proofs.Common.{◌≡◌, ◌++◌, ap, refl, rules}
use Rattle.ss_review.specs.keep.Notes.{notes}
use Rattle.ss_review.specs.keep.Contents.{blocks}
use Rattle.ss_review.specs.questions.Questions.{questions_shared}
use Rattle.ss_review.specs.pinned.Pinned.{questions_by, sessions_by}
use Rattle.ss_report.specs.runs.Run.{given}
use Rattle.ss_report.specs.declared.payloads.Payloads.TheVariants.{Once}
use Rattle.ss_report.specs.texts.QuestionForms.{questions_end}
use Rattle.ss_report.proofs.of_writing.QuestionLines.{lines_as}
use Rattle.ss_report.proofs.runs.open_review.asked_of.Goals as goal

pub returns-clause-made : goal.returns-clause-made
returns-clause-made c = λ options before after fed notation.
    let bs = blocks (notes fed.messages) in
    let known = given c.args.known in
    let sessions = c.in_ok-sessions.sessions in
    let are : sessions ≡ sessions_by known bs = c.in_ok-sessions.ensures.sessions (notes fed.messages) fed.keeps in
    let asked : questions_shared sessions ≡ questions_by known bs = c.in_ok-sessions.ensures.asked (notes fed.messages) fed.keeps in
    record {
      messages = fed.messages;
      ending = c.args.fed.now.ending;
      reading = fed.reading;
      no_read_failed = fed.no_read_failed;
      unrefused = refl;
      output_is = ap (λ lines. lines ++ questions_end notation) (lines_as notation Once known bs sessions are asked);
      verdict_is = search rules;
    }
