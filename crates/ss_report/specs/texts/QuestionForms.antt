-- The forms of the text of the questions about a log.
use Rattle.std.specs.Prelude.{ℕ, List, [], Option, codes}
use Rattle.ss_review.specs.keep.BlockMessage.{BlockMessage}
use Rattle.ss_review.specs.declared.questions.asked.AskedSession.{AskedSession}
use Rattle.ss_review.specs.pinned.Pinned.{questions_by, sessions_by}
use Rattle.ss_report.specs.records.Written.{written}
use Rattle.ss_report.specs.texts.QuestionText.{asking_lines, question_lines}
use Rattle.ss_report.specs.texts.QuestionsOnce.{once_text_of}
use Rattle.ss_report.specs.declared.notation.Notation.{Notation}
use Rattle.ss_report.specs.declared.notation.Notation.TheVariants.{Plain}
use Rattle.ss_report.specs.declared.payloads.Payloads.{Payloads}
use Rattle.ss_report.specs.declared.payloads.Payloads.TheVariants as payloads

-- what is asked about these sessions, with each payload in each question about it, or once
abbrev pub asking_lines_as : Notation → Payloads → List AskedSession → List ℕ
asking_lines_as notation payloads.InEach ss = asking_lines notation ss
asking_lines_as notation payloads.Once ss = once_text_of notation ss

-- what a review of these blocks asks, by the payloads that are known beforehand, or without any: in plain text the
-- questions alone, with each payload in each
abbrev pub questions_as : Notation → Payloads → (known : Option (List (List ℕ))) → List BlockMessage → List ℕ
questions_as Plain payloads.InEach known bs = question_lines (questions_by known bs)
questions_as notation payloads.InEach known bs = asking_lines notation (sessions_by known bs)
questions_as notation payloads.Once known bs = once_text_of notation (sessions_by known bs)

-- the line after the last question of a review that waits for answers
abbrev pub questions_end : Notation → List ℕ
questions_end notation = written notation (record { kind = codes "end"; fields = [] })
