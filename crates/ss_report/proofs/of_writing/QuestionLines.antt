-- The lines of what is asked about sessions, one session after the other.
use Rattle.std.proofs.Common.{◌≡◌, ℕ, List, [], ◌∷◌, ◌++◌, map, Option, refl, sym, ap, ◌∙◌, append-nil}
use Rattle.std.specs.List.{flat_map}
use Rattle.std.proofs.lemmas.List.{map-append}
use Rattle.std.proofs.lemmas.List.Concat.{flat_map-append}
use Rattle.ss_review.specs.keep.BlockMessage.{BlockMessage}
use Rattle.ss_review.specs.declared.questions.asked.AskedBlock.{AskedBlock}
use Rattle.ss_review.specs.declared.questions.asked.AskedSession.{AskedSession}
use Rattle.ss_review.specs.declared.questions.question.Question.{Question}
use Rattle.ss_review.specs.declared.questions.question.Question.TheVariants.{Trust}
use Rattle.ss_review.specs.questions.Questions.{question_under, session_questions, questions_shared}
use Rattle.ss_review.specs.pinned.Pinned.{questions_by, sessions_by}
use Rattle.ss_report.specs.declared.notation.Notation.{Notation}
use Rattle.ss_report.specs.declared.notation.Notation.TheVariants.{Plain}
use Rattle.ss_report.specs.declared.payloads.Payloads.{Payloads}
use Rattle.ss_report.specs.declared.payloads.Payloads.TheVariants.{InEach, Once}
use Rattle.ss_report.specs.texts.Asked.{AskTrust, AskYes, Asking, askings, question_of, session_askings}
use Rattle.ss_report.specs.texts.QuestionForms.{asking_lines_as, questions_as}
use Rattle.ss_report.specs.records.Record.{Value}
use Rattle.ss_report.specs.records.Written.{written}
use Rattle.ss_report.specs.texts.QuestionText.{asking_lines, asking_text, question_fields, question_kind, question_lines, question_text}
use Rattle.ss_report.specs.texts.QuestionsOnce.{once_text_of}

-- ---- the questions of what is asked

blocks_asked : (s : AskedSession) (bs : List AskedBlock) → map question_of (map (AskYes s) bs) ≡ map (question_under s.payload) bs
blocks_asked s [] = refl
blocks_asked s (b ∷ bs) = ap (λ qs. question_under s.payload b ∷ qs) (blocks_asked s bs)

session_asked : (s : AskedSession) → map question_of (session_askings s) ≡ session_questions s
session_asked s = ap (λ qs. Trust s.payload ∷ qs) (blocks_asked s s.blocks)

sessions_asked : (ss : List AskedSession) → map question_of (flat_map session_askings ss) ≡ flat_map session_questions ss
sessions_asked [] = refl
sessions_asked (s ∷ ss) =
    map-append question_of (session_askings s) (flat_map session_askings ss)
    ∙ ap (λ qs. qs ++ map question_of (flat_map session_askings ss)) (session_asked s)
    ∙ ap (λ qs. session_questions s ++ qs) (sessions_asked ss)

pub all_asked : (ss : List AskedSession) → map question_of (askings ss) ≡ questions_shared ss
unfolding askings questions_shared
all_asked ss = sessions_asked ss

-- plain text leaves out what a question is about
plain_line : (x : Asking) → asking_text Plain x ≡ question_text (question_of x)
plain_line x =
    ap (λ (fields : List (List ℕ × Value)). written Plain (record { kind = question_kind (question_of x); fields = fields })) (append-nil (question_fields (question_of x)))

plain_lines : (xs : List Asking) → flat_map (asking_text Plain) xs ≡ flat_map question_text (map question_of xs)
plain_lines [] = refl
plain_lines (x ∷ xs) = λ i. plain_line x i ++ plain_lines xs i

-- in plain text the lines are those of the questions
pub plain_is : (ss : List AskedSession) (qs : List Question) → questions_shared ss ≡ qs → asking_lines Plain ss ≡ question_lines qs
unfolding asking_lines question_lines
plain_is ss qs are = plain_lines (askings ss) ∙ ap (flat_map question_text) (all_asked ss ∙ are)

-- what is written of the sessions that a log asks about is what the run writes of its blocks
pub lines_as : (notation : Notation) (payloads : Payloads) (known : Option (List (List ℕ))) (bs : List BlockMessage) (ss : List AskedSession)
    → ss ≡ sessions_by known bs → questions_shared ss ≡ questions_by known bs → asking_lines_as notation payloads ss ≡ questions_as notation payloads known bs
lines_as Plain InEach known bs ss are asked = plain_is ss (questions_by known bs) asked
lines_as notation InEach known bs ss are asked = ap (asking_lines notation) are
lines_as notation Once known bs ss are asked = ap (once_text_of notation) are

-- where each payload is written in each question, and where it is written once
pub each_lines : (notation : Notation) (payloads : Payloads) (ts ss : List AskedSession) → payloads ≡ InEach → ts ≡ ss → asking_lines notation ts ≡ asking_lines_as notation payloads ss
each_lines notation payloads ts ss is same =
    ap (asking_lines notation) same ∙ ap (λ (p : Payloads). asking_lines_as notation p ss) (sym is)

pub once_lines : (notation : Notation) (payloads : Payloads) (ts ss : List AskedSession) → payloads ≡ Once → ts ≡ ss → once_text_of notation ts ≡ asking_lines_as notation payloads ss
once_lines notation payloads ts ss is same =
    ap (once_text_of notation) same ∙ ap (λ (p : Payloads). asking_lines_as notation p ss) (sym is)

-- ---- how they are written

-- the line about a block of a session
abbrev pub yes_line : Notation → AskedSession → AskedBlock → List ℕ
yes_line notation s b = asking_text notation (AskYes s b)

-- the lines about a session
abbrev pub asked_lines : Notation → AskedSession → List ℕ
asked_lines notation s = flat_map (asking_text notation) (session_askings s)

module _ (notation : Notation) where
  yes_lines : (s : AskedSession) (bs : List AskedBlock) → flat_map (yes_line notation s) bs ≡ flat_map (asking_text notation) (map (AskYes s) bs)
  yes_lines s [] = refl
  yes_lines s (b ∷ bs) = ap (λ ls. yes_line notation s b ++ ls) (yes_lines s bs)

  pub lines_asked : (s : AskedSession) → asking_text notation (AskTrust s) ++ flat_map (yes_line notation s) s.blocks ≡ asked_lines notation s
  lines_asked s = ap (λ ls. asking_text notation (AskTrust s) ++ ls) (yes_lines s s.blocks)

  lines_of : (ss : List AskedSession) → flat_map (asked_lines notation) ss ≡ flat_map (asking_text notation) (flat_map session_askings ss)
  lines_of [] = refl
  lines_of (s ∷ ss) = ap (λ ls. asked_lines notation s ++ ls) (lines_of ss) ∙ sym (flat_map-append (asking_text notation) (session_askings s) (flat_map session_askings ss))

  pub lines_shared : (ss : List AskedSession) → flat_map (asked_lines notation) ss ≡ asking_lines notation ss
  unfolding asking_lines askings
  lines_shared ss = lines_of ss
