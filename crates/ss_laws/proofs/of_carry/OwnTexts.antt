-- The logs that a keeper makes with a scheme for each night are those of one scheme that agrees with them.
use Rattle.std.proofs.Common.{◌≡◌, ℕ, zero, suc, ◌≤◌, List, ◌∷◌, ◌++◌, map, refl, ap, ◌∙◌, arith}
use Rattle.std.specs.Prelude.{Result, Ok, Err, slice_get}
use Rattle.std.specs.List.{flat_map, filter_map}
use Rattle.ss_block.specs.declared.session.Session.{Session}
use Rattle.ss_review.specs.keep.BlockMessage.{BlockMessage}
use Rattle.ss_review.specs.declared.questions.question.Question.TheVariants as question
use Rattle.ss_review.specs.declared.report.session_report.SessionState.{SessionState}
use Rattle.ss_review.specs.keep.Notes.{notes}
use Rattle.ss_review.specs.keep.Contents.{blocks, contents}
use Rattle.ss_review.specs.sessions.Sessions.{same_session, of_session}
use Rattle.ss_review.specs.sessions.Payloads.{certificate_of, certificates, stated_payload}
use Rattle.ss_review.specs.sessions.Verified.{Answers}
use Rattle.ss_review.specs.counted.KeptLaws.{log_counters}
use Rattle.ss_review.specs.questions.Questions.{question_about, asked, questions}
use Rattle.ss_review.specs.report.Report.{report}
use Rattle.ss_review.proofs.of_lists.Mapped.{map-map, filter-map, filter_map-map}
use Rattle.ss_review.proofs.of_questions.AgreeingSchemes.{one_report_of}
use Rattle.ss_laws.specs.parts.Parts.{messages_of}
use Rattle.ss_laws.proofs.of_parts.MovedBlocks.{moved_block, sessions_moved}
use Rattle.ss_report.specs.runs.Carrying.{carried_by}
use Rattle.ss_laws.specs.carry.CarriedNights.{carried_texts, night_texts}
use Rattle.ss_laws.specs.carry.OwnAnswers.{AgreeOn, AgreeOnLogs, own_texts, AreAlikeLogs}
use Rattle.ss_laws.proofs.of_carry.AlikeAnswers.{agree_back, counters_alike}

-- ---- the questions about blocks at other places

module _ (f : ℕ → ℕ) where
  asked_moved : (bs : List BlockMessage) (r : Result (List ℕ) SessionState) → asked (map (moved_block f) bs) r ≡ asked bs r
  asked_moved bs (Err state) = refl
  asked_moved bs (Ok payload) = ap (λ qs. question.Trust payload ∷ qs) (map-map (question_about payload) (moved_block f) bs)

  of_moved : (bs : List BlockMessage) (s : Session) → of_session (map (moved_block f) bs) s ≡ map (moved_block f) (of_session bs s)
  of_moved bs s = filter-map (λ (b : BlockMessage). same_session b.session s) (moved_block f) bs

  certificates_moved : (bs : List BlockMessage) → certificates (map (moved_block f) bs) ≡ certificates bs
  certificates_moved bs = filter_map-map (λ (b : BlockMessage). certificate_of b.said) (moved_block f) bs

  asked_at : (bs : List BlockMessage) (s : Session)
      → asked (of_session (map (moved_block f) bs) s) (stated_payload (certificates (of_session (map (moved_block f) bs) s)))
      ≡ asked (of_session bs s) (stated_payload (certificates (of_session bs s)))
  asked_at bs s =
      ap (λ ds. asked ds (stated_payload (certificates ds))) (of_moved bs s)
      ∙ ap (λ cs. asked (map (moved_block f) (of_session bs s)) (stated_payload cs)) (certificates_moved (of_session bs s))
      ∙ asked_moved (of_session bs s) (stated_payload (certificates (of_session bs s)))

  pub questions_moved : (bs : List BlockMessage) → questions (map (moved_block f) bs) ≡ questions bs
  unfolding questions
  questions_moved bs = λ i. flat_map (λ s. asked_at bs s i) (sessions_moved f bs i)

-- ---- one night after the other

same_carried : (says other : Answers) (messages : List (List ℕ)) → AgreeOn says other (blocks (notes messages)) → carried_texts other messages ≡ carried_texts says messages
same_carried says other messages alike =
    ap (λ r. filter_map (slice_get messages) (carried_by r (blocks (notes messages))))
    (one_report_of other says (contents (notes messages)) (agree_back says other (blocks (notes messages)) alike))

module _ (says : Answers) (own : ℕ → Answers) (file : ℕ → ℕ) (log : List (List ℕ)) (last : ℕ) (agree : AgreeOnLogs says own file log last) where
  pub same_texts : (night : ℕ) → night ≤ last → own_texts own file log night ≡ night_texts says file log night
  same_texts zero low = refl
  same_texts (suc night) low =
      ap (λ messages. messages ++ messages_of file (suc night) log)
      (same_carried says (own night) (own_texts own file log night) (agree night (omega (arith, low)))
      ∙ ap (carried_texts says) (same_texts night (omega (arith, low))))

  pub logs_alike : (night : ℕ) → night ≤ last → AreAlikeLogs says own file log night
  logs_alike night low =
      let texts = own_texts own file log night in
      let back = agree_back says (own night) (blocks (notes texts)) (agree night low) in
      let same = same_texts night low in
      record {
        texts = same;
        reports = one_report_of (own night) says (contents (notes texts)) back ∙ ap (report says) same;
        counters = counters_alike (own night) says (contents (notes texts)) back ∙ ap (log_counters says) same;
      }
