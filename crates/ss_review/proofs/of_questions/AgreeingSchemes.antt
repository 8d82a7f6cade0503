-- Two schemes that answer alike all that is asked about a log give it one report.
use Rattle.std.proofs.Common.{◌≡◌, inl, inr, Bool, true, false, cond, not, List, [], ◌∷◌, length, map, filter, refl, ap, ◌∙◌}
use Rattle.std.specs.Prelude.{ℕ, Contains, Result, Ok, Err}
use Rattle.std.specs.List.{flat_map}
use Rattle.ss_block.specs.declared.session.Session.{Session}
use Rattle.ss_review.specs.declared.report.session_report.SessionState.{SessionState}
use Rattle.ss_review.specs.declared.report.session_report.SessionState.TheVariants as states
use Rattle.ss_review.specs.declared.questions.question.Question.{Question}
use Rattle.ss_review.specs.declared.questions.question.Question.TheVariants as question
use Rattle.ss_review.specs.keep.BlockMessage.{BlockMessage}
use Rattle.ss_review.specs.keep.Contents.{Contents}
use Rattle.ss_review.specs.Ordered.{in_order}
use Rattle.ss_review.specs.sessions.Sessions.{sessions, of_session}
use Rattle.ss_review.specs.sessions.Payloads.{certificates, cover, stated_payload}
use Rattle.ss_review.specs.sessions.Verified.{Answers, is_valid, is_accepted, judged, joined, state_in, is_valid_in, is_verified}
use Rattle.ss_review.specs.announced.Announced.{row_cmp, rows_said, rows}
use Rattle.ss_review.specs.questions.Questions.{question_about, asked, questions, answer}
use Rattle.ss_review.specs.report.Report.{groups, group_report, session_report, unlisted, refused, report_of}
use Rattle.ss_octets.proofs.Members.{Has, contains_from_has, has-map}
use Rattle.ss_review.proofs.of_lists.Sections.{map_agree}
use Rattle.ss_review.proofs.of_questions.AskableBlocks.{has-questions, has-sessions, has-own}

-- tests that agree at each member keep the same
filter_agree : {X : Type 0} (p q : X → Bool) (xs : List X) → ((x : X) → Has xs x → p x ≡ q x) → filter p xs ≡ filter q xs
filter_agree p q [] e = refl
filter_agree p q (x ∷ xs) e =
    let head : p x ≡ q x = e x (inl refl) in
    let rest : filter p xs ≡ filter q xs = filter_agree p q xs (λ y h. e y (inr h)) in
    λ i. cond (head i) (x ∷ rest i) (rest i)

-- ---- one session

-- the blocks of a session, and two schemes that answer alike what is asked about them
module _ (says other : Answers) (bs : List BlockMessage) where
  abbrev AgreeOn : Result (List ℕ) SessionState → Type 0
  AgreeOn r = (q : Question) → Has (asked bs r) q → answer says q ≡ answer other q

  valid_alike : (payload : List ℕ) → AgreeOn (Ok payload) → (b : BlockMessage) → Has bs b → is_valid says payload b ≡ is_valid other payload b
  valid_alike payload alike b h = alike (question_about payload b) (inr (has-map (question_about payload) bs b h))

  judged_alike : (r : Result (List ℕ) SessionState) → AgreeOn r → judged says bs r ≡ judged other bs r
  judged_alike (Err state) alike = refl
  judged_alike (Ok payload) alike =
      let trust : says.trusted payload ≡ other.trusted payload = alike (question.Trust payload) (inl refl) in
      let valid : filter (is_valid says payload) bs ≡ filter (is_valid other payload) bs
      = filter_agree (is_valid says payload) (is_valid other payload) bs (valid_alike payload alike) in
      λ i. cond (not (trust i)) (Err states.Untrusted) (cond (cover (certificates (valid i)) (length payload)) (Ok payload) (Err states.Unaccepted))

  -- a judged session is joined under the stated payload, or not at all
  valid_in_judged : (payload : List ℕ) (b : BlockMessage) → is_valid says payload b ≡ is_valid other payload b → (distrusted accepted : Bool)
      → is_valid_in says (cond distrusted (Err states.Untrusted) (cond accepted (Ok payload) (Err states.Unaccepted))) b
      ≡ is_valid_in other (cond distrusted (Err states.Untrusted) (cond accepted (Ok payload) (Err states.Unaccepted))) b
  valid_in_judged payload b e true accepted = refl
  valid_in_judged payload b e false true = e
  valid_in_judged payload b e false false = refl

  valid_in_alike : (r : Result (List ℕ) SessionState) → AgreeOn r → (b : BlockMessage) → Has bs b → is_valid_in says (judged says bs r) b ≡ is_valid_in other (judged other bs r) b
  valid_in_alike (Err state) alike b h = refl
  valid_in_alike (Ok payload) alike b h =
      ap (λ r. is_valid_in says r b) (judged_alike (Ok payload) alike)
      ∙ valid_in_judged payload b (valid_alike payload alike b h) (not (other.trusted payload)) (is_accepted other bs payload)

-- ---- all of them

module _ (says other : Answers) (bs : List BlockMessage) (alike : (q : Question) → Contains (questions bs) q → answer says q ≡ answer other q) where
  alike_of : (s : Session) → Has (sessions bs) s → AgreeOn says other (of_session bs s) (stated_payload (certificates (of_session bs s)))
  alike_of s h q i = alike q (contains_from_has (questions bs) q (has-questions bs s q h i))

  joined_alike : (s : Session) → Has (sessions bs) s → joined says (of_session bs s) ≡ joined other (of_session bs s)
  unfolding joined
  joined_alike s h = judged_alike says other (of_session bs s) (stated_payload (certificates (of_session bs s))) (alike_of s h)

  pub verified_alike : (b : BlockMessage) → Has bs b → is_verified says bs b ≡ is_verified other bs b
  unfolding is_verified joined
  verified_alike b h =
      let own = of_session bs b.session in
      valid_in_alike says other own (stated_payload (certificates own)) (alike_of b.session (has-sessions bs b h)) b (has-own bs b h)

  rows_alike : rows says bs ≡ rows other bs
  unfolding rows
  rows_alike =
      ap (λ ds. in_order row_cmp (flat_map (λ (b : BlockMessage). rows_said b.session b.said) ds))
      (filter_agree (is_verified says bs) (is_verified other bs) bs verified_alike)

  refused_alike : refused says bs ≡ refused other bs
  refused_alike =
      ap (map (λ (b : BlockMessage). b.place))
      (filter_agree (λ b. not (is_verified says bs b)) (λ b. not (is_verified other bs b)) bs (λ b h. ap not (verified_alike b h)))

-- ---- the report

pub one_report_of : (says other : Answers) (log : Contents) → ((q : Question) → Contains (questions log.blocks) q → answer says q ≡ answer other q) → report_of says log ≡ report_of other log
unfolding report_of
one_report_of says other log alike = λ i. record {
  sessions = told i;
  unlisted = unlisted log.normal (same i);
  refused = refused_alike says other log.blocks alike i;
  spoilt = log.spoilt;
  count = log.count;
}
  where
    same : rows says log.blocks ≡ rows other log.blocks
    same = rows_alike says other log.blocks alike

    session_told : (s : Session) → Has (sessions log.blocks) s → session_report says log (rows says log.blocks) s ≡ session_report other log (rows other log.blocks) s
    session_told s h = λ i. record {
      session = s;
      state = state_in (joined_alike says other log.blocks alike s h i);
      groups = map (group_report log.normal (same i) s) (groups (same i) s);
    }

    told : map (session_report says log (rows says log.blocks)) (sessions log.blocks) ≡ map (session_report other log (rows other log.blocks)) (sessions log.blocks)
    told =
        map_agree (session_report says log (rows says log.blocks)) (session_report other log (rows other log.blocks)) (sessions log.blocks) session_told
