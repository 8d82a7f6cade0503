-- What a judge may be asked of blocks and sessions, where it may be asked all that a review asks about their log.
use Rattle.std.proofs.Common.{◌≡◌, inl, inr, ℕ, ◌<◌, Bool, true, false, cond, not, List, ◌∷◌, ◌++◌, length, get_or, map, Bor, refl, sym, ap, ◌∙◌, subst}
use Rattle.std.specs.Prelude.{Contains, Result, Ok, Err}
use Rattle.std.specs.Ordering.{is_eq}
use Rattle.std.proofs.lemmas.Cmp.{tied_itself}
use Rattle.std.proofs.lemmas.List.Elements.{Contains-get_or}
use Rattle.ss_block.specs.declared.session.Session.{Session}
use Rattle.ss_block.specs.OrderLaws.{session_cmp_total, session_cmp_exact}
use Rattle.ss_review.specs.declared.report.session_report.SessionState.{SessionState}
use Rattle.ss_review.specs.declared.report.session_report.SessionState.TheVariants as states
use Rattle.ss_review.specs.declared.questions.question.Question.{Question}
use Rattle.ss_review.specs.declared.questions.question.Question.TheVariants as question
use Rattle.ss_review.specs.keep.BlockMessage.{BlockMessage}
use Rattle.ss_review.specs.declared.sessions.joined_session.JoinedSession.{JoinedSession}
use Rattle.ss_review.specs.sessions.Sessions.{same_session, sessions, of_session}
use Rattle.ss_review.specs.sessions.Payloads.{certificates, stated_payload}
use Rattle.ss_review.specs.sessions.Verified.{Answers, is_accepted, judged, joined}
use Rattle.ss_review.specs.announced.Numbered.{session_with_joined, sessions_joined}
use Rattle.ss_review.specs.questions.Questions.{question_about, asked, questions, AreAskable, IsAskableIn}
use Rattle.ss_octets.proofs.Members.{Has, has_from_contains, contains_from_has, has-append_left, has-append_right, has-map, from_has-map, has-filter, has-flat_map}
use Rattle.ss_review.proofs.of_lists.Rising.{has-in_order}

-- ---- the questions about a block stand among those about its log

abbrev pub asked_of : List BlockMessage → Session → List Question
asked_of bs s = asked (of_session bs s) (stated_payload (certificates (of_session bs s)))

pub has-questions : (bs : List BlockMessage) (s : Session) (q : Question) → Has (sessions bs) s → Has (asked_of bs s) q → Has (questions bs) q
unfolding questions
has-questions bs s q h i = has-flat_map (asked_of bs) (sessions bs) s q h i

abbrev whose : BlockMessage → Session
whose b = b.session

pub has-sessions : (bs : List BlockMessage) (b : BlockMessage) → Has bs b → Has (sessions bs) b.session
has-sessions bs b h = has-in_order session_cmp_total session_cmp_exact b.session (map whose bs) (has-map whose bs b h)

pub has-own : (bs : List BlockMessage) (b : BlockMessage) → Has bs b → Has (of_session bs b.session) b
has-own bs b h = has-filter (λ (d : BlockMessage). same_session d.session b.session) bs b h (ap is_eq (tied_itself session_cmp_total b.session))

-- ---- a session that is joined is so under the payload that its blocks state

abbrev under : List ℕ → Result (List ℕ) SessionState
under payload = Ok payload

one_text : (text payload : List ℕ) (distrusted accepted : Bool) → cond distrusted (Err states.Untrusted) (cond accepted (under text) (Err states.Unaccepted)) ≡ under payload → under text ≡ under payload
one_text text payload true accepted e = absurd (cc)
one_text text payload false true e = e
one_text text payload false false e = absurd (cc)

under_stated : (says : Answers) (bs : List BlockMessage) (r : Result (List ℕ) SessionState) (payload : List ℕ) → judged says bs r ≡ Ok payload → r ≡ Ok payload
under_stated says bs (Err state) payload e = e
under_stated says bs (Ok text) payload e = one_text text payload (not (says.trusted text)) (is_accepted says bs text) e

pub stated_in_joined : (says : Answers) (bs : List BlockMessage) (payload : List ℕ) → joined says bs ≡ Ok payload → stated_payload (certificates bs) ≡ Ok payload
unfolding joined
stated_in_joined says bs payload e = under_stated says bs (stated_payload (certificates bs)) payload e

-- ---- what may be asked

module _ {J : Type 0} (askable : J → Question → Type 0) (judge : J) where
  -- a block among those of a session
  pub askable_at : (payload : List ℕ) (bs : List (Bor BlockMessage)) (i : ℕ) (d : Bor BlockMessage) → i < length bs
      → AreAskable askable judge (map (question_about payload) (map (λ b. b.now) bs)) → askable judge (question_about payload (get_or bs i d).now)
  askable_at payload bs i d below may =
      let here : Has bs (get_or bs i d) = has_from_contains bs (get_or bs i d) (Contains-get_or bs i d below) in
      let among : Has (map (question_about payload) (map (λ (b : Bor BlockMessage). b.now) bs)) (question_about payload (get_or bs i d).now)
      = has-map (question_about payload) (map (λ (b : Bor BlockMessage). b.now) bs) (get_or bs i d).now (has-map (λ (b : Bor BlockMessage). b.now) bs (get_or bs i d) here) in
      may (question_about payload (get_or bs i d).now) (contains_from_has _ _ among)

  -- whether the payload is trusted
  pub askable_trust : (payload : List ℕ) (qs : List Question) → AreAskable askable judge (question.Trust payload ∷ qs) → askable judge (question.Trust payload)
  askable_trust payload qs may = may (question.Trust payload) (contains_from_has (question.Trust payload ∷ qs) _ (inl refl))

  -- all but the first
  pub askable_rest : (q : Question) (qs : List Question) → AreAskable askable judge (q ∷ qs) → AreAskable askable judge qs
  askable_rest q qs may = λ p c. may p (contains_from_has (q ∷ qs) p (inr (has_from_contains qs p c)))

  -- the questions of the first list, and those of the second
  pub askable_front : (ps qs : List Question) → AreAskable askable judge (ps ++ qs) → AreAskable askable judge ps
  askable_front ps qs may = λ p c. may p (contains_from_has (ps ++ qs) p (has-append_left ps qs p (has_from_contains ps p c)))

  pub askable_behind : (ps qs : List Question) → AreAskable askable judge (ps ++ qs) → AreAskable askable judge qs
  askable_behind ps qs may = λ q c. may q (contains_from_has (ps ++ qs) q (has-append_right ps qs q (has_from_contains qs q c)))

  -- a block of a log, by what is known of its sessions
  pub askable_in : (says : Answers) (bs : List BlockMessage) (xs : List JoinedSession) → map session_with_joined xs ≡ sessions_joined says bs
      → AreAskable askable judge (questions bs) → (b : BlockMessage) → Contains bs b → IsAskableIn askable judge xs b
  askable_in says bs xs told may b c = λ x payload here same is.
      let stored : Has bs b = has_from_contains bs b c in
      let w : (s : Session) × Has (sessions bs) s × ((s, joined says (of_session bs s)) ≡ session_with_joined x)
      = from_has-map (λ s. (s, joined says (of_session bs s))) (sessions bs) (session_with_joined x) (subst (λ ys. Has ys (session_with_joined x)) told (has-map session_with_joined xs x (has_from_contains xs x here))) in
      let at : w.0 ≡ b.session = (λ i. (w.2 i).0) ∙ same in
      let own = of_session bs b.session in
      let joined_own : joined says own ≡ Ok payload = ap (λ s. joined says (of_session bs s)) (sym at) ∙ (λ i. (w.2 i).1) ∙ is in
      let among : Has (asked own (Ok payload)) (question_about payload b) = inr (has-map (question_about payload) own b (has-own bs b stored)) in
      may (question_about payload b)
      (contains_from_has (questions bs) (question_about payload b)
      (has-questions bs b.session (question_about payload b) (has-sessions bs b stored)
      (subst (λ r. Has (asked own r) (question_about payload b)) (sym (stated_in_joined says own payload joined_own)) among)))
