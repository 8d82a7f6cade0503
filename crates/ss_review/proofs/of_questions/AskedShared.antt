-- The questions about sessions that share their payloads.
use Rattle.std.proofs.Common.{◌≡◌, List, [], ◌∷◌, ◌++◌, map, filter, refl, ap, ◌∙◌, ℕ}
use Rattle.std.specs.Prelude.{Option, Some, None, Result, Ok, Err}
use Rattle.std.specs.List.{flat_map}
use Rattle.std.proofs.lemmas.List.{append-nil}
use Rattle.std.proofs.lemmas.List.Concat.{flat_map-append}
use Rattle.std.proofs.lemmas.Simd.{map-map}
use Rattle.ss_block.specs.declared.session.Session.{Session}
use Rattle.ss_review.specs.declared.report.session_report.SessionState.{SessionState}
use Rattle.ss_review.specs.keep.BlockMessage.{BlockMessage}
use Rattle.ss_review.specs.declared.questions.question.Question.TheVariants as question
use Rattle.ss_review.specs.sessions.Sessions.{sessions, of_session}
use Rattle.ss_review.specs.sessions.Payloads.{certificates, stated_payload}
use Rattle.ss_review.specs.pinned.Pinned.{asked_pinned, is_candidate, pinned_questions, pinned_sessions, questions_by, session_pinned, sessions_by}
use Rattle.ss_review.specs.questions.Questions.{asked, asked_block, asked_session, asked_sessions, needed, question_under, questions, session_questions, questions_shared}
use Rattle.ss_review.proofs.of_questions.NeededBlocks.{same_pinned, same_sessions}

flat_map-flat_map : {X Y Z : Type 0} (g : Y → List Z) (f : X → List Y) (xs : List X) → flat_map g (flat_map f xs) ≡ flat_map (λ x. flat_map g (f x)) xs
flat_map-flat_map g f [] = refl
flat_map-flat_map g f (x ∷ xs) = flat_map-append g (f x) (flat_map f xs) ∙ ap (λ zs. flat_map g (f x) ++ zs) (flat_map-flat_map g f xs)

-- what is asked about a session, by its blocks
session_shared : (s : Session) (bs : List BlockMessage) (r : Result (List ℕ) SessionState) → flat_map session_questions (asked_session s bs r) ≡ asked bs r
session_shared s bs (Err state) = refl
session_shared s bs (Ok payload) =
    append-nil (question.Trust payload ∷ map (question_under payload) (map asked_block bs))
    ∙ ap (λ qs. question.Trust payload ∷ qs) (map-map (question_under payload) asked_block bs)

-- the questions about the sessions of a log are all that a review asks about it
pub sessions_shared : (bs : List BlockMessage) → questions_shared (asked_sessions bs) ≡ questions bs
unfolding questions_shared asked_sessions questions
sessions_shared bs =
    flat_map-flat_map session_questions (λ s. asked_session s (of_session bs s) (stated_payload (certificates (of_session bs s)))) (sessions bs)
    ∙ (λ i. flat_map (λ s. session_shared s (of_session bs s) (stated_payload (certificates (of_session bs s))) i) (sessions bs))

-- ---- the same where payloads are known

pinned_shared_at : (ps : List (List ℕ)) (s : Session) (bs : List BlockMessage) → flat_map session_questions (session_pinned ps s bs) ≡ asked_pinned ps bs
pinned_shared_at ps s bs =
    let stated = stated_payload (certificates bs) in
    let others = filter (is_candidate bs) ps in
    let each : flat_map session_questions (flat_map (λ p. asked_session s bs (Ok p)) others) ≡ flat_map (λ p. asked bs (Ok p)) others
    = flat_map-flat_map session_questions (λ p. asked_session s bs (Ok p)) others ∙ (λ i. flat_map (λ p. session_shared s bs (Ok p) i) others) in
    flat_map-append session_questions (asked_session s bs stated) (flat_map (λ p. asked_session s bs (Ok p)) others)
    ∙ (λ i. session_shared s bs stated i ++ each i)

pub pinned_shared : (ps : List (List ℕ)) (bs : List BlockMessage) → questions_shared (pinned_sessions ps bs) ≡ pinned_questions ps bs
unfolding questions_shared pinned_sessions pinned_questions
pinned_shared ps bs =
    flat_map-flat_map session_questions (λ s. session_pinned ps s (of_session bs s)) (sessions bs)
    ∙ (λ i. flat_map (λ s. pinned_shared_at ps s (of_session bs s) i) (sessions bs))

-- the same by the payloads that are given, or without any
pub shared_by : (known : Option (List (List ℕ))) (bs : List BlockMessage) → questions_shared (sessions_by known bs) ≡ questions_by known bs
shared_by None bs = sessions_shared bs
shared_by (Some ps) bs = pinned_shared ps bs

-- and by these, blocks of which the same is needed are asked about alike
pub same_by : (known : Option (List (List ℕ))) (bs ds : List BlockMessage) → map needed bs ≡ map needed ds → sessions_by known bs ≡ sessions_by known ds
same_by None bs ds e = same_sessions bs ds e
same_by (Some ps) bs ds e = same_pinned ps bs ds e

-- where none is known, no more is asked
pub none_known : (bs : List BlockMessage) → pinned_sessions [] bs ≡ asked_sessions bs
unfolding pinned_sessions asked_sessions
none_known bs = λ i. flat_map (λ s. append-nil (asked_session s (of_session bs s) (stated_payload (certificates (of_session bs s)))) i) (sessions bs)
