-- What is made of each section of the blocks of a log, one after the other.
use Rattle.std.proofs.Common.{◌≡◌, ℕ, ◌≤◌, List, [], ◌∷◌, ◌++◌, length, drop, map, Bor, sym, ap, ◌∙◌}
use Rattle.std.specs.Prelude.{Result}
use Rattle.std.specs.List.{flat_map}
use Rattle.std.proofs.lemmas.List.{at_drop_all, append_assoc, map-append}
use Rattle.std.proofs.lemmas.List.Folds.{flat_map-map}
use Rattle.std.proofs.lemmas.Simd.{map-map}
use Rattle.ss_block.specs.declared.session.Session.{Session}
use Rattle.ss_review.specs.declared.report.session_report.SessionState.{SessionState}
use Rattle.ss_review.specs.declared.questions.asked.AskedSession.{AskedSession}
use Rattle.ss_review.specs.declared.questions.question.Question.{Question}
use Rattle.ss_review.specs.keep.BlockMessage.{BlockMessage}
use Rattle.ss_review.specs.Ordered.{in_order}
use Rattle.ss_review.specs.sessions.Sessions.{sessions, of_session}
use Rattle.ss_review.specs.sessions.Sectioned.{sections, referred}
use Rattle.ss_review.specs.sessions.Payloads.{certificates, stated_payload}
use Rattle.ss_review.specs.sessions.Verified.{Answers, joined}
use Rattle.ss_review.specs.announced.Numbered.{sessions_joined}
use Rattle.ss_review.specs.questions.Questions.{asked, questions}
use Rattle.ss_review.specs.pinned.Pinned.{session_pinned, pinned_sessions}

-- ---- the sections that are left

pub no_sections : (bs : List (Bor BlockMessage)) (start : ℕ) → length bs ≤ start → sections (referred (drop start bs)) ≡ []
unfolding in_order
no_sections bs start over = at_drop_all (λ xs. sections (referred xs)) bs start over

-- one of those that are left more
pub one_more : {S X Y : Type 0} (f : X → Y) (h : S → Y) (done : List X) (x : X) (s : S) (left later : List S) → left ≡ s ∷ later → f x ≡ h s → map f (done ++ x ∷ []) ++ map h later ≡ map f done ++ map h left
one_more f h done x s left later e told =
    ap (λ ys. ys ++ map h later) (map-append f done (x ∷ []))
    ∙ append_assoc (map f done) (f x ∷ []) (map h later)
    ∙ (λ i. map f done ++ told i ∷ map h later)
    ∙ ap (λ ss. map f done ++ map h ss) (sym e)

-- ---- what is made of each

abbrev pub section_joined : Answers → Session × List BlockMessage → Session × Result (List ℕ) SessionState
section_joined says section = (section.0, joined says section.1)

pub sections_joined : (says : Answers) (bs : List BlockMessage) → map (section_joined says) (sections bs) ≡ sessions_joined says bs
sections_joined says bs = map-map (section_joined says) (λ s. (s, of_session bs s)) (sessions bs)

abbrev pub section_asked : Session × List BlockMessage → List Question
section_asked section = asked section.1 (stated_payload (certificates section.1))

pub questions_asked : (bs : List BlockMessage) → flat_map section_asked (sections bs) ≡ questions bs
unfolding questions
questions_asked bs = flat_map-map section_asked (λ s. (s, of_session bs s)) (sessions bs)

abbrev pub section_pinned : List (List ℕ) → Session × List BlockMessage → List AskedSession
section_pinned ps section = session_pinned ps section.0 section.1

pub sessions_pinned : (ps : List (List ℕ)) (bs : List BlockMessage) → flat_map (section_pinned ps) (sections bs) ≡ pinned_sessions ps bs
unfolding pinned_sessions
sessions_pinned ps bs = flat_map-map (section_pinned ps) (λ s. (s, of_session bs s)) (sessions bs)
