-- Sessions that are joined by payloads that are known beforehand (RFC 5848, sections 5.3 and 7). Whoever reviews has
-- them from elsewhere, so what strangers say about the key of a session is left out.
use Rattle.std.specs.Prelude.{ℕ, ◌-◌, ◌==◌, ◌&&◌, ◌||◌, nat_eq, not, Bool, true, false, List, ◌++◌, length, drop, map}
use Rattle.std.specs.Prelude.{filter, flat_map, Option, Some, None, Result, Ok, Err}
use Rattle.std.specs.List.{list_any, starts_with}
use Rattle.std.specs.Str.{bytes_eq}
use Rattle.ss_block.specs.Block as block
use Rattle.ss_block.specs.declared.session.Session.{Session}
use Rattle.ss_review.specs.keep.BlockMessage.{BlockMessage, BlockContent, Hashes, Fragment}
use Rattle.ss_review.specs.declared.counted.counted_session.CountedSession.{CountedSession}
use Rattle.ss_review.specs.declared.questions.asked.AskedSession.{AskedSession}
use Rattle.ss_review.specs.declared.questions.question.Question.{Question}
use Rattle.ss_review.specs.declared.report.report.Report.{Report}
use Rattle.ss_review.specs.declared.report.session_report.SessionState.{SessionState}
use Rattle.ss_review.specs.counted.Counted.{counted_sessions}
use Rattle.ss_review.specs.keep.Contents.{Contents}
use Rattle.ss_review.specs.questions.Questions.{asked, asked_session, asked_sessions, questions}
use Rattle.ss_review.specs.report.Report.{report_of}
use Rattle.ss_review.specs.report.Verdict.{is_none}
use Rattle.ss_review.specs.sessions.Payloads.{certificates, cover, is_payload, stated_payload}
use Rattle.ss_review.specs.sessions.Sessions.{sessions, of_session}
use Rattle.ss_review.specs.sessions.Verified.{Answers, is_valid, is_verified}

-- ---- who speaks for a payload

-- The certificate block says nothing but what the payload says: it states the payload's length, and its fragment stands
-- in the payload from its index on, which counts from 1 (RFC 5848, section 5.3.2).
abbrev pub agrees : List ℕ → block.Certificate → Bool
agrees p c = (c.total == length p) && starts_with nat_eq (drop (c.index - 1) p) c.fragment

abbrev pub agrees_in : List ℕ → BlockContent → Bool
agrees_in p (Hashes b) = false
agrees_in p (Fragment c) = agrees p c

-- a certificate block that agrees with the payload, and is valid under it
abbrev pub speaks_for : Answers → List ℕ → BlockMessage → Bool
speaks_for says p b = agrees_in p b.said && is_valid says p b

-- ---- which blocks of a session are kept

-- The payload claims the session of these blocks: it is a payload block, it is trusted, and the certificate blocks that
-- speak for it cover it.
unfoldable pub claims : Answers → List ℕ → List BlockMessage → Bool
claims says p bs = is_payload p && says.trusted p && cover (certificates (filter (speaks_for says p) bs)) (length p)

-- those of the given payloads that claim the session
abbrev pub claimants : Answers → List (List ℕ) → List BlockMessage → List (List ℕ)
claimants says ps bs = filter (λ p. claims says p bs) ps

abbrev pub is_signature : BlockContent → Bool
is_signature (Hashes b) = true
is_signature (Fragment c) = false

-- A block of this session is kept: it is a signature block, or no payload claims the session, or it speaks for one that
-- does.
unfoldable pub keeps : Answers → List (List ℕ) → List BlockMessage → BlockMessage → Bool
keeps says ps bs b =
    is_signature b.said || is_none (claimants says ps bs) || list_any (λ p. speaks_for says p b) (claimants says ps bs)

-- the blocks of a log that are kept
abbrev pub kept : Answers → List (List ℕ) → List BlockMessage → List BlockMessage
kept says ps bs = filter (λ b. keeps says ps (of_session bs b.session) b) bs

-- the places of those that aren't
abbrev pub left_out : Answers → List (List ℕ) → List BlockMessage → List ℕ
left_out says ps bs = map (λ b. b.place) (filter (λ b. not (keeps says ps (of_session bs b.session) b)) bs)

-- ---- the report by given payloads

-- the log without the blocks that aren't kept
abbrev pub pinned_contents : Answers → List (List ℕ) → Contents → Contents
pinned_contents says ps log = record log { blocks = kept says ps log.blocks }

-- the block is kept, and verified among those that are
abbrev pub is_verified_pinned : Answers → List (List ℕ) → List BlockMessage → BlockMessage → Bool
is_verified_pinned says ps bs b = keeps says ps (of_session bs b.session) b && is_verified says (kept says ps bs) b

-- the blocks of a log that aren't kept and verified
abbrev pub refused_pinned : Answers → List (List ℕ) → List BlockMessage → List ℕ
refused_pinned says ps bs = map (λ b. b.place) (filter (λ b. not (is_verified_pinned says ps bs b)) bs)

-- the report of the log without the blocks that aren't kept, which are refused
abbrev pub pinned_report : Answers → List (List ℕ) → Contents → Report
pinned_report says ps log =
    record (report_of says (pinned_contents says ps log)) { refused = refused_pinned says ps log.blocks }

-- the GBC of the verified signature blocks of each session
abbrev pub pinned_counted : Answers → List (List ℕ) → List BlockMessage → List CountedSession
pinned_counted says ps bs = counted_sessions says (kept says ps bs)

-- ---- what is asked

-- the payload is the one that certificate blocks state
abbrev pub is_stated : List ℕ → Result (List ℕ) SessionState → Bool
is_stated p (Err state) = false
is_stated p (Ok text) = bytes_eq text p

-- Only an answer can tell whether the given payload claims the session of these blocks, and it isn't asked for anyway:
-- the payload is a payload block, it isn't the one that they state, and those that agree with it cover it.
abbrev pub is_candidate : List BlockMessage → List ℕ → Bool
is_candidate bs p =
    is_payload p
    && not (is_stated p (stated_payload (certificates bs)))
    && cover (certificates (filter (λ b. agrees_in p b.said) bs)) (length p)

-- what is asked about the blocks of one session, under the payload that they state and under each given one
abbrev pub asked_pinned : List (List ℕ) → List BlockMessage → List Question
asked_pinned ps bs =
    asked bs (stated_payload (certificates bs)) ++ flat_map (λ p. asked bs (Ok p)) (filter (is_candidate bs) ps)

-- what is asked about a log, in the order of its sessions
unfoldable pub pinned_questions : List (List ℕ) → List BlockMessage → List Question
pinned_questions ps bs = flat_map (λ s. asked_pinned ps (of_session bs s)) (sessions bs)

-- the same session by session, with each payload once, and with what each block says about itself
abbrev pub session_pinned : List (List ℕ) → Session → List BlockMessage → List AskedSession
session_pinned ps s bs =
    asked_session s bs (stated_payload (certificates bs))
    ++ flat_map (λ p. asked_session s bs (Ok p)) (filter (is_candidate bs) ps)

unfoldable pub pinned_sessions : List (List ℕ) → List BlockMessage → List AskedSession
pinned_sessions ps bs = flat_map (λ s. session_pinned ps s (of_session bs s)) (sessions bs)

-- ---- by given payloads, or without any

-- the report of a log: sessions are joined by the payloads, where some are given
abbrev pub report_by : Option (List (List ℕ)) → Answers → Contents → Report
report_by None says log = report_of says log
report_by (Some ps) says log = pinned_report says ps log

-- the blocks that such a report rests on
abbrev pub blocks_by : Option (List (List ℕ)) → Answers → List BlockMessage → List BlockMessage
blocks_by None says bs = bs
blocks_by (Some ps) says bs = kept says ps bs

-- the GBC of the verified signature blocks of each session
abbrev pub counted_by : Option (List (List ℕ)) → Answers → List BlockMessage → List CountedSession
counted_by known says bs = counted_sessions says (blocks_by known says bs)

-- what is asked about a log
abbrev pub questions_by : Option (List (List ℕ)) → List BlockMessage → List Question
questions_by None bs = questions bs
questions_by (Some ps) bs = pinned_questions ps bs

-- the same session by session
abbrev pub sessions_by : Option (List (List ℕ)) → List BlockMessage → List AskedSession
sessions_by None bs = asked_sessions bs
sessions_by (Some ps) bs = pinned_sessions ps bs
