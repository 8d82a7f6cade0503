-- Small logs into which strangers wrote, and what is reported of them, computed. As in the rows of `ss_review` hashes are
-- shortened to one octet. What strangers sign is shown by the number 9.
use Rattle.std.specs.Prelude.{◌≡◌, ℕ, not, true, List, [], ◌∷◌, Ok, Err}
use Rattle.std.specs.Str.{bytes_eq}
use Rattle.ss_block.specs.declared.hash.Alg.TheVariants as algs
use Rattle.ss_block.specs.declared.hash.Hash.TheVariants as hashes
use Rattle.ss_block.specs.declared.hash.HashPair.{HashPair}
use Rattle.ss_block.specs.declared.session.Session.{Session}
use Rattle.ss_review.specs.keep.BlockMessage.{BlockMessage}
use Rattle.ss_review.specs.declared.report.entry.Entry.{Entry}
use Rattle.ss_review.specs.declared.report.entry.Entry.TheVariants as entry
use Rattle.ss_review.specs.declared.report.entry.Why.TheVariants as whys
use Rattle.ss_review.specs.declared.report.report.Report.{Report}
use Rattle.ss_review.specs.declared.report.session_report.SessionReport.{SessionReport}
use Rattle.ss_review.specs.declared.report.session_report.SessionState.{SessionState}
use Rattle.ss_review.specs.declared.report.session_report.SessionState.TheVariants as states
use Rattle.ss_review.specs.announced.Announced.{Key}
use Rattle.ss_review.specs.keep.Contents.{Contents}
use Rattle.ss_review.specs.report.Report.{report_of}
use Rattle.ss_review.specs.report.Rows.{first, second, third, message, sent_by, certificate, hashes_of, group_told, whole_log, whole_report}
use Rattle.ss_review.specs.sessions.Sessions.{of_session}
use Rattle.ss_review.specs.sessions.Verified.{Answers}
use Rattle.ss_review.specs.pinned.Pinned.{claims, pinned_report}
use Rattle.ss_laws.specs.strangers.StateLaws.{pinned_joined, IsUndisputedOrUnclaimed}
use Rattle.ss_review.specs.pinned.Claimants.{AreWithin, IsUnclaimed, IsOnlyClaimant, AreClaimants}
use Rattle.ss_review.specs.report.Meaning.{IsListed, IsGap}
use Rattle.ss_laws.specs.strangers.Strangers.{IsAddedTo, JoinedAreClaimed, HasMoreOf}

-- ---- what the logs are made of

-- a session, and one before it in their order
abbrev pub here : Session
here = sent_by (104 ∷ []) 1

abbrev pub elsewhere : Session
elsewhere = sent_by (103 ∷ []) 1

-- two payload blocks, `- N` with and without a space after it
abbrev pub payload : List ℕ
payload = 45 ∷ 32 ∷ 78 ∷ []

abbrev pub other_payload : List ℕ
other_payload = 45 ∷ 32 ∷ 78 ∷ 32 ∷ []

-- payloads are trusted, and valid is what no stranger signed
abbrev pub wary : Answers
wary = record { trusted = λ payload. true; valid = λ payload octets signature. not (bytes_eq octets (9 ∷ [])) }

-- a stranger signed the block
abbrev pub forged : BlockMessage → BlockMessage
forged b = record b { signed = 9 ∷ [] }

abbrev pub stated : ℕ → Session → List ℕ → BlockMessage
stated place s p = certificate place s 3 1 p

abbrev pub stated_other : ℕ → Session → BlockMessage
stated_other place s = certificate place s 4 1 other_payload

abbrev pub two_announced : ℕ → BlockMessage
two_announced place = hashes_of place here algs.Sha1 1 (hashes.Sha1 (1 ∷ []) ∷ hashes.Sha1 (2 ∷ []) ∷ [])

abbrev pub strange : HashPair
strange = record { sha1 = 9 ∷ []; sha256 = 109 ∷ [] }

abbrev pub told_of : Session → SessionState → List Entry → SessionReport
told_of s state es = record { session = s; state = state; groups = group_told es ∷ [] }

-- ---- a log with strangers' messages

-- Strangers put these among what `whole_log` has: a message, a certificate block with another payload, a copy of a block
-- and of a message, and a signature block.
abbrev pub strangers_log : Contents
strangers_log = record {
  normal = message 0 strange ∷ message 1 first ∷ message 4 second ∷ message 7 first ∷ [];
  blocks = forged (stated_other 2 here) ∷ stated 3 here payload ∷ two_announced 5 ∷ two_announced 6
      ∷ forged (hashes_of 8 here algs.Sha1 2 (hashes.Sha1 (9 ∷ []) ∷ hashes.Sha1 (9 ∷ []) ∷ []))
      ∷ [];
  spoilt = [];
  count = 9;
}

-- without given payloads the session is disputed, and nothing is listed
abbrev pub disputed_report : Report
disputed_report = record {
  sessions = record { session = here; state = states.Disputed; groups = [] } ∷ [];
  unlisted = 0 ∷ 1 ∷ 4 ∷ 7 ∷ [];
  refused = 2 ∷ 3 ∷ 5 ∷ 6 ∷ 8 ∷ [];
  spoilt = [];
  count = 9;
}

-- with its payload both messages are listed, and what strangers wrote is unlisted or refused
abbrev pub strangers_report : Report
strangers_report = record {
  sessions = told_of here states.Joined (entry.Listed 1 1 ∷ entry.Listed 2 4 ∷ []) ∷ [];
  unlisted = 0 ∷ 7 ∷ [];
  refused = 2 ∷ 8 ∷ [];
  spoilt = [];
  count = 9;
}

-- ---- a log to which a stranger adds the missing message

-- the message number 2 is missing
abbrev pub robbed_log : Contents
robbed_log = record {
  normal = message 0 first ∷ [];
  blocks = stated 1 here payload ∷ two_announced 2 ∷ [];
  spoilt = [];
  count = 3;
}

abbrev pub robbed_report : Report
robbed_report = record {
  sessions = told_of here states.Joined (entry.Listed 1 0 ∷ entry.Gap 2 whys.Lost ∷ []) ∷ [];
  unlisted = [];
  refused = [];
  spoilt = [];
  count = 3;
}

abbrev pub second_number : Key
second_number = record { session = here; group = record { sg = 0; spri = 0 }; number = 2 }

-- ---- what goes wrong without the premises

-- whoever holds a key of another given payload wrote a certificate block too
abbrev pub two_claimants_blocks : List BlockMessage
two_claimants_blocks = stated 0 here payload ∷ stated_other 1 here ∷ []

-- A fragment has the index 0, so that it agrees with the payload's first octets, and contradicts them. No text is read as
-- such a block.
abbrev pub from_zero_blocks : List BlockMessage
from_zero_blocks = stated 0 here payload ∷ certificate 1 here 3 0 (45 ∷ 32 ∷ []) ∷ []

-- a message that has one hash in common with the first one, and not the other, stands before it
abbrev pub twin_log : Contents
twin_log = record {
  normal = message 0 third ∷ message 1 first ∷ message 2 second ∷ [];
  blocks = stated 3 here payload ∷ two_announced 4 ∷ [];
  spoilt = [];
  count = 5;
}

-- the other message is listed in its place
abbrev pub twin_report : Report
twin_report = record {
  sessions = told_of here states.Joined (entry.Listed 1 0 ∷ entry.Listed 2 2 ∷ []) ∷ [];
  unlisted = 1 ∷ [];
  refused = [];
  spoilt = [];
  count = 5;
}

-- Two sessions announce one message. The first one is joined under a payload that isn't given.
abbrev pub two_sessions_log : Contents
two_sessions_log = record {
  normal = message 0 first ∷ [];
  blocks = stated_other 1 elsewhere ∷ hashes_of 2 elsewhere algs.Sha1 1 (hashes.Sha1 (1 ∷ []) ∷ [])
      ∷ stated 3 here payload
      ∷ hashes_of 4 here algs.Sha1 1 (hashes.Sha1 (1 ∷ []) ∷ [])
      ∷ [];
  spoilt = [];
  count = 5;
}

abbrev pub two_sessions_report : Report
two_sessions_report = record {
  sessions = told_of elsewhere states.Joined (entry.Listed 1 0 ∷ []) ∷ told_of here states.Joined (entry.Gap 1 whys.Lost ∷ [])
      ∷ [];
  unlisted = [];
  refused = [];
  spoilt = [];
  count = 5;
}

-- a stranger disputes it by one certificate block
abbrev pub disputed_session_log : Contents
disputed_session_log = record {
  normal = message 0 first ∷ [];
  blocks = stated_other 1 elsewhere ∷ hashes_of 2 elsewhere algs.Sha1 1 (hashes.Sha1 (1 ∷ []) ∷ [])
      ∷ stated 3 here payload
      ∷ hashes_of 4 here algs.Sha1 1 (hashes.Sha1 (1 ∷ []) ∷ [])
      ∷ forged (stated 5 elsewhere payload)
      ∷ [];
  spoilt = [];
  count = 6;
}

-- then the message is listed in the other session, where it was missing
abbrev pub disputed_session_report : Report
disputed_session_report = record {
  sessions = record { session = elsewhere; state = states.Disputed; groups = [] }
      ∷ told_of here states.Joined (entry.Listed 1 0 ∷ [])
      ∷ [];
  unlisted = [];
  refused = 1 ∷ 2 ∷ 5 ∷ [];
  spoilt = [];
  count = 6;
}

-- ---- what is so

-- the premises are met
pub record PremisesAreMet : Type 0 where
  pub only_claimant : IsOnlyClaimant wary (payload ∷ []) (of_session strangers_log.blocks here) payload
  pub only_before : IsOnlyClaimant wary (payload ∷ []) (of_session whole_log.blocks here) payload
  pub two_within : AreWithin two_claimants_blocks
  pub claimants : AreClaimants wary (payload ∷ other_payload ∷ []) (of_session two_claimants_blocks here) payload other_payload
  pub unclaimed_within : AreWithin two_sessions_log.blocks
  pub unclaimed : IsUnclaimed wary (payload ∷ []) (of_session two_sessions_log.blocks elsewhere)
  pub undisputed : (s : Session) → IsUndisputedOrUnclaimed wary (payload ∷ []) whole_log.blocks s
  pub added : IsAddedTo wary (payload ∷ []) whole_log strangers_log
  pub claimed : JoinedAreClaimed wary (payload ∷ []) whole_log.blocks
  -- the message number 2 is missing from the robbed log, and strangers added it
  pub added_again : IsAddedTo wary (payload ∷ []) robbed_log strangers_log
  pub claimed_again : JoinedAreClaimed wary (payload ∷ []) robbed_log.blocks
  pub missing : IsGap (pinned_report wary (payload ∷ []) robbed_log) second_number whys.Lost
  pub listed_again : IsListed (pinned_report wary (payload ∷ []) strangers_log) second_number 4

pub record StrangersAreThese : Type 0 where
  pub premises : PremisesAreMet
  -- a stranger disputes a session, and a given payload ends this
  pub disputed : report_of wary strangers_log ≡ disputed_report
  pub ended : pinned_report wary (payload ∷ []) strangers_log ≡ strangers_report
  pub joined_under : pinned_joined wary (payload ∷ []) strangers_log.blocks here ≡ Ok payload
  -- a missing message is listed after strangers added it
  pub robbed : pinned_report wary (payload ∷ []) robbed_log ≡ robbed_report
  pub given_back : HasMoreOf robbed_log strangers_log 4
  -- without strangers' blocks nothing changes
  pub same : pinned_report wary (payload ∷ []) whole_log ≡ whole_report
  -- two claimants dispute a session, and one joins it if it is given alone
  pub two_dispute : pinned_joined wary (payload ∷ other_payload ∷ []) two_claimants_blocks here ≡ Err states.Disputed
  pub one_joins : pinned_joined wary (payload ∷ []) two_claimants_blocks here ≡ Ok payload
  -- indexes that count from 0 dispute it too
  pub from_zero_claims : claims wary payload (of_session from_zero_blocks here) ≡ true
  pub from_zero : pinned_joined wary (payload ∷ []) from_zero_blocks here ≡ Err states.Disputed
  -- two messages with one hash
  pub twin : pinned_report wary (payload ∷ []) twin_log ≡ twin_report
  -- a session that no given payload claims
  pub unclaimed : pinned_report wary (payload ∷ []) two_sessions_log ≡ two_sessions_report
  pub unclaimed_disputed : pinned_report wary (payload ∷ []) disputed_session_log ≡ disputed_session_report
