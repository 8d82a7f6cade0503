-- Small logs of two nights: one that meets the premises, and for each premise one that doesn't, where the nights
-- together report something else than the whole.
use Rattle.std.specs.Prelude.{◌≡◌, ℕ, ◌==◌, nat_lt, List, [], ◌∷◌, if◌then◌else◌}
use Rattle.std.specs.List.{list_any}
use Rattle.ss_block.specs.declared.hash.Alg.TheVariants as algs
use Rattle.ss_block.specs.declared.hash.Hash.TheVariants as hashes
use Rattle.ss_review.specs.declared.report.entry.Why.TheVariants as whys
use Rattle.ss_review.specs.declared.report.entry.Entry.{Entry}
use Rattle.ss_review.specs.declared.report.entry.Entry.TheVariants as entry
use Rattle.ss_review.specs.declared.report.session_report.SessionState.TheVariants as states
use Rattle.ss_review.specs.declared.report.session_report.SessionReport.{SessionReport}
use Rattle.ss_review.specs.declared.report.report.Report.{Report}
use Rattle.ss_review.specs.declared.keep.message.NormalMessage.{NormalMessage}
use Rattle.ss_review.specs.keep.BlockMessage.{BlockMessage}
use Rattle.ss_review.specs.announced.Announced.{Key}
use Rattle.ss_laws.specs.parts.cases.PartRows.{joined_with}
use Rattle.ss_review.specs.report.Report.{report_of}
use Rattle.ss_review.specs.report.Rows.{first, second, third, message, certificate, hashes_of, sent_by, yes}
use Rattle.ss_laws.specs.carry.Nights.{Nights, night_log, so_far, LeaveEnough, IsSettled}
use Rattle.ss_laws.specs.carry.Together.{FilesFollow, AgreeLater}

-- the places before this one are the file of the first night, and it leaves these places over
abbrev pub two_nights : ℕ → List ℕ → ℕ → List NormalMessage → List BlockMessage → Nights
two_nights cut places count ms bs = record {
  whole = record { normal = ms; blocks = bs; spoilt = []; count = count };
  file = λ place. if nat_lt place cut then 0 else 1;
  left = λ night place. list_any (λ p. p == place) places;
}

-- the whole payload `- N` of the host
abbrev pub payload_at : ℕ → List ℕ → BlockMessage
payload_at place host = certificate place (sent_by host 1) 3 1 (45 ∷ 32 ∷ 78 ∷ [])

-- one hash under one number
abbrev pub number_at : ℕ → List ℕ → ℕ → ℕ → BlockMessage
number_at place host number hash = hashes_of place (sent_by host 1) algs.Sha1 number (hashes.Sha1 (hash ∷ []) ∷ [])

abbrev pub number_of : List ℕ → ℕ → Key
number_of host number = record { session = sent_by host 1; group = record { sg = 0; spri = 0 }; number = number }

abbrev pub told_of : List SessionReport → List ℕ → List ℕ → ℕ → Report
told_of ss unlisted refused count =
    record { sessions = ss; unlisted = unlisted; refused = refused; spoilt = []; count = count }

abbrev pub listed_in : List ℕ → List Entry → List SessionReport
listed_in host es = joined_with (sent_by host 1) es ∷ []

-- ---- the logs

-- each night has a message and its block, and the first one the certificate block too
abbrev pub each_its_own : Nights
each_its_own =
    two_nights 3 (0 ∷ []) 5 (message 1 first ∷ message 3 second ∷ [])
    (payload_at 0 (104 ∷ []) ∷ number_at 2 (104 ∷ []) 1 1 ∷ number_at 4 (104 ∷ []) 2 2 ∷ [])

-- the second night has a certificate block of another length
abbrev pub disputed_later : Nights
disputed_later =
    two_nights 3 (0 ∷ []) 4 (message 1 first ∷ [])
    (payload_at 0 (104 ∷ []) ∷ number_at 2 (104 ∷ []) 1 1 ∷ certificate 3 (sent_by (104 ∷ []) 1) 4 1 (45 ∷ 32 ∷ 78 ∷ [])
    ∷ [])

-- the second night has another hash for the settled number
abbrev pub another_hash : Nights
another_hash =
    two_nights 3 (0 ∷ []) 4 (message 1 first ∷ [])
    (payload_at 0 (104 ∷ []) ∷ number_at 2 (104 ∷ []) 1 1 ∷ number_at 3 (104 ∷ []) 1 2 ∷ [])

-- the second night has copies of the block and of the message
abbrev pub listed_again : Nights
listed_again =
    two_nights 3 (0 ∷ []) 5 (message 1 first ∷ message 4 first ∷ [])
    (payload_at 0 (104 ∷ []) ∷ number_at 2 (104 ∷ []) 1 1 ∷ number_at 3 (104 ∷ []) 1 1 ∷ [])

-- two hosts announce one message, and the block of the one that comes first in the report comes later
abbrev pub lost_before : Nights
lost_before =
    two_nights 3 (0 ∷ []) 5 (message 1 first ∷ [])
    (payload_at 0 (105 ∷ []) ∷ number_at 2 (105 ∷ []) 1 1 ∷ payload_at 3 (104 ∷ []) ∷ number_at 4 (104 ∷ []) 1 1 ∷ [])

-- the second night has another message with the SHA-1 of the first, and a block that announces it
abbrev pub twins : Nights
twins =
    two_nights 3 (0 ∷ []) 5 (message 1 first ∷ message 3 third ∷ [])
    (payload_at 0 (104 ∷ []) ∷ number_at 2 (104 ∷ []) 1 1 ∷ number_at 4 (104 ∷ []) 2 1 ∷ [])

-- the second night has that message too, under a number of its own, and the first one again, for a third number
abbrev pub twins_wanted : Nights
twins_wanted =
    two_nights 3 (0 ∷ []) 7 (message 1 first ∷ message 3 third ∷ message 4 first ∷ [])
    (payload_at 0 (104 ∷ []) ∷ number_at 2 (104 ∷ []) 1 1
    ∷ hashes_of 5 (sent_by (104 ∷ []) 1) algs.Sha256 2 (hashes.Sha256 (103 ∷ []) ∷ [])
    ∷ number_at 6 (104 ∷ []) 3 1 ∷ [])

-- ---- what is reported

-- the first night settles number 1 of the host with the message at place 1
abbrev pub SettlesFirst : Nights → List ℕ → Type 0
SettlesFirst x host = IsSettled yes x 0 (number_of host 1) 1

abbrev pub one_listed : List ℕ → Report
one_listed host = told_of (listed_in host (entry.Listed 1 1 ∷ [])) [] [] 3

pub record NightsAreThese : Type 0 where
  -- all premises hold
  pub its_own_leave : LeaveEnough yes each_its_own 1
  pub its_own_follow : FilesFollow each_its_own
  pub its_own_agree : AgreeLater yes each_its_own 1
  pub its_own_settled : SettlesFirst each_its_own (104 ∷ [])
  pub its_own_first : report_of yes (night_log each_its_own 0) ≡ one_listed (104 ∷ [])
  pub its_own_last : report_of yes (night_log each_its_own 1)
      ≡ told_of (listed_in (104 ∷ []) (entry.Hole 1 1 ∷ entry.Listed 2 3 ∷ [])) [] [] 3
  pub its_own_whole : report_of yes (so_far each_its_own 1)
      ≡ told_of (listed_in (104 ∷ []) (entry.Listed 1 1 ∷ entry.Listed 2 3 ∷ [])) [] [] 5
  -- the session is disputed later
  pub disputed_settled : SettlesFirst disputed_later (104 ∷ [])
  pub disputed_last : report_of yes (night_log disputed_later 1)
      ≡ told_of (record { session = sent_by (104 ∷ []) 1; state = states.Disputed; groups = [] } ∷ []) [] (0 ∷ 3 ∷ []) 2
  pub disputed_whole : report_of yes (so_far disputed_later 1)
      ≡ told_of (record { session = sent_by (104 ∷ []) 1; state = states.Disputed; groups = [] } ∷ []) (1 ∷ []) (0 ∷ 2
      ∷ 3 ∷ []) 4
  -- the settled number is announced with another hash
  pub hash_settled : SettlesFirst another_hash (104 ∷ [])
  pub hash_last : report_of yes (night_log another_hash 1)
      ≡ told_of (listed_in (104 ∷ []) (entry.Gap 1 whys.Lost ∷ [])) [] [] 2
  pub hash_whole : report_of yes (so_far another_hash 1)
      ≡ told_of (listed_in (104 ∷ []) (entry.Gap 1 whys.Disputed ∷ [])) (1 ∷ []) [] 4
  -- the settled number is listed again
  pub again_settled : SettlesFirst listed_again (104 ∷ [])
  pub again_last : report_of yes (night_log listed_again 1)
      ≡ told_of (listed_in (104 ∷ []) (entry.Listed 1 4 ∷ [])) [] [] 3
  pub again_whole : report_of yes (so_far listed_again 1)
      ≡ told_of (listed_in (104 ∷ []) (entry.Listed 1 1 ∷ [])) (4 ∷ []) [] 5
  -- a number that is lost comes before a settled one with its hash
  pub lost_settled : SettlesFirst lost_before (105 ∷ [])
  pub lost_last : report_of yes (night_log lost_before 1)
      ≡ told_of (joined_with (sent_by (104 ∷ []) 1) (entry.Gap 1 whys.Lost ∷ [])
      ∷ record { session = sent_by (105 ∷ []) 1; state = states.Joined; groups = [] } ∷ []) [] [] 3
  pub lost_whole : report_of yes (so_far lost_before 1)
      ≡ told_of (joined_with (sent_by (104 ∷ []) 1) (entry.Listed 1 1 ∷ [])
      ∷ joined_with (sent_by (105 ∷ []) 1) (entry.Gap 1 whys.Lost ∷ []) ∷ []) [] [] 5
  -- two messages have one hash
  pub twins_settled : SettlesFirst twins (104 ∷ [])
  pub twins_last : report_of yes (night_log twins 1)
      ≡ told_of (listed_in (104 ∷ []) (entry.Hole 1 1 ∷ entry.Listed 2 3 ∷ [])) [] [] 3
  pub twins_whole : report_of yes (so_far twins 1)
      ≡ told_of (listed_in (104 ∷ []) (entry.Listed 1 1 ∷ entry.Gap 2 whys.Lost ∷ [])) (3 ∷ []) [] 5
  -- and the second one is listed under no number with that hash
  pub wanted_settled : SettlesFirst twins_wanted (104 ∷ [])
  pub wanted_last : report_of yes (night_log twins_wanted 1)
      ≡ told_of (listed_in (104 ∷ []) (entry.Hole 1 1 ∷ entry.Listed 2 3 ∷ entry.Gap 3 whys.Lost ∷ [])) (4 ∷ []) [] 5
  pub wanted_whole : report_of yes (so_far twins_wanted 1)
      ≡ told_of (listed_in (104 ∷ []) (entry.Listed 1 1 ∷ entry.Listed 2 3 ∷ entry.Listed 3 4 ∷ [])) [] [] 7
