-- Small logs that are cut in two, and the counters that they give.
use Rattle.std.specs.Prelude.{◌≡◌, ℕ, List, [], ◌∷◌, ◌++◌, if◌then◌else◌}
use Rattle.ss_block.specs.declared.block.Group.{Group}
use Rattle.ss_block.specs.declared.hash.Alg.TheVariants as algs
use Rattle.ss_block.specs.declared.hash.Hash.TheVariants as hashes
use Rattle.ss_block.specs.declared.session.Session.{Session}
use Rattle.ss_review.specs.declared.counted.counter.Counter.{Counter}
use Rattle.ss_review.specs.keep.BlockMessage.{BlockMessage, Hashes}
use Rattle.ss_review.specs.keep.Contents.{Contents}
use Rattle.ss_review.specs.sessions.Sessions.{same_session}
use Rattle.ss_review.specs.counted.Counted.{counted_sessions}
use Rattle.ss_review.specs.counted.KeptLaws.{counters_given}
use Rattle.ss_review.specs.counted.KeptRows.{counts_blocks, counts_messages}
use Rattle.ss_review.specs.report.Report.{report_of}
use Rattle.ss_review.specs.report.Rows.{first, second, message, certificate, sent_by, yes}
use Rattle.ss_laws.specs.parts.Parts.{part_of}
use Rattle.ss_laws.specs.parts.cases.PartRows.{cut_off}
use Rattle.ss_laws.specs.parts.PartCounters.{AreBlockParts, by_session}

-- two sessions
abbrev pub gate : Session
gate = sent_by (104 ∷ []) 1

abbrev pub door : Session
door = sent_by (105 ∷ []) 1

abbrev pub only_group : Group
only_group = record { sg = 0; spri = 0 }

-- a signature block that states this GBC, with one hash under one number
abbrev pub block_of : ℕ → Session → (gbc number hash : ℕ) → BlockMessage
block_of place s gbc number hash = record {
  place = place;
  count = 1;
  session = s;
  said = Hashes (record {
    alg = algs.Sha1;
    rsid = s.rsid;
    group = only_group;
    gbc = gbc;
    first = number;
    hashes = hashes.Sha1 (hash ∷ []) ∷ [];
    signature = 0 ∷ [];
  });
  signed = 2 ∷ [];
}

-- One session lacks its first numbers, and its first blocks. The other lacks nothing.
abbrev pub two_logs : Contents
two_logs = record {
  normal = message 1 first ∷ message 4 second ∷ [];
  blocks =
      certificate 0 gate 3 1 (45 ∷ 32 ∷ 78 ∷ [])
      ∷ block_of 2 gate 2 3 1
      ∷ certificate 3 door 3 1 (45 ∷ 32 ∷ 78 ∷ [])
      ∷ block_of 5 door 0 1 2
      ∷ [];
  spoilt = [];
  count = 6;
}

-- the places of the second session are part 1
abbrev pub by_host : ℕ → ℕ
by_host = cut_off (3 ∷ 4 ∷ 5 ∷ [])

-- the part of each session, and of any other one
abbrev pub home : Session → ℕ
home s = if same_session s gate then 0 else 1

-- the counters that a log with these contents gives, which are `log_counters` of a log of texts
abbrev pub gives : Contents → List Counter
gives log = counters_given (report_of yes log).sessions (counted_sessions yes log.blocks)

abbrev pub halves_give : (ℕ → ℕ) → Contents → List Counter
halves_give part log = gives (part_of part 0 log) ++ gives (part_of part 1 log)

abbrev pub two_logs_give : List Counter
two_logs_give =
    counts_blocks gate 3
    ∷ counts_messages gate only_group 4
    ∷ counts_blocks door 1
    ∷ counts_messages door only_group 2
    ∷ []

pub record CountersOfPartsAreThese : Type 0 where
  -- a cut that keeps the premises
  pub cut_keeps : AreBlockParts two_logs.blocks by_host 2
  pub give : gives two_logs ≡ two_logs_give
  pub halves_give_all : by_session (halves_give by_host two_logs) ≡ two_logs_give
  -- the certificate block of the first session is cut off: the part that has it gives 0, and the other nothing
  pub block_cut_off : by_session (halves_give (cut_off (0 ∷ 3 ∷ 4 ∷ 5 ∷ [])) two_logs)
      ≡ counts_blocks gate 0 ∷ counts_blocks door 1 ∷ counts_messages door only_group 2 ∷ []
