-- Small logs that are cut in two, and the reports of their parts put together.
use Rattle.std.specs.Prelude.{◌≡◌, ℕ, ◌==◌, true, false, List, [], ◌∷◌, if◌then◌else◌}
use Rattle.std.specs.List.{list_any}
use Rattle.ss_block.specs.declared.hash.Alg.TheVariants as algs
use Rattle.ss_block.specs.declared.hash.Hash.TheVariants as hashes
use Rattle.ss_block.specs.declared.session.Session.{Session}
use Rattle.ss_review.specs.declared.report.entry.Why.TheVariants as whys
use Rattle.ss_review.specs.declared.report.entry.Entry.{Entry}
use Rattle.ss_review.specs.declared.report.entry.Entry.TheVariants as entry
use Rattle.ss_review.specs.declared.report.session_report.SessionState.TheVariants as states
use Rattle.ss_review.specs.declared.report.session_report.SessionReport.{SessionReport}
use Rattle.ss_review.specs.declared.report.report.Report.{Report}
use Rattle.ss_review.specs.keep.Contents.{Contents}
use Rattle.ss_review.specs.report.Report.{report_of}
use Rattle.ss_review.specs.report.Verdict.{is_clean}
use Rattle.ss_laws.specs.parts.Parts.{part_of, SessionsStayWhole, AnnouncedStayWithBlocks, AreParts, together}
use Rattle.ss_review.specs.report.Rows.{
  first,
  second,
  message,
  certificate,
  hashes_of,
  sent_by,
  group_told,
  yes,
  whole_log,
  two_sessions_log,
  two_hosts_payloads_log,
  two_hosts_payloads_report,
}

-- these places are part 1, and all others part 0
abbrev pub cut_off : List ℕ → ℕ → ℕ
cut_off places place = if list_any (λ p. p == place) places then 1 else 0

-- the report of one of two parts
abbrev pub half : List ℕ → Contents → ℕ → Report
half places log k = report_of yes (part_of (cut_off places) k log)

abbrev pub put_together : List ℕ → Contents → Report
put_together places log =
    together (half places log 0 ∷ half places log 1 ∷ [])

abbrev pub joined_with : Session → List Entry → SessionReport
joined_with s es = record { session = s; state = states.Joined; groups = group_told es ∷ [] }

-- a message is cut off from the block that announces it
abbrev pub message_cut_off_report : Report
message_cut_off_report = record {
  sessions = joined_with (sent_by (104 ∷ []) 1) (entry.Gap 1 whys.Lost ∷ entry.Listed 2 1 ∷ []) ∷ [];
  unlisted = 0 ∷ [];
  refused = [];
  spoilt = [];
  count = 4;
}

-- the certificate block of a session is cut off from its signature block
abbrev pub block_cut_off_report : Report
block_cut_off_report = record {
  sessions = record { session = sent_by (104 ∷ []) 1; state = states.Incomplete; groups = [] } ∷ [];
  unlisted = 0 ∷ 1 ∷ [];
  refused = 3 ∷ [];
  spoilt = [];
  count = 4;
}

-- two sessions announce one message, and it is put to the one that doesn't get it in the whole
abbrev pub message_of_other_report : Report
message_of_other_report = record {
  sessions =
      joined_with (sent_by (104 ∷ []) 1) (entry.Gap 1 whys.Lost ∷ [])
      ∷ joined_with (sent_by (104 ∷ []) 2) (entry.Listed 1 0 ∷ [])
      ∷ [];
  unlisted = [];
  refused = [];
  spoilt = [];
  count = 5;
}

-- two blocks of a session announce two hashes for one number
abbrev pub halves_log : Contents
halves_log = record {
  normal = message 0 first ∷ message 3 second ∷ [];
  blocks =
      certificate 1 (sent_by (104 ∷ []) 1) 3 1 (45 ∷ 32 ∷ 78 ∷ [])
      ∷ hashes_of 2 (sent_by (104 ∷ []) 1) algs.Sha1 1 (hashes.Sha1 (1 ∷ []) ∷ [])
      ∷ certificate 4 (sent_by (104 ∷ []) 1) 3 1 (45 ∷ 32 ∷ 78 ∷ [])
      ∷ hashes_of 5 (sent_by (104 ∷ []) 1) algs.Sha1 1 (hashes.Sha1 (2 ∷ []) ∷ [])
      ∷ [];
  spoilt = [];
  count = 6;
}

abbrev pub halves_report : Report
halves_report = record {
  sessions = joined_with (sent_by (104 ∷ []) 1) (entry.Gap 1 whys.Disputed ∷ []) ∷ [];
  unlisted = 0 ∷ 3 ∷ [];
  refused = [];
  spoilt = [];
  count = 6;
}

pub record PartsAreThese : Type 0 where
  -- a session is cut off with all that belongs to it
  pub session_cut_off_keeps : AreParts yes two_hosts_payloads_log (cut_off (2 ∷ [])) 2
  pub session_cut_off : put_together (2 ∷ []) two_hosts_payloads_log ≡ two_hosts_payloads_report
  -- sessions stay whole, and the report of the whole is clean
  pub message_cut_off_keeps : SessionsStayWhole (cut_off (0 ∷ [])) whole_log.blocks
  pub message_cut_off : put_together (0 ∷ []) whole_log ≡ message_cut_off_report
  pub message_cut_off_is_not_clean : is_clean message_cut_off_report ≡ false
  -- messages stay with the block that announces them
  pub block_cut_off_keeps : AnnouncedStayWithBlocks yes (cut_off (2 ∷ [])) whole_log
  pub block_cut_off : put_together (2 ∷ []) whole_log ≡ block_cut_off_report
  pub block_cut_off_is_not_clean : is_clean block_cut_off_report ≡ false
  -- sessions stay whole, and the whole lists the message under the first one
  pub message_of_other_keeps : SessionsStayWhole (cut_off (0 ∷ 2 ∷ 4 ∷ [])) two_sessions_log.blocks
  pub message_of_other : put_together (0 ∷ 2 ∷ 4 ∷ []) two_sessions_log ≡ message_of_other_report
  -- messages stay with the block that announces them, and each part is clean
  pub halves_keep : AnnouncedStayWithBlocks yes (cut_off (3 ∷ 4 ∷ 5 ∷ [])) halves_log
  pub halves : report_of yes halves_log ≡ halves_report
  pub halves_are_not_clean : is_clean halves_report ≡ false
  pub first_half_is_clean : is_clean (half (3 ∷ 4 ∷ 5 ∷ []) halves_log 0) ≡ true
  pub second_half_is_clean : is_clean (half (3 ∷ 4 ∷ 5 ∷ []) halves_log 1) ≡ true
