-- A small log of three nights, where a premise fails after the second one and holds in the end, and one of two nights,
-- where the premises hold after the first one and one fails in the end.
use Rattle.std.specs.Prelude.{◌≡◌, ◌+◌, ℕ, List, [], ◌∷◌}
use Rattle.ss_review.specs.declared.report.entry.Why.TheVariants as whys
use Rattle.ss_review.specs.declared.report.entry.Entry.TheVariants as entry
use Rattle.ss_review.specs.declared.report.session_report.SessionReport.{SessionReport}
use Rattle.ss_review.specs.declared.report.session_report.SessionState.TheVariants as states
use Rattle.ss_review.specs.keep.Contents.{Contents}
use Rattle.ss_review.specs.report.Report.{report_of}
use Rattle.ss_review.specs.report.Rows.{first, message, sent_by, yes}
use Rattle.ss_laws.specs.parts.cases.PartRows.{joined_with}
use Rattle.ss_laws.specs.carry.Nights.{Nights, night_log, so_far, LeaveEnough, IsSettled}
use Rattle.ss_laws.specs.carry.cases.NightRows.{payload_at, number_at, number_of, told_of, disputed_later}
use Rattle.ss_laws.specs.carry.Together.{FilesFollow, JoinedStay, LostStandBehind, AgreeLater}
use Rattle.ss_laws.specs.carry.CarriedNights.{carried_nights}
use Rattle.ss_laws.specs.carry.cases.CounterRows.{cut_at}

-- Two hosts announce one message. The one that comes last in the report settles it in the first night, the block of the
-- other one comes in the second night, and a copy of the message in the third.
abbrev pub early : List ℕ
early = 104 ∷ []

abbrev pub late : List ℕ
late = 105 ∷ []

abbrev pub copied_log : Contents
copied_log = record {
  normal = message 1 first ∷ message 5 first ∷ [];
  blocks = payload_at 0 late ∷ number_at 2 late 1 1 ∷ payload_at 3 early ∷ number_at 4 early 1 1 ∷ [];
  spoilt = [];
  count = 6;
}

-- three files, the first of which ends before place 3, and the second before place 5
abbrev pub three_files : ℕ → ℕ
three_files place = cut_at 3 place + cut_at 5 place

abbrev pub copied_later : Nights
copied_later = carried_nights yes three_files copied_log

-- the session of a host without a number
abbrev pub without_numbers : List ℕ → SessionReport
without_numbers host = record { session = sent_by host 1; state = states.Joined; groups = [] }

pub record NightBeforeIsThis : Type 0 where
  -- all premises hold in the end
  pub copied_leave : LeaveEnough yes copied_later 2
  pub copied_follow : FilesFollow copied_later
  pub copied_agree : AgreeLater yes copied_later 2
  pub copied_settled : IsSettled yes copied_later 0 (number_of late 1) 1
  -- a night before one of them doesn't, and the nights report something else than one review of the files up to then
  pub copied_fails : ¬ LostStandBehind yes copied_later 1
  pub copied_second : report_of yes (night_log copied_later 1)
      ≡ told_of (joined_with (sent_by early 1) (entry.Gap 1 whys.Lost ∷ []) ∷ without_numbers late ∷ []) [] [] 3
  pub copied_so_far : report_of yes (so_far copied_later 1)
      ≡ told_of (joined_with (sent_by early 1) (entry.Listed 1 1 ∷ []) ∷ joined_with (sent_by late 1) (entry.Gap 1 whys.Lost
      ∷ []) ∷ []) [] [] 5
  -- and in the end the same
  pub copied_third : report_of yes (night_log copied_later 2)
      ≡ told_of (joined_with (sent_by early 1) (entry.Listed 1 5 ∷ []) ∷ without_numbers late ∷ []) [] [] 4
  pub copied_whole : report_of yes (so_far copied_later 2)
      ≡ told_of (joined_with (sent_by early 1) (entry.Listed 1 1 ∷ []) ∷ joined_with (sent_by late 1) (entry.Listed 1 5
      ∷ []) ∷ []) [] [] 6
  -- the session that is disputed later
  pub disputed_first : AgreeLater yes disputed_later 0
  pub disputed_fails : ¬ JoinedStay yes disputed_later 1
