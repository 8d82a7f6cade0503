-- Small logs that are cut in two, and what is missing of them up to counters that were kept.
use Rattle.std.specs.Prelude.{◌≡◌, ℕ, List, [], ◌∷◌, ◌++◌}
use Rattle.ss_block.specs.declared.session.Session.{Session}
use Rattle.ss_review.specs.declared.counted.counter.Counter.{Counter}
use Rattle.ss_review.specs.declared.counted.shortfall.LogShortfalls.{LogShortfalls}
use Rattle.ss_review.specs.declared.counted.shortfall.Shortfall.{Shortfall}
use Rattle.ss_review.specs.keep.Contents.{Contents}
use Rattle.ss_review.specs.counted.Counted.{counted_sessions}
use Rattle.ss_review.specs.counted.Kept.{log_shortfalls}
use Rattle.ss_review.specs.counted.KeptRows.{counts_blocks, counts_messages, missing_of, run, tail}
use Rattle.ss_review.specs.report.Report.{report_of}
use Rattle.ss_review.specs.report.Rows.{sent_by, yes}
use Rattle.ss_laws.specs.parts.Parts.{AreParts, part_of}
use Rattle.ss_laws.specs.parts.cases.CounterRows.{gate, door, only_group, two_logs, by_host, home}
use Rattle.ss_laws.specs.parts.WholeParts.{IsHome, counters_at_home, missing_together}

-- ---- what is missing

-- what is missing of a log with these contents up to counters, which is `shortfalls_of` of a log of texts
abbrev pub lacks : Contents → List Counter → LogShortfalls
lacks log cs = log_shortfalls cs (report_of yes log).sessions (counted_sessions yes log.blocks)

abbrev pub halves_lack : (ℕ → ℕ) → Contents → List Counter → List Counter → LogShortfalls
halves_lack part log cs ds =
    missing_together (lacks (part_of part 0 log) cs ∷ lacks (part_of part 1 log) ds ∷ [])

-- ---- counters that were kept

-- a session without a block
abbrev pub lost : Session
lost = sent_by (106 ∷ []) 1

-- those of the session that lacks something, those of the other one, and those of the one without a block
abbrev pub of_gate : List Counter
of_gate = counts_blocks gate 5 ∷ counts_messages gate only_group 6 ∷ []

abbrev pub of_door : List Counter
of_door = counts_messages door only_group 2 ∷ []

abbrev pub of_lost : List Counter
of_lost = counts_blocks lost 1 ∷ counts_messages lost only_group 3 ∷ []

abbrev pub all_kept : List Counter
all_kept = of_gate ++ (of_door ++ of_lost)

-- ---- what is missing up to them

abbrev pub lack_of_gate : Shortfall
lack_of_gate = missing_of gate (tail only_group 4 5 ∷ []) (run 0 1 ∷ run 3 4 ∷ [])

abbrev pub lack_of_lost : Shortfall
lack_of_lost = missing_of lost (tail only_group 1 2 ∷ []) (run 0 0 ∷ [])

abbrev pub lacking : Shortfall → List Shortfall → LogShortfalls
lacking known absent = record { known = known ∷ missing_of door [] [] ∷ []; absent = absent }

abbrev pub two_logs_lack : LogShortfalls
two_logs_lack = lacking lack_of_gate (lack_of_lost ∷ [])

-- what is missing of the first session without its counters: what its blocks show by themselves
abbrev pub shown_of_gate : Shortfall
shown_of_gate = missing_of gate [] (run 0 1 ∷ [])

pub record MissingOfPartsIsThis : Type 0 where
  -- a cut that keeps the premises, and counters that each part may be given
  pub cut_keeps : AreParts yes two_logs by_host 2
  pub home_is : IsHome two_logs.blocks by_host 2 home
  pub lack : lacks two_logs all_kept ≡ two_logs_lack
  pub halves_lack_all : halves_lack by_host two_logs all_kept all_kept ≡ two_logs_lack
  pub halves_lack_theirs : halves_lack by_host two_logs (counters_at_home home all_kept 0) (counters_at_home home all_kept 1)
      ≡ two_logs_lack
  -- the counters of the first session are given to the other part alone: what is missing up to them isn't reported
  pub given_elsewhere : halves_lack by_host two_logs of_door (of_gate ++ of_lost) ≡ lacking shown_of_gate (lack_of_lost ∷ [])
  -- those of the session without a block are given to no part: it isn't reported
  pub given_nowhere : halves_lack by_host two_logs of_gate of_door ≡ lacking lack_of_gate []
  -- they are divided between the parts: only what one part misses is reported
  pub divided : halves_lack by_host two_logs (of_gate ++ counts_blocks lost 1 ∷ []) (of_door ++ counts_messages lost only_group 3 ∷ [])
      ≡ lacking lack_of_gate (missing_of lost [] (run 0 0 ∷ []) ∷ [])
