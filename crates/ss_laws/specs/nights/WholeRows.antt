-- Small logs of two nights, with made hashes: two that meet the premises, and for each premise two that don't, where each
-- night is clean and the whole isn't.
use Rattle.std.specs.Prelude.{◌≡◌, ℕ, ◌+◌, Some, List, [], ◌∷◌, ◌++◌, map}
use Rattle.std.specs.List.{zip}
use Rattle.ss_block.specs.declared.hash.Alg.TheVariants as algs
use Rattle.ss_block.specs.declared.hash.Hash.TheVariants as hashes
use Rattle.ss_block.specs.declared.hash.HashPair.{HashPair}
use Rattle.ss_review.specs.declared.counted.counter.Counter.{Counter}
use Rattle.ss_review.specs.declared.counted.shortfall.LogShortfalls.{LogShortfalls}
use Rattle.ss_review.specs.keep.BlockMessage.{BlockMessage, Hashes}
use Rattle.ss_review.specs.declared.keep.message.NormalMessage.{NormalMessage}
use Rattle.ss_review.specs.declared.report.entry.Entry.TheVariants as entry
use Rattle.ss_review.specs.declared.report.entry.Why.TheVariants as whys
use Rattle.ss_review.specs.declared.report.report.Report.{Report}
use Rattle.ss_review.specs.declared.report.session_report.SessionReport.{SessionReport}
use Rattle.ss_review.specs.declared.report.session_report.SessionState.TheVariants as states
use Rattle.ss_review.specs.keep.Notes.{notes}
use Rattle.ss_review.specs.keep.Contents.{Contents, contents}
use Rattle.ss_review.specs.report.Report.{report_of}
use Rattle.ss_review.specs.report.Rows.{first, second, third, message, certificate, group_told, yes}
use Rattle.ss_review.specs.counted.Counted.{counted_sessions}
use Rattle.ss_review.specs.counted.Kept.{log_shortfalls}
use Rattle.ss_review.specs.counted.KeptRows.{here, reported, counts_blocks, counts_messages}
use Rattle.ss_between.specs.Between.{session_between, absent_left}
use Rattle.ss_laws.specs.parts.Parts.{moved_spoilt}
use Rattle.ss_laws.specs.nights.Night.{NightReport}
use Rattle.ss_laws.specs.nights.CleanLaws.{IsCleanNight}

-- ---- two logs, one after the other

abbrev pub later_normal : ℕ → NormalMessage → NormalMessage
later_normal count m = record { place = count + m.place; pair = m.pair }

abbrev pub later_block : ℕ → BlockMessage → BlockMessage
later_block count b = record { place = count + b.place; count = b.count; session = b.session; said = b.said; signed = b.signed }

abbrev pub put_together : Contents → Contents → Contents
put_together a b = record {
  normal = a.normal ++ map (later_normal a.count) b.normal;
  blocks = a.blocks ++ map (later_block a.count) b.blocks;
  spoilt = a.spoilt ++ map (moved_spoilt (λ place. a.count + place)) b.spoilt;
  count = a.count + b.count;
}

-- what two logs hold, one after the other
abbrev pub LogsArePutTogether : Type 0
LogsArePutTogether =
    (log next : List (List ℕ))
    → contents (notes (log ++ next)) ≡ put_together (contents (notes log)) (contents (notes next))

-- ---- the logs

-- a message, after the whole payload and before a block with its SHA-1 hash, with this GBC and under this number
abbrev pub log_of_night : BlockMessage → HashPair → (hash gbc number : ℕ) → Contents
log_of_night payload pair hash gbc number = record {
  normal = message 1 pair ∷ [];
  blocks =
      payload
      ∷ record {
        place = 2;
        count = 1;
        session = here;
        said = Hashes (record {
          alg = algs.Sha1;
          rsid = 1;
          group = reported;
          gbc = gbc;
          first = number;
          hashes = hashes.Sha1 (hash ∷ []) ∷ [];
          signature = 0 ∷ [];
        });
        signed = 2 ∷ [];
      }
      ∷ [];
  spoilt = [];
  count = 3;
}

-- the payload `- N`, and the same with a blank at its end
abbrev pub one_payload : BlockMessage
one_payload = certificate 0 here 3 1 (45 ∷ 32 ∷ 78 ∷ [])

abbrev pub other_payload : BlockMessage
other_payload = certificate 0 here 4 1 (45 ∷ 32 ∷ 78 ∷ 32 ∷ [])

abbrev pub first_log : Contents
first_log = log_of_night one_payload first 1 0 1

-- the second night has another message, one with the SHA-1 of the first, or the other payload
abbrev pub second_log : Contents
second_log = log_of_night one_payload second 2 1 2

abbrev pub twin_log : Contents
twin_log = log_of_night one_payload third 1 1 2

abbrev pub other_payload_log : Contents
other_payload_log = log_of_night other_payload second 2 1 2

-- ---- what is reported

abbrev pub counters_at : (gbc number : ℕ) → List Counter
counters_at gbc number = counts_blocks here gbc ∷ counts_messages here reported number ∷ []

abbrev pub night_with : LogShortfalls → List Counter → List Counter → Report → NightReport
night_with all from to r = record {
  sessions = map (session_between from (Some to)) (zip r.sessions all.known);
  absent = absent_left from all.absent;
}

-- the log of a night is clean between the counters
abbrev pub IsCleanBetween : List Counter → List Counter → Contents → Type 0
IsCleanBetween from to log =
    let r = report_of yes log in
    IsCleanNight r (night_with (log_shortfalls to r.sessions (counted_sessions yes log.blocks)) from to r)

abbrev pub told_in : List SessionReport → List ℕ → List ℕ → Report
told_in ss unlisted refused =
    record { sessions = ss; unlisted = unlisted; refused = refused; spoilt = []; count = 6 }

pub record WholeNightsAreThese : Type 0 where
  pub first_night : IsCleanBetween [] (counters_at 1 2) first_log
  -- another message: all is listed
  pub second_night : IsCleanBetween (counters_at 1 2) (counters_at 2 3) second_log
  pub whole : report_of yes (put_together first_log second_log)
      ≡ told_in (record {
        session = here;
        state = states.Joined;
        groups = group_told (entry.Listed 1 1 ∷ entry.Listed 2 4 ∷ []) ∷ [];
      } ∷ []) [] []
  -- a message with the SHA-1 of the first: it is listed nowhere
  pub twin_night : IsCleanBetween (counters_at 1 2) (counters_at 2 3) twin_log
  pub whole_with_twins : report_of yes (put_together first_log twin_log)
      ≡ told_in (record {
        session = here;
        state = states.Joined;
        groups = group_told (entry.Listed 1 1 ∷ entry.Gap 2 whys.Lost ∷ []) ∷ [];
      } ∷ []) (4 ∷ []) []
  -- another payload: the session is disputed
  pub other_payload_night : IsCleanBetween (counters_at 1 2) (counters_at 2 3) other_payload_log
  pub whole_with_payloads : report_of yes (put_together first_log other_payload_log)
      ≡ told_in (record { session = here; state = states.Disputed; groups = [] } ∷ []) (1 ∷ 4 ∷ []) (0 ∷ 2 ∷ 3 ∷ 5 ∷ [])
