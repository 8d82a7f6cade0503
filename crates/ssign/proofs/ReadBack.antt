-- The text of a log's counters has these counters, and they add nothing to its review.
use Rattle.std.proofs.Common.{ℕ, List, [], ◌∷◌, ◌++◌, None, sym, ap, ◌∙◌, flat_map, subst, arith, append-nil}
use Rattle.std.specs.Prelude.{All}
use Rattle.ss_review.specs.counted.CounterRange.{IsCounter}
use Rattle.ss_review.specs.counted.KeptLaws.{CountersGivenBack, LogCountersAddNothing, LogCountersAreInRange, log_counters}
use Rattle.ss_review.specs.report.Report.{report}
use Rattle.ss_review.specs.sessions.Verified.{Answers}
use Rattle.ss_report.specs.runs.CounterLaws.{CountersAreTheLogs}
use Rattle.ss_report.specs.forms.Forms.{line_as}
use Rattle.ss_report.specs.runs.Jobs.{counting}
use Rattle.ss_report.specs.lines.Between.{front_by, lines_between}
use Rattle.ss_report.specs.Verdict.{verdict_where}
use Rattle.ss_report.specs.lines.Lines.{itemizing}
use Rattle.ss_report.specs.declared.notation.Notation.TheVariants.{Plain}
use Rattle.ss_answers.specs.CounterFile.{HasOnly, PartsHaveTheirCounters, part_text}
use Rattle.ssign.specs.ReadBack.{ChangeNothing, CountersAreReadBack}

changes_nothing : LogCountersAddNothing → CountersGivenBack
    → (says : Answers) (log : List (List ℕ)) → ChangeNothing says log (log_counters says log)
changes_nothing nothing given_back says log = record {
  output = λ form detail tail.
      ap (λ short. flat_map (line_as form) (front_by None detail says log ++ lines_between detail None None (report says log) short tail)) (nothing says log);
  verdict = λ form detail tail.
      ap (λ short. verdict_where detail.ignore_strangers (front_by None detail says log ++ lines_between (itemizing detail) None None (report says log) short tail)) (nothing says log);
  missing = given_back says log;
}

pub read_back : PartsHaveTheirCounters → CountersAreTheLogs → LogCountersAreInRange
    → LogCountersAddNothing → CountersGivenBack → CountersAreReadBack
read_back parts written in_range nothing given_back says log tail =
    let own = log_counters says log in
    let read : HasOnly ((counting Plain None says).output log tail) own
    = subst (λ text. HasOnly text own) (append-nil (part_text own) ∙ sym (written None says log tail))
    (subst (HasOnly (part_text own ++ [])) (append-nil own) (parts (own ∷ []) (omega arith) (subst (All IsCounter) (sym (append-nil own)) (in_range says log)))) in
    record {
      read = read;
      given_back = λ counters has.
          subst (ChangeNothing says log) (sym (read.no_others counters has)) (changes_nothing nothing given_back says log);
    }
