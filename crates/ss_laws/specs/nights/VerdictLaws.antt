-- What the verdict of a review between counters means for its night.
use Rattle.std.specs.Prelude.{◌≡◌, ◌↔◌, ℕ, Option, List, []}
use Rattle.ss_frame.specs.declared.step.Tail.TheVariants as tails
use Rattle.ss_review.specs.declared.counted.counter.Counter.{Counter}
use Rattle.ss_review.specs.sessions.Verified.{Answers}
use Rattle.ss_report.specs.declared.log.ending.Ending.{Ending}
use Rattle.ss_report.specs.declared.verdict.verdict.Verdict.{Verdict}
use Rattle.ss_report.specs.declared.verdict.verdict.Verdict.TheVariants as verdicts
use Rattle.ss_report.specs.lines.Between.{between_lines_by}
use Rattle.ss_report.specs.lines.Lines.{itemized}
use Rattle.ss_report.specs.Verdict.{lines_verdict}
use Rattle.ss_laws.specs.nights.Night.{log_report, night_by}
use Rattle.ss_laws.specs.nights.CleanLaws.{IsCleanNight}

-- the verdict of a review between counters, by the payloads that are known beforehand, or without any
abbrev pub verdict_between :
    Option (List (List ℕ)) → Answers → (first : List Counter) → (second : Option (List Counter)) → List (List ℕ)
    → Ending → Verdict
verdict_between known says first second log ending =
    lines_verdict (between_lines_by known itemized says first second log ending)

-- The verdict is clean exactly if the night is, nothing is damaged, and the log has a clean end.
abbrev pub VerdictsAreOfNights : Type 0
VerdictsAreOfNights =
    (known : Option (List (List ℕ))) (says : Answers) (log : List (List ℕ)) (first : List Counter)
    (second : Option (List Counter)) (ending : Ending)
    → (verdict_between known says first second log ending ≡ verdicts.Clean)
    ↔ (IsCleanNight (log_report known says log) (night_by known says log first second) × (ending.damaged ≡ [])
    × (ending.tail ≡ tails.Clean))
