-- Lines that are handed on one by one, each as a value, to a visitor.
use Rattle.std.specs.Prelude.{◌≡◌, List, [], ◌∷◌}
use Rattle.ss_report.specs.lines.Lines.{ReportLine}

-- from one state to another, where each line is visited after the one before it, and nothing else happens
abbrev pub TakesAll : {S : Type 0} → (S → S → ReportLine → Type 0) → (before after : S) → List ReportLine → Type 0
TakesAll takes before after [] = after ≡ before
TakesAll takes before after (line ∷ others) =
    (between : _) × takes before between line × TakesAll takes between after others
