-- The forms of a report's output.
use Rattle.std.specs.Prelude.{ℕ, Bool, true, false, ◌&&◌, if◌then◌else◌, List, [], flat_map}
use Rattle.ss_review.specs.declared.report.report.Report.{Report}
use Rattle.ss_report.specs.declared.log.ending.Ending.{Ending}
use Rattle.ss_report.specs.declared.forms.report_form.ReportForm.{ReportForm}
use Rattle.ss_report.specs.declared.forms.report_form.ReportForm.TheVariants as forms
use Rattle.ss_report.specs.declared.notation.Notation.{Notation}
use Rattle.ss_report.specs.declared.notation.Notation.TheVariants.{Plain, Json}
use Rattle.ss_report.specs.records.Written.{written}
use Rattle.ss_report.specs.lines.Lines.{ReportLine, OkLine, itemized, lines}
use Rattle.ss_report.specs.lines.Records.{record_of}

-- how each line of a form is written
abbrev pub notation_of : ReportForm → Notation
notation_of forms.Text = Plain
notation_of forms.Findings = Plain
notation_of forms.Json = Json
notation_of forms.JsonFindings = Json

-- whether a form has findings alone
abbrev pub has_findings_alone : ReportForm → Bool
has_findings_alone forms.Text = false
has_findings_alone forms.Findings = true
has_findings_alone forms.Json = false
has_findings_alone forms.JsonFindings = true

-- each other line is a finding
abbrev pub is_ok : ReportLine → Bool
is_ok (OkLine s g number place) = true
is_ok line = false

-- a line in a form
abbrev pub line_as : ReportForm → ReportLine → List ℕ
line_as form line =
    if has_findings_alone form && is_ok line then [] else written (notation_of form) (record_of line)

-- the text of the report
abbrev pub report_lines : Report → Ending → List ℕ
report_lines report ending = flat_map (line_as forms.Text) (lines itemized report ending)
