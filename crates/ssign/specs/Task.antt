-- What is asked of a log.
use Rattle.std.specs.Prelude.{ℕ, false, List, Option, Some, None, if◌then◌else◌}
use Rattle.ss_review.specs.sessions.Verified.{Answers}
use Rattle.ss_review.specs.declared.counted.counter.Counter.{Counter}
use Rattle.ss_report.specs.forms.Forms.{notation_of}
use Rattle.ss_report.specs.runs.Run.{Job}
use Rattle.ss_report.specs.lines.Between.{end_counters}
use Rattle.ss_report.specs.runs.Jobs.{asking, counting, extracting, inspecting, reviewing_as, reviewing_between}
use Rattle.ss_report.specs.runs.Jobs.{reviewing_whole}
use Rattle.ss_frame.specs.declared.limits.Form.TheVariants.{Frames}
use Rattle.ss_report.specs.declared.forms.inspection_form.InspectionForm.{InspectionForm}
use Rattle.ss_report.specs.declared.runs.extraction.Extraction.{Extraction}
use Rattle.ss_report.specs.declared.runs.extraction.Selection.TheVariants.{Carried}
use Rattle.ssign.specs.declared.task.Reporting.{Reporting}
use Rattle.ssign.specs.declared.task.Task.{Task}
use Rattle.ssign.specs.declared.task.Task.TheVariants.{Review, Questions, Extract, Inspect, Counters, Carry}

-- a review by these known payloads, with or without what is missing beside the report, up to these counters; or of one
-- night, where those at which it begins are given
abbrev pub review_of :
    Answers → Reporting → (known : Option (List (List ℕ))) → (first counters : Option (List Counter)) → Job
review_of says r known (Some first) counters = reviewing_between r.form r.detail first counters known says
review_of says r known None counters =
    if r.whole then reviewing_whole r.form r.detail (end_counters counters) known says
    else reviewing_as r.form r.detail known says

-- what is carried over to the next log, as frames, and as it stands
abbrev pub carrying : Extraction
carrying = record { selection = Carried; form = Frames; unwrap = false }

-- how an inspection is written
abbrev pub inspection_form : Reporting → InspectionForm
inspection_form r = record { lines = r.form; unwrap = r.unwrap }

-- what a run makes of a log: under these answers, or without any, by these known payloads, and as it is to be reported;
-- of a review that is to be whole, from the first counters up to the others, of an inspection the places whose messages
-- are shown, and of an extract what is to be written
abbrev pub job_of :
    Answers → Reporting → (known : Option (List (List ℕ))) → (first counters : Option (List Counter))
    → (facts : Option (List ℕ)) → Extraction → Task → Job
job_of says r known first counters facts e Review = review_of says r known first counters
job_of says r known first counters facts e Questions = asking (notation_of r.form) r.payloads known
job_of says r known first counters facts e Extract = extracting e known says
job_of says r known first counters facts e Inspect = inspecting (inspection_form r) facts
job_of says r known first counters facts e Counters = counting (notation_of r.form) known says
job_of says r known first counters facts e Carry = extracting carrying known says
