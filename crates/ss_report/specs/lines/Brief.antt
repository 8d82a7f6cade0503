-- The entries of a group in brief: those that aren't listed, the listed ones right before or after them, and the last one.
-- So the neighbours of each run of numbers that aren't listed are there, and that of what is missing after the last entry.
use Rattle.std.specs.Prelude.{true, false, if◌then◌else◌, List, [], ◌∷◌, ◌++◌, Some, None}
use Rattle.std.specs.List.{cons_option}
use Rattle.ss_review.specs.declared.report.entry.Entry.{Entry}
use Rattle.ss_review.specs.report.Verdict.{is_listed}
use Rattle.ss_report.specs.declared.lines.brief.Waiting.{Waiting}

-- before the first entry, and after a listed one that is shown
abbrev pub nothing_waits : Waiting
nothing_waits = record { after = false; entry = None }

-- what is shown at an entry: a listed one after one that isn't, or one that isn't, with the listed one before it
abbrev pub shown_at : Waiting → Entry → List Entry
shown_at w e =
    if is_listed e then (if w.after then e ∷ [] else [])
    else cons_option w.entry (e ∷ [])

-- which listed entry waits then for one that isn't listed
abbrev pub waiting_after : Waiting → Entry → Waiting
waiting_after w e =
    if is_listed e then (if w.after then nothing_waits else record { after = false; entry = Some e })
    else record { after = true; entry = None }

-- what is shown at several entries
abbrev pub brief_from : Waiting → List Entry → List Entry
brief_from w [] = []
brief_from w (e ∷ es) = shown_at w e ++ brief_from (waiting_after w e) es

-- which one waits after several entries
abbrev pub waiting_after_all : Waiting → List Entry → Waiting
waiting_after_all w [] = w
waiting_after_all w (e ∷ es) = waiting_after_all (waiting_after w e) es

-- what is shown at the entries, and then the one that waits after the last
unfoldable pub brief : List Entry → List Entry
brief es = brief_from nothing_waits es ++ cons_option (waiting_after_all nothing_waits es).entry []
