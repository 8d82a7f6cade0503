-- What is shown of the entries so far, and what waits after them.
use Rattle.std.proofs.Common.{◌≡◌, take, map, filter_map}
use Rattle.ss_between.specs.Between.{entry_left}
use Rattle.ss_report.specs.lines.Brief.{brief_from, nothing_waits, waiting_after_all}
use Rattle.ss_report.specs.lines.Lines.{entry_line}
use Rattle.ss_report.specs.lines.Taken.{TakesAll}
use Rattle.ss_report.proofs.lines.brief.walk_brief_left.Given as goal

abbrev pub invariant-loop-entry : goal.invariant-loop-entry
invariant-loop-entry g l = record {
  shown : TakesAll (g.V.LineVisitor.takes l.visitor) l.initial.into l.into (map (entry_line l.session l.group) (brief_from nothing_waits (filter_map (entry_left l.number) (take l.entry-index l.entries))));
  waits : l.waiting ≡ waiting_after_all nothing_waits (filter_map (entry_left l.number) (take l.entry-index l.entries));
}
