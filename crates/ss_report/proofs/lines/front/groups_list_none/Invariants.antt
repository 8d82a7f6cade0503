-- Nothing of the first groups is listed.
use Rattle.std.proofs.Common.{◌≡◌, [], take, flat_map}
use Rattle.ss_report.specs.lines.Front.{group_places}
use Rattle.ss_report.proofs.lines.front.groups_list_none.Given as goal

abbrev pub invariant-loop-group : goal.invariant-loop-group
invariant-loop-group l = flat_map group_places (take l.group-index l.groups) ≡ []
