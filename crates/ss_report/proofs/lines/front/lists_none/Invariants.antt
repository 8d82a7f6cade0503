-- Nothing of the first sessions is listed.
use Rattle.std.proofs.Common.{◌≡◌, [], take, flat_map}
use Rattle.ss_report.specs.lines.Front.{session_places}
use Rattle.ss_report.proofs.lines.front.lists_none.Given as goal

abbrev pub invariant-loop-session : goal.invariant-loop-session
invariant-loop-session l = flat_map session_places (take l.session-index l.sessions) ≡ []
