use Rattle.std.proofs.Common.{◌≡◌, ◌+◌, drop}
use Rattle.std.specs.List.{prefix_len}
use Rattle.ss_message.specs.Octets.{is_no_space}
use Rattle.ss_report.proofs.texts.facts.space_at.Given as goal

abbrev pub invariant-loop-i : goal.invariant-loop-i
invariant-loop-i l = prefix_len is_no_space l.octets ≡ l.i + prefix_len is_no_space (drop l.i l.octets)
