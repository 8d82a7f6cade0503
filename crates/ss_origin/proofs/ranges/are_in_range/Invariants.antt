use Rattle.std.proofs.Common.{◌≡◌, ◌&&◌, true, take}
use Rattle.std.specs.List.{list_all}
use Rattle.ss_origin.specs.Groups.{has_group}
use Rattle.ss_origin.specs.Configs.{is_between}
use Rattle.ss_origin.proofs.ranges.are_in_range.Given as goal

abbrev pub invariant-loop-next : goal.invariant-loop-next
invariant-loop-next l = list_all (λ n. has_group l.grouping n.spri && is_between 1 10000000000 n.number) (take l.next-index l.numbers) ≡ true
