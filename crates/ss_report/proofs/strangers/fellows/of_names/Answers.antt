use Rattle.std.proofs.Common.{rules, sym, subst, ◌∙◌}
use Rattle.std.specs.List.Sorted.{IsPartitionedBy}
use Rattle.std.proofs.lemmas.List.Sorted.{IsPartitionPoint-from_clause}
use Rattle.ss_report.proofs.of_strangers.SameNames.{Parts, before, within, before_parted, within_parted, range_is}
use Rattle.ss_report.proofs.strangers.fellows.of_names.Goals as goal

pub returns : goal.returns
returns c = λ up.
    let s = c.args.session.now in
    let ts = c.args.sessions.now in
    let rest = c.split_at.result.1.now in
    let start = c.partition_point-start.result in
    let count = c.partition_point-count.result in
    let first : Parts (before s) ts start
    = IsPartitionPoint-from_clause (before s) ts start c.partition_point-start.ensures.partitioned (before_parted s ts up) (λ a r q k. search rules) in
    let parted : IsPartitionedBy (within s) rest = subst (IsPartitionedBy (within s)) (sym c.split_at.ensures.back) (within_parted s ts up start first) in
    let second : Parts (within s) rest count
    = IsPartitionPoint-from_clause (within s) rest count c.partition_point-count.ensures.partitioned parted (λ a r q k. search rules) in
    c.split_at-2.ensures.front ∙ range_is s ts up rest start count c.split_at.ensures.back first second
