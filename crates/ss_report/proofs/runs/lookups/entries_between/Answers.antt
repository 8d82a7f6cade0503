use Rattle.std.proofs.Common.{rules, sym, subst, ◌∙◌}
use Rattle.std.specs.List.Sorted.{IsPartitionedBy}
use Rattle.std.proofs.lemmas.List.Sorted.{IsPartitionPoint-from_clause}
use Rattle.ss_report.proofs.of_carrying.EntriesBetween.{Parts, below, first_parted, end_parted, range_is}
use Rattle.ss_report.proofs.runs.lookups.entries_between.Goals as goal

pub returns : goal.returns
returns c =
    let es = c.args.entries.now in
    let rest = c.split_at.result.1.now in
    let start = c.partition_point-start.result in
    let count = c.partition_point-count.result in
    let first : Parts c.args.first es start
    = IsPartitionPoint-from_clause (below c.args.first) es start c.partition_point-start.ensures.partitioned (first_parted es c.requires c.args.first) (λ a r q k. search rules) in
    let parted : IsPartitionedBy (below c.args.end) rest = subst (IsPartitionedBy (below c.args.end)) (sym c.split_at.ensures.back) (end_parted es c.requires c.args.end start) in
    let second : Parts c.args.end rest count
    = IsPartitionPoint-from_clause (below c.args.end) rest count c.partition_point-count.ensures.partitioned parted (λ a r q k. search rules) in
    c.split_at-2.ensures.front
    ∙ range_is es c.requires c.args.first c.args.end rest start count c.split_at.ensures.back first second c.partition_point-count.ensures.bound
