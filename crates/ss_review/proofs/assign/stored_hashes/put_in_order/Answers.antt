use Rattle.std.proofs.Common.{sym, subst, rules}
use Rattle.std.specs.Prelude.{Contains}
use Rattle.std.specs.Ordering.{eq_by_cmp, is_lt}
use Rattle.std.specs.List.Sorted.{IsSorted, IsStrictlySortedBy}
use Rattle.std.proofs.lemmas.Fn.{always_returns_same, dedup_same}
use Rattle.std.proofs.lemmas.List.MinMax.{ranks_by}
use Rattle.ss_review.specs.declared.assign.hash_entry.HashEntry.{HashEntry}
use Rattle.ss_review.specs.assign.StoredHashes.{entry_cmp, listed, stored_cmp}
use Rattle.ss_review.proofs.of_assignment.ListedHashes.{entry_cmp_total, left_begin, left_rise, left_keep, left_add_none}
use Rattle.ss_review.proofs.assign.stored_hashes.put_in_order.Goals as goal

pub returns : goal.returns
returns c =
    let pairs = c.args.pairs.now in
    let old = c.args.list.now.items in
    let sorted = c.sort_unstable_by.new.self.items in
    let up : IsSorted (entry_cmp pairs) sorted
    = c.sort_unstable_by.ensures.sorted (λ a b. is_lt (entry_cmp pairs a b)) (ranks_by (entry_cmp_total pairs) (λ (e : HashEntry). e)) (always_returns_same _ _ _ (λ a r f k. search rules)) in
    let is = dedup_same _ (eq_by_cmp (entry_cmp pairs)) _ (λ x y b f' x' y' k. search rules) _ _ c.dedup_by.ensures.filtered in
    let moved = c.sort_unstable_by.ensures.permutation in
    record {
      begin = λ begin e h. left_begin pairs old sorted moved up begin e (subst (λ es. Contains es e) is h);
      rises = λ begin. subst (λ es. IsStrictlySortedBy stored_cmp (listed pairs es)) (sym is) (left_rise pairs old sorted moved up begin);
      keeps = λ e h. subst (λ es. Contains (listed pairs es) e) (sym is) (left_keep pairs old sorted moved up e h);
      adds_none = λ e h. left_add_none pairs old sorted moved up e (subst (λ es. Contains (listed pairs es) e) is h);
    }
