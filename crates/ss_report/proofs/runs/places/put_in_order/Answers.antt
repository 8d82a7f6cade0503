use Rattle.std.proofs.lemmas.Cmp.{nat_cmp_total}
use Rattle.std.proofs.lemmas.List.Filters.{dedup_is}
use Rattle.std.proofs.lemmas.List.Kept.{Contains-dedup_nat, Contains-from_dedup}
use Rattle.std.proofs.lemmas.List.Sorted.{Contains-permutation, IsPermutation-sym}
use Rattle.std.proofs.lemmas.Map.Keys.{IsStrictlyIncreasing-dedup, sorted_from_strictly_increasing}
use Rattle.std.proofs.lemmas.Map.Lookups.{exact_unsigned}
use Rattle.ss_octets.proofs.Members.{has_from_contains, contains_from_has}
use Rattle.ss_review.proofs.of_lists.Rising.{in_order_is}
use Rattle.ss_report.proofs.runs.places.put_in_order.Goals as goal

pub returns : goal.returns
returns c =
    let is = dedup_is _ _ _ c.dedup.ensures.filtered in
    let moved = c.sort_unstable.ensures.permutation in
    let old = c.args.places.now.items in
    let new = c.dedup.new.self.items in
    in_order_is nat_cmp_total exact_unsigned new old
    (sorted_from_strictly_increasing new (rw is (IsStrictlyIncreasing-dedup _ c.sort_unstable.ensures.sorted)))
    (λ q h. has_from_contains old q (Contains-permutation _ _ q (IsPermutation-sym _ _ moved) (Contains-from_dedup _ _ q (rw is at (contains_from_has new q h)))))
    (λ q h. has_from_contains new q (rw is (Contains-dedup_nat _ q (Contains-permutation _ _ q moved (contains_from_has old q h)))))
