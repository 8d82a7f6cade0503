use Rattle.std.proofs.Common.{map, sym, subst, rules}
use Rattle.std.specs.Prelude.{Contains}
use Rattle.std.specs.Ordering.{eq_by_cmp, is_lt}
use Rattle.std.specs.List.Sorted.{IsSorted, IsStrictlySortedBy}
use Rattle.std.proofs.lemmas.Fn.{always_returns_same, dedup_same}
use Rattle.std.proofs.lemmas.List.MinMax.{ranks_by}
use Rattle.ss_review.specs.declared.assign.wanted_hash.WantedHash.{WantedHash}
use Rattle.ss_review.specs.assign.StoredHashes.{keyed, keyed_cmp, wanted_cmp}
use Rattle.ss_review.proofs.of_assignment.WantedHashes.{wanted_cmp_total, wanted_rise, wanted_keep, wanted_add_none}
use Rattle.ss_review.proofs.assign.wanted_hash.put_in_order.Goals as goal

pub returns : goal.returns
returns c =
    let old = c.args.wanted.now.items in
    let sorted = c.sort_unstable_by.new.self.items in
    let up : IsSorted wanted_cmp sorted
    = c.sort_unstable_by.ensures.sorted (λ a b. is_lt (wanted_cmp a b)) (ranks_by wanted_cmp_total (λ (w : WantedHash). w)) (always_returns_same _ _ _ (λ a r f k. search rules)) in
    let is = dedup_same _ (eq_by_cmp wanted_cmp) _ (λ x y b f' x' y' k. search rules) _ _ c.dedup_by.ensures.filtered in
    let moved = c.sort_unstable_by.ensures.permutation in
    record {
      rises = λ begin. subst (λ ws. IsStrictlySortedBy keyed_cmp (map keyed ws)) (sym is) (wanted_rise old sorted moved up begin);
      keeps = λ w h. subst (λ ws. Contains (map keyed ws) w) (sym is) (wanted_keep old sorted moved up w h);
      adds_none = λ w h. wanted_add_none old sorted moved up w (subst (λ ws. Contains (map keyed ws) w) is h);
    }
