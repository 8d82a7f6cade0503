use Rattle.std.proofs.Common.{◌<◌, length, ap, ◌∙◌, rules}
use Rattle.std.proofs.lemmas.List.Sorted.{All-permutation}
use Rattle.ss_review.specs.Ordered.{in_order}
use Rattle.ss_review.specs.announced.Announced.{row_cmp, rows}
use Rattle.ss_review.specs.announced.Indexed.{row_at, rows_by}
use Rattle.ss_review.proofs.of_lists.Rising.{keys_rise_among, in_order_among}
use Rattle.ss_review.proofs.of_numbers.IndexedRows.{members_stand, still_known}
use Rattle.ss_review.proofs.of_numbers.RowsTold.{rows_stay}
use Rattle.ss_review.proofs.of_lists.TotalOrders.{row_cmp_total, row_cmp_exact}
use Rattle.ss_review.proofs.announced.announced.announced.Goals as goal

pub returns : goal.returns
unfolding rows
returns c =
    let js = c.args.sessions.now in
    let all = c.in_ok-rows.rows.items in
    let once = c.put_in_order.new.items.items in
    let sent = c.in_ok-announced.announced.items in
    let sorted = c.sort_unstable_by_key.new.self.items in
    let moved = c.sort_unstable_by_key.ensures.permutation in
    let known_all = c.in_ok-rows.ensures.known (length js) (All-permutation (λ b. b.session < length js) sent sorted moved c.in_ok-announced.ensures.known) in
    let known = still_known (length js) all once c.put_in_order.ensures.adds_none known_all in
    record {
      known = known;
      rise = keys_rise_among (row_at js) row_cmp _ once (members_stand js c.requires _ (λ a b. search rules) once known) c.put_in_order.ensures.rises;
      rows = λ says told e.
          in_order_among row_cmp_total row_cmp_exact (row_at js) _ all once (members_stand js c.requires _ (λ a b. search rules) all known_all) c.put_in_order.ensures.rises c.put_in_order.ensures.keeps c.put_in_order.ensures.adds_none
          ∙ ap (in_order row_cmp) (c.in_ok-rows.ensures.rows js)
          ∙ rows_stay (rows_by js) sent sorted moved
          ∙ ap (in_order row_cmp) (c.in_ok-announced.ensures.rows says told (c.as_slice.ensures.value ∙ e));
    }
