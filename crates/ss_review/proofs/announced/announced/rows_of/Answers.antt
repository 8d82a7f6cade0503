use Rattle.std.proofs.Common.{suc, ◌<◌, ◌++◌, map, flat_map, sym, ap, ◌∙◌, subst, arith}
use Rattle.std.specs.Prelude.{All}
use Rattle.std.specs.Vec.Iter.{into_iter_items}
use Rattle.std.proofs.lemmas.List.{append_assoc}
use Rattle.ss_review.specs.declared.announced.announced_block.AnnouncedBlock.{AnnouncedBlock}
use Rattle.ss_review.specs.announced.Indexed.{row_at, rows_by}
use Rattle.ss_review.proofs.announced.announced.rows_of.Goals as goal

pub loop-announced-preserved : goal.loop-announced-preserved
loop-announced-preserved c = record {
  known = λ n all.
      let before = c.loop-announced.invariant.known n all in
      let blocks = subst (All (λ (b : AnnouncedBlock). b.session < n)) c.in-Some.ensures.steps.0 before.0 in
      ((λ i d below. blocks (suc i) d (omega (arith, below))), c.add_hashes.ensures.known n (blocks 0 c.in-Some.announced (omega arith)) before.1);
  rows = λ js.
      let so_far = map (row_at js) c.loop-announced.rows.items in
      let rest = flat_map (rows_by js) (into_iter_items c.next.new.self) in
      ap (λ qs. qs ++ rest) (c.in_ok-add_hashes.ensures.rows js)
      ∙ append_assoc so_far (rows_by js c.in-Some.announced) rest
      ∙ ap (λ bs. so_far ++ flat_map (rows_by js) bs) (sym c.in-Some.ensures.steps.0)
      ∙ c.loop-announced.invariant.rows js;
}
