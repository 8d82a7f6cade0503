use Rattle.std.proofs.Common.{add-one, take, sym, ◌∙◌, subst, arith, suc}
use Rattle.ss_review.specs.assign.StoredHashes.{listed, IsBearerAt}
use Rattle.ss_review.proofs.of_assignment.Searches.{bearer_starts, bearer_earlier, bearer_kept, bearer_all}
use Rattle.ss_review.proofs.assign.search.first_stored.Goals.{then-is_earlier, else-is_earlier}
use Rattle.ss_review.proofs.assign.search.first_stored.Goals as goal

pub loop-first-init : goal.loop-first-init
loop-first-init c = (omega arith, λ begin. bearer_starts c.args.hash.now (listed c.args.list.now.pairs.now c.args.list.now.entries.now) c.args.start)

pub overflow_add-index : goal.overflow_add-index
overflow_add-index c = omega (arith, c.has_hash_at.ensures.within c.loop-first-test.true)

pub loop-first-smaller : goal.loop-first-smaller
loop-first-smaller c = omega (arith, c.has_hash_at.ensures.within c.loop-first-test.true)

pub loop-first-preserved : goal.loop-first-preserved
loop-first-preserved c = (
  omega (arith, c.loop-first.invariant.0),
  λ begin below.
      let list = listed c.args.list.now.pairs.now c.args.list.now.entries.now in
      let index = c.loop-first.index in
      let here = sym (c.has_hash_at.ensures.has begin) ∙ c.loop-first-test.true in
      let so_far = c.loop-first.invariant.1 begin below in
      rw add-one (elim c.if-is_earlier.branch [
        | then-is_earlier w ↦ subst (IsBearerAt (take (suc index) list) c.args.hash.now) (sym w.first-is) (bearer_earlier c.args.hash.now list index c.loop-first.first here (sym c.is_earlier.ensures ∙ w.if-is_earlier.true) so_far)
        | else-is_earlier w ↦ subst (IsBearerAt (take (suc index) list) c.args.hash.now) (sym w.first-is) (bearer_kept c.args.hash.now list index c.loop-first.first here (sym c.is_earlier.ensures ∙ w.if-is_earlier.false) so_far)
      ]),
)

pub returns : goal.returns
returns c = λ ordered below first.
    bearer_all c.args.hash.now (listed c.args.list.now.pairs.now c.args.list.now.entries.now) c.args.start c.loop-first.index c.loop-first.first ordered.1 c.loop-first.invariant.0 first (sym (c.has_hash_at.ensures.has ordered.0) ∙ c.loop-first-test.false) (c.loop-first.invariant.1 ordered.0 below)
