use Rattle.std.proofs.Common.{◌≡◌, ap, sym, ◌∙◌}
use Rattle.std.specs.Prelude.{Some}
use Rattle.std.specs.Ordering.{is_eq}
use Rattle.std.proofs.lemmas.Cmp.{tied_itself}
use Rattle.ss_block.specs.declared.hash.Hash.{Hash}
use Rattle.ss_block.specs.Order.{hash_cmp}
use Rattle.ss_block.specs.OrderLaws.{hash_cmp_total, hash_cmp_exact}
use Rattle.ss_review.proofs.of_assignment.Searches.{tie_is}
use Rattle.ss_review.proofs.assign.search.Search.was_asked.Goals as goal

pub returns-in-Some-clause-sound : goal.returns-in-Some-clause-sound
returns-in-Some-clause-sound c = λ yes.
    let tie = tie_is c.cmp.result (sym c.is_eq.ensures ∙ yes) in
    c.in-Some.is ∙ ap Some (hash_cmp_exact c.in-Some.last c.args.hash.now (sym (c.hashes_rise_by_algorithm.ensures c.in-Some.last c.args.hash.now) ∙ sym c.cmp.ensures ∙ tie))

pub returns-in-Some-clause-complete : goal.returns-in-Some-clause-complete
returns-in-Some-clause-complete c = λ asked.
    let last = c.in-Some.last in
    let h = c.args.hash.now in
    let both : Some last ≡ Some h = sym c.in-Some.is ∙ asked in
    let same : last ≡ h = cc in
    c.is_eq.ensures ∙ ap is_eq (c.cmp.ensures ∙ c.hashes_rise_by_algorithm.ensures last h ∙ ap (λ (g : Hash). hash_cmp g h) same ∙ tied_itself hash_cmp_total h)
