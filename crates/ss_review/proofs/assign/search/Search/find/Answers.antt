use Rattle.std.proofs.Common.{◌∙◌, sym, ap, subst, arith}
use Rattle.std.specs.Ordering.{is_lt}
use Rattle.ss_block.specs.Order.{hash_cmp}
use Rattle.ss_review.specs.declared.assign.hash_entry.HashEntry.{HashEntry}
use Rattle.ss_review.specs.assign.StoredHashes.{hash_of, listed, begun_cmp, BeginsAsItsHash}
use Rattle.ss_review.proofs.of_assignment.ByStarts.{count_agree, count_as, has-drop}
use Rattle.ss_review.proofs.of_assignment.ListedHashes.{begun_is}
use Rattle.ss_review.proofs.of_assignment.Searches.{goes_on}
use Rattle.ss_octets.proofs.Members.{Has, contains_from_has}
use Rattle.ss_review.proofs.assign.search.Search.find.Goals as goal

pub overflow_add-self : goal.overflow_add-self
overflow_add-self c = omega (arith, c.count_below.ensures.bound, c.behind.ensures.len, c.behind.ensures.fits)

pub returns-clause-found : goal.returns-clause-found
returns-clause-found c = λ ordered found above.
    let old = c.args.self.now in
    let h = c.args.hash.now in
    let list = listed old.list.pairs.now old.list.entries.now in
    let rest = c.behind.result in
    let begins = λ (e : HashEntry) (i : Has rest.entries.now e). ap is_lt (begun_is rest.pairs.now e h (subst (λ ps. BeginsAsItsHash ps e) (sym c.behind.ensures.pairs) (ordered.0 e (contains_from_has old.list.entries.now e (has-drop old.start old.list.entries.now e (subst (λ es. Has es e) c.behind.ensures.entries i)))))) in
    let counted = c.count_below.ensures.count ∙ count_agree (λ e. is_lt (begun_cmp rest.pairs.now e h)) (λ e. is_lt (hash_cmp (hash_of rest.pairs.now e).hash h)) rest.entries.now begins ∙ count_as (hash_of rest.pairs.now) (λ e. is_lt (hash_cmp e.hash h)) rest.entries.now in
    let from = goes_on h list (listed rest.pairs.now rest.entries.now) old.start c.count_below.result old.found old.last c.behind.ensures.hashes counted found above in
    c.first_stored-self.ensures ordered from.0 from.1

pub returns-clause-next : goal.returns-clause-next
returns-clause-next c = λ ordered found above.
    let old = c.args.self.now in
    let h = c.args.hash.now in
    let list = listed old.list.pairs.now old.list.entries.now in
    let rest = c.behind.result in
    let begins = λ (e : HashEntry) (i : Has rest.entries.now e). ap is_lt (begun_is rest.pairs.now e h (subst (λ ps. BeginsAsItsHash ps e) (sym c.behind.ensures.pairs) (ordered.0 e (contains_from_has old.list.entries.now e (has-drop old.start old.list.entries.now e (subst (λ es. Has es e) c.behind.ensures.entries i)))))) in
    let counted = c.count_below.ensures.count ∙ count_agree (λ e. is_lt (begun_cmp rest.pairs.now e h)) (λ e. is_lt (hash_cmp (hash_of rest.pairs.now e).hash h)) rest.entries.now begins ∙ count_as (hash_of rest.pairs.now) (λ e. is_lt (hash_cmp e.hash h)) rest.entries.now in
    let from = goes_on h list (listed rest.pairs.now rest.entries.now) old.start c.count_below.result old.found old.last c.behind.ensures.hashes counted found above in
    (from.0, c.first_stored-self.ensures ordered from.0 from.1)
