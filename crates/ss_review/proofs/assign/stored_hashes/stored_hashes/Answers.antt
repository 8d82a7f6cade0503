use Rattle.std.proofs.Common.{◌++◌, ap, ◌∙◌}
use Rattle.ss_block.specs.declared.hash.Alg.TheVariants.{Sha1, Sha256}
use Rattle.ss_review.specs.assign.StoredHashes.{listed, needed_entries}
use Rattle.ss_review.proofs.of_assignment.ListedHashes.{both_stand, both_begin}
use Rattle.ss_review.proofs.of_assignment.NeededHashes.{lists}
use Rattle.ss_review.proofs.assign.stored_hashes.stored_hashes.Goals as goal

pub returns-clause-begin : goal.returns-clause-begin
returns-clause-begin c =
    let pairs = c.args.pairs.now in
    let ss = c.args.messages.now in
    let os = c.args.announced.now in
    let all = c.add_needed-2.new.list.items in
    let are = c.in_ok-add_needed-2.ensures ∙ ap (λ es. es ++ needed_entries pairs Sha256 os ss) (c.in_ok-add_needed.ensures ∙ ap (λ es. es ++ needed_entries pairs Sha1 os ss) c.new-list.ensures.items) in
    c.put_in_order.ensures.begin (both_begin pairs ss os all are)

pub returns-clause-lists : goal.returns-clause-lists
returns-clause-lists c = λ ms t.
    let pairs = c.args.pairs.now in
    let ss = c.args.messages.now in
    let os = c.args.announced.now in
    let all = c.add_needed-2.new.list.items in
    let are = c.in_ok-add_needed-2.ensures ∙ ap (λ es. es ++ needed_entries pairs Sha256 os ss) (c.in_ok-add_needed.ensures ∙ ap (λ es. es ++ needed_entries pairs Sha1 os ss) c.new-list.ensures.items) in
    lists ms os (listed pairs all) (listed pairs c.put_in_order.new.list.items)
    (both_stand pairs ss ms t os all are)
    (c.put_in_order.ensures.rises (both_begin pairs ss os all are))
    c.put_in_order.ensures.keeps
    c.put_in_order.ensures.adds_none
