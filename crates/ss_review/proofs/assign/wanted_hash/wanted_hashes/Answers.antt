use Rattle.std.proofs.Common.{◌+◌, map, refl, sym, ap, ◌∙◌, subst, arith}
use Rattle.std.specs.Prelude.{None, option_map}
use Rattle.std.proofs.lemmas.List.{get_or_default}
use Rattle.ss_review.specs.assign.StoredHashes.{keyed}
use Rattle.ss_review.proofs.of_assignment.Searches.{wanted_all}
use Rattle.ss_review.proofs.of_assignment.WantedHashes.{WantedThere, wanted_start, wanted_push, wanted_pass}
use Rattle.ss_review.proofs.assign.wanted_hash.wanted_hashes.Goals.{in-Some+in_ok-push, in_default}
use Rattle.ss_review.proofs.assign.wanted_hash.wanted_hashes.Goals as goal

pub loop-key-init : goal.loop-key-init
loop-key-init c = wanted_start c.args.hashes.now c.in_ok-wanted.wanted.items c.in_ok-wanted.ensures.items

pub loop-key-preserved : goal.loop-key-preserved
loop-key-preserved c =
    let hashes = c.args.hashes.now in
    let key = c.loop-key.key in
    let so_far = c.loop-key.wanted.items in
    let is = get_or_default hashes key None c.index-hashes-key.result c.loop-key-test.true ∙ sym c.index-hashes-key.is ∙ sym c.get.ensures in
    elim c.match-get.branch [
      | in-Some+in_ok-push w ↦ wanted_push hashes so_far key c.loop-key.invariant c.loop-key-test.true c.match-get.wanted.items _ (ap (λ v. v.items) w.wanted-is ∙ w.in_ok-push.ensures.items) (is ∙ ap (option_map (λ h. h.now)) w.in-Some.is) refl w.of.ensures
      | in_default w ↦ subst (λ ws. WantedThere hashes ws (key + 1)) (sym (ap (λ v. v.items) w.wanted-is)) (wanted_pass hashes so_far key c.loop-key.invariant c.loop-key-test.true (is ∙ ap (option_map (λ h. h.now)) w.in_default.is))
    ]

pub returns-clause-few : goal.returns-clause-few
returns-clause-few c = omega arith

pub returns-clause-wanted : goal.returns-clause-wanted
returns-clause-wanted c =
    wanted_all c.args.hashes.now (map keyed c.loop-key.wanted.items) c.loop-key.key c.loop-key.invariant.0 c.loop-key-test.false (map keyed c.put_in_order.new.wanted.items) (c.put_in_order.ensures.rises c.loop-key.invariant.1) c.put_in_order.ensures.keeps c.put_in_order.ensures.adds_none
