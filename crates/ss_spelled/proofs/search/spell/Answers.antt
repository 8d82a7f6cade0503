use Rattle.std.proofs.Common.{length, arith}
use Rattle.ss_spelled.proofs.Steps.{starts, finds, passes, ends, ends_full, ends_unpaid, least_of, not_equal, is_equal, empty_of}
use Rattle.ss_spelled.proofs.search.spell.Goals as goal

pub loop-front-init : goal.loop-front-init
loop-front-init c = rw c.new-texts.ensures.items (starts c.args.fragments.now c.args.bounds c.in_ok-waiting.waiting.keys c.in_ok-waiting.ensures)

pub returns-in_default-paid : goal.returns-in_default-paid
returns-in_default-paid c =
    let going = rw c.in-Some.ensures.removal at c.loop-front.invariant in
    rw c.from_vec.ensures (ends_unpaid c.args.fragments.now c.args.bounds c.loop-front.texts.items c.in-Some.front c.pop_first.new.self.keys c.loop-front.left going
    (least_of c.in-Some.front c.pop_first.new.self.keys c.in-Some.ensures.all_above) c.in_default-paid.ensures.none)

pub loop-front-smaller-then-not-is_whole : goal.loop-front-smaller-then-not-is_whole
loop-front-smaller-then-not-is_whole c = omega (arith, c.in-Some-paid.ensures.some)

pub loop-front-preserved-then-not-is_whole : goal.loop-front-preserved-then-not-is_whole
loop-front-preserved-then-not-is_whole c =
    let going = rw c.in-Some.ensures.removal at c.loop-front.invariant in
    passes c.args.fragments.now c.args.bounds c.loop-front.texts.items c.in-Some.front c.pop_first.new.self.keys c.add_longer.new.waiting.keys c.loop-front.left c.in-Some-paid.rest going
    (not_equal (length c.in-Some.front.text) c.in-Some.front.total c.if-not-is_whole.ensures) c.in_ok-add_longer.ensures
    (least_of c.in-Some.front c.pop_first.new.self.keys c.in-Some.ensures.all_above) c.in-Some-paid.ensures.some

pub returns-then-len-bounds : goal.returns-then-len-bounds
returns-then-len-bounds c =
    let going = rw c.in-Some.ensures.removal at c.loop-front.invariant in
    rw c.from_vec-then-len-bounds.ensures (ends_full c.args.fragments.now c.args.bounds c.loop-front.texts.items c.in-Some.front c.pop_first.new.self.keys c.loop-front.left going
    (is_equal (length c.in-Some.front.text) c.in-Some.front.total c.if-not-is_whole.ensures) (omega (arith, c.if-len-bounds.true, c.len.ensures)))

pub loop-front-smaller : goal.loop-front-smaller
loop-front-smaller c = omega (arith, c.in-Some-paid.ensures.some)

pub loop-front-preserved : goal.loop-front-preserved
loop-front-preserved c =
    let going = rw c.in-Some.ensures.removal at c.loop-front.invariant in
    rw c.in_ok-push.ensures.items (finds c.args.fragments.now c.args.bounds c.loop-front.texts.items c.in-Some.front c.pop_first.new.self.keys c.loop-front.left c.in-Some-paid.rest going
    (is_equal (length c.in-Some.front.text) c.in-Some.front.total c.if-not-is_whole.ensures) (omega (arith, c.if-len-bounds.false, c.len.ensures))
    (least_of c.in-Some.front c.pop_first.new.self.keys c.in-Some.ensures.all_above) c.in-Some-paid.ensures.some)

pub returns : goal.returns
returns c =
    let none = empty_of c.loop-front.waiting.keys c.in_default.ensures.variant.1 in
    let going = rw none at c.loop-front.invariant in
    rw c.from_vec-2.ensures (ends c.args.fragments.now c.args.bounds c.loop-front.texts.items c.loop-front.left going)
