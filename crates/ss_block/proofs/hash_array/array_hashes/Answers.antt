use Rattle.std.proofs.Common.{take, drop, ap, ◌∙◌, arith}
use Rattle.ss_block.proofs.HashArrays.{is_left_more}
use Rattle.ss_block.proofs.hash_array.array_hashes.Goals as goal

pub loop-read-preserved : goal.loop-read-preserved
loop-read-preserved c =
    let size = c.hash_octets.ensures in
    let rest = c.loop-read.rest.now in
    is_left_more c.args.alg c.args.octets.now c.args.count c.loop-read._read c.loop-read.hashes.items c.push.new.self.items rest c.split_at.result.0.now c.split_at.result.1.now c.hash_with.result
    c.loop-read-test.true c.loop-read.invariant (c.split_at.ensures.front ∙ ap (λ n. take n rest) size) (c.split_at.ensures.back ∙ ap (λ n. drop n rest) size)
    (omega (arith, size, c.split_at.ensures.back_len)) c.hash_with.ensures c.in_ok-push.ensures.items
