use Rattle.std.proofs.Common.{◌++◌, take, drop, ap, ◌∙◌, arith}
use Rattle.base64.specs.Engines.{standard}
use Rattle.base64.specs.GeneralPurpose.{encode_of}
use Rattle.base64.proofs.EngineFacts.{encoded_prefix}
use Rattle.ss_octets.specs.StrictBase64.{base64}
use Rattle.ss_block.proofs.HashArrays.{put_more, put_one, put_first}
use Rattle.ss_block.proofs.hash_array.put_array_text.Goals as goal
use Rattle.ss_block.proofs.hash_array.put_array_text.Goals.{then-i-gt0+in_ok-push, else-i-gt0}

pub loop-i-preserved : goal.loop-i-preserved
unfolding base64
loop-i-preserved c =
    let size = c.hash_octets.ensures in
    let rest = c.loop-i.rest.now in
    let hash = c.split_at.result.0.now in
    let text = encoded_prefix (encode_of standard hash) c.loop-i.text c.encode_slice.new.output _ c.in-Ok.size c.encode_slice.result _
    c.encode_slice.auto.output c.encode_slice.ensures.fits c.encode_slice.ensures.too_small c.in-Ok.is c.in-Ok.ensures.written in
    let put = c.in_ok-extend_from_slice.ensures.items ∙ ap (λ t. c.if-i-gt0.out.items ++ t) text in
    put_more c.args.alg _ c.args.count c.loop-i.i c.loop-i.out.items rest hash c.split_at.result.1.now c.extend_from_slice.new.self.items
    c.loop-i-test.true c.loop-i.invariant (c.split_at.ensures.front ∙ ap (λ n. take n rest) size) (c.split_at.ensures.back ∙ ap (λ n. drop n rest) size) (omega (arith, size, c.split_at.ensures.back_len))
    (elim c.if-i-gt0.branch [
      | then-i-gt0+in_ok-push w ↦
          put_one c.loop-i.i c.loop-i.out.items hash c.if-i-gt0.out.items c.extend_from_slice.new.self.items w.if-i-gt0.true (ap (λ o. o.items) w.out-is ∙ w.in_ok-push.ensures.items) put
      | else-i-gt0 w ↦
          put_first c.loop-i.i c.loop-i.out.items hash c.if-i-gt0.out.items c.extend_from_slice.new.self.items (omega (arith, w.if-i-gt0.false)) (ap (λ o. o.items) w.out-is) put
    ])
