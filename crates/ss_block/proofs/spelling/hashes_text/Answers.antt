use Rattle.std.proofs.Common.{ap, ◌∙◌, arith}
use Rattle.std.specs.String.{string_bytes}
use Rattle.ss_octets.specs.StrictBase64.{base64}
use Rattle.ss_block.proofs.JoinedHashes.{put_more, put_first}
use Rattle.ss_block.proofs.spelling.hashes_text.Goals as goal
use Rattle.ss_block.proofs.spelling.hashes_text.Goals.{then-i-gt0+in_ok-push_str, else-i-gt0}

pub loop-i-preserved : goal.loop-i-preserved
unfolding base64
loop-i-preserved c = elim c.if-i-gt0.branch [
  | then-i-gt0+in_ok-push_str w ↦
      put_more c.args.hashes.now c.loop-i.i _ (string_bytes c.loop-i.text) (string_bytes c.if-i-gt0.text) c.octets_of.result.now (string_bytes c.encode_string.new.output) w.if-i-gt0.true c.loop-i-test.true c.loop-i.invariant
      (ap string_bytes w.text-is ∙ w.in_ok-push_str.ensures.bytes) c.octets_of.ensures c.in_ok-encode_string.ensures.ok
  | else-i-gt0 w ↦
      put_first c.args.hashes.now c.loop-i.i _ (string_bytes c.loop-i.text) (string_bytes c.if-i-gt0.text) c.octets_of.result.now (string_bytes c.encode_string.new.output) (omega (arith, w.if-i-gt0.false)) c.loop-i-test.true c.loop-i.invariant
      (ap string_bytes w.text-is) c.octets_of.ensures c.in_ok-encode_string.ensures.ok
]
