use Rattle.std.specs.Prelude.{codes}
use Rattle.ss_octets.specs.StrictBase64.{base64}
use Rattle.ss_spelled.specs.Answers.{payload_object}
use Rattle.ss_spelled.proofs.Lines.{three_parts}
use Rattle.ss_spelled.proofs.answer.put_payload.Goals as goal

pub returns : goal.returns
unfolding payload_object
returns c =
    three_parts c.args.text.now.items (codes "{\"line\":\"payload\",\"payload\":\"") (base64 c.args.payload.now) (codes "\"}\n")
    c.extend_from_slice.new.self.items c.put_base64.new.out.items c.extend_from_slice-2.new.self.items
    c.in_ok-extend_from_slice.ensures.items c.in_ok-put_base64.ensures c.in_ok-extend_from_slice-2.ensures.items
