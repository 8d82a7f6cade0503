use Rattle.std.proofs.Common.{◌≡◌, take, flat_map}
use Rattle.ss_spelled.specs.Answers.{payload_object}
use Rattle.ss_spelled.proofs.answer.answer_text.Given as goal

abbrev pub invariant-loop-payload : goal.invariant-loop-payload
invariant-loop-payload l = l.text.items ≡ flat_map payload_object (take l.payload-index l.payload-items)
