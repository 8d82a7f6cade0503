use Rattle.std.proofs.Common.{◌≡◌, ◌<◌, length, arith}
use Rattle.ss_report.specs.runs.Extraction.{out_of_wrap}
use Rattle.ss_report.proofs.of_writing.Unwrapping.{unwrap_more}
use Rattle.ss_report.proofs.runs.unwrapping.unwrap_all.Goals as goal

pub loop-message-preserved : goal.loop-message-preserved
loop-message-preserved c =
    let less : c.loop-message.message-index < length c.loop-message.messages = omega arith in
    let within : c.loop-message.message-index < length c.args.messages.now = omega arith in
    let off : c.unwrap.new.message ≡ out_of_wrap c.message-item.result = cc (c.in_ok-unwrap.ensures, c.message-item.is) in
    let step = unwrap_more c.loop-message.messages c.args.messages.now c.loop-message.message-index c.message-item.result c.unwrap.new.message less within c.loop-message.invariant.done c.loop-message.invariant.left c.message-item.is off in
    record { done = step.0; left = step.1 }
