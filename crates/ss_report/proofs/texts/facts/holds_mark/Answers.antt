use Rattle.ss_report.proofs.of_writing.MarksFound.{same_test}
use Rattle.ss_report.proofs.texts.facts.holds_mark.Goals as goal

pub returns : goal.returns
returns c = same_test c.args.message.now c.may_hold_block.result c.may_hold_block.ensures.mark
