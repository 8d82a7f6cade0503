use Rattle.std.proofs.Common.{sym, ◌∙◌}
use Rattle.ss_block.proofs.Plain.{meant-plain}
use Rattle.ss_block.proofs.texts.meaning.Goals as goal

pub returns-then-not-contains : goal.returns-then-not-contains
returns-then-not-contains c = sym (meant-plain c.args.raw.now (sym c.contains.ensures.value ∙ c.if-not-contains.true))
