use Rattle.std.proofs.Common.{sym, ◌∙◌}
use Rattle.ss_block.proofs.ContentPlaces.{message_behind, message_content, message_has_content}
use Rattle.ss_block.proofs.placed_reading.content_of.Goals as goal

pub returns-in_default-clause-content : goal.returns-in_default-clause-content
returns-in_default-clause-content c = absurd (message_has_content c.args.message.now c.args.id.now c.requires.read c.requires.block (sym c.in_default.is ∙ c.content_parameter.ensures))

pub returns-in_default-clause-found : goal.returns-in_default-clause-found
returns-in_default-clause-found c = absurd (message_has_content c.args.message.now c.args.id.now c.requires.read c.requires.block (sym c.in_default.is ∙ c.content_parameter.ensures))

pub returns-clause-content : goal.returns-clause-content
returns-clause-content c = message_content c.args.message.now c.args.id.now c.in-Some.parameter c.requires.read c.requires.block c.in-Some.ensures

pub returns-clause-behind : goal.returns-clause-behind
returns-clause-behind c = message_behind c.args.message.now c.args.id.now c.in-Some.parameter c.requires.read c.requires.block c.in-Some.ensures
