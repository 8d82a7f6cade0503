use Rattle.std.proofs.Common.{◌∙◌}
use Rattle.ss_wrap.proofs.Originals.{plain_needs, refused_needs}
use Rattle.ss_wrap.proofs.preparing.needs_wrap.Goals as goal

pub returns-in_ok-original-in-Ok : goal.returns-in_ok-original-in-Ok
returns-in_ok-original-in-Ok c = c.is_some.ensures ∙ plain_needs c.args.message.now c.in_ok-original-in-Ok.field-0 c.in-Ok.ensures.plain c.in_ok-original-in-Ok.ensures

pub returns-in_default : goal.returns-in_default
returns-in_default c = refused_needs c.args.message.now c.in-Err.fault c.in_default.not-Memory c.in-Err.ensures.fault
