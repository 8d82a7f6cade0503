use Rattle.std.proofs.Common.{◌∙◌}
use Rattle.ssign.specs.CommandLine.{is_given}
use Rattle.ssign.proofs.GivenFlags.{flag_read}
use Rattle.ssign.proofs.flags.is_given.Goals as goal

pub returns : goal.returns
unfolding is_given
returns c = c.unwrap_or.ensures ∙ flag_read _ c.args.matches.now c.args.flag.now c.get_one.result c.get_one.ensures.none c.get_one.ensures.value
