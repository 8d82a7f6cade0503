use Rattle.std.proofs.lemmas.Result.{IfOk-weaker}
use Rattle.ssign.specs.CommandLine.{bare_app}
use Rattle.ssign.proofs.command_line.command.Goals as goal

pub returns : goal.returns
returns c =
    IfOk-weaker c.with_commands.result _ _ (λ built is. (c.versions.result, c.versions.ensures, is.shape))
    (c.with_commands.ensures bare_app c.bare.ensures)
