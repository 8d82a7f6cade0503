use Rattle.std.proofs.Common.{List, sym, subst}
use Rattle.std.specs.Prelude.{IfOk, map}
use Rattle.ssign.specs.CommandLine.{IsLocalApp, order_app, with_commands}
use Rattle.ssign.specs.declared.command_line.Order.{Order}
use Rattle.ssign.proofs.FoundCommands.{with_command}
use Rattle.ssign.proofs.command_line.+with_commands.Goals as goal

pub returns : goal.returns
returns t c = λ app is.
    let one = with_command c.in_ok-command-2.ensures is c.in_ok-command.ensures in
    subst (λ (orders : List Order). IfOk c.with_commands.result (λ built. IsLocalApp built (with_commands app (map (order_app c.args.versions) orders))))
    (sym c.in-Some.ensures.cases.0) (c.with_commands.ensures _ one)
