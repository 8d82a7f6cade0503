use Rattle.std.proofs.Common.{List, sym, subst}
use Rattle.std.specs.Prelude.{IfOk, map}
use Rattle.ssign.specs.CommandLine.{IsLocalApp, with_rules}
use Rattle.ssign.specs.Options.{rule_by}
use Rattle.ssign.specs.declared.options.OptionRow.{OptionRow}
use Rattle.ssign.proofs.FoundCommands.{with_argument}
use Rattle.ssign.proofs.command_line.+with_options.Goals as goal

pub returns : goal.returns
returns t c = λ app is.
    let one = with_argument c.in_ok-command.ensures is c.option.ensures.rule c.option.ensures.local in
    subst (λ (rows : List OptionRow). IfOk c.with_options.result (λ built. IsLocalApp built (with_rules app (map (rule_by c.args.versions) rows))))
    (sym c.in-Some.ensures.cases.0) (c.with_options.ensures _ one)
