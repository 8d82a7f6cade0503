-- Commands and the arguments that they are given.
use Rattle.std.proofs.Common.{◌≡◌, ◌∙◌, ◌||◌, Bool, false, ap, ap₂, refl}
use Rattle.clap.specs.Words.{AddsArg, AddsSubcommand, App, Rule, rule_of, with_rule, with_subcommand}
use Rattle.clap.specs.declared.builder.arg.Arg.{Arg}
use Rattle.clap.specs.declared.builder.command.Command.{Command}
use Rattle.clap.specs.declared.builder.command.Command.TheViews.{out-Command}
use Rattle.ssign.specs.CommandLine.{IsLocalApp}

-- neither holds
neither : (a b : Bool) → a ≡ false → b ≡ false → (a || b) ≡ false
neither a b no_a no_b = rw (no_a, no_b) refl

-- an argument that is not global adds its rule
pub with_argument : {old new : Command} {arg : Arg} {app : App} {rule : Rule} → AddsArg old arg new → IsLocalApp old app
    → rule_of arg ≡ rule → arg.global ≡ false → IsLocalApp new (with_rule app rule)
with_argument {old} {new} {arg} adds is rule_is local = record {
  shape = adds.shape local ∙ ap₂ with_rule is.shape rule_is;
  local = adds.globals ∙ neither (out-Command old).has_globals arg.global is.local local;
}

-- a command of a command adds what is seen of it
pub with_command : {old sub new : Command} {app sub_app : App} → AddsSubcommand old sub new → IsLocalApp old app
    → IsLocalApp sub sub_app → IsLocalApp new (with_subcommand app sub_app.top)
with_command {old} {sub} adds is sub_is = record {
  shape = adds.shape sub_is.local ∙ ap₂ with_subcommand is.shape (ap (λ (a : App). a.top) sub_is.shape);
  local = adds.globals ∙ neither (out-Command old).has_globals (out-Command sub).has_globals is.local sub_is.local;
}
