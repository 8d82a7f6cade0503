use Rattle.std.proofs.Common.{◌∙◌, true, ap}
use Rattle.clap.specs.Words.{App}
use Rattle.clap.specs.Simple.{app_of_fields}
use Rattle.clap.specs.declared.builder.command.Command.{Command}
use Rattle.clap.specs.declared.builder.command.Command.TheOpen.{Command-F}
use Rattle.ssign.proofs.command_line.bare.Goals as goal

pub returns : goal.returns
returns c = record {
  shape = ap app_of_fields c.arg_required_else_help.ensures
      ∙ ap (λ (f : Command-F Command). app_of_fields (record f { arg_required_else_help = true })) c.subcommand_required.ensures
      ∙ ap (λ (f : Command-F Command). app_of_fields (record f { arg_required_else_help = true; subcommand_required = true })) c.about.ensures
      ∙ ap (λ (f : Command-F Command). app_of_fields (record f { arg_required_else_help = true; subcommand_required = true })) c.version.ensures
      ∙ ap (λ (a : App). record a { top = record a.top { arg_required_else_help = true; subcommand_required = true; has_version = true } }) c.new.ensures.app;
  local = ap (λ (f : Command-F Command). f.has_globals) c.arg_required_else_help.ensures
      ∙ ap (λ (f : Command-F Command). f.has_globals) c.subcommand_required.ensures
      ∙ ap (λ (f : Command-F Command). f.has_globals) c.about.ensures
      ∙ ap (λ (f : Command-F Command). f.has_globals) c.version.ensures
      ∙ c.new.ensures.local;
}
