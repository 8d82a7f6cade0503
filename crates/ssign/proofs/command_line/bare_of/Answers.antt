use Rattle.std.proofs.Common.{◌∙◌, ap}
use Rattle.clap.specs.Simple.{app_of_fields}
use Rattle.clap.specs.declared.builder.command.Command.{Command}
use Rattle.clap.specs.declared.builder.command.Command.TheOpen.{Command-F}
use Rattle.ssign.proofs.command_line.bare_of.Goals as goal

pub returns-in-Usage : goal.returns-in-Usage
returns-in-Usage c = record {
  shape = ap app_of_fields c.override_usage.ensures ∙ (ap app_of_fields c.about-command.ensures ∙ c.new.ensures.app);
  local = ap (λ (f : Command-F Command). f.has_globals) c.override_usage.ensures
      ∙ (ap (λ (f : Command-F Command). f.has_globals) c.about-command.ensures ∙ c.new.ensures.local);
}

pub returns-in-Examples : goal.returns-in-Examples
returns-in-Examples c = record {
  shape = ap app_of_fields c.after_help.ensures ∙ (ap app_of_fields c.about-command.ensures ∙ c.new.ensures.app);
  local = ap (λ (f : Command-F Command). f.has_globals) c.after_help.ensures
      ∙ (ap (λ (f : Command-F Command). f.has_globals) c.about-command.ensures ∙ c.new.ensures.local);
}
