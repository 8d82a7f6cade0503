use Rattle.std.proofs.Common.{◌≡◌, ◌∙◌, ℕ, List, map, ap, subst}
use Rattle.std.specs.Prelude.{IfOk}
use Rattle.clap.specs.Words.{App, Rule, new_app}
use Rattle.ssign.specs.CommandLine.{IsLocalApp, name_of, order_app, own_rules, with_rules}
use Rattle.ssign.specs.Options.{rule_by}
use Rattle.ssign.proofs.command_line.Order.command.Goals as goal

pub returns : goal.returns
returns c =
    let row = c.row-row.result in
    let own = map (rule_by c.args.versions) row.options.now in
    let shared = map (rule_by c.args.versions) row.shared.now in
    let same : with_rules (with_rules (new_app row.name.now) own) shared ≡ order_app c.args.versions c.args.self =
    ap (λ (name : List ℕ). with_rules (with_rules (new_app name) own) shared) c.row-row.ensures.name
    ∙ ap (λ (rules : List Rule). with_rules (with_rules (new_app (name_of c.args.self)) rules) shared) (c.row-row.ensures.own c.args.versions)
    ∙ ap (λ (rules : List Rule). with_rules (with_rules (new_app (name_of c.args.self)) (own_rules c.args.self)) rules) (c.row-row.ensures.shared c.args.versions) in
    subst (λ (app : App). IfOk c.with_options-2.result (λ built. IsLocalApp built app)) same
    (c.with_options-2.ensures _ (c.in_ok-command.ensures _ c.bare_of.ensures))
