use Rattle.std.proofs.Common.{◌≡◌, ◌+◌, arith, sym, subst}
use Rattle.ss_payload.specs.Slots.{IsTextOf}
use Rattle.ss_payload.proofs.Runs.{more_text, all_in_run, none_in_none}
use Rattle.ss_payload.proofs.joiner.runs.Runs.push_part.Goals as goal

pub returns-in_ok-push : goal.returns-in_ok-push
returns-in_ok-push c = λ before next text all.
    let is = sym c.in-Some.ensures.value in
    more_text c.args.self.now c.in-Some.run'.now c.args.index c.args.count before c.requires next c.args.text.now.items c.push.new.text.items text is
    (c.in_ok-push.ensures (all_in_run c.args.self.now c.in-Some.run'.now c.args.index c.args.count before c.requires next c.args.text.now.items c.push.new.text.items text is all))

pub returns-in_default : goal.returns-in_default
returns-in_default c = λ before next text all.
    let none : c.args.count ≡ 0 = none_in_none c.args.self.now c.args.index c.args.count c.requires (sym c.in_default.ensures.value) all in
    let same : before ≡ before + c.args.count = omega (arith, none) in
    subst (IsTextOf c.args.self.now c.args.text.now.items) same text
