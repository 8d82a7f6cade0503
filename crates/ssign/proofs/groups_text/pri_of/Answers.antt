use Rattle.std.proofs.Common.{sym, ◌∙◌, arith}
use Rattle.std.proofs.lemmas.Option.{cond_some}
use Rattle.ss_octets.specs.Number.{number, is_number}
use Rattle.ss_octets.proofs.Numbers.{is_spelled}
use Rattle.ssign.proofs.groups_text.pri_of.Goals as goal

pub overflow_cast-result : goal.overflow_cast-result
overflow_cast-result c =
    let is = cond_some (is_number 0 191 c.args.text.now) (number c.args.text.now) c.in-Some.pri (sym c.number_of.ensures ∙ c.in-Some.is) in
    let spelled = is_spelled 0 191 c.args.text.now is.0 in
    omega (arith, spelled.high, is.1)
