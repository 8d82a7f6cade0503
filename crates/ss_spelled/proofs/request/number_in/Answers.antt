use Rattle.std.proofs.Common.{sym, arith}
use Rattle.ss_spelled.proofs.Lines.{small}
use Rattle.ss_spelled.proofs.request.number_in.Goals as goal

pub overflow_cast-result : goal.overflow_cast-result
overflow_cast-result c = omega (arith, small c.args.text.now c.in-Some.number (sym c.in-Some.ensures))
