use Rattle.std.proofs.Common.{ap}
use Rattle.std.specs.Prelude.{not}
use Rattle.ss_report.proofs.lines.front.is_verified.Goals as goal

pub returns : goal.returns
returns c = λ up. ap not (c.is_among.ensures up)
