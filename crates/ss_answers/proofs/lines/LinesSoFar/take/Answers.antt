use Rattle.std.proofs.Common.{◌∷◌, length, length-append, ap, arith}
use Rattle.std.proofs.lemmas.Result.{err_from_is_err_and}
use Rattle.ss_octets.specs.Ascii.{lf}
use Rattle.ss_answers.specs.LinesSoFar.{text_of}
use Rattle.ss_answers.proofs.EndedLines.{IsPartFault-rest}
use Rattle.ss_answers.proofs.lines.LinesSoFar.take.Goals as goal

pub end_line-requires-clause-room : goal.end_line-requires-clause-room
end_line-requires-clause-room c =
    let cut = c.in-Some.ensures.cut.1 in
    omega (
      arith,
      ap length c.loop-end.invariant.taken,
      length-append (text_of c.loop-end.self) c.loop-end.rest.now,
      length-append (text_of c.args.self.now) c.args.part.now,
      ap length cut,
      length-append c.in-Some.end.now (lf ∷ c.in-Some.after.now),
    )

pub returns-in_err-end_line-clause-err : goal.returns-in_err-end_line-clause-err
returns-in_err-end_line-clause-err c =
    let p = err_from_is_err_and c.from_residual.result c.from_residual.ensures.1 in
    rw (p.1, p.2) (IsPartFault-rest _ _ _ _ _ _ c.in-Some.ensures.cut.1 c.loop-end.invariant.taken c.in_err-end_line.ensures.err)
