use Rattle.std.proofs.lemmas.Result.{err_from_is_err_and}
use Rattle.ss_octets.specs.Ascii.{sp}
use Rattle.ss_octets.specs.StrictBase64.{base64}
use Rattle.ss_answers.proofs.AnswerLines.{IfBad-weaker, IsNoPair-from_first, IsNoPair-from_second}
use Rattle.ss_answers.proofs.Cuts.{nowhere}
use Rattle.ss_answers.proofs.KeptLines.{KeepsPair-fields}
use Rattle.ss_answers.proofs.line.pair.Goals as goal

pub returns-in_default-clause-bad : goal.returns-in_default-clause-bad
returns-in_default-clause-bad c = λ first second pair.
    nowhere sp (base64 first) (base64 second) _ c.in_default.ensures pair.2

pub returns-in_err-bytes-clause-bad : goal.returns-in_err-bytes-clause-bad
returns-in_err-bytes-clause-bad c =
    let p = err_from_is_err_and c.from_residual.result c.from_residual.ensures.1 in
    rw (p.1, p.2) (IfBad-weaker _ _ _ (IsNoPair-from_first _ _ _ c.in-Some.ensures.0 c.in-Some.ensures.1) c.in_err-bytes.ensures.bad)

pub returns-in_err-signature-clause-bad : goal.returns-in_err-signature-clause-bad
returns-in_err-signature-clause-bad c =
    let p = err_from_is_err_and c.from_residual-in_err-signature.result c.from_residual-in_err-signature.ensures.1 in
    rw (p.1, p.2) (IfBad-weaker _ _ _ (IsNoPair-from_second _ _ _ c.in-Some.ensures.0 c.in-Some.ensures.1) c.in_err-signature.ensures.bad)

pub returns-clause-ok : goal.returns-clause-ok
returns-clause-ok c =
    KeepsPair-fields _ _ _ _ _ _ _ _ c.in-Some.ensures.1 c.in_ok-bytes.ensures.ok c.in_ok-signature.ensures.ok
