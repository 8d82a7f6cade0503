use Rattle.std.proofs.Common.{arith}
use Rattle.base64.specs.GeneralPurpose.{IsBytes}
use Rattle.ss_answers.proofs.Decoded.{IsNoField-empty, IsNoField-failed, KeepsField-decoded, length-decoded}
use Rattle.ss_answers.proofs.field.keep.Goals as goal

pub overflow_cast-end : goal.overflow_cast-end
overflow_cast-end c =
    let bytes : IsBytes c.args.text.now = λ i. let f = c.type_inv.text i in omega arith in
    let most = length-decoded _ _ _ _ bytes c.in-Ok.ensures.ok c.in-Ok.ensures.front in
    omega (arith, most)

pub returns-then-start-end-clause-bad : goal.returns-then-start-end-clause-bad
returns-then-start-end-clause-bad c =
    IsNoField-empty _ c.len-start.result c.len-end.result _ _ _ c.in-Ok.ensures.ok c.in-Ok.ensures.front (omega arith) (omega arith) c.if-start-end.true

pub returns-else-start-end-clause-ok : goal.returns-else-start-end-clause-ok
returns-else-start-end-clause-ok c =
    let bytes : IsBytes c.args.text.now = λ i. let f = c.type_inv.text i in omega arith in
    KeepsField-decoded _ c.len-start.result c.len-end.result _ _ _ bytes c.in-Ok.ensures.ok c.in-Ok.ensures.front c.in-Ok.ensures.bytes (omega arith) (omega arith) c.if-start-end.false

pub returns-in-Err-DecodeError-clause-bad : goal.returns-in-Err-DecodeError-clause-bad
returns-in-Err-DecodeError-clause-bad c =
    IsNoField-failed _ c.in-Err-DecodeError.field-0-0 (rw c.in-Err-DecodeError.field-0-is at c.in-Err-DecodeError.ensures.err)
