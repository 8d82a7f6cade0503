use Rattle.std.proofs.Common.{◌≡◌, sym, ◌∙◌}
use Rattle.ss_message.specs.Message.{text}
use Rattle.ss_message.specs.Layout.{value_of}
use Rattle.ss_block.specs.declared.reading.Reading.TheVariants.{Signature, Certificate}
use Rattle.ss_block.specs.Reading.{value_reading}
use Rattle.ss_signed.specs.Completed.{completed_value}
use Rattle.ss_signed.proofs.Readings.{read_as, signature_is, certificate_is, none_is}
use Rattle.ss_signed.proofs.describing.describe.Goals as goal

pub returns-in-Signature-clause-value : goal.returns-in-Signature-clause-value
returns-in-Signature-clause-value c =
    let m = c.args.message.now in
    let v = value_of m in
    let spelled : c.as_slice.result.now ≡ text (completed_value v) = c.as_slice.ensures ∙ c.in_ok-text.ensures ∙ c.in-Some.ensures.found.spelled in
    let read : Signature c.in-Signature.block ≡ value_reading (completed_value v) = sym c.in-Signature.is ∙ read_as v c.in_ok-block.field-0 c.as_slice.result.now c.requires.valid c.in_ok-block.ensures.value spelled in
    signature_is m.source.now v c.in_ok-head.head c.in-Signature.block c.in_ok-signed-in-Signature.signed c.in_ok-head.ensures read c.in_ok-signed-in-Signature.ensures.value

pub returns-in-Certificate-clause-value : goal.returns-in-Certificate-clause-value
returns-in-Certificate-clause-value c =
    let m = c.args.message.now in
    let v = value_of m in
    let spelled : c.as_slice.result.now ≡ text (completed_value v) = c.as_slice.ensures ∙ c.in_ok-text.ensures ∙ c.in-Some.ensures.found.spelled in
    let read : Certificate c.in-Certificate.block ≡ value_reading (completed_value v) = sym c.in-Certificate.is ∙ read_as v c.in_ok-block.field-0 c.as_slice.result.now c.requires.valid c.in_ok-block.ensures.value spelled in
    certificate_is m.source.now v c.in_ok-head.head c.in-Certificate.block c.in_ok-signed-in-Certificate.signed c.in_ok-head.ensures read c.in_ok-signed-in-Certificate.ensures.value

pub returns : goal.returns
returns c =
    let m = c.args.message.now in
    let v = value_of m in
    let spelled : c.as_slice.result.now ≡ text (completed_value v) = c.as_slice.ensures ∙ c.in_ok-text.ensures ∙ c.in-Some.ensures.found.spelled in
    let read = read_as v c.in_ok-block.field-0 c.as_slice.result.now c.requires.valid c.in_ok-block.ensures.value spelled in
    record { value = none_is m.source.now v c.in_ok-block.field-0 read c.in-Plain.is; written = tt }
