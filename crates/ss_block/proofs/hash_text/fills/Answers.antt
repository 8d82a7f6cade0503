use Rattle.std.proofs.Common.{◌≡◌, ℕ, List, length, Some, Result, Ok, Err, sym, ap, subst, ◌∙◌, arith}
use Rattle.std.proofs.lemmas.Bool.{eqb-true, eq-eqb}
use Rattle.base64.specs.declared.decode.DecodeSliceError.{DecodeSliceError}
use Rattle.base64.specs.Engines.{standard}
use Rattle.base64.specs.GeneralPurpose.{decode_of, decode_slice_of, decoded_bytes_of}
use Rattle.ss_octets.specs.StrictBase64.{octets_decoded, octets_in}
use Rattle.ss_octets.proofs.Base64Text.{some_octets_of, decoded_some}
use Rattle.ss_block.specs.Engines.{IsStrict}
use Rattle.ss_block.proofs.Filled.{slice_ok, slice_again, all_written}
use Rattle.ss_block.proofs.hash_text.fills.Goals as goal

abbrev answer : ℕ → Result ℕ DecodeSliceError
answer n = Ok n

abbrev failed : DecodeSliceError → Result ℕ DecodeSliceError
failed e = Err e

pub returns-in-Ok-clause-found : goal.returns-in-Ok-clause-found
unfolding octets_in IsStrict
returns-in-Ok-clause-found c = λ t.
    let count = eqb-true c.in-Ok.count (length c.decode_slice.new.output) t in
    let ok = slice_ok c.args.base64.now c.args.text.now (length c.args.octets.now) c.in-Ok.count (sym c.in-Ok.ensures.value) in
    let decoded : List ℕ = decoded_bytes_of c.args.base64.now c.args.text.now in
    let whole = all_written decoded c.args.octets.now c.decode_slice.new.output c.in-Ok.ensures.written (ok.1 ∙ count ∙ c.decode_slice.auto.output) in
    ap octets_decoded (sym (c.requires.strict c.args.text.now) ∙ ok.0) ∙ some_octets_of decoded (omega (arith, ok.1, count, c.decode_slice.auto.output, c.requires.room)) ∙ ap Some (sym whole)

pub returns-in-Ok-clause-only : goal.returns-in-Ok-clause-only
unfolding octets_in IsStrict
returns-in-Ok-clause-only c = λ b len e.
    let d = decoded_some (decode_of standard c.args.text.now) b e in
    let again = slice_again c.args.base64.now c.args.text.now b (c.requires.strict c.args.text.now ∙ d.0) in
    let filled = subst (λ k. decode_slice_of c.args.base64.now c.args.text.now k ≡ answer k) len again in
    let same : answer c.in-Ok.count ≡ answer (length c.args.octets.now) = c.in-Ok.ensures.value ∙ filled in
    let count : c.in-Ok.count ≡ length c.args.octets.now = cc in
    eq-eqb c.in-Ok.count (length c.decode_slice.new.output) (count ∙ sym c.decode_slice.auto.output)

pub returns-in-Err-clause-only : goal.returns-in-Err-clause-only
unfolding octets_in IsStrict
returns-in-Err-clause-only c = λ b len e.
    let d = decoded_some (decode_of standard c.args.text.now) b e in
    let again = slice_again c.args.base64.now c.args.text.now b (c.requires.strict c.args.text.now ∙ d.0) in
    let filled = subst (λ k. decode_slice_of c.args.base64.now c.args.text.now k ≡ answer k) len again in
    let differ : failed c.in-Err.field-0 ≡ answer (length c.args.octets.now) = c.in-Err.ensures.value ∙ filled in
    absurd cc
