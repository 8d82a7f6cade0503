use Rattle.std.proofs.Common.{◌<◌, get_or, [], length, refl, ap, ◌∙◌, arith}
use Rattle.std.proofs.lemmas.List.{length-set}
use Rattle.ss_report.specs.runs.Extraction.{out_of_wrap}
use Rattle.ss_report.proofs.of_reading.HeldTexts.{same_item}
use Rattle.ss_report.proofs.of_writing.Unwrapping.{unwrap_more}
use Rattle.ss_report.proofs.runs.unwrapping.unwrap_held.Goals as goal

pub loop-place-preserved : goal.loop-place-preserved
loop-place-preserved c =
    let inv = c.loop-place.invariant in
    let i = c.loop-place.place in
    let ms = c.loop-place.messages in
    let first = c.args.messages.now in
    let within : i < length first = omega (arith, c.loop-place-test.true) in
    let less : i < length ms = omega (arith, within, inv.size) in
    let item = get_or ms i [] in
    let step = unwrap_more ms first i item (out_of_wrap item) less within inv.done inv.left (same_item ms i less) refl in
    let now = c.in_ok-unwrap_at.ensures in
    record {
      size = ap (λ xs. length xs) now ∙ length-set ms i (out_of_wrap item) ∙ inv.size;
      done = rw now step.0;
      left = rw now step.1;
    }
