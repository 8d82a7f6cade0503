use Rattle.std.proofs.Common.{Err, Ok, sym, ◌∙◌, ap, subst, List, ℕ}
use Rattle.ss_message.specs.Layout.{layout_of, value_at}
use Rattle.ss_message.specs.Places.{PartsLie}
use Rattle.ss_message.specs.Reading.{bad, layout_at}
use Rattle.ss_block.specs.Parsed.{IsFault}
use Rattle.ss_block.specs.Reading.{value_reading}
use Rattle.ss_block.proofs.Readings.{reading_is}
use Rattle.ss_block.proofs.reading.read.Goals as goal

pub returns-in_ok-reading-in-Ok : goal.returns-in_ok-reading-in-Ok
returns-in_ok-reading-in-Ok c =
    let m = c.in-Ok.message in
    let l = layout_of m in
    let source = c.in-Ok.ensures.source in
    record {
      reading = c.in_ok-reading-in-Ok.ensures ∙ ap (λ (b : List ℕ). value_reading (value_at b l)) source ∙ sym (reading_is c.args.bytes.now (Ok l) c.in-Ok.ensures.reading);
      parsed = (
        source,
        record {
          layout = ap layout_at source ∙ c.in-Ok.ensures.reading;
          valid = c.in-Ok.ensures.found.0;
          spelled = source ∙ c.in-Ok.ensures.found.1;
          places = subst (λ (t : List ℕ). PartsLie t l) (sym source) c.in-Ok.ensures.places;
        },
      );
    }

pub returns-in-Err-Bad : goal.returns-in-Err-Bad
returns-in-Err-Bad c =
    let a = rw c.in-Err-Bad.field-0-is at c.in-Err-Bad.ensures.reading in
    let e = sym (reading_is c.args.bytes.now (Err (bad c.in-Err-Bad.part c.in-Err-Bad.pos)) a) in
    rw (c.in-Err-Bad.part-is, c.in-Err-Bad.pos-is) (record { reading = e; parsed = subst IsFault (sym a) tt })
