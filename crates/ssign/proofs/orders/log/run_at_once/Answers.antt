use Rattle.std.proofs.Common.{Ok, Err}
use Rattle.ss_frame.specs.Watched.{source_of, sink_of}
use Rattle.ssign.proofs.AskedFiles.{unasked_at_once}
use Rattle.ssign.proofs.GivenPaths.{at_path}
use Rattle.ssign.proofs.orders.log.run_at_once.Goals as goal

pub returns-in-Err-clause-ends : goal.returns-in-Err-clause-ends
returns-in-Err-clause-ends g c =
    let source = source_of g.R.Read.remaining c.args.reader.now in
    let sink = sink_of g.W.Write.contents c.args.writer.now in
    unasked_at_once (g.F.GivenFiles.contents c.args.files.now) c.args.options.now c.args.task source source sink sink c.in-Err.refusal c.in-Err.ensures

pub returns-in-Err-answers_in-clause-ends : goal.returns-in-Err-answers_in-clause-ends
returns-in-Err-answers_in-clause-ends g c =
    let files = g.F.GivenFiles.contents c.args.files.now in
    let asked = c.in-Ok.ensures in (
      record {
        reading = (c.in-Ok.asked.reading, asked.reading);
        extraction = (asked.extraction.named, asked.extraction.is_named);
        objects = asked.objects;
      },
      record {
        first = (c.in-Ok.asked.first, asked.first);
        counters = (c.in-Ok.asked.counters, asked.counters);
        known = (c.in-Ok.asked.known, asked.known);
      },
      (c.in-Ok.asked.facts, asked.facts),
      (asked.extraction.places, asked.extraction.given),
      at_path files.answers (Err c.in-Err-answers_in.fault) c.answers_file.ensures c.in-Err-answers_in.ensures,
    )

pub returns-in-Ok-run_answered-clause-ends : goal.returns-in-Ok-run_answered-clause-ends
returns-in-Ok-run_answered-clause-ends g c =
    let files = g.F.GivenFiles.contents c.args.files.now in (
      c.in-Ok.asked,
      c.in-Ok-answers_in.answers,
      c.in-Ok.ensures,
      at_path files.answers (Ok c.in-Ok-answers_in.answers) c.answers_file.ensures c.in-Ok-answers_in.ensures,
      c.in-Ok-run_answered.ensures.done,
    )

pub returns-in-Err-run_answered-clause-ends : goal.returns-in-Err-run_answered-clause-ends
returns-in-Err-run_answered-clause-ends g c =
    let files = g.F.GivenFiles.contents c.args.files.now in (
      c.in-Ok.asked,
      c.in-Ok-answers_in.answers,
      c.in-Ok.ensures,
      at_path files.answers (Ok c.in-Ok-answers_in.answers) c.answers_file.ensures c.in-Ok-answers_in.ensures,
      c.in-Err-run_answered.ensures.stopped,
    )
