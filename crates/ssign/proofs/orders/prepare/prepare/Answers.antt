use Rattle.std.proofs.Common.{Ok, Err}
use Rattle.ssign.proofs.AskedFiles.{failed_unasked, have_said}
use Rattle.ssign.proofs.GivenPaths.{at_path}
use Rattle.ssign.proofs.orders.prepare.prepare.Goals as goal

pub returns-in-Err : goal.returns-in-Err
returns-in-Err g c =
    failed_unasked (g.F.GivenFiles.contents c.args.files.now) c.args.options.now c.args.task c.in-Err.refusal c.in-Err.ensures

pub returns-in-Err-counters_in : goal.returns-in-Err-counters_in
returns-in-Err-counters_in g c =
    let files = g.F.GivenFiles.contents c.args.files.now in (
      have_said _ _ _ c.in-Ok.ensures,
      at_path files.counters (Err c.in-Err-counters_in.fault) c.from_file.ensures c.in-Err-counters_in.ensures.given,
    )

pub returns-in-Err-counters_in-2 : goal.returns-in-Err-counters_in-2
returns-in-Err-counters_in-2 g c =
    let files = g.F.GivenFiles.contents c.args.files.now in (
      have_said _ _ _ c.in-Ok.ensures,
      (c.in-Ok-counters_in.first, at_path files.counters (Ok c.in-Ok-counters_in.first) c.from_file.ensures c.in-Ok-counters_in.ensures.given),
      at_path files.counters (Err c.in-Err-counters_in-2.fault) c.counters_file.ensures c.in-Err-counters_in-2.ensures.given,
    )

pub returns-in-Err-payloads_in : goal.returns-in-Err-payloads_in
returns-in-Err-payloads_in g c =
    let files = g.F.GivenFiles.contents c.args.files.now in (
      have_said _ _ _ c.in-Ok.ensures,
      (c.in-Ok-counters_in.first, at_path files.counters (Ok c.in-Ok-counters_in.first) c.from_file.ensures c.in-Ok-counters_in.ensures.given),
      (c.in-Ok-counters_in-2.counters, at_path files.counters (Ok c.in-Ok-counters_in-2.counters) c.counters_file.ensures c.in-Ok-counters_in-2.ensures.given),
      at_path files.payloads (Err c.in-Err-payloads_in.fault) c.pinned_file.ensures c.in-Err-payloads_in.ensures.given,
    )

pub returns-in-Err-places_in : goal.returns-in-Err-places_in
returns-in-Err-places_in g c =
    let files = g.F.GivenFiles.contents c.args.files.now in (
      have_said _ _ _ c.in-Ok.ensures,
      record {
        first = (c.in-Ok-counters_in.first, at_path files.counters (Ok c.in-Ok-counters_in.first) c.from_file.ensures c.in-Ok-counters_in.ensures.given);
        counters = (c.in-Ok-counters_in-2.counters, at_path files.counters (Ok c.in-Ok-counters_in-2.counters) c.counters_file.ensures c.in-Ok-counters_in-2.ensures.given);
        known = (c.in-Ok-payloads_in.known, at_path files.payloads (Ok c.in-Ok-payloads_in.known) c.pinned_file.ensures c.in-Ok-payloads_in.ensures.given);
      },
      at_path files.places (Err c.in-Err-places_in.fault) c.facts_file.ensures c.in-Err-places_in.ensures,
    )

pub returns-in-Err-places_in-2 : goal.returns-in-Err-places_in-2
returns-in-Err-places_in-2 g c =
    let files = g.F.GivenFiles.contents c.args.files.now in (
      have_said _ _ _ c.in-Ok.ensures,
      record {
        first = (c.in-Ok-counters_in.first, at_path files.counters (Ok c.in-Ok-counters_in.first) c.from_file.ensures c.in-Ok-counters_in.ensures.given);
        counters = (c.in-Ok-counters_in-2.counters, at_path files.counters (Ok c.in-Ok-counters_in-2.counters) c.counters_file.ensures c.in-Ok-counters_in-2.ensures.given);
        known = (c.in-Ok-payloads_in.known, at_path files.payloads (Ok c.in-Ok-payloads_in.known) c.pinned_file.ensures c.in-Ok-payloads_in.ensures.given);
      },
      (c.in-Ok-places_in.facts, at_path files.places (Ok c.in-Ok-places_in.facts) c.facts_file.ensures c.in-Ok-places_in.ensures),
      at_path files.places (Err c.in-Err-places_in-2.fault) c.places_file.ensures c.in-Err-places_in-2.ensures,
    )

pub returns : goal.returns
returns g c =
    let files = g.F.GivenFiles.contents c.args.files.now in
    record {
      reading = c.in-Ok.ensures.reading;
      extraction = record {
        named = c.in-Ok.named.1;
        places = c.in-Ok-places_in-2.places;
        is_named = c.in-Ok.ensures.extraction;
        given = at_path files.places (Ok c.in-Ok-places_in-2.places) c.places_file.ensures c.in-Ok-places_in-2.ensures;
        is_at = c.at_places.ensures;
      };
      objects = c.in-Ok.ensures.objects;
      reporting = c.reporting_of.ensures;
      first = at_path files.counters (Ok c.in-Ok-counters_in.first) c.from_file.ensures c.in-Ok-counters_in.ensures.given;
      counters = at_path files.counters (Ok c.in-Ok-counters_in-2.counters) c.counters_file.ensures c.in-Ok-counters_in-2.ensures.given;
      known = at_path files.payloads (Ok c.in-Ok-payloads_in.known) c.pinned_file.ensures c.in-Ok-payloads_in.ensures.given;
      known_rise = c.in-Ok-payloads_in.ensures.rise;
      facts = at_path files.places (Ok c.in-Ok-places_in.facts) c.facts_file.ensures c.in-Ok-places_in.ensures;
    }
