use Rattle.std.proofs.Common.{List, ◌++◌, ◌+◌, length, flat_map, ap}
use Rattle.ss_origin.specs.declared.counters.NextNumber.{NextNumber}
use Rattle.ss_report.specs.declared.notation.Notation.TheVariants.{Plain}
use Rattle.ss_report.specs.runs.Counters.{block_counter, counters_end}
use Rattle.ss_report.proofs.of_writing.Writings.{writes_then, writes_same}
use Rattle.ss_signing.specs.Ahead.{number_line}
use Rattle.ss_signing.proofs.ahead.write_counters.Goals as goal

pub returns : goal.returns
returns g c =
    let end = c.args.end.now in
    writes_same _ _ _ _ (writes_then _ _ _ _ _ (writes_then _ _ _ _ _ c.write_block_counter.ensures c.write_numbers.ensures) c.write_counters_end.ensures)
    (ap (λ (ns : List NextNumber). block_counter Plain end.session end.counters.gbc ++ flat_map (number_line end.session end.sg) ns ++ counters_end Plain (length ns + 1)) c.as_slice-groups.ensures)
