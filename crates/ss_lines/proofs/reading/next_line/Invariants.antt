use Rattle.std.proofs.Common.{◌≡◌, false, length}
use Rattle.std.specs.Io.KnownBytes.{Consumes}
use Rattle.ss_octets.specs.Cut.{Lacks}
use Rattle.ss_frame.specs.Watched.{has_failed, inner_of}
use Rattle.ss_lines.proofs.reading.next_line.Given as goal

abbrev pub invariant-loop : goal.invariant-loop
invariant-loop g l = record {
  taken : Consumes (g.R.Read.remaining (inner_of l.fn.reader)) (g.R.Read.remaining (inner_of l.reader)) l.line.items;
  lacks : Lacks 10 l.line.items;
  ready : has_failed l.reader ≡ false;
  counted : l.counter ≡ length l.line.items;
}
