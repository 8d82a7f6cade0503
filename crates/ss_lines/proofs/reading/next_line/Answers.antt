use Rattle.std.proofs.Common.{[], ◌∷◌, ◌++◌}
use Rattle.std.proofs.KnownBytes.{Consumes-trans}
use Rattle.ss_frame.specs.Watched.{inner_of}
use Rattle.ss_lines.proofs.reading.next_line.Goals as goal

pub returns-then-is_err : goal.returns-then-is_err
returns-then-is_err g c =
    (c.loop.line.items ++ c.in-Taken.octet ∷ [], Consumes-trans (g.R.Read.remaining (inner_of c.args.reader.now)) (g.R.Read.remaining (inner_of c.loop.reader)) (g.R.Read.remaining (inner_of c.read_octet.new.reader)) c.loop.line.items (c.in-Taken.octet ∷ []) c.loop.invariant.taken c.in-Taken.ensures.0)
