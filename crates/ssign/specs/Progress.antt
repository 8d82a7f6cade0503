-- A reader that reports how much it has given.
use Rattle.std.specs.Prelude.{Bool}
use Rattle.ss_frame.specs.Watched.{has_failed, inner_of}
use Rattle.ssign.specs.declared.progress.Progress.{Progress}

-- the reader after it
abbrev pub read_from : {R I : Type 0} → Progress R I → I
read_from p = inner_of p.inner

-- whether a read of that reader has failed
abbrev pub has_failed_reading : {R I : Type 0} → Progress R I → Bool
has_failed_reading p = has_failed p.inner
