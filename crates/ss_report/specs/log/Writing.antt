-- What writing a text piece by piece leaves in a writer.
use Rattle.std.specs.Prelude.{◌≡◌, true, ℕ, List, MatchBool}
use Rattle.ss_frame.specs.Watched.{Sink}
use Rattle.ss_frame.specs.Output.{WritesWhole, WritesPrefix}

-- the octets were written whole, or a call has failed and a prefix of them was; a writer that had failed is as it was
pub record Writes (before after : Sink) (octets : List ℕ) : Type 0 where
  pub written : MatchBool after.failed (WritesPrefix before after octets) (WritesWhole before after octets)
  pub untouched : before.failed ≡ true → after ≡ before
