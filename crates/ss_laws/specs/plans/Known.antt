-- Readers and writers that show their octets.
use Rattle.std.specs.Prelude.{◌≡◌, ℕ, List, ◌++◌, Some}
use Rattle.ss_frame.specs.Watched.{Source, Sink}

-- this is what the reader has left
abbrev pub Shows : Source → List ℕ → Type 0
Shows source octets = source.left ≡ Some octets

-- the writer held some octets, and then these too
abbrev pub Wrote : (was is : Sink) → List ℕ → Type 0
Wrote was is octets = (front : List ℕ) × (was.written ≡ Some front) × (is.written ≡ Some (front ++ octets))
