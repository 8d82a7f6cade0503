-- None of the first messages holds LF.
use Rattle.std.proofs.Common.{◌≡◌, ◌<◌, ℕ, [], false, get_or}
use Rattle.ss_signing.specs.Prepared.{has_lf}
use Rattle.ss_signing.proofs.preparing.first_with_lf.Given as goal

abbrev pub invariant-loop-message : goal.invariant-loop-message
invariant-loop-message l = record {
  place : l.place ≡ l.message-index;
  fit : (k : ℕ) → k < l.message-index → has_lf (get_or l.messages k []) ≡ false;
}
