-- The first messages are prepared, and none of their wraps is too long. The others are as they were.
use Rattle.std.proofs.Common.{◌≡◌, ◌<◌, ℕ, [], false, map, take, drop, get_or}
use Rattle.ss_wrap.specs.Wrap.{prepared}
use Rattle.ss_signing.specs.Prepared.{is_long}
use Rattle.ss_signing.proofs.preparing.wrap_all.Given as goal

abbrev pub invariant-loop-message : goal.invariant-loop-message
invariant-loop-message l = record {
  place : l.place ≡ l.message-index;
  done : take l.message-index l.message-items ≡ map (prepared l.wraps.head.now l.wraps.stamp) (take l.message-index l.initial.message-items);
  left : drop l.message-index l.message-items ≡ drop l.message-index l.initial.message-items;
  fit : (k : ℕ) → k < l.message-index → is_long l.wraps.head.now l.wraps.stamp l.wraps.max_len (get_or l.initial.message-items k []) ≡ false;
}
