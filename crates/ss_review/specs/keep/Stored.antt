-- Messages without a block, as a reviewer stores them: each pair of hashes once for messages that follow one another.
use Rattle.std.specs.Prelude.{◌≡◌, ◌-◌, ◌<◌, ◌≤◌, List, [], length, map, Contains, slice_index_or}
use Rattle.ss_block.specs.declared.hash.HashPair.{HashPair}
use Rattle.ss_review.specs.declared.keep.message.NormalMessage.{NormalMessage}
use Rattle.ss_review.specs.declared.keep.stored.Stored.{Stored}
use Rattle.ss_review.specs.declared.keep.stored_message.StoredMessage.{StoredMessage}

abbrev pub no_pair : HashPair
no_pair = record { sha1 = []; sha256 = [] }

-- the message that is stored so, among these pairs
abbrev pub message_in : List HashPair → StoredMessage → NormalMessage
message_in pairs s = record { place = s.place; pair = slice_index_or pairs s.pair no_pair }

-- these messages are stored so
pub record Tells (pairs : List HashPair) (stored : List StoredMessage) (ms : List NormalMessage) : Type 0 where
  pub told : map (message_in pairs) stored ≡ ms
  pub within : (s : StoredMessage) → Contains stored s → s.pair < length pairs

-- these messages, with no more pairs than there are messages
pub record HoldsStored (s : Stored) (ms : List NormalMessage) : Type 0 where
  pub tells : Tells s.pairs.items s.messages.items ms
  pub few : length s.pairs.items ≤ length ms

-- this pair is the last
pub record EndsWith (pairs : List HashPair) (p : HashPair) : Type 0 where
  pub some : 1 ≤ length pairs
  pub last : slice_index_or pairs (length pairs - 1) no_pair ≡ p
