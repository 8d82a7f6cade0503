-- Small chains of originators, and logs that deliver from them. A message is known by its one octet of MSG.
use Rattle.std.specs.Prelude.{◌≡◌, ◌≢◌, ℕ, true, List, [], ◌∷◌, map, Some, None}
use Rattle.std.specs.List.{AllPairs}
use Rattle.std.specs.Str.{bytes_eq}
use Rattle.ss_message.specs.Message.{text}
use Rattle.ss_payload.specs.declared.kind.Kind.TheVariants.{N}
use Rattle.ss_payload.specs.Payload.{payload_text}
use Rattle.ss_block.specs.declared.hash.Alg.TheVariants as algs
use Rattle.ss_block.specs.Hashes.{pair, hash_of}
use Rattle.ss_block.specs.Writing.{signature_text, certificate_text}
use Rattle.ss_origin.specs.declared.grouping.Grouping.TheVariants.{One}
use Rattle.ss_origin.specs.Counting.{anew, resumed}
use Rattle.ss_origin.specs.Calls.{Call, Begin, Submit, Flush}
use Rattle.ss_origin.specs.Setting.{Setting}
use Rattle.ss_origin.specs.Emission.{certificate_in, signature_in}
use Rattle.ss_origin.specs.Chain.{Turn}
use Rattle.ss_origin.specs.SignedLaws.{IsPending}
use Rattle.ss_origin.specs.Ahead.{Life, lives_of}
use Rattle.ss_origin.specs.AheadLaws.{IsGiven}
use Rattle.ss_review.specs.sessions.Verified.{Answers}
use Rattle.ss_review.specs.deliveries.Delivery.{submitted_to, HasBegun, HasPayload, NothingPending, IsWholeDelivery}
use Rattle.ss_review.specs.report.Meaning.{IsTold}
use Rattle.ss_review.specs.report.Verdict.{is_clean}
use Rattle.ss_review.specs.deliveries.Delivered.{own_number}
use Rattle.ss_review.specs.deliveries.DeliveryLaws.{Case, IsCase, report_in, HashesTellPairs, OthersWantOthers}
use Rattle.ss_review.specs.deliveries.DeliveryLaws.{HasMessage}
use Rattle.ss_review.specs.counted.KeptLaws.{shortfalls_of, IsInHole, NothingIsMissing, log_counters, IsLost}
use Rattle.ss_review.specs.deliveries.AheadDelivery.{IsCaseAhead, IsSkipped}

-- ---- the originators

-- the one signature that is valid
abbrev pub mark : List ℕ
mark = 83 ∷ []

-- one group, blocks of two, and the payload `- N`
abbrev pub small : Setting
small = record {
  config = record {
    head = record { pri = 110; hostname = Some (104 ∷ []); app_name = Some (115 ∷ []); procid = None; msgid = None };
    alg = algs.Sha256;
    rsid = 1;
    grouping = One 0;
    per_block = 2;
    copies = 1;
    frag = 20;
  };
  payload = record { stamp = None; kind = N; blob = [] };
  valid = λ payload octets signature. bytes_eq signature mark;
}

-- ---- what they were given and sent

abbrev pub message : ℕ → List ℕ
message octet =
    text (record {
      pri = 13;
      stamp = None;
      hostname = None;
      app_name = None;
      procid = None;
      msgid = None;
      elements = [];
      msg = Some (octet ∷ []);
    })

abbrev pub certificate : List ℕ
certificate =
    certificate_text small.config.head None
    (record (certificate_in small.config (payload_text small.payload) (record { index = 1; len = 3 })) {
      signature =
          mark;
    })

-- a signature block with this GBC, of these messages, the first of which has this number
abbrev pub block : ℕ → ℕ → List (List ℕ) → List ℕ
block gbc first messages =
    signature_text small.config.head None
    (record (signature_in small.config 0 gbc first (map (hash_of algs.Sha256) messages)) { signature = mark })

abbrev pub turn : Call → List (List ℕ) → Turn
turn call emitted = record { call = call; emitted = emitted }

abbrev pub begun : Turn
begun = turn (Begin None) (certificate ∷ [])

-- a message that fills no block, and one that fills this block
abbrev pub given : ℕ → Turn
given octet = turn (Submit (message octet) None) (message octet ∷ [])

abbrev pub filling : ℕ → List ℕ → Turn
filling octet filled = turn (Submit (message octet) None) (message octet ∷ filled ∷ [])

abbrev pub flushed : List ℕ → Turn
flushed last = turn (Flush None) (last ∷ [])

-- the first originator got two messages, and signed them
abbrev pub turns_before : List Turn
turns_before = filling 50 (block 0 1 (message 49 ∷ message 50 ∷ [])) ∷ given 49 ∷ begun ∷ []

-- and a third one, which stays pending
abbrev pub first_turns : List Turn
first_turns = given 51 ∷ turns_before

-- the next one got one message, after these counters
abbrev pub next_turns : ℕ → ℕ → List Turn
next_turns gbc number = flushed (block gbc number (message 52 ∷ [])) ∷ given 52 ∷ []

-- one that leaves nothing pending
abbrev pub whole_turns : List Turn
whole_turns = flushed (block 0 1 (message 49 ∷ [])) ∷ given 49 ∷ begun ∷ []

-- ---- logs

-- payloads are trusted, and the mark is accepted
abbrev pub accepting : Answers
accepting = record { trusted = λ payload. true; valid = small.valid }

-- The last block stands first and once more, and one message twice. The other messages and the first block are lost.
-- One message is of nobody of the chain.
abbrev pub lossy : Case
lossy = record {
  s = small;
  answers = accepting;
  chain = next_turns 1 4 ∷ first_turns ∷ [];
  log = block 1 4 (message 52 ∷ []) ∷ message 57 ∷ message 50 ∷ certificate ∷ message 50 ∷ block 1 4 (message 52 ∷ [])
      ∷ [];
}

-- Everything is there, in reverse. The originator that follows accepted no call.
abbrev pub whole : Case
whole = record {
  s = small;
  answers = accepting;
  chain = [] ∷ whole_turns ∷ [];
  log = block 0 1 (message 49 ∷ []) ∷ message 49 ∷ certificate ∷ [];
}

-- The next originator began with counters that are 2 greater than the last ones.
abbrev pub ahead_lives : List Life
ahead_lives =
    record {
      start = resumed (record { gbc = 3; groups = record { spri = 0; number = 6 } ∷ [] });
      turns =
          next_turns 3 6;
    }
    ∷ record { start = anew; turns = first_turns }
    ∷ []

-- All messages are lost, and the block of the first one.
abbrev pub ahead : Case
ahead = record {
  s = small;
  answers = accepting;
  chain = next_turns 3 6 ∷ first_turns ∷ [];
  log = block 3 6 (message 52 ∷ []) ∷ certificate ∷ block 3 6 (message 52 ∷ []) ∷ [];
}

-- Only the blocks of this originator are left.
abbrev pub bare : Case
bare = record {
  s = small;
  answers = accepting;
  chain = whole_turns ∷ [];
  log = certificate ∷ block 0 1 (message 49 ∷ []) ∷ [];
}

-- ---- what they meet

-- the premises of the laws of deliveries, and of what is lost
pub record PremisesAreMet : Type 0 where
  pub lossy_is_case : IsCase lossy
  pub last_is_pending : IsPending small.config [] (given 51) turns_before (message 51)
  pub whole_is_case : IsCase whole
  pub has_begun : HasBegun whole.chain
  pub has_payload : HasPayload whole.chain whole.log
  pub nothing_pending : NothingPending small.config whole.chain
  pub whole_delivery : IsWholeDelivery whole.chain whole.log
  pub hashes_tell_pairs : HashesTellPairs whole
  pub others_want_others : OthersWantOthers whole
  pub pairs_differ : AllPairs (λ m n. pair m ≢ pair n) (submitted_to whole.chain)
  pub bare_is_case : IsCase bare
  pub only_message_is_lost : IsLost bare (message 49)

-- The premises of the laws of originators that go on ahead. The numbers 4 and 5 were left out, and are in a hole below
-- 6.
pub record PremisesAheadAreMet : Type 0 where
  pub ahead_is_case : IsCaseAhead ahead ahead_lives
  pub last_is_given : IsGiven ahead_lives (message 52)
  pub first_is_skipped : IsSkipped small.config ahead_lives 0 4
  pub last_is_skipped : IsSkipped small.config ahead_lives 0 5
  pub greater_is_told : IsTold (report_in ahead) (own_number ahead 0 6)
  pub first_is_in_hole : IsInHole (report_in ahead) (own_number ahead 0 4)
  pub last_is_in_hole : IsInHole (report_in ahead) (own_number ahead 0 5)

-- What holds of the report of the whole log: premises of laws that rest on reports.
pub record WholeIsReported : Type 0 where
  pub is_told : IsTold (report_in whole) (own_number whole 0 1)
  pub has_message : HasMessage (report_in whole) (own_number whole 0 1)
  pub clean : is_clean (report_in whole) ≡ true
  pub nothing_is_missing : NothingIsMissing (shortfalls_of accepting whole.log (log_counters accepting whole.log))
  pub goes_on_ahead : IsCaseAhead whole (lives_of small.config whole.chain)
