-- Small scripts of calls, and what comes of them.
use Rattle.std.specs.Prelude.{◌≡◌, ℕ, List, [], ◌∷◌, map, Some, None}
use Rattle.ss_block.specs.declared.hash.Alg.TheVariants as algs
use Rattle.ss_block.specs.declared.reading.Reading.TheVariants.{Plain}
use Rattle.ss_block.specs.Hashes.{hash_of}
use Rattle.ss_block.specs.Reading.{reading}
use Rattle.ss_origin.specs.declared.grouping.Grouping.TheVariants.{ByPri}
use Rattle.ss_origin.specs.declared.config.Config.{Config}
use Rattle.ss_origin.specs.declared.counters.NextNumber.{NextNumber}
use Rattle.ss_origin.specs.declared.counters.Counters.{Counters}
use Rattle.ss_origin.specs.declared.fault.OriginFault.TheVariants.{AlreadyBegun, NotBegun, NumbersSpent, CounterSpent}
use Rattle.ss_origin.specs.declared.unsigned.Unsigned.{Unsigned}
use Rattle.ss_origin.specs.declared.unsigned.Unsigned.TheVariants.{Signature}
use Rattle.ss_origin.specs.Counting.{anew, resumed}
use Rattle.ss_origin.specs.Calls.{Call, Begin, Submit, Flush, pri_of}
use Rattle.ss_origin.specs.State.{State, state, counters_of}
use Rattle.ss_origin.specs.Emission.{blocks_of}
use Rattle.ss_origin.specs.Refusals.{fault_of}

-- a group for each PRI
abbrev pub by_pri : ℕ → ℕ → Config
by_pri per_block copies = record {
  head = record { pri = 110; hostname = Some (104 ∷ []); app_name = Some (115 ∷ []); procid = None; msgid = None };
  alg = algs.Sha1;
  rsid = 1;
  grouping = ByPri;
  per_block = per_block;
  copies = copies;
  frag = 20;
}

abbrev pub in_twos : Config
in_twos = by_pri 2 1

-- each block is sent twice
abbrev pub in_ones : Config
in_ones = by_pri 1 2

abbrev pub counters_behind : Config → List Call → Counters
counters_behind c calls = counters_of (state c anew calls)

-- the blocks of the runs that the newest call closes
abbrev pub blocks_in : Config → Call → List Call → List Unsigned
blocks_in c call before = blocks_of c (state c anew before) call

-- a block of these messages
abbrev pub block : ℕ → ℕ → ℕ → List (List ℕ) → Unsigned
block spri gbc first messages =
    Signature (record {
      alg = algs.Sha1;
      rsid = 1;
      group = record { sg = 1; spri = spri };
      gbc = gbc;
      first = first;
      hashes = map (hash_of algs.Sha1) messages;
      signature = [];
    })

abbrev pub begin : Call
begin = Begin None

abbrev pub submit : List ℕ → Call
submit message = Submit message None

abbrev pub flush : Call
flush = Flush None

-- what comes of messages, of which a, c and e have the PRI 13, and b and d the PRI 14
pub record AreTheRows (a b c d e : List ℕ) : Type 0 where
  pub one : blocks_in in_twos (submit a) (begin ∷ []) ≡ []
  pub full : blocks_in in_twos (submit c) (submit b ∷ submit a ∷ begin ∷ []) ≡ block 13 0 1 (a ∷ c ∷ []) ∷ []
  pub told : counters_behind in_twos (submit c ∷ submit b ∷ submit a ∷ begin ∷ [])
      ≡ record { gbc = 1; groups = record { spri = 13; number = 3 } ∷ record { spri = 14; number = 2 } ∷ [] }
  pub other_group : blocks_in in_twos (submit d) (submit c ∷ submit b ∷ submit a ∷ begin ∷ [])
      ≡ block 14 1 1 (b ∷ d ∷ []) ∷ []
  pub nothing_pending : blocks_in in_twos flush (submit d ∷ submit c ∷ submit b ∷ submit a ∷ begin ∷ []) ≡ []
  pub last : blocks_in in_twos flush (submit e ∷ flush ∷ submit d ∷ submit c ∷ submit b ∷ submit a ∷ begin ∷ [])
      ≡ block 13 2 3 (e ∷ []) ∷ []
  pub all_told : counters_behind in_twos (flush ∷ submit e ∷ flush ∷ submit d ∷ submit c ∷ submit b ∷ submit a ∷ begin
      ∷ [])
      ≡ record { gbc = 3; groups = record { spri = 13; number = 4 } ∷ record { spri = 14; number = 3 } ∷ [] }
  pub flushed : blocks_in in_twos flush (submit a ∷ begin ∷ []) ≡ block 13 0 1 (a ∷ []) ∷ []
  pub behind_flush : blocks_in in_twos (submit e) (submit c ∷ flush ∷ submit a ∷ begin ∷ [])
      ≡ block 13 1 2 (c ∷ e ∷ []) ∷ []
  pub counted_once : blocks_in in_ones (submit b) (submit a ∷ begin ∷ []) ≡ block 14 1 1 (b ∷ []) ∷ []

abbrev pub RowsAreThese : Type 0
RowsAreThese = (a b c d e : List ℕ) → pri_of a ≡ 13 → pri_of b ≡ 14 → pri_of c ≡ 13 → pri_of d ≡ 14 → pri_of e ≡ 13
    → AreTheRows a b c d e

-- ---- refusals

abbrev pub resumed_at : Config → ℕ → List NextNumber → State
resumed_at c gbc groups = state c (resumed (record { gbc = gbc; groups = groups })) []

-- the next number of the group 13
abbrev pub next : ℕ → List NextNumber
next number = record { spri = 13; number = number } ∷ []

-- of a message with the PRI 13, and one with the PRI 14
pub record AreTheRefusals (a b : List ℕ) : Type 0 where
  pub not_begun : fault_of in_twos (state in_twos anew []) (submit a) ≡ Some NotBegun
  pub not_begun_either : fault_of in_twos (state in_twos anew []) flush ≡ Some NotBegun
  pub begun_already : fault_of in_twos (state in_twos anew (begin ∷ [])) begin ≡ Some AlreadyBegun
  pub numbers_spent : fault_of in_twos (resumed_at in_twos 0 (next 10000000000)) (submit a) ≡ Some NumbersSpent
  pub last_number : fault_of in_twos (resumed_at in_twos 0 (next 9999999999)) (submit a) ≡ None
  pub other_numbers : fault_of in_twos (resumed_at in_twos 0 (next 10000000000)) (submit b) ≡ None
  pub counter_spent : fault_of in_ones (resumed_at in_ones 10000000000 []) (submit a) ≡ Some CounterSpent
  pub last_counter : fault_of in_ones (resumed_at in_ones 9999999999 []) (submit a) ≡ None
  pub no_block_due : fault_of in_twos (resumed_at in_twos 10000000000 []) (submit a) ≡ None

abbrev pub RefusalsAreThese : Type 0
RefusalsAreThese = (a b : List ℕ) → pri_of a ≡ 13 → pri_of b ≡ 14 → reading a ≡ Plain → reading b ≡ Plain
    → AreTheRefusals a b
