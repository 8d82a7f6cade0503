-- What comes of a script is computed, once its messages' groups are known.
use Rattle.std.proofs.Common.{◌≡◌, ℕ, ◌+◌, ◌-◌, ◌%◌, ◌≤◌, false, List, [], ◌∷◌, ◌++◌, length, map, refl, ap, ◌∙◌, arith}
use Rattle.std.specs.Prelude.{Bool, not, nat_le, nat_lt, ◌==◌, if◌then◌else◌}
use Rattle.std.specs.List.{enumerate_from}
use Rattle.std.proofs.lemmas.List.{drop_all}
use Rattle.ss_block.specs.declared.hash.Alg.TheVariants as algs
use Rattle.ss_block.specs.declared.hash.Hash.{Hash}
use Rattle.ss_block.specs.declared.reading.Reading.{Reading}
use Rattle.ss_block.specs.declared.reading.Reading.TheVariants.{Plain}
use Rattle.ss_block.specs.Hashes.{hash_of}
use Rattle.ss_block.specs.Reading.{reading}
use Rattle.ss_origin.specs.declared.config.Config.{Config}
use Rattle.ss_origin.specs.declared.fault.OriginFault.{OriginFault}
use Rattle.ss_origin.specs.declared.fault.OriginFault.TheVariants.{NotBegun, NotSyslog, HasBlock, NumbersSpent, CounterSpent}
use Rattle.ss_origin.specs.Counting.{anew}
use Rattle.ss_origin.specs.Calls.{Call, Run, pri_of, pending_of, run_if_full}
use Rattle.ss_origin.specs.State.{State, state, pending_in, counters_of}
use Rattle.ss_origin.specs.Step.{group_with, after}
use Rattle.ss_origin.specs.Emission.{block_of, blocks_of}
use Rattle.ss_origin.specs.Refusals.{first_fault, is_unparsed, is_plain, fault_of}
use Rattle.ss_origin.specs.Rows.{by_pri, in_twos, in_ones, resumed_at, next, begin, submit, flush, RowsAreThese, RefusalsAreThese}
use Rattle.ss_origin.proofs.Steps.{states_step}

module _ (size copies : ℕ) where
  abbrev runs_at : State → ℕ → Hash → List Run
  runs_at s spri h = run_if_full size spri (pending_in s spri ++ h ∷ [])

  -- the state after a message of this group
  abbrev with_message : State → ℕ → Hash → State
  with_message s spri h = record {
    begun = s.begun;
    gbc = s.gbc + length (runs_at s spri h);
    groups = λ k. if spri == k then group_with size (s.groups k) h else s.groups k;
  }

  abbrev counted : List Call → State
  counted calls = state (by_pri size copies) anew calls

  at_start : counted [] ≡ record { begun = false; gbc = 0; groups = λ k. record { known = false; number = 1; pending = [] } }
  unfolding pending_of
  at_start = λ i. record { begun = false; gbc = 0; groups = λ k. record { known = false; number = 1; pending = map (hash_of algs.Sha1) (drop_all (0 - 0 % size) [] (omega arith) i) } }

  blocks_at_flush : (calls : List Call) (s : State) → counted calls ≡ s → blocks_of (by_pri size copies) (counted calls) flush ≡ blocks_of (by_pri size copies) s flush
  blocks_at_flush calls s e = ap (λ t. blocks_of (by_pri size copies) t flush) e

  blocks_at_submit : (calls : List Call) (s : State) (message : List ℕ) (spri : ℕ) → pri_of message ≡ spri → counted calls ≡ s
      → blocks_of (by_pri size copies) (counted calls) (submit message) ≡ map (block_of (by_pri size copies) s) (enumerate_from s.gbc (runs_at s spri (hash_of algs.Sha1 message)))
  blocks_at_submit calls s message spri at e =
      λ i. map (block_of (by_pri size copies) (e i)) (enumerate_from (e i).gbc (runs_at (e i) (at i) (hash_of algs.Sha1 message)))

  module _ (some : 1 ≤ size) where
    behind_begin : (calls : List Call) (s : State) → counted calls ≡ s → counted (begin ∷ calls) ≡ after (by_pri size copies) s begin
    behind_begin calls s e = states_step (by_pri size copies) anew calls begin some ∙ ap (λ t. after (by_pri size copies) t begin) e

    behind_flush : (calls : List Call) (s : State) → counted calls ≡ s → counted (flush ∷ calls) ≡ after (by_pri size copies) s flush
    behind_flush calls s e = states_step (by_pri size copies) anew calls flush some ∙ ap (λ t. after (by_pri size copies) t flush) e

    behind_submit : (calls : List Call) (s : State) (message : List ℕ) (spri : ℕ) → pri_of message ≡ spri → counted calls ≡ s → counted (submit message ∷ calls) ≡ with_message s spri (hash_of algs.Sha1 message)
    behind_submit calls s message spri at e =
        states_step (by_pri size copies) anew calls (submit message) some ∙ (λ i. with_message (e i) (at i) (hash_of algs.Sha1 message))

pub rows_are_these : RowsAreThese
rows_are_these a b c d e at_a at_b at_c at_d at_e =
    let some : 1 ≤ 2 = omega arith in
    let s1 = behind_begin 2 1 some [] _ (at_start 2 1) in
    let s2 = behind_submit 2 1 some _ _ a 13 at_a s1 in
    let s3 = behind_submit 2 1 some _ _ b 14 at_b s2 in
    let s4 = behind_submit 2 1 some _ _ c 13 at_c s3 in
    let s5 = behind_submit 2 1 some _ _ d 14 at_d s4 in
    let s6 = behind_flush 2 1 some _ _ s5 in
    let s7 = behind_submit 2 1 some _ _ e 13 at_e s6 in
    let s8 = behind_flush 2 1 some _ _ s7 in
    let t3 = behind_flush 2 1 some _ _ s2 in
    let t4 = behind_submit 2 1 some _ _ c 13 at_c t3 in
    let one : 1 ≤ 1 = omega arith in
    let u1 = behind_begin 1 2 one [] _ (at_start 1 2) in
    let u2 = behind_submit 1 2 one _ _ a 13 at_a u1 in
    record {
      one = blocks_at_submit 2 1 _ _ a 13 at_a s1;
      full = blocks_at_submit 2 1 _ _ c 13 at_c s3;
      told = ap counters_of s4;
      other_group = blocks_at_submit 2 1 _ _ d 14 at_d s4;
      nothing_pending = blocks_at_flush 2 1 _ _ s5;
      last = blocks_at_flush 2 1 _ _ s7;
      all_told = ap counters_of s8;
      flushed = blocks_at_flush 2 1 _ _ s2;
      behind_flush = blocks_at_submit 2 1 _ _ e 13 at_e t4;
      counted_once = blocks_at_submit 1 2 _ _ b 14 at_b u2;
    }

-- ---- refusals

-- the faults of a message without a block in this group
abbrev faults_at : Config → State → ℕ → Reading → Hash → List (Bool × OriginFault)
faults_at c s spri r h =
    (not s.begun, NotBegun)
    ∷ (is_unparsed r, NotSyslog)
    ∷ (not (is_plain r), HasBlock)
    ∷ (nat_le 10000000000 (s.groups spri).number, NumbersSpent)
    ∷ (nat_lt 10000000000 (s.gbc + length (run_if_full c.per_block spri (pending_in s spri ++ h ∷ []))), CounterSpent)
    ∷ []

fault_at : (size copies : ℕ) (s : State) (message : List ℕ) (spri : ℕ) → pri_of message ≡ spri → reading message ≡ Plain
    → fault_of (by_pri size copies) s (submit message) ≡ first_fault (faults_at (by_pri size copies) s spri Plain (hash_of algs.Sha1 message))
fault_at size copies s message spri at plain = λ i. first_fault (faults_at (by_pri size copies) s (at i) (plain i) (hash_of algs.Sha1 message))

pub refusals_are_these : RefusalsAreThese
unfolding pending_of
refusals_are_these a b at_a at_b plain_a plain_b = record {
  not_begun = refl;
  not_begun_either = refl;
  begun_already = refl;
  numbers_spent = fault_at 2 1 (resumed_at in_twos 0 (next 10000000000)) a 13 at_a plain_a;
  last_number = fault_at 2 1 (resumed_at in_twos 0 (next 9999999999)) a 13 at_a plain_a;
  other_numbers = fault_at 2 1 (resumed_at in_twos 0 (next 10000000000)) b 14 at_b plain_b;
  counter_spent = fault_at 1 2 (resumed_at in_ones 10000000000 []) a 13 at_a plain_a;
  last_counter = fault_at 1 2 (resumed_at in_ones 9999999999 []) a 13 at_a plain_a;
  no_block_due = fault_at 2 1 (resumed_at in_twos 10000000000 []) a 13 at_a plain_a;
}
