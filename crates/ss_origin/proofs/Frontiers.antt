-- How far the signature blocks go: each call moves this on, and its blocks lie between.
use Rattle.std.proofs.Common.{◌≡◌, ◌⊎◌, inl, inr, ℕ, zero, suc, ◌+◌, ◌-◌, ◌<◌, ◌≤◌, Bool, true, false, List, [], ◌∷◌, ◌++◌, length, map, refl, sym, ap, ◌∙◌, subst, arith}
use Rattle.std.specs.Prelude.{◌==◌, if◌then◌else◌, Option, None}
use Rattle.std.specs.List.{AllByRecursion, AllZip, flat_map, range_with_len, enumerate_from}
use Rattle.std.proofs.lemmas.Bool.{eq-eqb}
use Rattle.std.proofs.lemmas.List.{length_push, length-map}
use Rattle.ss_message.specs.Stamp.{Moment}
use Rattle.ss_message.specs.Laws.{FaultsAreOfNoMessage}
use Rattle.ss_block.specs.declared.hash.Hash.{Hash}
use Rattle.ss_block.specs.declared.reading.Reading.TheVariants as readings
use Rattle.ss_block.specs.Block as block
use Rattle.ss_block.specs.Hashes.{hash_of}
use Rattle.ss_block.specs.Reading.{reading}
use Rattle.ss_origin.specs.declared.config.Config.{Config}
use Rattle.ss_origin.specs.declared.grouping.Grouping.{Grouping}
use Rattle.ss_origin.specs.Groups.{group_of}
use Rattle.ss_origin.specs.Configs.{is_config}
use Rattle.ss_origin.specs.Counting.{Start, number_in}
use Rattle.ss_origin.specs.Calls.{Call, Begin, Submit, Flush, Run, spri_in, pending_of, stamp_of, run_if_any}
use Rattle.ss_origin.specs.State.{GroupState, State, state, pending_in, first_pending, runs_closed}
use Rattle.ss_origin.specs.Step.{group_with, after}
use Rattle.ss_origin.specs.Setting.{Setting}
use Rattle.ss_origin.specs.Emission.{signature_in, block_of, IsSealed, EmitsFrom}
use Rattle.ss_origin.specs.Refusals.{fault_of}
use Rattle.ss_origin.specs.Chain.{Turn, calls_of, AreTurns}
use Rattle.ss_origin.proofs.Configs.{has_ranges}
use Rattle.ss_origin.proofs.Covered.{front_length}
use Rattle.ss_octets.proofs.Members.{Has, all-has}
use Rattle.ss_origin.proofs.RunsClosed.{all-if_full, all_flushed, runs_have_small_spris}
use Rattle.ss_origin.proofs.SentRuns.{IsSentRun, sent_run_of, sealed_message}
use Rattle.ss_origin.proofs.Steps.{states_step}

-- ---- frontiers

-- the next GBC, and of each group the first number that no block has
pub record Frontier : Type 0 where
  pub gbc : ℕ
  pub first : ℕ → ℕ

pub record IsAtMost (x y : Frontier) : Type 0 where
  pub gbc : x.gbc ≤ y.gbc
  pub first : (spri : ℕ) → spri < 192 → x.first spri ≤ y.first spri

pub at_most_itself : (x : Frontier) → IsAtMost x x
at_most_itself x = record { gbc = omega arith; first = λ spri small. omega arith }

pub at_most_both : (x y z : Frontier) → IsAtMost x y → IsAtMost y z → IsAtMost x z
at_most_both x y z p q = record {
  gbc = omega (arith, p.gbc, q.gbc);
  first = λ spri small. (let a = p.first spri small in let b = q.first spri small in omega (arith, a, b));
}

-- the block has its GBC and its numbers from the one frontier on, and below the other
pub record IsBetween (grouping : Grouping) (low high : Frontier) (b : block.Signature) : Type 0 where
  pub spri : ℕ
  pub small : spri < 192
  pub group : b.group ≡ group_of grouping spri
  pub gbc_low : low.gbc ≤ b.gbc
  pub gbc_high : b.gbc < high.gbc
  pub first_low : low.first spri ≤ b.first
  pub last_high : b.first + length b.hashes ≤ high.first spri

pub widened : (grouping : Grouping) (low lower high higher : Frontier) (b : block.Signature) → IsAtMost lower low → IsAtMost high higher → IsBetween grouping low high b → IsBetween grouping lower higher b
widened grouping low lower high higher b down up is =
    let d = down.first is.spri is.small in
    let u = up.first is.spri is.small in
    let l = is.first_low in
    let h = is.last_high in
    record {
      spri = is.spri;
      small = is.small;
      group = is.group;
      gbc_low = omega (arith, down.gbc, is.gbc_low);
      gbc_high = omega (arith, up.gbc, is.gbc_high);
      first_low = omega (arith, d, l);
      last_high = omega (arith, u, h);
    }

-- ---- what two blocks may share

-- a number of a group for which both have a hash
pub record ShareNumber (a b : block.Signature) : Type 0 where
  pub group : a.group ≡ b.group
  pub number : ℕ
  pub a_least : a.first ≤ number
  pub a_below : number < a.first + length a.hashes
  pub b_least : b.first ≤ number
  pub b_below : number < b.first + length b.hashes

-- their GBC, or a number
abbrev pub Meet : block.Signature → block.Signature → Type 0
Meet a b = (a.gbc ≡ b.gbc) ⊎ ShareNumber a b

pub meet_back : (a b : block.Signature) → Meet a b → Meet b a
meet_back a b (inl e) = inl (sym e)
meet_back a b (inr n) = inr (record { group = sym n.group; number = n.number; a_least = n.b_least; a_below = n.b_below; b_least = n.a_least; b_below = n.a_below })

pub same_spri : (grouping : Grouping) (k l : ℕ) → group_of grouping k ≡ group_of grouping l → k ≡ l
same_spri grouping k l e = ap (λ g. g.spri) e

-- blocks that a frontier parts share nothing
pub apart : (grouping : Grouping) (low mid up high : Frontier) (a b : block.Signature) → IsBetween grouping low mid a → IsBetween grouping up high b → IsAtMost mid up → Meet a b → ⊥
apart grouping low mid up high a b one two step (inl e) = omega (arith, one.gbc_high, two.gbc_low, step.gbc, e)
apart grouping low mid up high a b one two step (inr n) =
    let spri : one.spri ≡ two.spri = same_spri grouping one.spri two.spri (sym one.group ∙ n.group ∙ two.group) in
    let s : mid.first one.spri ≤ up.first one.spri = step.first one.spri one.small in
    let l : up.first one.spri ≤ b.first = subst (λ k. up.first k ≤ b.first) (sym spri) two.first_low in
    omega (arith, one.last_high, n.a_below, n.b_least, s, l)

-- ---- one call

abbrev pub frontier_of : State → Frontier
frontier_of s = record { gbc = s.gbc; first = first_pending s }

abbrev first_of : GroupState → ℕ
first_of g = g.number - length g.pending

module _ (size : ℕ) (g : GroupState) (h : Hash) (fits : length g.pending ≤ g.number) where
  given_more : first_of g ≤ first_of (group_with size g h)
  given_more = by (length g.pending + 1 == size)
    where
      by : (b : Bool) → first_of g ≤ g.number + 1 - length (if b then [] else g.pending ++ h ∷ [])
      by true = omega arith
      by false = let e = length_push g.pending h in omega arith

  given_full : length (g.pending ++ h ∷ []) ≡ size → first_of g + length (g.pending ++ h ∷ []) ≤ first_of (group_with size g h)
  given_full full =
      let e = length_push g.pending h in
      let is : (length g.pending + 1 == size) ≡ true = eq-eqb (length g.pending + 1) size (sym e ∙ full) in
      subst (λ b. first_of g + length (g.pending ++ h ∷ []) ≤ g.number + 1 - length (if b then [] else g.pending ++ h ∷ [])) (sym is) (omega arith)

module _ (c : Config) (old : State) (fits : (spri : ℕ) → length (pending_in old spri) ≤ (old.groups spri).number) where
  goes_on : (call : Call) (spri : ℕ) → first_pending old spri ≤ first_pending (after c old call) spri
  goes_on (Begin stamp) spri = omega arith
  goes_on (Submit message stamp) spri = by (spri_in c.grouping message == spri)
    where
      by : (b : Bool) → first_of (old.groups spri) ≤ first_of (if b then group_with c.per_block (old.groups spri) (hash_of c.alg message) else old.groups spri)
      by true = given_more c.per_block (old.groups spri) (hash_of c.alg message) (fits spri)
      by false = omega arith
  goes_on (Flush stamp) spri = let f = fits spri in omega (arith, f)

  gbc_after : (call : Call) → (after c old call).gbc ≡ old.gbc + length (runs_closed c (pending_in old) call)
  gbc_after (Begin stamp) = omega arith
  gbc_after (Submit message stamp) = refl
  gbc_after (Flush stamp) = refl

  pub moves_on : (call : Call) → IsAtMost (frontier_of old) (frontier_of (after c old call))
  moves_on call = record { gbc = (let e = gbc_after call in omega (arith, e)); first = λ spri small. goes_on call spri }

  abbrev Lies : Call → Run → Type 0
  Lies call r = first_pending old r.spri + length r.hashes ≤ first_pending (after c old call) r.spri

  runs_lie : (call : Call) → AllByRecursion (Lies call) (runs_closed c (pending_in old) call)
  runs_lie (Begin stamp) = tt
  runs_lie (Submit message stamp) =
      let spri = spri_in c.grouping message in
      let h = hash_of c.alg message in
      let g = old.groups spri in
      all-if_full (Lies (Submit message stamp)) c.per_block spri (pending_in old spri ++ h ∷ [])
      (λ full. subst (λ b. first_of g + length (g.pending ++ h ∷ []) ≤ first_of (if b then group_with c.per_block g h else g)) (sym (eq-eqb spri spri refl)) (given_full c.per_block g h (fits spri) full))
  runs_lie (Flush stamp) = all_flushed (Lies (Flush stamp)) (pending_in old) (λ spri small some. (let f = fits spri in omega (arith, f)))

-- ---- the places of runs

pub from_has-enumerated : {X : Type 0} (n : ℕ) (xs : List X) (k : ℕ) (x : X) → Has (enumerate_from n xs) (k, x) → (n ≤ k) × (k < n + length xs) × Has xs x
from_has-enumerated n [] k x h = absurd h
from_has-enumerated n (y ∷ ys) k x (inl e) = (let k_is : n ≡ k = ap (λ (p : ℕ × _). p.0) e in (omega arith, omega arith, inl (ap (λ (p : ℕ × _). p.1) e)))
from_has-enumerated n (y ∷ ys) k x (inr h) = let w = from_has-enumerated (n + 1) ys k x h in (omega (arith, w.0), omega (arith, w.1), inr w.2)

-- the SPRI of the runs rise
abbrev Rise : ℕ → List Run → Type 0
Rise a [] = Unit {0}
Rise a (r ∷ runs) = (a ≤ r.spri) × Rise (r.spri + 1) runs

rise_lower : (a b : ℕ) (runs : List Run) → a ≤ b → Rise b runs → Rise a runs
rise_lower a b [] below rise = tt
rise_lower a b (r ∷ runs) below rise = (omega (arith, rise.0), rise.1)

rise_has : (a : ℕ) (runs : List Run) (r : Run) → Rise a runs → Has runs r → a ≤ r.spri
rise_has a [] r rise h = absurd h
rise_has a (q ∷ runs) r rise (inl e) = subst (λ (x : Run). a ≤ x.spri) e rise.0
rise_has a (q ∷ runs) r rise (inr h) = let w = rise_has (q.spri + 1) runs r rise.1 h in omega (arith, w, rise.0)

rise_if_any : (a : ℕ) (hs : List Hash) (runs : List Run) → Rise (a + 1) runs → Rise a (run_if_any a hs ++ runs)
rise_if_any a [] runs rise = rise_lower a (a + 1) runs (omega arith) rise
rise_if_any a (h ∷ hs) runs rise = (omega arith, rise)

rise_flushed : (pending : ℕ → List Hash) (n a : ℕ) → Rise a (flat_map (λ spri. run_if_any spri (pending spri)) (range_with_len a n))
rise_flushed pending zero a = tt
rise_flushed pending (suc n) a = rise_if_any a (pending a) (flat_map (λ spri. run_if_any spri (pending spri)) (range_with_len (a + 1) n)) (rise_flushed pending n (a + 1))

rise_closed : (c : Config) (pending : ℕ → List Hash) (call : Call) → Rise 0 (runs_closed c pending call)
rise_closed c pending (Begin stamp) = tt
rise_closed c pending (Submit message stamp) = by (length hs == c.per_block)
  where
    hs : List Hash
    hs = pending (spri_in c.grouping message) ++ hash_of c.alg message ∷ []

    by : (b : Bool) → Rise 0 (if b then record { spri = spri_in c.grouping message; hashes = hs } ∷ [] else [])
    by true = (omega arith, tt)
    by false = tt
rise_closed c pending (Flush stamp) = rise_flushed pending 192 0

-- so two of one group are one
same_place : (n a : ℕ) (runs : List Run) (k l : ℕ) (q r : Run) → Rise a runs → Has (enumerate_from n runs) (k, q) → Has (enumerate_from n runs) (l, r) → q.spri ≡ r.spri → k ≡ l
same_place n a [] k l q r rise h i e = absurd h
same_place n a (x ∷ runs) k l q r rise (inl d) (inl f) e = ap (λ (p : ℕ × Run). p.0) (sym d ∙ f)
same_place n a (x ∷ runs) k l q r rise (inl d) (inr i) e =
    let first : x.spri ≡ q.spri = ap (λ (p : ℕ × Run). p.1.spri) d in
    let behind = rise_has (x.spri + 1) runs r rise.1 (from_has-enumerated (n + 1) runs l r i).2 in
    absurd (omega (arith, behind, first, e))
same_place n a (x ∷ runs) k l q r rise (inr h) (inl f) e =
    let first : x.spri ≡ r.spri = ap (λ (p : ℕ × Run). p.1.spri) f in
    let behind = rise_has (x.spri + 1) runs q rise.1 (from_has-enumerated (n + 1) runs k q h).2 in
    absurd (omega (arith, behind, first, e))
same_place n a (x ∷ runs) k l q r rise (inr h) (inr i) e = same_place (n + 1) (x.spri + 1) runs k l q r rise.1 h i e

-- ---- the blocks of a call

module _ (s : Setting) (old : State) where
  -- what a message that is the sealed block of a run says
  pub record Says (gbc : ℕ) (run : Run) (b : block.Signature) : Type 0 where
    pub group : b.group ≡ group_of s.config.grouping run.spri
    pub gbc_is : b.gbc ≡ gbc
    pub first : b.first ≡ first_pending old run.spri
    pub hashes : b.hashes ≡ run.hashes

  pub says : (stamp : Option Moment) (gbc : ℕ) (run : Run) (m : List ℕ) (b : block.Signature) → IsSealed s stamp (block_of s.config old (gbc, run)) m → reading m ≡ readings.Signature b → Says gbc run b
  says stamp gbc run m b sealed read =
      let own : readings.Signature (record (signature_in s.config run.spri gbc (first_pending old run.spri) run.hashes) { signature = sealed.signature }) ≡ readings.Signature b
      = sym sealed.read.read ∙ read in
      record { group = cc; gbc_is = cc; first = cc; hashes = cc }

  -- messages beside the runs whose sealed blocks they are
  abbrev SealedIn : Option Moment → ℕ → List Run → List (List ℕ) → Type 0
  SealedIn stamp n runs messages = AllZip (IsSealed s stamp) (map (block_of s.config old) (enumerate_from n runs)) messages

  later_gbc : (stamp : Option Moment) (n : ℕ) (runs : List Run) (messages : List (List ℕ)) (m : List ℕ) (b : block.Signature) → SealedIn stamp n runs messages → Has messages m → reading m ≡ readings.Signature b → n ≤ b.gbc
  later_gbc stamp n [] [] m b zip h read = absurd h
  later_gbc stamp n [] (x ∷ messages) m b zip h read = absurd zip
  later_gbc stamp n (r ∷ runs) [] m b zip h read = absurd h
  later_gbc stamp n (r ∷ runs) (x ∷ messages) m b zip (inl e) read =
      let here = (says stamp n r x b zip.0 (ap reading e ∙ read)).gbc_is in omega (arith, here)
  later_gbc stamp n (r ∷ runs) (x ∷ messages) m b zip (inr h) read = let w = later_gbc stamp (n + 1) runs messages m b zip.1 h read in omega (arith, w)

  -- of one GBC there is one message
  same_message : (stamp : Option Moment) (n : ℕ) (runs : List Run) (messages : List (List ℕ)) (m p : List ℕ) (a b : block.Signature) → SealedIn stamp n runs messages → Has messages m → Has messages p
      → reading m ≡ readings.Signature a → reading p ≡ readings.Signature b → a.gbc ≡ b.gbc → m ≡ p
  same_message stamp n [] [] m p a b zip h i read_m read_p e = absurd h
  same_message stamp n [] (x ∷ messages) m p a b zip h i read_m read_p e = absurd zip
  same_message stamp n (r ∷ runs) [] m p a b zip h i read_m read_p e = absurd h
  same_message stamp n (r ∷ runs) (x ∷ messages) m p a b zip (inl d) (inl f) read_m read_p e = sym d ∙ f
  same_message stamp n (r ∷ runs) (x ∷ messages) m p a b zip (inl d) (inr i) read_m read_p e =
      let here = (says stamp n r x a zip.0 (ap reading d ∙ read_m)).gbc_is in
      let behind = later_gbc stamp (n + 1) runs messages p b zip.1 i read_p in
      absurd (omega (arith, here, behind, e))
  same_message stamp n (r ∷ runs) (x ∷ messages) m p a b zip (inr h) (inl f) read_m read_p e =
      let here = (says stamp n r x b zip.0 (ap reading f ∙ read_p)).gbc_is in
      let behind = later_gbc stamp (n + 1) runs messages m a zip.1 h read_m in
      absurd (omega (arith, here, behind, e))
  same_message stamp n (r ∷ runs) (x ∷ messages) m p a b zip (inr h) (inr i) read_m read_p e = same_message stamp (n + 1) runs messages m p a b zip.1 h i read_m read_p e

  -- the messages of a call that isn't `begin`, beside its runs
  zipped : (call : Call) (emitted : List (List ℕ)) (m : List ℕ) → IsSentRun s old call m → (e : EmitsFrom s old call emitted) → SealedIn (stamp_of call) old.gbc (runs_closed s.config (pending_in old) call) e.sent.messages
  zipped (Begin stamp) emitted m sent e = absurd sent.closed
  zipped (Submit message stamp) emitted m sent e = subst (λ due. AllZip (IsSealed s stamp) due e.sent.messages) e.are_due e.sent.sealed
  zipped (Flush stamp) emitted m sent e = subst (λ due. AllZip (IsSealed s stamp) due e.sent.messages) e.are_due e.sent.sealed

  module _ (call : Call) (emitted : List (List ℕ)) (accepted : fault_of s.config old call ≡ None) (emits : EmitsFrom s old call emitted) where
    -- two blocks of one call that share a number or their GBC are one message
    pub one_of_call : (m p : List ℕ) (a b : block.Signature) → Has emitted m → Has emitted p → reading m ≡ readings.Signature a → reading p ≡ readings.Signature b → Meet a b → m ≡ p
    one_of_call m p a b h i read_m read_p meet =
        let one = sent_run_of s old m a read_m call emitted accepted emits h in
        let two = sent_run_of s old p b read_p call emitted accepted emits i in
        let of_one = says (stamp_of call) one.gbc one.run m a one.sealed read_m in
        let of_two = says (stamp_of call) two.gbc two.run p b two.sealed read_p in
        let gbc : a.gbc ≡ b.gbc = elim meet [
          | inl e ↦ e
          | inr n ↦ of_one.gbc_is
              ∙ same_place old.gbc 0 (runs_closed s.config (pending_in old) call) one.gbc two.gbc one.run two.run (rise_closed s.config (pending_in old) call) one.closed two.closed
              (same_spri s.config.grouping one.run.spri two.run.spri (sym of_one.group ∙ n.group ∙ of_two.group))
              ∙ sym of_two.gbc_is
        ] in
        same_message (stamp_of call) old.gbc (runs_closed s.config (pending_in old) call) emits.sent.messages m p a b (zipped call emitted m one emits)
        (sealed_message s old m a read_m call emitted accepted emits h) (sealed_message s old p b read_p call emitted accepted emits i) read_m read_p gbc

    -- and each lies between the states before and after it
    pub between_states : FaultsAreOfNoMessage → is_config s.config ≡ true → ((spri : ℕ) → length (pending_in old spri) ≤ (old.groups spri).number)
        → (m : List ℕ) (b : block.Signature) → Has emitted m → reading m ≡ readings.Signature b → IsBetween s.config.grouping (frontier_of old) (frontier_of (after s.config old call)) b
    between_states read is fits m b h read_m =
        let sent = sent_run_of s old m b read_m call emitted accepted emits h in
        let of_sent = says (stamp_of call) sent.gbc sent.run m b sent.sealed read_m in
        let runs = runs_closed s.config (pending_in old) call in
        let entry = from_has-enumerated old.gbc runs sent.gbc sent.run sent.closed in
        let small : sent.run.spri < 192 = all-has (λ (r : Run). r.spri < 192) runs sent.run (runs_have_small_spris read s.config (pending_in old) call (has_ranges s.config is).grouping) entry.2 in
        let lies = all-has (Lies s.config old fits call) runs sent.run (runs_lie s.config old fits call) entry.2 in
        let behind = gbc_after s.config old fits call in
        let gbc = of_sent.gbc_is in
        let first = of_sent.first in
        let many : length b.hashes ≡ length sent.run.hashes = ap length of_sent.hashes in
        let low = entry.0 in
        let high = entry.1 in
        record {
          spri = sent.run.spri;
          small = small;
          group = of_sent.group;
          gbc_low = omega (arith, gbc, low);
          gbc_high = omega (arith, gbc, high, behind);
          first_low = omega (arith, first);
          last_high = omega (arith, first, many, lies);
        }

-- ---- the blocks of an originator

abbrev pub frontier_at : Start → Frontier
frontier_at start = record { gbc = start.counters.gbc; first = number_in start.counters.groups }

-- no more is pending than was given
pub few_pending : (c : Config) (start : Start) (calls : List Call) (spri : ℕ) → length (pending_in (state c start calls) spri) ≤ ((state c start calls).groups spri).number
few_pending c start calls spri =
    let front = front_length c spri calls in
    let hashes = length-map (pending_of c spri calls) (hash_of c.alg) in
    omega (arith, front, hashes)

-- a signature block that one of the turns sent
pub record IsSentIn (turns : List Turn) (m : List ℕ) (b : block.Signature) : Type 0 where
  pub turn : Turn
  pub of_turns : Has turns turn
  pub sent : Has turn.emitted m
  pub read : reading m ≡ readings.Signature b

module _ (read : FaultsAreOfNoMessage) (s : Setting) (is : is_config s.config ≡ true) (start : Start) where
  abbrev at : List Turn → State
  at turns = state s.config start (calls_of turns)

  step : (t : Turn) (before : List Turn) → at (t ∷ before) ≡ after s.config (at before) t.call
  step t before = states_step s.config start (calls_of before) t.call (has_ranges s.config is).some

  pub stepped : (t : Turn) (before : List Turn) → IsAtMost (frontier_of (at before)) (frontier_of (at (t ∷ before)))
  stepped t before = subst (λ x. IsAtMost (frontier_of (at before)) (frontier_of x)) (sym (step t before)) (moves_on s.config (at before) (few_pending s.config start (calls_of before)) t.call)

  pub from_start : (turns : List Turn) → IsAtMost (frontier_at start) (frontier_of (at turns))
  from_start [] = record {
    gbc = omega arith;
    first = λ spri small. (let f = front_length s.config spri [] in let e = length-map (pending_of s.config spri []) (hash_of s.config.alg) in omega (arith, f, e));
  }
  from_start (t ∷ before) = at_most_both (frontier_at start) (frontier_of (at before)) (frontier_of (at (t ∷ before))) (from_start before) (stepped t before)

  between_turn : (t : Turn) (before : List Turn) (m : List ℕ) (b : block.Signature) → (fault_of s.config (at before) t.call ≡ None) × EmitsFrom s (at before) t.call t.emitted
      → Has t.emitted m → reading m ≡ readings.Signature b → IsBetween s.config.grouping (frontier_of (at before)) (frontier_of (at (t ∷ before))) b
  between_turn t before m b turn h read_m =
      subst (λ x. IsBetween s.config.grouping (frontier_of (at before)) (frontier_of x) b) (sym (step t before))
      (between_states s (at before) t.call t.emitted turn.0 turn.1 read is (few_pending s.config start (calls_of before)) m b h read_m)

  pub between : (turns : List Turn) (m : List ℕ) (b : block.Signature) → AreTurns s start turns → IsSentIn turns m b → IsBetween s.config.grouping (frontier_at start) (frontier_of (at turns)) b
  between [] m b are sent = absurd sent.of_turns
  between (t ∷ before) m b are sent =
      by (λ u i h. between before m b are.0 (record { turn = u; of_turns = i; sent = h; read = sent.read })) sent.turn sent.of_turns sent.sent
    where
      by : ((u : Turn) → Has before u → Has u.emitted m → IsBetween s.config.grouping (frontier_at start) (frontier_of (at before)) b)
          → (u : Turn) → Has (t ∷ before) u → Has u.emitted m → IsBetween s.config.grouping (frontier_at start) (frontier_of (at (t ∷ before))) b
      by rest u (inl e) h =
          widened s.config.grouping (frontier_of (at before)) (frontier_at start) (frontier_of (at (t ∷ before))) (frontier_of (at (t ∷ before))) b (from_start before) (at_most_itself (frontier_of (at (t ∷ before))))
          (between_turn t before m b (are.1, are.2) (subst (λ (x : Turn). Has x.emitted m) (sym e) h) sent.read)
      by rest u (inr i) h =
          widened s.config.grouping (frontier_at start) (frontier_at start) (frontier_of (at before)) (frontier_of (at (t ∷ before))) b (at_most_itself (frontier_at start)) (stepped t before)
          (rest u i h)

  -- two of them that share a number or their GBC are one message
  pub one_of_turns : (turns : List Turn) (m p : List ℕ) (a b : block.Signature) → AreTurns s start turns → IsSentIn turns m a → IsSentIn turns p b → Meet a b → m ≡ p
  one_of_turns [] m p a b are one two meet = absurd one.of_turns
  one_of_turns (t ∷ before) m p a b are one two meet =
      by (λ u i h v j k. one_of_turns before m p a b are.0 (record { turn = u; of_turns = i; sent = h; read = one.read }) (record { turn = v; of_turns = j; sent = k; read = two.read }) meet)
      one.turn one.of_turns one.sent two.turn two.of_turns two.sent
    where
      here : (u : Turn) (x : List ℕ) → t ≡ u → Has u.emitted x → Has t.emitted x
      here u x e h = subst (λ (y : Turn). Has y.emitted x) (sym e) h

      new : (x : List ℕ) (c : block.Signature) → Has t.emitted x → reading x ≡ readings.Signature c → IsBetween s.config.grouping (frontier_of (at before)) (frontier_of (at (t ∷ before))) c
      new x c h read_x = between_turn t before x c (are.1, are.2) h read_x

      old : (u : Turn) (x : List ℕ) (c : block.Signature) → Has before u → Has u.emitted x → reading x ≡ readings.Signature c → IsBetween s.config.grouping (frontier_at start) (frontier_of (at before)) c
      old u x c i h read_x = between before x c are.0 (record { turn = u; of_turns = i; sent = h; read = read_x })

      other : (u v : Turn) (x y : List ℕ) (c d : block.Signature) → Has before u → Has u.emitted x → reading x ≡ readings.Signature c → Has t.emitted y → reading y ≡ readings.Signature d → Meet c d → ⊥
      other u v x y c d i h read_x j read_y share =
          apart s.config.grouping (frontier_at start) (frontier_of (at before)) (frontier_of (at before)) (frontier_of (at (t ∷ before))) c d (old u x c i h read_x) (new y d j read_y)
          (at_most_itself (frontier_of (at before))) share

      by : ((u : Turn) → Has before u → Has u.emitted m → (v : Turn) → Has before v → Has v.emitted p → m ≡ p)
          → (u : Turn) → Has (t ∷ before) u → Has u.emitted m → (v : Turn) → Has (t ∷ before) v → Has v.emitted p → m ≡ p
      by rest u (inl e) h v (inl f) k = one_of_call s (at before) t.call t.emitted are.1 are.2 m p a b (here u m e h) (here v p f k) one.read two.read meet
      by rest u (inl e) h v (inr j) k = absurd (other v u p m b a j k two.read (here u m e h) one.read (meet_back a b meet))
      by rest u (inr i) h v (inl f) k = absurd (other u v m p a b i h one.read (here v p f k) two.read meet)
      by rest u (inr i) h v (inr j) k = rest u i h v j k
