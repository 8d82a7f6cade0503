-- A run has each number and each GBC signed once. Its blocks lie one after the other, also those of a call that is
-- refused: of such a call the first blocks are asked for, and no other call comes after it.
use Rattle.std.proofs.Common.{◌≡◌, inl, inr, ℕ, zero, suc, ◌+◌, ◌-◌, ◌<◌, ◌≤◌, Bool, true, false, List, [], ◌∷◌, ◌++◌, length, map, reverse, refl, sym, ap, ◌∙◌, subst, arith, append_assoc, append-nil}
use Rattle.std.specs.Prelude.{◌==◌, if◌then◌else◌, Option, Result, Ok, Err}
use Rattle.std.specs.List.{AllByRecursion, AllPairs, flat_map, range_with_len, enumerate_from}
use Rattle.std.proofs.lemmas.Bool.{eq-eqb}
use Rattle.std.proofs.lemmas.List.{length_push, map-append, reverse-append}
use Rattle.std.proofs.lemmas.List.Elements.{All-from_recursion}
use Rattle.std.proofs.lemmas.List.Kept.{AllPairs-cons}
use Rattle.ss_message.specs.Laws.{FaultsAreOfNoMessage}
use Rattle.ss_message.specs.Stamp.{Moment}
use Rattle.ss_frame.specs.Limits.{Allowance}
use Rattle.ss_frame.specs.Watched.{Source, Sink}
use Rattle.ss_payload.specs.declared.cuts.Cut.{Cut}
use Rattle.ss_payload.specs.Payload.{payload_text}
use Rattle.ss_block.specs.declared.hash.Hash.{Hash}
use Rattle.ss_block.specs.Block as block
use Rattle.ss_block.specs.Head.{HeadValue}
use Rattle.ss_block.specs.Hashes.{hash_of}
use Rattle.ss_origin.specs.declared.config.Config.{Config}
use Rattle.ss_origin.specs.declared.counters.Counters.{Counters}
use Rattle.ss_origin.specs.declared.grouping.Grouping.{Grouping}
use Rattle.ss_origin.specs.declared.unsigned.Unsigned.{Unsigned}
use Rattle.ss_origin.specs.Ahead.{AreAtLeast}
use Rattle.ss_origin.specs.declared.unsigned.Unsigned.TheVariants.{Signature, Certificate}
use Rattle.ss_origin.specs.AskedLaws.{Lists, texts_of}
use Rattle.ss_origin.specs.Asking.{Asking}
use Rattle.ss_origin.specs.Blocks.{unsigned_text}
use Rattle.ss_origin.specs.Calls.{Call, Begin, Submit, Flush, Run, spri_in, run_if_any, stamp_of}
use Rattle.ss_origin.specs.Chain.{Turn, calls_of}
use Rattle.ss_origin.specs.Configs.{is_config}
use Rattle.ss_origin.specs.Counting.{Start, resumed}
use Rattle.ss_origin.specs.Emission.{AreDue, block_of, certificate_of, signature_in}
use Rattle.ss_origin.specs.Sealing.{Answers}
use Rattle.ss_origin.specs.Setting.{Setting}
use Rattle.ss_origin.specs.State.{GroupState, State, state, pending_in, first_pending, runs_closed, counters_of}
use Rattle.ss_origin.specs.Step.{group_with, after}
use Rattle.ss_origin.proofs.Configs.{has_ranges}
use Rattle.ss_origin.proofs.Frontiers.{Frontier, IsAtMost, at_most_itself, at_most_both, IsBetween, widened, Meet, apart, same_spri, frontier_of, frontier_at, few_pending, from_has-enumerated, from_start, moves_on}
use Rattle.ss_origin.proofs.Numbering.{counters_tell}
use Rattle.ss_origin.proofs.Listed.{lists_what_is_due, lists_the_first_due}
use Rattle.ss_origin.proofs.RunsClosed.{all-if_full, all_flushed, runs_have_small_spris}
use Rattle.ss_origin.proofs.Steps.{states_step}
use Rattle.ss_octets.proofs.Members.{Has, all-has, from_has-map, has-append_cases, has-append_left, has-append_right}
use Rattle.ss_report.specs.declared.fault.RunFault.TheVariants as run
use Rattle.ss_signing.specs.declared.fault.SignFault.{SignFault}
use Rattle.ss_signing.specs.declared.fault.SignFault.TheVariants as faults
use Rattle.ss_signing.specs.Accepted.{all_calls, calls_for}
use Rattle.ss_signing.specs.Asked.{AskedAlong, SealsCalls, StopsCalls, StopsNext}
use Rattle.ss_signing.specs.AskedRun.{AskedRun, AskedUntil, SealsInPart}
use Rattle.ss_signing.specs.Jobs.{signing_from}
use Rattle.ss_signing.specs.Run.{Job, ReadsWhole, submitted}
use Rattle.ss_laws.specs.runs.OnceAhead.{IsPast}
use Rattle.ss_laws.specs.runs.SignedOnce.{ShareNoNumber, ShareNoGbc, RunsSignOnce}

-- ---- pairs of a list

each : {X : Type 0} (P : X → Type 0) (xs : List X) → ((x : X) → Has xs x → P x) → AllByRecursion P xs
each P [] f = tt
each P (x ∷ xs) f = (f x (inl refl), each P xs (λ y h. f y (inr h)))

-- the relation holds of each item and each later one
abbrev pub Pairs : {X : Type 0} → (X → X → Type 0) → List X → Type 0
Pairs R [] = Unit {0}
Pairs {X} R (x ∷ xs) = ((y : X) → Has xs y → R x y) × Pairs R xs

module _ {X : Type 0} (R : X → X → Type 0) where
  pub pairs_together : (xs ys : List X) → Pairs R xs → Pairs R ys → ((x : X) → Has xs x → (y : X) → Has ys y → R x y) → Pairs R (xs ++ ys)
  pairs_together [] ys p q across = q
  pairs_together (x ∷ xs) ys p q across = (
    (λ y h. elim (has-append_cases xs ys y h) [ inl l ↦ p.0 y l | inr r ↦ across x (inl refl) y r ]),
    pairs_together xs ys p.1 q (λ z h y i. across z (inr h) y i),
  )

  pairs_front : (xs ys : List X) → Pairs R (xs ++ ys) → Pairs R xs
  pairs_front [] ys p = tt
  pairs_front (x ∷ xs) ys p = ((λ y h. p.0 y (has-append_left xs ys y h)), pairs_front xs ys p.1)

  pub all_pairs : (xs : List X) → Pairs R xs → AllPairs R xs
  all_pairs [] p = λ i j d less below. absurd (omega (arith, below))
  all_pairs (x ∷ xs) p = AllPairs-cons R x xs (All-from_recursion (R x) xs (each (R x) xs p.0)) (all_pairs xs p.1)

-- ---- blocks that share nothing

abbrev pub ShareNothing : Unsigned → Unsigned → Type 0
ShareNothing u v = ShareNoNumber u v × ShareNoGbc u v

pub share_nothing : (u v : Unsigned) → ((a b : block.Signature) → u ≡ Signature a → v ≡ Signature b → Meet a b → ⊥) → ShareNothing u v
share_nothing (Signature a) (Signature b) parted = (
  (λ group number one two. parted a b refl refl
      (inr (record { group = one.own ∙ sym two.own; number = number; a_least = one.least; a_below = one.below; b_least = two.least; b_below = two.below }))),
  (λ gbc one two. parted a b refl refl (inl (one ∙ sym two))),
)
share_nothing (Signature a) (Certificate b) parted = ((λ group number one two. two), (λ gbc one two. two))
share_nothing (Certificate a) v parted = ((λ group number one two. one), (λ gbc one two. one))

-- ---- the places of runs

-- the SPRI of the runs rise
abbrev Rise : ℕ → List Run → Type 0
Rise a [] = Unit {0}
Rise a (r ∷ runs) = (a ≤ r.spri) × Rise (r.spri + 1) runs

rise_lower : (a b : ℕ) (runs : List Run) → a ≤ b → Rise b runs → Rise a runs
rise_lower a b [] below rise = tt
rise_lower a b (r ∷ runs) below rise = (omega (arith, below, rise.0), rise.1)

rise_has : (a : ℕ) (runs : List Run) (r : Run) → Rise a runs → Has runs r → a ≤ r.spri
rise_has a [] r rise h = absurd h
rise_has a (q ∷ runs) r rise (inl e) = subst (λ (x : Run). a ≤ x.spri) e rise.0
rise_has a (q ∷ runs) r rise (inr h) = let w = rise_has (q.spri + 1) runs r rise.1 h in omega (arith, w, rise.0)

rise_if_any : (a : ℕ) (hs : List Hash) (runs : List Run) → Rise (a + 1) runs → Rise a (run_if_any a hs ++ runs)
rise_if_any a [] runs rise = rise_lower a (a + 1) runs (omega arith) rise
rise_if_any a (h ∷ hs) runs rise = (omega arith, rise)

rise_flushed : (pending : ℕ → List Hash) (n a : ℕ) → Rise a (flat_map (λ spri. run_if_any spri (pending spri)) (range_with_len a n))
rise_flushed pending zero a = tt
rise_flushed pending (suc n) a = rise_if_any a (pending a) (flat_map (λ spri. run_if_any spri (pending spri)) (range_with_len (a + 1) n)) (rise_flushed pending n (a + 1))

rise_closed : (c : Config) (pending : ℕ → List Hash) (call : Call) → Rise 0 (runs_closed c pending call)
rise_closed c pending (Begin stamp) = tt
rise_closed c pending (Submit message stamp) = by (length hs == c.per_block)
  where
    hs : List Hash
    hs = pending (spri_in c.grouping message) ++ hash_of c.alg message ∷ []

    by : (b : Bool) → Rise 0 (if b then record { spri = spri_in c.grouping message; hashes = hs } ∷ [] else [])
    by true = (omega arith, tt)
    by false = tt
rise_closed c pending (Flush stamp) = rise_flushed pending 192 0

-- ---- the blocks that are due in a call

abbrev sig_or : block.Signature → Unsigned → block.Signature
sig_or other (Signature b) = b
sig_or other (Certificate b) = other

module _ (c : Config) (old : State) (fits : (spri : ℕ) → length (pending_in old spri) ≤ (old.groups spri).number) where
  gbc_after : (call : Call) → (after c old call).gbc ≡ old.gbc + length (runs_closed c (pending_in old) call)
  gbc_after (Begin stamp) = omega arith
  gbc_after (Submit message stamp) = refl
  gbc_after (Flush stamp) = refl

  abbrev Lies : Call → Run → Type 0
  Lies call r = first_pending old r.spri + length r.hashes ≤ first_pending (after c old call) r.spri

  full_lies : (g : GroupState) (h : Hash) → length g.pending ≤ g.number → length (g.pending ++ h ∷ []) ≡ c.per_block
      → g.number - length g.pending + length (g.pending ++ h ∷ []) ≤ (group_with c.per_block g h).number - length (group_with c.per_block g h).pending
  full_lies g h fit full =
      let e = length_push g.pending h in
      let is : (length g.pending + 1 == c.per_block) ≡ true = eq-eqb (length g.pending + 1) c.per_block (sym e ∙ full) in
      subst (λ b. g.number - length g.pending + length (g.pending ++ h ∷ []) ≤ g.number + 1 - length (if b then [] else g.pending ++ h ∷ [])) (sym is) (omega (arith, e, fit))

  runs_lie : (call : Call) → AllByRecursion (Lies call) (runs_closed c (pending_in old) call)
  runs_lie (Begin stamp) = tt
  runs_lie (Submit message stamp) =
      let spri = spri_in c.grouping message in
      let h = hash_of c.alg message in
      let g = old.groups spri in
      all-if_full (Lies (Submit message stamp)) c.per_block spri (pending_in old spri ++ h ∷ [])
      (λ full. subst (λ b. g.number - length g.pending + length (g.pending ++ h ∷ []) ≤ (if b then group_with c.per_block g h else g).number - length (if b then group_with c.per_block g h else g).pending)
      (sym (eq-eqb spri spri refl)) (full_lies g h (fits spri) full))
  runs_lie (Flush stamp) = all_flushed (Lies (Flush stamp)) (pending_in old) (λ spri small some. (let f = fits spri in omega (arith, f)))

-- the block is that of a run that the call closes
record IsOfRun (c : Config) (old : State) (call : Call) (b : block.Signature) : Type 0 where
  gbc : ℕ
  run : Run
  closed : Has (enumerate_from old.gbc (runs_closed c (pending_in old) call)) (gbc, run)
  block_is : signature_in c run.spri gbc (first_pending old run.spri) run.hashes ≡ b

of_blocks : (c : Config) (old : State) (call : Call) (due : List Unsigned) (b : block.Signature) → due ≡ map (block_of c old) (enumerate_from old.gbc (runs_closed c (pending_in old) call)) → Has due (Signature b) → IsOfRun c old call b
of_blocks c old call due b are h =
    let w = from_has-map (block_of c old) (enumerate_from old.gbc (runs_closed c (pending_in old) call)) (Signature b) (subst (λ l. Has l (Signature b)) are h) in
    record { gbc = w.0.0; run = w.0.1; closed = w.1; block_is = ap (sig_or b) w.2 }

abbrev is_certificate : Unsigned → Bool
is_certificate (Signature b) = false
is_certificate (Certificate b) = true

differ : true ≡ false → ⊥
differ e = cc

of_due : (s : Setting) (old : State) (call : Call) (due : List Unsigned) (b : block.Signature) → AreDue s old call due → Has due (Signature b) → IsOfRun s.config old call b
of_due s old (Begin stamp) due b are h =
    let w = from_has-map (certificate_of s.config (payload_text s.payload)) are.0 (Signature b) (subst (λ l. Has l (Signature b)) are.2 h) in
    absurd (differ (ap is_certificate w.2))
of_due s old (Submit message stamp) due b are h = of_blocks s.config old (Submit message stamp) due b are h
of_due s old (Flush stamp) due b are h = of_blocks s.config old (Flush stamp) due b are h

module _ (read : FaultsAreOfNoMessage) (c : Config) (is : is_config c ≡ true) (old : State) (fits : (spri : ℕ) → length (pending_in old spri) ≤ (old.groups spri).number) (call : Call) where
  run_between : (b : block.Signature) → IsOfRun c old call b → IsBetween c.grouping (frontier_of old) (frontier_of (after c old call)) b
  run_between b closing =
      let runs = runs_closed c (pending_in old) call in
      let entry = from_has-enumerated old.gbc runs closing.gbc closing.run closing.closed in
      let lies = all-has (Lies c old fits call) runs closing.run (runs_lie c old fits call) entry.2 in
      let behind = gbc_after c old fits call in
      let low = entry.0 in
      let high = entry.1 in
      subst (IsBetween c.grouping (frontier_of old) (frontier_of (after c old call))) closing.block_is (record {
        spri = closing.run.spri;
        small = all-has (λ (r : Run). r.spri < 192) runs closing.run (runs_have_small_spris read c (pending_in old) call (has_ranges c is).grouping) entry.2;
        group = refl;
        gbc_low = low;
        gbc_high = omega (arith, high, behind);
        first_low = omega arith;
        last_high = lies;
      })

-- no two of one call share anything: their GBC rise, and so do the SPRI of their groups
runs_apart : (c : Config) (old : State) (n a : ℕ) (runs : List Run) → Rise a runs → Pairs ShareNothing (map (block_of c old) (enumerate_from n runs))
runs_apart c old n a [] rise = tt
runs_apart c old n a (r ∷ runs) rise = (
  (λ u h. (let w = from_has-map (block_of c old) (enumerate_from (n + 1) runs) u h in
      let entry = from_has-enumerated (n + 1) runs w.0.0 w.0.1 w.1 in
      let later = entry.0 in
      let higher = rise_has (r.spri + 1) runs w.0.1 rise.1 entry.2 in
      subst (ShareNothing (block_of c old (n, r))) w.2 (
        (λ group number one two. (let same : r.spri ≡ w.0.1.spri = same_spri c.grouping r.spri w.0.1.spri (one.own ∙ sym two.own) in omega (arith, higher, same))),
        (λ gbc one two. (let same : n ≡ w.0.0 = one ∙ sym two in omega (arith, later, same))),
      ))),
  runs_apart c old (n + 1) (r.spri + 1) runs rise.1,
)

certificates_apart : (c : Config) (text : List ℕ) (cuts : List Cut) → Pairs ShareNothing (map (certificate_of c text) cuts)
certificates_apart c text [] = tt
certificates_apart c text (cut ∷ cuts) = (
  (λ u h. ((λ group number one two. one), (λ gbc one two. one))),
  certificates_apart c text cuts,
)

due_apart : (s : Setting) (old : State) (call : Call) (due : List Unsigned) → AreDue s old call due → Pairs ShareNothing due
due_apart s old (Begin stamp) due are = subst (Pairs ShareNothing) (sym are.2) (certificates_apart s.config (payload_text s.payload) are.0)
due_apart s old (Submit message stamp) due are =
    subst (Pairs ShareNothing) (sym are)
    (runs_apart s.config old old.gbc 0 (runs_closed s.config (pending_in old) (Submit message stamp)) (rise_closed s.config (pending_in old) (Submit message stamp)))
due_apart s old (Flush stamp) due are =
    subst (Pairs ShareNothing) (sym are)
    (runs_apart s.config old old.gbc 0 (runs_closed s.config (pending_in old) (Flush stamp)) (rise_closed s.config (pending_in old) (Flush stamp)))

-- ---- the stamp of the calls

has_reverse : {X : Type 0} (xs : List X) (x : X) → Has (reverse xs) x → Has xs x
has_reverse [] x h = absurd h
has_reverse (y ∷ ys) x h = elim (has-append_cases (reverse ys) (y ∷ []) x (subst (λ zs. Has zs x) (reverse-append (y ∷ []) ys) h)) [
  | inl later ↦ inr (has_reverse ys x later)
  | inr last ↦ (elim last [ inl e ↦ inl e | inr none ↦ absurd none ])
]

stamped : (start : Start) (stamp : Option Moment) (messages : List (List ℕ)) (call : Call) → Has (all_calls start stamp messages) call → stamp_of call ≡ stamp
stamped start stamp messages call h = elim (has-append_cases (calls_for start stamp messages) (Flush stamp ∷ []) call h) [
  | inl before ↦ by start.begun before
  | inr last ↦ (elim last [ inl e ↦ sym (ap stamp_of e) | inr none ↦ absurd none ])
]
  where
    submits : List Call
    submits = map (λ (m : List ℕ). Submit m stamp) messages

    of_submit : Has submits call → stamp_of call ≡ stamp
    of_submit i = let w = from_has-map (λ (m : List ℕ). Submit m stamp) messages call i in sym (ap stamp_of w.2)

    by : (b : Bool) → Has (if b then submits else Begin stamp ∷ submits) call → stamp_of call ≡ stamp
    by true i = of_submit i
    by false (inl e) = sym (ap stamp_of e)
    by false (inr i) = of_submit i

-- ---- the blocks of a run, call by call

module _ {J : Type 0} (read : FaultsAreOfNoMessage) (s : Setting) (is : is_config s.config ≡ true) (start : Start) (stamp : Option Moment) (asked : Asking J) (list : J → List (List ℕ)) (lists : Lists asked list) (first : J) where
  -- these blocks were asked for, up to this state
  record UpTo (high : Frontier) (last : J) : Type 0 where
    blocks : List Unsigned
    listed : list last ≡ list first ++ map (unsigned_text s.config.head stamp) blocks
    reach : IsAtMost (frontier_at start) high
    between : (b : block.Signature) → Has blocks (Signature b) → IsBetween s.config.grouping (frontier_at start) high b
    parts : Pairs ShareNothing blocks

  abbrev at : List Call → State
  at calls = state s.config start calls

  -- in one call more the first of the blocks that are due are asked for
  one_more : (calls : List Call) (call : Call) (mid last : J) (due front behind : List Unsigned) → UpTo (frontier_of (at calls)) mid
      → AreDue s (at calls) call due → due ≡ front ++ behind → list last ≡ list mid ++ texts_of s call front → stamp_of call ≡ stamp
      → UpTo (frontier_of (at (call ∷ calls))) last
  one_more calls call mid last due front behind so_far are split more same =
      let old = at calls in
      let fits = few_pending s.config start calls in
      let texts : List Unsigned → List (List ℕ) = map (unsigned_text s.config.head stamp) in
      let next : after s.config old call ≡ at (call ∷ calls) = sym (states_step s.config start calls call (has_ranges s.config is).some) in
      let on : IsAtMost (frontier_of old) (frontier_of (at (call ∷ calls))) = subst (λ x. IsAtMost (frontier_of old) (frontier_of x)) next (moves_on s.config old fits call) in
      let closes : (b : block.Signature) → Has front (Signature b) → IsOfRun s.config old call b
      = λ b h. of_due s old call due b are (subst (λ l. Has l (Signature b)) (sym split) (has-append_left front behind (Signature b) h)) in
      let new : (b : block.Signature) → Has front (Signature b) → IsBetween s.config.grouping (frontier_of old) (frontier_of (at (call ∷ calls))) b
      = λ b h. subst (λ x. IsBetween s.config.grouping (frontier_of old) (frontier_of x) b) next (run_between read s.config is old fits call b (closes b h)) in
      let part : (a b : block.Signature) → Has so_far.blocks (Signature a) → Has front (Signature b) → Meet a b → ⊥
      = λ a b h i meet. apart s.config.grouping (frontier_at start) (frontier_of old) (frontier_of old) (frontier_of (at (call ∷ calls))) a b (so_far.between a h) (new b i) (at_most_itself (frontier_of old)) meet in
      record {
        blocks = so_far.blocks ++ front;
        listed = more
            ∙ ap (λ k. list mid ++ map (unsigned_text s.config.head k) front) same
            ∙ ap (λ xs. xs ++ texts front) so_far.listed
            ∙ append_assoc (list first) (texts so_far.blocks) (texts front)
            ∙ ap (λ xs. list first ++ xs) (sym (map-append (unsigned_text s.config.head stamp) so_far.blocks front));
        reach = at_most_both (frontier_at start) (frontier_of old) (frontier_of (at (call ∷ calls))) so_far.reach on;
        between = λ b h. elim (has-append_cases so_far.blocks front (Signature b) h) [
          | inl earlier ↦ widened s.config.grouping (frontier_at start) (frontier_at start) (frontier_of old) (frontier_of (at (call ∷ calls))) b (at_most_itself (frontier_at start)) on (so_far.between b earlier)
          | inr here ↦ widened s.config.grouping (frontier_of old) (frontier_at start) (frontier_of (at (call ∷ calls))) (frontier_of (at (call ∷ calls))) b so_far.reach (at_most_itself (frontier_of (at (call ∷ calls)))) (new b here)
        ];
        parts = pairs_together ShareNothing so_far.blocks front so_far.parts
            (pairs_front ShareNothing front behind (subst (Pairs ShareNothing) split (due_apart s old call due are)))
            (λ u h v i. share_nothing u v (λ a b u_is v_is meet. part a b (subst (Has so_far.blocks) u_is h) (subst (Has front) v_is i) meet));
      }

  none_yet : (last : J) → last ≡ first → UpTo (frontier_of (at [])) last
  none_yet last same = record {
    blocks = [];
    listed = ap list same ∙ sym (append-nil (list first));
    reach = from_start read s is start [];
    between = λ b h. absurd h;
    parts = tt;
  }

  along : (turns : List Turn) (last : J) → ((call : Call) → Has (calls_of turns) call → stamp_of call ≡ stamp) → AskedAlong s start asked first turns last → UpTo (frontier_of (at (calls_of turns))) last
  along [] last stamps same = none_yet last same
  along (t ∷ before) last stamps asks =
      let told = lists_what_is_due asked list lists s (at (calls_of before)) t.call t.emitted asks.0 last asks.2 in
      one_more (calls_of before) t.call asks.0 last told.0 told.0 [] (along before asks.0 (λ call h. stamps call (inr h)) asks.1) told.1 (sym (append-nil told.0)) told.2 (stamps t.call (inl refl))

  module _ (messages : List (List ℕ)) where
    abbrev all : List Call
    all = all_calls start stamp messages

    -- the first of the calls for these messages were accepted or refused, and this was asked for in them
    record Found (last : J) : Type 0 where
      front : List Call
      behind : List Call
      calls_are : all ≡ front ++ behind
      up_to : UpTo (frontier_of (at (reverse front))) last

    of_calls : (calls behind : List Call) (emitted : List (List ℕ)) (last : J) → all ≡ calls ++ behind → (seals : SealsCalls s start asked calls emitted first last) → UpTo (frontier_of (at (reverse calls))) last
    of_calls calls behind emitted last are seals =
        subst (λ cs. UpTo (frontier_of (at cs)) last) seals.accepted.calls_are
        (along seals.accepted.turns last
        (λ call h. stamped start stamp messages call (subst (λ cs. Has cs call) (sym are) (has-append_left calls behind call (has_reverse calls call (subst (λ cs. Has cs call) seals.accepted.calls_are h)))))
        seals.asked_along)

    of_next : (accepted behind : List Call) (old last : J) → all ≡ accepted ++ behind → UpTo (frontier_of (at (reverse accepted))) old → StopsNext s start asked accepted behind old last → Found last
    of_next accepted [] old last are up same = record { front = accepted; behind = []; calls_are = are; up_to = subst (UpTo (frontier_of (at (reverse accepted)))) (sym same) up }
    of_next accepted (call ∷ behind) old last are up (inl same) = record { front = accepted; behind = call ∷ behind; calls_are = are; up_to = subst (UpTo (frontier_of (at (reverse accepted)))) (sym same) up }
    of_next accepted (call ∷ behind) old last are up (inr stops) =
        let told = lists_the_first_due asked list lists s (at (reverse accepted)) call stops.0 old last stops.1 in
        let same = stamped start stamp messages call (subst (λ cs. Has cs call) (sym are) (has-append_right accepted (call ∷ behind) call (inl refl))) in
        record {
          front = accepted ++ call ∷ [];
          behind = behind;
          calls_are = are ∙ sym (append_assoc accepted (call ∷ []) behind);
          up_to = subst (λ cs. UpTo (frontier_of (at cs)) last) (sym (reverse-append accepted (call ∷ [])))
              (one_more (reverse accepted) call old last (told.0 ++ told.1) told.0 told.1 up told.2 refl told.3 same);
        }

    whole : (emitted : List (List ℕ)) (last : J) → SealsCalls s start asked all emitted first last → Found last
    whole emitted last seals = record { front = all; behind = []; calls_are = sym (append-nil all); up_to = of_calls all [] emitted last (sym (append-nil all)) seals }

    in_part : (last : J) → StopsCalls s start asked all first last → Found last
    in_part last stops =
        of_next stops.accepted stops.behind stops.sealer last stops.calls_are (of_calls stops.accepted stops.behind stops.emitted stops.sealer stops.calls_are stops.seals) stops.stops

  -- ---- where the next run may begin

  later_calls : (later calls : List Call) → IsAtMost (frontier_of (at calls)) (frontier_of (at (later ++ calls)))
  later_calls [] calls = at_most_itself (frontier_of (at calls))
  later_calls (call ∷ later) calls =
      at_most_both (frontier_of (at calls)) (frontier_of (at (later ++ calls))) (frontier_of (at (call ∷ (later ++ calls)))) (later_calls later calls)
      (subst (λ x. IsAtMost (frontier_of (at (later ++ calls))) (frontier_of x)) (sym (states_step s.config start (later ++ calls) call (has_ranges s.config is).some))
      (moves_on s.config (at (later ++ calls)) (few_pending s.config start (later ++ calls)) call))

  front_calls : (calls front behind : List Call) → calls ≡ front ++ behind → IsAtMost (frontier_of (at (reverse front))) (frontier_of (at (reverse calls)))
  front_calls calls front behind are =
      subst (λ cs. IsAtMost (frontier_of (at (reverse front))) (frontier_of (at cs))) (sym (ap reverse are ∙ reverse-append front behind)) (later_calls (reverse behind) (reverse front))

  -- the counters of a state lie behind all that were signed up to it
  behind_state : (calls : List Call) (k : Counters) → AreAtLeast (counters_of (at calls)) k → IsAtMost (frontier_of (at calls)) (frontier_at (resumed k))
  behind_state calls k least = record {
    gbc = least.gbc;
    first = λ spri small. (let told = counters_tell s.config start calls spri small in let most = least.numbers spri small in omega (arith, told, most));
  }

-- ---- a run

-- what was asked for in a run, and where it lies
pub record Asked {J : Type 0} (grouping : Grouping) (h : HeadValue) (start : Start) (stamp : Option Moment) (list : J → List (List ℕ)) (first last : J) (Past : Counters → Type 0) : Type 0 where
  pub blocks : List Unsigned
  pub listed : list last ≡ list first ++ map (unsigned_text h stamp) blocks
  pub parts : Pairs ShareNothing blocks
  pub high : Frontier
  pub reach : IsAtMost (frontier_at start) high
  pub between : (b : block.Signature) → Has blocks (Signature b) → IsBetween grouping (frontier_at start) high b
  pub past : (k : Counters) → Past k → IsAtMost high (frontier_at (resumed k))

module _ {J : Type 0} (read : FaultsAreOfNoMessage) (asked : Asking J) (list : J → List (List ℕ)) (lists : Lists asked list) (job : Job) (limits : Allowance) (before after : Source) (was is : Sink) (first last : J) where
  abbrev Past : Counters → Type 0
  Past k = IsPast job limits before after k

  abbrev Once : Type 0
  Once = Asked job.setting.config.grouping job.setting.config.head job.start job.stamp list first last Past

  nothing : last ≡ first → Once
  nothing same = record {
    blocks = [];
    listed = ap list same ∙ sym (append-nil (list first));
    parts = tt;
    high = frontier_at job.start;
    reach = at_most_itself (frontier_at job.start);
    between = λ b h. absurd h;
    past = λ k p. record { gbc = p.from_start.gbc; first = p.from_start.numbers };
  }

  found : (fits : is_config job.setting.config ≡ true) (messages : List (List ℕ)) → ReadsWhole limits before after messages
      → Found read job.setting fits job.start job.stamp asked list lists first (submitted job messages) last → Once
  found fits messages whole_log f = record {
    blocks = f.up_to.blocks;
    listed = f.up_to.listed;
    parts = f.up_to.parts;
    high = frontier_of (state job.setting.config job.start (reverse f.front));
    reach = f.up_to.reach;
    between = f.up_to.between;
    past = λ k p. (let calls = all_calls job.start job.stamp (submitted job messages) in
        at_most_both (frontier_of (state job.setting.config job.start (reverse f.front))) (frontier_of (state job.setting.config job.start (reverse calls))) (frontier_at (resumed k))
        (front_calls read job.setting fits job.start job.stamp asked list lists first calls f.front f.behind f.calls_are)
        (behind_state read job.setting fits job.start job.stamp asked list lists first (reverse calls) k (p.from_log messages whole_log)));
  }

  part : SealsInPart job asked limits before after first last → Once
  part h =
      let fits = h.stops.seals.accepted.setting.fit.config in
      found fits h.messages h.read (in_part read job.setting fits job.start job.stamp asked list lists first (submitted job h.messages) last h.stops)

  failed : (fault : SignFault) → AskedUntil job asked limits before after fault first last → Once
  failed (faults.Run (run.Frame fault)) h = nothing h
  failed (faults.Run (run.Review fault)) h = nothing h
  failed (faults.Run (run.Extract fault)) h = nothing h
  failed (faults.Run run.Write) h = part h
  failed (faults.Run run.Memory) (inl same) = nothing same
  failed (faults.Run run.Memory) (inr h) = part h
  failed (faults.TornInput pos) h = nothing h
  failed (faults.LongWrap place) h = nothing h
  failed (faults.Origin fault place) (inl unmade) = nothing unmade.same
  failed (faults.Origin fault place) (inr h) = part h.1

  pub asked_in : {X : Type 0} (result : Result X SignFault) → AskedRun job asked limits before after was is first last result → Once
  asked_in (Ok x) h =
      let fits = h.seals.accepted.setting.fit.config in
      found fits h.messages h.read (whole read job.setting fits job.start job.stamp asked list lists first (submitted job h.messages) h.emitted last h.seals)
  asked_in (Err fault) h = failed fault h

-- ---- the law

pub runs_sign_once : {J : Type 0} (answers : J → Answers) (asked : Asking J) → FaultsAreOfNoMessage → RunsSignOnce answers asked
runs_sign_once answers asked read list lists start s stamp wraps out limits before after was is first last result h =
    let o = asked_in read asked list lists (signing_from start s (answers first) stamp wraps out) limits before after was is first last result h in (
      map (unsigned_text s.config.head stamp) o.blocks,
      o.listed,
      record {
        blocks = o.blocks;
        octets_are = refl;
        each_number_once = λ i j d less below. (all_pairs ShareNothing o.blocks o.parts i j d less below).0;
        each_gbc_once = λ i j d less below. (all_pairs ShareNothing o.blocks o.parts i j d less below).1;
      },
    )
