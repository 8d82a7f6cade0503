-- The messages of a group fall into its runs, except those that are pending.
use Rattle.std.proofs.Common.{◌≡◌, inl, inr, ℕ, zero, suc, ◌+◌, ◌-◌, ◌%◌, ◌<◌, ◌≤◌, Bool, true, false, List, [], ◌∷◌, ◌++◌, length, map, filter, refl, sym, ap, ◌∙◌, subst, arith, append-nil, append_assoc, length-append}
use Rattle.std.specs.Prelude.{Option, ◌==◌, if◌then◌else◌}
use Rattle.std.specs.List.{Contains, flat_map, range_with_len}
use Rattle.std.proofs.lemmas.Bool.{eq-eqb, ne_eqb, eqb-true, cases_eq, cases_lt}
use Rattle.std.proofs.lemmas.List.{length-map, length_push, map_push, drop_all}
use Rattle.std.proofs.lemmas.List.Concat.{flat_map-append}
use Rattle.std.proofs.lemmas.List.Elements.{Contains-append_left, Contains-append_right}
use Rattle.ss_message.specs.Stamp.{Moment}
use Rattle.ss_block.specs.declared.hash.Hash.{Hash}
use Rattle.ss_block.specs.Hashes.{hash_of}
use Rattle.ss_origin.specs.declared.config.Config.{Config}
use Rattle.ss_origin.specs.Calls.{Call, Begin, Submit, Flush, Run, spri_in, if_in, messages_of, messages_since_flush, left_over, pending_of, pending_hashes, run_if_any, run_if_full}
use Rattle.ss_origin.specs.CoverLaws.{runs_of, MessagesFallIntoRuns, IsInRun, OthersAreInRuns}
use Rattle.ss_origin.proofs.Runs.{left_over-full, left_over-push}
use Rattle.ss_origin.proofs.RunsClosed.{own_message, in_blocks, split_at_pending}

-- ---- the run of a group at a flush

module _ (pending : ℕ → List Hash) where
  abbrev flushed : ℕ → ℕ → List Run
  flushed a n = flat_map (λ spri. run_if_any spri (pending spri)) (range_with_len a n)

  abbrev of_group : ℕ → List Run → List Run
  of_group spri runs = filter (λ r. r.spri == spri) runs

  other_run : (hs : List Hash) (a spri : ℕ) (rest : List Run) → (a ≡ spri → ⊥) → of_group spri (run_if_any a hs ++ rest) ≡ of_group spri rest
  other_run [] a spri rest ne = refl
  other_run (h ∷ hs) a spri rest ne =
      ap (λ b. if b then record { spri = a; hashes = h ∷ hs } ∷ of_group spri rest else of_group spri rest) (ne_eqb a spri ne)

  own_run : (hs : List Hash) (spri : ℕ) (rest : List Run) → of_group spri rest ≡ [] → of_group spri (run_if_any spri hs ++ rest) ≡ run_if_any spri hs
  own_run [] spri rest e = e
  own_run (h ∷ hs) spri rest e =
      ap (λ b. if b then record { spri = spri; hashes = h ∷ hs } ∷ of_group spri rest else of_group spri rest) (eq-eqb spri spri refl)
      ∙ ap (λ runs. record { spri = spri; hashes = h ∷ hs } ∷ runs) e

  none_flushed : (n a spri : ℕ) → spri < a → of_group spri (flushed a n) ≡ []
  none_flushed zero a spri below = refl
  none_flushed (suc n) a spri below = other_run (pending a) a spri (flushed (a + 1) n) (λ e. omega arith) ∙ none_flushed n (a + 1) spri (omega arith)

  run_flushed : (n a spri : ℕ) → a ≤ spri → spri < a + n → of_group spri (flushed a n) ≡ run_if_any spri (pending spri)
  run_flushed zero a spri least below = absurd (omega arith)
  run_flushed (suc n) a spri least below = elim (cases_eq a spri) [
    | inl e ↦
        subst (λ b. of_group spri (flushed b (suc n)) ≡ run_if_any spri (pending spri)) (sym e)
        (own_run (pending spri) spri (flushed (spri + 1) n) (none_flushed n (spri + 1) spri (omega arith)))
    | inr ne ↦ other_run (pending a) a spri (flushed (a + 1) n) ne ∙ run_flushed n (a + 1) spri (omega arith) (omega arith)
  ]

hashes_if_any : (spri : ℕ) (hs : List Hash) → flat_map (λ (r : Run). r.hashes) (run_if_any spri hs) ≡ hs
hashes_if_any spri [] = refl
hashes_if_any spri (h ∷ hs) = append-nil (h ∷ hs)

-- ---- messages after a call

module _ (c : Config) (calls : List Call) where
  -- a group that the message isn't in
  pending-other : (message : List ℕ) (stamp : Option Moment) (spri : ℕ) → if_in c.grouping spri message ≡ [] → pending_of c spri (Submit message stamp ∷ calls) ≡ pending_of c spri calls
  unfolding pending_of
  pending-other message stamp spri e =
      ap (left_over c.per_block) (ap (λ ms. messages_since_flush c.grouping spri calls ++ ms) e ∙ append-nil (messages_since_flush c.grouping spri calls))

  pending-full : (message : List ℕ) (stamp : Option Moment) → let spri = spri_in c.grouping message in
      length (pending_of c spri calls) + 1 ≡ c.per_block → pending_of c spri (Submit message stamp ∷ calls) ≡ []
  unfolding pending_of
  pending-full message stamp e =
      ap (λ ms. left_over c.per_block (messages_since_flush c.grouping (spri_in c.grouping message) calls ++ ms)) (own_message c.grouping message)
      ∙ left_over-full c.per_block (messages_since_flush c.grouping (spri_in c.grouping message) calls) message e

  pending-push : (message : List ℕ) (stamp : Option Moment) → let spri = spri_in c.grouping message in
      1 ≤ c.per_block → (length (pending_of c spri calls) + 1 ≡ c.per_block → ⊥) → pending_of c spri (Submit message stamp ∷ calls) ≡ pending_of c spri calls ++ message ∷ []
  unfolding pending_of
  pending-push message stamp some ne =
      ap (λ ms. left_over c.per_block (messages_since_flush c.grouping (spri_in c.grouping message) calls ++ ms)) (own_message c.grouping message)
      ∙ left_over-push c.per_block (messages_since_flush c.grouping (spri_in c.grouping message) calls) message some ne

  pending-flushed : (stamp : Option Moment) (spri : ℕ) → pending_of c spri (Flush stamp ∷ calls) ≡ []
  unfolding pending_of
  pending-flushed stamp spri = drop_all (0 - 0 % c.per_block) [] (omega arith)

  pending-begun : (stamp : Option Moment) (spri : ℕ) → pending_of c spri (Begin stamp ∷ calls) ≡ pending_of c spri calls
  unfolding pending_of
  pending-begun stamp spri = refl

  abbrev messages : ℕ → List (List ℕ)
  messages spri = messages_of c.grouping spri calls

  messages-other : (message : List ℕ) (spri : ℕ) → if_in c.grouping spri message ≡ [] → messages spri ++ if_in c.grouping spri message ≡ messages spri
  messages-other message spri e = ap (λ ms. messages spri ++ ms) e ∙ append-nil (messages spri)

-- ---- a message in a run

extend : (c : Config) (calls : List Call) (call : Call) (spri j : ℕ) → IsInRun c calls spri j → IsInRun c (call ∷ calls) spri j
extend c calls call spri j is = record {
  later = call ∷ is.later;
  call = is.call;
  earlier = is.earlier;
  calls_are = ap (λ l. call ∷ l) is.calls_are;
  run = is.run;
  closed = is.closed;
  group = is.group;
  front = is.front;
  before = is.before;
  low = is.low;
  high = is.high;
}

contains-flat_map : {X : Type 0} (f : ℕ → List X) (x : X) (n a spri : ℕ) → a ≤ spri → spri < a + n → Contains (f spri) x → Contains (flat_map f (range_with_len a n)) x
contains-flat_map f x zero a spri least below has = absurd (omega arith)
contains-flat_map f x (suc n) a spri least below has = elim (cases_eq a spri) [
  | inl e ↦ Contains-append_left (f a) (flat_map f (range_with_len (a + 1) n)) x (subst (λ k. Contains (f k) x) (sym e) has)
  | inr ne ↦ Contains-append_right (f a) (flat_map f (range_with_len (a + 1) n)) x (contains-flat_map f x n (a + 1) spri (omega arith) (omega arith) has)
]

contains-if_any : (spri : ℕ) (hs : List Hash) → 1 ≤ length hs → Contains (run_if_any spri hs) (record { spri = spri; hashes = hs })
contains-if_any spri [] some = absurd (omega arith)
contains-if_any spri (h ∷ hs) some = (0, omega arith, refl)

contains-if_full : (size spri : ℕ) (hs : List Hash) → length hs ≡ size → Contains (run_if_full size spri hs) (record { spri = spri; hashes = hs })
contains-if_full size spri hs e =
    let run : Run = record { spri = spri; hashes = hs } in
    subst (λ b. Contains (if b then run ∷ [] else []) run) (sym (eq-eqb (length hs) size e)) (0, omega arith, refl)

pub front_length : (c : Config) (spri : ℕ) (calls : List Call) → length (in_blocks c spri calls) + length (pending_of c spri calls) ≡ length (messages_of c.grouping spri calls)
front_length c spri calls = sym (ap length (split_at_pending c spri calls) ∙ length-append (in_blocks c spri calls) (pending_of c spri calls))

module _ (c : Config) (calls : List Call) (j : ℕ) where
  in_flushed : (stamp : Option Moment) (spri : ℕ) → spri < 192 → length (messages_of c.grouping spri calls) ≤ j + length (pending_of c spri calls) → j < length (messages_of c.grouping spri calls) → IsInRun c (Flush stamp ∷ calls) spri j
  in_flushed stamp spri small low high =
      let front = front_length c spri calls in
      let same = length-map (pending_of c spri calls) (hash_of c.alg) in
      record {
        later = [];
        call = Flush stamp;
        earlier = calls;
        calls_are = refl;
        run = record { spri = spri; hashes = pending_hashes c calls spri };
        closed =
            contains-flat_map (λ k. run_if_any k (pending_hashes c calls k)) (record { spri = spri; hashes = pending_hashes c calls spri }) 192 0 spri (omega arith) (omega arith)
            (contains-if_any spri (pending_hashes c calls spri) (omega (arith, same)));
        group = refl;
        front = length (in_blocks c spri calls);
        before = front;
        low = omega (arith, front);
        high = omega (arith, front, same);
      }

  in_full : (message : List ℕ) (stamp : Option Moment) → let spri = spri_in c.grouping message in
      length (pending_of c spri calls) + 1 ≡ c.per_block → length (messages_of c.grouping spri calls) ≤ j + length (pending_of c spri calls) → j < length (messages_of c.grouping spri calls) + 1
      → IsInRun c (Submit message stamp ∷ calls) spri j
  in_full message stamp full low high =
      let spri = spri_in c.grouping message in
      let hs = pending_hashes c calls spri ++ hash_of c.alg message ∷ [] in
      let front = front_length c spri calls in
      let same : length hs ≡ length (pending_of c spri calls) + 1
      = length_push (pending_hashes c calls spri) (hash_of c.alg message) ∙ ap (λ n. n + 1) (length-map (pending_of c spri calls) (hash_of c.alg)) in
      record {
        later = [];
        call = Submit message stamp;
        earlier = calls;
        calls_are = refl;
        run = record { spri = spri; hashes = hs };
        closed = contains-if_full c.per_block spri hs (same ∙ full);
        group = refl;
        front = length (in_blocks c spri calls);
        before = front;
        low = omega (arith, front);
        high = omega (arith, front, same);
      }

  in_own : (message : List ℕ) (stamp : Option Moment) → let spri = spri_in c.grouping message in
      1 ≤ c.per_block → length (messages_of c.grouping spri calls) ≤ j + length (pending_of c spri calls)
      → j + length (pending_of c spri (Submit message stamp ∷ calls)) < length (messages_of c.grouping spri (Submit message stamp ∷ calls)) → IsInRun c (Submit message stamp ∷ calls) spri j
  in_own message stamp some low high =
      let spri = spri_in c.grouping message in
      let longer : length (messages_of c.grouping spri calls ++ if_in c.grouping spri message) ≡ length (messages_of c.grouping spri calls) + 1
      = ap (λ ms. length (messages_of c.grouping spri calls ++ ms)) (own_message c.grouping message) ∙ length_push (messages_of c.grouping spri calls) message in
      elim (cases_eq (length (pending_of c spri calls) + 1) c.per_block) [
        | inl full ↦ in_full message stamp full low (omega (arith, longer, high))
        | inr ne ↦
            (let more : length (pending_of c spri (Submit message stamp ∷ calls)) ≡ length (pending_of c spri calls) + 1
            = ap length (pending-push c calls message stamp some ne) ∙ length_push (pending_of c spri calls) message in
            absurd (omega (arith, longer, high, more, low)))
      ]

  in_submitted : (message : List ℕ) (stamp : Option Moment) (spri : ℕ) → 1 ≤ c.per_block → length (messages_of c.grouping spri calls) ≤ j + length (pending_of c spri calls)
      → j + length (pending_of c spri (Submit message stamp ∷ calls)) < length (messages_of c.grouping spri (Submit message stamp ∷ calls)) → IsInRun c (Submit message stamp ∷ calls) spri j
  in_submitted message stamp spri some low high = by (spri_in c.grouping message == spri) refl
    where
      by : (b : Bool) → (spri_in c.grouping message == spri) ≡ b → IsInRun c (Submit message stamp ∷ calls) spri j
      by true e =
          subst
          (λ k. length (messages_of c.grouping k calls) ≤ j + length (pending_of c k calls)
          → j + length (pending_of c k (Submit message stamp ∷ calls)) < length (messages_of c.grouping k (Submit message stamp ∷ calls)) → IsInRun c (Submit message stamp ∷ calls) k j)
          (eqb-true (spri_in c.grouping message) spri e) (in_own message stamp some) low high
      by false e =
          let none : if_in c.grouping spri message ≡ [] = ap (λ b. if b then message ∷ [] else []) e in
          let same = ap length (messages-other c calls message spri none) in
          let pending = ap length (pending-other c calls message stamp spri none) in
          absurd (omega (arith, low, high, same, pending))

pub others_are_in_runs : OthersAreInRuns
others_are_in_runs c [] spri j some small high = absurd (omega arith)
others_are_in_runs c (Begin stamp ∷ calls) spri j some small high =
    let pending = ap length (pending-begun c calls stamp spri) in
    extend c calls (Begin stamp) spri j (others_are_in_runs c calls spri j some small (omega (arith, pending, high)))
others_are_in_runs c (Submit message stamp ∷ calls) spri j some small high =
    elim (cases_lt (j + length (pending_of c spri calls)) (length (messages_of c.grouping spri calls))) [
      | inl l ↦ extend c calls (Submit message stamp) spri j (others_are_in_runs c calls spri j some small l)
      | inr low ↦ in_submitted c calls j message stamp spri some low high
    ]
others_are_in_runs c (Flush stamp ∷ calls) spri j some small high =
    elim (cases_lt (j + length (pending_of c spri calls)) (length (messages_of c.grouping spri calls))) [
      | inl l ↦ extend c calls (Flush stamp) spri j (others_are_in_runs c calls spri j some small l)
      | inr low ↦ in_flushed c calls j stamp spri small low (omega (arith, high))
    ]

-- ---- all runs of a group

abbrev hashes_in : List Run → List Hash
hashes_in runs = flat_map (λ (r : Run). r.hashes) runs

no_run : (size own spri : ℕ) (hs : List Hash) → (own == spri) ≡ false → filter (λ (r : Run). r.spri == spri) (run_if_full size own hs) ≡ []
no_run size own spri hs e = by (length hs == size)
  where
    by : (b : Bool) → filter (λ (r : Run). r.spri == spri) (if b then record { spri = own; hashes = hs } ∷ [] else []) ≡ []
    by true = ap (λ b. if b then record { spri = own; hashes = hs } ∷ [] else []) e
    by false = refl

full_run : (size spri : ℕ) (hs : List Hash) → length hs ≡ size → filter (λ (r : Run). r.spri == spri) (run_if_full size spri hs) ≡ record { spri = spri; hashes = hs } ∷ []
full_run size spri hs e =
    ap (λ b. filter (λ (r : Run). r.spri == spri) (if b then record { spri = spri; hashes = hs } ∷ [] else [])) (eq-eqb (length hs) size e)
    ∙ ap (λ b. if b then record { spri = spri; hashes = hs } ∷ [] else []) (eq-eqb spri spri refl)

no_full_run : (size spri : ℕ) (hs : List Hash) → (length hs ≡ size → ⊥) → filter (λ (r : Run). r.spri == spri) (run_if_full size spri hs) ≡ []
no_full_run size spri hs ne = ap (λ b. filter (λ (r : Run). r.spri == spri) (if b then record { spri = spri; hashes = hs } ∷ [] else [])) (ne_eqb (length hs) size ne)

pending-none : (c : Config) (spri : ℕ) → pending_of c spri [] ≡ []
unfolding pending_of
pending-none c spri = drop_all (0 - 0 % c.per_block) [] (omega arith)

module _ (c : Config) (calls : List Call) where
  abbrev Fall : List Call → ℕ → Type 0
  Fall all spri = map (hash_of c.alg) (messages_of c.grouping spri all) ≡ hashes_in (runs_of c spri all) ++ pending_hashes c all spri

  fall_begun : (stamp : Option Moment) (spri : ℕ) → Fall calls spri → Fall (Begin stamp ∷ calls) spri
  fall_begun stamp spri fall =
      fall ∙ (λ i. hashes_in (sym (append-nil (runs_of c spri calls)) i) ++ map (hash_of c.alg) (sym (pending-begun c calls stamp spri) i))

  fall_flushed : (stamp : Option Moment) (spri : ℕ) → spri < 192 → Fall calls spri → Fall (Flush stamp ∷ calls) spri
  fall_flushed stamp spri small fall =
      let pending = pending_hashes c calls in
      let closed = of_group pending spri (flushed pending 0 192) in
      let all : pending spri ≡ hashes_in closed
      = sym (hashes_if_any spri (pending spri)) ∙ ap hashes_in (sym (run_flushed pending 192 0 spri (omega arith) (omega arith))) in
      fall
      ∙ ap (λ hs. hashes_in (runs_of c spri calls) ++ hs) all
      ∙ sym (flat_map-append (λ (r : Run). r.hashes) (runs_of c spri calls) closed)
      ∙ sym (append-nil (hashes_in (runs_of c spri calls ++ closed)))
      ∙ ap (λ ms. hashes_in (runs_of c spri calls ++ closed) ++ map (hash_of c.alg) ms) (sym (pending-flushed c calls stamp spri))

  fall_other : (message : List ℕ) (stamp : Option Moment) (spri : ℕ) → (spri_in c.grouping message == spri) ≡ false → Fall calls spri → Fall (Submit message stamp ∷ calls) spri
  fall_other message stamp spri e fall =
      let none : if_in c.grouping spri message ≡ [] = ap (λ b. if b then message ∷ [] else []) e in
      let own = spri_in c.grouping message in
      let closed = no_run c.per_block own spri (pending_hashes c calls own ++ hash_of c.alg message ∷ []) e in
      ap (map (hash_of c.alg)) (messages-other c calls message spri none)
      ∙ fall
      ∙ ap (λ runs. hashes_in runs ++ pending_hashes c calls spri) (sym (append-nil (runs_of c spri calls)) ∙ ap (λ runs. runs_of c spri calls ++ runs) (sym closed))
      ∙ ap (λ ms. hashes_in (runs_of c spri (Submit message stamp ∷ calls)) ++ map (hash_of c.alg) ms) (sym (pending-other c calls message stamp spri none))

  -- the hashes of a group with those of a message more
  hashes_more : (message : List ℕ) (stamp : Option Moment) → let spri = spri_in c.grouping message in
      Fall calls spri → map (hash_of c.alg) (messages_of c.grouping spri (Submit message stamp ∷ calls)) ≡ hashes_in (runs_of c spri calls) ++ (pending_hashes c calls spri ++ hash_of c.alg message ∷ [])
  hashes_more message stamp fall =
      let spri = spri_in c.grouping message in
      ap (λ ms. map (hash_of c.alg) (messages_of c.grouping spri calls ++ ms)) (own_message c.grouping message)
      ∙ map_push (hash_of c.alg) (messages_of c.grouping spri calls) message
      ∙ ap (λ hs. hs ++ hash_of c.alg message ∷ []) fall
      ∙ append_assoc (hashes_in (runs_of c spri calls)) (pending_hashes c calls spri) (hash_of c.alg message ∷ [])

  fall_full : (message : List ℕ) (stamp : Option Moment) → let spri = spri_in c.grouping message in
      length (pending_of c spri calls) + 1 ≡ c.per_block → Fall calls spri → Fall (Submit message stamp ∷ calls) spri
  fall_full message stamp full fall =
      let spri = spri_in c.grouping message in
      let hs = pending_hashes c calls spri ++ hash_of c.alg message ∷ [] in
      let runs = runs_of c spri calls in
      let run : Run = record { spri = spri; hashes = hs } in
      let size : length hs ≡ c.per_block
      = length_push (pending_hashes c calls spri) (hash_of c.alg message) ∙ ap (λ n. n + 1) (length-map (pending_of c spri calls) (hash_of c.alg)) ∙ full in
      hashes_more message stamp fall
      ∙ ap (λ l. hashes_in runs ++ l) (sym (append-nil hs))
      ∙ sym (flat_map-append (λ (r : Run). r.hashes) runs (run ∷ []))
      ∙ ap (λ l. hashes_in (runs ++ l)) (sym (full_run c.per_block spri hs size))
      ∙ sym (append-nil (hashes_in (runs_of c spri (Submit message stamp ∷ calls))))
      ∙ ap (λ ms. hashes_in (runs_of c spri (Submit message stamp ∷ calls)) ++ map (hash_of c.alg) ms) (sym (pending-full c calls message stamp full))

  fall_more : (message : List ℕ) (stamp : Option Moment) → let spri = spri_in c.grouping message in
      1 ≤ c.per_block → (length (pending_of c spri calls) + 1 ≡ c.per_block → ⊥) → Fall calls spri → Fall (Submit message stamp ∷ calls) spri
  fall_more message stamp some ne fall =
      let spri = spri_in c.grouping message in
      let hs = pending_hashes c calls spri ++ hash_of c.alg message ∷ [] in
      let runs = runs_of c spri calls in
      let size : length hs ≡ length (pending_of c spri calls) + 1
      = length_push (pending_hashes c calls spri) (hash_of c.alg message) ∙ ap (λ n. n + 1) (length-map (pending_of c spri calls) (hash_of c.alg)) in
      hashes_more message stamp fall
      ∙ ap (λ l. hashes_in l ++ hs) (sym (append-nil runs) ∙ ap (λ l. runs ++ l) (sym (no_full_run c.per_block spri hs (λ e. ne (sym size ∙ e)))))
      ∙ ap (λ l. hashes_in (runs_of c spri (Submit message stamp ∷ calls)) ++ l)
      (sym (map_push (hash_of c.alg) (pending_of c spri calls) message) ∙ ap (map (hash_of c.alg)) (sym (pending-push c calls message stamp some ne)))

  fall_own : (message : List ℕ) (stamp : Option Moment) → let spri = spri_in c.grouping message in 1 ≤ c.per_block → Fall calls spri → Fall (Submit message stamp ∷ calls) spri
  fall_own message stamp some fall = elim (cases_eq (length (pending_of c (spri_in c.grouping message) calls) + 1) c.per_block) [
    | inl full ↦ fall_full message stamp full fall
    | inr ne ↦ fall_more message stamp some ne fall
  ]

  fall_submitted : (message : List ℕ) (stamp : Option Moment) (spri : ℕ) → 1 ≤ c.per_block → Fall calls spri → Fall (Submit message stamp ∷ calls) spri
  fall_submitted message stamp spri some fall = by (spri_in c.grouping message == spri) refl
    where
      by : (b : Bool) → (spri_in c.grouping message == spri) ≡ b → Fall (Submit message stamp ∷ calls) spri
      by true e = subst (λ k. Fall calls k → Fall (Submit message stamp ∷ calls) k) (eqb-true (spri_in c.grouping message) spri e) (fall_own message stamp some) fall
      by false e = fall_other message stamp spri e fall

pub messages_fall_into_runs : MessagesFallIntoRuns
messages_fall_into_runs c [] spri some small = ap (map (hash_of c.alg)) (sym (pending-none c spri))
messages_fall_into_runs c (Begin stamp ∷ calls) spri some small = fall_begun c calls stamp spri (messages_fall_into_runs c calls spri some small)
messages_fall_into_runs c (Submit message stamp ∷ calls) spri some small = fall_submitted c calls message stamp spri some (messages_fall_into_runs c calls spri some small)
messages_fall_into_runs c (Flush stamp ∷ calls) spri some small = fall_flushed c calls stamp spri small (messages_fall_into_runs c calls spri some small)
