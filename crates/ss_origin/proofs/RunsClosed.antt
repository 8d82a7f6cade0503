-- The runs that a call closes are the last messages of their groups, and fit blocks.
use Rattle.std.proofs.Common.{◌≡◌, ℕ, zero, suc, ◌+◌, ◌-◌, ◌%◌, ◌<◌, ◌≤◌, Bool, true, false, List, [], ◌∷◌, ◌++◌, length, take, refl, sym, ap, ◌∙◌, arith, append-nil, append_assoc}
use Rattle.std.specs.Prelude.{Option, ◌==◌, if◌then◌else◌}
use Rattle.std.specs.List.{AllByRecursion, flat_map, range_with_len}
use Rattle.std.proofs.Math.Nat.{mod-lt}
use Rattle.std.proofs.lemmas.Bool.{eq-eqb, eqb-true}
use Rattle.std.proofs.lemmas.List.{take-append-drop, map_push, length-map}
use Rattle.ss_message.specs.Stamp.{Moment}
use Rattle.ss_message.specs.Laws.{FaultsAreOfNoMessage}
use Rattle.ss_block.specs.declared.hash.Hash.{Hash}
use Rattle.ss_block.specs.Hashes.{hash_of}
use Rattle.ss_origin.specs.declared.grouping.Grouping.{Grouping}
use Rattle.ss_origin.specs.declared.config.Config.{Config}
use Rattle.ss_origin.specs.Calls.{Call, Begin, Submit, Flush, Run, spri_in, if_in, messages_of, messages_since_flush, pending_of, pending_hashes, run_if_any, run_if_full}
use Rattle.ss_origin.specs.State.{spris}
use Rattle.ss_origin.specs.RunLaws.{IsLastRun, RunsAreLast, RunsFitBlocks, RunsHaveSmallSpris}
use Rattle.ss_origin.proofs.Groups.{spris_are_small}
use Rattle.ss_origin.proofs.Runs.{length-left_over}

-- ---- the messages of a group that aren't pending

before_flush : Grouping → ℕ → List Call → List (List ℕ)
before_flush grouping spri [] = []
before_flush grouping spri (Begin stamp ∷ before) = before_flush grouping spri before
before_flush grouping spri (Submit message stamp ∷ before) = before_flush grouping spri before
before_flush grouping spri (Flush stamp ∷ before) = messages_of grouping spri before

split_at_flush : (grouping : Grouping) (spri : ℕ) (calls : List Call) → messages_of grouping spri calls ≡ before_flush grouping spri calls ++ messages_since_flush grouping spri calls
unfolding before_flush
split_at_flush grouping spri [] = refl
split_at_flush grouping spri (Begin stamp ∷ before) = split_at_flush grouping spri before
split_at_flush grouping spri (Submit message stamp ∷ before) =
    ap (λ ms. ms ++ if_in grouping spri message) (split_at_flush grouping spri before)
    ∙ append_assoc (before_flush grouping spri before) (messages_since_flush grouping spri before) (if_in grouping spri message)
split_at_flush grouping spri (Flush stamp ∷ before) = sym (append-nil (messages_of grouping spri before))

module _ (c : Config) (spri : ℕ) (calls : List Call) where
  abbrev since : List (List ℕ)
  since = messages_since_flush c.grouping spri calls

  pub in_blocks : List (List ℕ)
  in_blocks = before_flush c.grouping spri calls ++ take (length since - length since % c.per_block) since

  pub split_at_pending : messages_of c.grouping spri calls ≡ in_blocks ++ pending_of c spri calls
  unfolding in_blocks pending_of
  split_at_pending =
      split_at_flush c.grouping spri calls
      ∙ ap (λ ms. before_flush c.grouping spri calls ++ ms) (sym (take-append-drop (length since - length since % c.per_block) since))
      ∙ sym (append_assoc (before_flush c.grouping spri calls) (take (length since - length since % c.per_block) since) (pending_of c spri calls))

  pub pending-fewer : 1 ≤ c.per_block → length (pending_of c spri calls) < c.per_block
  unfolding pending_of
  pending-fewer some = let e = length-left_over c.per_block since in let below : length since % c.per_block < c.per_block = mod-lt (length since) some in omega (arith, e)

-- a message is in its own group
pub own_message : (grouping : Grouping) (message : List ℕ) → if_in grouping (spri_in grouping message) message ≡ message ∷ []
own_message grouping message =
    ap (λ b. if b then message ∷ [] else []) (eq-eqb (spri_in grouping message) (spri_in grouping message) refl)

-- ---- all runs that a call closes

pub all-append : {X : Type 0} (P : X → Type 0) (xs ys : List X) → AllByRecursion P xs → AllByRecursion P ys → AllByRecursion P (xs ++ ys)
all-append P [] ys all more = more
all-append P (x ∷ xs) ys all more = (all.0, all-append P xs ys all.1 more)

all_from : {Y : Type 0} (P : Y → Type 0) (f : ℕ → List Y) (n a : ℕ) → ((k : ℕ) → k < a + n → AllByRecursion P (f k)) → AllByRecursion P (flat_map f (range_with_len a n))
all_from P f zero a each = tt
all_from P f (suc n) a each = all-append P (f a) (flat_map f (range_with_len (a + 1) n)) (each a (omega arith)) (all_from P f n (a + 1) (λ k below. each k (omega arith)))

pub all-if_full : (P : Run → Type 0) (size spri : ℕ) (hs : List Hash) → (length hs ≡ size → P (record { spri = spri; hashes = hs })) → AllByRecursion P (run_if_full size spri hs)
all-if_full P size spri hs f = by (length hs == size) refl
  where
    by : (b : Bool) → (length hs == size) ≡ b → AllByRecursion P (if b then record { spri = spri; hashes = hs } ∷ [] else [])
    by true e = (f (eqb-true (length hs) size e), tt)
    by false e = tt

all-if_any : (P : Run → Type 0) (spri : ℕ) (hs : List Hash) → (1 ≤ length hs → P (record { spri = spri; hashes = hs })) → AllByRecursion P (run_if_any spri hs)
all-if_any P spri [] f = tt
all-if_any P spri (h ∷ hs) f = (f (omega arith), tt)

pub all_flushed : (P : Run → Type 0) (pending : ℕ → List Hash)
    → ((spri : ℕ) → spri < 192 → 1 ≤ length (pending spri) → P (record { spri = spri; hashes = pending spri }))
    → AllByRecursion P (flat_map (λ spri. run_if_any spri (pending spri)) spris)
all_flushed P pending each = all_from P (λ spri. run_if_any spri (pending spri)) 192 0 (λ spri small. all-if_any P spri (pending spri) (each spri (omega arith)))

-- ---- the laws

last_full : (c : Config) (calls : List Call) (message : List ℕ) (stamp : Option Moment)
    → IsLastRun c calls (Submit message stamp) (record { spri = spri_in c.grouping message; hashes = pending_hashes c calls (spri_in c.grouping message) ++ hash_of c.alg message ∷ [] })
last_full c calls message stamp =
    let spri = spri_in c.grouping message in
    let front = in_blocks c spri calls in
    record {
      front = front;
      run = pending_of c spri calls ++ message ∷ [];
      before = split_at_pending c spri calls;
      messages =
          ap (λ ms. messages_of c.grouping spri calls ++ ms) (own_message c.grouping message)
          ∙ ap (λ ms. ms ++ message ∷ []) (split_at_pending c spri calls)
          ∙ append_assoc front (pending_of c spri calls) (message ∷ []);
      hashes = sym (map_push (hash_of c.alg) (pending_of c spri calls) message);
    }

last_some : (c : Config) (calls : List Call) (spri : ℕ) (stamp : Option Moment) → IsLastRun c calls (Flush stamp) (record { spri = spri; hashes = pending_hashes c calls spri })
last_some c calls spri stamp = record {
  front = in_blocks c spri calls;
  run = pending_of c spri calls;
  before = split_at_pending c spri calls;
  messages = split_at_pending c spri calls;
  hashes = refl;
}

pub runs_are_last : RunsAreLast
runs_are_last c calls (Begin stamp) = tt
runs_are_last c calls (Submit message stamp) =
    all-if_full (IsLastRun c calls (Submit message stamp)) c.per_block (spri_in c.grouping message)
    (pending_hashes c calls (spri_in c.grouping message) ++ hash_of c.alg message ∷ []) (λ e. last_full c calls message stamp)
runs_are_last c calls (Flush stamp) = all_flushed (IsLastRun c calls (Flush stamp)) (pending_hashes c calls) (λ spri small some. last_some c calls spri stamp)

pub runs_fit_blocks : RunsFitBlocks
runs_fit_blocks c calls (Begin stamp) some = tt
runs_fit_blocks c calls (Submit message stamp) some =
    all-if_full (λ r. (1 ≤ length r.hashes) × (length r.hashes ≤ c.per_block)) c.per_block (spri_in c.grouping message)
    (pending_hashes c calls (spri_in c.grouping message) ++ hash_of c.alg message ∷ []) (λ e. (omega arith, omega arith))
runs_fit_blocks c calls (Flush stamp) some =
    all_flushed (λ r. (1 ≤ length r.hashes) × (length r.hashes ≤ c.per_block)) (pending_hashes c calls)
    (λ spri small any. (any, (let fewer = pending-fewer c spri calls some in let same = length-map (pending_of c spri calls) (hash_of c.alg) in omega (arith, fewer, same))))

pub runs_have_small_spris : FaultsAreOfNoMessage → RunsHaveSmallSpris
runs_have_small_spris read c pending (Begin stamp) is = tt
runs_have_small_spris read c pending (Submit message stamp) is =
    all-if_full (λ r. r.spri < 192) c.per_block (spri_in c.grouping message) (pending (spri_in c.grouping message) ++ hash_of c.alg message ∷ [])
    (λ e. spris_are_small read c.grouping message is)
runs_have_small_spris read c pending (Flush stamp) is = all_flushed (λ r. r.spri < 192) pending (λ spri small any. small)
