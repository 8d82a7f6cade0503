-- The GBC of what a chain sent that goes on ahead rises.
use Rattle.std.proofs.Common.{◌≡◌, inl, inr, ℕ, zero, suc, ◌+◌, ◌<◌, ◌≤◌, false, cond, List, [], ◌∷◌, ◌++◌, length, filter, replicate, refl, sym, ap, ◌∙◌, subst, arith}
use Rattle.std.specs.List.{All, AllByRecursion, AllPairs, enumerate_from}
use Rattle.std.proofs.lemmas.Bool.{cases_Bool, both_ways}
use Rattle.std.proofs.lemmas.List.Elements.{All-nil, All-cons}
use Rattle.std.proofs.lemmas.List.Kept.{AllPairs-cons}
use Rattle.ss_block.specs.declared.reading.Reading.TheVariants as readings
use Rattle.ss_block.specs.Block as block
use Rattle.ss_block.specs.Reading.{reading}
use Rattle.ss_origin.specs.declared.config.Config.{Config}
use Rattle.ss_origin.specs.Counting.{Start}
use Rattle.ss_origin.specs.CountedLaws.{sent_in_turns, is_signature, HasGbc}
use Rattle.ss_origin.specs.Setting.{Setting}
use Rattle.ss_origin.specs.Ahead.{Life, ended_with, BeginsBehind, IsChainAhead}
use Rattle.ss_octets.proofs.Members.{has_from_contains, all-has}
use Rattle.ss_origin.proofs.RunsClosed.{all-append}
use Rattle.ss_origin.proofs.Sent.{all-copies}
use Rattle.ss_laws.specs.ahead.RisingGbc.{AreCountedFrom, BlocksAheadAreCounted, sent_ahead, HasGreaterGbcOrIsCopy, GbcRises}
use Rattle.ss_laws.proofs.of_ahead.CountedBlocks.{is_block, copies_of}
use Rattle.ss_origin.proofs.Numbered.{all-weaker}

-- ---- each element, and each pair

all_any : {X : Type 0} (P : X → Type 0) → ((x : X) → P x) → (xs : List X) → AllByRecursion P xs
all_any P f [] = tt
all_any P f (x ∷ xs) = (f x, all_any P f xs)

all_from : {X : Type 0} (P : X → Type 0) (xs : List X) → AllByRecursion P xs → All P xs
all_from P [] all = All-nil P
all_from P (x ∷ xs) all = All-cons P x xs all.0 (all_from P xs all.1)

-- each message and each later one
abbrev Pairs : List (List ℕ) → Type 0
Pairs [] = Unit {0}
Pairs (m ∷ ms) = AllByRecursion (HasGreaterGbcOrIsCopy m) ms × Pairs ms

pairs_from : (ms : List (List ℕ)) → Pairs ms → AllPairs HasGreaterGbcOrIsCopy ms
pairs_from [] pairs = λ i j d less short. absurd (omega (arith, short))
pairs_from (m ∷ ms) pairs = AllPairs-cons HasGreaterGbcOrIsCopy m ms (all_from (HasGreaterGbcOrIsCopy m) ms pairs.0) (pairs_from ms pairs.1)

both_pairs : (ms ns : List (List ℕ)) → Pairs ms → Pairs ns → AllByRecursion (λ m. AllByRecursion (HasGreaterGbcOrIsCopy m) ns) ms → Pairs (ms ++ ns)
both_pairs [] ns one two across = two
both_pairs (m ∷ ms) ns one two across = (all-append (HasGreaterGbcOrIsCopy m) ms ns one.0 across.0, both_pairs ms ns one.1 two across.1)

-- ---- counted messages

-- a signature block has its GBC from one on and below another
abbrev IsWithin : ℕ → ℕ → List ℕ → Type 0
IsWithin from to m = (b : block.Signature) → reading m ≡ readings.Signature b → (from ≤ b.gbc) × (b.gbc < to)

wider : (from to lower higher : ℕ) → lower ≤ from → to ≤ higher → (ms : List (List ℕ)) → AllByRecursion (IsWithin from to) ms → AllByRecursion (IsWithin lower higher) ms
wider from to lower higher down up ms all =
    all-weaker (IsWithin from to) (IsWithin lower higher) (λ m in_range b read. (let w = in_range b read in (omega (arith, down, w.0), omega (arith, up, w.1)))) ms all

less_gbc : (from mid to : ℕ) (m n : List ℕ) → IsWithin from mid m → IsWithin mid to n → HasGreaterGbcOrIsCopy m n
less_gbc from mid to m n one two a b read_m read_n =
    let x = (one a read_m).1 in
    let y = (two b read_n).0 in
    inl (omega (arith, x, y))

within_first : (from : ℕ) (m : List ℕ) → HasGbc (from, m) → IsWithin from (from + 1) m
within_first from m has b read =
    let same : readings.Signature has.0 ≡ readings.Signature b = sym has.1 ∙ read in
    let own : has.0 ≡ b = cc in
    let gbc = ap (λ (x : block.Signature). x.gbc) own in
    let at = has.2 in
    (omega (arith, gbc, at), omega (arith, gbc, at))

within : (from : ℕ) (ms : List (List ℕ)) → AllByRecursion HasGbc (enumerate_from from ms) → AllByRecursion (IsWithin from (from + length ms)) ms
within from [] counted = tt
within from (m ∷ ms) counted = (
  λ b read. (let w = within_first from m counted.0 b read in (w.0, omega (arith, w.1))),
  wider (from + 1) (from + 1 + length ms) from (from + length (m ∷ ms)) (omega arith) (omega arith) ms (within (from + 1) ms counted.1),
)

counted_pairs : (from : ℕ) (ms : List (List ℕ)) → AllByRecursion HasGbc (enumerate_from from ms) → Pairs ms
counted_pairs from [] counted = tt
counted_pairs from (m ∷ ms) counted = (
  all-weaker (IsWithin (from + 1) (from + 1 + length ms)) (HasGreaterGbcOrIsCopy m) (λ n in_range. less_gbc from (from + 1) (from + 1 + length ms) m n (within_first from m counted.0) in_range) ms
      (within (from + 1) ms counted.1),
  counted_pairs (from + 1) ms counted.1,
)

-- ---- copies

copies_tied : (n : ℕ) (m : List ℕ) → AllByRecursion (HasGreaterGbcOrIsCopy m) (replicate n m)
copies_tied zero m = tt
copies_tied (suc n) m = (λ a b read_a read_b. inr refl, copies_tied n m)

copies_before : (n : ℕ) (m : List ℕ) (ns : List (List ℕ)) → AllByRecursion (HasGreaterGbcOrIsCopy m) ns → Pairs ns → Pairs (replicate n m ++ ns)
copies_before zero m ns all pairs = pairs
copies_before (suc n) m ns all pairs = (all-append (HasGreaterGbcOrIsCopy m) (replicate n m) ns (copies_tied n m) all, copies_before n m ns all pairs)

copied_pairs : (n : ℕ) (ms : List (List ℕ)) → Pairs ms → Pairs (copies_of n ms)
copied_pairs n [] pairs = tt
copied_pairs n (m ∷ ms) pairs = copies_before n m (copies_of n ms) (all-copies (HasGreaterGbcOrIsCopy m) n ms pairs.0) (copied_pairs n ms pairs.1)

-- ---- other messages between them

module _ (P : List ℕ → Type 0) (others : (m : List ℕ) → is_block m ≡ false → P m) where
  with_others : (ms : List (List ℕ)) → AllByRecursion P (filter is_block ms) → AllByRecursion P ms
  with_others [] all = tt
  with_others (m ∷ ms) all = elim (cases_Bool (is_block m)) [
    | inl t ↦ (let both : AllByRecursion P (m ∷ filter is_block ms) = subst (λ b. AllByRecursion P (cond b (m ∷ filter is_block ms) (filter is_block ms))) t all in
        (both.0, with_others ms both.1))
    | inr f ↦ (others m f, with_others ms (subst (λ b. AllByRecursion P (cond b (m ∷ filter is_block ms) (filter is_block ms))) f all))
  ]

no_block : (m : List ℕ) (b : block.Signature) → is_block m ≡ false → reading m ≡ readings.Signature b → ⊥
no_block m b f read = both_ways (is_block m) f (ap is_signature read)

pairs_with_others : (ms : List (List ℕ)) → Pairs (filter is_block ms) → Pairs ms
pairs_with_others [] pairs = tt
pairs_with_others (m ∷ ms) pairs = elim (cases_Bool (is_block m)) [
  | inl t ↦ (let both : Pairs (m ∷ filter is_block ms) = subst (λ b. Pairs (cond b (m ∷ filter is_block ms) (filter is_block ms))) t pairs in
      (with_others (HasGreaterGbcOrIsCopy m) (λ n f a b read_m read_n. absurd (no_block n b f read_n)) ms both.0, pairs_with_others ms both.1))
  | inr f ↦ (
    all_any (HasGreaterGbcOrIsCopy m) (λ n a b read_m read_n. absurd (no_block m a f read_m)) ms,
    pairs_with_others ms (subst (λ b. Pairs (cond b (m ∷ filter is_block ms) (filter is_block ms))) f pairs),
  )
]

-- ---- a chain

record Rises (next : ℕ) (sent : List (List ℕ)) : Type 0 where
  below : AllByRecursion (IsWithin 0 next) sent
  pairs : Pairs sent

-- the next GBC after the originators
abbrev gbc_after : Config → List Life → ℕ
gbc_after c [] = 0
gbc_after c (l ∷ older) = (ended_with c l).gbc

begins_after : (c : Config) (older : List Life) (start : Start) → BeginsBehind c older start → gbc_after c older ≤ start.counters.gbc
begins_after c [] start e = omega arith
begins_after c (l ∷ older) start b =
    let same : start.counters.gbc ≡ b.0.gbc = ap (λ (q : Start). q.counters.gbc) b.1 in
    let least = b.2.gbc in
    omega (arith, same, least)

module _ (c : Config) (l : Life) (counts : AreCountedFrom c l) where
  abbrev own : List (List ℕ)
  own = sent_in_turns l.turns

  own_within : AllByRecursion (IsWithin l.start.counters.gbc (ended_with c l).gbc) own
  own_within =
      let from = l.start.counters.gbc in
      let to = (ended_with c l).gbc in
      with_others (IsWithin from to) (λ m f b read. absurd (no_block m b f read)) own
      (subst (AllByRecursion (IsWithin from to)) (sym counts.sent)
      (all-copies (IsWithin from to) c.copies counts.messages
      (subst (λ k. AllByRecursion (IsWithin from k) counts.messages) (sym counts.next) (within from counts.messages counts.counted))))

  own_pairs : Pairs own
  own_pairs = pairs_with_others own (subst Pairs (sym counts.sent) (copied_pairs c.copies counts.messages (counted_pairs l.start.counters.gbc counts.messages counts.counted)))

  with_own : (older : List Life) → BeginsBehind c older l.start → Rises (gbc_after c older) (sent_ahead older) → Rises (ended_with c l).gbc (sent_ahead (l ∷ older))
  with_own older begins before =
      let from = l.start.counters.gbc in
      let to = (ended_with c l).gbc in
      let mid = gbc_after c older in
      let first : mid ≤ from = begins_after c older l.start begins in
      let last : from ≤ to = (let e = counts.next in omega (arith, e)) in
      let later = wider from to mid to first (omega arith) own own_within in
      record {
        below =
            all-append (IsWithin 0 to) (sent_ahead older) own
            (wider 0 mid 0 to (omega arith) (omega (arith, first, last)) (sent_ahead older) before.below)
            (wider from to 0 to (omega arith) (omega arith) own own_within);
        pairs =
            both_pairs (sent_ahead older) own before.pairs own_pairs
            (all-weaker (IsWithin 0 mid) (λ m. AllByRecursion (HasGreaterGbcOrIsCopy m) own)
            (λ m in_range. all-weaker (IsWithin mid to) (HasGreaterGbcOrIsCopy m) (λ n k. less_gbc 0 mid to m n in_range k) own later)
            (sent_ahead older) before.below);
      }

rises : BlocksAheadAreCounted → (s : Setting) (lives : List Life) → IsChainAhead s lives → Rises (gbc_after s.config lives) (sent_ahead lives)
rises counted s [] is = record { below = tt; pairs = tt }
rises counted s (l ∷ older) is =
    with_own s.config l (counted s [] older l is) older is.chained.1 (rises counted s older (record { setting = is.setting; chained = is.chained.0 }))

pub gbc_rises : BlocksAheadAreCounted → GbcRises
gbc_rises counted s newest older is =
    let all = rises counted s (newest ∷ older) is in
    let sent = sent_ahead (newest ∷ older) in (
      pairs_from sent all.pairs,
      λ m b c read. (all-has (IsWithin 0 (ended_with s.config newest).gbc) sent m all.below (has_from_contains sent m c) b read).1,
    )
