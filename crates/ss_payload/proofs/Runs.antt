-- What changes of what was said, where a run is made or an octet is put into one.
use Rattle.std.proofs.Common.{◌≡◌, ℕ, ◌+◌, ◌-◌, ◌*◌, ◌/◌, ◌%◌, ◌<◌, ◌≤◌, ◌⊎◌, inr, List, length, take, drop, arith, refl, ◌∙◌, ap, sym, subst, add_assoc}
use Rattle.std.specs.Prelude.{replicate, zero, suc, slice_index, slice_index_or, Option, None, Some, ◌≢◌, IsSome}
use Rattle.std.specs.Ordering.{nat_cmp}
use Rattle.std.specs.BTreeMap as tree
use Rattle.std.specs.BTreeMap.{BTreeMap}
use Rattle.std.proofs.Math.Logic.{⊎_elim}
use Rattle.std.proofs.lemmas.Bool.{cases_eq, cases_lt}
use Rattle.std.proofs.lemmas.List.{get_or-take, get_or-drop, length-take}
use Rattle.std.proofs.lemmas.Grind.{common_steps}
use Rattle.ss_payload.specs.declared.joiner.slot.Slot.{Slot}
use Rattle.ss_payload.specs.declared.joiner.slot.Slot.TheVariants.{Empty, One}
use Rattle.ss_payload.specs.declared.joiner.runs.Runs.{Runs}
use Rattle.ss_payload.specs.Slots.{slot_in, slot_at, HasRun, IsOne, IsPut, IsTextOf, SomeDiffers, NoneDiffers, joined_slot, slot_differs}
use Rattle.ss_payload.specs.RunSlots.{IsWritten, SomeDiffersIn, NoneDiffersIn, IsPushed, BelongsTo}

module _ (old new : BTreeMap ℕ (List Slot)) (number : ℕ) (run : List Slot) where
  pub get_there : tree.Updates nat_cmp old new number (Some run) → tree.get nat_cmp new number ≡ Some run
  get_there u = grind (arith, common_steps, u.0 number)

  pub get_apart : tree.Updates nat_cmp old new number (Some run) → (q : ℕ) → q ≢ number → tree.get nat_cmp new q ≡ tree.get nat_cmp old q
  get_apart u q ne = grind (arith, common_steps, u.0 q)

  pub some_there : tree.Updates nat_cmp old new number (Some run) → IsSome (tree.get nat_cmp new number)
  some_there u = rw (get_there u) refl

  pub some_stays : tree.Updates nat_cmp old new number (Some run) → (q : ℕ) → IsSome (tree.get nat_cmp old q) → IsSome (tree.get nat_cmp new q)
  some_stays u q h = ⊎_elim
      (λ (e : q ≡ number). grind (arith, common_steps, get_there u))
      (λ (ne : q ≢ number). rw (get_apart u q ne) h)
      (cases_eq q number)

-- a new run without octets says nothing
pub run_made : (old new : BTreeMap ℕ (List Slot)) (number : ℕ) (run : List Slot) → ((k : ℕ) → slice_index_or run k Empty ≡ Empty) → tree.get nat_cmp old number ≡ None → tree.Updates nat_cmp old new number (Some run) → (q k : ℕ) → slot_in (tree.get nat_cmp new q) k ≡ slot_in (tree.get nat_cmp old q) k
run_made old new number run empty absent u q k = ⊎_elim
    (λ (e : q ≡ number). ap (λ (n : ℕ). slot_in (tree.get nat_cmp new n) k) e ∙ ap (λ (o : Option (List Slot)). slot_in o k) (get_there old new number run u) ∙ empty k ∙ sym (ap (λ (n : ℕ). slot_in (tree.get nat_cmp old n) k) e ∙ ap (λ (o : Option (List Slot)). slot_in o k) absent))
    (λ (ne : q ≢ number). ap (λ (o : Option (List Slot)). slot_in o k) (get_apart old new number run u q ne))
    (cases_eq q number)

-- what was said at an index of a run stands in the run
module _ (runs : Runs) (index j : ℕ) (one : index % 16 + j < 16) where
  number_is : (index + j) / 16 ≡ index / 16
  number_is = omega arith

  rest_is : (index + j) % 16 ≡ index % 16 + j
  rest_is = omega arith

  pub said_in_run : (run : List Slot) → tree.get nat_cmp runs.runs (index / 16) ≡ Some run → slot_at runs (index + j) ≡ slice_index_or run (index % 16 + j) Empty
  unfolding slot_at
  said_in_run run is =
      ap (λ (n : ℕ). slot_in (tree.get nat_cmp runs.runs n) ((index + j) % 16)) number_is
      ∙ ap (λ (o : Option (List Slot)). slot_in o ((index + j) % 16)) is
      ∙ ap (λ (k : ℕ). slice_index_or run k Empty) rest_is

  pub said_in_none : tree.get nat_cmp runs.runs (index / 16) ≡ None → slot_at runs (index + j) ≡ Empty
  unfolding slot_at
  said_in_none is =
      ap (λ (n : ℕ). slot_in (tree.get nat_cmp runs.runs n) ((index + j) % 16)) number_is
      ∙ ap (λ (o : Option (List Slot)). slot_in o ((index + j) % 16)) is

-- the octets of a piece of one run, said there
module _ (old new : Runs) (index : ℕ) (run wrote : List Slot) (octets : List ℕ) (one : index % 16 + length octets ≤ 16) (was : tree.get nat_cmp old.runs (index / 16) ≡ Some run) (u : tree.Updates nat_cmp old.runs new.runs (index / 16) (Some wrote)) where
  is_now : tree.get nat_cmp new.runs (index / 16) ≡ Some wrote
  is_now = get_there old.runs new.runs (index / 16) wrote u

  -- what stays in the run stays, and so does what lies in others
  stays : (i : ℕ) → (i / 16 ≡ index / 16 → slice_index_or wrote (i % 16) Empty ≡ slice_index_or run (i % 16) Empty) → slot_at new i ≡ slot_at old i
  unfolding slot_at
  stays i same = ⊎_elim
      (λ (e : i / 16 ≡ index / 16).
      ap (λ (n : ℕ). slot_in (tree.get nat_cmp new.runs n) (i % 16)) e ∙ ap (λ (o : Option (List Slot)). slot_in o (i % 16)) is_now
      ∙ same e
      ∙ sym (ap (λ (n : ℕ). slot_in (tree.get nat_cmp old.runs n) (i % 16)) e ∙ ap (λ (o : Option (List Slot)). slot_in o (i % 16)) was))
      (λ (ne : i / 16 ≢ index / 16). ap (λ (o : Option (List Slot)). slot_in o (i % 16)) (get_apart old.runs new.runs (index / 16) wrote u (i / 16) ne))
      (cases_eq (i / 16) (index / 16))

  pub put_in_run : IsWritten run wrote (index % 16) octets (length octets) → IsPut old new index octets (length octets)
  put_in_run w = record {
    inside = λ j lt.
        said_in_run new index j (omega (arith, one, lt)) wrote is_now ∙ w.inside j lt
        ∙ ap (λ (s : Slot). joined_slot s (slice_index octets j)) (sym (said_in_run old index j (omega (arith, one, lt)) run was));
    before = λ i lt. stays i (λ e. w.before (i % 16) (omega (arith, lt, e)));
    behind = λ i le. stays i (λ e. w.behind (i % 16) (omega (arith, le, e, one)));
  }

  pub some_in_run : SomeDiffersIn run (index % 16) octets → SomeDiffers old index octets
  some_in_run d = (d.0, d.1, ap (λ (s : Slot). slot_differs s (slice_index octets d.0)) (said_in_run old index d.0 (omega (arith, one, d.1)) run was) ∙ d.2)

  pub none_in_run : NoneDiffersIn run (index % 16) octets (length octets) → NoneDiffers old index octets (length octets)
  none_in_run d = λ j lt. ap (λ (s : Slot). slot_differs s (slice_index octets j)) (said_in_run old index j (omega (arith, one, lt)) run was) ∙ d j lt

  pub kept_runs : (n : ℕ) → HasRun old n → HasRun new n
  unfolding HasRun
  kept_runs = some_stays old.runs new.runs (index / 16) wrote u

  pub no_more_runs : (n : ℕ) → HasRun new n → HasRun old n
  unfolding HasRun
  no_more_runs n h = ⊎_elim
      (λ (e : n ≡ index / 16). rw (e, was) refl)
      (λ (ne : n ≢ index / 16). rw (get_apart old.runs new.runs (index / 16) wrote u n ne) at h)
      (cases_eq n (index / 16))

-- a further piece of a fragment
module _ (old mid new : Runs) (index start : ℕ) (octets piece : List ℕ) (is : (j : ℕ) → j < length piece → slice_index piece j ≡ slice_index octets (start + j)) (first : IsPut old mid index octets start) (next : IsPut mid new (index + start) piece (length piece)) where
  -- where the piece lies nothing was said with the first ones
  there : (j : ℕ) → slot_at mid (index + start + j) ≡ slot_at old (index + (start + j))
  there j = ap (slot_at mid) (add_assoc index start j) ∙ first.behind (index + (start + j)) (omega arith)

  pub more_put : IsPut old new index octets (start + length piece)
  more_put = record {
    inside = λ j lt. ⊎_elim
        (λ (h : j < start). next.before (index + j) (omega (arith, h)) ∙ first.inside j h)
        (λ (h : start ≤ j).
        let k : ℕ = j - start in
        let back : start + k ≡ j = omega (arith, h) in
        let at : index + start + k ≡ index + j = omega (arith, h) in
        let low : k < length piece = omega (arith, h, lt) in
        sym (ap (slot_at new) at) ∙ next.inside k low
        ∙ ap (λ (s : Slot). joined_slot s (slice_index piece k)) (there k)
        ∙ ap (λ (o : ℕ). joined_slot (slot_at old (index + (start + k))) o) (is k low)
        ∙ ap (λ (m : ℕ). joined_slot (slot_at old (index + m)) (slice_index octets m)) back)
        (cases_lt j start);
    before = λ i lt. next.before i (omega (arith, lt)) ∙ first.before i lt;
    behind = λ i le. next.behind i (omega (arith, le)) ∙ first.behind i (omega (arith, le));
  }

  pub more_differ : start + length piece ≤ length octets → SomeDiffers mid (index + start) piece → SomeDiffers old index octets
  more_differ within d = (
    start + d.0,
    omega (arith, within, d.1),
    ap (λ (o : ℕ). slot_differs (slot_at old (index + (start + d.0))) o) (sym (is d.0 d.1)) ∙ ap (λ (s : Slot). slot_differs s (slice_index piece d.0)) (sym (there d.0)) ∙ d.2,
  )

  pub more_agree : NoneDiffers old index octets start → NoneDiffers mid (index + start) piece (length piece) → NoneDiffers old index octets (start + length piece)
  more_agree before d j lt = ⊎_elim
      (λ (h : j < start). before j h)
      (λ (h : start ≤ j).
      let k : ℕ = j - start in
      let back : start + k ≡ j = omega (arith, h) in
      let low : k < length piece = omega (arith, h, lt) in
      ap (λ (m : ℕ). slot_differs (slot_at old (index + m)) (slice_index octets m)) (sym back)
      ∙ ap (λ (o : ℕ). slot_differs (slot_at old (index + (start + k))) o) (sym (is k low))
      ∙ ap (λ (s : Slot). slot_differs s (slice_index piece k)) (sym (there k)) ∙ d k low)
      (cases_lt j start)

-- the octets of a part of a fragment
pub part_is : (octets : List ℕ) (start end : ℕ) → end ≤ length octets → (j : ℕ) → j < length (take (end - start) (drop start octets)) → slice_index (take (end - start) (drop start octets)) j ≡ slice_index octets (start + j)
part_is octets start end within j lt =
    let low : j < end - start = omega (arith, lt, length-take (end - start) (drop start octets)) in
    get_or-take (end - start) (drop start octets) j 0 low ∙ get_or-drop start octets j 0

-- a run that is made for a fragment is one that it belongs to
pub belongs : (index count number : ℕ) → 1 ≤ count → index / 16 ≤ number → number < (index + count + 15) / 16 → BelongsTo number index count
belongs index count number some low high = ⊎_elim
    (λ (h : 16 * number < index). (0, some, omega (arith, h, low)))
    (λ (h : index ≤ 16 * number). (16 * number - index, omega (arith, h, high), omega (arith, h)))
    (cases_lt (16 * number) index)

pub one_more_run : (old mid new : Runs) (index count number : ℕ) → BelongsTo number index count → ((n : ℕ) → HasRun mid n → HasRun old n ⊎ BelongsTo n index count) → ((n : ℕ) → n ≢ number → HasRun new n → HasRun mid n) → (n : ℕ) → HasRun new n → HasRun old n ⊎ BelongsTo n index count
one_more_run old mid new index count number of before step n h = ⊎_elim
    (λ (e : n ≡ number). inr (of.0, of.1, of.2 ∙ sym e))
    (λ (ne : n ≢ number). before n (step n ne h))
    (cases_eq n number)

-- a text of which a further part of a run is written
module _ (runs : Runs) (run : List Slot) (index count before : ℕ) (one : index % 16 + count ≤ 16) (next : index ≡ before + 1) (old new : List ℕ) (text : IsTextOf runs old before) where
  pub more_text : tree.get nat_cmp runs.runs (index / 16) ≡ Some run → IsPushed old new run (index % 16) count → IsTextOf runs new (before + count)
  more_text is p = record {
    long = omega (arith, p.long, text.long);
    said = λ k lt. ⊎_elim
        (λ (h : k < before). text.said k h ∙ ap (λ (o : ℕ). One o) (sym (p.kept k (omega (arith, h, text.long)))))
        (λ (h : before ≤ k).
        let j : ℕ = k - before in
        let low : j < count = omega (arith, h, lt) in
        let at : index + j ≡ k + 1 = omega (arith, h, next) in
        let behind : length old + j ≡ k = omega (arith, h, text.long) in
        sym (ap (slot_at runs) at) ∙ said_in_run runs index j (omega (arith, one, low)) run is ∙ p.said j low ∙ ap (λ (m : ℕ). One (slice_index new m)) behind)
        (cases_lt k before);
  }

  pub all_in_run : tree.get nat_cmp runs.runs (index / 16) ≡ Some run → ((j : ℕ) → j < count → IsOne (slot_at runs (index + j))) → (j : ℕ) → j < count → IsOne (slice_index_or run (index % 16 + j) Empty)
  all_in_run is all j lt = subst IsOne (said_in_run runs index j (omega (arith, one, lt)) run is) (all j lt)

-- where there is no run, no octet was said
pub none_in_none : (runs : Runs) (index count : ℕ) → index % 16 + count ≤ 16 → tree.get nat_cmp runs.runs (index / 16) ≡ None → ((j : ℕ) → j < count → IsOne (slot_at runs (index + j))) → count ≡ 0
none_in_none runs index count one is all = ⊎_elim
    (λ (h : 0 < count). absurd (subst IsOne (said_in_none runs index 0 (omega (arith, one, h)) is) (all 0 h)))
    (λ (h : count ≤ 0). omega (arith, h))
    (cases_lt 0 count)

-- a run that was made has no octet
pub empty_run : (n k : ℕ) → slice_index_or (replicate n Empty) k Empty ≡ Empty
empty_run zero k = refl
empty_run (suc n) zero = refl
empty_run (suc n) (suc k) = empty_run n k
