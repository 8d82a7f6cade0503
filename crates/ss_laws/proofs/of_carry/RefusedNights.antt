-- What the nights refuse, what is spoilt in them, and how many messages they review.
use Rattle.std.proofs.Common.{◌≡◌, ◌⊎◌, inl, inr, ℕ, zero, suc, ◌+◌, ◌<◌, ◌≤◌, ◌==◌, ◌||◌, ◌&&◌, not, Bool, true, false, cond, List, [], ◌∷◌, ◌++◌, filter, refl, sym, ap, ◌∙◌, subst, arith}
use Rattle.std.specs.Prelude.{nat_le, count_by}
use Rattle.std.specs.List.{sum_by, range_with_len}
use Rattle.std.proofs.lemmas.Bool.{cases_Bool, true≢false, cases_eq, eqb-true, eq-eqb, not-true, le-leb, leb-true, or_cases, or_left, or_right, and_parts, false_from_ne_true}
use Rattle.std.proofs.lemmas.List.Sums.{sum_by_push}
use Rattle.ss_review.specs.keep.BlockMessage.{BlockMessage}
use Rattle.ss_review.specs.declared.keep.spoilt.SpoiltPlace.{SpoiltPlace}
use Rattle.ss_review.specs.sessions.Verified.{Answers, joined, is_verified}
use Rattle.ss_review.specs.report.Report.{refused}
use Rattle.ss_octets.proofs.Members.{Has, has_from_contains, contains_from_has, has-map, from_has-map, has-filter, from_has-filter}
use Rattle.ss_review.proofs.of_lists.FilteredAlike.{one_test}
use Rattle.ss_review.proofs.of_lists.Sums.{sum_by-added, sum_by-same, count_by-same}
use Rattle.ss_laws.specs.carry.Nights.{Nights, is_reviewed, night_log, so_far, IsJoined, LeaveEnough}
use Rattle.ss_laws.specs.carry.Together.{JoinedStay, IsRefusedInNights, left_count}
use Rattle.ss_laws.proofs.of_carry.LeftBlocks.{AreInRange, joins_or_not}
use Rattle.ss_laws.proofs.of_carry.NightBlocks.{from_night, has-night, from_so_far, own_reviewed, left_reviewed, reviewed_cases, reviewed_file, in_night}
use Rattle.ss_laws.proofs.of_carry.AnnouncedNights.{verified_joined, same_joined_at, night_among, verified_in_files, verified_in_night}

-- ---- refused blocks

pub from_refused : (says : Answers) (bs : List BlockMessage) (place : ℕ) → Has (refused says bs) place
    → (b : BlockMessage) × Has bs b × (is_verified says bs b ≡ false) × (b.place ≡ place)
from_refused says bs place h =
    let w : (b : BlockMessage) × Has (filter (λ (b : BlockMessage). not (is_verified says bs b)) bs) b × (b.place ≡ place)
    = from_has-map (λ (b : BlockMessage). b.place) (filter (λ (b : BlockMessage). not (is_verified says bs b)) bs) place h in
    let f = from_has-filter (λ (b : BlockMessage). not (is_verified says bs b)) bs w.0 w.1 in
    (w.0, f.0, not-true (is_verified says bs w.0) f.1, w.2)

pub has-refused : (says : Answers) (bs : List BlockMessage) (b : BlockMessage) → Has bs b → is_verified says bs b ≡ false → Has (refused says bs) b.place
has-refused says bs b h n =
    has-map (λ (d : BlockMessage). d.place) (filter (λ (d : BlockMessage). not (is_verified says bs d)) bs) b
    (has-filter (λ (d : BlockMessage). not (is_verified says bs d)) bs b h (ap not n))

module _ (says : Answers) (x : Nights) (ranges : AreInRange x.whole.blocks) (last : ℕ) (leave : LeaveEnough says x last) where
  abbrev BlocksAt : ℕ → List BlockMessage
  BlocksAt night = (night_log x night).blocks

  abbrev AllBlocks : List BlockMessage
  AllBlocks = (so_far x last).blocks

  -- a block that a night didn't leave over is of a session that it joined
  left_behind : (night : ℕ) → night < last → (b : BlockMessage) → Has (night_log x night).blocks b → x.left night b.place ≡ false → IsJoined says (night_log x night).blocks b.session
  left_behind night low b h l =
      elim (joins_or_not (joined says (in_night x b.session night))) [
        | inl j ↦ j
        | inr n ↦ absurd (true≢false (sym ((leave night low).unjudged b (contains_from_has (BlocksAt night) b h) n) ∙ l))
      ]

  -- the last night still has the block, or some night before left it behind
  kept_or_left : (b : BlockMessage) → Has x.whole.blocks b → (night : ℕ) → x.file b.place ≤ night
      → ((before : ℕ) × (before < night) × Has (night_log x before).blocks b × (x.left before b.place ≡ false)) ⊎ Has (night_log x night).blocks b
  kept_or_left b h zero low = inr (has-night x zero b h (own_reviewed x zero b.place (omega (arith, low))))
  kept_or_left b h (suc night) low =
      elim (cases_eq (x.file b.place) (suc night)) [
        | inl own ↦ inr (has-night x (suc night) b h (own_reviewed x (suc night) b.place own))
        | inr apart ↦ next (kept_or_left b h night (omega (arith, low, apart)))
      ]
    where
      next : (((before : ℕ) × (before < night) × Has (night_log x before).blocks b × (x.left before b.place ≡ false)) ⊎ Has (night_log x night).blocks b)
          → ((before : ℕ) × (before < suc night) × Has (night_log x before).blocks b × (x.left before b.place ≡ false)) ⊎ Has (night_log x (suc night)).blocks b
      next (inl w) = inl (w.0, omega (arith, w.1), w.2, w.3)
      next (inr i) =
          elim (cases_Bool (x.left night b.place)) [
            | inl l ↦ inr (has-night x (suc night) b h (left_reviewed x night b.place (from_night x night b i).1 l))
            | inr l ↦ inl (night, omega arith, i, l)
          ]

  refused_there : JoinedStay says x last → (b : BlockMessage) → Has (so_far x last).blocks b → is_verified says (so_far x last).blocks b ≡ false
      → IsRefusedInNights says x last b.place
  refused_there stay b h n =
      let w = from_so_far x last b h in
      elim (kept_or_left b w.0 last w.1) [
        | inl o ↦ inr (
          o.0,
          o.1,
          contains_from_has (refused says (BlocksAt o.0)) b.place (has-refused says (BlocksAt o.0) b o.2
              (false_from_ne_true (is_verified says (BlocksAt o.0) b) (λ v. not_verified o.0 o.1 o.2 v o.3))),
          o.3,
        )
        | inr i ↦ inl (contains_from_has (refused says (BlocksAt last)) b.place (has-refused says (BlocksAt last) b i
            (false_from_ne_true (is_verified says (BlocksAt last) b) (λ v. at_last v (verified_joined says (BlocksAt last) b v)))))
      ]
    where
      at_last : is_verified says (night_log x last).blocks b ≡ true → IsJoined says (night_log x last).blocks b.session → ⊥
      at_last v j =
          true≢false (sym (verified_in_files says x ranges last leave last last (omega arith) (omega arith) b v
          (j.0, sym (same_joined_at says x ranges last leave last (omega arith) b.session) ∙ j.1)) ∙ n)

      not_verified : (night : ℕ) → night < last → Has (night_log x night).blocks b → is_verified says (night_log x night).blocks b ≡ true → x.left night b.place ≡ false → ⊥
      not_verified night low i v l =
          let j = stay night b low (contains_from_has (BlocksAt night) b i) v l in
          true≢false (sym (verified_in_files says x ranges last leave night last (omega (arith, low)) (omega arith) b v
          (j.0, sym (same_joined_at says x ranges last leave last (omega arith) b.session) ∙ j.1)) ∙ n)

  -- a block that a night joined and refused is refused in a review of all files
  refused_back : (night : ℕ) → night ≤ last → (b : BlockMessage) → Has (night_log x night).blocks b → is_verified says (night_log x night).blocks b ≡ false
      → (IsJoined says (so_far x last).blocks b.session → IsJoined says (night_log x night).blocks b.session)
      → Has (refused says (so_far x last).blocks) b.place
  refused_back night low b h n joins =
      has-refused says AllBlocks b (night_among says x ranges last leave night last low b h)
      (false_from_ne_true (is_verified says AllBlocks b) (λ v.
      true≢false (sym (verified_in_night says x ranges last leave night last low (omega arith) b v (joins (verified_joined says AllBlocks b v))) ∙ n)))

  pub refused_in_nights : JoinedStay says x last → (place : ℕ) → Has (refused says (so_far x last).blocks) place → IsRefusedInNights says x last place
  refused_in_nights stay place h =
      let w = from_refused says AllBlocks place h in
      subst (IsRefusedInNights says x last) w.3 (refused_there stay w.0 w.1 w.2)

  pub from_refused_in_nights : (place : ℕ) → IsRefusedInNights says x last place → Has (refused says (so_far x last).blocks) place
  from_refused_in_nights place (inl c) =
      let w = from_refused says (BlocksAt last) place (has_from_contains (refused says (BlocksAt last)) place c) in
      subst (Has (refused says AllBlocks)) w.3
      (refused_back last (omega arith) w.0 w.1 w.2 (λ j. (j.0, same_joined_at says x ranges last leave last (omega arith) w.0.session ∙ j.1)))
  from_refused_in_nights place (inr r) =
      let w = from_refused says (BlocksAt r.0) place (has_from_contains (refused says (BlocksAt r.0)) place r.2) in
      subst (Has (refused says AllBlocks)) w.3
      (refused_back r.0 (omega (arith, r.1)) w.0 w.1 w.2 (λ j. left_behind r.0 r.1 w.0 w.1 (ap (x.left r.0) w.3 ∙ r.3)))

  -- ---- spoilt messages

  from_spoilt : (night : ℕ) (s : SpoiltPlace) → Has (night_log x night).spoilt s → Has x.whole.spoilt s × (is_reviewed x night s.place ≡ true)
  from_spoilt night s h = from_has-filter (λ (t : SpoiltPlace). is_reviewed x night t.place) x.whole.spoilt s h

  has-spoilt : (night : ℕ) (s : SpoiltPlace) → Has x.whole.spoilt s → is_reviewed x night s.place ≡ true → Has (night_log x night).spoilt s
  has-spoilt night s h e = has-filter (λ (t : SpoiltPlace). is_reviewed x night t.place) x.whole.spoilt s h e

  pub spoilt_in_night : (s : SpoiltPlace) → Has (so_far x last).spoilt s → (night : ℕ) × (night ≤ last) × Has (night_log x night).spoilt s
  spoilt_in_night s h =
      let f = from_has-filter (λ (t : SpoiltPlace). nat_le (x.file t.place) last) x.whole.spoilt s h in
      (x.file s.place, leb-true (x.file s.place) last f.1, has-spoilt (x.file s.place) s f.0 (own_reviewed x (x.file s.place) s.place refl))

  pub from_spoilt_in_night : (s : SpoiltPlace) (night : ℕ) → night ≤ last → Has (night_log x night).spoilt s → Has (so_far x last).spoilt s
  from_spoilt_in_night s night low h =
      let w = from_spoilt night s h in
      let at = reviewed_file x night s.place w.1 in
      has-filter (λ (t : SpoiltPlace). nat_le (x.file t.place) last) x.whole.spoilt s w.0 (le-leb (x.file s.place) last (omega (arith, low, at)))

  -- a spoilt message is reviewed in the night of its file alone
  pub spoilt_file : (s : SpoiltPlace) (night : ℕ) → night ≤ last → Has (night_log x night).spoilt s → x.file s.place ≡ night
  spoilt_file s zero low h = let at = reviewed_file x zero s.place (from_spoilt zero s h).1 in omega (arith, at)
  spoilt_file s (suc night) low h =
      let w = from_spoilt (suc night) s h in
      elim (reviewed_cases x night s.place w.1) [
        | inl own ↦ own
        | inr old ↦ absurd (true≢false (sym old.1 ∙ (leave night (omega (arith, low))).spoilt s (contains_from_has (night_log x night).spoilt s (has-spoilt night s w.0 old.0))))
      ]

-- ---- counts

module _ (x : Nights) where
  abbrev places : List ℕ
  places = range_with_len 0 x.whole.count

  abbrev is_of : ℕ → ℕ → Bool
  is_of night place = x.file place == night

  abbrev is_left : ℕ → ℕ → Bool
  is_left night place = is_reviewed x night place && x.left night place

  -- of two tests that nothing passes both of
  either : (b c : Bool) → (b ≡ true → c ≡ true → ⊥) → cond (b || c) 1 0 ≡ cond b 1 0 + cond c 1 0
  either true true f = absurd (f refl refl)
  either true false f = refl
  either false true f = refl
  either false false f = refl

  counted_either : (f g : ℕ → Bool) → ((place : ℕ) → f place ≡ true → g place ≡ true → ⊥) → count_by (λ place. f place || g place) places ≡ count_by f places + count_by g places
  counted_either f g apart =
      sum_by-same (λ place. cond (f place || g place) 1 0) (λ place. cond (f place) 1 0 + cond (g place) 1 0) places (λ place h. either (f place) (g place) (apart place))
      ∙ sum_by-added (λ place. cond (f place) 1 0) (λ place. cond (g place) 1 0) places

  -- a night reviews its file and what was left over
  night_count : (night : ℕ) → (night_log x (suc night)).count ≡ count_by (is_of (suc night)) places + left_count x night
  night_count night =
      counted_either (is_of (suc night)) (is_left night) (λ place own old.
      (let e = eqb-true (x.file place) (suc night) own in
      let low = reviewed_file x night place (and_parts (is_reviewed x night place) (x.left night place) old).0 in
      omega (arith, e, low)))

  one_more : (night place : ℕ) → nat_le (x.file place) (suc night) ≡ (nat_le (x.file place) night || is_of (suc night) place)
  one_more night place =
      one_test (nat_le (x.file place) (suc night)) (nat_le (x.file place) night || is_of (suc night) place) there back
    where
      there : nat_le (x.file place) (suc night) ≡ true → (nat_le (x.file place) night || is_of (suc night) place) ≡ true
      there e =
          elim (cases_eq (x.file place) (suc night)) [
            | inl own ↦ or_right (nat_le (x.file place) night) (is_of (suc night) place) (eq-eqb (x.file place) (suc night) own)
            | inr apart ↦ (let low = leb-true (x.file place) (suc night) e in or_left (nat_le (x.file place) night) (is_of (suc night) place) (le-leb (x.file place) night (omega (arith, low, apart))))
          ]

      back : (nat_le (x.file place) night || is_of (suc night) place) ≡ true → nat_le (x.file place) (suc night) ≡ true
      back e =
          elim (or_cases (nat_le (x.file place) night) (is_of (suc night) place) e) [
            | inl low ↦ (let l = leb-true (x.file place) night low in le-leb (x.file place) (suc night) (omega (arith, l)))
            | inr own ↦ (let l = eqb-true (x.file place) (suc night) own in le-leb (x.file place) (suc night) (omega (arith, l)))
          ]

  files_count : (night : ℕ) → (so_far x (suc night)).count ≡ (so_far x night).count + count_by (is_of (suc night)) places
  files_count night =
      count_by-same (λ place. nat_le (x.file place) (suc night)) (λ place. nat_le (x.file place) night || is_of (suc night) place) places (λ place h. one_more night place)
      ∙ counted_either (λ place. nat_le (x.file place) night) (is_of (suc night)) (λ place low own.
      (let l = leb-true (x.file place) night low in let e = eqb-true (x.file place) (suc night) own in omega (arith, l, e)))

  first_count : (so_far x 0).count ≡ (night_log x 0).count
  first_count =
      count_by-same (λ place. nat_le (x.file place) 0) (is_reviewed x 0) places (λ place h.
      one_test (nat_le (x.file place) 0) (is_reviewed x 0 place)
      (λ e. (let l = leb-true (x.file place) 0 e in own_reviewed x 0 place (omega (arith, l))))
      (λ e. le-leb (x.file place) 0 (reviewed_file x 0 place e)))

  abbrev sum_to : (ℕ → ℕ) → ℕ → ℕ
  sum_to f n = sum_by f (range_with_len 0 n)

  range_more : (a n j : ℕ) → a + n ≡ j → range_with_len a (suc n) ≡ range_with_len a n ++ j ∷ []
  range_more a zero j e = let same : a ≡ j = omega (arith, e) in ap (λ k. k ∷ []) same
  range_more a (suc n) j e = ap (λ ks. a ∷ ks) (range_more (a + 1) n j (omega (arith, e)))

  sum_more : (f : ℕ → ℕ) (n : ℕ) → sum_to f (n + 1) ≡ sum_to f n + f n
  sum_more f n =
      let next : n + 1 ≡ suc n = omega arith in
      ap (sum_to f) next ∙ ap (sum_by f) (range_more 0 n n (omega arith)) ∙ sum_by_push f (range_with_len 0 n) n

  pub counts : (last : ℕ) → (so_far x last).count + sum_by (left_count x) (range_with_len 0 last) ≡ sum_by (λ night. (night_log x night).count) (range_with_len 0 (last + 1))
  counts zero =
      let f = first_count in
      let s = sum_more (λ night. (night_log x night).count) 0 in
      omega (arith, f, s)
  counts (suc last) =
      let before = counts last in
      let files = files_count last in
      let night = night_count last in
      let next : suc last ≡ last + 1 = omega arith in
      let left : sum_to (left_count x) (suc last) ≡ sum_to (left_count x) last + left_count x last = ap (sum_to (left_count x)) next ∙ sum_more (left_count x) last in
      let all : sum_to (λ n. (night_log x n).count) (suc last + 1) ≡ sum_to (λ n. (night_log x n).count) (suc last) + (night_log x (suc last)).count = sum_more (λ n. (night_log x n).count) (suc last) in
      let same : sum_to (λ n. (night_log x n).count) (suc last) ≡ sum_to (λ n. (night_log x n).count) (last + 1) = ap (sum_to (λ n. (night_log x n).count)) next in
      omega (arith, before, files, night, left, all, same)
