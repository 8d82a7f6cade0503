-- A number wants in one review of all files so far what it wants in the last night, or in the night that settled it.
use Rattle.std.proofs.Common.{◌≡◌, ◌⊎◌, inl, inr, ℕ, ◌<◌, ◌≤◌, Bool, true, false, cond, List, [], ◌∷◌, refl, sym, ap, ◌∙◌, subst, arith}
use Rattle.std.specs.Prelude.{◌↔◌, Option, Some, None, option_map, find, count_by, length}
use Rattle.std.proofs.lemmas.Bool.{cases_eq, false_from_ne_true}
use Rattle.std.proofs.lemmas.Option.{slice_get_within}
use Rattle.ss_block.specs.declared.hash.Hash.{Hash}
use Rattle.ss_block.specs.declared.hash.HashPair.{HashPair}
use Rattle.ss_review.specs.declared.keep.message.NormalMessage.{NormalMessage}
use Rattle.ss_review.specs.keep.Notes.{Note, notes}
use Rattle.ss_review.specs.keep.Contents.{Contents, normal_at, normals}
use Rattle.ss_review.specs.sessions.Verified.{Answers}
use Rattle.ss_review.specs.announced.Announced.{Key, Row, rows, hashes_for}
use Rattle.ss_review.specs.assign.Assigned.{same_pair, has_hash, pair_of_bearer, wanted_with, wanted}
use Rattle.ss_review.specs.announced.Announcing.{Announces, IsDisputedKey}
use Rattle.ss_review.specs.assign.Listing.{Wants}
use Rattle.ss_octets.proofs.Members.{Has, has_from_contains, contains_from_has, from_has-filter_map}
use Rattle.ss_review.proofs.of_numbers.Announcements.{numbered_from}
use Rattle.ss_review.proofs.of_lists.Counting.{same_pair-is}
use Rattle.ss_review.proofs.of_lists.EqualCounts.{count_by-none}
use Rattle.ss_review.proofs.of_lists.Finding.{find_some, find_least, bearer_of}
use Rattle.ss_review.proofs.of_kept_messages.NotesTold.{normal_place}
use Rattle.ss_review.proofs.of_assignment.OnePlaceOneKey.{only_one}
use Rattle.ss_review.proofs.of_kept_messages.PlacesRise.{normals_rise}
use Rattle.ss_laws.specs.carry.Nights.{Nights, is_reviewed, night_log, so_far, AreContents, LeaveEnough}
use Rattle.ss_laws.specs.carry.Together.{FilesFollow}
use Rattle.ss_laws.proofs.of_carry.KeysStay.{announced_for, one_hash, hashes_alike}
use Rattle.ss_laws.proofs.of_carry.NightBlocks.{reviewed_file}
use Rattle.ss_laws.proofs.of_carry.SettledCounts.{same_message, night_rise, so_far_rise}
use Rattle.ss_laws.proofs.of_carry.SettledKeys.{AgreeButLost, night_rows, dropped, from_night_normal, has-night_normal, from_so_far_normal, night_so_far, left_settled}
use Rattle.ss_review.proofs.of_assignment.StoredRuns.{PlacesRise}

-- ---- the contents of a log

normal_below : (ns : List Note) (m : NormalMessage) → Has (normals ns) m → m.place < length ns
unfolding normals
normal_below ns m h =
    let w = from_has-filter_map (λ (n : ℕ × Note). normal_at n.0 n.1) _ m h in
    let i = numbered_from 0 ns w.0 w.1 in
    let within = slice_get_within ns i.0 w.0.1 i.2 in
    let place = normal_place w.0.0 w.0.1 m w.2 in
    omega (arith, place, within, i.1)

pub contents_rise : (whole : Contents) → AreContents whole → PlacesRise whole.normal
contents_rise whole are = subst (λ (log : Contents). PlacesRise log.normal) (sym are.1) (normals_rise (notes are.0))

contents_below : (whole : Contents) → AreContents whole → (m : NormalMessage) → Has whole.normal m → m.place < whole.count
contents_below whole are = subst (λ (log : Contents). (m : NormalMessage) → Has log.normal m → m.place < log.count) (sym are.1) (normal_below (notes are.0))

-- ---- bearers

not_found : (p : NormalMessage → Bool) (b : Bool) (m : NormalMessage) (ms : List NormalMessage) → cond b (Some m) (find p ms) ≡ None → (b ≡ false) × (find p ms ≡ None)
not_found p true m ms e = absurd (cc)
not_found p false m ms e = (refl, e)

-- where no message is found, none passes
none_passes : (p : NormalMessage → Bool) (ms : List NormalMessage) → find p ms ≡ None → (m : NormalMessage) → Has ms m → p m ≡ true → ⊥
none_passes p [] e m h t = h
none_passes p (n ∷ ms) e m (inl same) t =
    let f = not_found p (p n) n ms e in
    let no : false ≡ true = sym f.0 ∙ ap p same ∙ t in cc
none_passes p (n ∷ ms) e m (inr h) t = none_passes p ms (not_found p (p n) n ms e).1 m h t

pub no_bearer : (ms : List NormalMessage) (h : Hash) → pair_of_bearer ms h ≡ None → (m : NormalMessage) → Has ms m → has_hash h m.pair ≡ true → ⊥
unfolding pair_of_bearer
no_bearer ms h e m i t = none_passes (λ n. has_hash h n.pair) ms (unmapped (find (λ n. has_hash h n.pair) ms) e) m i t
  where
    unmapped : (o : Option NormalMessage) → option_map (λ (n : NormalMessage). n.pair) o ≡ None → o ≡ None
    unmapped None e = refl
    unmapped (Some n) e = absurd (cc)

-- ---- what a night's number wants

module _ (x : Nights) (says : Answers) (up : PlacesRise x.whole.normal) (night : ℕ) (k : Key) (p : HashPair) (e : wanted (night_log x night).normal (night_rows x says night) k ≡ Some p) where
  abbrev ms : List NormalMessage
  ms = (night_log x night).normal

  -- its one hash and the bearer
  pub record WantsIt : Type 0 where
    pub hash : Hash
    pub hashes : hashes_for (night_rows x says night) k ≡ hash ∷ []
    pub found : pair_of_bearer ms hash ≡ Some p
    pub bearer : NormalMessage
    pub stored : Has ms bearer
    pub has : has_hash hash bearer.pair ≡ true
    pub first : (m : NormalMessage) → Has ms m → has_hash hash m.pair ≡ true → bearer.place ≤ m.place
    pub pair_is : bearer.pair ≡ p

  pub wants_it : WantsIt
  unfolding wanted
  wants_it =
      let w = only_one ms (hashes_for (night_rows x says night) k) p e in
      let b = bearer_of ms w.0 p w.3 in
      let f = find_some (λ (m : NormalMessage). has_hash w.0 m.pair) ms b.0 b.1 in
      record {
        hash = w.0;
        hashes = w.2;
        found = w.3;
        bearer = b.0;
        stored = f.0;
        has = f.1;
        first = find_least (λ (m : NormalMessage). has_hash w.0 m.pair) ms b.0 (night_rise x up night) b.1;
        pair_is = b.2;
      }

  abbrev pub wants_as_told : (w : WantsIt) → Wants says (night_log x night) k p
  wants_as_told w = record {
    undisputed = λ d. d.4 (one_hash says (night_log x night).blocks ms k p e d.0 d.1 d.2 d.3);
    hash = w.hash;
    announced = announced_for says (night_log x night).blocks k w.hash (subst (λ hs. Has hs w.hash) (sym w.hashes) (inl refl));
    bearer = w.bearer;
    is_bearer = record {
      stored = contains_from_has ms w.bearer w.stored;
      has = w.has;
      first = λ m c t. w.first m (has_from_contains ms m c) t;
    };
    pair_is = w.pair_is;
  }

module _ (x : Nights) (says : Answers) (are : AreContents x.whole) (follow : FilesFollow x)
    (last : ℕ) (leave : LeaveEnough says x last) (agree : AgreeButLost says x last) where
  abbrev up : PlacesRise x.whole.normal
  up = contents_rise x.whole are

  abbrev all : List NormalMessage
  all = (so_far x last).normal

  abbrev all_rows : List Row
  all_rows = rows says (so_far x last).blocks

  module _ (night : ℕ) (low : night ≤ last) (k : Key) (p : HashPair) (e : wanted (night_log x night).normal (night_rows x says night) k ≡ Some p) where
    -- a message of the files so far that has the hash and stands before the bearer has the same hashes
    earlier_pair : (w : WantsIt x says up night k p e) (z : NormalMessage) → Has all z → has_hash w.hash z.pair ≡ true → z.place < w.bearer.place → z.pair ≡ p
    earlier_pair w z h t less =
        let f = from_so_far_normal x last z h in
        let b = from_night_normal x night w.bearer w.stored in
        let file = reviewed_file x night w.bearer.place b.1 in
        let before = follow z.place w.bearer.place less (contents_below x.whole are w.bearer b.0) in
        let gone : is_reviewed x night z.place ≡ false
        = false_from_ne_true (is_reviewed x night z.place) (λ r. (let behind = w.first z (has-night_normal x night z f.0 r) t in omega (arith, behind, less))) in
        let d = dropped x night z.place (omega (arith, before, file)) gone in
        let s = left_settled x says d.0 (leave d.0 (omega (arith, d.1, low))) z (has-night_normal x d.0 z f.0 d.2) d.3 in
        agree.collision d.0 night s.0 z.place z.pair k p (wants_as_told x says up night k p e w) d.1 low s.1
        (record { message = z; stored = contains_from_has x.whole.normal z f.0; place_is = refl; pair_is = refl }) less t

    bearer_in_files : (w : WantsIt x says up night k p e) → pair_of_bearer all w.hash ≡ Some p
    unfolding pair_of_bearer
    bearer_in_files w = at (find (λ (m : NormalMessage). has_hash w.hash m.pair) all) refl
      where
        here : Has all w.bearer
        here = night_so_far x night last w.bearer low w.stored

        at : (o : Option NormalMessage) → find (λ (m : NormalMessage). has_hash w.hash m.pair) all ≡ o → option_map (λ (m : NormalMessage). m.pair) o ≡ Some p
        at None f = absurd (none_passes (λ (m : NormalMessage). has_hash w.hash m.pair) all f w.bearer here w.has)
        at (Some z) f =
            let s = find_some (λ (m : NormalMessage). has_hash w.hash m.pair) all z f in
            let least = find_least (λ (m : NormalMessage). has_hash w.hash m.pair) all z (so_far_rise x up last) f w.bearer here w.has in
            ap (λ (q : HashPair). Some q)
            (elim (cases_eq z.place w.bearer.place) [
              | inl same ↦ ap (λ (m : NormalMessage). m.pair) (same_message x up z w.bearer (from_so_far_normal x last z s.0).0 (from_night_normal x night w.bearer w.stored).0 same) ∙ w.pair_is
              | inr apart ↦ earlier_pair w z s.0 s.1 (omega (arith, least, apart))
            ])

    -- where the files so far announce for the number what the night does, it wants the same there
    pub wanted_in_files : ((h : Hash) → Announces says (so_far x last).blocks k h ↔ Announces says (night_log x night).blocks k h) → wanted all all_rows k ≡ Some p
    unfolding wanted
    wanted_in_files same =
        let w = wants_it x says up night k p e in
        ap (wanted_with all) (hashes_alike says (so_far x last).blocks (night_log x night).blocks k same ∙ w.hashes) ∙ bearer_in_files w

  -- what a number wants in the files so far that the last night announces alike, it wants in the last night, or no message with these hashes is left there
  module _ (k : Key) (same : (h : Hash) → Announces says (so_far x last).blocks k h ↔ Announces says (night_log x last).blocks k h) (p : HashPair) (e : wanted all all_rows k ≡ Some p) where
    -- the hash that it has
    pub record WantsByHash : Type 0 where
      pub hash : Hash
      pub announced : Announces says (night_log x last).blocks k hash
      pub undisputed : ¬ IsDisputedKey says (night_log x last).blocks k
      pub has : has_hash hash p ≡ true
      pub wanted_is : wanted (night_log x last).normal (night_rows x says last) k ≡ pair_of_bearer (night_log x last).normal hash

    pub wants_by_hash : WantsByHash
    unfolding wanted
    wants_by_hash =
        let w = only_one all (hashes_for all_rows k) p e in
        let b = bearer_of all w.0 p w.3 in
        let f = find_some (λ (m : NormalMessage). has_hash w.0 m.pair) all b.0 b.1 in
        let hashes = sym (hashes_alike says (so_far x last).blocks (night_log x last).blocks k same) ∙ w.2 in
        record {
          hash = w.0;
          announced = (same w.0).0 (announced_for says (so_far x last).blocks k w.0 w.1);
          undisputed = λ d. d.4 (one_hash says (so_far x last).blocks all k p e d.0 d.1 ((same d.0).1 d.2) ((same d.1).1 d.3));
          has = subst (λ q. has_hash w.0 q ≡ true) b.2 f.1;
          wanted_is = ap (wanted_with (night_log x last).normal) hashes;
        }

    pub wanted_at_last : (wanted (night_log x last).normal (night_rows x says last) k ≡ Some p) ⊎ (count_by (λ (m : NormalMessage). same_pair m.pair p) (night_log x last).normal ≡ 0)
    wanted_at_last = at (wanted (night_log x last).normal (night_rows x says last) k) refl
      where
        at : (o : Option HashPair) → wanted (night_log x last).normal (night_rows x says last) k ≡ o
            → (wanted (night_log x last).normal (night_rows x says last) k ≡ Some p) ⊎ (count_by (λ (m : NormalMessage). same_pair m.pair p) (night_log x last).normal ≡ 0)
        at (Some q) f = inl (f ∙ sym (wanted_in_files last (omega arith) k q f same) ∙ e)
        at None f = inr (count_by-none (λ (m : NormalMessage). same_pair m.pair p) (night_log x last).normal (λ m h.
            false_from_ne_true (same_pair m.pair p) (λ t.
            (let w = wants_by_hash in
            no_bearer (night_log x last).normal w.hash (sym w.wanted_is ∙ f) m h (ap (has_hash w.hash) (same_pair-is m.pair p t) ∙ w.has)))))
