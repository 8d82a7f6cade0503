-- Which numbers are listed in a log to which strangers added messages.
use Rattle.std.proofs.Common.{◌≡◌, ◌⊎◌, inl, inr, ℕ, ◌<◌, ◌≤◌, Bool, true, false, cond, ◌&&◌, List, [], ◌∷◌, length, refl, sym, ap, ◌∙◌, subst, arith}
use Rattle.std.specs.Prelude.{Some, None, Ok, option_map, find}
use Rattle.std.specs.Ordering.{is_lt}
use Rattle.std.proofs.lemmas.Bool.{and_parts, and_from}
use Rattle.std.proofs.lemmas.Option.{slice_get_cases, slice_get_within}
use Rattle.ss_block.specs.declared.hash.Hash.{Hash}
use Rattle.ss_block.specs.declared.hash.HashPair.{HashPair}
use Rattle.ss_review.specs.declared.keep.message.NormalMessage.{NormalMessage}
use Rattle.ss_review.specs.declared.report.entry.Why.TheVariants as whys
use Rattle.ss_review.specs.announced.Announced.{Key, Row, key_cmp, keys, hashes_for}
use Rattle.ss_review.specs.announced.Announcing.{Announces}
use Rattle.ss_review.specs.assign.Assigned.{has_hash, is_pair, pair_of_bearer, places_with, wanted_with, wanted, rank, place_of, assigned}
use Rattle.ss_review.specs.keep.Contents.{Contents}
use Rattle.ss_review.specs.report.Meaning.{IsListed, IsGap}
use Rattle.ss_review.specs.report.Report.{report_of}
use Rattle.ss_review.specs.sessions.Verified.{Answers}
use Rattle.ss_octets.proofs.Members.{Has, contains_from_has}
use Rattle.ss_review.proofs.of_assignment.OnePlaceOneKey.{only_one, wanted_key, assigned_cases, from_has-places_with, count_by-weaker}
use Rattle.ss_review.proofs.of_kept_messages.AmongEqual.{with_itself}
use Rattle.ss_review.proofs.of_lists.CountsWithin.{count_within}
use Rattle.ss_review.proofs.of_lists.Finding.{find_some, bearer_of}
use Rattle.ss_review.proofs.of_lists.Keyed.{has-slice_get}
use Rattle.ss_review.proofs.of_lists.TotalOrders.{key_cmp_total}
use Rattle.ss_review.proofs.of_numbers.Announcements.{announced_row, announced_key, from_has-hashes_for, keys-rise}
use Rattle.ss_review.proofs.of_reports.Listings.{listed_assigned, assigned_listed, gap_told}
use Rattle.ss_review.proofs.of_reports.Witnesses.{verified_cases}
use Rattle.ss_laws.proofs.of_carry.OnePair.{is_pair-some}
use Rattle.ss_review.specs.pinned.Pinned.{pinned_contents, pinned_report}
use Rattle.ss_laws.specs.strangers.StateLaws.{pinned_joined}
use Rattle.ss_laws.specs.strangers.Strangers.{IsAddedTo, IsStill, JoinedAreClaimed, HasMoreOf}
use Rattle.ss_laws.proofs.of_strangers.MoreBlocks.{K, rs, rs_more, key_before, key_still, same_hashes, claimed_stays}
use Rattle.ss_laws.proofs.of_ahead.Reported.{told_in}
use Rattle.ss_laws.proofs.of_parts.PartAssigned.{is_pair-is}

-- ---- messages with a hash

found_at : (p : NormalMessage → Bool) (b : Bool) (m : NormalMessage) (ms : List NormalMessage) → (b ≡ false → (f : NormalMessage) × (find p ms ≡ Some f)) → (f : NormalMessage) × (cond b (Some m) (find p ms) ≡ Some f)
found_at p true m ms rest = (m, refl)
found_at p false m ms rest = rest refl

-- where a message passes, one is found
found : (p : NormalMessage → Bool) (ms : List NormalMessage) (q : NormalMessage) → Has ms q → p q ≡ true → (f : NormalMessage) × (find p ms ≡ Some f)
found p [] q h t = absurd h
found p (m ∷ ms) q (inl e) t = found_at p (p m) m ms (λ no. absurd (let bad : true ≡ false = sym t ∙ ap p (sym e) ∙ no in cc))
found p (m ∷ ms) q (inr h) t = found_at p (p m) m ms (λ no. found p ms q h t)

-- where a message has the hash, there is a bearer, which has it too
bears : (ms : List NormalMessage) (h : Hash) (q : NormalMessage) → Has ms q → has_hash h q.pair ≡ true
    → (b : NormalMessage) × Has ms b × (has_hash h b.pair ≡ true) × (pair_of_bearer ms h ≡ Some b.pair)
unfolding pair_of_bearer
bears ms h q i t =
    let w = found (λ (m : NormalMessage). has_hash h m.pair) ms q i t in
    let f = find_some (λ (m : NormalMessage). has_hash h m.pair) ms w.0 w.1 in
    (w.0, f.0, f.1, ap (option_map (λ (m : NormalMessage). m.pair)) w.1)

bearer : (ms : List NormalMessage) (h : Hash) (p : HashPair) → pair_of_bearer ms h ≡ Some p → (b : NormalMessage) × Has ms b × (has_hash h b.pair ≡ true) × (b.pair ≡ p)
bearer ms h p e =
    let w = bearer_of ms h p e in
    let f = find_some (λ (m : NormalMessage). has_hash h m.pair) ms w.0 w.1 in
    (w.0, f.0, f.1, w.2)

-- how many messages have two hashes
some_place : {X : Type 0} (xs : List X) → 1 ≤ length xs → (x : X) × Has xs x
some_place [] some = absurd (omega (arith, some))
some_place (x ∷ xs) some = (x, inl refl)

one_at_least : {X : Type 0} (xs : List X) (x : X) → Has xs x → 1 ≤ length xs
one_at_least [] x h = absurd h
one_at_least (y ∷ xs) x h = omega arith

none_or_one : {X : Type 0} (xs : List X) → (length xs ≡ 0) ⊎ ((x : X) × Has xs x)
none_or_one [] = inl refl
none_or_one (x ∷ xs) = inr (x, inl refl)

module _ (says : Answers) (ps : List (List ℕ)) (log more : Contents) (is : IsAddedTo says ps log more) where
  abbrev ms : List NormalMessage
  ms = log.normal

  abbrev ns : List NormalMessage
  ns = more.normal

  abbrev old : List Row
  old = rs says ps log more is

  abbrev new : List Row
  new = rs_more says ps log more is

  abbrev IsSame : Key → Type 0
  IsSame k = pinned_joined says ps more.blocks k.session ≡ pinned_joined says ps log.blocks k.session

  -- each pair of hashes stays
  pair_stays : (m : NormalMessage) → Has ms m → (n : NormalMessage) × Has ns n × (n.pair ≡ m.pair)
  pair_stays m h =
      let here = one_at_least (places_with ms m.pair) m.place (with_itself ms m h) in
      let fewer = is.has_more.messages m.pair in
      let w = some_place (places_with ns m.pair) (omega (arith, here, fewer)) in
      let n = from_has-places_with ns old m.pair w.0 w.1 in
      (n.0, n.1, n.2)

  -- messages with an announced hash have one pair
  one_pair : (k : Key) (h : Hash) (m n : NormalMessage) → Announces says (K says ps log more is) k h → Has ns m → Has ns n → has_hash h m.pair ≡ true → has_hash h n.pair ≡ true → m.pair ≡ n.pair
  one_pair k h m n a i j s t = is.pairs k h m n a (contains_from_has ns m i) (contains_from_has ns n j) s t

  -- ---- what a key wants

  -- what it wants, it still wants
  wants_still : (k : Key) (p : HashPair) → IsSame k → wanted ms old k ≡ Some p → wanted ns new k ≡ Some p
  unfolding wanted
  wants_still k p same e =
      let w = only_one ms (hashes_for old k) p e in
      let h = w.0 in
      let a = announced_row says (K says ps log more is) (record { key = k; hash = h }) (from_has-hashes_for old k h w.1) in
      let b = bearer ms h p w.3 in
      let n = pair_stays b.0 b.1 in
      let t : has_hash h n.0.pair ≡ true = ap (has_hash h) n.2 ∙ b.2 in
      let f = bears ns h n.0 n.1 t in
      let pair_is : f.0.pair ≡ p = one_pair k h f.0 n.0 a f.1 n.1 f.2 t ∙ n.2 ∙ b.3 in
      ap (wanted_with ns) (same_hashes says ps log more is k same ∙ w.2) ∙ f.3 ∙ ap (λ (q : HashPair). Some q) pair_is

  -- and what it wants now, it wanted before, if a message with these hashes was there
  wanted_before : (k : Key) (p : HashPair) (m : NormalMessage) → Has ms m → m.pair ≡ p → IsSame k → wanted ns new k ≡ Some p → wanted ms old k ≡ Some p
  unfolding wanted
  wanted_before k p m i m_is same e =
      let w = only_one ns (hashes_for new k) p e in
      let h = w.0 in
      let hs : hashes_for old k ≡ h ∷ [] = sym (same_hashes says ps log more is k same) ∙ w.2 in
      let a = announced_row says (K says ps log more is) (record { key = k; hash = h }) (from_has-hashes_for old k h (subst (λ gs. Has gs h) (sym hs) (inl refl))) in
      let b = bearer ns h p w.3 in
      let t : has_hash h m.pair ≡ true = ap (has_hash h) (m_is ∙ sym b.3) ∙ b.2 in
      let f = bears ms h m i t in
      let n = pair_stays f.0 f.1 in
      let u : has_hash h n.0.pair ≡ true = ap (has_hash h) n.2 ∙ f.2 in
      let pair_is : f.0.pair ≡ p = sym n.2 ∙ one_pair k h n.0 b.0 a n.1 b.1 u b.2 ∙ b.3 in
      ap (wanted_with ms) hs ∙ f.3 ∙ ap (λ (q : HashPair). Some q) pair_is

  -- a key that wants something now is one of a session that has the state that it had
  wanting_same : (k : Key) (p : HashPair) → wanted ns new k ≡ Some p → Has (keys old) k × IsSame k
  wanting_same k p e = key_before says ps log more is k (wanted_key ns new k p e)

  -- ---- ranks

  abbrev wants_below : List NormalMessage → List Row → Key → HashPair → Key → Bool
  wants_below os qs k p j = is_lt (key_cmp j k) && is_pair p (wanted os qs j)

  -- no more smaller keys want a message than before
  rank_falls : (k : Key) (p : HashPair) (m : NormalMessage) → Has ms m → m.pair ≡ p → rank ns new k p ≤ rank ms old k p
  unfolding rank
  rank_falls k p m i m_is =
      let now = wants_below ns new k p in
      let past = wants_below ms old k p in
      let before : (j : Key) → now j ≡ true → Has (keys old) j × (past j ≡ true)
      = λ j t.
      (let both = and_parts (is_lt (key_cmp j k)) (is_pair p (wanted ns new j)) t in
      let wants = is_pair-is p (wanted ns new j) both.1 in
      let same = wanting_same j p wants in
      (same.0, and_from (is_lt (key_cmp j k)) (is_pair p (wanted ms old j)) both.0 (is_pair-some p (wanted ms old j) (wanted_before j p m i m_is same.1 wants)))) in
      let fewer = count_within key_cmp_total now (keys new) (keys old) (keys-rise new) (λ j h t. (before j t).0) in
      let weaker = count_by-weaker now past (λ j t. (before j t).1) (keys old) in
      omega (arith, fewer, weaker)

  -- where all that were joined have the state that they had, as many do
  rank_stays : ((j : Key) → Has (keys old) j → IsSame j) → (k : Key) (p : HashPair) → rank ms old k p ≤ rank ns new k p
  unfolding rank
  rank_stays stay k p =
      let now = wants_below ns new k p in
      let past = wants_below ms old k p in
      let after : (j : Key) → past j ≡ true → Has (keys new) j × (now j ≡ true)
      = λ j t.
      (let both = and_parts (is_lt (key_cmp j k)) (is_pair p (wanted ms old j)) t in
      let wants = is_pair-is p (wanted ms old j) both.1 in
      let there = wanted_key ms old j p wants in
      let same = stay j there in
      (key_still says ps log more is j same there, and_from (is_lt (key_cmp j k)) (is_pair p (wanted ns new j)) both.0 (is_pair-some p (wanted ns new j) (wants_still j p same wants)))) in
      let fewer = count_within key_cmp_total past (keys old) (keys new) (keys-rise old) (λ j h t. (after j t).0) in
      let weaker = count_by-weaker past now (λ j t. (after j t).1) (keys new) in
      omega (arith, fewer, weaker)

  -- ---- what is listed

  abbrev old_report : Contents
  old_report = pinned_contents says ps log

  abbrev new_report : Contents
  new_report = pinned_contents says ps more

  pub listed_still : (k : Key) (place : ℕ) → IsSame k → IsListed (pinned_report says ps log) k place → IsStill says ps log more k place
  unfolding assigned
  listed_still k place same l =
      let a = assigned_cases ms old k place (listed_assigned says old_report k place (told_in (pinned_report says ps log) (report_of says old_report) k.session k.group _ refl l)) in
      let p = a.0 in
      let m = from_has-places_with ms old p place (has-slice_get (places_with ms p) (rank ms old k p) place a.2) in
      let within = slice_get_within (places_with ms p) (rank ms old k p) place a.2 in
      let fewer = rank_falls k p m.0 m.1 m.2 in
      let many = is.has_more.messages p in
      elim (slice_get_cases (places_with ns p) (rank ns new k p)).1 [
        | inr past ↦ absurd (let beyond = past.0 in omega (arith, within, fewer, many, beyond))
        | inl w ↦ (
            let n = from_has-places_with ns new p w.0 (has-slice_get (places_with ns p) (rank ns new k p) w.0 w.2) in
            let given : assigned ns new k ≡ Some n.0.place = ap (place_of ns new k) (wants_still k p same a.1) ∙ w.2 ∙ ap (λ (i : ℕ). Some i) (sym n.3) in
            record {
              message = m.0;
              stored = contains_from_has ms m.0 m.1;
              place_is = m.3;
              now = n.0;
              stored_now = contains_from_has ns n.0 n.1;
              listed_now = told_in (report_of says new_report) (pinned_report says ps more) k.session k.group _ refl (assigned_listed says new_report k n.0.place given);
              same = n.2 ∙ sym m.2;
            })
      ]

  -- ---- what is listed anew

  joined_same : JoinedAreClaimed says ps log.blocks → (j : Key) → Has (keys old) j → IsSame j
  joined_same claimed j h =
      let a = announced_key says (K says ps log more is) j h in
      let v = verified_cases says (K says ps log more is) a.1.message a.1.verified in
      let under : pinned_joined says ps log.blocks j.session ≡ Ok v.0 = ap (λ s. pinned_joined says ps log.blocks s) (sym a.1.session_is) ∙ v.1 in
      let c = claimed j.session v.0 under in
      claimed_stays says ps log more is j.session c.0 c.1

  pub listed_anew : JoinedAreClaimed says ps log.blocks → (k : Key) (place : ℕ) → IsGap (pinned_report says ps log) k whys.Lost → IsListed (pinned_report says ps more) k place → HasMoreOf log more place
  unfolding assigned
  listed_anew claimed k place g l =
      let gap = gap_told says old_report k whys.Lost (told_in (pinned_report says ps log) (report_of says old_report) k.session k.group _ refl g) in
      let a = assigned_cases ns new k place (listed_assigned says new_report k place (told_in (pinned_report says ps more) (report_of says new_report) k.session k.group _ refl l)) in
      let p = a.0 in
      let n = from_has-places_with ns new p place (has-slice_get (places_with ns p) (rank ns new k p) place a.2) in
      let within = slice_get_within (places_with ns p) (rank ns new k p) place a.2 in
      let stays = rank_stays (joined_same claimed) k p in
      let more_of : length (places_with ms p) < length (places_with ns p)
      = elim (none_or_one (places_with ms p)) [
        | inl none ↦ omega (arith, none, within)
        | inr w ↦ (
            let m = from_has-places_with ms old p w.0 w.1 in
            let wants = wanted_before k p m.0 m.1 m.2 (joined_same claimed k gap.0) a.1 in
            elim (slice_get_cases (places_with ms p) (rank ms old k p)).1 [
              | inl there ↦ absurd (let no : None ≡ Some there.0 = sym gap.1 ∙ ap (place_of ms old k) wants ∙ there.2 in cc)
              | inr beyond ↦ (let end = beyond.0 in omega (arith, end, stays, within))
            ])
      ] in
      record {
        message = n.0;
        stored = contains_from_has ns n.0 n.1;
        place_is = n.3;
        as_many = subst (λ (q : HashPair). length (places_with ms q) < length (places_with ns q)) (sym n.2) more_of;
      }
