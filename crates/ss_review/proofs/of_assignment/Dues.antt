-- A key is assigned a place exactly where it is due: it wants the hashes of the message there, and as many smaller keys
-- want them as messages with them stand before it.
use Rattle.std.proofs.Common.{◌≡◌, inl, inr, ℕ, zero, suc, ◌<◌, ◌≤◌, Bool, true, false, cond, ◌&&◌, List, [], ◌∷◌, length, map, filter, refl, sym, ap, ◌∙◌, subst, arith}
use Rattle.std.specs.Prelude.{Option, Some, None, Contains, nat_lt, slice_get, option_map}
use Rattle.std.specs.declared.cmp.Ordering.TheVariants.{Less}
use Rattle.std.specs.Ordering.{nat_cmp, is_lt}
use Rattle.std.specs.List.{AllByRecursion}
use Rattle.std.specs.List.Sorted.{IsStrictlySortedBy}
use Rattle.std.proofs.lemmas.Bool.{ltb-true, ltb-false, lt-ltb, and_parts, and_from, false_from_ne_true}
use Rattle.std.proofs.lemmas.Cmp.{nat_cmp_total}
use Rattle.std.proofs.lemmas.List.Kept.{IsStrictlySortedBy-filter}
use Rattle.std.proofs.lemmas.List.Sums.{length-filter}
use Rattle.ss_block.specs.declared.hash.Hash.{Hash}
use Rattle.ss_block.specs.declared.hash.HashPair.{HashPair}
use Rattle.ss_review.specs.declared.keep.message.NormalMessage.{NormalMessage}
use Rattle.ss_review.specs.keep.Notes.{Note}
use Rattle.ss_review.specs.keep.Contents.{normals, blocks, contents}
use Rattle.ss_review.specs.sessions.Verified.{Answers}
use Rattle.ss_review.specs.announced.Announced.{Key, Row, key_cmp, rows, keys, hashes_for}
use Rattle.ss_review.specs.assign.Assigned.{has_hash, same_pair, is_pair, pair_of_bearer, places_with, wanted_with, wanted, rank, place_of, assigned}
use Rattle.ss_review.specs.assign.Listing.{IsBearer, Wants, StandsBefore, IsDue}
use Rattle.ss_review.proofs.of_numbers.Announcements.{announced_row, has-rows, keys-rise, from_has-hashes_for, has-hashes_for, disputed_key, has-disputed_key}
use Rattle.ss_review.proofs.of_lists.Counting.{same_pair-is, same_itself}
use Rattle.ss_review.proofs.of_lists.Finding.{find_some, find_least, finds, bearer_of}
use Rattle.ss_review.proofs.of_lists.Keyed.{from_less, slice_get-has, has-slice_get}
use Rattle.ss_octets.proofs.Members.{Has, has_from_contains, contains_from_has, has-map, has-filter, from_has-filter, all-has}
use Rattle.ss_review.proofs.of_assignment.OnePlaceOneKey.{wanted_key, assigned_cases, from_has-places_with, places_with-rise, only_one}
use Rattle.ss_review.proofs.of_kept_messages.PlacesRise.{normals_rise}
use Rattle.ss_review.proofs.of_lists.Rising.{same_members}
use Rattle.ss_review.proofs.of_lists.TotalOrders.{key_cmp_total, less_is}

abbrev place_of_message : NormalMessage → ℕ
place_of_message m = m.place

abbrev PlacesRise : List NormalMessage → Type 0
PlacesRise ms = IsStrictlySortedBy nat_cmp (map place_of_message ms)

-- ---- the bearer of a hash

-- what is found are the hashes of the bearer
bearer_found : (ms : List NormalMessage) (h : Hash) (p : HashPair) → PlacesRise ms → pair_of_bearer ms h ≡ Some p → (b : NormalMessage) × IsBearer ms h b × (b.pair ≡ p)
bearer_found ms h p up e =
    let w = bearer_of ms h p e in
    let found = find_some (λ m. has_hash h m.pair) ms w.0 w.1 in (
      w.0,
      record {
        stored = contains_from_has ms w.0 found.0;
        has = found.1;
        first = λ n c t. find_least (λ m. has_hash h m.pair) ms w.0 up w.1 n (has_from_contains ms n c) t;
      },
      w.2,
    )

-- and the hashes of the bearer are found
finds_bearer : (ms : List NormalMessage) (h : Hash) (b : NormalMessage) → PlacesRise ms → IsBearer ms h b → pair_of_bearer ms h ≡ Some b.pair
unfolding pair_of_bearer
finds_bearer ms h b up is =
    ap (option_map (λ (m : NormalMessage). m.pair))
    (finds (λ m. has_hash h m.pair) ms b up (has_from_contains ms b is.stored) is.has (λ n i t. is.first n (contains_from_has ms n i) t))

-- ---- what a key wants

single : (hs : List Hash) (h : Hash) → Has hs h → nat_lt 1 (length hs) ≡ false → hs ≡ h ∷ []
single [] h i f = absurd i
single (x ∷ []) h (inl e) f = ap (λ (y : Hash). y ∷ []) e
single (x ∷ []) h (inr i) f = absurd i
single (x ∷ y ∷ hs) h i f = let short : length (x ∷ y ∷ hs) ≤ 1 = ltb-false 1 (length (x ∷ y ∷ hs)) f in absurd (omega (arith, short))

module _ (says : Answers) (ns : List Note) where
  abbrev all_rows : List Row
  all_rows = rows says (blocks ns)

  wanted_wants : (k : Key) (p : HashPair) → wanted (normals ns) all_rows k ≡ Some p → Wants says (contents ns) k p
  unfolding wanted
  wanted_wants k p e =
      let w = only_one (normals ns) (hashes_for all_rows k) p e in
      let b = bearer_found (normals ns) w.0 p (normals_rise ns) w.3 in
      record {
        undisputed = λ d. (let bad : true ≡ false = sym (has-disputed_key says (blocks ns) k d) ∙ ap (λ (hs : List Hash). nat_lt 1 (length hs)) w.2 in cc);
        hash = w.0;
        announced = announced_row says (blocks ns) (record { key = k; hash = w.0 }) (from_has-hashes_for all_rows k w.0 w.1);
        bearer = b.0;
        is_bearer = b.1;
        pair_is = b.2;
      }

  wants_wanted : (k : Key) (p : HashPair) → Wants says (contents ns) k p → wanted (normals ns) all_rows k ≡ Some p
  unfolding wanted
  wants_wanted k p w =
      let mine : Has (hashes_for all_rows k) w.hash = has-hashes_for all_rows k w.hash (has-rows says (blocks ns) k w.hash w.announced) in
      let alone : nat_lt 1 (length (hashes_for all_rows k)) ≡ false
      = false_from_ne_true (nat_lt 1 (length (hashes_for all_rows k))) (λ t. w.undisputed (disputed_key says (blocks ns) k t)) in
      ap (wanted_with (normals ns)) (single (hashes_for all_rows k) w.hash mine alone)
      ∙ finds_bearer (normals ns) w.hash w.bearer (normals_rise ns) w.is_bearer
      ∙ ap (λ (q : HashPair). Some q) w.pair_is

-- ---- tests

is_pair_is : (p : HashPair) (o : Option HashPair) → is_pair p o ≡ true → o ≡ Some p
is_pair_is p None e = absurd (cc)
is_pair_is p (Some q) e = ap (λ (r : HashPair). Some r) (same_pair-is q p e)

-- ---- the smaller keys that want the same

module _ (says : Answers) (ns : List Note) (k : Key) (p : HashPair) where
  abbrev is_smaller : Key → Bool
  is_smaller j = is_lt (key_cmp j k) && is_pair p (wanted (normals ns) (all_rows says ns) j)

  abbrev smaller_keys : List Key
  smaller_keys = filter is_smaller (keys (all_rows says ns))

  smaller_rise : IsStrictlySortedBy key_cmp smaller_keys
  smaller_rise = IsStrictlySortedBy-filter key_cmp is_smaller (keys (all_rows says ns)) (keys-rise (all_rows says ns))

  length-smaller : length smaller_keys ≡ rank (normals ns) (all_rows says ns) k p
  unfolding rank
  length-smaller = length-filter is_smaller (keys (all_rows says ns))

  from_has-smaller : (j : Key) → Has smaller_keys j → (key_cmp j k ≡ Less) × Wants says (contents ns) j p
  from_has-smaller j h =
      let f = from_has-filter is_smaller (keys (all_rows says ns)) j h in
      let both = and_parts (is_lt (key_cmp j k)) (is_pair p (wanted (normals ns) (all_rows says ns) j)) f.1 in
      (less_is (key_cmp j k) both.0, wanted_wants says ns j p (is_pair_is p (wanted (normals ns) (all_rows says ns) j) both.1))

  has-smaller : (j : Key) → (key_cmp j k ≡ Less) × Wants says (contents ns) j p → Has smaller_keys j
  has-smaller j w =
      let e = wants_wanted says ns j p w.1 in
      has-filter is_smaller (keys (all_rows says ns)) j (wanted_key (normals ns) (all_rows says ns) j p e)
      (and_from (is_lt (key_cmp j k)) (is_pair p (wanted (normals ns) (all_rows says ns) j)) (ap is_lt w.0) (ap (is_pair p) e ∙ same_itself p))

-- ---- the places before one

none_below : (place : ℕ) (q : ℕ) (ps : List ℕ) → place ≤ q → AllByRecursion (λ r. nat_cmp q r ≡ Less) ps → length (filter (λ r. nat_lt r place) ps) ≡ 0
none_below place q [] le a = refl
none_below place q (r ∷ ps) le a =
    let above : q < r = from_less q r a.0 in
    let not_before : nat_lt r place ≡ false = false_from_ne_true (nat_lt r place) (λ t. (let l : r < place = ltb-true r place t in omega (arith, l, above, le))) in
    ap (λ b. length (cond b (r ∷ filter (λ r. nat_lt r place) ps) (filter (λ r. nat_lt r place) ps))) not_before
    ∙ none_below place q ps le a.1

-- the place with a number in a list that rises has as many before it
place_index : (ps : List ℕ) → IsStrictlySortedBy nat_cmp ps → (i place : ℕ) → slice_get ps i ≡ Some place → length (filter (λ q. nat_lt q place) ps) ≡ i
unfolding IsStrictlySortedBy
place_index [] up i place e = absurd (cc)
place_index (q ∷ ps) up zero place e =
    let here : q ≡ place = cc in
    let not_before : nat_lt q place ≡ false = false_from_ne_true (nat_lt q place) (λ t. (let l : q < place = ltb-true q place t in omega (arith, l, here))) in
    ap (λ b. length (cond b (q ∷ filter (λ r. nat_lt r place) ps) (filter (λ r. nat_lt r place) ps))) not_before
    ∙ none_below place q ps (omega (arith, here)) up.0
place_index (q ∷ ps) up (suc i) place e =
    let below : q < place = from_less q place (all-has (λ r. nat_cmp q r ≡ Less) ps place up.0 (has-slice_get ps i place e)) in
    let rest : length (filter (λ r. nat_lt r place) ps) ≡ i = place_index ps up.1 i place e in
    ap (λ b. length (cond b (q ∷ filter (λ r. nat_lt r place) ps) (filter (λ r. nat_lt r place) ps))) (lt-ltb q place below)
    ∙ ap suc rest

module _ (says : Answers) (ns : List Note) (p : HashPair) (place : ℕ) where
  abbrev places_before : List ℕ
  places_before = filter (λ q. nat_lt q place) (places_with (normals ns) p)

  before_rise : IsStrictlySortedBy nat_cmp places_before
  before_rise = IsStrictlySortedBy-filter nat_cmp (λ q. nat_lt q place) (places_with (normals ns) p) (places_with-rise (normals ns) (all_rows says ns) p (normals_rise ns))

  from_has-before : (q : ℕ) → Has places_before q → StandsBefore (contents ns) p place q
  from_has-before q h =
      let f = from_has-filter (λ q. nat_lt q place) (places_with (normals ns) p) q h in
      let m = from_has-places_with (normals ns) (all_rows says ns) p q f.0 in
      (ltb-true q place f.1, (m.0, contains_from_has (normals ns) m.0 m.1, m.3, m.2))

  pub has-places_with : (m : NormalMessage) → Has (normals ns) m → m.pair ≡ p → Has (places_with (normals ns) p) m.place
  unfolding places_with
  has-places_with m h e =
      has-map place_of_message (filter (λ (n : NormalMessage). same_pair n.pair p) (normals ns)) m
      (has-filter (λ (n : NormalMessage). same_pair n.pair p) (normals ns) m h (ap (λ (q : HashPair). same_pair q p) e ∙ same_itself p))

  has-before : (q : ℕ) → StandsBefore (contents ns) p place q → Has places_before q
  has-before q s =
      has-filter (λ q. nat_lt q place) (places_with (normals ns) p) q
      (subst (Has (places_with (normals ns) p)) s.1.2 (has-places_with s.1.0 (has_from_contains (normals ns) s.1.0 s.1.1) s.1.3))
      (lt-ltb q place s.0)

-- ---- what is due

module _ (says : Answers) (ns : List Note) (k : Key) (place : ℕ) where
  due_with : (m : NormalMessage) → Has (normals ns) m → m.place ≡ place → wanted (normals ns) (all_rows says ns) k ≡ Some m.pair → slice_get (places_with (normals ns) m.pair) (rank (normals ns) (all_rows says ns) k m.pair) ≡ Some place → IsDue says (contents ns) k place
  due_with m h at w e = record {
    message = m;
    stored = contains_from_has (normals ns) m h;
    place_is = at;
    wants = wanted_wants says ns k m.pair w;
    smaller = smaller_keys says ns k m.pair;
    smaller_rise = smaller_rise says ns k m.pair;
    smaller_are = λ j. (from_has_contained j, contained_from_has j);
    before = places_before says ns m.pair place;
    before_rise = before_rise says ns m.pair place;
    before_are = λ q. (
      λ c. from_has-before says ns m.pair place q (has_from_contains (places_before says ns m.pair place) q c),
      λ s. contains_from_has (places_before says ns m.pair place) q (has-before says ns m.pair place q s),
    );
    as_many =
        length-smaller says ns k m.pair
        ∙ sym (place_index (places_with (normals ns) m.pair) (places_with-rise (normals ns) (all_rows says ns) m.pair (normals_rise ns)) (rank (normals ns) (all_rows says ns) k m.pair) place e);
  }
    where
      from_has_contained : (j : Key) → Contains (smaller_keys says ns k m.pair) j → (key_cmp j k ≡ Less) × Wants says (contents ns) j m.pair
      from_has_contained j c = from_has-smaller says ns k m.pair j (has_from_contains (smaller_keys says ns k m.pair) j c)

      contained_from_has : (j : Key) → (key_cmp j k ≡ Less) × Wants says (contents ns) j m.pair → Contains (smaller_keys says ns k m.pair) j
      contained_from_has j w = contains_from_has (smaller_keys says ns k m.pair) j (has-smaller says ns k m.pair j w)

  pub assigned_due : assigned (normals ns) (all_rows says ns) k ≡ Some place → IsDue says (contents ns) k place
  assigned_due e =
      let a = assigned_cases (normals ns) (all_rows says ns) k place e in
      let m = from_has-places_with (normals ns) (all_rows says ns) a.0 place (has-slice_get (places_with (normals ns) a.0) (rank (normals ns) (all_rows says ns) k a.0) place a.2) in
      due_with m.0 m.1 m.3 (a.1 ∙ ap (λ (q : HashPair). Some q) (sym m.2))
      (subst (λ q. slice_get (places_with (normals ns) q) (rank (normals ns) (all_rows says ns) k q) ≡ Some place) (sym m.2) a.2)

  pub due_assigned : IsDue says (contents ns) k place → assigned (normals ns) (all_rows says ns) k ≡ Some place
  unfolding assigned
  due_assigned d =
      let p = d.message.pair in
      let all_smaller : d.smaller ≡ smaller_keys says ns k p
      = same_members key_cmp_total d.smaller (smaller_keys says ns k p) d.smaller_rise (smaller_rise says ns k p)
      (λ j h. has-smaller says ns k p j ((d.smaller_are j).0 (contains_from_has d.smaller j h)))
      (λ j h. has_from_contains d.smaller j ((d.smaller_are j).1 (from_has-smaller says ns k p j h))) in
      let all_before : d.before ≡ places_before says ns p place
      = same_members nat_cmp_total d.before (places_before says ns p place) d.before_rise (before_rise says ns p place)
      (λ q h. has-before says ns p place q ((d.before_are q).0 (contains_from_has d.before q h)))
      (λ q h. has_from_contains d.before q ((d.before_are q).1 (from_has-before says ns p place q h))) in
      let here : Has (places_with (normals ns) p) place = subst (Has (places_with (normals ns) p)) d.place_is (has-places_with says ns p place d.message (has_from_contains (normals ns) d.message d.stored) refl) in
      let i = slice_get-has (places_with (normals ns) p) place here in
      let number : i.0 ≡ rank (normals ns) (all_rows says ns) k p
      = sym (place_index (places_with (normals ns) p) (places_with-rise (normals ns) (all_rows says ns) p (normals_rise ns)) i.0 place i.1)
      ∙ ap length (sym all_before) ∙ sym d.as_many ∙ ap length all_smaller ∙ length-smaller says ns k p in
      ap (place_of (normals ns) (all_rows says ns) k) (wants_wanted says ns k p d.wants)
      ∙ ap (slice_get (places_with (normals ns) p)) (sym number)
      ∙ i.1
