-- Two nights of which each has its own message and block meet the premises.
use Rattle.std.proofs.Common.{◌≡◌, inl, inr, ℕ, zero, suc, ◌<◌, ◌≤◌, true, false, List, [], ◌∷◌, refl, sym, ap, ◌∙◌, subst, arith}
use Rattle.std.specs.Prelude.{nat_lt, Some, None}
use Rattle.std.proofs.lemmas.Bool.{ltb-true, lt-ltb, true≢false}
use Rattle.ss_block.specs.declared.hash.Hash.{Hash}
use Rattle.ss_block.specs.declared.hash.Hash.TheVariants as hashes
use Rattle.ss_block.specs.declared.hash.HashPair.{HashPair}
use Rattle.ss_block.specs.PayloadReading.{stamp_in, stamp_and_rest_in, blob_in, payload_in}
use Rattle.ss_octets.specs.Cut.{parts_at}
use Rattle.ss_review.specs.declared.keep.message.NormalMessage.{NormalMessage}
use Rattle.ss_review.specs.keep.BlockMessage.{BlockMessage}
use Rattle.ss_review.specs.Ordered.{in_order}
use Rattle.ss_review.specs.sessions.Payloads.{is_disputed, cover, joined_text, stated_payload}
use Rattle.ss_review.specs.sessions.Verified.{joined, is_verified}
use Rattle.ss_review.specs.announced.Announced.{Key, Row, rows, keys}
use Rattle.ss_review.specs.announced.Announcing.{Announces}
use Rattle.ss_review.specs.assign.Assigned.{has_hash, pair_of_bearer, places_with, wanted, rank, assigned, is_taken}
use Rattle.ss_review.specs.assign.Listing.{Wants}
use Rattle.ss_review.specs.report.Rows.{first, yes, sent_by}
use Rattle.ss_octets.proofs.Members.{Has, has_from_contains}
use Rattle.ss_review.proofs.of_numbers.Announcements.{has-rows, has-announced_key}
use Rattle.ss_review.proofs.of_lists.Keyed.{has-slice_get}
use Rattle.ss_review.proofs.of_assignment.OnePlaceOneKey.{wanted_key, assigned_cases, from_has-places_with}
use Rattle.ss_laws.specs.carry.Nights.{night_log, IsJoined, HasVerifiedOctet, listed, IsKept, LeavesEnough, LeaveEnough, IsSettled, HasPair}
use Rattle.ss_laws.specs.carry.Together.{FilesFollow, IsLost, AgreeLater}
use Rattle.ss_laws.specs.carry.cases.NightRows.{number_of, each_its_own, SettlesFirst}
use Rattle.ss_review.specs.keep.Contents.{Contents}
use Rattle.ss_laws.proofs.of_carry.cases.SmallNights.{file_at}

no_place : (place : ℕ) → Some place ≡ None → ⊥
no_place place e = cc

abbrev host : List ℕ
host = 104 ∷ []

abbrev night_0 : Contents
night_0 = night_log each_its_own 0

abbrev night_1 : Contents
night_1 = night_log each_its_own 1

-- ---- the first night

joined_0 : IsJoined yes night_0.blocks (sent_by host 1)
unfolding joined is_disputed cover joined_text stated_payload parts_at stamp_in stamp_and_rest_in blob_in payload_in
joined_0 = (45 ∷ 32 ∷ 78 ∷ [], refl)

session_0 : (b : BlockMessage) → Has night_0.blocks b → sent_by host 1 ≡ b.session
session_0 b (inl e) = ap (λ (d : BlockMessage). d.session) e
session_0 b (inr (inl e)) = ap (λ (d : BlockMessage). d.session) e
session_0 b (inr (inr h)) = absurd h

verified_0 : (b : BlockMessage) → Has night_0.blocks b → is_verified yes night_0.blocks b ≡ true
unfolding is_verified joined is_disputed cover joined_text stated_payload parts_at stamp_in stamp_and_rest_in blob_in payload_in
verified_0 b (inl e) = subst (λ (d : BlockMessage). is_verified yes night_0.blocks d ≡ true) e refl
verified_0 b (inr (inl e)) = subst (λ (d : BlockMessage). is_verified yes night_0.blocks d ≡ true) e refl
verified_0 b (inr (inr h)) = absurd h

key_0 : (k : Key) → Has (keys (rows yes night_0.blocks)) k → number_of host 1 ≡ k
unfolding rows keys in_order is_verified joined is_disputed cover joined_text stated_payload parts_at stamp_in stamp_and_rest_in blob_in payload_in
key_0 k (inl e) = e
key_0 k (inr h) = absurd h

listed_0 : listed yes night_0 (number_of host 1) ≡ Some 1
unfolding rows keys pair_of_bearer places_with wanted rank assigned in_order is_verified joined is_disputed cover joined_text stated_payload parts_at stamp_in stamp_and_rest_in blob_in payload_in
listed_0 = refl

taken_0 : is_taken night_0.normal (rows yes night_0.blocks) 1 ≡ true
unfolding rows keys pair_of_bearer places_with wanted rank assigned is_taken in_order is_verified joined is_disputed cover joined_text stated_payload parts_at stamp_in stamp_and_rest_in blob_in payload_in
taken_0 = refl

-- what announces in the first night isn't left over
announcer_0 : (k : Key) (h : Hash) (a : Announces yes night_0.blocks k h) → (b : BlockMessage) → Has night_0.blocks b → b ≡ a.message → each_its_own.left 0 b.place ≡ false
announcer_0 k h a b (inl e) f = let no = ap (λ (d : BlockMessage). d.said) (e ∙ f) ∙ a.says_so in absurd (cc)
announcer_0 k h a b (inr (inl e)) f = subst (λ (d : BlockMessage). each_its_own.left 0 d.place ≡ false) e refl
announcer_0 k h a b (inr (inr i)) f = absurd i

not_kept : (k : Key) → IsKept yes night_0 (each_its_own.left 0) k → ⊥
not_kept k kept =
    let m = kept.announced.message in
    true≢false (sym kept.left_over ∙ announcer_0 k kept.hash kept.announced m (has_from_contains night_0.blocks m kept.announced.stored) refl)

-- what is listed in the first night
place_0 : (m : NormalMessage) → Has night_0.normal m → (m.place ≡ 1) × (m.pair ≡ first)
place_0 m (inl e) = (ap (λ (n : NormalMessage). n.place) (sym e), ap (λ (n : NormalMessage). n.pair) (sym e))
place_0 m (inr h) = absurd h

at_0 : (k : Key) (place : ℕ) → listed yes night_0 k ≡ Some place → (place ≡ 1) × (number_of host 1 ≡ k)
at_0 k place e =
    let rs = rows yes night_0.blocks in
    let a = assigned_cases night_0.normal rs k place e in
    let n = from_has-places_with night_0.normal rs a.0 place (has-slice_get (places_with night_0.normal a.0) (rank night_0.normal rs k a.0) place a.2) in
    (sym n.3 ∙ (place_0 n.0 n.1).0, key_0 k (wanted_key night_0.normal rs k a.0 a.1))

left_octet : (o_message : BlockMessage) → Has night_0.blocks o_message → (s : _) (index : ℕ) (o : HasVerifiedOctet yes night_0.blocks s index) → o_message ≡ o.message
    → each_its_own.left 0 o.message.place ≡ true
left_octet b (inl e) s index o f = subst (λ (d : BlockMessage). each_its_own.left 0 d.place ≡ true) (e ∙ f) refl
left_octet b (inr (inl e)) s index o f = let no = ap (λ (d : BlockMessage). d.said) (e ∙ f) ∙ o.says_so in absurd (cc)
left_octet b (inr (inr h)) s index o f = absurd h

leaves_0 : LeavesEnough yes night_0 (each_its_own.left 0)
leaves_0 = record {
  unjudged = λ b c n. absurd (n (subst (IsJoined yes night_0.blocks) (session_0 b (has_from_contains night_0.blocks b c)) joined_0));
  certificates = λ s index o. (o, left_octet o.message (has_from_contains night_0.blocks o.message o.stored) s index o refl);
  gaps = λ k h a e.
      (let same = key_0 k (has-announced_key yes night_0.blocks k (h, a)) in
      absurd (no_place 1 (sym listed_0 ∙ ap (listed yes night_0) same ∙ e)));
  unlisted = λ m c e.
      (let at = place_0 m (has_from_contains night_0.normal m c) in
      absurd (true≢false (sym taken_0 ∙ ap (is_taken night_0.normal (rows yes night_0.blocks)) (sym at.0) ∙ e)));
  kept = λ k place e kept. absurd (not_kept k kept);
  unkept = λ k place e n. ap (each_its_own.left 0) (at_0 k place e).0;
  refused = λ b c j v. absurd (true≢false (sym (verified_0 b (has_from_contains night_0.blocks b c)) ∙ v));
  spoilt = λ s c. absurd (has_from_contains night_0.spoilt s c);
}

leave_before : (night : ℕ) → night < 1 → LeavesEnough yes (night_log each_its_own night) (each_its_own.left night)
leave_before zero low = leaves_0
leave_before (suc night) low = absurd (omega arith)

pub its_own_leave : LeaveEnough yes each_its_own 1
its_own_leave = leave_before

-- ---- the files

pub its_own_follow : FilesFollow each_its_own
its_own_follow place other low below =
    file_at (nat_lt place 3) (nat_lt other 3) (λ e. (let l = ltb-true other 3 e in lt-ltb place 3 (omega (arith, l, low))))

-- ---- the second night

row_1 : (r : Row) → Has (rows yes night_1.blocks) r → record { key = number_of host 2; hash = hashes.Sha1 (2 ∷ []) } ≡ r
unfolding rows keys in_order is_verified joined is_disputed cover joined_text stated_payload parts_at stamp_in stamp_and_rest_in blob_in payload_in
row_1 r (inl e) = e
row_1 r (inr h) = absurd h

joined_1 : IsJoined yes night_1.blocks (sent_by host 1)
unfolding joined is_disputed cover joined_text stated_payload parts_at stamp_in stamp_and_rest_in blob_in payload_in
joined_1 = (45 ∷ 32 ∷ 78 ∷ [], refl)

listed_1 : listed yes night_1 (number_of host 2) ≡ Some 3
unfolding rows keys pair_of_bearer places_with wanted rank assigned in_order is_verified joined is_disputed cover joined_text stated_payload parts_at stamp_in stamp_and_rest_in blob_in payload_in
listed_1 = refl

unlisted_1 : listed yes night_1 (number_of host 1) ≡ None
unfolding rows keys pair_of_bearer places_with wanted rank assigned in_order is_verified joined is_disputed cover joined_text stated_payload parts_at stamp_in stamp_and_rest_in blob_in payload_in
unlisted_1 = refl

announced_1 : (k : Key) (h : Hash) → Announces yes night_1.blocks k h → (number_of host 2 ≡ k) × (hashes.Sha1 (2 ∷ []) ≡ h)
announced_1 k h a =
    let e = row_1 (record { key = k; hash = h }) (has-rows yes night_1.blocks k h a) in
    (ap (λ (r : Row). r.key) e, ap (λ (r : Row). r.hash) e)

-- ---- both

settled_key : (night : ℕ) (k : Key) (place : ℕ) → night < 1 → IsSettled yes each_its_own night k place → (place ≡ 1) × (number_of host 1 ≡ k)
settled_key zero k place low s = at_0 k place s.listed
settled_key (suc night) k place low s = absurd (omega arith)

joined_stay : (night : ℕ) (b : BlockMessage) → night < 1 → Has (night_log each_its_own night).blocks b → IsJoined yes night_1.blocks b.session
joined_stay zero b low h = subst (IsJoined yes night_1.blocks) (session_0 b h) joined_1
joined_stay (suc night) b low h = absurd (omega arith)

pair_at_1 : (m : NormalMessage) → Has each_its_own.whole.normal m → m.place ≡ 1 → m.pair ≡ first
pair_at_1 m (inl e) at = ap (λ (n : NormalMessage). n.pair) (sym e)
pair_at_1 m (inr (inl e)) at = let no : 3 ≡ 1 = ap (λ (n : NormalMessage). n.place) e ∙ at in absurd (omega (arith, no))
pair_at_1 m (inr (inr h)) at = absurd h

not_first : (p : HashPair) (h : Hash) → hashes.Sha1 (2 ∷ []) ≡ h → p ≡ first → has_hash h p ≡ true → ⊥
not_first p h e f has =
    let no : has_hash (hashes.Sha1 (2 ∷ [])) first ≡ true = (λ i. has_hash (e i) (sym f i)) ∙ has in absurd (cc)

-- the only later night is the second
module _ (night later : ℕ) (low : night < later) (high : later ≤ 1) where
  is_second : later ≡ 1
  is_second = omega (arith, low, high)

  before : night < 1
  before = omega (arith, low, high)

  two_numbers : (k : Key) (place : ℕ) (h : Hash) → IsSettled yes each_its_own night k place → Announces yes (night_log each_its_own later).blocks k h → ⊥
  two_numbers k place h s a =
      let second = subst (λ n. Announces yes (night_log each_its_own n).blocks k h) is_second a in
      let e : number_of host 1 ≡ number_of host 2 = (settled_key night k place before s).1 ∙ sym (announced_1 k h second).0 in
      let no : 1 ≡ 2 = ap (λ (j : Key). j.number) e in
      absurd (omega (arith, no))

  not_again : (k : Key) (place : ℕ) → IsSettled yes each_its_own night k place → listed yes (night_log each_its_own later) k ≡ None
  not_again k place s =
      ap (λ n. listed yes (night_log each_its_own n) k) is_second
      ∙ ap (listed yes night_1) (sym (settled_key night k place before s).1)
      ∙ unlisted_1

  no_twins : (k : Key) (place : ℕ) (p : HashPair) (j : Key) (q : HashPair) (w : Wants yes (night_log each_its_own later) j q) → IsSettled yes each_its_own night k place
      → HasPair each_its_own.whole place p → has_hash w.hash p ≡ true → ⊥
  no_twins k place p j q w s has e =
      let second = subst (λ n. Announces yes (night_log each_its_own n).blocks j w.hash) is_second w.announced in
      let hash = (announced_1 j w.hash second).1 in
      let at = has.place_is ∙ (settled_key night k place before s).0 in
      not_first p w.hash hash (sym has.pair_is ∙ pair_at_1 has.message (has_from_contains each_its_own.whole.normal has.message has.stored) at) e

none_lost : (j : Key) (h : Hash) → IsLost yes night_1 j h → ⊥
none_lost j h l =
    no_place 3 (sym listed_1 ∙ ap (listed yes night_1) (announced_1 j h l.announced).0 ∙ l.unlisted)

pub its_own_agree : AgreeLater yes each_its_own 1
its_own_agree = record {
  joined = λ night b low c v l. joined_stay night b low (has_from_contains (night_log each_its_own night).blocks b c);
  hash = λ night later k place g h low high s a b. absurd (two_numbers night later low high k place h s b);
  again = λ night later k place low high s. not_again night later low high k place s;
  lost = λ night k place p j h low s has l n e. absurd (none_lost j h l);
  collision = λ night later k place p j q w low high s has behind e. absurd (no_twins night later low high k place p j q w s has e);
}

pub its_own_settled : SettlesFirst each_its_own (104 ∷ [])
its_own_settled = record { listed = listed_0; unkept = not_kept (number_of host 1) }
