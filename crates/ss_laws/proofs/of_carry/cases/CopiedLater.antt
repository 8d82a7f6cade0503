-- The small log of three nights whose premises hold in the end, but not a night before.
use Rattle.std.proofs.Common.{◌≡◌, inl, inr, ℕ, zero, suc, ◌<◌, ◌≤◌, true, false, List, [], ◌∷◌, refl, sym, ap, ◌∙◌, subst, arith}
use Rattle.std.specs.Prelude.{Some, None, Result, Ok, Err}
use Rattle.std.specs.List.Sorted.{IsStrictlySortedBy}
use Rattle.std.proofs.lemmas.Bool.{true≢false}
use Rattle.ss_block.specs.PayloadReading.{stamp_in, stamp_and_rest_in, blob_in, payload_in}
use Rattle.ss_block.specs.declared.hash.Hash.{Hash}
use Rattle.ss_block.specs.declared.hash.Hash.TheVariants as hashes
use Rattle.ss_block.specs.declared.hash.HashPair.{HashPair}
use Rattle.ss_octets.specs.Cut.{parts_at}
use Rattle.ss_report.specs.runs.Carrying.{carried_by}
use Rattle.ss_review.specs.declared.keep.message.NormalMessage.{NormalMessage}
use Rattle.ss_review.specs.keep.BlockMessage.{BlockMessage}
use Rattle.ss_review.specs.keep.Contents.{Contents}
use Rattle.ss_review.specs.Ordered.{in_order}
use Rattle.ss_review.specs.announced.Announced.{Key, Row, same_key, rows, keys}
use Rattle.ss_review.specs.announced.Announcing.{Announces}
use Rattle.ss_review.specs.assign.Assigned.{pair_of_bearer, places_with, wanted, rank, assigned, is_taken}
use Rattle.ss_review.specs.assign.Listing.{Wants}
use Rattle.ss_review.specs.report.Entries.{group_keys, entries}
use Rattle.ss_review.specs.report.Report.{report_of}
use Rattle.ss_review.specs.report.Rows.{first, message, sent_by, yes}
use Rattle.ss_review.specs.sessions.Payloads.{is_disputed, cover, joined_text, stated_payload}
use Rattle.ss_review.specs.declared.report.session_report.SessionState.{SessionState}
use Rattle.ss_review.specs.declared.report.session_report.SessionState.TheVariants as states
use Rattle.ss_review.specs.sessions.Sessions.{of_session}
use Rattle.ss_review.specs.sessions.Verified.{joined, is_verified}
use Rattle.ss_octets.proofs.Members.{Has, has_from_contains, contains_from_has, from_has-filter}
use Rattle.ss_review.proofs.of_assignment.OnePlaceOneKey.{wanted_key, assigned_cases}
use Rattle.ss_review.proofs.of_numbers.Announcements.{announced_row, has-rows, has-announced_key}
use Rattle.ss_laws.specs.carry.Nights.{is_reviewed, night_log, IsJoined, listed, LeaveEnough, IsSettled, HasPair}
use Rattle.ss_laws.specs.carry.cases.NightRows.{number_at, number_of, disputed_later}
use Rattle.ss_laws.specs.carry.Together.{FilesFollow, IsLost, JoinedStay, LostStandBehind, AgreeLater}
use Rattle.ss_laws.proofs.of_carry.NightBlocks.{from_night}
use Rattle.ss_laws.proofs.of_carry.ToldApart.{AreApart}
use Rattle.ss_laws.specs.carry.cases.NightBefore.{early, late, copied_log, three_files, copied_later}
use Rattle.ss_laws.proofs.of_carry.cases.SmallNights.{cut_rises, small_apart, carried_leave}

abbrev at : ℕ → Contents
at night = night_log copied_later night

-- ---- the files

copied_apart : AreApart copied_log
unfolding IsStrictlySortedBy
copied_apart = small_apart copied_log ((refl, (refl, (refl, tt))), ((refl, (refl, tt)), ((refl, tt), (tt, tt)))) ((refl, tt), (tt, tt)) refl refl

pub copied_leave : LeaveEnough yes copied_later 2
copied_leave = carried_leave yes three_files copied_log copied_apart 2

pub copied_follow : FilesFollow copied_later
copied_follow place other low below =
    let one = cut_rises 3 place other low in
    let two = cut_rises 5 place other low in
    omega (arith, one, two)

-- ---- what each night announces and lists

key_at_0 : (k : Key) → Has (keys (rows yes (night_log copied_later 0).blocks)) k → number_of late 1 ≡ k
unfolding rows keys in_order is_verified joined is_disputed cover joined_text stated_payload parts_at stamp_in stamp_and_rest_in blob_in payload_in
key_at_0 k (inl e) = e
key_at_0 k (inr h) = absurd h

key_at_1 : (k : Key) → Has (keys (rows yes (night_log copied_later 1).blocks)) k → number_of early 1 ≡ k
unfolding rows keys pair_of_bearer places_with wanted rank assigned is_taken group_keys entries in_order is_disputed cover joined_text stated_payload report_of joined is_verified parts_at stamp_in stamp_and_rest_in blob_in payload_in carried_by
key_at_1 k (inl e) = e
key_at_1 k (inr h) = absurd h

key_at_2 : (k : Key) → Has (keys (rows yes (night_log copied_later 2).blocks)) k → number_of early 1 ≡ k
unfolding rows keys pair_of_bearer places_with wanted rank assigned is_taken group_keys entries in_order is_disputed cover joined_text stated_payload report_of joined is_verified parts_at stamp_in stamp_and_rest_in blob_in payload_in carried_by
key_at_2 k (inl e) = e
key_at_2 k (inr h) = absurd h

listed_0 : listed yes (night_log copied_later 0) (number_of late 1) ≡ Some 1
unfolding rows keys pair_of_bearer places_with wanted rank assigned in_order is_verified joined is_disputed cover joined_text stated_payload parts_at stamp_in stamp_and_rest_in blob_in payload_in
listed_0 = refl

listed_1 : (listed yes (night_log copied_later 1) (number_of early 1) ≡ None) × (listed yes (night_log copied_later 1) (number_of late 1) ≡ None)
unfolding rows keys pair_of_bearer places_with wanted rank assigned is_taken group_keys entries in_order is_disputed cover joined_text stated_payload report_of joined is_verified parts_at stamp_in stamp_and_rest_in blob_in payload_in carried_by
listed_1 = (refl, refl)

listed_2 : (listed yes (night_log copied_later 2) (number_of early 1) ≡ Some 5) × (listed yes (night_log copied_later 2) (number_of late 1) ≡ None)
unfolding rows keys pair_of_bearer places_with wanted rank assigned is_taken group_keys entries in_order is_disputed cover joined_text stated_payload report_of joined is_verified parts_at stamp_in stamp_and_rest_in blob_in payload_in carried_by
listed_2 = (refl, refl)

joined_2 : IsJoined yes (night_log copied_later 2).blocks (sent_by late 1) × IsJoined yes (night_log copied_later 2).blocks (sent_by early 1)
unfolding rows keys pair_of_bearer places_with wanted rank assigned is_taken group_keys entries in_order is_disputed cover joined_text stated_payload report_of joined is_verified parts_at stamp_in stamp_and_rest_in blob_in payload_in carried_by
joined_2 = ((45 ∷ 32 ∷ 78 ∷ [], refl), (45 ∷ 32 ∷ 78 ∷ [], refl))

-- the first night carries its certificate block over, and the second its two blocks too
left_0 : (copied_later.left 0 0 ≡ true) × (copied_later.left 0 2 ≡ false)
unfolding rows keys pair_of_bearer places_with wanted rank assigned is_taken group_keys entries in_order is_disputed cover joined_text stated_payload report_of joined is_verified parts_at stamp_in stamp_and_rest_in blob_in payload_in carried_by
left_0 = (refl, refl)

-- ---- what is settled

two_hosts : number_of late 1 ≡ number_of early 1 → ⊥
two_hosts e = let no : true ≡ false = ap (λ (k : Key). same_key k (number_of late 1)) e in true≢false no

no_place : (place : ℕ) → Some place ≡ None → ⊥
no_place place e = cc

own_key : (log : Contents) (k : Key) (place : ℕ) → listed yes log k ≡ Some place → Has (keys (rows yes log.blocks)) k
own_key log k place e =
    let a = assigned_cases log.normal (rows yes log.blocks) k place e in
    wanted_key log.normal (rows yes log.blocks) k a.0 a.1

settled_key : (night : ℕ) (k : Key) (place : ℕ) → night < 2 → IsSettled yes copied_later night k place → (night ≡ 0) × (number_of late 1 ≡ k)
settled_key zero k place low s = (refl, key_at_0 k (own_key (at 0) k place s.listed))
settled_key (suc zero) k place low s =
    let e = key_at_1 k (own_key (at 1) k place s.listed) in
    absurd (no_place place (sym s.listed ∙ ap (listed yes (at 1)) (sym e) ∙ listed_1.0))
settled_key (suc (suc night)) k place low s = absurd (omega arith)

-- the block that announces the settled number isn't left over
announcer : (h : Hash) (a : Announces yes (night_log copied_later 0).blocks (number_of late 1) h) (b : BlockMessage) → Has (night_log copied_later 0).blocks b → b ≡ a.message → copied_later.left 0 b.place ≡ false
announcer h a b (inl e) f = let no = ap (λ (d : BlockMessage). d.said) (e ∙ f) ∙ a.says_so in absurd (cc)
announcer h a b (inr (inl e)) f = subst (λ (d : BlockMessage). copied_later.left 0 d.place ≡ false) e left_0.1
announcer h a b (inr (inr i)) f = absurd i

pub copied_settled : IsSettled yes copied_later 0 (number_of late 1) 1
copied_settled = record {
  listed = listed_0;
  unkept = λ kept.
      (let m = kept.announced.message in
      true≢false (sym kept.left_over ∙ announcer kept.hash kept.announced m (has_from_contains (at 0).blocks m kept.announced.stored) refl));
}

-- ---- later nights

module _ (night later : ℕ) (low : night < later) (high : later ≤ 2) (k : Key) (place : ℕ) (s : IsSettled yes copied_later night k place) where
  its_key : number_of late 1 ≡ k
  its_key = (settled_key night k place (omega (arith, low, high)) s).1

  unannounced_at : (i : ℕ) → 0 < i → i ≤ 2 → (h : Hash) → Announces yes (night_log copied_later i).blocks k h → ⊥
  unannounced_at zero some most h a = absurd (omega arith)
  unannounced_at (suc zero) some most h a = two_hosts (its_key ∙ sym (key_at_1 k (has-announced_key yes (at 1).blocks k (h, a))))
  unannounced_at (suc (suc zero)) some most h a = two_hosts (its_key ∙ sym (key_at_2 k (has-announced_key yes (at 2).blocks k (h, a))))
  unannounced_at (suc (suc (suc i))) some most h a = absurd (omega arith)

  unannounced : (h : Hash) → Announces yes (night_log copied_later later).blocks k h → ⊥
  unannounced = unannounced_at later (omega (arith, low)) high

  unlisted_at : (i : ℕ) → 0 < i → i ≤ 2 → listed yes (night_log copied_later i) k ≡ None
  unlisted_at zero some most = absurd (omega arith)
  unlisted_at (suc zero) some most = ap (listed yes (at 1)) (sym its_key) ∙ listed_1.1
  unlisted_at (suc (suc zero)) some most = ap (listed yes (at 2)) (sym its_key) ∙ listed_2.1
  unlisted_at (suc (suc (suc i))) some most = absurd (omega arith)

  not_again : listed yes (night_log copied_later later) k ≡ None
  not_again = unlisted_at later (omega (arith, low)) high

-- both messages have the same hashes
only_first : (m : NormalMessage) → Has copied_log.normal m → m.pair ≡ first
only_first m (inl e) = ap (λ (n : NormalMessage). n.pair) (sym e)
only_first m (inr (inl e)) = ap (λ (n : NormalMessage). n.pair) (sym e)
only_first m (inr (inr h)) = absurd h

pair_is_first : (place : ℕ) (p : HashPair) → HasPair copied_log place p → p ≡ first
pair_is_first place p h = sym h.pair_is ∙ only_first h.message (has_from_contains copied_log.normal h.message h.stored)

wants_first : (night : ℕ) (j : Key) (q : HashPair) → Wants yes (night_log copied_later night) j q → q ≡ first
wants_first night j q w =
    let there = from_has-filter (λ (m : NormalMessage). is_reviewed copied_later night m.place) copied_log.normal w.bearer (has_from_contains (at night).normal w.bearer w.is_bearer.stored) in
    sym w.pair_is ∙ only_first w.bearer there.0

joined_all : (b : BlockMessage) → Has copied_log.blocks b → IsJoined yes (night_log copied_later 2).blocks b.session
joined_all b (inl e) = subst (λ (d : BlockMessage). IsJoined yes (at 2).blocks d.session) e joined_2.0
joined_all b (inr (inl e)) = subst (λ (d : BlockMessage). IsJoined yes (at 2).blocks d.session) e joined_2.0
joined_all b (inr (inr (inl e))) = subst (λ (d : BlockMessage). IsJoined yes (at 2).blocks d.session) e joined_2.1
joined_all b (inr (inr (inr (inl e)))) = subst (λ (d : BlockMessage). IsJoined yes (at 2).blocks d.session) e joined_2.1
joined_all b (inr (inr (inr (inr h)))) = absurd h

none_lost : (j : Key) (h : Hash) → IsLost yes (night_log copied_later 2) j h → ⊥
none_lost j h l =
    let e = key_at_2 j (has-announced_key yes (at 2).blocks j (h, l.announced)) in
    no_place 5 (sym listed_2.0 ∙ ap (listed yes (at 2)) e ∙ l.unlisted)

pub copied_agree : AgreeLater yes copied_later 2
copied_agree = record {
  joined = λ night b low c v l. joined_all b (from_night copied_later night b (has_from_contains (at night).blocks b c)).0;
  hash = λ night later k place g h low high s a b. absurd (unannounced night later low high k place s h b);
  again = λ night later k place low high s. not_again night later low high k place s;
  lost = λ night k place p j h low s has l n e. absurd (none_lost j h l);
  collision = λ night later k place p j q w low high s has behind e. pair_is_first place p has ∙ sym (wants_first later j q w);
}

-- ---- a night before

abbrev its_row : Row
its_row = record { key = number_of early 1; hash = hashes.Sha1 (1 ∷ []) }

row_at_1 : Has (rows yes (night_log copied_later 1).blocks) its_row × ((r : Row) → Has (rows yes (night_log copied_later 1).blocks) r → its_row ≡ r)
unfolding rows keys pair_of_bearer places_with wanted rank assigned is_taken group_keys entries in_order is_disputed cover joined_text stated_payload report_of joined is_verified parts_at stamp_in stamp_and_rest_in blob_in payload_in carried_by
row_at_1 = (inl refl, λ r h. elim h [ inl e ↦ e | inr i ↦ absurd i ])

hash_at_1 : (k : Key) (h : Hash) → Announces yes (night_log copied_later 1).blocks k h → hashes.Sha1 (1 ∷ []) ≡ h
hash_at_1 k h a = ap (λ (r : Row). r.hash) (row_at_1.1 (record { key = k; hash = h }) (has-rows yes (at 1).blocks k h a))

lost_1 : IsLost yes (night_log copied_later 1) (number_of early 1) (hashes.Sha1 (1 ∷ []))
lost_1 = record {
  announced = announced_row yes (at 1).blocks its_row row_at_1.0;
  undisputed = λ d. d.4 (sym (hash_at_1 (number_of early 1) d.0 d.2) ∙ hash_at_1 (number_of early 1) d.1 d.3);
  unlisted = listed_1.0;
}

first_there : HasPair copied_log 1 first
first_there = record {
  message = message 1 first;
  stored = contains_from_has copied_log.normal (message 1 first) (inl refl);
  place_is = refl;
  pair_is = refl;
}

pub copied_fails : ¬ LostStandBehind yes copied_later 1
copied_fails f =
    f 0 (number_of late 1) 1 first (number_of early 1) (hashes.Sha1 (1 ∷ [])) (omega arith) copied_settled first_there lost_1
    (λ w. two_hosts (settled_key w.0 (number_of early 1) w.1 (omega (arith, w.2)) w.3).1) refl refl

-- ---- a session that is disputed later

abbrev settled_block : BlockMessage
settled_block = number_at 2 early 1 1

verified_then : is_verified yes (night_log disputed_later 0).blocks settled_block ≡ true
unfolding is_verified joined is_disputed cover joined_text stated_payload parts_at stamp_in stamp_and_rest_in blob_in payload_in
verified_then = refl

disputed_then : joined yes (of_session (night_log disputed_later 1).blocks (sent_by early 1)) ≡ Err states.Disputed
unfolding joined is_disputed cover joined_text stated_payload parts_at stamp_in stamp_and_rest_in blob_in payload_in
disputed_then = refl

not_both : (text : List ℕ) (r : Result (List ℕ) SessionState) → r ≡ Err states.Disputed → r ≡ Ok text → ⊥
not_both text r e f = cc

pub disputed_fails : ¬ JoinedStay yes disputed_later 1
disputed_fails stay =
    let bs = (night_log disputed_later 0).blocks in
    let j = stay 0 settled_block (omega arith) (contains_from_has bs settled_block (inr (inl refl))) verified_then refl in
    not_both j.0 (joined yes (of_session (night_log disputed_later 1).blocks (sent_by early 1))) disputed_then j.1
