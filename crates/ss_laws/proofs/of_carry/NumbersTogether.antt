-- The nights together report the same numbers and unlisted messages as one review of all files so far.
use Rattle.std.proofs.Common.{◌≡◌, ◌⊎◌, inl, inr, ℕ, ◌+◌, Bool, true, false, ◌||◌, List, refl, sym, ap, ◌∙◌, subst, arith}
use Rattle.std.specs.Prelude.{◌↔◌, Option, Some, None, count_by}
use Rattle.std.specs.declared.cmp.Ordering.{Ordering}
use Rattle.std.specs.declared.cmp.Ordering.TheVariants.{Less, Equal, Greater}
use Rattle.std.proofs.lemmas.Bool.{false_from_ne_true, or_cases, or_left, or_right}
use Rattle.ss_block.specs.declared.hash.Hash.{Hash}
use Rattle.ss_block.specs.declared.hash.HashPair.{HashPair}
use Rattle.ss_review.specs.declared.keep.message.NormalMessage.{NormalMessage}
use Rattle.ss_review.specs.keep.Contents.{Contents}
use Rattle.ss_review.specs.sessions.Verified.{Answers}
use Rattle.ss_review.specs.announced.Announced.{Key, Row, key_cmp, rows, keys}
use Rattle.ss_review.specs.assign.Assigned.{is_pair, wanted}
use Rattle.ss_review.specs.announced.Announcing.{Announces, IsDisputedKey}
use Rattle.ss_octets.proofs.Members.{Has, has_from_contains, contains_from_has}
use Rattle.ss_review.proofs.of_numbers.Announcements.{keys-rise}
use Rattle.ss_review.proofs.of_assignment.OnePlaceOneKey.{wanted_key}
use Rattle.ss_review.proofs.of_lists.Rising.{reversed}
use Rattle.ss_review.proofs.of_lists.TotalOrders.{key_cmp_total, key_cmp_exact}
use Rattle.ss_laws.specs.carry.Nights.{Nights, night_log, so_far, AreContents, listed, LeaveEnough, IsSettledBefore}
use Rattle.ss_laws.specs.carry.NightLaws.{StatesOfNights, AnnouncedOfNights, VerifiedStays}
use Rattle.ss_laws.specs.carry.Together.{IsLost, FilesFollow, LostStandBehind, IsListedWith, IsSettledWith, unlisted_with}
use Rattle.ss_laws.proofs.of_carry.KeysStay.{one_hash, unsettled_alike, settled_alike}
use Rattle.ss_laws.proofs.of_carry.Matching.{gets_are, count_gets_are}
use Rattle.ss_laws.proofs.of_carry.OnePair.{is_pair-some, wants_pair, many_with, gets_pair, got_one, assigned_one, one_got, count-untaken}
use Rattle.ss_laws.proofs.of_carry.SettledCounts.{same_message, night_rise, so_far_rise, pair_settled, count-messages}
use Rattle.ss_laws.proofs.of_carry.SettledKeys.{AgreeButLost, night_rows, from_night_normal, unsettled_before, SettledOne, settled_one, SettledWith, settled_with, has-settled_pair}
use Rattle.ss_laws.proofs.of_carry.WholeBearers.{contents_rise, wanted_in_files, wants_by_hash, wanted_at_last}
use Rattle.ss_review.proofs.of_assignment.StoredRuns.{PlacesRise}
use Rattle.ss_laws.proofs.of_parts.PartAssigned.{is_pair-is}

-- ---- one log

module _ (says : Answers) (log : Contents) (up : PlacesRise log.normal) (k : Key) (p : HashPair) where
  abbrev is_got : Bool
  is_got = gets_pair log.normal (rows says log.blocks) p k

  pub listed_got : IsListedWith says log k p → is_got ≡ true
  listed_got l =
      let m = l.2.message in
      let got = one_got log.normal (rows says log.blocks) up k m (has_from_contains log.normal m l.2.stored) (l.1 ∙ ap (λ (n : ℕ). Some n) (sym l.2.place_is)) in
      subst (λ q. gets_pair log.normal (rows says log.blocks) q k ≡ true) l.2.pair_is got

  pub got_listed : is_got ≡ true → IsListedWith says log k p
  got_listed g =
      let w = got_one log.normal (rows says log.blocks) p k g in
      (w.message.place, w.place, record { message = w.message; stored = contains_from_has log.normal w.message w.stored; place_is = refl; pair_is = w.pair_is })

  -- a number that gets a message is listed
  pub got_somewhere : is_got ≡ true → listed says log k ≡ None → ⊥
  got_somewhere g e = let no : None ≡ Some (got_listed g).0 = sym e ∙ (got_listed g).1 in cc

module _ (x : Nights) (says : Answers) (are : AreContents x.whole) (follow : FilesFollow x) (stays : VerifiedStays) (states : StatesOfNights) (announced : AnnouncedOfNights)
    (last : ℕ) (leave : LeaveEnough says x last) (agree : AgreeButLost says x last) where
  abbrev up : PlacesRise x.whole.normal
  up = contents_rise x.whole are

  abbrev all : List NormalMessage
  all = (so_far x last).normal

  abbrev all_rows : List Row
  all_rows = rows says (so_far x last).blocks

  abbrev ms : List NormalMessage
  ms = (night_log x last).normal

  abbrev rs : List Row
  rs = night_rows x says last

  abbrev its_pair : Key → Option HashPair
  its_pair = pair_settled x up says last leave agree

  abbrev IsUnsettled : Key → Type 0
  IsUnsettled k = IsSettledBefore says x last k → ⊥

  -- ---- settled numbers

  alike_last : (k : Key) → IsUnsettled k → (h : Hash) → Announces says (so_far x last).blocks k h ↔ Announces says (night_log x last).blocks k h
  alike_last k n = unsettled_alike x says are stays states announced last leave agree k n

  alike_then : (k : Key) (o : SettledOne x says last leave agree k) → (h : Hash) → Announces says (so_far x last).blocks k h ↔ Announces says (night_log x o.night).blocks k h
  alike_then k o = settled_alike x says are stays states announced last leave agree o.night k o.place o.before o.is

  -- one wants in one review of all files the hashes of its message
  settled_wants : (k : Key) (o : SettledOne x says last leave agree k) → wanted all all_rows k ≡ Some o.one.message.pair
  settled_wants k o =
      wanted_in_files x says are follow last leave agree o.night (let low = o.before in omega (arith, low)) k o.one.message.pair o.one.wants (alike_then k o)

  settled_there : (k : Key) → SettledOne x says last leave agree k → Has (keys all_rows) k
  settled_there k o = wanted_key all all_rows k o.one.message.pair (settled_wants k o)

  before_is : (k : Key) → SettledOne x says last leave agree k → IsSettledBefore says x last k
  before_is k o = (o.night, o.place, o.before, o.is)

  pair_of_settled : (k : Key) (o : SettledOne x says last leave agree k) → its_pair k ≡ Some o.one.message.pair
  pair_of_settled k o = has-settled_pair x says last leave agree k o (same_message x up)

  listed_unsettled : (k : Key) (place : ℕ) → listed says (night_log x last) k ≡ Some place → IsUnsettled k
  listed_unsettled k place e = unsettled_before x says last leave agree last k place (omega arith) e

  -- ---- one pair of hashes

  module _ (p : HashPair) where
    abbrev wants : Key → Bool
    wants = wants_pair all all_rows p

    abbrev later : Key → Bool
    later = wants_pair ms rs p

    abbrev settled : Key → Bool
    settled k = is_pair p (its_pair k)

    abbrev got : Key → Bool
    got = gets_pair ms rs p

    is_settled : (k : Key) → settled k ≡ true → SettledWith x says last leave agree p k
    is_settled k t = settled_with x says last leave agree k p (is_pair-is p (its_pair k) t)

    settled_unsettled : (k : Key) → settled k ≡ true → IsUnsettled k → ⊥
    settled_unsettled k t n = n (before_is k (is_settled k t).one)

    wants_settled : (k : Key) → settled k ≡ true → wants k ≡ true
    wants_settled k t =
        let w = is_settled k t in
        is_pair-some p (wanted all all_rows k) (settled_wants k w.one ∙ ap (λ (q : HashPair). Some q) w.pair_is)

    got_unsettled : (k : Key) → got k ≡ true → IsUnsettled k
    got_unsettled k g = let w = got_one ms rs p k g in listed_unsettled k w.message.place w.place

    wants_got : (k : Key) → got k ≡ true → wants k ≡ true
    wants_got k g =
        let w = got_one ms rs p k g in
        is_pair-some p (wanted all all_rows k)
        (wanted_in_files x says are follow last leave agree last (omega arith) k p w.wants (alike_last k (got_unsettled k g)))

    got_apart : (k : Key) → got k ≡ true → settled k ≡ false
    got_apart k g = false_from_ne_true (settled k) (λ t. settled_unsettled k t (got_unsettled k g))

    -- one that wants these hashes and wasn't settled with them wasn't settled
    unsettled_is : (k : Key) → wants k ≡ true → settled k ≡ false → IsUnsettled k
    unsettled_is k w f s =
        let o = settled_one x says last leave agree k s in
        let both : Some o.one.message.pair ≡ Some p = sym (settled_wants k o) ∙ is_pair-is p (wanted all all_rows k) w in
        let no : false ≡ true = sym f ∙ is_pair-some p (its_pair k) (pair_of_settled k o ∙ both) in
        cc

    wants_later : (k : Key) → wants k ≡ true → settled k ≡ false → (later k ≡ true) ⊎ (many_with ms rs p ≡ 0)
    wants_later k w f =
        elim (wanted_at_last x says are follow last leave agree k (alike_last k (unsettled_is k w f)) p (is_pair-is p (wanted all all_rows k) w)) [
          | inl e ↦ inl (is_pair-some p (wanted ms rs k) e)
          | inr z ↦ inr z
        ]

    -- one that wants them, wasn't settled and gets none in the last night isn't listed there
    not_listed : (k : Key) → IsUnsettled k → wants k ≡ true → got k ≡ false → listed says (night_log x last) k ≡ None
    not_listed k n w f = at (listed says (night_log x last) k) refl
      where
        at : (o : Option ℕ) → listed says (night_log x last) k ≡ o → listed says (night_log x last) k ≡ None
        at None e = e
        at (Some place) e =
            let a = assigned_one ms rs k place e in
            let both : Some a.0 ≡ Some p
            = sym (wanted_in_files x says are follow last leave agree last (omega arith) k a.0 a.1.wants (alike_last k n)) ∙ is_pair-is p (wanted all all_rows k) w in
            let same : a.0 ≡ p = cc in
            let no : false ≡ true = sym f ∙ subst (λ q. gets_pair ms rs q k ≡ true) same a.2 in
            absurd (cc)

    lost_behind : LostStandBehind says x last → (k : Key) → wants k ≡ true → settled k ≡ false → got k ≡ false → (j : Key) → settled j ≡ true → key_cmp j k ≡ Less
    lost_behind behind k w f g j t = by (key_cmp k j) refl
      where
        n : IsUnsettled k
        n = unsettled_is k w f

        s : SettledWith x says last leave agree p j
        s = is_settled j t

        not_before : key_cmp k j ≡ Less → ⊥
        not_before less =
            let b = wants_by_hash x says are follow last leave agree k (alike_last k n) p (is_pair-is p (wanted all all_rows k) w) in
            let o = s.one in
            let lost : IsLost says (night_log x last) k b.hash
            = record { announced = b.announced; undisputed = b.undisputed; unlisted = not_listed k n w g } in
            behind o.night j o.place p k b.hash o.before o.is
            (record {
              message = o.one.message;
              stored = contains_from_has x.whole.normal o.one.message (from_night_normal x o.night o.one.message o.one.stored).0;
              place_is = o.one.place_is;
              pair_is = s.pair_is;
            })
            lost n b.has less

        by : (c : Ordering) → key_cmp k j ≡ c → key_cmp j k ≡ Less
        by Less e = absurd (not_before e)
        by Equal e = absurd (n (subst (IsSettledBefore says x last) (sym (key_cmp_exact k j e)) (before_is j s.one)))
        by Greater e = reversed key_cmp_total k j e

    messages : many_with all all_rows p ≡ many_with ms rs p + count_by settled (keys all_rows)
    messages = count-messages x up says last leave agree settled_there p

    there : (k : Key) → wants k ≡ true → Has (keys all_rows) k
    there k w = wanted_key all all_rows k p (is_pair-is p (wanted all all_rows k) w)

    there_later : (k : Key) → later k ≡ true → Has (keys rs) k
    there_later k w = wanted_key ms rs k p (is_pair-is p (wanted ms rs k) w)

    -- who gets a message in one review of all files was settled with one, or gets one in the last night
    got_together : LostStandBehind says x last → (k : Key) → gets_pair all all_rows p k ≡ (settled k || got k)
    got_together behind =
        gets_are key_cmp_total (keys all_rows) (keys rs) (keys-rise all_rows) (keys-rise rs) wants later settled (many_with all all_rows p) (many_with ms rs p)
        there there_later wants_settled messages wants_got got_apart wants_later (lost_behind behind)

    count_together : count_by (gets_pair all all_rows p) (keys all_rows) ≡ count_by settled (keys all_rows) + count_by got (keys rs)
    count_together =
        count_gets_are key_cmp_total (keys all_rows) (keys rs) (keys-rise all_rows) (keys-rise rs) wants later settled (many_with all all_rows p) (many_with ms rs p)
        there there_later wants_settled messages wants_got got_apart wants_later

    -- so as many messages with these hashes are left in both
    pub unlisted_together : unlisted_with says (so_far x last) p ≡ unlisted_with says (night_log x last) p
    unlisted_together =
        let whole = count-untaken all all_rows (so_far_rise x up last) p in
        let own = count-untaken ms rs (night_rise x up last) p in
        let keys_are = count_together in
        let messages_are = messages in
        omega (arith, whole, own, keys_are, messages_are)

    -- ---- listed numbers

    settled_is_with : (k : Key) → settled k ≡ true → IsSettledWith says x last k p
    settled_is_with k t =
        let w = is_settled k t in
        let o = w.one in (
          o.night,
          o.place,
          o.before,
          o.is,
          record {
            message = o.one.message;
            stored = contains_from_has x.whole.normal o.one.message (from_night_normal x o.night o.one.message o.one.stored).0;
            place_is = o.one.place_is;
            pair_is = w.pair_is;
          },
        )

    with_is_settled : (k : Key) → IsSettledWith says x last k p → settled k ≡ true
    with_is_settled k s =
        let o = settled_one x says last leave agree k (s.0, s.1, s.2, s.3) in
        let m = s.4.message in
        let same : o.one.message ≡ m
        = same_message x up o.one.message m (from_night_normal x o.night o.one.message o.one.stored).0 (has_from_contains x.whole.normal m s.4.stored) (o.one.place_is ∙ sym s.4.place_is) in
        is_pair-some p (its_pair k) (pair_of_settled k o ∙ ap (λ (n : NormalMessage). Some n.pair) same ∙ ap (λ (q : HashPair). Some q) s.4.pair_is)

    pub listed_together : LostStandBehind says x last → (k : Key) → IsListedWith says (so_far x last) k p ↔ (IsListedWith says (night_log x last) k p ⊎ IsSettledWith says x last k p)
    listed_together behind k = (apart, back)
      where
        apart : IsListedWith says (so_far x last) k p → IsListedWith says (night_log x last) k p ⊎ IsSettledWith says x last k p
        apart l =
            elim (or_cases (settled k) (got k) (sym (got_together behind k) ∙ listed_got says (so_far x last) (so_far_rise x up last) k p l)) [
              | inl t ↦ inr (settled_is_with k t)
              | inr g ↦ inl (got_listed says (night_log x last) (night_rise x up last) k p g)
            ]

        back : IsListedWith says (night_log x last) k p ⊎ IsSettledWith says x last k p → IsListedWith says (so_far x last) k p
        back (inl l) =
            got_listed says (so_far x last) (so_far_rise x up last) k p (got_together behind k ∙ or_right (settled k) (got k) (listed_got says (night_log x last) (night_rise x up last) k p l))
        back (inr s) =
            got_listed says (so_far x last) (so_far_rise x up last) k p (got_together behind k ∙ or_left (settled k) (got k) (with_is_settled k s))

  -- ---- gaps

  pub disputed_together : (k : Key) → IsDisputedKey says (so_far x last).blocks k ↔ (IsDisputedKey says (night_log x last).blocks k × (¬ IsSettledBefore says x last k))
  disputed_together k = (apart, λ d. (d.0.0, d.0.1, (alike_last k d.1 d.0.0).1 d.0.2, (alike_last k d.1 d.0.1).1 d.0.3, d.0.4))
    where
      not_settled : IsDisputedKey says (so_far x last).blocks k → IsUnsettled k
      not_settled d s =
          let o = settled_one x says last leave agree k s in
          d.4 (one_hash says (night_log x o.night).blocks (night_log x o.night).normal k o.one.message.pair o.one.wants d.0 d.1 ((alike_then k o d.0).0 d.2) ((alike_then k o d.1).0 d.3))

      apart : IsDisputedKey says (so_far x last).blocks k → IsDisputedKey says (night_log x last).blocks k × (¬ IsSettledBefore says x last k)
      apart d =
          let n = not_settled d in
          ((d.0, d.1, (alike_last k n d.0).0 d.2, (alike_last k n d.1).0 d.3, d.4), n)

  pub lost_together : LostStandBehind says x last → (k : Key) (h : Hash) → IsLost says (so_far x last) k h ↔ (IsLost says (night_log x last) k h × (¬ IsSettledBefore says x last k))
  lost_together behind k h = (apart, back)
    where
      -- what is listed in the last night or was settled is listed in one review of all files
      listed_too : (p : HashPair) → (settled p k || got p k) ≡ true → listed says (so_far x last) k ≡ None → ⊥
      listed_too p t e = got_somewhere says (so_far x last) (so_far_rise x up last) k p (got_together p behind k ∙ t) e

      not_settled : IsLost says (so_far x last) k h → IsUnsettled k
      not_settled l s =
          let o = settled_one x says last leave agree k s in
          let p = o.one.message.pair in
          listed_too p (or_left (settled p k) (got p k) (is_pair-some p (its_pair k) (pair_of_settled k o))) l.unlisted

      unlisted_last : IsLost says (so_far x last) k h → (o : Option ℕ) → listed says (night_log x last) k ≡ o → listed says (night_log x last) k ≡ None
      unlisted_last l None e = e
      unlisted_last l (Some place) e =
          let a = assigned_one ms rs k place e in
          absurd (listed_too a.0 (or_right (settled a.0 k) (got a.0 k) a.2) l.unlisted)

      apart : IsLost says (so_far x last) k h → IsLost says (night_log x last) k h × (¬ IsSettledBefore says x last k)
      apart l =
          let n = not_settled l in (
            record {
              announced = (alike_last k n h).0 l.announced;
              undisputed = λ d. l.undisputed ((disputed_together k).1 (d, n));
              unlisted = unlisted_last l (listed says (night_log x last) k) refl;
            },
            n,
          )

      unlisted_all : IsLost says (night_log x last) k h → IsUnsettled k → (o : Option ℕ) → listed says (so_far x last) k ≡ o → listed says (so_far x last) k ≡ None
      unlisted_all l n None e = e
      unlisted_all l n (Some place) e =
          let a = assigned_one all all_rows k place e in
          absurd (elim (or_cases (settled a.0 k) (got a.0 k) (sym (got_together a.0 behind k) ∙ a.2)) [
            | inl t ↦ settled_unsettled a.0 k t n
            | inr g ↦ got_somewhere says (night_log x last) (night_rise x up last) k a.0 g l.unlisted
          ])

      back : IsLost says (night_log x last) k h × (¬ IsSettledBefore says x last k) → IsLost says (so_far x last) k h
      back l = record {
        announced = (alike_last k l.1 h).1 l.0.announced;
        undisputed = λ d. l.0.undisputed ((disputed_together k).0 d).0;
        unlisted = unlisted_all l.0 l.1 (listed says (so_far x last) k) refl;
      }
