-- What a night announces for a number that isn't settled the next night announces too. And what one review of all files so
-- far announces for a number is what the last night announces, or the night that settled it.
use Rattle.std.proofs.Common.{◌≡◌, ◌⊎◌, inl, inr, ℕ, zero, suc, ◌<◌, ◌≤◌, Bool, true, false, List, [], ◌∷◌, refl, sym, ap, ◌∙◌, subst, arith}
use Rattle.std.specs.Prelude.{◌↔◌, Option, Some, None, Result, Ok, Err}
use Rattle.std.specs.Ordering.{is_eq}
use Rattle.std.specs.Cmp.{Equal-is}
use Rattle.std.proofs.lemmas.Bool.{cases_Bool, cases_eq, cases_order}
use Rattle.std.proofs.lemmas.Cmp.{tied_itself}
use Rattle.ss_block.specs.declared.hash.Hash.{Hash}
use Rattle.ss_block.specs.declared.hash.HashPair.{HashPair}
use Rattle.ss_block.specs.OrderLaws.{hash_cmp_total}
use Rattle.ss_review.specs.declared.report.session_report.SessionState.{SessionState}
use Rattle.ss_review.specs.declared.keep.message.NormalMessage.{NormalMessage}
use Rattle.ss_review.specs.keep.BlockMessage.{BlockMessage}
use Rattle.ss_review.specs.sessions.Sessions.{of_session}
use Rattle.ss_review.specs.sessions.Verified.{Answers, joined, is_valid_in, is_verified}
use Rattle.ss_review.specs.announced.Announced.{Key, Row, row_cmp, rows, hashes_for}
use Rattle.ss_review.specs.assign.Assigned.{wanted}
use Rattle.ss_review.specs.announced.Announcing.{Announces}
use Rattle.ss_octets.proofs.Members.{Has, has_from_contains, contains_from_has}
use Rattle.ss_review.proofs.of_numbers.Announcements.{announced_row, has-rows, rows-rise, from_has-hashes_for, has-hashes_for, hashes_for-rise}
use Rattle.ss_review.proofs.of_assignment.OnePlaceOneKey.{only_one}
use Rattle.ss_review.proofs.of_lists.Rising.{same_members}
use Rattle.ss_review.proofs.of_lists.TotalOrders.{row_cmp_total, row_cmp_exact}
use Rattle.ss_laws.specs.carry.Nights.{Nights, night_log, so_far, AreContents, IsJoined, listed, LeavesEnough, LeaveEnough, IsSettled, IsSettledBefore}
use Rattle.ss_laws.specs.carry.NightLaws.{StatesOfNights, AnnouncedOfNights, VerifiedStays}
use Rattle.ss_laws.proofs.of_carry.NightBlocks.{from_night, has-night, left_reviewed}
use Rattle.ss_laws.proofs.of_carry.SettledKeys.{AgreeButLost, night_rows, lists_one, settled_if}

-- ---- what is announced

-- a row is there or isn't
pub row_or_not : (rs : List Row) (r : Row) → Has rs r ⊎ (Has rs r → ⊥)
row_or_not [] r = inr (λ h. h)
row_or_not (s ∷ rs) r =
    elim (cases_Bool (is_eq (row_cmp s r))) [
      | inl t ↦ inl (inl (row_cmp_exact s r ((Equal-is (row_cmp s r)).0 t)))
      | inr f ↦ (elim (row_or_not rs r) [
        | inl h ↦ inl (inr h)
        | inr n ↦ inr (λ h. elim h [
          | inl e ↦ (let no : false ≡ true = sym f ∙ ap (λ q. is_eq (row_cmp q r)) e ∙ ap is_eq (tied_itself row_cmp_total r) in cc)
          | inr i ↦ n i
        ])
      ])
    ]

module _ (says : Answers) (bs : List BlockMessage) where
  joined_if : (b : BlockMessage) (r : Result (List ℕ) SessionState) → joined says (of_session bs b.session) ≡ r → is_valid_in says r b ≡ true → IsJoined says bs b.session
  joined_if b (Ok payload) e v = (payload, e)
  joined_if b (Err state) e v = absurd (cc)

  pub verified_joined : (b : BlockMessage) → is_verified says bs b ≡ true → IsJoined says bs b.session
  unfolding is_verified
  verified_joined b v = joined_if b (joined says (of_session bs b.session)) refl v

  -- a number is announced in a joined session alone
  pub announced_joined : (k : Key) (h : Hash) → Announces says bs k h → IsJoined says bs k.session
  announced_joined k h a = subst (IsJoined says bs) a.session_is (verified_joined a.message a.verified)

  pub has_hash_for : (k : Key) (h : Hash) → Announces says bs k h → Has (hashes_for (rows says bs) k) h
  has_hash_for k h a = has-hashes_for (rows says bs) k h (has-rows says bs k h a)

  pub announced_for : (k : Key) (h : Hash) → Has (hashes_for (rows says bs) k) h → Announces says bs k h
  announced_for k h i = announced_row says bs (record { key = k; hash = h }) (from_has-hashes_for (rows says bs) k h i)

  -- where a number wants something, one hash is announced for it
  pub one_hash : (ms : List NormalMessage) (k : Key) (p : HashPair) → wanted ms (rows says bs) k ≡ Some p → (g h : Hash) → Announces says bs k g → Announces says bs k h → g ≡ h
  unfolding wanted
  one_hash ms k p e g h a b =
      let w = only_one ms (hashes_for (rows says bs) k) p e in
      sym (alone w.0 g (subst (λ hs. Has hs g) w.2 (has_hash_for k g a))) ∙ alone w.0 h (subst (λ hs. Has hs h) w.2 (has_hash_for k h b))
    where
      alone : (f g : Hash) → Has (f ∷ []) g → f ≡ g
      alone f g (inl e) = e
      alone f g (inr i) = absurd i

-- where two logs announce the same for a key, the hashes for it are one list
pub hashes_alike : (says : Answers) (bs cs : List BlockMessage) (k : Key) → ((h : Hash) → Announces says bs k h ↔ Announces says cs k h) → hashes_for (rows says bs) k ≡ hashes_for (rows says cs) k
hashes_alike says bs cs k same =
    same_members hash_cmp_total (hashes_for (rows says bs) k) (hashes_for (rows says cs) k)
    (hashes_for-rise (rows says bs) k (rows-rise says bs)) (hashes_for-rise (rows says cs) k (rows-rise says cs))
    (λ h i. has_hash_for says cs k h ((same h).0 (announced_for says bs k h i)))
    (λ h i. has_hash_for says bs k h ((same h).1 (announced_for says cs k h i)))

module _ (x : Nights) (says : Answers) (are : AreContents x.whole) (stays : VerifiedStays) where
  -- ---- one more night

  -- a verified block that is left over announces the same in the next night
  carried : (night last : ℕ) → suc night ≤ last → LeaveEnough says x last → (k : Key) (h : Hash) (a : Announces says (night_log x night).blocks k h)
      → x.left night a.message.place ≡ true → IsJoined says (night_log x last).blocks k.session → Announces says (night_log x (suc night)).blocks k h
  carried night last low leave k h a l j =
      let f = from_night x night a.message (has_from_contains (night_log x night).blocks a.message a.stored) in
      let here = contains_from_has (night_log x (suc night)).blocks a.message (has-night x (suc night) a.message f.0 (left_reviewed x night a.message.place f.1 l)) in
      record {
        message = a.message;
        stored = here;
        verified = stays says x last are leave night (suc night) a.message (omega arith) low a.stored here a.verified (subst (IsJoined says (night_log x last).blocks) (sym a.session_is) j);
        session_is = a.session_is;
        said = a.said;
        says_so = a.says_so;
        group_is = a.group_is;
        index = a.index;
        number = a.number;
        hash = a.hash;
      }

  module _ (last : ℕ) (leave : LeaveEnough says x last) (k : Key) (j : IsJoined says (night_log x last).blocks k.session) where
    -- so does the next night what this one announces, unless this one settled the number
    next_announces : (night : ℕ) (h : Hash) → suc night ≤ last → ((place : ℕ) → IsSettled says x night k place → ⊥)
        → Announces says (night_log x night).blocks k h → Announces says (night_log x (suc night)).blocks k h
    next_announces night h low unsettled a = at (listed says (night_log x night) k) refl
      where
        leaves : LeavesEnough says (night_log x night) (x.left night)
        leaves = leave night (omega (arith, low))

        by : (place : ℕ) → listed says (night_log x night) k ≡ Some place → (b : Bool) → x.left night place ≡ b → Announces says (night_log x (suc night)).blocks k h
        by place e false l = absurd (unsettled place (settled_if x says night leaves k place e l))
        by place e true l =
            let bs = (night_log x (suc night)).blocks in
            let r : Row = record { key = k; hash = h } in
            let one = lists_one x says night k place e in
            elim (row_or_not (rows says bs) r) [
              | inl i ↦ announced_row says bs r i
              | inr n ↦ absurd (let no : true ≡ false = sym l ∙ leaves.unkept k place e (λ kept.
                  n (has-rows says bs k h (subst (Announces says bs k)
                  (one_hash says (night_log x night).blocks (night_log x night).normal k one.message.pair one.wants kept.hash h kept.announced a)
                  (carried night last low leave k kept.hash kept.announced kept.left_over j)))) in cc)
            ]

        at : (o : Option ℕ) → listed says (night_log x night) k ≡ o → Announces says (night_log x (suc night)).blocks k h
        at None e = carried night last low leave k h a (leaves.gaps k h a e) j
        at (Some place) e = by place e (x.left night place) refl

    -- and each later night, as long as none settled it
    pub later_announces : (night later : ℕ) (h : Hash) → night ≤ later → later ≤ last → ((i place : ℕ) → i < later → IsSettled says x i k place → ⊥)
        → Announces says (night_log x night).blocks k h → Announces says (night_log x later).blocks k h
    later_announces night zero h low high unsettled a = subst (λ i. Announces says (night_log x i).blocks k h) (let e : night ≡ zero = omega (arith, low) in e) a
    later_announces night (suc later) h low high unsettled a =
        elim (cases_eq night (suc later)) [
          | inl e ↦ subst (λ i. Announces says (night_log x i).blocks k h) e a
          | inr apart ↦ next_announces later h high (λ place s. unsettled later place (omega arith) s)
              (later_announces night later h (omega (arith, low, apart)) (omega (arith, high)) (λ i place below s. unsettled i place (omega (arith, below)) s) a)
        ]

-- ---- one review of all files so far

module _ (x : Nights) (says : Answers) (are : AreContents x.whole) (stays : VerifiedStays) (states : StatesOfNights) (announced : AnnouncedOfNights)
    (last : ℕ) (leave : LeaveEnough says x last) (agree : AgreeButLost says x last) where
  abbrev pub TellsAlike : ℕ → Key → Type 0
  TellsAlike night k = (h : Hash) → Announces says (so_far x last).blocks k h ↔ Announces says (night_log x night).blocks k h

  joined_in_files : (k : Key) → IsJoined says (night_log x last).blocks k.session → IsJoined says (so_far x last).blocks k.session
  joined_in_files k j = (j.0, sym ((states says x last are leave).1 k.session) ∙ j.1)

  joined_last : (k : Key) → IsJoined says (so_far x last).blocks k.session → IsJoined says (night_log x last).blocks k.session
  joined_last k j = (j.0, (states says x last are leave).1 k.session ∙ j.1)

  -- for a number that no night settled it announces what the last night announces
  pub unsettled_alike : (k : Key) → (IsSettledBefore says x last k → ⊥) → TellsAlike last k
  unsettled_alike k unsettled h = (there, back)
    where
      there : Announces says (so_far x last).blocks k h → Announces says (night_log x last).blocks k h
      there a =
          let w = (announced says x last are leave k h).0 a in
          later_announces x says are stays last leave k (joined_last k w.0) w.1.0 last h w.1.1 (omega arith) (λ i place below s. unsettled (i, place, below, s)) w.1.2

      back : Announces says (night_log x last).blocks k h → Announces says (so_far x last).blocks k h
      back a = (announced says x last are leave k h).1 (joined_in_files k (announced_joined says (night_log x last).blocks k h a), (last, omega arith, a))

  -- the session of a settled number is joined in the end
  settled_joined : (night : ℕ) (k : Key) (place : ℕ) (h : Hash) → night < last → IsSettled says x night k place → Announces says (night_log x night).blocks k h → IsJoined says (night_log x last).blocks k.session
  settled_joined night k place h below s a =
      elim (cases_Bool (x.left night a.message.place)) [
        | inl l ↦ absurd (s.unkept (record { hash = h; announced = a; left_over = l }))
        | inr l ↦ subst (IsJoined says (night_log x last).blocks) a.session_is (agree.joined night a.message below a.stored a.verified l)
      ]

  -- for a settled number it announces what the night announced that settled it
  pub settled_alike : (night : ℕ) (k : Key) (place : ℕ) → night < last → IsSettled says x night k place → TellsAlike night k
  unfolding wanted
  settled_alike night k place below s h = (there, back)
    where
      back : Announces says (night_log x night).blocks k h → Announces says (so_far x last).blocks k h
      back a = (announced says x last are leave k h).1 (joined_in_files k (settled_joined night k place h below s a), (night, omega (arith, below), a))

      -- it is the one hash that the number had there
      same : (g : Hash) → Announces says (night_log x night).blocks k g → (i : ℕ) → i ≤ last → Announces says (night_log x i).blocks k h → Announces says (night_log x night).blocks k h
      same g own i low a =
          elim (cases_order i night) [
            | inl e ↦ subst (λ n. Announces says (night_log x n).blocks k h) e a
            | inr (inl less) ↦ later_announces x says are stays night (λ n under. leave n (omega (arith, under, below))) k (announced_joined says (night_log x night).blocks k g own)
                i night h (omega (arith, less)) (omega arith)
                (λ n q under t. (let no : None ≡ Some place = sym (agree.again n night k q under (omega (arith, below)) t) ∙ s.listed in cc)) a
            | inr (inr more) ↦ subst (Announces says (night_log x night).blocks k) (agree.hash night i k place g h more low s own a) own
          ]

      own_hash : (g : Hash) × Announces says (night_log x night).blocks k g
      own_hash =
          let one = lists_one x says night k place s.listed in
          let w = only_one (night_log x night).normal (hashes_for (night_rows x says night) k) one.message.pair one.wants in
          (w.0, announced_for says (night_log x night).blocks k w.0 w.1)

      there : Announces says (so_far x last).blocks k h → Announces says (night_log x night).blocks k h
      there a =
          let w = (announced says x last are leave k h).0 a in
          same own_hash.0 own_hash.1 w.1.0 w.1.1 w.1.2
