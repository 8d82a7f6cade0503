-- Numbers that a night settled, the messages that it left behind with them, and that each is settled once.
use Rattle.std.proofs.Common.{◌≡◌, ◌⊎◌, inl, inr, ℕ, zero, suc, ◌<◌, ◌≤◌, Bool, true, false, List, refl, sym, ap, ◌∙◌, subst, arith}
use Rattle.std.specs.Prelude.{Option, Some, None, nat_le}
use Rattle.std.proofs.lemmas.Bool.{cases_Bool, cases_eq, cases_order, le-leb, leb-true}
use Rattle.ss_block.specs.declared.hash.HashPair.{HashPair}
use Rattle.ss_review.specs.declared.keep.message.NormalMessage.{NormalMessage}
use Rattle.ss_review.specs.sessions.Verified.{Answers}
use Rattle.ss_review.specs.announced.Announced.{Key, Row, rows}
use Rattle.ss_review.specs.assign.Assigned.{wanted, is_taken}
use Rattle.ss_octets.proofs.Members.{Has, contains_from_has, has-filter, from_has-filter}
use Rattle.ss_review.proofs.of_reports.Leftovers.{taken_by}
use Rattle.ss_laws.specs.carry.Nights.{Nights, is_reviewed, night_log, so_far, listed, LeavesEnough, LeaveEnough, IsSettled, IsSettledBefore, HasPair}
use Rattle.ss_laws.specs.carry.Together.{JoinedStay, HashesStay, NoneListedAgain, NoOtherWanted}
use Rattle.ss_laws.proofs.of_carry.NightBlocks.{own_reviewed, left_reviewed, reviewed_cases, reviewed_file}
use Rattle.ss_laws.proofs.of_carry.OnePair.{assigned_one}

-- the premises but that on lost numbers
pub record AgreeButLost (says : Answers) (x : Nights) (last : ℕ) : Type 0 where
  pub joined : JoinedStay says x last
  pub hash : HashesStay says x last
  pub again : NoneListedAgain says x last
  pub collision : NoOtherWanted says x last

-- ---- places

module _ (x : Nights) where
  -- what a night left behind no later night reviews
  pub left_behind : (night later place : ℕ) → is_reviewed x night place ≡ true → x.left night place ≡ false → night < later → is_reviewed x later place ≡ true → ⊥
  left_behind night zero place r l below s = omega (arith, below)
  left_behind night (suc later) place r l below s =
      elim (reviewed_cases x later place s) [
        | inl own ↦ (let low = reviewed_file x night place r in omega (arith, low, own, below))
        | inr old ↦ (elim (cases_eq later night) [
          | inl e ↦ (let no : false ≡ true = sym l ∙ ap (λ n. x.left n place) (sym e) ∙ old.1 in cc)
          | inr apart ↦ left_behind night later place r l (omega (arith, below, apart)) old.0
        ])
      ]

  -- what a night doesn't review of the files so far, one before it left behind
  pub dropped : (later place : ℕ) → x.file place ≤ later → is_reviewed x later place ≡ false
      → (night : ℕ) × (night < later) × (is_reviewed x night place ≡ true) × (x.left night place ≡ false)
  dropped zero place low gone = absurd (let yes : false ≡ true = sym gone ∙ own_reviewed x 0 place (omega (arith, low)) in cc)
  dropped (suc later) place low gone =
      elim (cases_eq (x.file place) (suc later)) [
        | inl own ↦ absurd (let yes : false ≡ true = sym gone ∙ own_reviewed x (suc later) place own in cc)
        | inr apart ↦ (elim (cases_Bool (is_reviewed x later place)) [
          | inl r ↦ (elim (cases_Bool (x.left later place)) [
            | inl l ↦ absurd (let yes : false ≡ true = sym gone ∙ left_reviewed x later place r l in cc)
            | inr l ↦ (later, omega arith, r, l)
          ])
          | inr r ↦ (let w = dropped later place (omega (arith, low, apart)) r in (w.0, omega (arith, w.1), w.2, w.3))
        ])
      ]

  -- ---- messages without a block

  pub from_night_normal : (night : ℕ) (m : NormalMessage) → Has (night_log x night).normal m → Has x.whole.normal m × (is_reviewed x night m.place ≡ true)
  from_night_normal night m h = from_has-filter (λ (n : NormalMessage). is_reviewed x night n.place) x.whole.normal m h

  pub has-night_normal : (night : ℕ) (m : NormalMessage) → Has x.whole.normal m → is_reviewed x night m.place ≡ true → Has (night_log x night).normal m
  has-night_normal night m h r = has-filter (λ (n : NormalMessage). is_reviewed x night n.place) x.whole.normal m h r

  pub from_so_far_normal : (night : ℕ) (m : NormalMessage) → Has (so_far x night).normal m → Has x.whole.normal m × (x.file m.place ≤ night)
  from_so_far_normal night m h =
      let f = from_has-filter (λ (n : NormalMessage). nat_le (x.file n.place) night) x.whole.normal m h in
      (f.0, leb-true (x.file m.place) night f.1)

  pub has-so_far_normal : (night : ℕ) (m : NormalMessage) → Has x.whole.normal m → x.file m.place ≤ night → Has (so_far x night).normal m
  has-so_far_normal night m h low =
      has-filter (λ (n : NormalMessage). nat_le (x.file n.place) night) x.whole.normal m h (le-leb (x.file m.place) night low)

  -- what a night reviews is in the files so far
  pub night_so_far : (night later : ℕ) (m : NormalMessage) → night ≤ later → Has (night_log x night).normal m → Has (so_far x later).normal m
  night_so_far night later m low h =
      let f = from_night_normal night m h in
      let file = reviewed_file x night m.place f.1 in
      has-so_far_normal later m f.0 (omega (arith, file, low))

  module _ (says : Answers) where
    abbrev pub night_rows : ℕ → List Row
    night_rows night = rows says (night_log x night).blocks

    -- ---- listed messages

    -- the message that a night lists under a number
    pub record ListsOne (night : ℕ) (k : Key) (place : ℕ) : Type 0 where
      pub message : NormalMessage
      pub stored : Has (night_log x night).normal message
      pub place_is : message.place ≡ place
      pub wants : wanted (night_log x night).normal (night_rows night) k ≡ Some message.pair

    pub lists_one : (night : ℕ) (k : Key) (place : ℕ) → listed says (night_log x night) k ≡ Some place → ListsOne night k place
    lists_one night k place e =
        let a = assigned_one (night_log x night).normal (night_rows night) k place e in
        let both : Some a.1.message.place ≡ Some place = sym a.1.place ∙ e in
        record {
          message = a.1.message;
          stored = a.1.stored;
          place_is = cc;
          wants = a.1.wants ∙ ap (λ (p : HashPair). Some p) (sym a.1.pair_is);
        }

    pub has_pair : (night : ℕ) (k : Key) (place : ℕ) (o : ListsOne night k place) → HasPair x.whole place o.message.pair
    has_pair night k place o = record {
      message = o.message;
      stored = contains_from_has x.whole.normal o.message (from_night_normal night o.message o.stored).0;
      place_is = o.place_is;
      pair_is = refl;
    }

    -- ---- settled numbers

    module _ (night : ℕ) (leaves : LeavesEnough says (night_log x night) (x.left night)) where
      pub settled_left : (k : Key) (place : ℕ) → IsSettled says x night k place → x.left night place ≡ false
      settled_left k place s = leaves.unkept k place s.listed s.unkept

      pub settled_if : (k : Key) (place : ℕ) → listed says (night_log x night) k ≡ Some place → x.left night place ≡ false → IsSettled says x night k place
      settled_if k place e l = record {
        listed = e;
        unkept = λ kept. (let no : false ≡ true = sym l ∙ leaves.kept k place e kept in cc);
      }

      -- a message is left behind with a settled number
      pub left_settled : (m : NormalMessage) → Has (night_log x night).normal m → x.left night m.place ≡ false → (k : Key) × IsSettled says x night k m.place
      left_settled m h l =
          elim (cases_Bool (is_taken (night_log x night).normal (night_rows night) m.place)) [
            | inl t ↦ (let k = taken_by (night_log x night).normal (night_rows night) m.place t in (k.0, settled_if k.0 m.place k.1 l))
            | inr f ↦ absurd (let no : false ≡ true = sym l ∙ leaves.unlisted m (contains_from_has (night_log x night).normal m h) f in cc)
          ]

      -- a number is settled by the night or isn't
      pub settled_now : (k : Key) → ((place : ℕ) × IsSettled says x night k place) ⊎ ((place : ℕ) → IsSettled says x night k place → ⊥)
      settled_now k = at (listed says (night_log x night) k) refl
        where
          by : (place : ℕ) → listed says (night_log x night) k ≡ Some place → (b : Bool) → x.left night place ≡ b
              → ((place : ℕ) × IsSettled says x night k place) ⊎ ((place : ℕ) → IsSettled says x night k place → ⊥)
          by place e true l = inr (λ q s.
              (let both : Some place ≡ Some q = sym e ∙ s.listed in
              let same : place ≡ q = cc in
              let no : true ≡ false = sym l ∙ ap (x.left night) same ∙ settled_left k q s in cc))
          by place e false l = inl (place, settled_if k place e l)

          at : (o : Option ℕ) → listed says (night_log x night) k ≡ o
              → ((place : ℕ) × IsSettled says x night k place) ⊎ ((place : ℕ) → IsSettled says x night k place → ⊥)
          at None e = inr (λ q s. (let no : None ≡ Some q = sym e ∙ s.listed in cc))
          at (Some place) e = by place e (x.left night place) refl

    -- a number is settled before a night or isn't
    pub settled_or_not : (last : ℕ) → LeaveEnough says x last → (k : Key) → IsSettledBefore says x last k ⊎ (IsSettledBefore says x last k → ⊥)
    settled_or_not zero leave k = inr (λ s. omega (arith, s.2))
    settled_or_not (suc last) leave k =
        elim (settled_now last (leave last (omega arith)) k) [
          | inl s ↦ inl (last, s.0, omega arith, s.1)
          | inr now ↦ (elim (settled_or_not last (λ night below. leave night (omega (arith, below))) k) [
            | inl s ↦ inl (s.0, s.1, omega (arith, s.2), s.3)
            | inr before ↦ inr (λ s. (elim (cases_eq s.0 last) [
              | inl e ↦ now s.1 (subst (λ night. IsSettled says x night k s.1) e s.3)
              | inr apart ↦ before (s.0, s.1, omega (arith, s.2, apart), s.3)
            ]))
          ])
        ]

    module _ (last : ℕ) (leave : LeaveEnough says x last) (agree : AgreeButLost says x last) where
      -- a number that is listed in a night isn't settled before
      pub unsettled_before : (night : ℕ) (k : Key) (place : ℕ) → night ≤ last → listed says (night_log x night) k ≡ Some place → IsSettledBefore says x night k → ⊥
      unsettled_before night k place low e s =
          let none : None ≡ Some place = sym (agree.again s.0 night k s.1 s.2 low s.3) ∙ e in cc

      -- it is settled once
      pub settled_once : (i j : ℕ) (k : Key) (y z : ℕ) → i < last → j < last → IsSettled says x i k y → IsSettled says x j k z → (i ≡ j) × (y ≡ z)
      settled_once i j k y z below under s t =
          elim (cases_order i j) [
            | inl e ↦ (e, (let both : Some y ≡ Some z = sym s.listed ∙ ap (λ night. listed says (night_log x night) k) e ∙ t.listed in cc))
            | inr (inl less) ↦ absurd (unsettled_before j k z (omega (arith, under)) t.listed (i, y, less, s))
            | inr (inr more) ↦ absurd (unsettled_before i k y (omega (arith, below)) s.listed (j, z, more, t))
          ]

      -- ---- the message of a settled number

      -- a number that some night before settled, with its message
      pub record SettledOne (k : Key) : Type 0 where
        pub night : ℕ
        pub place : ℕ
        pub before : night < last
        pub is : IsSettled says x night k place
        pub one : ListsOne night k place

      abbrev pub settled_one : (k : Key) → IsSettledBefore says x last k → SettledOne k
      settled_one k s = record { night = s.0; place = s.1; before = s.2; is = s.3; one = lists_one s.0 k s.1 s.3.listed }

      abbrev pair_if : (k : Key) → IsSettledBefore says x last k ⊎ (IsSettledBefore says x last k → ⊥) → Option HashPair
      pair_if k (inl s) = Some (settled_one k s).one.message.pair
      pair_if k (inr n) = None

      -- the hashes of the message with which a number is settled, or none
      pub settled_pair : Key → Option HashPair
      settled_pair k = pair_if k (settled_or_not last leave k)

      pub record SettledWith (p : HashPair) (k : Key) : Type 0 where
        pub one : SettledOne k
        pub pair_is : one.one.message.pair ≡ p

      from_pair_if : (k : Key) (p : HashPair) (d : IsSettledBefore says x last k ⊎ (IsSettledBefore says x last k → ⊥)) → pair_if k d ≡ Some p → SettledWith p k
      from_pair_if k p (inl s) e =
          let both : Some (settled_one k s).one.message.pair ≡ Some p = e in
          record { one = settled_one k s; pair_is = cc }
      from_pair_if k p (inr n) e = absurd (cc)

      pub settled_with : (k : Key) (p : HashPair) → settled_pair k ≡ Some p → SettledWith p k
      unfolding settled_pair
      settled_with k p e = from_pair_if k p (settled_or_not last leave k) e

      to_pair_if : (k : Key) (o : SettledOne k) (d : IsSettledBefore says x last k ⊎ (IsSettledBefore says x last k → ⊥)) → ((m n : NormalMessage) → Has x.whole.normal m → Has x.whole.normal n → m.place ≡ n.place → m ≡ n) → pair_if k d ≡ Some o.one.message.pair
      to_pair_if k o (inl s) same =
          let q = settled_one k s in
          let once = settled_once q.night o.night k q.place o.place q.before o.before q.is o.is in
          let one : q.one.message ≡ o.one.message
          = same q.one.message o.one.message (from_night_normal q.night q.one.message q.one.stored).0 (from_night_normal o.night o.one.message o.one.stored).0 (q.one.place_is ∙ once.1 ∙ sym o.one.place_is) in
          ap (λ (m : NormalMessage). Some m.pair) one
      to_pair_if k o (inr n) same = absurd (n (o.night, o.place, o.before, o.is))

      pub has-settled_pair : (k : Key) (o : SettledOne k) → ((m n : NormalMessage) → Has x.whole.normal m → Has x.whole.normal n → m.place ≡ n.place → m ≡ n) → settled_pair k ≡ Some o.one.message.pair
      unfolding settled_pair
      has-settled_pair k o same = to_pair_if k o (settled_or_not last leave k) same
