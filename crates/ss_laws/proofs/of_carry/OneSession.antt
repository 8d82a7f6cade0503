-- The nights of one session, each of which leaves enough of it over: they verify together what one review of all files so
-- far verifies. This is `AnnouncedNights`, for one session and what is left over of it alone.
use Rattle.std.proofs.Common.{◌≡◌, ◌⊎◌, inl, inr, ℕ, zero, suc, ◌≤◌, true, List, sym, ap, ◌∙◌, subst, arith}
use Rattle.std.specs.Prelude.{Ok}
use Rattle.std.proofs.lemmas.Bool.{cases_eq}
use Rattle.ss_block.specs.declared.session.Session.{Session}
use Rattle.ss_review.specs.keep.BlockMessage.{BlockMessage, BlockContent}
use Rattle.ss_review.specs.sessions.States.{HasValidOctet}
use Rattle.ss_review.specs.sessions.Verified.{Answers, signature_of, is_valid, joined, is_verified}
use Rattle.ss_octets.proofs.Members.{Has, has_from_contains, contains_from_has}
use Rattle.ss_laws.specs.carry.Nights.{Nights, night_log, so_far, IsJoined, HasVerifiedOctet}
use Rattle.ss_laws.proofs.of_carry.AnnouncedNights.{verified_joined}
use Rattle.ss_review.proofs.of_sessions.Fragments.{fragment_in}
use Rattle.ss_laws.proofs.of_carry.LeftBlocks.{AreInRange, IsEnough, IsNext, joins_or_not, left_kept, next_alike}
use Rattle.ss_laws.proofs.of_carry.NightBlocks.{from_of_session, has-of_session, valid_of, verified_of, from_night, has-night, from_so_far, has-so_far, own_reviewed, left_reviewed, reviewed_cases, reviewed_file, in_night, in_files, IsNew, IsKeptBy}
use Rattle.ss_laws.proofs.of_carry.SameStates.{Alike, alike_same, same_joined}
use Rattle.ss_laws.proofs.of_carry.StayingPayloads.{AreAmong, one_payload}
use Rattle.ss_laws.specs.carry.NightCounters.{LeavesSession, LeaveSession}

-- ---- what each night states and covers

module _ (x : Nights) (s : Session) where
  next : (night : ℕ) → IsNext (in_night x s night) (in_files x s night) (in_night x s (suc night)) (in_files x s (suc night)) (IsNew x s (suc night)) (IsKeptBy x s night)
  next night = record {
    night = λ b h.
        (let o = from_of_session (night_log x (suc night)).blocks s b h in
        let w = from_night x (suc night) b o.0 in
        elim (reviewed_cases x night b.place w.1) [
          | inl own ↦ inl (w.0, o.1, own)
          | inr old ↦ inr (has-of_session (night_log x night).blocks s b (has-night x night b w.0 old.0) o.1, old.1)
        ]);
    night_new = λ b n. has-of_session (night_log x (suc night)).blocks s b (has-night x (suc night) b n.0 (own_reviewed x (suc night) b.place n.2)) n.1;
    night_kept = λ b h k.
        (let o = from_of_session (night_log x night).blocks s b h in
        let w = from_night x night b o.0 in
        has-of_session (night_log x (suc night)).blocks s b (has-night x (suc night) b w.0 (left_reviewed x night b.place w.1 k)) o.1);
    all = λ b h.
        (let o = from_of_session (so_far x (suc night)).blocks s b h in
        let w = from_so_far x (suc night) b o.0 in
        elim (cases_eq (x.file b.place) (suc night)) [
          | inl own ↦ inl (w.0, o.1, own)
          | inr old ↦ inr (has-of_session (so_far x night).blocks s b (has-so_far x night b w.0 (omega (arith, w.1, old))) o.1)
        ]);
    all_new = λ b n. has-of_session (so_far x (suc night)).blocks s b (has-so_far x (suc night) b n.0 (omega (arith, n.2))) n.1;
    all_old = λ b h.
        (let o = from_of_session (so_far x night).blocks s b h in
        let w = from_so_far x night b o.0 in
        has-of_session (so_far x (suc night)).blocks s b (has-so_far x (suc night) b w.0 (omega (arith, w.1))) o.1);
  }

  first_alike : (says : Answers) → Alike says (in_night x s 0) (in_files x s 0)
  first_alike says =
      alike_same says (in_night x s 0) (in_files x s 0)
      (λ b h.
      (let o = from_of_session (night_log x 0).blocks s b h in
      let w = from_night x 0 b o.0 in
      has-of_session (so_far x 0).blocks s b (has-so_far x 0 b w.0 (reviewed_file x 0 b.place w.1)) o.1))
      (λ b h.
      (let o = from_of_session (so_far x 0).blocks s b h in
      let w = from_so_far x 0 b o.0 in
      has-of_session (night_log x 0).blocks s b (has-night x 0 b w.0 (own_reviewed x 0 b.place (omega (arith, w.1)))) o.1))

  module _ (says : Answers) (ranges : AreInRange x.whole.blocks) where
    left_octet : (night : ℕ) → LeavesSession says (night_log x night) (x.left night) s → (text : List ℕ) → joined says (in_night x s night) ≡ Ok text
        → (index : ℕ) → HasValidOctet says (in_night x s night) text index → (o : HasValidOctet says (in_night x s night) text index) × IsKeptBy x s night o.message
    left_octet night leaves text e index o =
        let bs = (night_log x night).blocks in
        let m = from_of_session bs s o.message (has_from_contains (in_night x s night) o.message o.stored) in
        let given : HasVerifiedOctet says bs s index
        = record {
          message = o.message;
          stored = contains_from_has bs o.message m.0;
          verified = verified_of says bs s text e o.message m.1 (ap (λ (t : BlockContent). says.valid text o.message.signed (signature_of t)) o.says_so ∙ o.valid);
          session_is = m.1;
          said = o.said;
          says_so = o.says_so;
          from = o.from;
          to = o.to;
        } in
        let w = leaves.certificates index given in
        let v = w.0 in (
          record {
            message = v.message;
            stored = contains_from_has (in_night x s night) v.message (has-of_session bs s v.message (has_from_contains bs v.message v.stored) v.session_is);
            said = v.said;
            says_so = v.says_so;
            valid = sym (ap (λ (t : BlockContent). says.valid text v.message.signed (signature_of t)) v.says_so) ∙ valid_of says bs s text e v.message v.session_is v.verified;
            from = v.from;
            to = v.to;
          },
          w.1,
        )

    enough_left : (night : ℕ) → LeavesSession says (night_log x night) (x.left night) s → IsEnough says (in_night x s night) (IsKeptBy x s night)
    enough_left night leaves = record {
      unjudged = λ n b h.
          (let o = from_of_session (night_log x night).blocks s b h in
          leaves.unjudged b (contains_from_has (night_log x night).blocks b o.0) o.1 n);
      octets = left_octet night leaves;
    }

    in_range_at : (night : ℕ) → AreInRange (in_night x s night)
    in_range_at night c f =
        let o = from_of_session (night_log x night).blocks s f.message f.stored in
        ranges c (fragment_in (in_night x s night) x.whole.blocks c f (from_night x night f.message o.0).0)

    alike_at : (night : ℕ) → LeaveSession says x night s → Alike says (in_night x s night) (in_files x s night)
    alike_at zero leave = first_alike says
    alike_at (suc night) leave =
        let n = next night in
        next_alike says (in_night x s night) (in_files x s night) (in_night x s (suc night)) (in_files x s (suc night)) (IsNew x s (suc night)) (IsKeptBy x s night) n
        (alike_at night (λ i below. leave i (omega (arith, below))))
        (left_kept says (in_night x s night) (in_night x s (suc night)) (IsKeptBy x s night) n.night_kept (in_range_at night) (enough_left night (leave night (omega arith))))

    -- ---- what is verified in some night

    module _ (last : ℕ) (leave : LeaveSession says x last s) where
      same_joined_at : (night : ℕ) → night ≤ last → joined says (in_night x s night) ≡ joined says (in_files x s night)
      same_joined_at night low =
          same_joined says (in_night x s night) (in_files x s night) (alike_at night (λ i below. leave i (omega (arith, low, below))))

      files_among : (night : ℕ) → night ≤ last → AreAmong (in_files x s night) (in_files x s last)
      files_among night low b h =
          let o = from_of_session (so_far x night).blocks s b h in
          let w = from_so_far x night b o.0 in
          has-of_session (so_far x last).blocks s b (has-so_far x last b w.0 (omega (arith, w.1, low))) o.1

      -- a night and the end have one payload
      payload_at : (night : ℕ) → night ≤ last → (text other : List ℕ) → joined says (in_night x s night) ≡ Ok text → joined says (in_files x s last) ≡ Ok other → text ≡ other
      payload_at night low text other e f =
          one_payload (in_files x s night) (in_files x s last) (files_among night low) says text other (sym (same_joined_at night low) ∙ e) f

      pub night_among : (night : ℕ) → night ≤ last → (b : BlockMessage) → Has (night_log x night).blocks b → Has (so_far x last).blocks b
      night_among night low b h =
          let w = from_night x night b h in
          let at = reviewed_file x night b.place w.1 in
          has-so_far x last b w.0 (omega (arith, low, at))

      own_joined : (bs : List BlockMessage) (b : BlockMessage) → b.session ≡ s → is_verified says bs b ≡ true → IsJoined says bs s
      own_joined bs b own v = subst (IsJoined says bs) own (verified_joined says bs b v)

      pub verified_up : (night : ℕ) → night ≤ last → (b : BlockMessage) → b.session ≡ s → is_verified says (night_log x night).blocks b ≡ true
          → IsJoined says (so_far x last).blocks s → is_verified says (so_far x last).blocks b ≡ true
      verified_up night low b own v j =
          let t = own_joined (night_log x night).blocks b own v in
          let same = payload_at night low t.0 j.0 t.1 j.1 in
          verified_of says (so_far x last).blocks s j.0 j.1 b own
          (ap (λ p. is_valid says p b) (sym same) ∙ valid_of says (night_log x night).blocks s t.0 t.1 b own v)

      verified_down : (night : ℕ) → night ≤ last → (b : BlockMessage) → b.session ≡ s → is_verified says (so_far x last).blocks b ≡ true
          → IsJoined says (night_log x night).blocks s → is_verified says (night_log x night).blocks b ≡ true
      verified_down night low b own v t =
          let j = own_joined (so_far x last).blocks b own v in
          let same = payload_at night low t.0 j.0 t.1 j.1 in
          verified_of says (night_log x night).blocks s t.0 t.1 b own
          (ap (λ p. is_valid says p b) same ∙ valid_of says (so_far x last).blocks s j.0 j.1 b own v)

      -- a night up to this one has the block and verifies it
      abbrev IsVerifiedBy : BlockMessage → ℕ → Type 0
      IsVerifiedBy b night =
          (before : ℕ) × (before ≤ night) × Has (night_log x before).blocks b × (is_verified says (night_log x before).blocks b ≡ true)

      found : (b : BlockMessage) → b.session ≡ s → Has x.whole.blocks b → is_verified says (so_far x last).blocks b ≡ true → (night : ℕ) → x.file b.place ≤ night → night ≤ last
          → IsVerifiedBy b night ⊎ Has (night_log x night).blocks b
      found b own h v zero low high = inr (has-night x zero b h (own_reviewed x zero b.place (omega (arith, low))))
      found b own h v (suc night) low high =
          elim (cases_eq (x.file b.place) (suc night)) [
            | inl new ↦ inr (has-night x (suc night) b h (own_reviewed x (suc night) b.place new))
            | inr apart ↦ later (found b own h v night (omega (arith, low, apart)) (omega (arith, high)))
          ]
        where
          here : Has (night_log x night).blocks b → IsVerifiedBy b (suc night) ⊎ Has (night_log x (suc night)).blocks b
          here i =
              elim (joins_or_not (joined says (in_night x s night))) [
                | inl j ↦ inl (night, omega arith, i, verified_down night (omega (arith, high)) b own v j)
                | inr n ↦ inr (has-night x (suc night) b h (left_reviewed x night b.place (from_night x night b i).1
                    ((leave night (omega (arith, high))).unjudged b (contains_from_has (night_log x night).blocks b i) own n)))
              ]

          later : IsVerifiedBy b night ⊎ Has (night_log x night).blocks b → IsVerifiedBy b (suc night) ⊎ Has (night_log x (suc night)).blocks b
          later (inl w) = inl (w.0, omega (arith, w.1), w.2, w.3)
          later (inr i) = here i

      -- what a review of all files so far verifies was verified by some night
      pub some_night : (b : BlockMessage) → b.session ≡ s → Has (so_far x last).blocks b → is_verified says (so_far x last).blocks b ≡ true
          → (night : ℕ) × (night ≤ last) × Has (night_log x night).blocks b × (is_verified says (night_log x night).blocks b ≡ true)
      some_night b own h v =
          let w = from_so_far x last b h in
          elim (found b own w.0 v last w.1 (omega arith)) [
            | inl n ↦ n
            | inr i ↦ (
                let j = own_joined (so_far x last).blocks b own v in
                (last, omega arith, i, verified_down last (omega arith) b own v (j.0, same_joined_at last (omega arith) ∙ j.1)))
          ]
