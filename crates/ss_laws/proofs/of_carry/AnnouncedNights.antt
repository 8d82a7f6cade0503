-- What some night verified and announced, and what a review of all files so far does.
use Rattle.std.proofs.Common.{◌≡◌, ◌⊎◌, inl, inr, ℕ, zero, suc, ◌≤◌, true, List, map, refl, sym, ap, ◌∙◌, subst, arith}
use Rattle.std.specs.Prelude.{Result, Ok, Err}
use Rattle.std.proofs.lemmas.Bool.{cases_eq}
use Rattle.ss_block.specs.declared.hash.Hash.{Hash}
use Rattle.ss_block.specs.declared.session.Session.{Session}
use Rattle.ss_block.specs.OrderLaws.{session_cmp_total, session_cmp_exact}
use Rattle.ss_review.specs.declared.report.session_report.SessionState.{SessionState}
use Rattle.ss_review.specs.keep.BlockMessage.{BlockMessage}
use Rattle.ss_review.specs.sessions.Sessions.{sessions, of_session}
use Rattle.ss_review.specs.sessions.Verified.{Answers, joined, is_valid, is_valid_in, is_verified}
use Rattle.ss_review.specs.announced.Announced.{Key}
use Rattle.ss_review.specs.announced.Announcing.{Announces}
use Rattle.ss_octets.proofs.Members.{Has, has_from_contains, contains_from_has}
use Rattle.ss_laws.proofs.of_parts.PartBlocks.{has-sessions, from_has-sessions}
use Rattle.ss_review.proofs.of_lists.Rising.{same_members, rises-in_order}
use Rattle.ss_laws.specs.carry.Nights.{Nights, night_log, so_far, IsJoined, LeaveEnough}
use Rattle.ss_laws.proofs.of_carry.LeftBlocks.{AreInRange, joins_or_not}
use Rattle.ss_laws.proofs.of_carry.NightBlocks.{from_of_session, has-of_session, valid_of, verified_of, from_night, has-night, from_so_far, has-so_far, own_reviewed, left_reviewed, reviewed_file, in_night, in_files, alike_at, joined_at}
use Rattle.ss_laws.proofs.of_carry.StayingPayloads.{AreAmong, one_payload, joined_between}

-- a block is verified only in a session that is joined
judged_result : (says : Answers) (b : BlockMessage) (r : Result (List ℕ) SessionState) → is_valid_in says r b ≡ true → (text : List ℕ) × (r ≡ Ok text)
judged_result says b (Ok text) v = (text, refl)
judged_result says b (Err state) v = absurd (cc)

pub verified_joined : (says : Answers) (bs : List BlockMessage) (b : BlockMessage) → is_verified says bs b ≡ true → IsJoined says bs b.session
unfolding is_verified
verified_joined says bs b v = judged_result says b (joined says (of_session bs b.session)) v

-- what a block announces it announces among others too that verify it
pub announced_among : (says : Answers) (bs ds : List BlockMessage) (k : Key) (h : Hash) (a : Announces says bs k h) → Has ds a.message → is_verified says ds a.message ≡ true
    → Announces says ds k h
announced_among says bs ds k h a has v = record {
  message = a.message;
  stored = contains_from_has ds a.message has;
  verified = v;
  session_is = a.session_is;
  said = a.said;
  says_so = a.says_so;
  group_is = a.group_is;
  index = a.index;
  number = a.number;
  hash = a.hash;
}

module _ (says : Answers) (x : Nights) (ranges : AreInRange x.whole.blocks) (last : ℕ) (leave : LeaveEnough says x last) where
  abbrev BlocksAt : ℕ → List BlockMessage
  BlocksAt night = (night_log x night).blocks

  leave_to : (night : ℕ) → night ≤ last → LeaveEnough says x night
  leave_to night low i below = leave i (omega (arith, low, below))

  pub same_joined_at : (night : ℕ) → night ≤ last → (s : Session) → joined says (of_session (night_log x night).blocks s) ≡ joined says (of_session (so_far x night).blocks s)
  same_joined_at night low s = joined_at x s says ranges night (leave_to night low)

  pub night_among : (night later : ℕ) → night ≤ later → (b : BlockMessage) → Has (night_log x night).blocks b → Has (so_far x later).blocks b
  night_among night later low b h =
      let w = from_night x night b h in
      let at = reviewed_file x night b.place w.1 in
      has-so_far x later b w.0 (omega (arith, low, at))

  files_among : (night later : ℕ) → night ≤ later → (s : Session) → AreAmong (in_files x s night) (in_files x s later)
  files_among night later low s b h =
      let o = from_of_session (so_far x night).blocks s b h in
      let w = from_so_far x night b o.0 in
      has-of_session (so_far x later).blocks s b (has-so_far x later b w.0 (omega (arith, w.1, low))) o.1

  -- a session has one payload, in whichever nights and files it is joined
  payload_at : (night later : ℕ) → night ≤ later → later ≤ last → (s : Session) (text other : List ℕ)
      → joined says (in_night x s night) ≡ Ok text → joined says (in_files x s later) ≡ Ok other → text ≡ other
  payload_at night later low high s text other e f =
      one_payload (in_files x s night) (in_files x s later) (files_among night later low s) says text other
      (sym (same_joined_at night (omega (arith, low, high)) s) ∙ e) f

  -- ---- verified blocks

  -- what a night verified is verified in a review of all files, if the session is joined there
  pub verified_in_files : (night later : ℕ) → night ≤ later → later ≤ last → (b : BlockMessage) → is_verified says (night_log x night).blocks b ≡ true
      → IsJoined says (so_far x later).blocks b.session → is_verified says (so_far x later).blocks b ≡ true
  verified_in_files night later low high b v j =
      let t = verified_joined says (BlocksAt night) b v in
      let same = payload_at night later low high b.session t.0 j.0 t.1 j.1 in
      verified_of says (so_far x later).blocks b.session j.0 j.1 b refl
      (ap (λ p. is_valid says p b) (sym same) ∙ valid_of says (BlocksAt night) b.session t.0 t.1 b refl v)

  -- and a night that joins the session verifies what a review of all files does
  pub verified_in_night : (night later : ℕ) → night ≤ later → later ≤ last → (b : BlockMessage) → is_verified says (so_far x later).blocks b ≡ true
      → IsJoined says (night_log x night).blocks b.session → is_verified says (night_log x night).blocks b ≡ true
  verified_in_night night later low high b v t =
      let j = verified_joined says (so_far x later).blocks b v in
      let same = payload_at night later low high b.session t.0 j.0 t.1 j.1 in
      verified_of says (BlocksAt night) b.session t.0 t.1 b refl
      (ap (λ p. is_valid says p b) same ∙ valid_of says (so_far x later).blocks b.session j.0 j.1 b refl v)

  -- what a night verified stays verified, if the session is joined in the end
  pub stays_verified : (night later : ℕ) → night ≤ later → later ≤ last → (b : BlockMessage)
      → is_verified says (night_log x night).blocks b ≡ true → IsJoined says (night_log x last).blocks b.session
      → is_verified says (night_log x later).blocks b ≡ true
  stays_verified night later low high b v j =
      let s = b.session in
      let t = verified_joined says (BlocksAt night) b v in
      let between : joined says (in_files x s later) ≡ Ok t.0
      = joined_between says (in_files x s night) (in_files x s later) (in_files x s last) (files_among night later low s) (files_among later last high s)
      t.0 (sym (same_joined_at night (omega (arith, low, high)) s) ∙ t.1) (j.0, sym (same_joined_at last (omega arith) s) ∙ j.1) in
      verified_of says (BlocksAt later) s t.0 (same_joined_at later high s ∙ between) b refl (valid_of says (BlocksAt night) s t.0 t.1 b refl v)

  -- ---- who announces

  -- a night has the block and verifies it
  abbrev VerifiesIn : ℕ → BlockMessage → Type 0
  VerifiesIn night b = Has (night_log x night).blocks b × (is_verified says (night_log x night).blocks b ≡ true)

  -- some night up to this one verified the block, or this one still has it
  found : (b : BlockMessage) → Has x.whole.blocks b → is_verified says (so_far x last).blocks b ≡ true → (night : ℕ) → x.file b.place ≤ night → night ≤ last
      → ((before : ℕ) × (before ≤ night) × VerifiesIn before b) ⊎ Has (night_log x night).blocks b
  found b h v zero low high = inr (has-night x zero b h (own_reviewed x zero b.place (omega (arith, low))))
  found b h v (suc night) low high =
      elim (cases_eq (x.file b.place) (suc night)) [
        | inl own ↦ inr (has-night x (suc night) b h (own_reviewed x (suc night) b.place own))
        | inr apart ↦ later (found b h v night (omega (arith, low, apart)) (omega (arith, high)))
      ]
    where
      here : Has (night_log x night).blocks b → ((before : ℕ) × (before ≤ suc night) × VerifiesIn before b) ⊎ Has (night_log x (suc night)).blocks b
      here i =
          elim (joins_or_not (joined says (in_night x b.session night))) [
            | inl j ↦ inl (night, omega arith, (i, verified_in_night night last (omega (arith, high)) (omega arith) b v j))
            | inr n ↦ inr (has-night x (suc night) b h (left_reviewed x night b.place (from_night x night b i).1
                ((leave night (omega (arith, high))).unjudged b (contains_from_has (BlocksAt night) b i) n)))
          ]

      later : (((before : ℕ) × (before ≤ night) × VerifiesIn before b) ⊎ Has (night_log x night).blocks b)
          → ((before : ℕ) × (before ≤ suc night) × VerifiesIn before b) ⊎ Has (night_log x (suc night)).blocks b
      later (inl w) = inl (w.0, omega (arith, w.1), w.2)
      later (inr i) = here i

  -- what a review of all files verifies was verified by some night
  pub some_night : (b : BlockMessage) → Has (so_far x last).blocks b → is_verified says (so_far x last).blocks b ≡ true
      → (night : ℕ) × (night ≤ last) × Has (night_log x night).blocks b × (is_verified says (night_log x night).blocks b ≡ true)
  some_night b h v =
      let w = from_so_far x last b h in
      elim (found b w.0 v last w.1 (omega arith)) [
        | inl n ↦ (n.0, n.1, n.2.0, n.2.1)
        | inr i ↦ (
            let j = verified_joined says (so_far x last).blocks b v in
            (last, omega arith, i, verified_in_night last last (omega arith) (omega arith) b v (j.0, same_joined_at last (omega arith) b.session ∙ j.1)))
      ]

  pub announced_down : (k : Key) (h : Hash) → Announces says (so_far x last).blocks k h
      → IsJoined says (so_far x last).blocks k.session × ((night : ℕ) × (night ≤ last) × Announces says (night_log x night).blocks k h)
  announced_down k h a =
      let bs = (so_far x last).blocks in
      let w = some_night a.message (has_from_contains bs a.message a.stored) a.verified in (
        subst (IsJoined says bs) a.session_is (verified_joined says bs a.message a.verified),
        (w.0, w.1, announced_among says bs (BlocksAt w.0) k h a w.2 w.3),
      )

  pub announced_up : (k : Key) (h : Hash) → IsJoined says (so_far x last).blocks k.session → (night : ℕ) → night ≤ last
      → Announces says (night_log x night).blocks k h → Announces says (so_far x last).blocks k h
  announced_up k h j night low a =
      announced_among says (BlocksAt night) (so_far x last).blocks k h a
      (night_among night last low a.message (has_from_contains (BlocksAt night) a.message a.stored))
      (verified_in_files night last low (omega arith) a.message a.verified (subst (IsJoined says (so_far x last).blocks) (sym a.session_is) j))

  -- ---- sessions

  pub same_sessions : sessions (night_log x last).blocks ≡ sessions (so_far x last).blocks
  same_sessions =
      same_members session_cmp_total (sessions (BlocksAt last)) (sessions (so_far x last).blocks)
      (rises-in_order session_cmp_total session_cmp_exact (map (λ (b : BlockMessage). b.session) (BlocksAt last)))
      (rises-in_order session_cmp_total session_cmp_exact (map (λ (b : BlockMessage). b.session) (so_far x last).blocks))
      (λ s h.
      (let w = from_has-sessions (BlocksAt last) s h in
      subst (Has (sessions (so_far x last).blocks)) w.2 (has-sessions (so_far x last).blocks w.0 (night_among last last (omega arith) w.0 w.1))))
      (λ s h.
      (let w = from_has-sessions (so_far x last).blocks s h in
      let d = (alike_at x s says ranges last leave).some w.0 (has-of_session (so_far x last).blocks s w.0 w.1 w.2) in
      let o = from_of_session (BlocksAt last) s d.0 d.1 in
      subst (Has (sessions (BlocksAt last))) o.1 (has-sessions (BlocksAt last) d.0 o.0)))
