-- The blocks of each night of a log, and what they state and cover of each session.
use Rattle.std.proofs.Common.{◌≡◌, ◌⊎◌, inl, inr, ℕ, zero, suc, ◌≤◌, ◌==◌, ◌&&◌, true, List, sym, ap, ◌∙◌, subst, arith}
use Rattle.std.specs.Prelude.{nat_le, Some, Ok}
use Rattle.std.specs.Ordering.{is_eq}
use Rattle.std.proofs.lemmas.Bool.{cases_eq, eqb-true, eq-eqb, le-leb, leb-true, or_cases, or_left, or_right, and_parts, and_from}
use Rattle.std.proofs.lemmas.Cmp.{tied_itself}
use Rattle.ss_block.specs.Block as block
use Rattle.ss_block.specs.declared.session.Session.{Session}
use Rattle.ss_block.specs.declared.reading.Reading.{Reading}
use Rattle.ss_block.specs.declared.reading.Reading.TheVariants as readings
use Rattle.ss_block.specs.OrderLaws.{session_cmp_total}
use Rattle.ss_block.specs.Reading.{reading}
use Rattle.ss_block.specs.ReadingLaws.{BlocksAreInRange}
use Rattle.ss_review.specs.keep.BlockMessage.{BlockMessage, BlockContent, Fragment}
use Rattle.ss_review.specs.keep.Notes.{notes}
use Rattle.ss_review.specs.keep.Contents.{Contents, said_in, blocks}
use Rattle.ss_review.specs.sessions.Sessions.{same_session, of_session}
use Rattle.ss_review.specs.sessions.Verified.{Answers, signature_of, is_valid, joined, is_valid_in, is_verified}
use Rattle.ss_review.specs.sessions.States.{HasValidOctet}
use Rattle.ss_octets.proofs.Members.{Has, has_from_contains, contains_from_has, has-filter, from_has-filter}
use Rattle.ss_review.proofs.of_reports.Witnesses.{stored_block}
use Rattle.ss_laws.specs.carry.Nights.{Nights, is_reviewed, night_log, so_far, AreContents, HasVerifiedOctet, LeavesEnough, LeaveEnough}
use Rattle.ss_review.proofs.of_sessions.Fragments.{fragment_in}
use Rattle.ss_laws.proofs.of_carry.SameStates.{Alike, alike_same, same_joined}
use Rattle.ss_laws.proofs.of_carry.LeftBlocks.{Joins, AreInRange, IsEnough, IsNext, left_kept, next_alike}
use Rattle.ss_review.proofs.of_pinned.KeptOfSessions.{session_is}

-- ---- blocks of a session

pub from_of_session : (bs : List BlockMessage) (s : Session) (b : BlockMessage) → Has (of_session bs s) b → Has bs b × (b.session ≡ s)
from_of_session bs s b h =
    let f = from_has-filter (λ (d : BlockMessage). same_session d.session s) bs b h in
    (f.0, session_is b.session s f.1)

pub has-of_session : (bs : List BlockMessage) (s : Session) (b : BlockMessage) → Has bs b → b.session ≡ s → Has (of_session bs s) b
has-of_session bs s b h e =
    has-filter (λ (d : BlockMessage). same_session d.session s) bs b h
    (ap (λ (t : Session). same_session t s) e ∙ ap is_eq (tied_itself session_cmp_total s))

-- a verified block of a session is valid under its payload
pub valid_of : (says : Answers) (bs : List BlockMessage) (s : Session) (text : List ℕ) → joined says (of_session bs s) ≡ Ok text
    → (b : BlockMessage) → b.session ≡ s → is_verified says bs b ≡ true → is_valid says text b ≡ true
unfolding is_verified
valid_of says bs s text e b own v =
    sym (ap (λ r. is_valid_in says r b) (ap (λ t. joined says (of_session bs t)) own ∙ e)) ∙ v

pub verified_of : (says : Answers) (bs : List BlockMessage) (s : Session) (text : List ℕ) → joined says (of_session bs s) ≡ Ok text
    → (b : BlockMessage) → b.session ≡ s → is_valid says text b ≡ true → is_verified says bs b ≡ true
unfolding is_verified
verified_of says bs s text e b own v =
    ap (λ r. is_valid_in says r b) (ap (λ t. joined says (of_session bs t)) own ∙ e) ∙ v

-- ---- certificate blocks are in range

certificate_read : (r : Reading) (c : block.Certificate) → said_in r ≡ Some (Fragment c) → r ≡ readings.Certificate c
certificate_read readings.Plain c e = absurd (cc)
certificate_read (readings.Unparsed part pos) c e = absurd (cc)
certificate_read (readings.Signature d) c e = absurd (cc)
certificate_read (readings.Certificate d) c e = let same : d ≡ c = cc in ap (λ (x : block.Certificate). readings.Certificate x) same
certificate_read (readings.Spoilt cause) c e = absurd (cc)

in_range_of : BlocksAreInRange → (log : List (List ℕ)) → AreInRange (blocks (notes log))
in_range_of laws log c f =
    let w = stored_block log f.message f.stored in
    laws.1 w.0 c (certificate_read (reading w.0) c (w.2.said_is ∙ ap (λ (said : BlockContent). Some said) f.says_so))

pub all_in_range : BlocksAreInRange → (whole : Contents) → AreContents whole → AreInRange whole.blocks
all_in_range laws whole are = subst (λ (log : Contents). AreInRange log.blocks) (sym are.1) (in_range_of laws are.0)

-- ---- nights

module _ (x : Nights) where
  pub from_night : (night : ℕ) (b : BlockMessage) → Has (night_log x night).blocks b → Has x.whole.blocks b × (is_reviewed x night b.place ≡ true)
  from_night night b h = from_has-filter (λ (d : BlockMessage). is_reviewed x night d.place) x.whole.blocks b h

  pub has-night : (night : ℕ) (b : BlockMessage) → Has x.whole.blocks b → is_reviewed x night b.place ≡ true → Has (night_log x night).blocks b
  has-night night b h e = has-filter (λ (d : BlockMessage). is_reviewed x night d.place) x.whole.blocks b h e

  pub from_so_far : (night : ℕ) (b : BlockMessage) → Has (so_far x night).blocks b → Has x.whole.blocks b × (x.file b.place ≤ night)
  from_so_far night b h =
      let f = from_has-filter (λ (d : BlockMessage). nat_le (x.file d.place) night) x.whole.blocks b h in
      (f.0, leb-true (x.file b.place) night f.1)

  pub has-so_far : (night : ℕ) (b : BlockMessage) → Has x.whole.blocks b → x.file b.place ≤ night → Has (so_far x night).blocks b
  has-so_far night b h low = has-filter (λ (d : BlockMessage). nat_le (x.file d.place) night) x.whole.blocks b h (le-leb (x.file b.place) night low)

  -- a place of a file is reviewed in that night
  pub own_reviewed : (night place : ℕ) → x.file place ≡ night → is_reviewed x night place ≡ true
  own_reviewed zero place e = eq-eqb (x.file place) 0 e
  own_reviewed (suc night) place e =
      or_left (x.file place == suc night) (is_reviewed x night place && x.left night place) (eq-eqb (x.file place) (suc night) e)

  -- and so is one that was left over
  pub left_reviewed : (night place : ℕ) → is_reviewed x night place ≡ true → x.left night place ≡ true → is_reviewed x (suc night) place ≡ true
  left_reviewed night place r l =
      or_right (x.file place == suc night) (is_reviewed x night place && x.left night place) (and_from (is_reviewed x night place) (x.left night place) r l)

  pub reviewed_cases : (night place : ℕ) → is_reviewed x (suc night) place ≡ true
      → (x.file place ≡ suc night) ⊎ ((is_reviewed x night place ≡ true) × (x.left night place ≡ true))
  reviewed_cases night place r =
      elim (or_cases (x.file place == suc night) (is_reviewed x night place && x.left night place) r) [
        | inl own ↦ inl (eqb-true (x.file place) (suc night) own)
        | inr old ↦ inr (and_parts (is_reviewed x night place) (x.left night place) old)
      ]

  pub reviewed_file : (night place : ℕ) → is_reviewed x night place ≡ true → x.file place ≤ night
  reviewed_file zero place r = let at = eqb-true (x.file place) 0 r in omega (arith, at)
  reviewed_file (suc night) place r =
      elim (reviewed_cases night place r) [
        | inl own ↦ omega (arith, own)
        | inr old ↦ (let low = reviewed_file night place old.0 in omega (arith, low))
      ]

  -- ---- a session

  module _ (s : Session) where
    abbrev pub in_night : ℕ → List BlockMessage
    in_night night = of_session (night_log x night).blocks s

    abbrev pub in_files : ℕ → List BlockMessage
    in_files night = of_session (so_far x night).blocks s

    -- a block of the session in the file of the night
    abbrev pub IsNew : ℕ → BlockMessage → Type 0
    IsNew night b = Has x.whole.blocks b × (b.session ≡ s) × (x.file b.place ≡ night)

    abbrev pub IsKeptBy : ℕ → BlockMessage → Type 0
    IsKeptBy night b = x.left night b.place ≡ true

    next : (night : ℕ) → IsNext (in_night night) (in_files night) (in_night (suc night)) (in_files (suc night)) (IsNew (suc night)) (IsKeptBy night)
    next night = record {
      night = λ b h.
          (let o = from_of_session (night_log x (suc night)).blocks s b h in
          let w = from_night (suc night) b o.0 in
          elim (reviewed_cases night b.place w.1) [
            | inl own ↦ inl (w.0, o.1, own)
            | inr old ↦ inr (has-of_session (night_log x night).blocks s b (has-night night b w.0 old.0) o.1, old.1)
          ]);
      night_new = λ b n. has-of_session (night_log x (suc night)).blocks s b (has-night (suc night) b n.0 (own_reviewed (suc night) b.place n.2)) n.1;
      night_kept = λ b h k.
          (let o = from_of_session (night_log x night).blocks s b h in
          let w = from_night night b o.0 in
          has-of_session (night_log x (suc night)).blocks s b (has-night (suc night) b w.0 (left_reviewed night b.place w.1 k)) o.1);
      all = λ b h.
          (let o = from_of_session (so_far x (suc night)).blocks s b h in
          let w = from_so_far (suc night) b o.0 in
          elim (cases_eq (x.file b.place) (suc night)) [
            | inl own ↦ inl (w.0, o.1, own)
            | inr old ↦ inr (has-of_session (so_far x night).blocks s b (has-so_far night b w.0 (omega (arith, w.1, old))) o.1)
          ]);
      all_new = λ b n. has-of_session (so_far x (suc night)).blocks s b (has-so_far (suc night) b n.0 (omega (arith, n.2))) n.1;
      all_old = λ b h.
          (let o = from_of_session (so_far x night).blocks s b h in
          let w = from_so_far night b o.0 in
          has-of_session (so_far x (suc night)).blocks s b (has-so_far (suc night) b w.0 (omega (arith, w.1))) o.1);
    }

    first_alike : (says : Answers) → Alike says (in_night 0) (in_files 0)
    first_alike says =
        alike_same says (in_night 0) (in_files 0)
        (λ b h.
        (let o = from_of_session (night_log x 0).blocks s b h in
        let w = from_night 0 b o.0 in
        has-of_session (so_far x 0).blocks s b (has-so_far 0 b w.0 (reviewed_file 0 b.place w.1)) o.1))
        (λ b h.
        (let o = from_of_session (so_far x 0).blocks s b h in
        let w = from_so_far 0 b o.0 in
        has-of_session (night_log x 0).blocks s b (has-night 0 b w.0 (own_reviewed 0 b.place (omega (arith, w.1)))) o.1))

    module _ (says : Answers) where
      left_octet : (night : ℕ) → LeavesEnough says (night_log x night) (x.left night) → (text : List ℕ) → joined says (in_night night) ≡ Ok text
          → (index : ℕ) → HasValidOctet says (in_night night) text index → (o : HasValidOctet says (in_night night) text index) × IsKeptBy night o.message
      left_octet night leaves text e index o =
          let bs = (night_log x night).blocks in
          let m = from_of_session bs s o.message (has_from_contains (in_night night) o.message o.stored) in
          let given : HasVerifiedOctet says bs s index
          = record {
            message = o.message;
            stored = contains_from_has bs o.message m.0;
            verified = verified_of says bs s text e o.message m.1 (ap (λ (t : BlockContent). says.valid text o.message.signed (signature_of t)) o.says_so ∙ o.valid);
            session_is = m.1;
            said = o.said;
            says_so = o.says_so;
            from = o.from;
            to = o.to;
          } in
          let w = leaves.certificates s index given in
          let v = w.0 in (
            record {
              message = v.message;
              stored = contains_from_has (in_night night) v.message (has-of_session bs s v.message (has_from_contains bs v.message v.stored) v.session_is);
              said = v.said;
              says_so = v.says_so;
              valid = sym (ap (λ (t : BlockContent). says.valid text v.message.signed (signature_of t)) v.says_so) ∙ valid_of says bs s text e v.message v.session_is v.verified;
              from = v.from;
              to = v.to;
            },
            w.1,
          )

      enough_left : (night : ℕ) → LeavesEnough says (night_log x night) (x.left night) → IsEnough says (in_night night) (IsKeptBy night)
      enough_left night leaves = record {
        unjudged = λ n b h.
            (let o = from_of_session (night_log x night).blocks s b h in
            leaves.unjudged b (contains_from_has (night_log x night).blocks b o.0) (λ j.
            n (subst (λ t. Joins says (of_session (night_log x night).blocks t)) o.1 j)));
        octets = left_octet night leaves;
      }

      in_range_at : AreInRange x.whole.blocks → (night : ℕ) → AreInRange (in_night night)
      in_range_at ranges night c f =
          let o = from_of_session (night_log x night).blocks s f.message f.stored in
          ranges c (fragment_in (in_night night) x.whole.blocks c f (from_night night f.message o.0).0)

      -- in each night, what all its files state and cover
      pub alike_at : AreInRange x.whole.blocks → (night : ℕ) → LeaveEnough says x night → Alike says (in_night night) (in_files night)
      alike_at ranges zero leave = first_alike says
      alike_at ranges (suc night) leave =
          let n = next night in
          next_alike says (in_night night) (in_files night) (in_night (suc night)) (in_files (suc night)) (IsNew (suc night)) (IsKeptBy night) n
          (alike_at ranges night (λ i below. leave i (omega (arith, below))))
          (left_kept says (in_night night) (in_night (suc night)) (IsKeptBy night) n.night_kept (in_range_at ranges night) (enough_left night (leave night (omega arith))))

      pub joined_at : AreInRange x.whole.blocks → (night : ℕ) → LeaveEnough says x night → joined says (in_night night) ≡ joined says (in_files night)
      joined_at ranges night leave = same_joined says (in_night night) (in_files night) (alike_at ranges night leave)
