-- The first night of the small log of texts verifies nothing, so it settles nothing.
use Rattle.std.proofs.Common.{◌≡◌, ℕ, zero, suc, ◌<◌, ◌≤◌, Bool, true, false, cond, List, [], ◌∷◌, length, map, refl, sym, ap, ◌∙◌, subst, arith}
use Rattle.std.specs.Prelude.{nat_lt, Some, slice_get}
use Rattle.std.proofs.lemmas.Bool.{ltb-true}
use Rattle.std.proofs.lemmas.Option.{same_Some}
use Rattle.ss_block.specs.Block as block
use Rattle.ss_block.specs.Reading.{reading}
use Rattle.ss_block.specs.WritingLaws.{SignaturesAreRead}
use Rattle.ss_block.specs.declared.reading.Reading.TheVariants as readings
use Rattle.ss_block.specs.declared.session.Session.{Session}
use Rattle.ss_review.specs.keep.BlockMessage.{BlockMessage, Hashes, Fragment}
use Rattle.ss_review.specs.declared.report.session_report.SessionReport.{SessionReport}
use Rattle.ss_review.specs.declared.report.session_report.SessionState.TheVariants as states
use Rattle.ss_review.specs.Laws.{StatesAreTheirs, JoinedPayloadsAreStated}
use Rattle.ss_review.specs.announced.Announced.{Key, rows}
use Rattle.ss_review.specs.deliveries.Delivery.{own_session}
use Rattle.ss_review.specs.deliveries.DeliveryLaws.{IsListedAsJoined}
use Rattle.ss_review.specs.deliveries.SmallChains as chains
use Rattle.ss_review.specs.deliveries.SmallChains.{mark, small, message, accepting, whole}
use Rattle.ss_review.specs.keep.Contents.{said_in, blocks}
use Rattle.ss_review.specs.keep.Notes.{notes}
use Rattle.ss_review.specs.report.Report.{report}
use Rattle.ss_review.specs.sessions.Payloads.{certificates}
use Rattle.ss_review.specs.sessions.Sessions.{sessions, of_session}
use Rattle.ss_review.specs.sessions.Verified.{joined, state_in, is_verified}
use Rattle.ss_octets.proofs.Members.{Has, has_from_contains, from_has-map}
use Rattle.ss_review.proofs.of_assignment.OnePlaceOneKey.{wanted_key, assigned_cases}
use Rattle.ss_review.proofs.of_counters.Shortfalls.{report_of_session, reports_are}
use Rattle.ss_review.proofs.of_numbers.Announcements.{announced_key}
use Rattle.ss_review.proofs.of_reports.Witnesses.{stored_block}
use Rattle.ss_review.proofs.of_sessions.StatesTold.{payload_told}
use Rattle.ss_review.proofs.of_sessions.Stating.{stated_by-IsStatedBy}
use Rattle.ss_laws.specs.carry.Nights.{Nights, night_log, IsJoined, IsSettled}
use Rattle.ss_laws.specs.carry.Together.{FilesFollow, AgreeLater}
use Rattle.ss_laws.proofs.of_carry.AnnouncedNights.{verified_joined}
use Rattle.ss_review.proofs.of_sessions.Fragments.{total_of}
use Rattle.ss_laws.proofs.of_carry.NightBlocks.{from_of_session, from_night, reviewed_file}
use Rattle.ss_laws.specs.carry.CarriedNights.{nights_of}
use Rattle.ss_laws.specs.carry.cases.CounterRows.{cut_at}
use Rattle.ss_laws.specs.carry.EachNight.{BelongLater}
use Rattle.ss_laws.specs.carry.cases.KeptTexts.{first_file, second_file, kept_log}
use Rattle.ss_laws.proofs.of_carry.cases.SmallNights.{cut_rises}
use Rattle.ss_laws.proofs.of_ahead.cases.SmallBlocks.{block_read, said_of}

-- ---- the files

cut_within : (b : Bool) → cond b 0 1 ≤ 1
cut_within true = omega arith
cut_within false = omega arith

pub within : (place : ℕ) → place < length kept_log → cut_at 1 place ≤ 1
within place low = cut_within (nat_lt place 1)

before_cut : (b : Bool) → cond b 0 1 ≤ 0 → b ≡ true
before_cut true low = refl
before_cut false low = absurd (omega (arith, low))

first_place : (place : ℕ) → cut_at 1 place ≤ 0 → place ≡ 0
first_place place low = let l = ltb-true place 1 (before_cut (nat_lt place 1) low) in omega (arith, l)

pub first_within : (place : ℕ) → place < length first_file → cut_at 1 place ≤ 0
first_within zero low = omega arith
first_within (suc place) low = absurd (omega (arith, low))

pub second_later : BelongLater (cut_at 1) first_file second_file 0
second_later zero low high = absurd (omega (arith, low))
second_later (suc place) low high = later (nat_lt (suc place) 1) refl
  where
    later : (b : Bool) → nat_lt (suc place) 1 ≡ b → 0 < cond b 0 1
    later true e = absurd (let l = ltb-true (suc place) 1 e in omega (arith, l))
    later false e = omega arith

pub follow : (log : List (List ℕ)) → FilesFollow (nights_of accepting (cut_at 1) log)
follow log place other low below = cut_rises 1 place other low

-- ---- the first block is a signature block

abbrev block_text : List ℕ
block_text = chains.block 0 1 (message 49 ∷ [])

first_text : slice_get kept_log 0 ≡ Some block_text
first_text = refl

module _ (read : SignaturesAreRead) where
  is_read : reading block_text ≡ readings.Signature (said_of 0 1 (message 49))
  is_read = (block_read read 0 1 (message 49) (omega arith) (omega arith) (omega arith)).read

  abbrev x : Nights
  x = nights_of accepting (cut_at 1) kept_log

  first_said : (b : BlockMessage) → Has (night_log (nights_of accepting (cut_at 1) kept_log) 0).blocks b → b.said ≡ Hashes (said_of 0 1 (message 49))
  first_said b h =
      let w = from_night x 0 b h in
      let at : b.place ≡ 0 = first_place b.place (reviewed_file x 0 b.place w.1) in
      let t = stored_block kept_log b w.0 in
      let same : Some t.0 ≡ Some block_text = sym t.1 ∙ ap (slice_get kept_log) at ∙ first_text in
      let text : t.0 ≡ block_text = same_Some t.0 block_text same in
      let told : Some (Hashes (said_of 0 1 (message 49))) ≡ Some b.said = sym (ap said_in (ap reading text ∙ is_read)) ∙ t.2.said_is in
      sym (same_Some (Hashes (said_of 0 1 (message 49))) b.said told)

  -- so it joins no session
  unjoined : (s : Session) → IsJoined accepting (night_log (nights_of accepting (cut_at 1) kept_log) 0).blocks s → ⊥
  unjoined s j =
      let bs = (night_log x 0).blocks in
      let own = of_session bs s in
      let under = payload_told accepting own j.0 j.1 in
      let w = total_of own (length j.0) ((stated_by-IsStatedBy (certificates own)).total (length j.0) under.0.text_is.total) in
      let e : Hashes (said_of 0 1 (message 49)) ≡ Fragment w.0 = sym (first_said w.1.message (from_of_session bs s w.1.message w.1.stored).0) ∙ w.1.says_so in
      no_fragment w.0 e
    where
      no_fragment : (c : block.Certificate) → Hashes (said_of 0 1 (message 49)) ≡ Fragment c → ⊥
      no_fragment c e = cc

  unverified : (b : BlockMessage) → is_verified accepting (night_log (nights_of accepting (cut_at 1) kept_log) 0).blocks b ≡ true → ⊥
  unverified b v = unjoined b.session (verified_joined accepting (night_log x 0).blocks b v)

  unsettled : (k : Key) (place : ℕ) → IsSettled accepting (nights_of accepting (cut_at 1) kept_log) 0 k place → ⊥
  unsettled k place s =
      let log = night_log x 0 in
      let a = assigned_cases log.normal (rows accepting log.blocks) k place s.listed in
      let w = announced_key accepting log.blocks k (wanted_key log.normal (rows accepting log.blocks) k a.0 a.1) in
      unverified w.1.message w.1.verified

  settled_at : (night : ℕ) → night < 1 → (k : Key) (place : ℕ) → IsSettled accepting (nights_of accepting (cut_at 1) kept_log) night k place → ⊥
  settled_at zero low k place s = unsettled k place s
  settled_at (suc night) low k place s = absurd (omega arith)

  verified_at : (night : ℕ) → night < 1 → (b : BlockMessage) → is_verified accepting (night_log (nights_of accepting (cut_at 1) kept_log) night).blocks b ≡ true → ⊥
  verified_at zero low b v = unverified b v
  verified_at (suc night) low b v = absurd (omega arith)

  pub agree : AgreeLater accepting (nights_of accepting (cut_at 1) kept_log) 1
  agree = record {
    joined = λ night b low c v l. absurd (verified_at night low b v);
    hash = λ night later k place g h low high s a b. absurd (settled_at night (omega (arith, low, high)) k place s);
    again = λ night later k place low high s. absurd (settled_at night (omega (arith, low, high)) k place s);
    lost = λ night k place p j h low s. absurd (settled_at night low k place s);
    collision = λ night later k place p j q w low high s. absurd (settled_at night (omega (arith, low, high)) k place s);
  }

-- ---- the session is joined in the end

pub joined_in_the_end : StatesAreTheirs → JoinedPayloadsAreStated → IsListedAsJoined whole → IsJoined accepting (blocks (notes kept_log)) (own_session small)
joined_in_the_end theirs stated l =
    let told = report accepting kept_log in
    let h : Has (map (report_of_session accepting kept_log) (sessions (blocks (notes kept_log)))) l.entry
    = subst (λ (ss : List SessionReport). Has ss l.entry) (reports_are accepting kept_log) (has_from_contains told.sessions l.entry l.of_report) in
    let w = from_has-map (report_of_session accepting kept_log) (sessions (blocks (notes kept_log))) l.entry h in
    let same : w.0 ≡ own_session small = ap (λ (r : SessionReport). r.session) w.2 ∙ l.own in
    let state : state_in (joined accepting (of_session (blocks (notes kept_log)) w.0)) ≡ states.Joined = ap (λ (r : SessionReport). r.state) w.2 ∙ l.joined in
    let under = (theirs accepting kept_log w.0 states.Joined).0 state in
    subst (IsJoined accepting (blocks (notes kept_log))) same (under.0, (stated accepting kept_log w.0 under.0).1 under.1)
