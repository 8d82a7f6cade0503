-- Which premises the small logs meet whose counters are computed.
use Rattle.std.proofs.Common.{◌≡◌, inl, inr, ℕ, zero, suc, ◌<◌, true, List, [], ◌∷◌, refl, sym, ap, ◌∙◌, subst, arith}
use Rattle.std.specs.Prelude.{Result, Ok, Err}
use Rattle.std.specs.List.Sorted.{IsStrictlySortedBy}
use Rattle.std.proofs.lemmas.Bool.{true≢false}
use Rattle.ss_block.specs.Block as block
use Rattle.ss_block.specs.declared.hash.Alg.TheVariants as algs
use Rattle.ss_block.specs.PayloadReading.{stamp_in, stamp_and_rest_in, blob_in, payload_in}
use Rattle.ss_octets.specs.Cut.{parts_at}
use Rattle.ss_review.specs.keep.BlockMessage.{BlockMessage}
use Rattle.ss_review.specs.declared.report.session_report.SessionState.{SessionState}
use Rattle.ss_review.specs.declared.report.session_report.SessionState.TheVariants as states
use Rattle.ss_review.specs.report.Rows.{yes}
use Rattle.ss_review.specs.sessions.Payloads.{is_disputed, cover, joined_text, stated_payload}
use Rattle.ss_review.specs.sessions.Sessions.{of_session}
use Rattle.ss_review.specs.sessions.Verified.{joined, is_verified}
use Rattle.ss_octets.proofs.Members.{Has, has_from_contains, contains_from_has}
use Rattle.ss_laws.specs.carry.cases.NightRows.{payload_at, number_at, disputed_later}
use Rattle.ss_laws.specs.carry.Nights.{night_log, so_far, IsJoined, HasVerifiedOctet, LeaveEnough}
use Rattle.ss_laws.proofs.of_carry.ToldApart.{AreApart}
use Rattle.ss_laws.specs.carry.cases.CounterRows.{here, cut_at, late_log, late_block, nothing_left, no_certificate}
use Rattle.ss_laws.specs.carry.NightCounters.{LeavesSession, LeaveSession}
use Rattle.ss_laws.proofs.of_carry.cases.SmallNights.{small_apart, carried_leave}

late_apart : AreApart late_log
unfolding IsStrictlySortedBy
late_apart = small_apart late_log ((refl, (refl, tt)), ((refl, tt), (tt, tt))) ((refl, tt), (tt, tt)) refl refl

pub late_leave : LeaveEnough yes late_block 1
late_leave = carried_leave yes (cut_at 3) late_log late_apart 1

-- ---- disputed in the end

joined_first : IsJoined yes (night_log disputed_later 0).blocks here
unfolding joined is_disputed cover joined_text stated_payload parts_at stamp_in stamp_and_rest_in blob_in payload_in
joined_first = (45 ∷ 32 ∷ 78 ∷ [], refl)

left_octet : (b : BlockMessage) → Has (night_log disputed_later 0).blocks b → (index : ℕ) (o : HasVerifiedOctet yes (night_log disputed_later 0).blocks here index) → b ≡ o.message
    → disputed_later.left 0 o.message.place ≡ true
left_octet b (inl e) index o f = subst (λ (d : BlockMessage). disputed_later.left 0 d.place ≡ true) (e ∙ f) refl
left_octet b (inr (inl e)) index o f = let no = ap (λ (d : BlockMessage). d.said) (e ∙ f) ∙ o.says_so in absurd (cc)
left_octet b (inr (inr h)) index o f = absurd h

leaves_before : (night : ℕ) → night < 1 → LeavesSession yes (night_log disputed_later night) (disputed_later.left night) here
leaves_before zero low = record {
  unjudged = λ b h own n. absurd (n joined_first);
  certificates = λ index o. (o, left_octet o.message (has_from_contains (night_log disputed_later 0).blocks o.message o.stored) index o refl);
}
leaves_before (suc night) low = absurd (omega arith)

pub disputed_leave : LeaveSession yes disputed_later 1 here
disputed_leave = leaves_before

disputed_then : joined yes (of_session (so_far disputed_later 1).blocks here) ≡ Err states.Disputed
unfolding joined is_disputed cover joined_text stated_payload parts_at stamp_in stamp_and_rest_in blob_in payload_in
disputed_then = refl

not_both : (state : SessionState) (text : List ℕ) (r : Result (List ℕ) SessionState) → r ≡ Err state → r ≡ Ok text → ⊥
not_both state text r e f = cc

pub disputed_unjoined : ¬ IsJoined yes (so_far disputed_later 1).blocks here
disputed_unjoined j = not_both states.Disputed j.0 (joined yes (of_session (so_far disputed_later 1).blocks here)) disputed_then j.1

-- ---- not enough is left over

incomplete_first : joined yes (of_session (night_log nothing_left 0).blocks here) ≡ Err states.Incomplete
unfolding joined is_disputed cover joined_text stated_payload parts_at stamp_in stamp_and_rest_in blob_in payload_in
incomplete_first = refl

pub unjudged_leave : ¬ LeaveSession yes nothing_left 1 here
unjudged_leave leave =
    let bs = (night_log nothing_left 0).blocks in
    let b = number_at 0 (104 ∷ []) 1 1 in
    true≢false (sym ((leave 0 (omega arith)).unjudged b (contains_from_has bs b (inl refl)) refl
    (λ j. not_both states.Incomplete j.0 (joined yes (of_session bs here)) incomplete_first j.1)))

abbrev its_certificate : block.Certificate
its_certificate = record {
  alg = algs.Sha1;
  rsid = 1;
  group = record { sg = 0; spri = 0 };
  total = 3;
  index = 1;
  fragment = 45 ∷ 32 ∷ 78 ∷ [];
  signature = 0 ∷ [];
}

its_octet : HasVerifiedOctet yes (night_log no_certificate 0).blocks here 1
unfolding is_verified joined is_disputed cover joined_text stated_payload parts_at stamp_in stamp_and_rest_in blob_in payload_in
its_octet =
    let bs = (night_log no_certificate 0).blocks in
    let b = payload_at 0 (104 ∷ []) in
    record {
      message = b;
      stored = contains_from_has bs b (inl refl);
      verified = refl;
      session_is = refl;
      said = its_certificate;
      says_so = refl;
      from = omega arith;
      to = omega arith;
    }

pub certificate_leave : ¬ LeaveSession yes no_certificate 1 here
certificate_leave leave = true≢false (sym ((leave 0 (omega arith)).certificates 1 its_octet).1)
