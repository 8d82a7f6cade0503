-- The small log that has everything, and a stranger's block, lists its message by the originator's payload.
use Rattle.std.proofs.Common.{◌≡◌, inl, inr, ℕ, Bool, true, false, ◌&&◌, List, [], ◌∷◌, refl, sym, ap, ◌∙◌, subst}
use Rattle.std.specs.Prelude.{Err}
use Rattle.std.specs.List.{Contains, list_all}
use Rattle.std.proofs.lemmas.Bool.{cases_Bool, and_parts, true≢false}
use Rattle.ss_block.specs.Hashes.{pair}
use Rattle.ss_block.specs.WritingLaws.{SignaturesAreRead, CertificatesAreRead}
use Rattle.ss_block.specs.declared.session.Session.{Session}
use Rattle.ss_origin.specs.Ahead.{lives_of}
use Rattle.ss_review.specs.announced.Announced.{rows}
use Rattle.ss_review.specs.keep.BlockMessage.{BlockMessage}
use Rattle.ss_review.specs.declared.keep.message.NormalMessage.{NormalMessage}
use Rattle.ss_review.specs.declared.report.report.Report.{Report}
use Rattle.ss_review.specs.declared.report.session_report.SessionReport.{SessionReport}
use Rattle.ss_review.specs.declared.report.session_report.SessionState.TheVariants as states
use Rattle.ss_review.specs.deliveries.Delivered.{own_number}
use Rattle.ss_review.specs.deliveries.Delivery.{own_session, is_normal, HasPayload}
use Rattle.ss_review.specs.deliveries.AheadDelivery.{CasesGoOnAhead}
use Rattle.ss_review.specs.deliveries.DeliveryLaws.{says, report_in, AcceptsSent, HasMessage}
use Rattle.ss_review.specs.deliveries.SmallChains.{accepting, small, message, certificate, whole, PremisesAreMet, WholeIsReported}
use Rattle.ss_review.specs.deliveries.SmallChains as chains
use Rattle.ss_review.specs.keep.Contents.{normals, blocks, contents}
use Rattle.ss_review.specs.keep.Notes.{Normal, note, notes}
use Rattle.ss_review.specs.report.Meaning.{IsListed}
use Rattle.ss_review.specs.report.Report.{session_report, report_of}
use Rattle.ss_review.specs.report.Verdict.{is_joined, is_listed, is_none, is_clean}
use Rattle.ss_review.specs.sessions.Payloads.{certificates, is_disputed}
use Rattle.ss_review.specs.sessions.Sessions.{same_session, sessions, of_session}
use Rattle.ss_review.specs.sessions.States.{stated_by}
use Rattle.ss_review.specs.sessions.Verified.{joined, state_in}
use Rattle.ss_octets.proofs.Members.{Has, has_from_contains, contains_from_has, has-map, from_has-filter}
use Rattle.ss_review.proofs.of_lists.Keyed.{has-slice_get}
use Rattle.ss_review.proofs.of_lists.Tests.{all_member}
use Rattle.ss_review.proofs.of_questions.AskableBlocks.{has-sessions}
use Rattle.ss_review.proofs.of_reports.Witnesses.{stored_normal}
use Rattle.ss_review.proofs.of_sessions.Stating.{stated_by-IsStatedBy, disputed_from}
use Rattle.ss_review.specs.pinned.Pinned.{pinned_report}
use Rattle.ss_laws.specs.strangers.AddedMessages.{IsWith, MayBeAdded, AddedAnywhere}
use Rattle.ss_laws.specs.strangers.PinnedListings.{PinnedReportsListWhatIsAnnounced}
use Rattle.ss_laws.specs.strangers.cases.SmallAttack.{own_payload, given, forged_certificate}
use Rattle.ss_laws.specs.strangers.cases.SmallListing.{attacked_whole, SmallListingIsThis}
use Rattle.ss_laws.specs.strangers.StateLaws.{LogsAreWithin, ReportsAgree}
use Rattle.ss_review.specs.pinned.Claimants.{IsClaimant}
use Rattle.ss_laws.specs.strangers.Strangers.{IsAddedTo, StrangersTakeNothing}
use Rattle.ss_laws.specs.ahead.Reported.{AreAhead}
use Rattle.ss_laws.specs.strangers.UnforgedLaws.{ArrivedPayloadsClaim}
use Rattle.ss_review.proofs.of_pinned.Claims.{joined_disputed}
use Rattle.ss_review.proofs.of_pinned.KeptOfSessions.{session_is}
use Rattle.ss_laws.proofs.of_strangers.cases.SmallAttack.{own_says, forged_says, block_says, foreign, not_normal}

-- the laws that it rests on
pub record Laws : Type 0 where
  pub signatures : SignaturesAreRead
  pub certificates_read : CertificatesAreRead
  pub met : PremisesAreMet
  pub reported : WholeIsReported
  pub within : LogsAreWithin
  pub go_on : CasesGoOnAhead
  pub claim : ArrivedPayloadsClaim
  pub agree : ReportsAgree
  pub anywhere : AddedAnywhere
  pub take_nothing : StrangersTakeNothing
  pub lists : PinnedReportsListWhatIsAnnounced

abbrev bs : List BlockMessage
bs = blocks (notes whole.log)

-- ---- nothing is disputed where the report is clean

some_block : (ds : List BlockMessage) → is_disputed (certificates ds) ≡ true → (b : BlockMessage) × Has ds b
unfolding is_disputed
some_block [] e = absurd (true≢false (sym e))
some_block (b ∷ ds) e = (b, inl refl)

abbrev is_clean_session : SessionReport → Bool
is_clean_session t = is_joined t.state && list_all (λ g. list_all is_listed g.entries) t.groups

abbrev sessions_clean : Report → Bool
sessions_clean r = list_all is_clean_session r.sessions

clean_sessions : (r : Report) → is_clean r ≡ true → sessions_clean r ≡ true
unfolding is_clean
clean_sessions r e =
    let a = and_parts (sessions_clean r && is_none r.unlisted && is_none r.refused) (is_none r.spoilt) e in
    let b = and_parts (sessions_clean r && is_none r.unlisted) (is_none r.refused) a.0 in
    (and_parts (sessions_clean r) (is_none r.unlisted) b.0).0

session_clean : is_clean (report_in whole) ≡ true → (s : Session) → Has (sessions bs) s → is_joined (state_in (joined accepting (of_session bs s))) ≡ true
unfolding report_of
session_clean clean s h =
    let t = session_report accepting (contents (notes whole.log)) (rows accepting bs) in
    (and_parts (is_joined (t s).state) (list_all (λ g. list_all is_listed g.entries) (t s).groups)
    (all_member is_clean_session (report_in whole).sessions (clean_sessions (report_in whole) clean) (t s) (has-map t (sessions bs) s h))).0

undisputed : is_clean (report_in whole) ≡ true → (s : Session) → is_disputed (certificates (of_session bs s)) ≡ false
undisputed clean s =
    let own = of_session bs s in
    let cs = certificates own in
    elim (cases_Bool (is_disputed cs)) [
      | inr f ↦ f
      | inl t ↦ absurd (
          let b = some_block own t in
          let f = from_has-filter (λ (d : BlockMessage). same_session d.session s) bs b.0 b.1 in
          let there : Has (sessions bs) s = subst (Has (sessions bs)) (session_is b.0.session s f.1) (has-sessions bs b.0 f.0) in
          let state : joined accepting own ≡ Err states.Disputed = joined_disputed accepting own (disputed_from cs (stated_by cs) (stated_by-IsStatedBy cs) t) in
          true≢false (sym (session_clean clean s there) ∙ ap (λ r. is_joined (state_in r)) state))
    ]

module _ (laws : Laws) where
  -- ---- what was added

  added : IsWith (MayBeAdded (says attacked_whole) whole.log) whole.log attacked_whole.log
  added = inr (inr (foreign laws.signatures laws.certificates_read), inl (message 49 ∷ certificate ∷ [], refl, inl (certificate ∷ [], refl, inl ([], refl, refl))))

  no_note : (t m : List ℕ) → (is_normal (note t) ≡ true → ⊥) → t ≡ m → note m ≡ Normal (pair m) → pair m ≡ pair (message 49)
  no_note t m not e n = absurd (not (ap (λ x. is_normal (note x)) e ∙ ap is_normal n))

  one_text : (t : List ℕ) → Has attacked_whole.log t → note t ≡ Normal (pair t) → pair t ≡ pair (message 49)
  one_text t (inl e) n = no_note forged_certificate t (not_normal laws.signatures laws.certificates_read forged_certificate _ (forged_says laws.signatures laws.certificates_read)) e n
  one_text t (inr (inl e)) n = no_note (chains.block 0 1 (message 49 ∷ [])) t (not_normal laws.signatures laws.certificates_read (chains.block 0 1 (message 49 ∷ [])) _ (block_says laws.signatures laws.certificates_read).text_is) e n
  one_text t (inr (inr (inl e))) n = ap pair (sym e)
  one_text t (inr (inr (inr (inl e)))) n = no_note certificate t (not_normal laws.signatures laws.certificates_read certificate _ (own_says laws.signatures laws.certificates_read)) e n
  one_text t (inr (inr (inr (inr h)))) n = absurd h

  one_pair : (m : NormalMessage) → Contains (normals (notes attacked_whole.log)) m → m.pair ≡ pair (message 49)
  one_pair m c =
      let t = stored_normal attacked_whole.log m (has_from_contains (normals (notes attacked_whole.log)) m c) in
      sym t.3 ∙ one_text t.0 (has-slice_get attacked_whole.log m.place t.0 t.1) t.2

  added_to : IsAddedTo accepting given (contents (notes whole.log)) (contents (notes attacked_whole.log))
  added_to = record {
    within = laws.within whole.log;
    more_within = laws.within attacked_whole.log;
    has_more = laws.anywhere accepting whole.log attacked_whole.log added;
    pairs = λ k h m n a c d e f. one_pair m c ∙ sym (one_pair n d);
  }

  -- ---- who claims

  accepts : AcceptsSent whole
  accepts m octets said c d read signed_is valid = valid

  accepts_attacked : AcceptsSent attacked_whole
  accepts_attacked m octets said c d read signed_is valid = valid

  ahead : AreAhead whole (lives_of small.config whole.chain)
  ahead = record { chain = (laws.go_on whole laws.met.whole_is_case).chain; turns = (laws.go_on whole laws.met.whole_is_case).turns }

  claimant : IsClaimant accepting given (of_session bs (own_session small)) own_payload
  claimant = laws.claim whole given (lives_of small.config whole.chain) ahead laws.met.has_payload accepts refl (contains_from_has given own_payload (inl refl))

  arrived : HasPayload attacked_whole.chain attacked_whole.log
  arrived = record {
    begun = laws.met.has_payload.begun;
    copies = λ m c. contains_from_has attacked_whole.log m (inr (has_from_contains whole.log m (laws.met.has_payload.copies m c)));
  }

  -- ---- what is listed

  listed_without : IsListed (pinned_report accepting given (contents (notes whole.log))) (own_number whole 0 1) laws.reported.has_message.0
  listed_without =
      let same = laws.agree accepting given (contents (notes whole.log)) (laws.within whole.log) (λ s. inl (undisputed laws.reported.clean s)) in
      subst (λ (r : Report). IsListed r (own_number whole 0 1) laws.reported.has_message.0) (sym same) laws.reported.has_message.1

  listed : HasMessage (pinned_report accepting given (contents (notes attacked_whole.log))) (own_number whole 0 1)
  listed =
      let alike = laws.take_nothing accepting given (contents (notes whole.log)) (contents (notes attacked_whole.log)) added_to (own_session small) own_payload claimant in
      let still = alike.listed (own_number whole 0 1) laws.reported.has_message.0 refl listed_without in
      (still.now.place, still.listed_now)

  pub small_listing : SmallListingIsThis
  small_listing = record {
    added = added;
    added_to = added_to;
    claimant_before = claimant;
    claimant = laws.claim attacked_whole given (lives_of small.config whole.chain) (record { chain = ahead.chain; turns = ahead.turns }) arrived accepts_attacked refl (contains_from_has given own_payload (inl refl));
    listed = listed;
    witnessed = (listed.0, (laws.lists accepting given attacked_whole.log).1.witnessed (own_number whole 0 1) listed.0 listed.1);
  }
