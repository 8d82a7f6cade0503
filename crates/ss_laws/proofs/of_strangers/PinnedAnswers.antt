-- Two schemes that answer alike all that is asked about a log under given payloads give it one report.
use Rattle.std.proofs.Common.{◌≡◌, inl, inr, ℕ, Bool, true, false, cond, not, ◌&&◌, ◌||◌, List, length, map, filter, refl, sym, ap, ◌∙◌, subst}
use Rattle.std.specs.Prelude.{Contains, Some, Result, Ok, Err, nat_le, nat_lt, ◌+◌}
use Rattle.std.specs.List.{flat_map, list_any, range_with_len}
use Rattle.std.specs.Ordering.{nat_cmp}
use Rattle.std.proofs.lemmas.Bool.{cases_Bool, and_parts, and_from, true≢false}
use Rattle.std.proofs.lemmas.Slice.Eq.{bytes_eq-Decides}
use Rattle.ss_block.specs.Block as block
use Rattle.ss_block.specs.declared.session.Session.{Session}
use Rattle.ss_review.specs.Ordered.{in_order}
use Rattle.ss_review.specs.keep.BlockMessage.{BlockMessage}
use Rattle.ss_review.specs.declared.questions.question.Question.{Question}
use Rattle.ss_review.specs.declared.questions.question.Question.TheVariants as question
use Rattle.ss_review.specs.declared.report.session_report.SessionState.{SessionState}
use Rattle.ss_review.specs.declared.report.session_report.SessionState.TheVariants as states
use Rattle.ss_review.specs.counted.Counted.{gbcs_said, gbcs, counted_session, counted_sessions}
use Rattle.ss_review.specs.keep.Contents.{blocks, contents}
use Rattle.ss_review.specs.keep.Notes.{notes}
use Rattle.ss_review.specs.questions.Questions.{question_about, asked, questions, answer}
use Rattle.ss_review.specs.report.Report.{report_of}
use Rattle.ss_review.specs.report.Verdict.{is_none}
use Rattle.ss_review.specs.sessions.Payloads.{certificate_of, certificates, has_index, cover, is_payload, stated_payload}
use Rattle.ss_review.specs.sessions.Sessions.{same_session, sessions, of_session}
use Rattle.ss_review.specs.sessions.Verified.{Answers, is_valid, is_accepted, judged, joined, is_verified}
use Rattle.ss_octets.proofs.Members.{Has, has_from_contains, contains_from_has, has-append_left, has-append_right, has-map, from_has-map, has-filter, from_has-filter, has-filter_map, from_has-filter_map, has-flat_map, from_has-flat_map}
use Rattle.ss_review.proofs.of_lists.Mapped.{filter_agree}
use Rattle.ss_review.proofs.of_lists.Sections.{map_agree}
use Rattle.ss_review.proofs.of_lists.Tests.{any_member, member_any, all_member, member_all}
use Rattle.ss_review.proofs.of_questions.AgreeingSchemes.{verified_alike, one_report_of}
use Rattle.ss_review.proofs.of_questions.AskableBlocks.{has-sessions, has-own, stated_in_joined}
use Rattle.ss_review.specs.pinned.Pinned.{agrees_in, speaks_for, claims, claimants, is_signature, keeps, kept, pinned_contents, is_verified_pinned, refused_pinned, pinned_counted, is_stated, is_candidate, asked_pinned, pinned_questions}
use Rattle.ss_review.specs.pinned.Claimants.{AreWithin}
use Rattle.ss_laws.specs.strangers.StateLaws.{LogsAreWithin}
use Rattle.ss_laws.specs.strangers.PinnedAnswers.{AgreeingSchemesGiveOnePinnedReport}
use Rattle.ss_review.proofs.of_pinned.KeptOfSessions.{left, kept_of_session, unclaimed_left, one_joined, two_joined, how_many}
use Rattle.ss_laws.proofs.of_strangers.JoinedByGiven.{own_within}
use Rattle.ss_laws.proofs.of_strangers.ReportsAgree.{keeps_it, has-kept, same_sessions}
use Rattle.ss_laws.proofs.of_parts.Lists.{any_agree}

-- ---- lists

-- what some blocks cover more blocks cover
module _ (p q : BlockMessage → Bool) (own : List BlockMessage) (more : (b : BlockMessage) → p b ≡ true → q b ≡ true) where
  abbrev within : ℕ → block.Certificate → Bool
  within i c = nat_le c.index i && nat_lt i (c.index + length c.fragment)

  more_certificates : (c : block.Certificate) → Has (certificates (filter p own)) c → Has (certificates (filter q own)) c
  more_certificates c h =
      let w : (b : BlockMessage) × Has (filter p own) b × (certificate_of b.said ≡ Some c) = from_has-filter_map (λ (b : BlockMessage). certificate_of b.said) (filter p own) c h in
      let f = from_has-filter p own w.0 w.1 in
      has-filter_map (λ (b : BlockMessage). certificate_of b.said) (filter q own) w.0 c (has-filter q own w.0 f.0 (more w.0 f.1)) w.2

  covers_more : (total : ℕ) → cover (certificates (filter p own)) total ≡ true → cover (certificates (filter q own)) total ≡ true
  unfolding cover
  covers_more total e =
      member_all (has_index (certificates (filter q own))) (range_with_len 1 total) (λ i h.
      (let w : (c : block.Certificate) × Has (certificates (filter p own)) c × (within i c ≡ true)
      = any_member (within i) (certificates (filter p own)) (all_member (has_index (certificates (filter p own))) (range_with_len 1 total) e i h) in
      member_any (within i) (certificates (filter q own)) w.0 (more_certificates w.0 w.1) w.2))

-- ---- what is asked about a session that isn't joined

abbrev judgement : List ℕ → Bool → Bool → Result (List ℕ) SessionState
judgement text distrusted accepted = cond distrusted (Err states.Untrusted) (cond accepted (Ok text) (Err states.Unaccepted))

not_disputed : (text : List ℕ) (distrusted accepted : Bool) → judgement text distrusted accepted ≡ Err states.Disputed → ⊥
not_disputed text true accepted e = absurd (cc)
not_disputed text false true e = absurd (cc)
not_disputed text false false e = absurd (cc)

nothing_asked : (says : Answers) (bs : List BlockMessage) (r : Result (List ℕ) SessionState) (q : Question) → judged says bs r ≡ Err states.Disputed → Has (asked bs r) q → ⊥
nothing_asked says bs (Err state) q e h = h
nothing_asked says bs (Ok text) q e h = not_disputed text (not (says.trusted text)) (is_accepted says bs text) e

disputed_asks_nothing : (says : Answers) (bs : List BlockMessage) (q : Question) → joined says bs ≡ Err states.Disputed → Has (asked bs (stated_payload (certificates bs))) q → ⊥
unfolding joined
disputed_asks_nothing says bs q e h = nothing_asked says bs (stated_payload (certificates bs)) q e h

stated_is : (p : List ℕ) (r : Result (List ℕ) SessionState) → is_stated p r ≡ true → r ≡ Ok p
stated_is p (Err state) e = absurd (true≢false (sym e))
stated_is p (Ok text) e = ap (λ (t : List ℕ). Ok t) ((bytes_eq-Decides text p).0 e)

-- ---- one session

-- the blocks of a session, and two schemes that answer alike what is asked about them
module _ (says other : Answers) (ps : List (List ℕ)) (own : List BlockMessage) (alike : (q : Question) → Has (asked_pinned ps own) q → answer says q ≡ answer other q) where
  -- they answer alike what is asked under the payload
  record AreAlike (p : List ℕ) : Type 0 where
    trusts : says.trusted p ≡ other.trusted p
    valid : (b : BlockMessage) → Has own b → is_valid says p b ≡ is_valid other p b

  abbrev stated : Result (List ℕ) SessionState
  stated = stated_payload (certificates own)

  abbrev under_given : List Question
  under_given = flat_map (λ (p : List ℕ). asked own (Ok p)) (filter (is_candidate own) ps)

  alike_under : (p : List ℕ) → ((q : Question) → Has (asked own (Ok p)) q → Has (asked_pinned ps own) q) → AreAlike p
  alike_under p among = record {
    trusts = alike (question.Trust p) (among (question.Trust p) (inl refl));
    valid = λ b h. alike (question_about p b) (among (question_about p b) (inr (has-map (question_about p) own b h)));
  }

  stated_alike : (p : List ℕ) → stated ≡ Ok p → AreAlike p
  stated_alike p e = alike_under p (λ q h. has-append_left (asked own stated) under_given q (subst (λ r. Has (asked own r) q) (sym e) h))

  candidate_alike : (p : List ℕ) → Has ps p → is_candidate own p ≡ true → AreAlike p
  candidate_alike p given e =
      alike_under p (λ q h. has-append_right (asked own stated) under_given q (has-flat_map (λ (t : List ℕ). asked own (Ok t)) (filter (is_candidate own) ps) p q (has-filter (is_candidate own) ps p given e) h))

  -- only of a payload under which is asked can a scheme make a claimant
  claimed_alike : (x : Answers) (p : List ℕ) → Has ps p → claims x p own ≡ true → AreAlike p
  unfolding claims
  claimed_alike x p given e =
      let outer = and_parts (is_payload p && x.trusted p) (cover (certificates (filter (speaks_for x p) own)) (length p)) e in
      let inner = and_parts (is_payload p) (x.trusted p) outer.0 in
      elim (cases_Bool (is_stated p stated)) [
        | inl t ↦ stated_alike p (stated_is p stated t)
        | inr f ↦ candidate_alike p given
            (and_from (is_payload p && not (is_stated p stated)) (cover (certificates (filter (λ (b : BlockMessage). agrees_in p b.said) own)) (length p))
            (and_from (is_payload p) (not (is_stated p stated)) inner.0 (ap not f))
            (covers_more (speaks_for x p) (λ (b : BlockMessage). agrees_in p b.said) own (λ b g. (and_parts (agrees_in p b.said) (is_valid x p b) g).0) (length p) outer.1))
      ]

  speaks_alike : (p : List ℕ) → AreAlike p → (b : BlockMessage) → Has own b → speaks_for says p b ≡ speaks_for other p b
  speaks_alike p a b h = ap (λ v. agrees_in p b.said && v) (a.valid b h)

  claims_same : (p : List ℕ) → AreAlike p → claims says p own ≡ claims other p own
  unfolding claims
  claims_same p a =
      let trust = a.trusts in
      let spoken : filter (speaks_for says p) own ≡ filter (speaks_for other p) own = filter_agree (speaks_for says p) (speaks_for other p) own (speaks_alike p a) in
      λ i. is_payload p && trust i && cover (certificates (spoken i)) (length p)

  claims_alike : (p : List ℕ) → Has ps p → claims says p own ≡ claims other p own
  claims_alike p given =
      elim (cases_Bool (claims says p own)) [
        | inl t ↦ claims_same p (claimed_alike says p given t)
        | inr f ↦ (elim (cases_Bool (claims other p own)) [
          | inl t ↦ claims_same p (claimed_alike other p given t)
          | inr g ↦ f ∙ sym g
        ])
      ]

  claimants_alike : claimants says ps own ≡ claimants other ps own
  claimants_alike = filter_agree (λ (p : List ℕ). claims says p own) (λ (p : List ℕ). claims other p own) ps claims_alike

  pub keeps_alike : (b : BlockMessage) → Has own b → keeps says ps own b ≡ keeps other ps own b
  unfolding keeps
  keeps_alike b h =
      let cs = claimants says ps own in
      let spoken : list_any (λ (p : List ℕ). speaks_for says p b) cs ≡ list_any (λ (p : List ℕ). speaks_for other p b) cs
      = any_agree (λ (p : List ℕ). speaks_for says p b) (λ (p : List ℕ). speaks_for other p b) cs (λ p g.
      (let f = from_has-filter (λ (t : List ℕ). claims says t own) ps p g in
      speaks_alike p (claimed_alike says p f.0 f.1) b h)) in
      ap (λ t. is_signature b.said || is_none cs || t) spoken
      ∙ ap (λ ds. is_signature b.said || is_none ds || list_any (λ (p : List ℕ). speaks_for other p b) ds) claimants_alike

  -- ---- what is asked about the blocks that are kept

  abbrev mine : List BlockMessage
  mine = left says ps own

  claimant_alike : (p : List ℕ) → AreAlike p → (q : Question) → Has (asked mine (Ok p)) q → answer says q ≡ answer other q
  claimant_alike p a q (inl e) = subst (λ t. answer says t ≡ answer other t) e a.trusts
  claimant_alike p a q (inr h) =
      let w : (b : BlockMessage) × Has mine b × (question_about p b ≡ q) = from_has-map (question_about p) mine q h in
      subst (λ t. answer says t ≡ answer other t) w.2 (a.valid w.0 (from_has-filter (keeps says ps own) own w.0 w.1).0)

  -- they state the one claimant, or they are disputed, or they are all
  pub kept_alike : AreWithin own → (q : Question) → Has (asked mine (stated_payload (certificates mine))) q → answer says q ≡ answer other q
  kept_alike are q h =
      elim (how_many says ps own) [
        | inl one ↦ (
            let p = one.0 in
            let a = claimed_alike says p (has_from_contains ps p one.1.is.given) one.1.is.claims_it in
            let at : stated_payload (certificates mine) ≡ Ok p = stated_in_joined says mine p (one_joined says ps own are p one.1) in
            claimant_alike p a q (subst (λ r. Has (asked mine r) q) at h))
        | inr more ↦ (elim more [
          | inl two ↦ absurd (disputed_asks_nothing says mine q (two_joined says ps own are two.0 two.1 two.2) h)
          | inr none ↦ alike q (has-append_left (asked own stated) under_given q (subst (λ (ds : List BlockMessage). Has (asked ds (stated_payload (certificates ds))) q) (unclaimed_left says ps own none) h))
        ])
      ]

-- ---- all of them

module _ (says other : Answers) (ps : List (List ℕ)) (bs : List BlockMessage) (are : AreWithin bs) (alike : (q : Question) → Contains (pinned_questions ps bs) q → answer says q ≡ answer other q) where
  alike_of : (s : Session) → Has (sessions bs) s → (q : Question) → Has (asked_pinned ps (of_session bs s)) q → answer says q ≡ answer other q
  unfolding pinned_questions
  alike_of s h q i = alike q (contains_from_has (pinned_questions ps bs) q (has-flat_map (λ (t : Session). asked_pinned ps (of_session bs t)) (sessions bs) s q h i))

  abbrev now : List BlockMessage
  now = kept says ps bs

  same_keeps : (b : BlockMessage) → Has bs b → keeps_it says ps bs b ≡ keeps_it other ps bs b
  same_keeps b h = keeps_alike says other ps (of_session bs b.session) (alike_of b.session (has-sessions bs b h)) b (has-own bs b h)

  pub same_kept : now ≡ kept other ps bs
  same_kept = filter_agree (keeps_it says ps bs) (keeps_it other ps bs) bs same_keeps

  pub same_answers : (q : Question) → Contains (questions now) q → answer says q ≡ answer other q
  unfolding questions
  same_answers q c =
      let w : (s : Session) × Has (sessions now) s × Has (asked (of_session now s) (stated_payload (certificates (of_session now s)))) q
      = from_has-flat_map (λ (s : Session). asked (of_session now s) (stated_payload (certificates (of_session now s)))) (sessions now) q (has_from_contains (questions now) q c) in
      let s = w.0 in
      kept_alike says other ps (of_session bs s) (alike_of s (subst (λ ss. Has ss s) (same_sessions says ps bs) w.1)) (own_within says ps bs s are) q
      (subst (λ (ds : List BlockMessage). Has (asked ds (stated_payload (certificates ds))) q) (kept_of_session says ps bs s) w.2)

  verified_same : (b : BlockMessage) → Has now b → is_verified says now b ≡ is_verified other now b
  verified_same b h = verified_alike says other now same_answers b h

  same_verified : (b : BlockMessage) → Has bs b → is_verified_pinned says ps bs b ≡ is_verified_pinned other ps bs b
  same_verified b h = by (keeps_it says ps bs b) refl
    where
      by : (t : Bool) → keeps_it says ps bs b ≡ t → is_verified_pinned says ps bs b ≡ is_verified_pinned other ps bs b
      by true e =
          ap (λ v. keeps_it says ps bs b && v) (verified_same b (has-kept says ps bs b h e))
          ∙ ap (λ (ds : List BlockMessage). keeps_it says ps bs b && is_verified other ds b) same_kept
          ∙ ap (λ k. k && is_verified other (kept other ps bs) b) (same_keeps b h)
      by false e =
          ap (λ k. k && is_verified says now b) e
          ∙ sym (ap (λ k. k && is_verified other (kept other ps bs) b) (sym (same_keeps b h) ∙ e))

  pub same_refused : refused_pinned says ps bs ≡ refused_pinned other ps bs
  same_refused =
      ap (map (λ (b : BlockMessage). b.place))
      (filter_agree (λ b. not (is_verified_pinned says ps bs b)) (λ b. not (is_verified_pinned other ps bs b)) bs (λ b h. ap not (same_verified b h)))

  pub same_counted : pinned_counted says ps bs ≡ pinned_counted other ps bs
  unfolding gbcs
  same_counted =
      map_agree (counted_session says now) (counted_session other now) (sessions now) (λ s h.
      (let own = of_session now s in
      let verified : filter (is_verified says now) own ≡ filter (is_verified other now) own
      = filter_agree (is_verified says now) (is_verified other now) own (λ b g. verified_same b (from_has-filter (λ (d : BlockMessage). same_session d.session s) now b g).0) in
      λ i. record { session = s; gbcs = in_order nat_cmp (gbcs_said (verified i)) }))
      ∙ ap (counted_sessions other) same_kept

pub one_pinned_report : LogsAreWithin → AgreeingSchemesGiveOnePinnedReport
one_pinned_report within says other ps log alike =
    let bs = blocks (notes log) in
    let are = within log in
    let c = contents (notes log) in
    let rest : report_of says (pinned_contents says ps c) ≡ report_of other (pinned_contents other ps c)
    = one_report_of says other (pinned_contents says ps c) (same_answers says other ps bs are alike)
    ∙ ap (λ (ds : List BlockMessage). report_of other (record c { blocks = ds })) (same_kept says other ps bs are alike) in
    let refused : refused_pinned says ps bs ≡ refused_pinned other ps bs = same_refused says other ps bs are alike in (
      λ i. record (rest i) { refused = refused i },
      same_counted says other ps bs are alike,
    )
