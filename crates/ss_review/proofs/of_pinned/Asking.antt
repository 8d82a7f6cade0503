-- What a review by given payloads asks is among what is listed: in finding which blocks are kept, and about those.
use Rattle.std.proofs.Common.{◌≡◌, inl, inr, ℕ, ◌+◌, Bool, true, false, cond, not, ◌&&◌, List, ◌∷◌, length, map, filter, refl, sym, ap, subst}
use Rattle.std.specs.Prelude.{nat_le, nat_lt, Some, Result, Ok, Err}
use Rattle.std.specs.List.{flat_map, range_with_len}
use Rattle.std.proofs.lemmas.Bool.{cases_Bool, and_parts, and_from}
use Rattle.std.proofs.lemmas.Slice.Eq.{bytes_eq-Decides}
use Rattle.ss_block.specs.Block as block
use Rattle.ss_block.specs.declared.session.Session.{Session}
use Rattle.ss_block.specs.OrderLaws.{session_cmp_total, session_cmp_exact}
use Rattle.ss_review.specs.keep.BlockMessage.{BlockMessage}
use Rattle.ss_review.specs.declared.questions.question.Question.{Question}
use Rattle.ss_review.specs.declared.report.session_report.SessionState.{SessionState}
use Rattle.ss_review.specs.declared.report.session_report.SessionState.TheVariants as states
use Rattle.ss_review.specs.questions.Questions.{question_about, asked, questions, AreAskable}
use Rattle.ss_review.specs.sessions.Payloads.{certificate_of, certificates, has_index, cover, is_payload, stated_payload}
use Rattle.ss_review.specs.sessions.Sectioned.{sections}
use Rattle.ss_review.specs.sessions.Sessions.{sessions, of_session}
use Rattle.ss_review.specs.sessions.Verified.{Answers, is_valid, is_accepted, judged, joined}
use Rattle.ss_review.specs.pinned.Claimants.{AreWithin}
use Rattle.ss_review.specs.pinned.Finding.{may_claim, AreAskableUnder, IsAskableUnder}
use Rattle.ss_review.specs.pinned.Pinned.{agrees_in, speaks_for, claims, keeps, kept, is_stated, is_candidate, asked_pinned, pinned_questions}
use Rattle.ss_octets.proofs.Members.{Has, has_from_contains, contains_from_has, has-append_left, has-append_right, has-map, from_has-map, has-filter, from_has-filter, has-flat_map, from_has-flat_map, has-filter_map, from_has-filter_map}
use Rattle.ss_review.proofs.of_lists.Rising.{from_has-in_order}
use Rattle.ss_review.proofs.of_lists.Tests.{any_member, member_any, all_member, member_all}
use Rattle.ss_review.proofs.of_pinned.KeptOfSessions.{left, kept_of_session, one_joined, two_joined, unclaimed_left, how_many, session_within}
use Rattle.ss_review.proofs.of_questions.AskableBlocks.{asked_of, has-sessions, stated_in_joined}

-- ---- under a payload that may claim the session

stated_is : (p : List ℕ) (r : Result (List ℕ) SessionState) → is_stated p r ≡ true → r ≡ Ok p
stated_is p (Err state) t = absurd (cc)
stated_is p (Ok text) t = ap Ok ((bytes_eq-Decides text p).0 t)

candidate : (own : List BlockMessage) (p : List ℕ) → may_claim p own ≡ true → is_stated p (stated_payload (certificates own)) ≡ false → is_candidate own p ≡ true
candidate own p may f =
    let covered = cover (certificates (filter (λ b. agrees_in p b.said) own)) (length p) in
    let both = and_parts covered (is_payload p) may in
    and_from (is_payload p && not (is_stated p (stated_payload (certificates own)))) covered
    (and_from (is_payload p) (not (is_stated p (stated_payload (certificates own)))) both.1 (ap not f))
    both.0

-- what is asked about the session under it is listed
pub under_pinned : (ps : List (List ℕ)) (own : List BlockMessage) (p : List ℕ) → Has ps p → may_claim p own ≡ true → (q : Question) → Has (asked own (Ok p)) q → Has (asked_pinned ps own) q
under_pinned ps own p h may q i =
    let stated = stated_payload (certificates own) in
    let others = flat_map (λ t. asked own (Ok t)) (filter (is_candidate own) ps) in
    elim (cases_Bool (is_stated p stated)) [
      | inl t ↦ has-append_left (asked own stated) others q (subst (λ r. Has (asked own r) q) (sym (stated_is p stated t)) i)
      | inr f ↦ has-append_right (asked own stated) others q (has-flat_map (λ t. asked own (Ok t)) (filter (is_candidate own) ps) p q (has-filter (is_candidate own) ps p h (candidate own p may f)) i)
    ]

-- ---- a payload that claims a session may claim it

abbrev within : ℕ → block.Certificate → Bool
within i c = nat_le c.index i && nat_lt i (c.index + length c.fragment)

cover_more : (cs ds : List block.Certificate) (n : ℕ) → ((c : block.Certificate) → Has cs c → Has ds c) → cover cs n ≡ true → cover ds n ≡ true
unfolding cover
cover_more cs ds n more e =
    member_all (has_index ds) (range_with_len 1 n) (λ i h.
    (let w : (c : block.Certificate) × Has cs c × (within i c ≡ true) = any_member (within i) cs (all_member (has_index cs) (range_with_len 1 n) e i h) in
    member_any (within i) ds w.0 (more w.0 w.1) w.2))

speakers_agree : (says : Answers) (p : List ℕ) (own : List BlockMessage) (c : block.Certificate) → Has (certificates (filter (speaks_for says p) own)) c → Has (certificates (filter (λ b. agrees_in p b.said) own)) c
speakers_agree says p own c h =
    let m : (b : BlockMessage) × Has (filter (speaks_for says p) own) b × (certificate_of b.said ≡ Some c)
    = from_has-filter_map (λ (b : BlockMessage). certificate_of b.said) (filter (speaks_for says p) own) c h in
    let f = from_has-filter (speaks_for says p) own m.0 m.1 in
    has-filter_map (λ (b : BlockMessage). certificate_of b.said) (filter (λ b. agrees_in p b.said) own) m.0 c
    (has-filter (λ (b : BlockMessage). agrees_in p b.said) own m.0 f.0 (and_parts (agrees_in p m.0.said) (is_valid says p m.0) f.1).0)
    m.2

pub claims_may : (says : Answers) (p : List ℕ) (own : List BlockMessage) → claims says p own ≡ true → may_claim p own ≡ true
unfolding claims
claims_may says p own e =
    let spoken = cover (certificates (filter (speaks_for says p) own)) (length p) in
    let agreed = cover (certificates (filter (λ b. agrees_in p b.said) own)) (length p) in
    let outer = and_parts (is_payload p && says.trusted p) spoken e in
    let inner = and_parts (is_payload p) (says.trusted p) outer.0 in
    and_from agreed (is_payload p)
    (cover_more (certificates (filter (speaks_for says p) own)) (certificates (filter (λ b. agrees_in p b.said) own)) (length p) (speakers_agree says p own) outer.1)
    inner.0

-- ---- in finding what is kept

pub askable_under : {J : Type 0} (askable : J → Question → Type 0) (judge : J) (ps : List (List ℕ)) (bs : List BlockMessage) → AreAskable askable judge (pinned_questions ps bs) → AreAskableUnder askable judge ps (sections bs)
unfolding pinned_questions
askable_under askable judge ps bs may = λ s c p given m q i.
    let w : (t : Session) × Has (sessions bs) t × ((t, of_session bs t) ≡ s) = from_has-map (λ t. (t, of_session bs t)) (sessions bs) s (has_from_contains (sections bs) s c) in
    let own : s.1 ≡ of_session bs w.0 = sym (λ j. (w.2 j).1) in
    may q (contains_from_has _ q
    (has-flat_map (λ t. asked_pinned ps (of_session bs t)) (sessions bs) w.0 q w.1
    (subst (λ ds. Has (asked_pinned ps ds) q) own (under_pinned ps s.1 p (has_from_contains ps p given) m q (has_from_contains (asked s.1 (Ok p)) q i)))))

pub askable_first : {J : Type 0} (askable : J → Question → Type 0) (judge : J) (ps : List (List ℕ)) (s : Session × List BlockMessage) (ss : List (Session × List BlockMessage)) → AreAskableUnder askable judge ps (s ∷ ss) → IsAskableUnder askable judge ps s.1
askable_first askable judge ps s ss may = may s (contains_from_has (s ∷ ss) s (inl refl))

pub askable_later : {J : Type 0} (askable : J → Question → Type 0) (judge : J) (ps : List (List ℕ)) (s : Session × List BlockMessage) (ss : List (Session × List BlockMessage)) → AreAskableUnder askable judge ps (s ∷ ss) → AreAskableUnder askable judge ps ss
askable_later askable judge ps s ss may = λ t c. may t (contains_from_has (s ∷ ss) t (inr (has_from_contains ss t c)))

-- ---- about what is kept

-- a session that is disputed states no payload
not_disputed : (text : List ℕ) (distrusted accepted : Bool) → ◌≡◌ {A = Result (List ℕ) SessionState} (cond distrusted (Err states.Untrusted) (cond accepted (Ok text) (Err states.Unaccepted))) (Err states.Disputed) → ⊥
not_disputed text true accepted e = absurd (cc)
not_disputed text false true e = absurd (cc)
not_disputed text false false e = absurd (cc)

nothing_asked : (says : Answers) (bs : List BlockMessage) (r : Result (List ℕ) SessionState) (q : Question) → judged says bs r ≡ Err states.Disputed → Has (asked bs r) q → ⊥
nothing_asked says bs (Err state) q e h = h
nothing_asked says bs (Ok text) q e h = not_disputed text (not (says.trusted text)) (is_accepted says bs text) e

disputed_asks : (says : Answers) (bs : List BlockMessage) (q : Question) → joined says bs ≡ Err states.Disputed → Has (asked bs (stated_payload (certificates bs))) q → ⊥
unfolding joined
disputed_asks says bs q e h = nothing_asked says bs (stated_payload (certificates bs)) q e h

asked_more : (ds own : List BlockMessage) (p : List ℕ) → ((b : BlockMessage) → Has ds b → Has own b) → (q : Question) → Has (asked ds (Ok p)) q → Has (asked own (Ok p)) q
asked_more ds own p more q (inl e) = inl e
asked_more ds own p more q (inr h) =
    let w : (b : BlockMessage) × Has ds b × (question_about p b ≡ q) = from_has-map (question_about p) ds q h in
    inr (subst (Has (map (question_about p) own)) w.2 (has-map (question_about p) own w.0 (more w.0 w.1)))

left_asked : (says : Answers) (ps : List (List ℕ)) (own : List BlockMessage) → AreWithin own → (q : Question) → Has (asked (left says ps own) (stated_payload (certificates (left says ps own)))) q → Has (asked_pinned ps own) q
left_asked says ps own are q h =
    let ds = left says ps own in
    elim (how_many says ps own) [
      | inl one ↦ (
          let stated : stated_payload (certificates ds) ≡ Ok one.0 = stated_in_joined says ds one.0 (one_joined says ps own are one.0 one.1) in
          under_pinned ps own one.0 (has_from_contains ps one.0 one.1.is.given) (claims_may says one.0 own one.1.is.claims_it) q
          (asked_more ds own one.0 (λ b g. (from_has-filter (keeps says ps own) own b g).0) q (subst (λ r. Has (asked ds r) q) stated h)))
      | inr more ↦ (elim more [
        | inl two ↦ absurd (disputed_asks says ds q (two_joined says ps own are two.0 two.1 two.2) h)
        | inr none ↦ has-append_left (asked own (stated_payload (certificates own))) _ q (subst (λ bs. Has (asked bs (stated_payload (certificates bs))) q) (unclaimed_left says ps own none) h)
      ])
    ]

kept_sessions : (says : Answers) (ps : List (List ℕ)) (bs : List BlockMessage) (s : Session) → Has (sessions (kept says ps bs)) s → Has (sessions bs) s
kept_sessions says ps bs s h =
    let ds = kept says ps bs in
    let w : (b : BlockMessage) × Has ds b × (b.session ≡ s) = from_has-map (λ (b : BlockMessage). b.session) ds s (from_has-in_order session_cmp_total session_cmp_exact s (map (λ (b : BlockMessage). b.session) ds) h) in
    subst (Has (sessions bs)) w.2 (has-sessions bs w.0 (from_has-filter (λ (b : BlockMessage). keeps says ps (of_session bs b.session) b) bs w.0 w.1).0)

kept_asked : (says : Answers) (ps : List (List ℕ)) (bs : List BlockMessage) → AreWithin bs → (q : Question) → Has (questions (kept says ps bs)) q → Has (pinned_questions ps bs) q
unfolding questions pinned_questions
kept_asked says ps bs are q h =
    let w : (s : Session) × Has (sessions (kept says ps bs)) s × Has (asked_of (kept says ps bs) s) q = from_has-flat_map (asked_of (kept says ps bs)) (sessions (kept says ps bs)) q h in
    has-flat_map (λ t. asked_pinned ps (of_session bs t)) (sessions bs) w.0 q (kept_sessions says ps bs w.0 w.1)
    (left_asked says ps (of_session bs w.0) (session_within bs w.0 are) q
    (subst (λ ds. Has (asked ds (stated_payload (certificates ds))) q) (kept_of_session says ps bs w.0) w.2))

pub kept_askable : {J : Type 0} (askable : J → Question → Type 0) (judge : J) (says : Answers) (ps : List (List ℕ)) (bs : List BlockMessage) → AreWithin bs → AreAskable askable judge (pinned_questions ps bs) → AreAskable askable judge (questions (kept says ps bs))
kept_askable askable judge says ps bs are may = λ q c.
    may q (contains_from_has (pinned_questions ps bs) q (kept_asked says ps bs are q (has_from_contains (questions (kept says ps bs)) q c)))
