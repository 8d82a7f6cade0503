-- The state of a session that is computed is the one that its certificate blocks state together.
use Rattle.std.proofs.Common.{◌≡◌, ℕ, ◌+◌, ◌<◌, ◌≤◌, inl, inr, Bool, true, false, cond, ◌&&◌, not, List, [], ◌∷◌, length, map, filter, refl, sym, ap, ◌∙◌, subst, arith}
use Rattle.std.specs.Prelude.{nat_le, nat_lt, slice_index, Option, Some, None, is_some, Result, Ok, Err}
use Rattle.std.specs.List.{list_all, range_with_len}
use Rattle.std.proofs.lemmas.Bool.{le-leb, lt-ltb, leb-true, ltb-true, true≢false, cases_Bool, and_parts, and_from, false_from_ne_true, true_from_ne_false}
use Rattle.std.proofs.lemmas.List.FromFn.{length-map-range_with_len, get_or-map-range_with_len}
use Rattle.ss_block.specs.Block as block
use Rattle.ss_block.specs.Joining.{Stated, HasTotal, HasOctet, IsDisputed, HasGap, IsPayload}
use Rattle.ss_block.specs.Payload.{PayloadValue}
use Rattle.ss_block.specs.PayloadReading.{payload_in}
use Rattle.ss_review.specs.keep.BlockMessage.{BlockMessage, BlockContent, Hashes, Fragment}
use Rattle.ss_review.specs.declared.report.session_report.SessionState.{SessionState}
use Rattle.ss_review.specs.declared.report.session_report.SessionState.TheVariants as states
use Rattle.ss_review.specs.sessions.Payloads.{certificate_of, certificates, octets, is_disputed, has_index, cover, lacks_some, octet_at, joined_text, payload_or_malformed, stated_payload}
use Rattle.ss_review.specs.sessions.Verified.{Answers, signature_of, is_valid, is_accepted, judged, joined, state_in}
use Rattle.ss_review.specs.sessions.States.{stated_by, StatesText, HasValidOctet, IsCovered, IsPayloadBlock, IsJoinedUnder, IsInState}
use Rattle.ss_octets.proofs.Members.{Has, has_from_contains, contains_from_has, has-filter, from_has-filter, has-filter_map, from_has-filter_map}
use Rattle.ss_review.proofs.of_lists.Tests.{any_member, member_any, all_member, member_all, in_range, from_in_range}
use Rattle.ss_review.proofs.of_sessions.Stating.{IsStatedBy, disputed_from, disputed_to, lacks_from_gap, gap_from_lacks, octet_from_index, found, stated_by-IsStatedBy}
use Rattle.ss_review.proofs.of_sessions.SessionStates.{disputed_payload, incomplete_payload, text_payload}

-- ---- what the valid certificate blocks cover

pub fragment_of : (said : BlockContent) (c : block.Certificate) → certificate_of said ≡ Some c → said ≡ Fragment c
fragment_of (Hashes b) c e = absurd (cc)
fragment_of (Fragment d) c e = let same : d ≡ c = cc in ap Fragment same

covered_from : (says : Answers) (bs : List BlockMessage) (payload : List ℕ) → is_accepted says bs payload ≡ true → IsCovered says bs payload
unfolding cover
covered_from says bs payload e = λ index low high.
    let valid_ones = filter (is_valid says payload) bs in
    let w : (c : block.Certificate) × Has (certificates valid_ones) c × ((nat_le c.index index && nat_lt index (c.index + length c.fragment)) ≡ true)
    = any_member (λ (c : block.Certificate). nat_le c.index index && nat_lt index (c.index + length c.fragment)) (certificates valid_ones)
    (all_member (has_index (certificates valid_ones)) (range_with_len 1 (length payload)) e index (in_range 1 (length payload) index low (omega (arith, high)))) in
    let m : (b : BlockMessage) × Has valid_ones b × (certificate_of b.said ≡ Some w.0) = from_has-filter_map (λ (b : BlockMessage). certificate_of b.said) valid_ones w.0 w.1 in
    let f = from_has-filter (is_valid says payload) bs m.0 m.1 in
    let says_so : m.0.said ≡ Fragment w.0 = fragment_of m.0.said w.0 m.2 in
    let within = and_parts (nat_le w.0.index index) (nat_lt index (w.0.index + length w.0.fragment)) w.2 in
    record {
      message = m.0;
      stored = contains_from_has bs m.0 f.0;
      said = w.0;
      says_so = says_so;
      valid = sym (ap (λ (x : BlockContent). says.valid payload m.0.signed (signature_of x)) says_so) ∙ f.1;
      from = leb-true w.0.index index within.0;
      to = ltb-true index (w.0.index + length w.0.fragment) within.1;
    }

accepted_from : (says : Answers) (bs : List BlockMessage) (payload : List ℕ) → IsCovered says bs payload → is_accepted says bs payload ≡ true
unfolding cover
accepted_from says bs payload covered =
    member_all (has_index (certificates (filter (is_valid says payload) bs))) (range_with_len 1 (length payload)) (λ index h.
    (let r : (1 ≤ index) × (index < 1 + length payload) = from_in_range 1 (length payload) index h in
    let o : HasValidOctet says bs payload index = covered index r.0 (omega (arith, r.1)) in
    let valid : is_valid says payload o.message ≡ true = ap (λ (x : BlockContent). says.valid payload o.message.signed (signature_of x)) o.says_so ∙ o.valid in
    member_any (λ (c : block.Certificate). nat_le c.index index && nat_lt index (c.index + length c.fragment)) (certificates (filter (is_valid says payload) bs)) o.said
    (has-filter_map (λ (b : BlockMessage). certificate_of b.said) (filter (is_valid says payload) bs) o.message o.said
    (has-filter (is_valid says payload) bs o.message (has_from_contains bs o.message o.stored) valid) (ap certificate_of o.says_so))
    (and_from (nat_le o.said.index index) (nat_lt index (o.said.index + length o.said.fragment))
    (le-leb o.said.index index o.from) (lt-ltb index (o.said.index + length o.said.fragment) o.to))))

-- ---- the computed state

pub payload_ok : (text : List ℕ) → IsPayloadBlock text → payload_or_malformed text ≡ Ok text
payload_ok text p = ap (λ (o : Option PayloadValue). cond (is_some o) (Ok text) (Err states.Malformed)) p.1

payload_bad : (text : List ℕ) → payload_in text ≡ None → payload_or_malformed text ≡ Err states.Malformed
payload_bad text e = ap (λ (o : Option PayloadValue). cond (is_some o) (Ok text) (Err states.Malformed)) e

judged_trusted : (says : Answers) (bs : List BlockMessage) (text : List ℕ) (b : Bool) → says.trusted text ≡ b → state_in (judged says bs (Ok text)) ≡ cond b (state_in (cond (is_accepted says bs text) (Ok text) (Err states.Unaccepted))) states.Untrusted
judged_trusted says bs text true e = ap (λ b. state_in (cond (not b) (Err states.Untrusted) (cond (is_accepted says bs text) (Ok text) (Err states.Unaccepted)))) e
judged_trusted says bs text false e = ap (λ b. state_in (cond (not b) (Err states.Untrusted) (cond (is_accepted says bs text) (Ok text) (Err states.Unaccepted)))) e

text_stated : (bs : List BlockMessage) (text : List ℕ) → StatesText (stated_by (certificates bs)) text → stated_payload (certificates bs) ≡ payload_or_malformed text
text_stated bs text t = text_payload (certificates bs) t.undisputed t.gapless text t.text_is

judged_ok : (says : Answers) (bs : List BlockMessage) (text : List ℕ) → says.trusted text ≡ true → is_accepted says bs text ≡ true → judged says bs (Ok text) ≡ Ok text
judged_ok says bs text trust accept =
    ap (λ b. cond (not b) (Err states.Untrusted) (cond (is_accepted says bs text) (Ok text) (Err states.Unaccepted))) trust
    ∙ ap (λ b. cond b (Ok text) (Err states.Unaccepted)) accept

pub joined_under : (says : Answers) (bs : List BlockMessage) (text : List ℕ) → IsJoinedUnder says bs text → joined says bs ≡ Ok text
unfolding joined
joined_under says bs text j =
    ap (judged says bs) (text_stated bs text j.0 ∙ payload_ok text j.1)
    ∙ judged_ok says bs text j.2 (accepted_from says bs text j.3)

pub in_state : (says : Answers) (bs : List BlockMessage) (state : SessionState) → IsInState says bs state → state_in (joined says bs) ≡ state
unfolding joined
in_state says bs states.Disputed d = ap (λ r. state_in (judged says bs r)) (disputed_payload (certificates bs) d)
in_state says bs states.Incomplete i = ap (λ r. state_in (judged says bs r)) (incomplete_payload (certificates bs) i.0 i.1)
in_state says bs states.Malformed m = ap (λ r. state_in (judged says bs r)) (text_stated bs m.0 m.1 ∙ payload_bad m.0 m.2)
in_state says bs states.Untrusted u =
    ap (λ r. state_in (judged says bs r)) (text_stated bs u.0 u.1 ∙ payload_ok u.0 u.2)
    ∙ judged_trusted says bs u.0 false u.3
in_state says bs states.Unaccepted u =
    let refused : is_accepted says bs u.0 ≡ false
    = false_from_ne_true (is_accepted says bs u.0) (λ holds. u.4 (covered_from says bs u.0 holds)) in
    ap (λ r. state_in (judged says bs r)) (text_stated bs u.0 u.1 ∙ payload_ok u.0 u.2)
    ∙ judged_trusted says bs u.0 true u.3
    ∙ ap (λ b. state_in (cond b (Ok u.0) (Err states.Unaccepted))) refused
in_state says bs states.Joined j = ap state_in (joined_under says bs j.0 j.1)

-- ---- there is a state that is stated

joined_text_stated : (cs : List block.Certificate) (s : Stated) → IsStatedBy s cs → ¬ HasGap s → IsPayload s (joined_text cs)
unfolding joined_text cover
joined_text_stated [] s told n = absurd (n (gap_from_lacks [] s told refl))
joined_text_stated (c ∷ cs) s told n =
    let os = octets (c ∷ cs) in
    let text = map (octet_at os) (range_with_len 1 c.total) in
    let long : length text ≡ c.total = length-map-range_with_len (octet_at os) 1 c.total in
    let covered : list_all (has_index (c ∷ cs)) (range_with_len 1 c.total) ≡ true
    = true_from_ne_false (list_all (has_index (c ∷ cs)) (range_with_len 1 c.total)) (λ isnt. n (gap_from_lacks (c ∷ cs) s told (ap not isnt))) in
    record {
      total = subst (λ t. HasTotal s t) (sym long) (told.has_total c.total (inl refl));
      octets = λ i below.
          (let inside : i < c.total = omega (arith, below, long) in
          let turned : 1 + i ≡ i + 1 = omega arith in
          let here : slice_index text i ≡ octet_at os (i + 1) = get_or-map-range_with_len (octet_at os) 1 c.total i (i + 1) 0 inside turned in
          let o : (o : ℕ) × Has os (i + 1, o)
          = octet_from_index (c ∷ cs) (i + 1) (all_member (has_index (c ∷ cs)) (range_with_len 1 c.total) covered (i + 1) (in_range 1 c.total (i + 1) (omega arith) (omega (arith, inside)))) in
          let w : (w : ℕ) × (octet_at os (i + 1) ≡ w) × Has os (i + 1, w) = found os (i + 1) o.0 o.1 in
          subst (λ p. HasOctet s (i + 1) p) (sym (here ∙ w.1)) (told.has_octet (i + 1, w.0) w.2));
    }

by_payload : (says : Answers) (bs : List BlockMessage) (text : List ℕ) → StatesText (stated_by (certificates bs)) text → (o : Option PayloadValue) → payload_in text ≡ o → (state : SessionState) × IsInState says bs state
by_payload says bs text t None e = (states.Malformed, (text, t, e))
by_payload says bs text t (Some value) e =
    elim (cases_Bool (says.trusted text)) [
      | inl trusted ↦ (elim (cases_Bool (is_accepted says bs text)) [
        | inl accepted ↦ (states.Joined, (text, (t, (value, e), trusted, covered_from says bs text accepted)))
        | inr refused ↦ (states.Unaccepted, (text, t, (value, e), trusted, λ covered. true≢false (sym (accepted_from says bs text covered) ∙ refused)))
      ])
      | inr distrusted ↦ (states.Untrusted, (text, t, (value, e), distrusted))
    ]

undisputed : (says : Answers) (bs : List BlockMessage) → ¬ IsDisputed (stated_by (certificates bs)) → (state : SessionState) × IsInState says bs state
undisputed says bs n =
    let cs = certificates bs in
    let told = stated_by-IsStatedBy cs in
    elim (cases_Bool (lacks_some cs)) [
      | inl lacks ↦ (states.Incomplete, (n, gap_from_lacks cs (stated_by cs) told lacks))
      | inr whole ↦ (
          let gapless : ¬ HasGap (stated_by cs) = λ g. true≢false (sym (lacks_from_gap cs (stated_by cs) told n g) ∙ whole) in
          by_payload says bs (joined_text cs) (record { undisputed = n; gapless = gapless; text_is = joined_text_stated cs (stated_by cs) told gapless }) (payload_in (joined_text cs)) refl)
    ]

some_state : (says : Answers) (bs : List BlockMessage) → (state : SessionState) × IsInState says bs state
some_state says bs =
    let cs = certificates bs in
    let told = stated_by-IsStatedBy cs in
    elim (cases_Bool (is_disputed cs)) [
      | inl disputed ↦ (states.Disputed, disputed_from cs (stated_by cs) told disputed)
      | inr isnt ↦ undisputed says bs (λ d. true≢false (sym (disputed_to cs (stated_by cs) told d) ∙ isnt))
    ]

pub state_told : (says : Answers) (bs : List BlockMessage) (state : SessionState) → state_in (joined says bs) ≡ state → IsInState says bs state
state_told says bs state e =
    let w : (state : SessionState) × IsInState says bs state = some_state says bs in
    subst (λ st. IsInState says bs st) (sym (in_state says bs w.0 w.1) ∙ e) w.1

-- ---- the payload

one_payload : (r : Result (List ℕ) SessionState) (text other : List ℕ) → r ≡ Ok text → r ≡ Ok other → text ≡ other
one_payload r text other e f = cc

-- a joined session is joined under one text, which is the payload
pub payload_told : (says : Answers) (bs : List BlockMessage) (text : List ℕ) → joined says bs ≡ Ok text → IsJoinedUnder says bs text
payload_told says bs text e =
    let j : IsInState says bs states.Joined = state_told says bs states.Joined (ap state_in e) in
    subst (IsJoinedUnder says bs) (one_payload (joined says bs) j.0 text (joined_under says bs j.0 j.1) e) j.1
