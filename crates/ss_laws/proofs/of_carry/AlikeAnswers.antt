-- Two schemes that answer alike all that is asked about blocks verify and announce the same there.
use Rattle.std.proofs.Common.{◌≡◌, inl, inr, ℕ, Bool, cond, not, List, [], ◌∷◌, length, map, filter, refl, sym, ap, ◌∙◌, subst}
use Rattle.std.specs.Prelude.{Result, Ok, Err}
use Rattle.std.specs.List.{flat_map}
use Rattle.std.specs.Ordering.{nat_cmp}
use Rattle.ss_block.specs.declared.hash.Hash.{Hash}
use Rattle.ss_block.specs.declared.session.Session.{Session}
use Rattle.ss_review.specs.declared.report.session_report.SessionState.{SessionState}
use Rattle.ss_review.specs.declared.report.session_report.SessionState.TheVariants as states
use Rattle.ss_review.specs.declared.questions.question.Question.{Question}
use Rattle.ss_review.specs.declared.questions.question.Question.TheVariants as question
use Rattle.ss_review.specs.keep.BlockMessage.{BlockMessage}
use Rattle.ss_review.specs.keep.Contents.{Contents}
use Rattle.ss_review.specs.Ordered.{in_order}
use Rattle.ss_review.specs.sessions.Sessions.{sessions, of_session}
use Rattle.ss_review.specs.sessions.Payloads.{is_disputed, certificates, cover, joined_text, stated_payload}
use Rattle.ss_review.specs.sessions.Verified.{Answers, is_valid, judged, joined, is_verified}
use Rattle.ss_review.specs.announced.Announced.{Key, row_cmp, rows_said, rows}
use Rattle.ss_review.specs.announced.Announcing.{Announces}
use Rattle.ss_review.specs.assign.Assigned.{assigned, is_taken}
use Rattle.ss_review.specs.counted.Counted.{counted_sessions, gbcs, gbcs_said}
use Rattle.ss_review.specs.counted.KeptLaws.{counters_given}
use Rattle.ss_review.specs.questions.Questions.{question_about, asked, questions, answer}
use Rattle.ss_octets.proofs.Members.{Has, has_from_contains, contains_from_has, has-map}
use Rattle.ss_review.proofs.of_lists.Mapped.{filter_agree}
use Rattle.ss_review.proofs.of_questions.AgreeingSchemes.{one_report_of, verified_alike}
use Rattle.ss_review.proofs.of_questions.AskableBlocks.{has-questions, has-sessions}
use Rattle.ss_laws.specs.carry.Nights.{Nights, night_log, IsJoined, HasVerifiedOctet, listed, IsKept, LeavesEnough, IsSettled}
use Rattle.ss_laws.proofs.of_carry.NightBlocks.{from_of_session}
use Rattle.ss_laws.specs.carry.NightCounters.{counters_in}
use Rattle.ss_laws.specs.carry.OwnAnswers.{AgreeOn, AreAlike}

-- ---- one session

-- the blocks of a session, and two schemes that answer alike what is asked about them
module _ (says other : Answers) (bs : List BlockMessage) where
  abbrev AgreeAt : Result (List ℕ) SessionState → Type 0
  AgreeAt r = (q : Question) → Has (asked bs r) q → answer says q ≡ answer other q

  valid_alike : (payload : List ℕ) → AgreeAt (Ok payload) → (b : BlockMessage) → Has bs b → is_valid says payload b ≡ is_valid other payload b
  valid_alike payload alike b h = alike (question_about payload b) (inr (has-map (question_about payload) bs b h))

  judged_alike : (r : Result (List ℕ) SessionState) → AgreeAt r → judged says bs r ≡ judged other bs r
  judged_alike (Err state) alike = refl
  judged_alike (Ok payload) alike =
      let trust : says.trusted payload ≡ other.trusted payload = alike (question.Trust payload) (inl refl) in
      let valid : filter (is_valid says payload) bs ≡ filter (is_valid other payload) bs
      = filter_agree (is_valid says payload) (is_valid other payload) bs (valid_alike payload alike) in
      λ i. cond (not (trust i)) (Err states.Untrusted) (cond (cover (certificates (valid i)) (length payload)) (Ok payload) (Err states.Unaccepted))

-- no blocks state no payload
none_joined : (says other : Answers) → joined says [] ≡ joined other []
unfolding joined is_disputed cover joined_text stated_payload
none_joined says other = refl

-- ---- all of them

module _ (says other : Answers) (bs : List BlockMessage) (alike : AgreeOn says other bs) where
  alike_of : (s : Session) → Has (sessions bs) s → AgreeAt says other (of_session bs s) (stated_payload (certificates (of_session bs s)))
  alike_of s h q i = alike q (contains_from_has (questions bs) q (has-questions bs s q h i))

  joined_there : (s : Session) → Has (sessions bs) s → joined says (of_session bs s) ≡ joined other (of_session bs s)
  unfolding joined
  joined_there s h = judged_alike says other (of_session bs s) (stated_payload (certificates (of_session bs s))) (alike_of s h)

  -- of a session that has a block, or none
  joined_any : (s : Session) (ds : List BlockMessage) → of_session bs s ≡ ds → joined says (of_session bs s) ≡ joined other (of_session bs s)
  joined_any s [] e = ap (joined says) e ∙ none_joined says other ∙ ap (joined other) (sym e)
  joined_any s (d ∷ ds) e =
      let o = from_of_session bs s d (subst (λ (xs : List BlockMessage). Has xs d) (sym e) (inl refl)) in
      joined_there s (subst (Has (sessions bs)) o.1 (has-sessions bs d o.0))

  pub joined_alike : (s : Session) → joined says (of_session bs s) ≡ joined other (of_session bs s)
  joined_alike s = joined_any s (of_session bs s) refl

  pub rows_alike : rows says bs ≡ rows other bs
  unfolding rows
  rows_alike =
      ap (λ ds. in_order row_cmp (flat_map (λ (b : BlockMessage). rows_said b.session b.said) ds))
      (filter_agree (is_verified says bs) (is_verified other bs) bs (verified_alike says other bs alike))

  pub announced_alike : (k : Key) (h : Hash) → Announces says bs k h → Announces other bs k h
  announced_alike k h a = record {
    message = a.message;
    stored = a.stored;
    verified = sym (verified_alike says other bs alike a.message (has_from_contains bs a.message a.stored)) ∙ a.verified;
    session_is = a.session_is;
    said = a.said;
    says_so = a.says_so;
    group_is = a.group_is;
    index = a.index;
    number = a.number;
    hash = a.hash;
  }

  pub is_joined_alike : (s : Session) → IsJoined says bs s → IsJoined other bs s
  is_joined_alike s j = (j.0, sym (joined_alike s) ∙ j.1)

  octet_alike : (s : Session) (index : ℕ) → HasVerifiedOctet says bs s index → HasVerifiedOctet other bs s index
  octet_alike s index o = record {
    message = o.message;
    stored = o.stored;
    verified = sym (verified_alike says other bs alike o.message (has_from_contains bs o.message o.stored)) ∙ o.verified;
    session_is = o.session_is;
    said = o.said;
    says_so = o.says_so;
    from = o.from;
    to = o.to;
  }

pub agree_back : (says other : Answers) (bs : List BlockMessage) → AgreeOn says other bs → AgreeOn other says bs
agree_back says other bs alike q c = sym (alike q c)

-- ---- a log

module _ (says other : Answers) (log : Contents) (alike : AgreeOn says other log.blocks) where
  abbrev back : AgreeOn other says log.blocks
  back = agree_back says other log.blocks alike

  same_listed : (k : Key) → listed says log k ≡ listed other log k
  same_listed k = ap (λ rs. assigned log.normal rs k) (rows_alike says other log.blocks alike)

  same_taken : (place : ℕ) → is_taken log.normal (rows says log.blocks) place ≡ is_taken log.normal (rows other log.blocks) place
  same_taken place = ap (λ rs. is_taken log.normal rs place) (rows_alike says other log.blocks alike)

  pub kept_alike : (left : ℕ → Bool) (k : Key) → IsKept says log left k → IsKept other log left k
  unfolding announced_alike
  kept_alike left k kept = record {
    hash = kept.hash;
    announced = announced_alike says other log.blocks alike k kept.hash kept.announced;
    left_over = kept.left_over;
  }

  same_gbcs : (s : Session) → gbcs says log.blocks s ≡ gbcs other log.blocks s
  unfolding gbcs
  same_gbcs s =
      ap (λ ds. in_order nat_cmp (gbcs_said ds))
      (filter_agree (is_verified says log.blocks) (is_verified other log.blocks) (of_session log.blocks s)
      (λ b h. verified_alike says other log.blocks alike b (from_of_session log.blocks s b h).0))

  same_counted : counted_sessions says log.blocks ≡ counted_sessions other log.blocks
  same_counted = λ i. map (λ (s : Session). record { session = s; gbcs = same_gbcs s i }) (sessions log.blocks)

  pub counters_alike : counters_in says log ≡ counters_in other log
  counters_alike = λ i. counters_given (one_report_of says other log alike i).sessions (same_counted i)

module _ (says other : Answers) (log : Contents) (alike : AgreeOn says other log.blocks) (left : ℕ → Bool) where
  abbrev back_again : AgreeOn other says log.blocks
  back_again = agree_back says other log.blocks alike

  pub enough_alike : LeavesEnough says log left → LeavesEnough other log left
  unfolding octet_alike announced_alike
  enough_alike l = record {
    unjudged = λ b c n. l.unjudged b c (λ j. n (is_joined_alike says other log.blocks alike b.session j));
    certificates = λ s index o.
        (let w = l.certificates s index (octet_alike other says log.blocks back_again s index o) in
        (octet_alike says other log.blocks alike s index w.0, w.1));
    gaps = λ k h a e. l.gaps k h (announced_alike other says log.blocks back_again k h a) (same_listed says other log alike k ∙ e);
    unlisted = λ m c e. l.unlisted m c (same_taken says other log alike m.place ∙ e);
    kept = λ k place e kept. l.kept k place (same_listed says other log alike k ∙ e) (kept_alike other says log back_again left k kept);
    unkept = λ k place e n. l.unkept k place (same_listed says other log alike k ∙ e) (λ kept. n (kept_alike says other log alike left k kept));
    refused = λ b c j v.
        l.refused b c (is_joined_alike other says log.blocks back_again b.session j) (verified_alike says other log.blocks alike b (has_from_contains log.blocks b c) ∙ v);
    spoilt = l.spoilt;
  }

pub settled_alike : (says other : Answers) (x : Nights) (night : ℕ) → AgreeOn says other (night_log x night).blocks → (k : Key) (place : ℕ) → IsSettled says x night k place → IsSettled other x night k place
settled_alike says other x night alike k place s = record {
  listed = sym (same_listed says other (night_log x night) alike k) ∙ s.listed;
  unkept = λ kept. s.unkept (kept_alike other says (night_log x night) (agree_back says other (night_log x night).blocks alike) (x.left night) k kept);
}

pub night_alike : (says own : Answers) (x : Nights) (night : ℕ) → AgreeOn says own (night_log x night).blocks → AreAlike says own x night
night_alike says own x night alike =
    let log = night_log x night in
    let back = agree_back says own log.blocks alike in
    record {
      report = one_report_of own says log back;
      counters = counters_alike own says log back;
      joined = λ s. (is_joined_alike own says log.blocks back s, is_joined_alike says own log.blocks alike s);
      enough = (enough_alike own says log back (x.left night), enough_alike says own log alike (x.left night));
      settled = λ k place. (settled_alike own says x night back k place, settled_alike says own x night alike k place);
    }
