-- What is missing of the sessions of a log, session by session: each is what its counters, its groups and its GBC say.
use Rattle.std.proofs.Common.{◌≡◌, inl, inr, ℕ, Bool, true, false, not, List, [], ◌∷◌, map, filter, refl, sym, ap, ◌∙◌, subst}
use Rattle.std.specs.Ordering.{is_eq}
use Rattle.std.specs.Cmp.{Equal-is}
use Rattle.std.specs.List.{zip, list_any}
use Rattle.std.proofs.lemmas.Bool.{cases_Bool, not-true}
use Rattle.std.proofs.lemmas.Cmp.{tied_itself}
use Rattle.std.proofs.lemmas.List.{map-id}
use Rattle.std.proofs.lemmas.Simd.{map-map}
use Rattle.ss_block.specs.declared.session.Session.{Session}
use Rattle.ss_block.specs.Order.{session_cmp}
use Rattle.ss_block.specs.OrderLaws.{session_cmp_total, session_cmp_exact}
use Rattle.ss_review.specs.declared.counted.counted_session.CountedSession.{CountedSession}
use Rattle.ss_review.specs.declared.counted.counter.Counter.{Counter}
use Rattle.ss_review.specs.declared.counted.shortfall.Shortfall.{Shortfall}
use Rattle.ss_review.specs.declared.counted.shortfall.LogShortfalls.{LogShortfalls}
use Rattle.ss_review.specs.keep.BlockMessage.{BlockMessage}
use Rattle.ss_review.specs.declared.report.group_report.GroupReport.{GroupReport}
use Rattle.ss_review.specs.declared.report.report.Report.{Report}
use Rattle.ss_review.specs.declared.report.session_report.SessionReport.{SessionReport}
use Rattle.ss_review.specs.keep.Notes.{notes}
use Rattle.ss_review.specs.keep.Contents.{contents, blocks}
use Rattle.ss_review.specs.sessions.Sessions.{same_session, sessions}
use Rattle.ss_review.specs.sessions.Verified.{Answers}
use Rattle.ss_review.specs.announced.Announced.{Row, rows}
use Rattle.ss_review.specs.report.Report.{report, report_of, session_report}
use Rattle.ss_review.specs.counted.Counted.{gbcs, counted_session}
use Rattle.ss_review.specs.counted.CountedLaws.{CountedAreVerified}
use Rattle.ss_review.specs.counted.Kept.{counters_of, kept_sessions, shortfall, shortfall_in, absent_among, log_shortfalls}
use Rattle.ss_review.specs.counted.KeptLaws.{shortfalls_of, IsToldOf}
use Rattle.ss_octets.proofs.Members.{Has, has-map, has_from_contains, contains_from_has, from_has-map, has-filter, from_has-filter}
use Rattle.ss_review.proofs.of_lists.Rising.{has-in_order}
use Rattle.ss_review.proofs.of_lists.Tests.{any_member, member_any}

pub zip-map : {X Y Z : Type 0} (f : X → Y) (g : X → Z) (xs : List X) → zip (map f xs) (map g xs) ≡ map (λ x. (f x, g x)) xs
zip-map f g [] = refl
zip-map f g (x ∷ xs) = ap (λ ps. (f x, g x) ∷ ps) (zip-map f g xs)

none_there : (ns : List ℕ) → ((n : ℕ) → ¬ Has ns n) → ns ≡ []
none_there [] none = refl
none_there (n ∷ ns) none = absurd (none n (inl refl))

pub is_same : (s t : Session) → same_session s t ≡ true → s ≡ t
is_same s t e = session_cmp_exact s t ((Equal-is (session_cmp s t)).0 e)

pub same_is : (s t : Session) → s ≡ t → same_session s t ≡ true
same_is s t e = ap (λ r. is_eq (session_cmp r t)) e ∙ ap is_eq (tied_itself session_cmp_total t)

module _ (says : Answers) (log : List (List ℕ)) where
  abbrev stored : List BlockMessage
  stored = blocks (notes log)

  abbrev all_rows : List Row
  all_rows = rows says stored

  abbrev pub its_report : Report
  its_report = report says log

  abbrev pub report_of_session : Session → SessionReport
  report_of_session s = session_report says (contents (notes log)) all_rows s

  abbrev session_of : SessionReport → Session
  session_of r = r.session

  -- The groups are those of the session's report, or there is none: then no report is of the session.
  pub data GroupsAre (s : Session) (gs : List GroupReport) : Type 0 where
    reported : (r : SessionReport) → Has its_report.sessions r → r.session ≡ s → r.groups ≡ gs → GroupsAre s gs
    absent : ((r : SessionReport) → Has its_report.sessions r → r.session ≡ s → ⊥) → gs ≡ [] → GroupsAre s gs

  pub sessions_are : map session_of its_report.sessions ≡ sessions stored
  unfolding report_of
  sessions_are = map-map session_of report_of_session (sessions stored) ∙ map-id (sessions stored)

  pub reports_are : its_report.sessions ≡ map report_of_session (sessions stored)
  unfolding report_of
  reports_are = refl

  no_report : (s : Session) → (Has (sessions stored) s → ⊥) → (r : SessionReport) → Has its_report.sessions r → r.session ≡ s → ⊥
  no_report s none r h e = none (subst (Has (sessions stored)) e (subst (λ ss. Has ss r.session) sessions_are (has-map session_of its_report.sessions r h)))

  -- a session that no block is of has no counted value
  pub none_counted : CountedAreVerified → (s : Session) → (Has (sessions stored) s → ⊥) → gbcs says stored s ≡ []
  none_counted verified s none =
      none_there (gbcs says stored s) (λ n h.
      (let c = ((verified says log s).1 n).0 (contains_from_has (gbcs says stored s) n h) in
      none (subst (Has (sessions stored)) c.session_is (has-in_order session_cmp_total session_cmp_exact c.message.session (map (λ (b : BlockMessage). b.session) stored) (has-map (λ (b : BlockMessage). b.session) stored c.message (has_from_contains stored c.message c.stored))))))

  module _ (cs : List Counter) where
    abbrev pub all_told : LogShortfalls
    all_told = shortfalls_of says log cs

    abbrev pub known_of : Session → Shortfall
    known_of s = shortfall cs s (report_of_session s).groups (gbcs says stored s)

    pub known_are : all_told.known ≡ map known_of (sessions stored)
    unfolding log_shortfalls report_of
    known_are =
        ap (map (λ (p : SessionReport × CountedSession). shortfall cs p.0.session p.0.groups p.1.gbcs)) (zip-map report_of_session (counted_session says stored) (sessions stored))
        ∙ map-map (λ (p : SessionReport × CountedSession). shortfall cs p.0.session p.0.groups p.1.gbcs) (λ s. (report_of_session s, counted_session says stored s)) (sessions stored)

    abbrev pub absent_of : Session → Shortfall
    absent_of s = shortfall cs s [] []

    abbrev pub is_absent : Session → Bool
    is_absent s = not (list_any (same_session s) (sessions stored))

    pub absent_are : all_told.absent ≡ map absent_of (filter is_absent (kept_sessions cs))
    unfolding log_shortfalls
    absent_are = ap (λ known. map absent_of (absent_among (kept_sessions cs) known)) sessions_are

    -- what is told of a session is what its counters, its groups and its values say
    pub record IsOf (f : Shortfall) : Type 0 where
      pub groups : List GroupReport
      pub groups_are : GroupsAre f.session groups
      pub is : f ≡ shortfall_in (counters_of cs f.session) f.session groups (gbcs says stored f.session)

    not_stored : (s : Session) → is_absent s ≡ true → Has (sessions stored) s → ⊥
    not_stored s e h =
        let there : list_any (same_session s) (sessions stored) ≡ true = member_any (same_session s) (sessions stored) s h (same_is s s refl) in
        let bad : true ≡ false = sym there ∙ not-true (list_any (same_session s) (sessions stored)) e in
        absurd (cc)

    known_is : (s : Session) → Has (sessions stored) s → IsOf (known_of s)
    known_is s h = record {
      groups = (report_of_session s).groups;
      groups_are = reported (report_of_session s) (subst (λ rs. Has rs (report_of_session s)) (sym reports_are) (has-map report_of_session (sessions stored) s h)) refl refl;
      is = refl;
    }

    absent_is : CountedAreVerified → (s : Session) → is_absent s ≡ true → IsOf (absent_of s)
    absent_is verified s e =
        let none = not_stored s e in
        record {
          groups = [];
          groups_are = absent (no_report s none) refl;
          is = ap (λ ns. shortfall cs s [] ns) (sym (none_counted verified s none));
        }

    pub told_is : CountedAreVerified → (f : Shortfall) → IsToldOf all_told f → IsOf f
    told_is verified f (inl c) =
        let w = from_has-map known_of (sessions stored) f (subst (λ fs. Has fs f) known_are (has_from_contains all_told.known f c)) in
        subst IsOf w.2 (known_is w.0 w.1)
    told_is verified f (inr c) =
        let w = from_has-map absent_of (filter is_absent (kept_sessions cs)) f (subst (λ fs. Has fs f) absent_are (has_from_contains all_told.absent f c)) in
        subst IsOf w.2 (absent_is verified w.0 (from_has-filter is_absent (kept_sessions cs) w.0 w.1).1)

    -- each session that has a counter or a block is told of
    pub record IsThere (s : Session) : Type 0 where
      pub shortfall : Shortfall
      pub told : IsToldOf all_told shortfall
      pub session_is : shortfall.session ≡ s

    known_there : (s : Session) → Has (sessions stored) s → IsThere s
    known_there s h = record {
      shortfall = known_of s;
      told = inl (contains_from_has all_told.known (known_of s) (subst (λ fs. Has fs (known_of s)) (sym known_are) (has-map known_of (sessions stored) s h)));
      session_is = refl;
    }

    absent_there : (s : Session) → Has (kept_sessions cs) s → is_absent s ≡ true → IsThere s
    absent_there s h e = record {
      shortfall = absent_of s;
      told = inr (contains_from_has all_told.absent (absent_of s) (subst (λ fs. Has fs (absent_of s)) (sym absent_are) (has-map absent_of (filter is_absent (kept_sessions cs)) s (has-filter is_absent (kept_sessions cs) s h e))));
      session_is = refl;
    }

    pub there : (s : Session) → Has (kept_sessions cs) s → IsThere s
    there s h =
        elim (cases_Bool (list_any (same_session s) (sessions stored))) [
          | inl t ↦ (let w = any_member (same_session s) (sessions stored) t in known_there s (subst (Has (sessions stored)) (sym (is_same s w.0 w.2)) w.1))
          | inr f ↦ absent_there s h (ap not f)
        ]
