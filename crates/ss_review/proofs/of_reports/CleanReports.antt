-- A report is clean where each block is verified, no group has a hole, each announced number has a message, each message
-- without a block a number, and nothing is spoilt.
use Rattle.std.proofs.Common.{◌≡◌, inl, ℕ, Bool, true, ◌&&◌, List, [], ◌∷◌, refl, sym, ap, ◌∙◌}
use Rattle.std.specs.Prelude.{Option, Some, None, Result, Ok, Err, Contains}
use Rattle.std.specs.List.{list_all}
use Rattle.std.proofs.lemmas.Bool.{and_from}
use Rattle.std.proofs.lemmas.List.Elements.{All-contains}
use Rattle.ss_block.specs.declared.block.Group.{Group}
use Rattle.ss_block.specs.declared.session.Session.{Session}
use Rattle.ss_review.specs.declared.report.entry.Entry.{Entry}
use Rattle.ss_review.specs.declared.report.entry.Entry.TheVariants as entry
use Rattle.ss_review.specs.declared.report.group_report.GroupReport.{GroupReport}
use Rattle.ss_review.specs.keep.BlockMessage.{BlockMessage}
use Rattle.ss_review.specs.declared.keep.message.NormalMessage.{NormalMessage}
use Rattle.ss_review.specs.declared.report.report.Report.{Report}
use Rattle.ss_review.specs.declared.report.session_report.SessionReport.{SessionReport}
use Rattle.ss_review.specs.declared.report.session_report.SessionState.{SessionState}
use Rattle.ss_review.specs.keep.Contents.{Contents}
use Rattle.ss_review.specs.sessions.Sessions.{of_session}
use Rattle.ss_review.specs.sessions.Verified.{Answers, joined, state_in, is_valid_in, is_verified}
use Rattle.ss_review.specs.announced.Announced.{Key, Row, keys, rows}
use Rattle.ss_review.specs.assign.Assigned.{assigned, is_taken}
use Rattle.ss_review.specs.report.Entries.{entry_with, entry_of}
use Rattle.ss_review.specs.report.Verdict.{is_joined, is_listed, is_none, is_clean}
use Rattle.ss_review.specs.announced.Announcing.{IsAnnounced}
use Rattle.ss_review.specs.report.Meaning.{IsHole, IsEntry, IsUnlisted, IsRefused, IsReport}
use Rattle.ss_review.proofs.of_numbers.Announcements.{has-announced_key}
use Rattle.ss_review.proofs.of_reports.Leftovers.{taken_by}
use Rattle.ss_octets.proofs.Members.{Has, contains_from_has}
use Rattle.ss_review.proofs.of_lists.Tests.{member_all}

-- ---- parts

none_there : {X : Type 0} (xs : List X) → ((x : X) → Contains xs x → ⊥) → is_none xs ≡ true
none_there [] none = refl
none_there (x ∷ xs) none = absurd (none x (contains_from_has (x ∷ xs) x (inl refl)))

-- the session of a verified block is joined
joined_state : (says : Answers) (b : BlockMessage) (j : Result (List ℕ) SessionState) → is_valid_in says j b ≡ true → is_joined (state_in j) ≡ true
joined_state says b (Ok payload) e = refl
joined_state says b (Err state) e = absurd (cc)

no_gap : (rs : List Row) (k : Key) (o : Option ℕ) → is_listed (entry_with rs k o) ≡ true → o ≡ None → ⊥
no_gap rs k None e none = cc
no_gap rs k (Some place) e none = cc

-- ---- the whole report

module _ (says : Answers) (log : Contents)
    (verified : (b : BlockMessage) → Contains log.blocks b → is_verified says log.blocks b ≡ true)
    (holeless : (s : Session) (g : Group) (first last : ℕ) → ¬ IsHole (λ n. IsAnnounced says log.blocks (record { session = s; group = g; number = n })) first last)
    (listed : (k : Key) → Contains (keys (rows says log.blocks)) k → is_listed (entry_of log.normal (rows says log.blocks) k) ≡ true)
    (taken : (m : NormalMessage) → Contains log.normal m → is_taken log.normal (rows says log.blocks) m.place ≡ true)
    (unspoilt : log.spoilt ≡ []) (r : Report) (is : IsReport says log r) where
  entry_listed : (s : Session) (g : Group) (e : Entry) → IsEntry says log s g e → is_listed e ≡ true
  entry_listed s g (entry.Listed n place) i = refl
  entry_listed s g (entry.Gap n why) i =
      let k : Key = record { session = s; group = g; number = n } in
      let there = contains_from_has (keys (rows says log.blocks)) k (has-announced_key says log.blocks k i.0) in
      absurd (no_gap (rows says log.blocks) k (assigned log.normal (rows says log.blocks) k) (listed k there) i.1)
  entry_listed s g (entry.Hole first last) i = absurd (holeless s g first last i)

  group_listed : (t : SessionReport) (g : GroupReport) → Has r.sessions t → Has t.groups g → list_all is_listed g.entries ≡ true
  group_listed t g h i =
      member_all is_listed g.entries (λ e j.
      entry_listed t.session g.group e ((is.entries t.session g.group e).0 (record {
        session = t;
        session_told = contains_from_has r.sessions t h;
        session_is = refl;
        group = g;
        group_told = contains_from_has t.groups g i;
        group_is = refl;
        entry_told = contains_from_has g.entries e j;
      })))

  session_joined : (t : SessionReport) → Has r.sessions t → is_joined t.state ≡ true
  unfolding is_verified
  session_joined t h =
      let c = contains_from_has r.sessions t h in
      let b = (is.sessions t.session).0 (t, c, refl) in
      let whole : is_joined (state_in (joined says (of_session log.blocks b.0.session))) ≡ true
      = joined_state says b.0 (joined says (of_session log.blocks b.0.session)) (verified b.0 b.1) in
      ap is_joined (All-contains (λ (u : SessionReport). u.state ≡ state_in (joined says (of_session log.blocks u.session))) r.sessions t is.states c)
      ∙ ap (λ (s : Session). is_joined (state_in (joined says (of_session log.blocks s)))) (sym b.2)
      ∙ whole

  abbrev is_clean_session : SessionReport → Bool
  is_clean_session t = is_joined t.state && list_all (λ g. list_all is_listed g.entries) t.groups

  sessions_clean : list_all is_clean_session r.sessions ≡ true
  sessions_clean =
      member_all is_clean_session r.sessions (λ t h.
      and_from (is_joined t.state) (list_all (λ g. list_all is_listed g.entries) t.groups) (session_joined t h)
      (member_all (λ g. list_all is_listed g.entries) t.groups (λ g i. group_listed t g h i)))

  all_listed : (place : ℕ) → IsUnlisted says log place → ⊥
  all_listed place u =
      let k = taken_by log.normal (rows says log.blocks) u.0.0.place (taken u.0.0 u.0.1) in
      u.1 k.0 (k.1 ∙ ap (λ (p : ℕ). Some p) u.0.2)

  none_refused : (place : ℕ) → IsRefused says log place → ⊥
  none_refused place u = u.3 (verified u.0 u.1)

  pub clean : is_clean r ≡ true
  unfolding is_clean
  clean =
      let unlisted : is_none r.unlisted ≡ true = none_there r.unlisted (λ p c. all_listed p ((is.unlisted p).0 c)) in
      let refused : is_none r.refused ≡ true = none_there r.refused (λ p c. none_refused p ((is.refused p).0 c)) in
      let spoilt : is_none r.spoilt ≡ true = ap is_none (is.spoilt ∙ unspoilt) in
      λ i. sessions_clean i && unlisted i && refused i && spoilt i
