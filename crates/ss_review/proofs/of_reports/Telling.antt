-- What a report tells of a group is what its keys give, each an entry behind a hole.
use Rattle.std.proofs.Common.{◌≡◌, List, [], ◌∷◌, ◌++◌, map, refl, sym, ap, ◌∙◌, subst}
use Rattle.std.specs.Ordering.{is_eq}
use Rattle.std.specs.Cmp.{Equal-is}
use Rattle.std.proofs.lemmas.Cmp.{tied_itself}
use Rattle.ss_block.specs.declared.block.Group.{Group}
use Rattle.ss_block.specs.declared.session.Session.{Session}
use Rattle.ss_review.specs.declared.report.entry.Entry.{Entry}
use Rattle.ss_review.specs.declared.report.group_report.GroupReport.{GroupReport}
use Rattle.ss_review.specs.declared.report.session_report.SessionReport.{SessionReport}
use Rattle.ss_review.specs.declared.keep.message.NormalMessage.{NormalMessage}
use Rattle.ss_review.specs.keep.BlockMessage.{BlockMessage}
use Rattle.ss_block.specs.Order.{session_cmp, group_cmp}
use Rattle.ss_review.specs.keep.Contents.{Contents}
use Rattle.ss_review.specs.sessions.Sessions.{same_session, sessions}
use Rattle.ss_review.specs.sessions.Verified.{Answers}
use Rattle.ss_review.specs.announced.Announced.{Key, Row, keys, rows}
use Rattle.ss_review.specs.report.Entries.{same_group, keys_in, group_keys, entry_of, greatest_below, hole_between, entries}
use Rattle.ss_review.specs.report.Report.{groups, group_report, session_report, report_of}
use Rattle.ss_review.specs.report.Meaning.{Tells}
use Rattle.ss_review.proofs.of_numbers.Announcements.{announced_key}
use Rattle.ss_octets.proofs.Members.{Has, has_from_contains, contains_from_has, has-map, from_has-map, has-filter, from_has-filter, has-flat_map, from_has-flat_map}
use Rattle.ss_review.proofs.of_lists.Rising.{has-in_order, from_has-in_order}
use Rattle.ss_block.specs.OrderLaws.{session_cmp_total, session_cmp_exact, group_cmp_total, group_cmp_exact}

-- the entry of a key, behind the hole below it
abbrev pub given : List NormalMessage → List Row → List Key → Key → List Entry
given ms rs ks k = hole_between (greatest_below ks k.number) k.number ++ entry_of ms rs k ∷ []

-- ---- the keys of a group

pub from_has-group_keys : (rs : List Row) (s : Session) (g : Group) (k : Key) → Has (group_keys rs s g) k → Has (keys rs) k × (k.session ≡ s) × (k.group ≡ g)
unfolding group_keys
from_has-group_keys rs s g k h =
    let f = from_has-filter (λ (j : Key). same_group j.group g) (keys_in rs s) k h in
    let e = from_has-filter (λ (j : Key). same_session j.session s) (keys rs) k f.0 in
    (e.0, session_cmp_exact k.session s ((Equal-is (session_cmp k.session s)).0 e.1), group_cmp_exact k.group g ((Equal-is (group_cmp k.group g)).0 f.1))

has-keys_in : (rs : List Row) (k : Key) → Has (keys rs) k → Has (keys_in rs k.session) k
has-keys_in rs k h = has-filter (λ (j : Key). same_session j.session k.session) (keys rs) k h (ap is_eq (tied_itself session_cmp_total k.session))

pub has-group_keys : (rs : List Row) (k : Key) → Has (keys rs) k → Has (group_keys rs k.session k.group) k
unfolding group_keys
has-group_keys rs k h = has-filter (λ (j : Key). same_group j.group k.group) (keys_in rs k.session) k (has-keys_in rs k h) (ap is_eq (tied_itself group_cmp_total k.group))

pub has-groups : (rs : List Row) (k : Key) → Has (keys rs) k → Has (groups rs k.session) k.group
has-groups rs k h = has-in_order group_cmp_total group_cmp_exact k.group (map (λ (j : Key). j.group) (keys_in rs k.session)) (has-map (λ (j : Key). j.group) (keys_in rs k.session) k (has-keys_in rs k h))

-- a group that is told has an announced key
pub from_has-groups : (rs : List Row) (s : Session) (g : Group) → Has (groups rs s) g → (k : Key) × Has (keys rs) k × (k.session ≡ s) × (k.group ≡ g)
from_has-groups rs s g h =
    let w = from_has-map (λ (j : Key). j.group) (keys_in rs s) g (from_has-in_order group_cmp_total group_cmp_exact g (map (λ (j : Key). j.group) (keys_in rs s)) h) in
    let e = from_has-filter (λ (j : Key). same_session j.session s) (keys rs) w.0 w.1 in
    (w.0, e.0, session_cmp_exact w.0.session s ((Equal-is (session_cmp w.0.session s)).0 e.1), w.2)

-- the session of an announced key is one of the log
pub has-session : (says : Answers) (bs : List BlockMessage) (k : Key) → Has (keys (rows says bs)) k → Has (sessions bs) k.session
has-session says bs k h =
    let a = announced_key says bs k h in
    subst (Has (sessions bs)) a.1.session_is
    (has-in_order session_cmp_total session_cmp_exact a.1.message.session (map (λ (b : BlockMessage). b.session) bs)
    (has-map (λ (b : BlockMessage). b.session) bs a.1.message (has_from_contains bs a.1.message a.1.stored)))

module _ (says : Answers) (log : Contents) where
  abbrev pub announced_rows : List Row
  announced_rows = rows says log.blocks

  -- what is told of a group is given by one of its keys
  pub told_by : (s : Session) (g : Group) (e : Entry) → Tells (report_of says log) s g e
      → (k : Key) × Has (keys announced_rows) k × (k.session ≡ s) × (k.group ≡ g) × Has (given log.normal announced_rows (group_keys announced_rows s g) k) e
  unfolding report_of entries
  told_by s g e t =
      let rs = announced_rows in
      let v = from_has-map (session_report says log rs) (sessions log.blocks) t.session (has_from_contains (report_of says log).sessions t.session t.session_told) in
      let at : v.0 ≡ s = ap (λ (x : SessionReport). x.session) v.2 ∙ t.session_is in
      let hg : Has (map (group_report log.normal rs v.0) (groups rs v.0)) t.group = subst (λ (x : SessionReport). Has x.groups t.group) (sym v.2) (has_from_contains t.session.groups t.group t.group_told) in
      let w = from_has-map (group_report log.normal rs v.0) (groups rs v.0) t.group hg in
      let in_group : w.0 ≡ g = ap (λ (x : GroupReport). x.group) w.2 ∙ t.group_is in
      let he : Has (entries log.normal rs (group_keys rs v.0 w.0)) e = subst (λ (x : GroupReport). Has x.entries e) (sym w.2) (has_from_contains t.group.entries e t.entry_told) in
      let here : Has (entries log.normal rs (group_keys rs s g)) e = subst (λ q. Has (entries log.normal rs (group_keys rs s q)) e) in_group (subst (λ q. Has (entries log.normal rs (group_keys rs q w.0)) e) at he) in
      let u = from_has-flat_map (given log.normal rs (group_keys rs s g)) (group_keys rs s g) e here in
      let k = from_has-group_keys rs s g u.0 u.1 in
      (u.0, k.0, k.1, k.2, u.2)

  -- and what each announced key gives is told
  pub tells : (k : Key) (e : Entry) → Has (keys announced_rows) k → Has (given log.normal announced_rows (group_keys announced_rows k.session k.group) k) e → Tells (report_of says log) k.session k.group e
  unfolding report_of entries
  tells k e h i =
      let rs = announced_rows in
      let s = session_report says log rs k.session in
      let g = group_report log.normal rs k.session k.group in
      record {
        session = s;
        session_told = contains_from_has (report_of says log).sessions s (has-map (session_report says log rs) (sessions log.blocks) k.session (has-session says log.blocks k h));
        session_is = refl;
        group = g;
        group_told = contains_from_has s.groups g (has-map (group_report log.normal rs k.session) (groups rs k.session) k.group (has-groups rs k h));
        group_is = refl;
        entry_told = contains_from_has g.entries e (has-flat_map (given log.normal rs (group_keys rs k.session k.group)) (group_keys rs k.session k.group) k e (has-group_keys rs k h) i);
      }
