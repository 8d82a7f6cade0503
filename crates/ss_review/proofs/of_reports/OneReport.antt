-- The report that is computed says what there is of a log, each once and in order, and nothing else.
use Rattle.std.proofs.Common.{◌≡◌, ◌≢◌, inl, List, [], ◌∷◌, map, refl, ap, ◌∙◌, subst}
use Rattle.std.specs.Prelude.{All}
use Rattle.std.proofs.lemmas.List.Elements.{All-from_recursion}
use Rattle.ss_block.specs.declared.block.Group.{Group}
use Rattle.ss_block.specs.declared.session.Session.{Session}
use Rattle.ss_block.specs.OrderLaws.{session_cmp_total, session_cmp_exact}
use Rattle.ss_review.specs.declared.report.group_report.GroupReport.{GroupReport}
use Rattle.ss_review.specs.keep.BlockMessage.{BlockMessage}
use Rattle.ss_review.specs.declared.keep.message.NormalMessage.{NormalMessage}
use Rattle.ss_review.specs.declared.report.session_report.SessionReport.{SessionReport}
use Rattle.ss_review.specs.keep.Notes.{Note}
use Rattle.ss_review.specs.keep.Contents.{Contents, blocks, contents}
use Rattle.ss_review.specs.sessions.Sessions.{sessions, of_session}
use Rattle.ss_review.specs.sessions.Verified.{Answers, joined, state_in}
use Rattle.ss_review.specs.announced.Announced.{Row, rows}
use Rattle.ss_review.specs.report.Entries.{group_keys, entry_of, greatest_below, hole_between, entries}
use Rattle.ss_review.specs.report.Report.{groups, group_report, session_report, report_of}
use Rattle.ss_review.specs.report.Meaning.{IsReport}
use Rattle.ss_review.proofs.of_reports.EntriesRise.{all_map, in_order_report}
use Rattle.ss_review.proofs.of_reports.EntriesMeant.{entry_told, entry_tells}
use Rattle.ss_review.proofs.of_reports.Leftovers.{unlisted_are, refused_are}
use Rattle.ss_octets.proofs.Members.{Has, has_from_contains, contains_from_has, has-map, has-append_right, from_has-map, has-flat_map}
use Rattle.ss_review.proofs.of_lists.Rising.{all_below, has-in_order, from_has-in_order}
use Rattle.ss_review.proofs.of_reports.Telling.{given, from_has-groups, has-group_keys}

not_empty : {X : Type 0} (xs : List X) (x : X) → Has xs x → xs ≢ []
not_empty xs x h e = subst (λ ys. Has ys x) e h

-- a group is told where one of its numbers is announced
has_entries : (ms : List NormalMessage) (rs : List Row) (s : Session) (g : Group) → Has (groups rs s) g → entries ms rs (group_keys rs s g) ≢ []
unfolding entries
has_entries ms rs s g h =
    let w = from_has-groups rs s g h in
    let k = w.0 in
    let mine : Has (group_keys rs s g) k = subst (λ q. Has (group_keys rs s q) k) w.3 (subst (λ q. Has (group_keys rs q k.group) k) w.2 (has-group_keys rs k w.1)) in
    let ks = group_keys rs s g in
    not_empty (entries ms rs ks) (entry_of ms rs k)
    (has-flat_map (given ms rs ks) ks k (entry_of ms rs k) mine (has-append_right (hole_between (greatest_below ks k.number) k.number) (entry_of ms rs k ∷ []) (entry_of ms rs k) (inl refl)))

abbrev whose_block : BlockMessage → Session
whose_block b = b.session

module _ (says : Answers) (log : Contents) where
  abbrev all_rows : List Row
  all_rows = rows says log.blocks

  abbrev session_told : Session → SessionReport
  session_told s = session_report says log all_rows s

  groups_filled : All (λ (t : SessionReport). All (λ (g : GroupReport). g.entries ≢ []) t.groups) (map session_told (sessions log.blocks))
  groups_filled =
      all_map (λ (t : SessionReport). All (λ (g : GroupReport). g.entries ≢ []) t.groups) session_told (sessions log.blocks) (λ s.
      All-from_recursion (λ (g : GroupReport). g.entries ≢ []) (map (group_report log.normal all_rows s) (groups all_rows s))
      (all_below (λ (g : GroupReport). g.entries ≢ []) (map (group_report log.normal all_rows s) (groups all_rows s)) (λ g h.
      (let w = from_has-map (group_report log.normal all_rows s) (groups all_rows s) g h in
      subst (λ (x : GroupReport). x.entries ≢ []) w.2 (has_entries log.normal all_rows s w.0 w.1)))))

  has-sessions : (b : BlockMessage) → Has log.blocks b → Has (sessions log.blocks) b.session
  has-sessions b h = has-in_order session_cmp_total session_cmp_exact b.session (map whose_block log.blocks) (has-map whose_block log.blocks b h)

  from_has-sessions : (s : Session) → Has (sessions log.blocks) s → (b : BlockMessage) × Has log.blocks b × (b.session ≡ s)
  from_has-sessions s h = from_has-map whose_block log.blocks s (from_has-in_order session_cmp_total session_cmp_exact s (map whose_block log.blocks) h)

pub is_report : (says : Answers) (ns : List Note) → IsReport says (contents ns) (report_of says (contents ns))
unfolding report_of
is_report says ns =
    let log = contents ns in
    let all_sessions = map (session_told says log) (sessions (blocks ns)) in
    record {
      in_order = in_order_report says ns;
      sessions = λ s. (
        λ t. (
            let w = from_has-map (session_told says log) (sessions (blocks ns)) t.0 (has_from_contains all_sessions t.0 t.1) in
            let at : w.0 ≡ s = ap (λ (x : SessionReport). x.session) w.2 ∙ t.2 in
            let b = from_has-sessions says log s (subst (Has (sessions (blocks ns))) at w.1) in
            (b.0, contains_from_has (blocks ns) b.0 b.1, b.2)
            ),
        λ b. (
            let mine = has-sessions says log b.0 (has_from_contains (blocks ns) b.0 b.1) in
            (session_told says log b.0.session, contains_from_has all_sessions (session_told says log b.0.session) (has-map (session_told says log) (sessions (blocks ns)) b.0.session mine), b.2)
            ),
      );
      states = all_map (λ (t : SessionReport). t.state ≡ state_in (joined says (of_session (blocks ns) t.session))) (session_told says log) (sessions (blocks ns)) (λ s. refl);
      no_empty_group = groups_filled says log;
      entries = λ s g e. (entry_told says log s g e, entry_tells says log s g e);
      unlisted = unlisted_are says log;
      refused = refused_are says log;
      spoilt = refl;
      count = refl;
    }
