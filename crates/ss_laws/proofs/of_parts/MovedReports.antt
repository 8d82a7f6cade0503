-- A log whose messages stand at other places has the report with these places.
use Rattle.std.proofs.Common.{◌≡◌, ℕ, ◌+◌, ◌-◌, ◌&&◌, Bool, true, false, cond, not, List, [], ◌∷◌, ◌++◌, map, filter, refl, sym, ap, ◌∙◌}
use Rattle.std.specs.Prelude.{nat_lt, Option, Some, None, option_map, find, count_by, slice_get}
use Rattle.std.specs.Ordering.{is_lt}
use Rattle.std.proofs.lemmas.List.{map-append}
use Rattle.std.proofs.lemmas.Option.{slice_get-map}
use Rattle.ss_block.specs.declared.block.Group.{Group}
use Rattle.ss_block.specs.declared.hash.Hash.{Hash}
use Rattle.ss_block.specs.declared.hash.HashPair.{HashPair}
use Rattle.ss_block.specs.declared.session.Session.{Session}
use Rattle.ss_review.specs.declared.report.entry.Entry.TheVariants as entry
use Rattle.ss_review.specs.declared.keep.message.NormalMessage.{NormalMessage}
use Rattle.ss_review.specs.keep.Contents.{Contents}
use Rattle.ss_review.specs.sessions.Sessions.{sessions}
use Rattle.ss_review.specs.sessions.Verified.{Answers, state_in}
use Rattle.ss_review.specs.announced.Announced.{Key, Row, key_cmp, keys, rows, hashes_for}
use Rattle.ss_review.specs.assign.Assigned.{same_pair, has_hash, is_pair, pair_of_bearer, places_with, wanted, rank, place_of, assigned, is_taken}
use Rattle.ss_review.specs.report.Entries.{group_keys, entry_with, entry_of, greatest_below, hole_between, entries}
use Rattle.ss_review.specs.report.Report.{groups, group_report, session_report, unlisted, report_with, report_of}
use Rattle.ss_laws.specs.parts.Parts.{moved_entry, moved_group, moved_session, moved_spoilt, moved}
use Rattle.ss_octets.proofs.Members.{Has}
use Rattle.ss_review.proofs.of_lists.FilteredAlike.{one_test, flat_map_agree}
use Rattle.ss_review.proofs.of_lists.Finding.{mapped}
use Rattle.ss_review.proofs.of_lists.Keyed.{has-slice_get}
use Rattle.ss_review.proofs.of_reports.Leftovers.{taken_by, takes}
use Rattle.ss_review.proofs.of_lists.Mapped.{option_map-option_map, map-map, filter-map, find-map, map-flat_map, filter_agree}
use Rattle.ss_laws.proofs.of_parts.MovedBlocks.{moved_block, sessions_moved, joined_moved, rows_moved, refused_moved}
use Rattle.ss_review.proofs.of_assignment.OnePlaceOneKey.{assigned_cases, from_has-places_with}
use Rattle.ss_laws.proofs.of_parts.PartAssigned.{wanted_alike}

module _ (f : ℕ → ℕ) where
  abbrev pub moved_normal : NormalMessage → NormalMessage
  moved_normal m = record { place = f m.place; pair = m.pair }

  abbrev pub moved_log : Contents → Contents
  moved_log log = record {
    normal = map moved_normal log.normal;
    blocks = map (moved_block f) log.blocks;
    spoilt = map (moved_spoilt f) log.spoilt;
    count = log.count;
  }

  -- different messages without a block stay at different places
  abbrev pub KeepsApart : List NormalMessage → Type 0
  KeepsApart ms = (m n : NormalMessage) → Has ms m → Has ms n → f m.place ≡ f n.place → m.place ≡ n.place

  module _ (ms : List NormalMessage) (rs : List Row) where
    abbrev ns : List NormalMessage
    ns = map moved_normal ms

    -- ---- assigned places

    bearer_moved : (h : Hash) → pair_of_bearer ns h ≡ pair_of_bearer ms h
    unfolding pair_of_bearer
    bearer_moved h =
        ap (option_map (λ (m : NormalMessage). m.pair)) (find-map (λ (m : NormalMessage). has_hash h m.pair) moved_normal ms)
        ∙ option_map-option_map (λ (m : NormalMessage). m.pair) moved_normal (find (λ (m : NormalMessage). has_hash h m.pair) ms)

    wanted_moved : (j : Key) → wanted ns rs j ≡ wanted ms rs j
    unfolding wanted
    wanted_moved j = wanted_alike ns ms (hashes_for rs j) (λ h i. bearer_moved h)

    rank_moved : (j : Key) (p : HashPair) → rank ns rs j p ≡ rank ms rs j p
    unfolding rank
    rank_moved j p = ap (λ (w : Key → Option HashPair). count_by (λ q. is_lt (key_cmp q j) && is_pair p (w q)) (keys rs)) (λ i q. wanted_moved q i)

    places_moved : (p : HashPair) → places_with ns p ≡ map f (places_with ms p)
    unfolding places_with
    places_moved p =
        ap (map (λ (m : NormalMessage). m.place)) (filter-map (λ (m : NormalMessage). same_pair m.pair p) moved_normal ms)
        ∙ map-map (λ (m : NormalMessage). m.place) moved_normal (filter (λ (m : NormalMessage). same_pair m.pair p) ms)
        ∙ sym (map-map f (λ (m : NormalMessage). m.place) (filter (λ (m : NormalMessage). same_pair m.pair p) ms))

    place_moved : (j : Key) (o : Option HashPair) → place_of ns rs j o ≡ option_map f (place_of ms rs j o)
    place_moved j None = refl
    place_moved j (Some p) =
        (λ i. slice_get (places_moved p i) (rank_moved j p i)) ∙ slice_get-map f (places_with ms p) (rank ms rs j p)

    assigned_moved : (j : Key) → assigned ns rs j ≡ option_map f (assigned ms rs j)
    unfolding assigned
    assigned_moved j = ap (place_of ns rs j) (wanted_moved j) ∙ place_moved j (wanted ms rs j)

    -- ---- entries

    with_moved : (j : Key) (o : Option ℕ) → entry_with rs j (option_map f o) ≡ moved_entry f (entry_with rs j o)
    with_moved j None = refl
    with_moved j (Some place) = refl

    entry_moved : (j : Key) → entry_of ns rs j ≡ moved_entry f (entry_of ms rs j)
    entry_moved j = ap (entry_with rs j) (assigned_moved j) ∙ with_moved j (assigned ms rs j)

    hole_at : (b : Bool) (first last : ℕ) → map (moved_entry f) (cond b (entry.Hole first last ∷ []) []) ≡ cond b (entry.Hole first last ∷ []) []
    hole_at true first last = refl
    hole_at false first last = refl

    entries_moved : (js : List Key) → entries ns rs js ≡ map (moved_entry f) (entries ms rs js)
    unfolding entries
    entries_moved js =
        flat_map_agree
        (λ j. hole_between (greatest_below js j.number) j.number ++ entry_of ns rs j ∷ [])
        (λ j. map (moved_entry f) (hole_between (greatest_below js j.number) j.number ++ entry_of ms rs j ∷ []))
        js (λ j h. one (greatest_below js j.number) j)
        ∙ sym (map-flat_map (moved_entry f) (λ j. hole_between (greatest_below js j.number) j.number ++ entry_of ms rs j ∷ []) js)
      where
        one : (below : ℕ) (j : Key) → hole_between below j.number ++ entry_of ns rs j ∷ [] ≡ map (moved_entry f) (hole_between below j.number ++ entry_of ms rs j ∷ [])
        one below j =
            ap (λ e. hole_between below j.number ++ e ∷ []) (entry_moved j)
            ∙ ap (λ es. es ++ moved_entry f (entry_of ms rs j) ∷ []) (sym (hole_at (nat_lt (below + 1) j.number) (below + 1) (j.number - 1)))
            ∙ sym (map-append (moved_entry f) (hole_between below j.number) (entry_of ms rs j ∷ []))

    groups_moved : (s : Session) → map (group_report ns rs s) (groups rs s) ≡ map (moved_group f) (map (group_report ms rs s) (groups rs s))
    groups_moved s =
        (λ i. map (λ (g : Group). record { group = g; entries = entries_moved (group_keys rs s g) i }) (groups rs s))
        ∙ sym (map-map (moved_group f) (group_report ms rs s) (groups rs s))

    -- ---- messages that aren't listed

    module _ (apart : KeepsApart ms) where
      taken_moved : (m : NormalMessage) → Has ms m → is_taken ns rs (f m.place) ≡ is_taken ms rs m.place
      taken_moved m h = one_test (is_taken ns rs (f m.place)) (is_taken ms rs m.place) there back
        where
          there : is_taken ns rs (f m.place) ≡ true → is_taken ms rs m.place ≡ true
          there t =
              let w = taken_by ns rs (f m.place) t in
              let o = mapped f (assigned ms rs w.0) (f m.place) (sym (assigned_moved w.0) ∙ w.1) in
              let a = assigned_cases ms rs w.0 o.0 o.1 in
              let n = from_has-places_with ms rs a.0 o.0 (has-slice_get (places_with ms a.0) (rank ms rs w.0 a.0) o.0 a.2) in
              let at : o.0 ≡ m.place = sym n.3 ∙ apart n.0 m n.1 h (ap f n.3 ∙ o.2) in
              takes ms rs w.0 m.place (o.1 ∙ ap (λ (p : ℕ). Some p) at)

          back : is_taken ms rs m.place ≡ true → is_taken ns rs (f m.place) ≡ true
          back t =
              let w = taken_by ms rs m.place t in
              takes ns rs w.0 (f m.place) (assigned_moved w.0 ∙ ap (option_map f) w.1)

      unlisted_moved : unlisted ns rs ≡ map f (unlisted ms rs)
      unlisted_moved =
          ap (map (λ (m : NormalMessage). m.place))
          (filter-map (λ (m : NormalMessage). not (is_taken ns rs m.place)) moved_normal ms
          ∙ ap (map moved_normal) (filter_agree (λ (m : NormalMessage). not (is_taken ns rs (f m.place))) (λ (m : NormalMessage). not (is_taken ms rs m.place)) ms (λ m h. ap not (taken_moved m h))))
          ∙ map-map (λ (m : NormalMessage). m.place) moved_normal (filter (λ (m : NormalMessage). not (is_taken ms rs m.place)) ms)
          ∙ sym (map-map f (λ (m : NormalMessage). m.place) (filter (λ (m : NormalMessage). not (is_taken ms rs m.place)) ms))

  -- ---- the report

  pub report_moved : (says : Answers) (log : Contents) → KeepsApart log.normal → report_of says (moved_log log) ≡ moved f (report_of says log)
  unfolding report_of
  report_moved says log apart =
      ap (report_with says (moved_log log)) (rows_moved f says log.blocks)
      ∙ (λ i. record {
        sessions = told i;
        unlisted = unlisted_moved log.normal rs apart i;
        refused = refused_moved f says log.blocks i;
        spoilt = map (moved_spoilt f) log.spoilt;
        count = log.count;
      })
    where
      rs : List Row
      rs = rows says log.blocks

      told : map (session_report says (moved_log log) rs) (sessions (map (moved_block f) log.blocks)) ≡ map (moved_session f) (map (session_report says log rs) (sessions log.blocks))
      told =
          ap (map (session_report says (moved_log log) rs)) (sessions_moved f log.blocks)
          ∙ (λ i. map (λ (s : Session). record { session = s; state = state_in (joined_moved f says log.blocks s i); groups = groups_moved log.normal rs s i }) (sessions log.blocks))
          ∙ sym (map-map (moved_session f) (session_report says log rs) (sessions log.blocks))
