-- What is reported of a session but for the places of its messages, and what is missing of it, by its rows.
use Rattle.std.proofs.Common.{◌≡◌, ℕ, ◌+◌, ◌-◌, Bool, true, false, List, [], ◌∷◌, ◌++◌, length, map, filter, fold, max, refl, sym, ap, ◌∙◌}
use Rattle.std.specs.Prelude.{Option, Some, None, nat_lt, if◌then◌else◌}
use Rattle.std.specs.List.{flat_map}
use Rattle.ss_block.specs.declared.block.Group.{Group}
use Rattle.ss_block.specs.declared.hash.Hash.{Hash}
use Rattle.ss_block.specs.declared.session.Session.{Session}
use Rattle.ss_review.specs.declared.counted.counter.Counter.{Counter}
use Rattle.ss_review.specs.declared.keep.message.NormalMessage.{NormalMessage}
use Rattle.ss_review.specs.declared.report.entry.Entry.{Entry}
use Rattle.ss_review.specs.declared.report.entry.Entry.TheVariants as entry
use Rattle.ss_review.specs.declared.report.entry.Why.{Why}
use Rattle.ss_review.specs.declared.report.entry.Why.TheVariants as whys
use Rattle.ss_review.specs.declared.report.group_report.GroupReport.{GroupReport}
use Rattle.ss_review.specs.announced.Announced.{Key, Row, keys, hashes_for, is_disputed_key}
use Rattle.ss_review.specs.assign.Assigned.{wanted, assigned}
use Rattle.ss_review.specs.counted.Counted.{number_announced, next_after, next_number}
use Rattle.ss_review.specs.counted.Kept.{number_in, groups_in, number_behind, tail_between, tails_in}
use Rattle.ss_review.specs.report.Entries.{same_group, keys_in, group_keys, entry_with, entry_of, greatest_below, hole_between, entries}
use Rattle.ss_review.specs.report.Report.{groups, group_report}
use Rattle.ss_review.specs.Ordered.{in_order}
use Rattle.ss_block.specs.Order.{group_cmp}
use Rattle.ss_octets.proofs.Members.{Has}
use Rattle.ss_review.proofs.of_assignment.OnePlaceOneKey.{only_one, assigned_cases}
use Rattle.ss_review.proofs.of_lists.FilteredAlike.{flat_map_agree, flat_map-map}
use Rattle.ss_review.proofs.of_lists.Mapped.{map-map, map-flat_map, filter-map}
use Rattle.ss_review.proofs.of_lists.Sections.{map_agree}
use Rattle.ss_review.proofs.of_reports.Telling.{from_has-group_keys}
use Rattle.ss_laws.specs.strangers.Strangers.{without_place, group_without_places}

-- ---- entries

unfoldable why_of : List Row → Key → Why
why_of rs k = if is_disputed_key rs k then whys.Disputed else whys.Lost

-- a key that is assigned a place isn't disputed
assigned_undisputed : (ms : List NormalMessage) (rs : List Row) (k : Key) (place : ℕ) → assigned ms rs k ≡ Some place → is_disputed_key rs k ≡ false
unfolding wanted
assigned_undisputed ms rs k place e =
    let a = assigned_cases ms rs k place e in
    let w = only_one ms (hashes_for rs k) a.0 a.1 in
    ap (λ (hs : List Hash). nat_lt 1 (length hs)) w.2

entry_without : (ms : List NormalMessage) (rs : List Row) (k : Key) → without_place (entry_of ms rs k) ≡ entry.Gap k.number (why_of rs k)
unfolding why_of
entry_without ms rs k = by (assigned ms rs k) refl
  where
    by : (o : Option ℕ) → assigned ms rs k ≡ o → without_place (entry_with rs k o) ≡ entry.Gap k.number (why_of rs k)
    by None e = refl
    by (Some place) e = ap (λ (b : Bool). entry.Gap k.number (if b then whys.Disputed else whys.Lost)) (sym (assigned_undisputed ms rs k place e))

hole_without : (b : Bool) (first last : ℕ) → map without_place (if b then entry.Hole first last ∷ [] else []) ≡ (if b then entry.Hole first last ∷ [] else [])
hole_without true first last = refl
hole_without false first last = refl

map-append : {X Y : Type 0} (f : X → Y) (xs ys : List X) → map f (xs ++ ys) ≡ map f xs ++ map f ys
map-append f [] ys = refl
map-append f (x ∷ xs) ys = ap (λ zs. f x ∷ zs) (map-append f xs ys)

abbrev told_without : List Row → List Key → Key → List Entry
told_without rs ks k = hole_between (greatest_below ks k.number) k.number ++ entry.Gap k.number (why_of rs k) ∷ []

entries_without : (ms : List NormalMessage) (rs : List Row) (ks : List Key) → map without_place (entries ms rs ks) ≡ flat_map (told_without rs ks) ks
unfolding entries
entries_without ms rs ks =
    map-flat_map without_place (λ k. hole_between (greatest_below ks k.number) k.number ++ entry_of ms rs k ∷ []) ks
    ∙ flat_map_agree (λ k. map without_place (hole_between (greatest_below ks k.number) k.number ++ entry_of ms rs k ∷ [])) (told_without rs ks) ks (λ k h.
    map-append without_place (hole_between (greatest_below ks k.number) k.number) (entry_of ms rs k ∷ [])
    ∙ (λ i. hole_without (nat_lt (greatest_below ks k.number + 1) k.number) (greatest_below ks k.number + 1) (k.number - 1) i ++ entry_without ms rs k i ∷ []))

-- ---- two rows that say the same of a session

module _ (ms ns : List NormalMessage) (rs qs : List Row) (s : Session) (same_keys : keys_in qs s ≡ keys_in rs s) (same : (k : Key) → Has (keys rs) k → k.session ≡ s → hashes_for qs k ≡ hashes_for rs k) where
  same_group_keys : (g : Group) → group_keys qs s g ≡ group_keys rs s g
  unfolding group_keys
  same_group_keys g = ap (filter (λ (k : Key). same_group k.group g)) same_keys

  same_why : (k : Key) → Has (keys rs) k → k.session ≡ s → why_of qs k ≡ why_of rs k
  unfolding why_of
  same_why k h own = ap (λ (hs : List Hash). if nat_lt 1 (length hs) then whys.Disputed else whys.Lost) (same k h own)

  same_group_report : (g : Group) → group_without_places (group_report ns qs s g) ≡ group_without_places (group_report ms rs s g)
  same_group_report g =
      let es : map without_place (entries ns qs (group_keys qs s g)) ≡ map without_place (entries ms rs (group_keys rs s g))
      = entries_without ns qs (group_keys qs s g)
      ∙ ap (λ ks. flat_map (told_without qs ks) ks) (same_group_keys g)
      ∙ flat_map_agree (told_without qs (group_keys rs s g)) (told_without rs (group_keys rs s g)) (group_keys rs s g) (λ k h.
      (let f = from_has-group_keys rs s g k h in
      ap (λ why. hole_between (greatest_below (group_keys rs s g) k.number) k.number ++ entry.Gap k.number why ∷ []) (same_why k f.0 f.1)))
      ∙ sym (entries_without ms rs (group_keys rs s g)) in
      λ i. record { group = g; entries = es i }

  pub same_groups : map group_without_places (map (group_report ns qs s) (groups qs s)) ≡ map group_without_places (map (group_report ms rs s) (groups rs s))
  same_groups =
      map-map group_without_places (group_report ns qs s) (groups qs s)
      ∙ ap (λ ks. map (λ g. group_without_places (group_report ns qs s g)) (in_order group_cmp (map (λ (k : Key). k.group) ks))) same_keys
      ∙ map_agree (λ g. group_without_places (group_report ns qs s g)) (λ g. group_without_places (group_report ms rs s g)) (groups rs s) (λ g h. same_group_report g)
      ∙ sym (map-map group_without_places (group_report ms rs s) (groups rs s))

-- ---- what is missing

announced_without : (e : Entry) → number_announced (without_place e) ≡ number_announced e
announced_without (entry.Listed n place) = refl
announced_without (entry.Gap n why) = refl
announced_without (entry.Hole first last) = refl

next_without : (g : GroupReport) → next_number (group_without_places g) ≡ next_number g
unfolding next_number
next_without g =
    ap next_after
    (flat_map-map number_announced without_place g.entries
    ∙ flat_map_agree (λ e. number_announced (without_place e)) number_announced g.entries (λ e h. announced_without e))

behind_without : (gs : List GroupReport) (g : Group) → number_behind (map group_without_places gs) g ≡ number_behind gs g
behind_without gs g =
    ap (λ rs. fold max 1 (map next_number rs)) (filter-map (λ (r : GroupReport). same_group r.group g) group_without_places gs)
    ∙ ap (fold max 1)
    (map-map next_number group_without_places (filter (λ (r : GroupReport). same_group r.group g) gs)
    ∙ map_agree (λ r. next_number (group_without_places r)) next_number (filter (λ (r : GroupReport). same_group r.group g) gs) (λ r h. next_without r))

tails_without : (own : List Counter) (gs : List GroupReport) → tails_in own (map group_without_places gs) ≡ tails_in own gs
unfolding tails_in
tails_without own gs =
    flat_map_agree (λ g. tail_between g (number_behind (map group_without_places gs) g) (number_in own g)) (λ g. tail_between g (number_behind gs g) (number_in own g)) (groups_in own) (λ g h.
    ap (λ n. tail_between g n (number_in own g)) (behind_without gs g))

-- groups that differ in places alone have the same tails
pub same_tails : (own : List Counter) (gs hs : List GroupReport) → map group_without_places gs ≡ map group_without_places hs → tails_in own gs ≡ tails_in own hs
same_tails own gs hs e = sym (tails_without own gs) ∙ ap (tails_in own) e ∙ tails_without own hs
