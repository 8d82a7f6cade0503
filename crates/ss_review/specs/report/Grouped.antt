-- Announced numbers with their entries, by group.
use Rattle.std.specs.Prelude.{◌≡◌, ℕ, false, List, [], ◌∷◌, ◌++◌, map, filter, Option, Some, None, Result, Ok, Err}
use Rattle.std.specs.Ordering.{is_gt}
use Rattle.std.specs.List.{zip, AllByRecursion}
use Rattle.std.specs.List.Sorted.{IsStrictlySortedBy}
use Rattle.ss_block.specs.declared.block.Group.{Group}
use Rattle.ss_block.specs.declared.hash.Hash.{Hash}
use Rattle.ss_block.specs.declared.session.Session.{Session}
use Rattle.ss_block.specs.Order.{group_cmp}
use Rattle.ss_review.specs.declared.report.entry.Why.{Why}
use Rattle.ss_review.specs.declared.report.entry.Why.TheVariants as whys
use Rattle.ss_review.specs.declared.report.entry.Entry.{Entry}
use Rattle.ss_review.specs.declared.report.entry.Entry.TheVariants as entry
use Rattle.ss_review.specs.declared.report.group_report.GroupReport.{GroupReport}
use Rattle.ss_review.specs.declared.report.session_report.SessionReport.{SessionReport}
use Rattle.ss_review.specs.declared.report.session_report.SessionState.{SessionState}
use Rattle.ss_review.specs.declared.keep.message.NormalMessage.{NormalMessage}
use Rattle.ss_review.specs.declared.announced.message_number.MessageNumber.{MessageNumber}
use Rattle.ss_review.specs.declared.report.number_entry.NumberEntry.{NumberEntry}
use Rattle.ss_review.specs.Ordered.{in_order}
use Rattle.ss_review.specs.sessions.Sessions.{same_session}
use Rattle.ss_review.specs.sessions.Verified.{state_in}
use Rattle.ss_review.specs.announced.Announced.{Key, Row, key_cmp}
use Rattle.ss_review.specs.report.Entries.{same_group, entry_of, hole_between}
use Rattle.ss_review.specs.report.Report.{groups, group_report}
use Rattle.ss_review.specs.announced.Numbered.{key_of}

-- the place of a number that is announced with this hash, or with several, and that is assigned this place, or none; or
-- why it has no place
abbrev pub found_for : Option Hash → Option ℕ → Result ℕ Why
found_for hash (Some place) = Ok place
found_for (Some h) None = Err whys.Lost
found_for None None = Err whys.Disputed

abbrev pub found_with : Option Hash × Option ℕ → Result ℕ Why
found_with p = found_for p.0 p.1

-- the entry of a number, by its place or by why it has none
abbrev pub entry_by : ℕ → Result ℕ Why → Entry
entry_by n (Ok place) = entry.Listed n place
entry_by n (Err why) = entry.Gap n why

abbrev pub numbered_by : MessageNumber × Result ℕ Why → NumberEntry
numbered_by n = record { number = n.0; entry = entry_by n.0.number n.1 }

-- numbers with their entries
abbrev pub numbered : List MessageNumber → List (Result ℕ Why) → List NumberEntry
numbered ns found = map numbered_by (zip ns found)

abbrev pub with_entry : NumberEntry → Key × Entry
with_entry n = (key_of n.number, n.entry)

-- keys with what a report says about them
abbrev pub with_entries : List NormalMessage → List Row → List Key → List (Key × Entry)
with_entries ms rs ks = map (λ k. (k, entry_of ms rs k)) ks

-- the entries of keys, each after the hole between the number before it and its own
abbrev pub entries_after : ℕ → List (Key × Entry) → List Entry
entries_after last [] = []
entries_after last (k ∷ ks) = hole_between last k.0.number ++ k.1 ∷ entries_after k.0.number ks

-- numbers stand by session, group and number
abbrev pub Rise : List NumberEntry → Type 0
Rise ns = IsStrictlySortedBy key_cmp (map (λ n. key_of n.number) ns)

-- no number's group is above a later one's
abbrev pub GroupsRise : List NumberEntry → Type 0
GroupsRise [] = Unit {0}
GroupsRise (n ∷ ns) = AllByRecursion (λ m. is_gt (group_cmp n.number.group m.number.group) ≡ false) ns × GroupsRise ns

abbrev pub numbers_of_session : Session → List NumberEntry → List NumberEntry
numbers_of_session s ns = filter (λ n. same_session n.number.session.now s) ns

abbrev pub numbers_of_group : Group → List NumberEntry → List NumberEntry
numbers_of_group g ns = filter (λ n. same_group n.number.group g) ns

abbrev pub group_told : Group → List NumberEntry → GroupReport
group_told g ns = record { group = g; entries = entries_after 0 (map with_entry ns) }

-- the groups of numbers of one session
abbrev pub groups_told : List NumberEntry → List GroupReport
groups_told ns = map (λ g. group_told g (numbers_of_group g ns)) (in_order group_cmp (map (λ n. n.number.group) ns))

abbrev pub session_told : List NormalMessage → List Row → Session × Result (List ℕ) SessionState → SessionReport
session_told ms rs s =
    record { session = s.0; state = state_in s.1; groups = map (group_report ms rs s.0) (groups rs s.0) }
