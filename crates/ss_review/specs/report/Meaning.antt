-- What a report says, by membership and order.
use Rattle.std.specs.Prelude.{◌≡◌, ◌≢◌, ◌↔◌, ◌⊎◌, ℕ, ◌+◌, ◌-◌, ◌≤◌, true, [], map, Some, None, All, Contains}
use Rattle.std.specs.List.Sorted.{IsStrictlySortedBy}
use Rattle.std.specs.Ordering.{nat_cmp}
use Rattle.ss_block.specs.declared.block.Group.{Group}
use Rattle.ss_block.specs.declared.session.Session.{Session}
use Rattle.ss_review.specs.declared.keep.message.NormalMessage.{NormalMessage}
use Rattle.ss_review.specs.keep.BlockMessage.{BlockMessage}
use Rattle.ss_review.specs.declared.report.entry.Why.{Why}
use Rattle.ss_review.specs.declared.report.entry.Why.TheVariants as whys
use Rattle.ss_review.specs.declared.report.entry.Entry.{Entry}
use Rattle.ss_review.specs.declared.report.entry.Entry.TheVariants as entry
use Rattle.ss_review.specs.declared.report.group_report.GroupReport.{GroupReport}
use Rattle.ss_review.specs.declared.report.session_report.SessionReport.{SessionReport}
use Rattle.ss_review.specs.declared.report.report.Report.{Report}
use Rattle.ss_block.specs.Order.{session_cmp, group_cmp}
use Rattle.ss_review.specs.keep.Contents.{Contents}
use Rattle.ss_review.specs.sessions.Sessions.{of_session}
use Rattle.ss_review.specs.sessions.Verified.{Answers, joined, state_in, is_verified}
use Rattle.ss_review.specs.announced.Announced.{Key, rows}
use Rattle.ss_review.specs.assign.Assigned.{assigned}
use Rattle.ss_review.specs.announced.Announcing.{IsAnnounced, IsDisputedKey}

-- ---- holes

-- a greatest run of numbers that aren't announced, below one that is
pub record IsHole (is_announced : ℕ → Type 0) (first last : ℕ) : Type 0 where
  pub some_first : 1 ≤ first
  pub some_number : first ≤ last
  pub unannounced : (n : ℕ) → first ≤ n → n ≤ last → ¬ is_announced n
  pub behind : is_announced (last + 1)
  pub before : (first ≡ 1) ⊎ is_announced (first - 1)

-- ---- what a report says about a number

-- the report has this entry in a group of a session
pub record Tells (r : Report) (s : Session) (g : Group) (e : Entry) : Type 0 where
  pub session : SessionReport
  pub session_told : Contains r.sessions session
  pub session_is : session.session ≡ s
  pub group : GroupReport
  pub group_told : Contains session.groups group
  pub group_is : group.group ≡ g
  pub entry_told : Contains group.entries e

abbrev pub IsListed : Report → Key → ℕ → Type 0
IsListed r k place = Tells r k.session k.group (entry.Listed k.number place)

abbrev pub IsGap : Report → Key → Why → Type 0
IsGap r k why = Tells r k.session k.group (entry.Gap k.number why)

-- the number is listed or a gap
abbrev pub IsTold : Report → Key → Type 0
IsTold r k = ((place : ℕ) × IsListed r k place) ⊎ ((why : Why) × IsGap r k why)

-- an entry that belongs into a group of a session
abbrev pub IsEntry : Answers → Contents → Session → Group → Entry → Type 0
IsEntry says log s g (entry.Listed n place) =
    assigned log.normal (rows says log.blocks) (record { session = s; group = g; number = n }) ≡ Some place
IsEntry says log s g (entry.Gap n why) =
    IsAnnounced says log.blocks (record { session = s; group = g; number = n })
    × (assigned log.normal (rows says log.blocks) (record { session = s; group = g; number = n }) ≡ None)
    × ((why ≡ whys.Disputed) ↔ IsDisputedKey says log.blocks (record { session = s; group = g; number = n }))
IsEntry says log s g (entry.Hole first last) =
    IsHole (λ n. IsAnnounced says log.blocks (record { session = s; group = g; number = n })) first last

-- ---- the order of a report

-- the number of an entry, the first of a hole
abbrev pub first_number : Entry → ℕ
first_number (entry.Listed n place) = n
first_number (entry.Gap n why) = n
first_number (entry.Hole first last) = first

-- sessions, the groups of each, and the entries of each group rise
pub record IsInOrder (r : Report) : Type 0 where
  pub sessions : IsStrictlySortedBy session_cmp (map (λ s. s.session) r.sessions)
  pub groups : All (λ s. IsStrictlySortedBy group_cmp (map (λ g. g.group) s.groups)) r.sessions
  pub entries : All (λ s. All (λ g. IsStrictlySortedBy nat_cmp (map first_number g.entries)) s.groups) r.sessions
  pub unlisted : IsStrictlySortedBy nat_cmp r.unlisted
  pub refused : IsStrictlySortedBy nat_cmp r.refused
  pub spoilt : IsStrictlySortedBy nat_cmp (map (λ s. s.place) r.spoilt)

-- ---- the whole report

-- a message without a block, at this place, that no key is assigned
abbrev pub IsUnlisted : Answers → Contents → ℕ → Type 0
IsUnlisted says log place =
    ((m : NormalMessage) × Contains log.normal m × (m.place ≡ place))
    × ((k : Key) → assigned log.normal (rows says log.blocks) k ≢ Some place)

-- a block, at this place, that isn't verified
abbrev pub IsRefused : Answers → Contents → ℕ → Type 0
IsRefused says log place =
    (b : BlockMessage) × Contains log.blocks b × (b.place ≡ place) × (is_verified says log.blocks b ≢ true)

-- the report says what there is, each once and in order, and nothing else
pub record IsReport (says : Answers) (log : Contents) (r : Report) : Type 0 where
  pub in_order : IsInOrder r
  pub sessions : (s : Session)
      → ((t : SessionReport) × Contains r.sessions t × (t.session ≡ s)) ↔ ((b : BlockMessage) × Contains log.blocks b
      × (b.session ≡ s))
  pub states : All (λ t. t.state ≡ state_in (joined says (of_session log.blocks t.session))) r.sessions
  pub no_empty_group : All (λ t. All (λ g. g.entries ≢ []) t.groups) r.sessions
  pub entries : (s : Session) (g : Group) (e : Entry) → Tells r s g e ↔ IsEntry says log s g e
  pub unlisted : (place : ℕ) → Contains r.unlisted place ↔ IsUnlisted says log place
  pub refused : (place : ℕ) → Contains r.refused place ↔ IsRefused says log place
  pub spoilt : r.spoilt ≡ log.spoilt
  pub count : r.count ≡ log.count
