-- The counters with which the newest originator ended go past each number that one of them gave.
use Rattle.std.proofs.Common.{◌≡◌, ℕ, ◌<◌, ◌≤◌, Bool, true, List, [], ◌∷◌, ◌++◌, map, refl, sym, ap, ◌∙◌, subst, arith}
use Rattle.std.specs.Prelude.{if◌then◌else◌}
use Rattle.std.specs.Ordering.{is_eq}
use Rattle.std.proofs.lemmas.Cmp.{tied_itself}
use Rattle.ss_message.specs.Laws.{FaultsAreOfNoMessage}
use Rattle.ss_block.specs.OrderLaws.{session_cmp_total, group_cmp_total}
use Rattle.ss_origin.specs.declared.counters.Counters.{Counters}
use Rattle.ss_origin.specs.Counting as counting
use Rattle.ss_origin.specs.Counting.{Start}
use Rattle.ss_origin.specs.Groups.{group_of}
use Rattle.ss_origin.specs.Calls.{spri_in}
use Rattle.ss_origin.specs.Setting.{Setting}
use Rattle.ss_origin.specs.Chain.{calls_of}
use Rattle.ss_origin.specs.Ahead.{Life, ended_with, BeginsBehind, GoOnAhead}
use Rattle.ss_origin.specs.AheadLaws.{IsGiven, number_given, CountersGoPast}
use Rattle.ss_review.specs.declared.counted.counter.Counter.{Counter}
use Rattle.ss_review.specs.counted.Kept.{counters_of, kept_number, number_said, number_in}
use Rattle.ss_review.specs.counted.KeptLaws.{number_kept}
use Rattle.ss_review.specs.deliveries.Delivery.{own_session}
use Rattle.ss_review.specs.deliveries.DeliveryLaws.{Case}
use Rattle.ss_review.specs.deliveries.Delivered.{own_number}
use Rattle.ss_review.specs.report.Entries.{same_group}
use Rattle.ss_review.specs.sessions.Sessions.{same_session}
use Rattle.ss_octets.proofs.Members.{Has, has_from_contains, contains_from_has, has-map, has-filter}
use Rattle.ss_origin.proofs.Configs.{has_ranges}
use Rattle.ss_origin.proofs.Groups.{spris_are_small}
use Rattle.ss_origin.proofs.Numbering.{counters_tell}
use Rattle.ss_review.proofs.of_reports.EntriesRise.{fold_max-member}
use Rattle.ss_laws.specs.ahead.Reported.{AreAhead, HaveNumbers, AreNewest, LostAreReported, LostAreReportedByTheNewestCounters}
use Rattle.ss_laws.proofs.of_ahead.EndedNumbers.{named}

-- ---- numbers begin with 1

behind_of : (s : Setting) (newer older : List Life) (l : Life) → GoOnAhead s (newer ++ l ∷ older) → GoOnAhead s (l ∷ older)
behind_of s [] older l are = are
behind_of s (o ∷ newer) older l are = behind_of s newer older l are.0

pub begins_from_one : (s : Setting) (start : Start) (older : List Life) (spri : ℕ) → spri < 192 → GoOnAhead s older → BeginsBehind s.config older start → 1 ≤ counting.number_in start.counters.groups spri
begins_from_one s start [] spri small are b = subst (λ (q : Start). 1 ≤ counting.number_in q.counters.groups spri) (sym b) (omega arith)
begins_from_one s start (l ∷ before) spri small are b =
    let some = begins_from_one s l.start before spri small are.0 are.1 in
    let told = counters_tell s.config l.start (calls_of l.turns) spri small in
    let more = b.2.numbers spri small in
    subst (λ (q : Start). 1 ≤ counting.number_in q.counters.groups spri) (sym b.1) (omega (arith, some, told, more))

-- ---- the counters of a review

-- so the counters of a review go as far
kept_as_far : (x : Case) (k : Counters) (cs : List Counter) (spri : ℕ) → HaveNumbers x k cs → 1 < counting.number_in k.groups spri
    → counting.number_in k.groups spri ≤ kept_number cs (own_session x.s) (group_of x.s.config.grouping spri)
unfolding number_in
kept_as_far x k cs spri have more =
    let w = named k.groups spri more in
    let g = group_of x.s.config.grouping spri in
    let own = own_session x.s in
    let c : Counter = number_kept x w.0 in
    let said : Counter → ℕ = λ d. number_said g d.counts d.next in
    let of_session : same_session c.session own ≡ true = ap is_eq (tied_itself session_cmp_total own) in
    let there : Has cs c = has_from_contains cs c (have w.0 (contains_from_has k.groups w.0 w.1)) in
    let h : Has (counters_of cs own) c = has-filter (λ (d : Counter). same_session d.session own) cs c there of_session in
    let of_group : same_group (group_of x.s.config.grouping w.0.spri) g ≡ true = ap (λ n. same_group (group_of x.s.config.grouping n) g) w.2 ∙ ap is_eq (tied_itself group_cmp_total g) in
    let says_it : said c ≡ w.0.number = ap (λ (b : Bool). if b then w.0.number else 0) of_group in
    let most : said c ≤ kept_number cs own g = fold_max-member 0 (map said (counters_of cs own)) (said c) (has-map said (counters_of cs own) c h) in
    omega (arith, most, says_it, w.3)

-- ---- the law

pub below_newest : FaultsAreOfNoMessage → CountersGoPast → (x : Case) (newest : Life) (older : List Life) → AreAhead x (newest ∷ older)
    → (cs : List Counter) → AreNewest x newest cs → (m : List ℕ) (g : IsGiven (newest ∷ older) m)
    → (1 ≤ number_given x.s.config g) × (number_given x.s.config g < kept_number cs (own_session x.s) (group_of x.s.config.grouping (spri_in x.s.config.grouping m)))
below_newest read past x newest older is cs newer m g =
    let c = x.s.config in
    let spri = spri_in c.grouping m in
    let small : spri < 192 = spris_are_small read c.grouping m (has_ranges c is.chain.setting.fit.config).grouping in
    let own : GoOnAhead x.s (g.life ∷ g.older) = behind_of x.s g.newer g.older g.life (subst (GoOnAhead x.s) g.lives_are is.chain.chained) in
    let first = begins_from_one x.s g.life.start g.older spri small own.0 own.1 in
    let some : 1 ≤ number_given c g = omega (arith, first) in
    let below : number_given c g < counting.number_in (ended_with c newest).groups spri = past x.s newest older is.chain m g in
    let least = newer.least.numbers spri small in
    let far = kept_as_far x newer.counters cs spri newer.numbers (omega (arith, some, below, least)) in
    (some, omega (arith, below, least, far))

pub lost_by_newest : FaultsAreOfNoMessage → CountersGoPast → LostAreReported → LostAreReportedByTheNewestCounters
lost_by_newest read past told x newest older is delivers cs newer m g lost =
    let own = own_number x (spri_in x.s.config.grouping m) (number_given x.s.config g) in
    let b = below_newest read past x newest older is cs newer m g in
    told x (newest ∷ older) is delivers own m refl (record { given = g; number = refl; group = refl }) lost cs b.0 b.1
