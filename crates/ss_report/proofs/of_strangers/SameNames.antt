-- The sessions with some names among those of a report, which rise.
use Rattle.std.proofs.Common.{◌≡◌, ℕ, zero, suc, ◌+◌, ◌<◌, ◌≤◌, ◌||◌, Bool, true, false, List, [], ◌∷◌, length, get_or, take, drop, map, filter, refl, sym, ap, ◌∙◌, length-drop, arith}
use Rattle.std.specs.declared.cmp.Ordering.{Ordering}
use Rattle.std.specs.declared.cmp.Ordering.TheVariants.{Less, Equal, Greater}
use Rattle.std.specs.Ordering.{is_eq, is_gt, is_lt, ordering_then}
use Rattle.std.specs.Cmp.{Equal-is, IsTotalOrder, then_total, on_total}
use Rattle.std.specs.List.{list_any}
use Rattle.std.specs.List.Sorted.{IsStrictlySortedBy, IsPartitionedBy, IsPartitionPoint}
use Rattle.std.proofs.lemmas.Cmp.{tied_itself}
use Rattle.std.proofs.lemmas.List.{get_or-drop, get_or_default}
use Rattle.ss_octets.proofs.Members.{Has, has_from_contains, has-map, all-has}
use Rattle.ss_block.specs.declared.session.Session.{Session}
use Rattle.ss_block.specs.Order.{field_cmp, session_cmp}
use Rattle.ss_block.specs.OrderLaws.{field_cmp_total, field_cmp_exact, session_cmp_total, session_cmp_exact}
use Rattle.ss_review.specs.declared.report.report.Report.{Report}
use Rattle.ss_review.specs.declared.report.session_report.SessionReport.{SessionReport}
use Rattle.ss_review.specs.report.Meaning.{IsInOrder}
use Rattle.ss_review.specs.report.Verdict.{is_joined}
use Rattle.ss_review.proofs.of_lists.Lookups.{found_alone}
use Rattle.ss_review.proofs.of_lists.TotalOrders.{both_tie, less_is}
use Rattle.ss_review.proofs.of_numbers.SessionRange.{apart, eq_of, filter_before, filter_within}
use Rattle.ss_report.specs.runs.Carrying.{is_joined_in}
use Rattle.ss_report.specs.strangers.Strangers.{names_cmp, same_names}

-- ---- the order of names

pub names_cmp_total : IsTotalOrder names_cmp
names_cmp_total =
    then_total (on_total (λ (s : Session). s.host) field_cmp_total)
    (then_total (on_total (λ (s : Session). s.app) field_cmp_total) (on_total (λ (s : Session). s.procid) field_cmp_total))

-- sessions whose names tie have the same
abbrev pub Agree : Session → Session → Type 0
Agree a b = (a.host ≡ b.host) × (a.app ≡ b.app) × (a.procid ≡ b.procid)

pub tied_agree : (a b : Session) → names_cmp a b ≡ Equal → Agree a b
tied_agree a b e =
    let host = both_tie (field_cmp a.host b.host) _ e in
    let app = both_tie (field_cmp a.app b.app) _ host.1 in
    (field_cmp_exact a.host b.host host.0, field_cmp_exact a.app b.app app.0, field_cmp_exact a.procid b.procid app.1)

pub agree_right : (a b x : Session) → Agree a b → names_cmp x a ≡ names_cmp x b
agree_right a b x p = λ i. ordering_then (field_cmp x.host (p.0 i)) (ordering_then (field_cmp x.app (p.1 i)) (field_cmp x.procid (p.2 i)))

pub agree_left : (a b x : Session) → Agree a b → names_cmp a x ≡ names_cmp b x
agree_left a b x p = λ i. ordering_then (field_cmp (p.0 i) x.host) (ordering_then (field_cmp (p.1 i) x.app) (field_cmp (p.2 i) x.procid))

pub same_agree : (a b : Session) → same_names a b ≡ true → Agree a b
same_agree a b is = tied_agree a b ((Equal-is (names_cmp a b)).0 is)

-- what isn't above another session stands before what that one stands before
lt_of : (c : Ordering) (a b s : Session) → names_cmp a b ≡ c → is_gt c ≡ false → names_cmp b s ≡ Less → names_cmp a s ≡ Less
lt_of Less a b s e g l = names_cmp_total.trans a b s e l
lt_of Equal a b s e g l = agree_left a b s (tied_agree a b e) ∙ l
lt_of Greater a b s e g l = absurd cc

-- sessions that rise have names that don't fall
by_parts : (h p q r : Ordering) → ordering_then h (ordering_then p (ordering_then q r)) ≡ Less → is_gt (ordering_then h (ordering_then p q)) ≡ false
by_parts Less p q r e = refl
by_parts Equal Less q r e = refl
by_parts Equal Equal Less r e = refl
by_parts Equal Equal Equal r e = refl
by_parts Equal Equal Greater r e = absurd cc
by_parts Equal Greater q r e = absurd cc
by_parts Greater p q r e = absurd cc

-- ---- sessions of a report

abbrev pub session_of : SessionReport → Session
session_of t = t.session

abbrev pub Rise : List SessionReport → Type 0
Rise ts = IsStrictlySortedBy session_cmp (map (λ t. t.session) ts)

rise_at : (ts : List SessionReport) → Rise ts → (i j : ℕ) (d : SessionReport) → i ≤ j → j < length ts → is_gt (names_cmp (session_of (get_or ts i d)) (session_of (get_or ts j d))) ≡ false
unfolding IsStrictlySortedBy
rise_at [] up i j d le below = absurd (omega arith)
rise_at (t ∷ ts) up zero zero d le below = ap is_gt (tied_itself names_cmp_total (session_of t))
rise_at (t ∷ ts) up zero (suc j) d le below =
    let a = session_of t in
    let m = get_or ts j d in
    let b = session_of m in
    let h : Has ts m = has_from_contains ts m (j, omega arith, get_or_default ts j m d (omega arith)) in
    by_parts (field_cmp a.host b.host) (field_cmp a.app b.app) (field_cmp a.procid b.procid) _
    (all-has (λ k. session_cmp a k ≡ Less) (map session_of ts) b up.0 (has-map session_of ts m h))
rise_at (t ∷ ts) up (suc i) zero d le below = absurd (omega arith)
rise_at (t ∷ ts) up (suc i) (suc j) d le below = rise_at ts up.1 i j d (omega arith) (omega arith)

abbrev pub before : Session → SessionReport → Bool
before s t = is_lt (names_cmp t.session s)

abbrev pub within : Session → SessionReport → Bool
within s t = same_names t.session s

-- a test parts a list there
abbrev pub Parts : (SessionReport → Bool) → List SessionReport → ℕ → Type 0
Parts p ts i = IsPartitionPoint (λ t. p t ≡ true) (λ t. p t ≡ false) ts i

module _ (s : Session) (ts : List SessionReport) (up : Rise ts) where
  pub before_parted : IsPartitionedBy (before s) ts
  before_parted i j d le below e =
      let x = session_of (get_or ts i d) in
      let y = session_of (get_or ts j d) in
      ap is_lt (lt_of (names_cmp x y) x y s refl (rise_at ts up i j d le below) (less_is (names_cmp y s) e))

  pub within_parted : (start : ℕ) → Parts (before s) ts start → IsPartitionedBy (within s) (drop start ts)
  within_parted start point i j d le below e =
      let x = session_of (get_or ts (start + i) d) in
      let y = session_of (get_or ts (start + j) d) in
      let inside : start + j < length ts = omega (arith, length-drop start ts) in
      let here : same_names y s ≡ true = ap (within s) (sym (get_or-drop start ts j d)) ∙ e in
      let most : is_gt (names_cmp x s) ≡ false
      = ap is_gt (sym (agree_right y s x (same_agree y s here))) ∙ rise_at ts up (start + i) (start + j) d (omega arith) (omega arith) in
      ap (within s) (get_or-drop start ts i d) ∙ eq_of (names_cmp x s) (point.1 (start + i) d (omega arith) (omega arith)) most

  pub range_is : (rest : List SessionReport) (start count : ℕ) → rest ≡ drop start ts
      → Parts (before s) ts start
      → Parts (within s) rest count
      → take count rest ≡ filter (within s) ts
  range_is rest start count e first second =
      sym (filter_before (within s) ts start (λ k d low high. apart (names_cmp (session_of (get_or ts k d)) s) (first.0 k d low high))
      ∙ ap (filter (within s)) (sym e)
      ∙ filter_within (within s) rest count second)

-- ---- whether a session is joined

pub or_false : (b : Bool) → (b || false) ≡ b
or_false true = refl
or_false false = refl

pub joined_alone : (r : Report) (s : Session) → IsInOrder r → (i : ℕ) (d : SessionReport) → i < length r.sessions → session_cmp (get_or r.sessions i d).session s ≡ Equal
    → is_joined_in r s ≡ is_joined (get_or r.sessions i d).state
joined_alone r s up i d below tie =
    ap (list_any (λ (t : SessionReport). is_joined t.state)) (found_alone session_cmp_total session_cmp_exact (λ (t : SessionReport). t.session) s r.sessions i d up.sessions below tie)
    ∙ or_false (is_joined (get_or r.sessions i d).state)
