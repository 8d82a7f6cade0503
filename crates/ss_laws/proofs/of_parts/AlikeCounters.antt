-- Counters with the same members say the same: up to them, the same is missing.
use Rattle.std.proofs.Common.{◌≡◌, inl, inr, ℕ, ◌≤◌, List, [], map, fold, subst, arith}
use Rattle.std.specs.Prelude.{max}
use Rattle.std.specs.List.{flat_map, zip}
use Rattle.ss_block.specs.declared.block.Group.{Group}
use Rattle.ss_block.specs.declared.session.Session.{Session}
use Rattle.ss_block.specs.OrderLaws.{group_cmp_total, group_cmp_exact, session_cmp_total, session_cmp_exact}
use Rattle.ss_review.specs.declared.counted.counted_session.CountedSession.{CountedSession}
use Rattle.ss_review.specs.declared.counted.counter.Counter.{Counter}
use Rattle.ss_review.specs.declared.report.group_report.GroupReport.{GroupReport}
use Rattle.ss_review.specs.declared.report.session_report.SessionReport.{SessionReport}
use Rattle.ss_review.specs.sessions.Sessions.{same_session}
use Rattle.ss_review.specs.counted.Counted.{next_after, missing}
use Rattle.ss_review.specs.counted.Kept.{counters_of, blocks_said, number_said, group_said, gbc_in, number_in, groups_in, kept_sessions, number_behind, tail_between, tails_in, shortfall_in, shortfall, absent_among, log_shortfalls}
use Rattle.ss_octets.proofs.Members.{Has, has-map, from_has-map, has-filter, from_has-filter, has-flat_map, from_has-flat_map}
use Rattle.ss_review.proofs.of_counters.Shortfalls.{is_same}
use Rattle.ss_review.proofs.of_lists.Rising.{in_order_same}
use Rattle.ss_review.proofs.of_reports.EntriesMeant.{greatest_of}
use Rattle.ss_review.proofs.of_reports.EntriesRise.{fold_max-member}

-- ---- the greatest of what members say

greatest_within : {X : Type 0} (f : X → ℕ) (xs ys : List X) → ((x : X) → Has xs x → Has ys x) → fold max 0 (map f xs) ≤ fold max 0 (map f ys)
greatest_within {X} f xs ys in_it =
    elim (greatest_of 0 (map f xs)) [
      | inl none ↦ omega (arith, none)
      | inr h ↦ (
          let w : (x : X) × Has xs x × (f x ≡ fold max 0 (map f xs)) = from_has-map f xs (fold max 0 (map f xs)) h in
          let most = fold_max-member 0 (map f ys) (f w.0) (has-map f ys w.0 (in_it w.0 w.1)) in
          omega (arith, most, w.2))
    ]

same_greatest : {X : Type 0} (f : X → ℕ) (xs ys : List X) → ((x : X) → Has xs x → Has ys x) → ((x : X) → Has ys x → Has xs x) → fold max 0 (map f xs) ≡ fold max 0 (map f ys)
same_greatest f xs ys there back =
    let up = greatest_within f xs ys there in
    let down = greatest_within f ys xs back in
    omega (arith, up, down)

-- ---- the counters of one session

module _ (own other : List Counter) (there : (c : Counter) → Has own c → Has other c) (back : (c : Counter) → Has other c → Has own c) where
  same_gbc : gbc_in own ≡ gbc_in other
  unfolding gbc_in
  same_gbc = same_greatest (λ (c : Counter). blocks_said c.counts c.next) own other there back

  same_number : (g : Group) → number_in own g ≡ number_in other g
  unfolding number_in
  same_number g = same_greatest (λ (c : Counter). number_said g c.counts c.next) own other there back

  groups_within : (cs ds : List Counter) → ((c : Counter) → Has cs c → Has ds c) → (g : Group) → Has (flat_map (λ (c : Counter). group_said c.counts) cs) g → Has (flat_map (λ (c : Counter). group_said c.counts) ds) g
  groups_within cs ds in_it g h =
      let w = from_has-flat_map (λ (c : Counter). group_said c.counts) cs g h in
      has-flat_map (λ (c : Counter). group_said c.counts) ds w.0 g (in_it w.0 w.1) w.2

  same_groups : groups_in own ≡ groups_in other
  unfolding groups_in
  same_groups =
      in_order_same group_cmp_total group_cmp_exact (flat_map (λ (c : Counter). group_said c.counts) own) (flat_map (λ (c : Counter). group_said c.counts) other)
      (groups_within own other there) (groups_within other own back)

  same_tails : (gs : List GroupReport) → tails_in own gs ≡ tails_in other gs
  unfolding tails_in
  same_tails gs = λ i. flat_map (λ g. tail_between g (number_behind gs g) (same_number g i)) (same_groups i)

  pub same_shortfall : (s : Session) (gs : List GroupReport) (gbcs : List ℕ) → shortfall_in own s gs gbcs ≡ shortfall_in other s gs gbcs
  same_shortfall s gs gbcs = λ i. record {
    session = s;
    tails = same_tails gs i;
    blocks = missing gbcs (max (next_after gbcs) (same_gbc i));
  }

-- of a session, one list has the counters that another has
abbrev pub AreWithin : List Counter → List Counter → Session → Type 0
AreWithin cs ds s = (c : Counter) → Has cs c → c.session ≡ s → Has ds c

own_within : (cs ds : List Counter) (s : Session) → AreWithin cs ds s → (c : Counter) → Has (counters_of cs s) c → Has (counters_of ds s) c
own_within cs ds s in_it c h =
    let f = from_has-filter (λ (d : Counter). same_session d.session s) cs c h in
    has-filter (λ (d : Counter). same_session d.session s) ds c (in_it c f.0 (is_same c.session s f.1)) f.1

pub alike_of : (cs ds : List Counter) (s : Session) → AreWithin cs ds s → AreWithin ds cs s → (gs : List GroupReport) (gbcs : List ℕ) → shortfall cs s gs gbcs ≡ shortfall ds s gs gbcs
alike_of cs ds s there back gs gbcs =
    same_shortfall (counters_of cs s) (counters_of ds s) (own_within cs ds s there) (own_within ds cs s back) s gs gbcs

-- ---- all counters

module _ (cs ds : List Counter) (there : (c : Counter) → Has cs c → Has ds c) (back : (c : Counter) → Has ds c → Has cs c) where
  each_alike : (s : Session) (gs : List GroupReport) (gbcs : List ℕ) → shortfall cs s gs gbcs ≡ shortfall ds s gs gbcs
  each_alike s = alike_of cs ds s (λ c h e. there c h) (λ c h e. back c h)

  sessions_within : (xs ys : List Counter) → ((c : Counter) → Has xs c → Has ys c) → (s : Session) → Has (map (λ (c : Counter). c.session) xs) s → Has (map (λ (c : Counter). c.session) ys) s
  sessions_within xs ys in_it s h =
      let w = from_has-map (λ (c : Counter). c.session) xs s h in
      subst (Has (map (λ (c : Counter). c.session) ys)) w.2 (has-map (λ (c : Counter). c.session) ys w.0 (in_it w.0 w.1))

  same_sessions : kept_sessions cs ≡ kept_sessions ds
  unfolding kept_sessions
  same_sessions =
      in_order_same session_cmp_total session_cmp_exact (map (λ (c : Counter). c.session) cs) (map (λ (c : Counter). c.session) ds)
      (sessions_within cs ds there) (sessions_within ds cs back)

  pub all_alike : (reported : List SessionReport) (counted : List CountedSession) → log_shortfalls cs reported counted ≡ log_shortfalls ds reported counted
  unfolding log_shortfalls
  all_alike reported counted = λ i. record {
    known = map (λ (p : SessionReport × CountedSession). each_alike p.0.session p.0.groups p.1.gbcs i) (zip reported counted);
    absent = map (λ s. each_alike s [] [] i) (absent_among (same_sessions i) (map (λ (r : SessionReport). r.session) reported));
  }
