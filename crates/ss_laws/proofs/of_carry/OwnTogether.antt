-- The report of a whole log, put together from those of its nights, each by a scheme of its own.
use Rattle.std.proofs.Common.{◌≡◌, ◌⊎◌, inl, inr, ℕ, ◌+◌, ◌-◌, ◌<◌, ◌≤◌, false, sym, ap, ◌∙◌, subst, arith}
use Rattle.std.specs.Prelude.{◌↔◌, Contains}
use Rattle.ss_block.specs.declared.block.Group.{Group}
use Rattle.ss_block.specs.declared.hash.HashPair.{HashPair}
use Rattle.ss_block.specs.declared.session.Session.{Session}
use Rattle.ss_review.specs.declared.report.entry.Why.{Why}
use Rattle.ss_review.specs.declared.report.entry.Entry.TheVariants as entry
use Rattle.ss_review.specs.declared.report.report.Report.{Report}
use Rattle.ss_review.specs.sessions.Verified.{Answers}
use Rattle.ss_review.specs.announced.Announced.{Key}
use Rattle.ss_review.specs.report.Meaning.{IsHole, Tells, IsGap, IsTold}
use Rattle.ss_review.specs.report.Report.{report_of}
use Rattle.ss_laws.specs.carry.Nights.{Nights, IsSettledBefore}
use Rattle.ss_laws.specs.carry.Reports.{night_report, states_told, ListsWith, unlisted_in, IsPutTogether}
use Rattle.ss_laws.specs.carry.Together.{IsSettledWith}
use Rattle.ss_laws.specs.carry.OwnAnswers.{AreAlike, own_report, IsSettledByOwn, IsSettledByOwnWith, IsPutTogetherByOwn}

-- a hole of numbers, by what is the same
hole_alike : (P Q : ℕ → Type 0) → ((n : ℕ) → P n → Q n) → ((n : ℕ) → Q n → P n) → (from to : ℕ) → IsHole P from to → IsHole Q from to
hole_alike P Q there back from to h = record {
  some_first = h.some_first;
  some_number = h.some_number;
  unannounced = λ n low high q. h.unannounced n low high (back n q);
  behind = there (to + 1) h.behind;
  before = elim h.before [ inl first ↦ inl first | inr p ↦ inr (there (from - 1) p) ];
}

module _ (says : Answers) (own : ℕ → Answers) (x : Nights) (last : ℕ) (alike : (night : ℕ) → night ≤ last → AreAlike says (own night) x night) where
  same_report : (night : ℕ) → night ≤ last → own_report own x night ≡ night_report says x night
  same_report night low = (alike night low).report

  last_report : night_report says x last ≡ own_report own x last
  last_report = sym (same_report last (omega arith))

  settled_there : (k : Key) → IsSettledBefore says x last k → IsSettledByOwn own x last k
  settled_there k s = (s.0, s.1, s.2, ((alike s.0 (omega (arith, s.2))).settled k s.1).1 s.3)

  settled_back : (k : Key) → IsSettledByOwn own x last k → IsSettledBefore says x last k
  settled_back k s = (s.0, s.1, s.2, ((alike s.0 (omega (arith, s.2))).settled k s.1).0 s.3)

  with_there : (k : Key) (p : HashPair) → IsSettledWith says x last k p → IsSettledByOwnWith own x last k p
  with_there k p s = (s.0, s.1, s.2, ((alike s.0 (omega (arith, s.2))).settled k s.1).1 s.3, s.4)

  with_back : (k : Key) (p : HashPair) → IsSettledByOwnWith own x last k p → IsSettledWith says x last k p
  with_back k p s = (s.0, s.1, s.2, ((alike s.0 (omega (arith, s.2))).settled k s.1).0 s.3, s.4)

  module _ (s : Session) (g : Group) where
    abbrev key : ℕ → Key
    key n = record { session = s; group = g; number = n }

    abbrev HasNumber : ℕ → Type 0
    HasNumber n = IsTold (night_report says x last) (key n) ⊎ IsSettledBefore says x last (key n)

    abbrev HasOwnNumber : ℕ → Type 0
    HasOwnNumber n = IsTold (own_report own x last) (key n) ⊎ IsSettledByOwn own x last (key n)

    number_there : (n : ℕ) → HasNumber n → HasOwnNumber n
    number_there n (inl t) = inl (subst (λ r. IsTold r (key n)) last_report t)
    number_there n (inr t) = inr (settled_there (key n) t)

    number_back : (n : ℕ) → HasOwnNumber n → HasNumber n
    number_back n (inl t) = inl (subst (λ r. IsTold r (key n)) (sym last_report) t)
    number_back n (inr t) = inr (settled_back (key n) t)

  module _ (r : Report) (p : IsPutTogether says x last r) where
    own_listed : (k : Key) (q : HashPair) → ListsWith x.whole r k q ↔ (ListsWith x.whole (own_report own x last) k q ⊎ IsSettledByOwnWith own x last k q)
    own_listed k q = (there, back)
      where
        there : ListsWith x.whole r k q → ListsWith x.whole (own_report own x last) k q ⊎ IsSettledByOwnWith own x last k q
        there l =
            elim ((p.listed k q).0 l) [
              | inl n ↦ inl (subst (λ t. ListsWith x.whole t k q) last_report n)
              | inr s ↦ inr (with_there k q s)
            ]

        back : ListsWith x.whole (own_report own x last) k q ⊎ IsSettledByOwnWith own x last k q → ListsWith x.whole r k q
        back (inl n) = (p.listed k q).1 (inl (subst (λ t. ListsWith x.whole t k q) (sym last_report) n))
        back (inr s) = (p.listed k q).1 (inr (with_back k q s))

    own_gaps : (k : Key) (why : Why) → IsGap r k why ↔ (IsGap (own_report own x last) k why × (¬ IsSettledByOwn own x last k))
    own_gaps k why = (
      λ g. (let w = (p.gaps k why).0 g in (subst (λ t. IsGap t k why) last_report w.0, λ s. w.1 (settled_back k s))),
      λ w. (p.gaps k why).1 (subst (λ t. IsGap t k why) (sym last_report) w.0, λ s. w.1 (settled_there k s)),
    )

    own_holes : (s : Session) (g : Group) (from to : ℕ) → Tells r s g (entry.Hole from to) ↔ IsHole (HasOwnNumber s g) from to
    own_holes s g from to = (
      λ t. hole_alike (HasNumber s g) (HasOwnNumber s g) (number_there s g) (number_back s g) from to ((p.holes s g from to).0 t),
      λ h. (p.holes s g from to).1 (hole_alike (HasOwnNumber s g) (HasNumber s g) (number_back s g) (number_there s g) from to h),
    )

    abbrev IsRefusedByOwn : ℕ → Type 0
    IsRefusedByOwn place =
        Contains (own_report own x last).refused place
        ⊎ ((night : ℕ) × (night < last) × Contains (own_report own x night).refused place × (x.left night place ≡ false))

    own_refused : (place : ℕ) → Contains r.refused place ↔ IsRefusedByOwn place
    own_refused place = (there, back)
      where
        there : Contains r.refused place → IsRefusedByOwn place
        there h =
            elim ((p.refused place).0 h) [
              | inl n ↦ inl (subst (λ (t : Report). Contains t.refused place) last_report n)
              | inr w ↦ inr (w.0, w.1, subst (λ (t : Report). Contains t.refused place) (sym (same_report w.0 (omega (arith, w.1)))) w.2, w.3)
            ]

        back : IsRefusedByOwn place → Contains r.refused place
        back (inl n) = (p.refused place).1 (inl (subst (λ (t : Report). Contains t.refused place) (sym last_report) n))
        back (inr w) = (p.refused place).1 (inr (w.0, w.1, subst (λ (t : Report). Contains t.refused place) (same_report w.0 (omega (arith, w.1))) w.2, w.3))

    -- what a scheme doesn't change
    pub put_together_by_own : IsPutTogetherByOwn own x last r
    unfolding report_of
    put_together_by_own = record {
      states = p.states ∙ ap states_told last_report;
      listed = own_listed;
      gaps = own_gaps;
      holes = own_holes;
      unlisted = λ q. p.unlisted q ∙ ap (λ t. unlisted_in x.whole t q) last_report;
      refused = own_refused;
      spoilt = p.spoilt;
      count = p.count;
    }
