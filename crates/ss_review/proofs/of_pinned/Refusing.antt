-- What a report by given payloads refuses: what is refused among the kept blocks, and the others.
use Rattle.std.proofs.Common.{◌≡◌, ◌⊎◌, inl, inr, ℕ, Bool, true, false, ◌&&◌, not, List, ◌++◌, map, filter, refl, sym, ap, ◌∙◌, subst}
use Rattle.std.specs.Prelude.{Contains, Any}
use Rattle.std.specs.Cmp.{nat_cmp_total}
use Rattle.std.specs.declared.cmp.Ordering.TheVariants.{Equal}
use Rattle.std.specs.FinSet.{nat_cmp-IsAntisymmetric}
use Rattle.std.specs.List.Sorted.{IsStrictlySortedBy}
use Rattle.std.specs.Ordering.{nat_cmp}
use Rattle.std.proofs.lemmas.Bool.{cases_Bool}
use Rattle.std.proofs.lemmas.List.Kept.{IsStrictlySortedBy-filter}
use Rattle.ss_review.specs.keep.BlockMessage.{BlockMessage}
use Rattle.ss_review.specs.report.Report.{refused}
use Rattle.ss_review.specs.sessions.Sessions.{of_session}
use Rattle.ss_review.specs.sessions.Verified.{Answers, is_verified}
use Rattle.ss_review.specs.pinned.Finding.{IsTogether}
use Rattle.ss_review.specs.pinned.Pinned.{keeps, kept, left_out, is_verified_pinned, refused_pinned}
use Rattle.ss_octets.proofs.Members.{Has, has_from_contains, contains_from_has, has-append_left, has-append_right, has-append_cases, has-map, from_has-map, has-filter, from_has-filter}
use Rattle.ss_review.proofs.of_lists.Rising.{same_members, rise_from, keys_rise}

-- ---- two lists together

module _ (xs ys both zs all : List ℕ) (joined : both ≡ xs ++ ys) (is : IsTogether xs ys all)
    (keeps_all : (x : ℕ) → Contains both x → Any (λ y. nat_cmp x y ≡ Equal) zs)
    (adds_none : (x : ℕ) → Contains zs x → Contains both x) where
  there : (q : ℕ) → Has zs q → Has all q
  there q h =
      elim (has-append_cases xs ys q (subst (λ l. Has l q) joined (has_from_contains both q (adds_none q (contains_from_has zs q h))))) [
        | inl l ↦ has_from_contains all q (is.first q (contains_from_has xs q l))
        | inr r ↦ has_from_contains all q (is.second q (contains_from_has ys q r))
      ]

  among : (q : ℕ) → Has all q → Has (xs ++ ys) q
  among q h =
      elim (is.no_other q (contains_from_has all q h)) [
        | inl l ↦ has-append_left xs ys q (has_from_contains xs q l)
        | inr r ↦ has-append_right xs ys q (has_from_contains ys q r)
      ]

  back : (q : ℕ) → Has all q → Has zs q
  back q h =
      let k = keeps_all q (contains_from_has both q (subst (λ l. Has l q) (sym joined) (among q h))) in
      subst (Has zs) (sym (nat_cmp-IsAntisymmetric q k.1 k.4)) (has_from_contains zs k.1 (k.0, k.2, k.3))

  pub together_is : IsStrictlySortedBy nat_cmp zs → zs ≡ all
  together_is up = same_members nat_cmp_total zs all up is.rises there back

-- ---- of a log whose blocks' places rise

module _ (says : Answers) (ps : List (List ℕ)) (bs : List BlockMessage) where
  abbrev now : BlockMessage → Bool
  now b = keeps says ps (of_session bs b.session) b

  abbrev verified : BlockMessage → Bool
  verified b = is_verified says (kept says ps bs) b

  refused_too : (x : ℕ) → Contains (refused says (kept says ps bs)) x → Contains (refused_pinned says ps bs) x
  refused_too x c =
      let w : (b : BlockMessage) × Has (filter (λ b. not (verified b)) (kept says ps bs)) b × (b.place ≡ x)
      = from_has-map (λ (b : BlockMessage). b.place) (filter (λ b. not (verified b)) (kept says ps bs)) x (has_from_contains (refused says (kept says ps bs)) x c) in
      let f = from_has-filter (λ b. not (verified b)) (kept says ps bs) w.0 w.1 in
      let k = from_has-filter now bs w.0 f.0 in
      contains_from_has (refused_pinned says ps bs) x
      (subst (Has (refused_pinned says ps bs)) w.2
      (has-map (λ (b : BlockMessage). b.place) (filter (λ b. not (is_verified_pinned says ps bs b)) bs) w.0
      (has-filter (λ b. not (is_verified_pinned says ps bs b)) bs w.0 k.0 (ap (λ t. not (t && verified w.0)) k.1 ∙ f.1))))

  left_out_too : (x : ℕ) → Contains (left_out says ps bs) x → Contains (refused_pinned says ps bs) x
  left_out_too x c =
      let w : (b : BlockMessage) × Has (filter (λ b. not (now b)) bs) b × (b.place ≡ x)
      = from_has-map (λ (b : BlockMessage). b.place) (filter (λ b. not (now b)) bs) x (has_from_contains (left_out says ps bs) x c) in
      let f = from_has-filter (λ b. not (now b)) bs w.0 w.1 in
      contains_from_has (refused_pinned says ps bs) x
      (subst (Has (refused_pinned says ps bs)) w.2
      (has-map (λ (b : BlockMessage). b.place) (filter (λ b. not (is_verified_pinned says ps bs b)) bs) w.0
      (has-filter (λ b. not (is_verified_pinned says ps bs b)) bs w.0 f.0 (not_both (now w.0) (verified w.0) f.1))))
    where
      not_both : (a b : Bool) → not a ≡ true → not (a && b) ≡ true
      not_both true b e = absurd (cc)
      not_both false b e = refl

  no_more : (x : ℕ) → Contains (refused_pinned says ps bs) x → Contains (refused says (kept says ps bs)) x ⊎ Contains (left_out says ps bs) x
  no_more x c =
      let w : (b : BlockMessage) × Has (filter (λ b. not (is_verified_pinned says ps bs b)) bs) b × (b.place ≡ x)
      = from_has-map (λ (b : BlockMessage). b.place) (filter (λ b. not (is_verified_pinned says ps bs b)) bs) x (has_from_contains (refused_pinned says ps bs) x c) in
      let f = from_has-filter (λ b. not (is_verified_pinned says ps bs b)) bs w.0 w.1 in
      elim (cases_Bool (now w.0)) [
        | inl t ↦ inl (contains_from_has (refused says (kept says ps bs)) x
            (subst (Has (refused says (kept says ps bs))) w.2
            (has-map (λ (b : BlockMessage). b.place) (filter (λ b. not (verified b)) (kept says ps bs)) w.0
            (has-filter (λ b. not (verified b)) (kept says ps bs) w.0 (has-filter now bs w.0 f.0 t) (ap (λ a. not (a && verified w.0)) (sym t) ∙ f.1)))))
        | inr n ↦ inr (contains_from_has (left_out says ps bs) x
            (subst (Has (left_out says ps bs)) w.2
            (has-map (λ (b : BlockMessage). b.place) (filter (λ b. not (now b)) bs) w.0
            (has-filter (λ b. not (now b)) bs w.0 f.0 (ap not n)))))
      ]

  pub refused_together : IsStrictlySortedBy nat_cmp (map (λ (b : BlockMessage). b.place) bs) → IsTogether (refused says (kept says ps bs)) (left_out says ps bs) (refused_pinned says ps bs)
  refused_together up = record {
    rises = keys_rise (λ (b : BlockMessage). b.place) nat_cmp (λ b d. nat_cmp b.place d.place) (λ b d. refl) (filter (λ b. not (is_verified_pinned says ps bs b)) bs)
        (IsStrictlySortedBy-filter (λ b d. nat_cmp b.place d.place) (λ b. not (is_verified_pinned says ps bs b)) bs (rise_from (λ (b : BlockMessage). b.place) nat_cmp bs up));
    first = refused_too;
    second = left_out_too;
    no_other = no_more;
  }
