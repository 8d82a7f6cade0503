-- A message's group is one of the grouping's, and its SPRI is below 192.
use Rattle.std.proofs.Common.{◌≡◌, inl, inr, ℕ, ◌<◌, ◌≤◌, Bool, true, false, List, [], ◌∷◌, refl, arith}
use Rattle.std.specs.Prelude.{◌==◌, ◌||◌, nat_le, nat_lt, if◌then◌else◌, Result, Ok, Err}
use Rattle.std.specs.List.{list_any}
use Rattle.std.proofs.lemmas.Bool.{eqb-true, eq-eqb, leb-true, ltb-true, le-leb, and_parts, or_cases, or_left, or_right}
use Rattle.ss_message.specs.declared.fault.BadPart.{BadPart}
use Rattle.ss_message.specs.Layout.{Layout}
use Rattle.ss_message.specs.Reading.{layout_at}
use Rattle.ss_message.specs.Laws.{FaultsAreOfNoMessage}
use Rattle.ss_origin.specs.declared.grouping.Grouping.{Grouping}
use Rattle.ss_origin.specs.declared.grouping.Grouping.TheVariants.{One, ByPri, Ranges}
use Rattle.ss_origin.specs.Groups.{least_bound, spri_of, has_group, are_bounds, is_grouping}
use Rattle.ss_origin.specs.Calls.{pri_from, pri_of, spri_in}
use Rattle.ss_origin.specs.GroupLaws.{MessagesHaveGroups, SprisAreSmall}

-- ---- bounds

abbrev is_bound : ℕ → List ℕ → Bool
is_bound spri bounds = list_any (λ bound. bound == spri) bounds

pri_from-most : FaultsAreOfNoMessage → (message : List ℕ) (r : Result Layout BadPart) → layout_at message ≡ r → pri_from r ≤ 191
pri_from-most read message (Ok l) e = ((read.0 message l e).0).pri
pri_from-most read message (Err f) e = omega arith

pri_of-most : FaultsAreOfNoMessage → (message : List ℕ) → pri_of message ≤ 191
unfolding pri_of
pri_of-most read message = pri_from-most read message (layout_at message) refl

least-is_bound : (pri : ℕ) (bounds : List ℕ) → are_bounds bounds ≡ true → pri ≤ 191 → is_bound (least_bound pri bounds) bounds ≡ true
least-is_bound pri [] rise most = absurd (cc)
least-is_bound pri (bound ∷ []) rise most = by (nat_le pri bound) refl
  where
    by : (b : Bool) → nat_le pri bound ≡ b → ((bound == (if b then bound else 191)) || false) ≡ true
    by true e = or_left (bound == bound) false (eq-eqb bound bound refl)
    by false e = or_left (bound == 191) false rise
least-is_bound pri (bound ∷ next ∷ bounds) rise most =
    by (nat_le pri bound) (least-is_bound pri (next ∷ bounds) (and_parts (nat_lt bound next) (are_bounds (next ∷ bounds)) rise).1 most)
  where
    by : (b : Bool) → is_bound (least_bound pri (next ∷ bounds)) (next ∷ bounds) ≡ true → is_bound (if b then bound else least_bound pri (next ∷ bounds)) (bound ∷ next ∷ bounds) ≡ true
    by true rest = or_left (bound == bound) (is_bound bound (next ∷ bounds)) (eq-eqb bound bound refl)
    by false rest =
        or_right (bound == least_bound pri (next ∷ bounds)) (is_bound (least_bound pri (next ∷ bounds)) (next ∷ bounds)) rest

bound-most : (spri : ℕ) (bounds : List ℕ) → are_bounds bounds ≡ true → is_bound spri bounds ≡ true → spri ≤ 191
bound-most spri [] rise is = absurd (cc)
bound-most spri (bound ∷ []) rise is = elim (or_cases (bound == spri) false is) [
  | inl e ↦ (let last : bound ≡ 191 = eqb-true bound 191 rise in let same : bound ≡ spri = eqb-true bound spri e in omega arith)
  | inr e ↦ absurd (cc)
]
bound-most spri (bound ∷ next ∷ bounds) rise is =
    let parts = and_parts (nat_lt bound next) (are_bounds (next ∷ bounds)) rise in
    elim (or_cases (bound == spri) (is_bound spri (next ∷ bounds)) is) [
      | inl e ↦
          (let same : bound ≡ spri = eqb-true bound spri e in
          let below : bound < next = ltb-true bound next parts.0 in
          let most : next ≤ 191 = bound-most next (next ∷ bounds) parts.1 (or_left (next == next) (is_bound next bounds) (eq-eqb next next refl)) in
          omega arith)
      | inr e ↦ bound-most spri (next ∷ bounds) parts.1 e
    ]

-- ---- groups

pub group-most : (grouping : Grouping) (spri : ℕ) → is_grouping grouping ≡ true → has_group grouping spri ≡ true → spri ≤ 191
group-most (One only) spri is has = let same : spri ≡ only = eqb-true spri only has in let most : only ≤ 191 = leb-true only 191 is in omega arith
group-most ByPri spri is has = leb-true spri 191 has
group-most (Ranges bounds) spri is has = bound-most spri bounds is has

pub has_group_of : (grouping : Grouping) (pri : ℕ) → is_grouping grouping ≡ true → pri ≤ 191 → has_group grouping (spri_of grouping pri) ≡ true
has_group_of (One only) pri is most = eq-eqb only only refl
has_group_of ByPri pri is most = le-leb pri 191 most
has_group_of (Ranges bounds) pri is most = least-is_bound pri bounds is most

pub messages_have_groups : FaultsAreOfNoMessage → MessagesHaveGroups
messages_have_groups read grouping message is = has_group_of grouping (pri_of message) is (pri_of-most read message)

pub spris_are_small : FaultsAreOfNoMessage → SprisAreSmall
spris_are_small read grouping message is =
    let most : spri_in grouping message ≤ 191 = group-most grouping (spri_in grouping message) is (messages_have_groups read grouping message is) in omega arith
