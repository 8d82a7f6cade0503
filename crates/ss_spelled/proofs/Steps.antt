-- The state of a search, and its steps.
use Rattle.std.proofs.Common.{◌≡◌, ◌⊎◌, ℕ, ◌+◌, ◌<◌, ◌≤◌, Bool, true, false, List, [], ◌∷◌, ◌++◌, length, inl, inr, refl, sym, ◌∙◌, ap, subst, arith}
use Rattle.std.specs.declared.cmp.Ordering.TheVariants.{Less}
use Rattle.std.specs.Prelude.{map, ◌==◌}
use Rattle.std.specs.BTreeMap.Range.{IsLtBy}
use Rattle.std.proofs.lemmas.Bool.{cases_lt, eqb-true, eq-eqb}
use Rattle.std.specs.List.{All, Contains, sum_by}
use Rattle.std.specs.List.Sorted.{IsStrictlySortedBy}
use Rattle.std.proofs.lemmas.List.{length-append}
use Rattle.std.proofs.lemmas.List.Elements.{All-nil, All-push, All-contains, Contains-append_left, Contains-push}
use Rattle.std.proofs.lemmas.List.Sums.{sum_by_push}
use Rattle.ss_spelled.specs.declared.fragment.Fragment.{Fragment}
use Rattle.ss_spelled.specs.declared.front.Front.{Front}
use Rattle.ss_spelled.specs.declared.search.Bounds.{Bounds}
use Rattle.ss_spelled.specs.declared.search.Spelled.{Spelled}
use Rattle.ss_spelled.specs.Orders.{text_cmp, front_cmp, front_cmp_total}
use Rattle.ss_spelled.specs.Spelled.{IsSpelled}
use Rattle.ss_spelled.specs.Fronts.{IsFront, with_tail, IsLonger, AreJoinedBy, beginning, AreBeginnings, front_cost}
use Rattle.ss_spelled.specs.Search.{IsAnswer}
use Rattle.ss_spelled.proofs.Members.{In, to_in, from_in, in_push, in_front, in_end}
use Rattle.ss_spelled.proofs.Ordered.{Below, below_none, below_push, below_grow, longer_is_above, same_front, whole, texts_sorted, whole_in, map_push, not_below_itself}
use Rattle.ss_spelled.proofs.Tails.{longer_is_front, front_is_spelled, spelled_is_front, IsBegun, whole_begun, goes_on}

-- one of the fronts is the beginning of another one
abbrev pub HasBegun : List Front → Front → Type 0
HasBegun waiting q = (p : Front) × In p waiting × IsBegun p q

-- what holds before each turn: some fronts were taken, all below those that wait, and each front was taken or goes on
pub record IsGoing (fragments : List Fragment) (bounds : Bounds) (texts : List (List ℕ)) (waiting : List Front) (left : ℕ) : Type 0 where
  pub sound : All (IsSpelled fragments) texts
  pub few : length texts ≤ bounds.texts
  pub fronts : (q : Front) → In q waiting → IsFront fragments q
  pub ordered : Below front_cmp (map whole texts) waiting
  pub taken : List Front
  pub taken_ordered : Below front_cmp taken waiting
  pub taken_fronts : All (IsFront fragments) taken
  pub reached : (q : Front) → IsFront fragments q → In q taken ⊎ HasBegun waiting q
  pub listed : (q : Front) → In q taken → length q.text ≡ q.total → Contains texts q.text
  pub paid : left + sum_by (front_cost fragments) taken ≡ bounds.steps

pub starts : (fragments : List Fragment) (bounds : Bounds) (waiting : List Front) → AreBeginnings fragments waiting → IsGoing fragments bounds [] waiting bounds.steps
starts fragments bounds waiting b = record {
  sound = All-nil (IsSpelled fragments);
  few = omega arith;
  fronts = λ q i. begun_front q (b.only q (from_in waiting q i));
  ordered = below_none front_cmp waiting;
  taken = [];
  taken_ordered = below_none front_cmp waiting;
  taken_fronts = All-nil (IsFront fragments);
  reached = λ q h. inr (first q h.stated h.some_octet);
  listed = λ q i. absurd i;
  paid = omega arith;
}
  where
    begun_front : (q : Front) → (f : Fragment) × Contains fragments f × (q ≡ beginning f.total) × (1 ≤ f.total) → IsFront fragments q
    begun_front q (f, member, is, some) =
        subst (IsFront fragments) (sym is) (record {
          some_octet = some;
          stated = (f, member, refl);
          fits = omega arith;
          each = λ place l. absurd (omega arith);
        })

    first : (q : Front) → (f : Fragment) × Contains fragments f × (f.total ≡ q.total) → 1 ≤ q.total → HasBegun waiting q
    first q (f, member, total) some =
        (beginning f.total, to_in waiting (beginning f.total) (b.made f member (omega arith)), record { total = total; rest = q.text; is = refl })

-- the least front is taken, and is paid for
taken_more : (fragments : List Fragment) (taken : List Front) (p : Front) (left rest steps : ℕ) → rest + front_cost fragments p ≡ left → left + sum_by (front_cost fragments) taken ≡ steps
    → rest + sum_by (front_cost fragments) (taken ++ p ∷ []) ≡ steps
taken_more fragments taken p left rest steps cost paid = omega (arith, sum_by_push (front_cost fragments) taken p)

-- a whole front is listed
pub finds : (fragments : List Fragment) (bounds : Bounds) (texts : List (List ℕ)) (p : Front) (waiting : List Front) (left rest : ℕ) → IsGoing fragments bounds texts (p ∷ waiting) left
    → length p.text ≡ p.total → length texts < bounds.texts → ((w : Front) → In w waiting → front_cmp p w ≡ Less) → rest + front_cost fragments p ≡ left
    → IsGoing fragments bounds (texts ++ p.text ∷ []) waiting rest
finds fragments bounds texts p waiting left rest g full room least cost =
    record {
      sound = All-push (IsSpelled fragments) texts p.text g.sound (front_is_spelled fragments p (g.fronts p (inl refl)) full);
      few = rw (length-append texts (p.text ∷ [])) (omega arith);
      fronts = λ q i. g.fronts q (inr i);
      ordered = subst (λ (xs : List Front). Below front_cmp xs waiting)
          (ap (λ (x : Front). map whole texts ++ x ∷ []) (sym (same_front (whole p.text) p full refl)) ∙ sym (map_push whole texts p.text)) (below_push front_cmp (map whole texts) p waiting g.ordered least);
      taken = g.taken ++ p ∷ [];
      taken_ordered = below_push front_cmp g.taken p waiting g.taken_ordered least;
      taken_fronts = All-push (IsFront fragments) g.taken p g.taken_fronts (g.fronts p (inl refl));
      reached = λ q h. elim (g.reached q h) [ inl i ↦ inl (in_front g.taken p q i) | inr b ↦ begun q h b ];
      listed = λ q i e. elim (in_push g.taken p q i) [
        | inl k ↦ Contains-append_left texts (p.text ∷ []) q.text (g.listed q k e)
        | inr same ↦ subst (λ (x : Front). Contains (texts ++ p.text ∷ []) x.text) same (Contains-push texts p.text)
      ];
      paid = taken_more fragments g.taken p left rest bounds.steps cost g.paid;
    }
  where
    begun : (q : Front) → IsFront fragments q → HasBegun (p ∷ waiting) q → In q (g.taken ++ p ∷ []) ⊎ HasBegun waiting q
    begun q h (r, i, b) =
        elim i [
          | inl e ↦ (let c = subst (λ (x : Front). IsBegun x q) (sym e) b in
              inl (subst (λ (x : Front). In x (g.taken ++ p ∷ [])) (whole_begun p q c (omega (arith, h.fits, c.total, full))) (in_end g.taken p)))
          | inr k ↦ inr (r, k, b)
        ]

-- a front that isn't whole gives way to the longer ones
pub passes : (fragments : List Fragment) (bounds : Bounds) (texts : List (List ℕ)) (p : Front) (waiting after : List Front) (left rest : ℕ) → IsGoing fragments bounds texts (p ∷ waiting) left
    → (length p.text ≡ p.total → ⊥) → AreJoinedBy p fragments waiting after → ((w : Front) → In w waiting → front_cmp p w ≡ Less) → rest + front_cost fragments p ≡ left
    → IsGoing fragments bounds texts after rest
passes fragments bounds texts p waiting after left rest g part j least cost =
    record {
      sound = g.sound;
      few = g.few;
      fronts = λ q i. elim (from q i) [ inl k ↦ g.fronts q (inr k) | inr l ↦ longer_is_front fragments p q (g.fronts p (inl refl)) l ];
      ordered = below_grow front_cmp front_cmp_total (map whole texts) p waiting after g.ordered (λ q i. inr (above q i));
      taken = g.taken ++ p ∷ [];
      taken_ordered = below_push front_cmp g.taken p after
          (below_grow front_cmp front_cmp_total g.taken p waiting (p ∷ after) g.taken_ordered (λ q i. elim i [ inl e ↦ inl (inl e) | inr k ↦ inr (above q k) ])) above;
      taken_fronts = All-push (IsFront fragments) g.taken p g.taken_fronts (g.fronts p (inl refl));
      reached = λ q h. elim (g.reached q h) [ inl i ↦ inl (in_front g.taken p q i) | inr b ↦ begun q h b ];
      listed = λ q i e. elim (in_push g.taken p q i) [ inl k ↦ g.listed q k e | inr same ↦ absurd (part (subst (λ (x : Front). length x.text ≡ x.total) (sym same) e)) ];
      paid = taken_more fragments g.taken p left rest bounds.steps cost g.paid;
    }
  where
    from : (q : Front) → In q after → In q waiting ⊎ IsLonger p fragments q
    from q i = elim (j.only q (from_in after q i)) [ inl c ↦ inl (to_in waiting q c) | inr l ↦ inr l ]

    is_above : (q : Front) → IsLonger p fragments q → front_cmp p q ≡ Less
    is_above q (f, tail, member, t, is) =
        subst (λ (x : Front). front_cmp p x ≡ Less) (sym is) (longer_is_above p (with_tail p tail) refl (omega (arith, t.some_octet, length-append p.text tail)))

    above : (q : Front) → In q after → front_cmp p q ≡ Less
    above q i = elim (from q i) [ inl k ↦ least q k | inr l ↦ is_above q l ]

    onward : (q : Front) → IsFront fragments q → IsBegun p q → In q (g.taken ++ p ∷ []) ⊎ HasBegun after q
    onward q h b =
        elim (cases_lt (length p.text) (length q.text)) [
          | inl l ↦ (let o = goes_on fragments p q h b l in inr (o.0, to_in after o.0 (j.made o.0 o.1), o.2))
          | inr l ↦ inl (subst (λ (x : Front). In x (g.taken ++ p ∷ [])) (whole_begun p q b l) (in_end g.taken p))
        ]

    begun : (q : Front) → IsFront fragments q → HasBegun (p ∷ waiting) q → In q (g.taken ++ p ∷ []) ⊎ HasBegun after q
    begun q h (r, i, b) =
        elim i [
          | inl e ↦ onward q h (subst (λ (x : Front). IsBegun x q) (sym e) b)
          | inr k ↦ inr (r, to_in after r (j.kept r (from_in waiting r k)), b)
        ]

-- ---- what the code says

pub least_of : (p : Front) (ws : List Front) → All (IsLtBy front_cmp p) ws → (w : Front) → In w ws → front_cmp p w ≡ Less
least_of p ws h w i = All-contains (IsLtBy front_cmp p) ws w h (from_in ws w i)

pub not_equal : (a b : ℕ) → false ≡ (a == b) → a ≡ b → ⊥
not_equal a b e h = let t = eq-eqb a b h in cc

pub is_equal : (a b : ℕ) → true ≡ (a == b) → a ≡ b
is_equal a b e = eqb-true a b (sym e)

pub empty_of : (ws : List Front) → (0 < length ws → false ≡ true) → ws ≡ []
empty_of [] h = refl
empty_of (w ∷ ws) h = (let e : false ≡ true = h (omega arith) in cc)

-- ---- how it ends

abbrev pub answer : List (List ℕ) → Bool → Spelled
answer texts cut = record { texts = texts; cut = cut }

texts_ordered : (fragments : List Fragment) (bounds : Bounds) (texts : List (List ℕ)) (waiting : List Front) (left : ℕ) → IsGoing fragments bounds texts waiting left → IsStrictlySortedBy text_cmp texts
texts_ordered fragments bounds texts waiting left g = texts_sorted texts g.ordered.sorted

pub ends : (fragments : List Fragment) (bounds : Bounds) (texts : List (List ℕ)) (left : ℕ) → IsGoing fragments bounds texts [] left → IsAnswer fragments bounds (answer texts false)
ends fragments bounds texts left g = record {
  sound = g.sound;
  ordered = texts_ordered fragments bounds texts [] left g;
  few = g.few;
  complete = λ e text s. g.listed (whole text) (done (whole text) (spelled_is_front fragments text (whole text) s refl refl)) refl;
  within = λ e. record {
    fronts = g.taken;
    all = λ q h. from_in g.taken q (done q h);
    enough = omega (arith, g.paid);
  };
  cut = λ e. absurd cc;
}
  where
    done : (q : Front) → IsFront fragments q → In q g.taken
    done q h = elim (g.reached q h) [ inl i ↦ i | inr b ↦ absurd b.1 ]

pub ends_full : (fragments : List Fragment) (bounds : Bounds) (texts : List (List ℕ)) (p : Front) (waiting : List Front) (left : ℕ) → IsGoing fragments bounds texts (p ∷ waiting) left
    → length p.text ≡ p.total → bounds.texts ≤ length texts → IsAnswer fragments bounds (answer texts true)
ends_full fragments bounds texts p waiting left g full many = record {
  sound = g.sound;
  ordered = texts_ordered fragments bounds texts (p ∷ waiting) left g;
  few = g.few;
  complete = λ e. absurd cc;
  within = λ e. absurd cc;
  cut = λ e. inl (record {
    full = omega (arith, g.few);
    other = p.text;
    is_spelled = front_is_spelled fragments p (g.fronts p (inl refl)) full;
    is_unlisted = λ c. (let i = whole_in texts p.text (to_in texts p.text c) in
        not_below_itself p (subst (λ (x : Front). front_cmp x p ≡ Less) (same_front (whole p.text) p full refl) (g.ordered.below (whole p.text) p i (inl refl))));
  });
}

pub ends_unpaid : (fragments : List Fragment) (bounds : Bounds) (texts : List (List ℕ)) (p : Front) (waiting : List Front) (left : ℕ) → IsGoing fragments bounds texts (p ∷ waiting) left
    → ((w : Front) → In w waiting → front_cmp p w ≡ Less) → left < front_cost fragments p → IsAnswer fragments bounds (answer texts true)
ends_unpaid fragments bounds texts p waiting left g least less = record {
  sound = g.sound;
  ordered = texts_ordered fragments bounds texts (p ∷ waiting) left g;
  few = g.few;
  complete = λ e. absurd cc;
  within = λ e. absurd cc;
  cut = λ e. inr (record {
    fronts = g.taken ++ p ∷ [];
    distinct = (below_push front_cmp g.taken p waiting g.taken_ordered least).sorted;
    each = All-push (IsFront fragments) g.taken p g.taken_fronts (g.fronts p (inl refl));
    too_many = omega (arith, sum_by_push (front_cost fragments) g.taken p, g.paid);
  });
}
