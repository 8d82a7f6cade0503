-- How a loop over fragments makes fronts.
use Rattle.std.proofs.Common.{◌≡◌, ◌⊎◌, ℕ, ◌+◌, ◌<◌, ◌≤◌, List, [], ◌∷◌, ◌++◌, take, length, slice_index_or, inl, inr, sym, ◌∙◌, ap, subst, arith}
use Rattle.std.specs.BTreeSet.{insert_key}
use Rattle.std.specs.List.{Contains}
use Rattle.std.proofs.lemmas.List.{take_more, take_all}
use Rattle.ss_spelled.specs.declared.fragment.Fragment.{Fragment}
use Rattle.ss_spelled.specs.declared.front.Front.{Front}
use Rattle.ss_spelled.specs.Orders.{front_cmp}
use Rattle.ss_spelled.specs.Fronts.{IsTail, with_tail, IsLonger, AreJoinedBy, beginning, AreBeginnings}
use Rattle.ss_spelled.proofs.Members.{In, to_in, from_in, in_push, in_front, in_end, kept_in, put_in, only_in}
use Rattle.ss_spelled.proofs.Ordered.{front_exact}
use Rattle.ss_spelled.proofs.Tails.{one_tail}

-- more fragments make the same fronts, and others
longer_front : (q : Front) (fs : List Fragment) (f : Fragment) (r : Front) → IsLonger q fs r → IsLonger q (fs ++ f ∷ []) r
longer_front q fs f r (g, tail, member, t, is) = (g, tail, from_in (fs ++ f ∷ []) g (in_front fs f g (to_in fs g member)), t, is)

longer_cases : (q : Front) (fs : List Fragment) (f : Fragment) (r : Front) → IsLonger q (fs ++ f ∷ []) r → IsLonger q fs r ⊎ ((tail : List ℕ) × IsTail q f tail × (r ≡ with_tail q tail))
longer_cases q fs f r (g, tail, member, t, is) =
    elim (in_push fs f g (to_in (fs ++ f ∷ []) g member)) [
      | inl i ↦ inl (g, tail, from_in fs g i, t, is)
      | inr e ↦ inr (tail, subst (λ (x : Fragment). IsTail q x tail) (sym e) t, is)
    ]

pub joined_none : (q : Front) (old : List Front) → AreJoinedBy q [] old old
joined_none q old = record {
  kept = λ r c. c;
  made = λ r (g, tail, member, t, is). absurd (to_in [] g member);
  only = λ r c. inl c;
}

pub joined_same : (q : Front) (fs : List Fragment) (f : Fragment) (old new : List Front) → AreJoinedBy q fs old new → ((tail : List ℕ) → IsTail q f tail → ⊥) → AreJoinedBy q (fs ++ f ∷ []) old new
joined_same q fs f old new j none = record {
  kept = j.kept;
  made = λ r l. elim (longer_cases q fs f r l) [ inl k ↦ j.made r k | inr k ↦ absurd (none k.0 k.1) ];
  only = λ r c. elim (j.only r c) [ inl k ↦ inl k | inr k ↦ inr (longer_front q fs f r k) ];
}

pub joined_more : (q : Front) (fs : List Fragment) (f : Fragment) (tail : List ℕ) (old new : List Front) → AreJoinedBy q fs old new → IsTail q f tail
    → AreJoinedBy q (fs ++ f ∷ []) old (insert_key front_cmp new (with_tail q tail))
joined_more q fs f tail old new j t = record {
  kept = λ r c. keep r (j.kept r c);
  made = λ r l. elim (longer_cases q fs f r l) [
    | inl k ↦ keep r (j.made r k)
    | inr k ↦ (let e : tail ≡ k.0 = one_tail q f tail k.0 t k.1 in
        let same : with_tail q tail ≡ r = ap (λ x. with_tail q x) e ∙ sym k.2 in
        from_in (insert_key front_cmp new (with_tail q tail)) r (subst (λ (x : Front). In x (insert_key front_cmp new (with_tail q tail))) same (put_in front_cmp front_exact new (with_tail q tail))))
  ];
  only = λ r c. elim (only_in front_cmp new (with_tail q tail) r (to_in (insert_key front_cmp new (with_tail q tail)) r c)) [
    | inl i ↦ (elim (j.only r (from_in new r i)) [ inl k ↦ inl k | inr k ↦ inr (longer_front q fs f r k) ])
    | inr e ↦ inr (f, tail, from_in (fs ++ f ∷ []) f (in_end fs f), t, sym e)
  ];
}
  where
    keep : (r : Front) → Contains new r → Contains (insert_key front_cmp new (with_tail q tail)) r
    keep r c = from_in (insert_key front_cmp new (with_tail q tail)) r (kept_in front_cmp new (with_tail q tail) r (to_in new r c))

-- ---- the empty fronts

pub begun_none : AreBeginnings [] []
begun_none = record {
  made = λ f member some. absurd (to_in [] f member);
  only = λ r c. absurd (to_in [] r c);
}

pub begun_same : (fs : List Fragment) (f : Fragment) (fronts : List Front) → AreBeginnings fs fronts → f.total ≡ 0 → AreBeginnings (fs ++ f ∷ []) fronts
begun_same fs f fronts b none = record {
  made = λ g member some. elim (in_push fs f g (to_in (fs ++ f ∷ []) g member)) [
    | inl i ↦ b.made g (from_in fs g i) some
    | inr e ↦ absurd (let t : f.total ≡ g.total = ap (λ x. x.total) e in omega arith)
  ];
  only = λ r c. (let o = b.only r c in (o.0, from_in (fs ++ f ∷ []) o.0 (in_front fs f o.0 (to_in fs o.0 o.1)), o.2, o.3));
}

pub begun_more : (fs : List Fragment) (f : Fragment) (fronts : List Front) → AreBeginnings fs fronts → 1 ≤ f.total → AreBeginnings (fs ++ f ∷ []) (insert_key front_cmp fronts (beginning f.total))
begun_more fs f fronts b some = record {
  made = λ g member k. elim (in_push fs f g (to_in (fs ++ f ∷ []) g member)) [
    | inl i ↦ from_in (insert_key front_cmp fronts (beginning f.total)) (beginning g.total) (kept_in front_cmp fronts (beginning f.total) (beginning g.total) (to_in fronts (beginning g.total) (b.made g (from_in fs g i) k)))
    | inr e ↦ from_in (insert_key front_cmp fronts (beginning f.total)) (beginning g.total)
        (subst (λ (x : Fragment). In (beginning x.total) (insert_key front_cmp fronts (beginning f.total))) e (put_in front_cmp front_exact fronts (beginning f.total)))
  ];
  only = λ r c. elim (only_in front_cmp fronts (beginning f.total) r (to_in (insert_key front_cmp fronts (beginning f.total)) r c)) [
    | inl i ↦ (let o = b.only r (from_in fronts r i) in (o.0, from_in (fs ++ f ∷ []) o.0 (in_front fs f o.0 (to_in fs o.0 o.1)), o.2, o.3))
    | inr e ↦ (f, from_in (fs ++ f ∷ []) f (in_end fs f), sym e, some)
  ];
}

-- ---- the step of a loop

pub joined_step : (q : Front) (fragments : List Fragment) (i : ℕ) (f : Fragment) (old new : List Front) → i < length fragments → f ≡ slice_index_or fragments i f
    → AreJoinedBy q (take i fragments ++ f ∷ []) old new → AreJoinedBy q (take (i + 1) fragments) old new
joined_step q fragments i f old new l is j =
    subst (λ (fs : List Fragment). AreJoinedBy q fs old new) (ap (λ x. take i fragments ++ x ∷ []) is ∙ sym (take_more fragments i f l)) j

pub begun_step : (fragments : List Fragment) (i : ℕ) (f : Fragment) (fronts : List Front) → i < length fragments → f ≡ slice_index_or fragments i f
    → AreBeginnings (take i fragments ++ f ∷ []) fronts → AreBeginnings (take (i + 1) fragments) fronts
begun_step fragments i f fronts l is b =
    subst (λ (fs : List Fragment). AreBeginnings fs fronts) (ap (λ x. take i fragments ++ x ∷ []) is ∙ sym (take_more fragments i f l)) b

pub joined_end : (q : Front) (fragments : List Fragment) (i : ℕ) (old new : List Front) → length fragments ≤ i → AreJoinedBy q (take i fragments) old new → AreJoinedBy q fragments old new
joined_end q fragments i old new l j = subst (λ (fs : List Fragment). AreJoinedBy q fs old new) (take_all i fragments l) j

pub begun_end : (fragments : List Fragment) (i : ℕ) (fronts : List Front) → length fragments ≤ i → AreBeginnings (take i fragments) fronts → AreBeginnings fragments fronts
begun_end fragments i fronts l b = subst (λ (fs : List Fragment). AreBeginnings fs fronts) (take_all i fragments l) b
