-- What a fragment has after a front.
use Rattle.std.proofs.Common.{◌≡◌, ℕ, ◌+◌, ◌-◌, ◌<◌, ◌≤◌, true, false, List, [], ◌∷◌, ◌++◌, length, take, drop, inl, inr, refl, sym, ◌∙◌, ap, subst, append_assoc, append-nil, arith}
use Rattle.std.specs.Prelude.{slice_range}
use Rattle.std.specs.Str.{bytes_eq}
use Rattle.std.proofs.lemmas.List.{length-append, length-take, length-drop, take_at, drop-append-le, take-append-le, take-append-drop, append_cancel_left, take_rest}
use Rattle.std.proofs.Math.Seq.{take-length, take-append-add}
use Rattle.std.proofs.lemmas.Bool.{cases_lt}
use Rattle.std.proofs.lemmas.Slice.Eq.{bytes_eq-Decides}
use Rattle.ss_spelled.specs.declared.fragment.Fragment.{Fragment}
use Rattle.ss_spelled.specs.declared.front.Front.{Front}
use Rattle.ss_spelled.specs.Spelled.{HasOctet, StandsIn, IsSpelled}
use Rattle.ss_spelled.specs.Fronts.{IsFront, IsTail, with_tail, IsLonger}
use Rattle.ss_spelled.proofs.Ordered.{same_front}

-- ---- what the code finds

pub tail_found : (q : Front) (f : Fragment) (begin left : ℕ) (over tail : List ℕ) → f.total ≡ q.total → f.index ≡ begin + 1 → begin ≤ length q.text
    → over ≡ slice_range q.text begin (length q.text) → bytes_eq (take (length over) f.octets) over ≡ true → tail ≡ drop (length over) f.octets
    → 1 ≤ length tail → length q.text + length tail ≤ q.total → IsTail q f tail
tail_found q f begin left over tail total index within is same rest some fits =
    let o : over ≡ drop begin q.text = is ∙ take_rest q.text begin in
    let b : f.index - 1 ≡ begin = omega arith in
    let h : take (length over) f.octets ≡ over = (bytes_eq-Decides (take (length over) f.octets) over).0 same in
    record {
      total = total;
      some_index = omega arith;
      within = omega arith;
      agrees = sym (take-append-drop (length over) f.octets) ∙ ap (λ t. t ++ drop (length over) f.octets) (h ∙ o) ∙ ap (λ t. drop begin q.text ++ t) (sym rest) ∙ ap (λ n. drop n q.text ++ tail) (sym b);
      some_octet = some;
      fits = fits;
    }

pub no_tail : (q : Front) (f : Fragment) (begin : ℕ) (over : List ℕ) → f.index ≡ begin + 1
    → over ≡ slice_range q.text begin (length q.text) → bytes_eq (take (length over) f.octets) over ≡ false → (tail : List ℕ) → IsTail q f tail → ⊥
no_tail q f begin over index is differ tail t =
    let o : over ≡ drop begin q.text = is ∙ take_rest q.text begin in
    let b : f.index - 1 ≡ begin = omega arith in
    let a : f.octets ≡ over ++ tail = t.agrees ∙ ap (λ n. drop n q.text ++ tail) b ∙ ap (λ x. x ++ tail) (sym o) in
    let h : take (length over) f.octets ≡ over = ap (λ x. take (length over) x) a ∙ take_at over tail (length over) refl in
    (let e : bytes_eq (take (length over) f.octets) over ≡ true = (bytes_eq-Decides (take (length over) f.octets) over).1 h in cc)

pub one_tail : (q : Front) (f : Fragment) (tail other : List ℕ) → IsTail q f tail → IsTail q f other → tail ≡ other
one_tail q f tail other t u = append_cancel_left (drop (f.index - 1) q.text) tail other (sym t.agrees ∙ u.agrees)

-- ---- fronts stay fronts

-- what agrees with a text agrees with a longer one
agrees_longer : (f : Fragment) (text tail : List ℕ) (place : ℕ) → place < length text → HasOctet f text place → HasOctet f (text ++ tail) place
agrees_longer f text tail place within h =
    let b : f.index - 1 ≤ length text = omega (arith, h.from) in
    let l : length f.octets ≤ length (drop (f.index - 1) text) =
    omega (arith, ap length h.agrees, length-take (length f.octets) (drop (f.index - 1) text)) in
    record {
      some_index = h.some_index;
      agrees = rw (drop-append-le (f.index - 1) text tail b, take-append-le (length f.octets) (drop (f.index - 1) text) tail l) h.agrees;
      from = h.from;
      until = h.until;
    }

tail_agrees : (q : Front) (f : Fragment) (tail : List ℕ) (place : ℕ) → IsTail q f tail → length q.text ≤ place → place < length q.text + length tail → HasOctet f (q.text ++ tail) place
tail_agrees q f tail place t from until =
    let b : f.index - 1 ≤ length q.text = omega (arith, t.within) in
    let same : drop (f.index - 1) (q.text ++ tail) ≡ f.octets = drop-append-le (f.index - 1) q.text tail b ∙ sym t.agrees in
    let l : length f.octets ≡ (length q.text - (f.index - 1)) + length tail =
    ap length t.agrees ∙ length-append (drop (f.index - 1) q.text) tail ∙ ap (λ n. n + length tail) (length-drop (f.index - 1) q.text) in
    record {
      some_index = t.some_index;
      agrees = ap (λ x. take (length f.octets) x) same ∙ take-length f.octets;
      from = omega (arith, t.within);
      until = omega (arith, t.some_index, l);
    }

pub longer_is_front : (fragments : List Fragment) (q r : Front) → IsFront fragments q → IsLonger q fragments r → IsFront fragments r
longer_is_front fragments q r h (f, tail, member, t, is) =
    subst (IsFront fragments) (sym is) (record {
      some_octet = h.some_octet;
      stated = h.stated;
      fits = rw (length-append q.text tail) t.fits;
      each = λ place below. elim (cases_lt place (length q.text)) [
        | inl l ↦ (let s = h.each place l in (s.0, s.1, s.2, agrees_longer s.0 q.text tail place l s.3))
        | inr l ↦ (f, member, t.total, tail_agrees q f tail place t l (rw (length-append q.text tail) at below))
      ];
    })

pub front_is_spelled : (fragments : List Fragment) (q : Front) → IsFront fragments q → length q.text ≡ q.total → IsSpelled fragments q.text
front_is_spelled fragments q h e = record {
  some_octet = omega (arith, h.some_octet);
  each = λ place below. subst (λ (n : ℕ). StandsIn fragments n q.text place) (sym e) (h.each place below);
}

pub spelled_is_front : (fragments : List Fragment) (text : List ℕ) (q : Front) → IsSpelled fragments text → q.total ≡ length text → q.text ≡ text → IsFront fragments q
spelled_is_front fragments text q s total is =
    let first = s.each 0 (omega (arith, s.some_octet)) in
    let l : length q.text ≡ length text = ap length is in
    record {
      some_octet = omega (arith, s.some_octet);
      stated = (first.0, first.1, first.2 ∙ sym total);
      fits = omega arith;
      each = λ place below. subst (λ (n : ℕ). StandsIn fragments n q.text place) (sym total)
          (subst (λ (t : List ℕ). StandsIn fragments (length text) t place) (sym is) (s.each place (omega arith)));
    }

-- ---- fronts go on

-- a front is the beginning of another one
pub record IsBegun (p q : Front) : Type 0 where
  pub total : p.total ≡ q.total
  pub rest : List ℕ
  pub is : q.text ≡ p.text ++ rest

nothing : (xs : List ℕ) → length xs ≡ 0 → xs ≡ []
nothing [] e = refl
nothing (x ∷ xs) e = absurd (omega arith)

-- it is the other one, if it is as long
pub whole_begun : (p q : Front) → IsBegun p q → length q.text ≤ length p.text → p ≡ q
whole_begun p q b l =
    let n : length q.text ≡ length p.text + length b.rest = ap length b.is ∙ length-append p.text b.rest in
    same_front p q b.total (sym (b.is ∙ ap (λ x. p.text ++ x) (nothing b.rest (omega arith)) ∙ append-nil p.text))

-- a longer front goes on with the octets of a fragment
pub goes_on : (fragments : List Fragment) (p q : Front) → IsFront fragments q → IsBegun p q → length p.text < length q.text → (r : Front) × IsLonger p fragments r × IsBegun r q
goes_on fragments p q front begun longer =
    let s = front.each (length p.text) longer in
    let f = s.0 in
    let h : HasOctet f (p.text ++ begun.rest) (length p.text) = subst (λ (t : List ℕ). HasOctet f t (length p.text)) begun.is s.3 in
    let d = drop_splits f p.text begun.rest h in (
      with_tail p d.0,
      (
        f,
        d.0,
        s.1,
        record {
          total = s.2 ∙ sym begun.total;
          some_index = h.some_index;
          within = h.from;
          agrees = d.2;
          some_octet = d.3 (omega (arith, longer, ap length begun.is, length-append p.text begun.rest));
          fits = omega (arith, d.4, begun.total, front.fits, ap length begun.is, length-append p.text begun.rest);
        },
        refl,
      ),
      record {
        total = begun.total;
        rest = d.1;
        is = begun.is ∙ ap (λ x. p.text ++ x) d.5 ∙ sym (append_assoc p.text d.0 d.1);
      },
    )
  where
    -- what the fragment has after the text is a beginning of the rest
    drop_splits : (f : Fragment) (text rest : List ℕ) → HasOctet f (text ++ rest) (length text)
        → (tail : List ℕ) × (left : List ℕ) × (f.octets ≡ drop (f.index - 1) text ++ tail) × (1 ≤ length rest → 1 ≤ length tail) × (length tail ≤ length rest) × (rest ≡ tail ++ left)
    drop_splits f text rest h =
        let b : f.index - 1 ≤ length text = omega (arith, h.from) in
        let d : length (drop (f.index - 1) text) ≡ length text - (f.index - 1) = length-drop (f.index - 1) text in
        let k : length f.octets ≡ length (drop (f.index - 1) text) + (length f.octets - (length text - (f.index - 1))) = omega (arith, d, h.until, h.some_index, h.from) in
        let some : 1 ≤ length f.octets - (length text - (f.index - 1)) = omega (arith, h.until, h.some_index, h.from) in
        let octets : f.octets ≡ drop (f.index - 1) text ++ take (length f.octets - (length text - (f.index - 1))) rest =
        sym h.agrees ∙ ap (λ x. take (length f.octets) x) (drop-append-le (f.index - 1) text rest b)
        ∙ ap (λ m. take m (drop (f.index - 1) text ++ rest)) k
        ∙ take-append-add (drop (f.index - 1) text) rest (length f.octets - (length text - (f.index - 1))) in
        let t = length-take (length f.octets - (length text - (f.index - 1))) rest in (
          take (length f.octets - (length text - (f.index - 1))) rest,
          drop (length f.octets - (length text - (f.index - 1))) rest,
          octets,
          (λ one. omega (arith, t, some, one)),
          omega (arith, t),
          sym (take-append-drop (length f.octets - (length text - (f.index - 1))) rest),
        )
