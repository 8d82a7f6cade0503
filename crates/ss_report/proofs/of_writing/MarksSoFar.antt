-- The marks of the payloads of the sessions so far, and then that of the next one.
use Rattle.std.proofs.Common.{◌≡◌, ℕ, zero, suc, ◌+◌, ◌<◌, ◌≤◌, arith, not, List, [], ◌∷◌, ◌++◌, length, get_or, take, refl, sym, ap, ◌∙◌, subst}
use Rattle.std.proofs.lemmas.List.{map-append, take_more, take_all}
use Rattle.std.specs.BTreeMap.{BTreeMap, IsEmpty, btree_map_len, is_at}
use Rattle.std.specs.Map.{lookup}
use Rattle.std.specs.Ordering.{nat_cmp}
use Rattle.std.specs.Cmp.Lexicographic.{slice_cmp}
use Rattle.std.specs.Borrow.{Bor}
use Rattle.ss_review.specs.declared.questions.asked.AskedSession.{AskedSession}
use Rattle.ss_report.specs.declared.texts.payload_marks.Mark.{Mark}
use Rattle.ss_report.specs.declared.payloads.Payloads.{Payloads}
use Rattle.ss_report.specs.declared.payloads.Payloads.TheVariants.{Once}
use Rattle.ss_report.specs.texts.Payloads.{AreMarks, each_once, mark, marks_behind, marks}
use Rattle.ss_report.specs.texts.KnownPayloads.{Knows}
use Rattle.ss_report.proofs.of_writing.KnownSoFar.{IsMarked}
use Rattle.ss_report.proofs.of_writing.PayloadIndexes.{among_once, index_of_next, marks_more, once_more}
use Rattle.ss_report.proofs.of_writing.SessionsOnce.{payloads}

-- what is known of the sessions so far, and their marks
pub record AreMarkedTo (m : BTreeMap (Bor (List ℕ)) ℕ) (ms : List Mark) (ss : List AskedSession) (i : ℕ) : Type 0 where
  pub known : Knows m (each_once (payloads (take i ss)))
  pub marked : ms ≡ marks_behind (each_once (payloads ss)) [] (payloads (take i ss))

-- a list before an item, the item, and the rest
cut : (ss : List AskedSession) (i : ℕ) (d : AskedSession) → i < length ss → (rest : List AskedSession) × (ss ≡ take i ss ++ get_or ss i d ∷ rest)
cut [] i d within = absurd (omega (arith, within))
cut (s ∷ ss) zero d within = (ss, refl)
cut (s ∷ ss) (suc i) d within =
    let rest = cut ss i d (omega (arith, within)) in
    (rest.0, ap (λ l. s ∷ l) rest.1)

mark_is : (m n : Mark) → m.index ≡ n.index → m.is_new ≡ n.is_new → m ≡ n
mark_is m n index is_new = λ i. record { index = index i; is_new = is_new i }

next_payloads : (ss : List AskedSession) (i : ℕ) (d : AskedSession) → i < length ss → payloads (take (i + 1) ss) ≡ payloads (take i ss) ++ (get_or ss i d).payload ∷ []
next_payloads ss i d within = ap payloads (take_more ss i d within) ∙ map-append (λ (s : AskedSession). s.payload) (take i ss) (get_or ss i d ∷ [])

pub marked_more : (n m : BTreeMap (Bor (List ℕ)) ℕ) (ms ns : List Mark) (ss : List AskedSession) (i : ℕ) (d : AskedSession) (p : List ℕ) (next : Mark) → i < length ss
    → p ≡ (get_or ss i d).payload → AreMarkedTo m ms ss i → IsMarked n (each_once (payloads (take i ss))) p next.index next.is_new
    → ns ≡ ms ++ next ∷ [] → AreMarkedTo n ns ss (i + 1)
marked_more n m ms ns ss i d p next within is so_far marked put =
    let before = payloads (take i ss) in
    let all = each_once (payloads ss) in
    let behind = cut ss i d within in
    let more : before ++ p ∷ [] ≡ payloads (take (i + 1) ss) = ap (λ q. before ++ q ∷ []) is ∙ sym (next_payloads ss i d within) in
    let whole : payloads ss ≡ before ++ p ∷ payloads behind.0 =
    ap payloads behind.1 ∙ map-append (λ (s : AskedSession). s.payload) (take i ss) (get_or ss i d ∷ behind.0) ∙ ap (λ q. before ++ q ∷ payloads behind.0) (sym is) in
    let same : next ≡ mark all before p = mark_is next (mark all before p)
    (marked.1 ∙ sym (index_of_next all before p (payloads behind.0) (ap each_once whole)))
    (marked.2 ∙ ap not (among_once before p)) in
    record {
      known = subst (Knows n) (sym (once_more before p) ∙ ap each_once more) marked.0;
      marked = put ∙ ap (λ l. l ++ next ∷ []) so_far.marked ∙ ap (λ k. marks_behind all [] before ++ k ∷ []) same ∙ sym (marks_more all [] before p) ∙ ap (marks_behind all []) more;
    }

pub marked_all : (m : BTreeMap (Bor (List ℕ)) ℕ) (ms : List Mark) (ss : List AskedSession) (i : ℕ) → length ss ≤ i → AreMarkedTo m ms ss i → ms ≡ marks (payloads ss)
unfolding marks
marked_all m ms ss i past so_far = so_far.marked ∙ ap (λ l. marks_behind (each_once (payloads ss)) [] (payloads l)) (take_all i ss past)

pub marked_none : (m : BTreeMap (Bor (List ℕ)) ℕ) (ms : List Mark) (ss : List AskedSession) → IsEmpty m → btree_map_len m ≡ 0 → ms ≡ [] → AreMarkedTo m ms ss 0
unfolding each_once
marked_none m ms ss empty len none = record {
  known = record { found = λ q. ap (λ es. lookup (is_at (λ k. slice_cmp nat_cmp q k.now)) es) empty; many = len };
  marked = none;
}

-- the marks that are kept where each payload is written once
pub marks_where_once : (wanted : Payloads) (ns ms : List Mark) (ts ss : List AskedSession) → wanted ≡ Once → ts ≡ ss → ns ≡ ms → AreMarks wanted ss ms → ns ≡ marks (payloads ts)
marks_where_once wanted ns ms ts ss is same equal are =
    let kept : ms ≡ marks (payloads ss) = subst (λ (p : Payloads). AreMarks p ss ms) is are in
    equal ∙ kept ∙ ap (λ l. marks (payloads l)) (sym same)
