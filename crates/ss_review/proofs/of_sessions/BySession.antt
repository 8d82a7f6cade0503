-- Blocks that stand by session, and their sections.
use Rattle.std.proofs.Common.{◌≡◌, ℕ, zero, suc, ◌+◌, ◌<◌, ◌≤◌, Bool, true, false, cond, not, ◌&&◌, List, [], ◌∷◌, ◌++◌, length, get_or, take, drop, map, filter, Bor, refl, sym, ap, ◌∙◌, subst, ◌-◌, length-drop, arith}
use Rattle.std.specs.declared.cmp.Ordering.{Ordering}
use Rattle.std.specs.declared.cmp.Ordering.TheVariants.{Less, Equal, Greater}
use Rattle.std.specs.Ordering.{is_eq, is_lt, is_gt, ordering_reverse}
use Rattle.std.specs.List.{AllByRecursion, take-map}
use Rattle.std.specs.List.Sorted.{IsSortedByKey, IsStableBy, IsPermutation, ties}
use Rattle.std.proofs.lemmas.Cmp.{tied_itself}
use Rattle.std.proofs.lemmas.List.{get_or_default, drop_more, drop-drop, drop-map}
use Rattle.std.proofs.lemmas.List.Sorted.{sorted_far, ranks_by, Contains-permutation, IsPermutation-sym, IsPermutation-map}
use Rattle.std.proofs.Math.Seq.{take-append_seam, drop-append_seam}
use Rattle.ss_block.specs.declared.session.Session.{Session}
use Rattle.ss_block.specs.Order.{session_cmp}
use Rattle.ss_block.specs.OrderLaws.{session_cmp_total, session_cmp_exact}
use Rattle.ss_review.specs.keep.BlockMessage.{BlockMessage}
use Rattle.ss_review.specs.sessions.Sessions.{same_session, sessions, of_session}
use Rattle.ss_review.specs.sessions.Sectioned.{sections, referred, front, SessionsRise, EndsSection}
use Rattle.ss_octets.proofs.Members.{Has, has_from_contains, contains_from_has, from_has-map}
use Rattle.ss_review.proofs.of_lists.Rising.{in_order_same, from_has-in_order}
use Rattle.ss_review.proofs.of_lists.Sections as sectioned
use Rattle.ss_review.proofs.of_lists.Sections.{map_agree}

abbrev session_of : BlockMessage → Session
session_of b = b.session

abbrev back : Session → List BlockMessage → List BlockMessage
back s bs = sectioned.back session_of session_cmp_total session_cmp_exact s bs

-- ---- a sorted list stands by session

pub not_gt : (c : Ordering) → is_lt (ordering_reverse c) ≡ false → is_gt c ≡ false
not_gt Less e = refl
not_gt Equal e = refl
not_gt Greater e = cc

above_of : (x : Bor BlockMessage) (xs : List (Bor BlockMessage)) → ((k : ℕ) → k < length xs → is_lt (session_cmp (get_or xs k x).now.session x.now.session) ≡ false) → AllByRecursion (λ (y : BlockMessage). is_gt (session_cmp x.now.session y.session) ≡ false) (referred xs)
above_of x [] h = tt
above_of x (y ∷ ys) h = (
  not_gt (session_cmp x.now.session y.now.session) (ap is_lt (sym (session_cmp_total.antisymm y.now.session x.now.session)) ∙ h 0 (omega arith)),
  above_of x ys (λ k below. h (suc k) (omega arith)),
)

rise_of : (xs : List (Bor BlockMessage)) → ((i j : ℕ) (d : Bor BlockMessage) → i ≤ j → j < length xs → is_lt (session_cmp (get_or xs j d).now.session (get_or xs i d).now.session) ≡ false) → SessionsRise (referred xs)
rise_of [] h = tt
rise_of (x ∷ xs) h = (
  above_of x xs (λ k below. h 0 (suc k) x (omega arith) (omega arith)),
  rise_of xs (λ i j d le below. h (suc i) (suc j) d (omega arith) (omega arith)),
)

pub sessions_rise : (xs : List (Bor BlockMessage)) → IsSortedByKey (λ (b : Bor BlockMessage). b.now.session) session_cmp xs → SessionsRise (referred xs)
sessions_rise xs up =
    rise_of xs (sorted_far (λ (x y : Bor BlockMessage). is_lt (session_cmp x.now.session y.now.session)) (ranks_by session_cmp_total (λ (b : Bor BlockMessage). b.now.session)) xs up)

pub sessions_rise-drop : (n : ℕ) (xs : List (Bor BlockMessage)) → SessionsRise (referred xs) → SessionsRise (referred (drop n xs))
sessions_rise-drop zero xs up = up
sessions_rise-drop (suc n) [] up = tt
sessions_rise-drop (suc n) (x ∷ xs) up = sessions_rise-drop n xs up.1

keys_rise : (bs : List BlockMessage) → SessionsRise bs → sectioned.KeysRise session_of session_cmp_total session_cmp_exact bs
keys_rise [] up = tt
keys_rise (b ∷ bs) up = (up.0, keys_rise bs up.1)

-- ---- the first that are of a session

front_is : (s : Session) (bs : List BlockMessage) → sectioned.front session_of session_cmp_total session_cmp_exact s bs ≡ front s bs
front_is s [] = refl
front_is s (b ∷ bs) = ap (λ fs. cond (same_session b.session s) (b ∷ fs) []) (front_is s bs)

front_here : (s : Session) (xs : List (Bor BlockMessage)) (i : ℕ) (x : Bor BlockMessage) → i < length xs → x ≡ get_or xs i x → front s (referred (drop i xs)) ≡ cond (same_session x.now.session s) (x.now ∷ front s (referred (drop (i + 1) xs))) []
front_here s xs i x below e =
    ap (λ ys. front s (referred ys)) (drop_more xs i x below)
    ∙ ap (λ (y : Bor BlockMessage). cond (same_session y.now.session s) (y.now ∷ front s (referred (drop (i + 1) xs))) []) (sym e)

pub front_more : (s : Session) (xs : List (Bor BlockMessage)) (i : ℕ) (x : Bor BlockMessage) → i < length xs → x ≡ get_or xs i x → same_session x.now.session s ≡ true → length (front s (referred (drop i xs))) ≡ length (front s (referred (drop (i + 1) xs))) + 1
front_more s xs i x below e same =
    ap length (front_here s xs i x below e ∙ ap (λ b. cond b (x.now ∷ front s (referred (drop (i + 1) xs))) []) same)
    ∙ omega arith

pub front_over : (s : Session) (xs : List (Bor BlockMessage)) (i : ℕ) (x : Bor BlockMessage) → i < length xs → x ≡ get_or xs i x → same_session x.now.session s ≡ false → length (front s (referred (drop i xs))) ≡ 0
front_over s xs i x below e other =
    ap length (front_here s xs i x below e ∙ ap (λ b. cond b (x.now ∷ front s (referred (drop (i + 1) xs))) []) other)

-- ---- one section more

mine : (s : Session) → same_session s s ≡ true
mine s = ap is_eq (tied_itself session_cmp_total s)

section_first : (x : Bor BlockMessage) (xs : List (Bor BlockMessage)) → SessionsRise (referred (x ∷ xs)) → sections (referred (x ∷ xs)) ≡ (x.now.session, front x.now.session (referred (x ∷ xs))) ∷ sections (back x.now.session (referred (x ∷ xs)))
section_first x xs up =
    sectioned.sections_step session_of session_cmp_total session_cmp_exact x.now (referred xs) (keys_rise (referred (x ∷ xs)) up)
    ∙ (λ i. (x.now.session, sym starts i) ∷ sections (sym ends i))
  where
    starts : front x.now.session (referred (x ∷ xs)) ≡ x.now ∷ sectioned.front session_of session_cmp_total session_cmp_exact x.now.session (referred xs)
    starts = ap (λ b. cond b (x.now ∷ front x.now.session (referred xs)) []) (mine x.now.session) ∙ ap (λ fs. x.now ∷ fs) (sym (front_is x.now.session (referred xs)))

    ends : back x.now.session (referred (x ∷ xs)) ≡ back x.now.session (referred xs)
    ends = ap (λ b. cond b (back x.now.session (referred xs)) (x.now ∷ referred xs)) (mine x.now.session)

all_of : (s : Session) (xs : List (Bor BlockMessage)) → front s (referred xs) ++ back s (referred xs) ≡ referred xs
all_of s xs =
    ap (λ fs. fs ++ back s (referred xs)) (sym (front_is s (referred xs)))
    ∙ sectioned.split_is session_of session_cmp_total session_cmp_exact s (referred xs)

-- the front and the back as parts of the list
parts : (s : Session) (xs : List (Bor BlockMessage)) → (front s (referred xs) ≡ referred (take (length (front s (referred xs))) xs)) × (back s (referred xs) ≡ referred (drop (length (front s (referred xs))) xs))
parts s xs =
    let n = length (front s (referred xs)) in (
      sym (take-append_seam (front s (referred xs)) (back s (referred xs))) ∙ ap (take n) (all_of s xs) ∙ take-map (λ (b : Bor BlockMessage). b.now) n xs,
      sym (drop-append_seam (front s (referred xs)) (back s (referred xs))) ∙ ap (drop n) (all_of s xs) ∙ drop-map (λ (b : Bor BlockMessage). b.now) n xs,
    )

section_of : (x : Bor BlockMessage) (xs : List (Bor BlockMessage)) (n : ℕ) → SessionsRise (referred (x ∷ xs)) → n ≡ length (front x.now.session (referred (x ∷ xs))) → sections (referred (x ∷ xs)) ≡ (x.now.session, referred (take n (x ∷ xs))) ∷ sections (referred (drop n (x ∷ xs)))
section_of x xs n up e =
    let p = parts x.now.session (x ∷ xs) in
    section_first x xs up
    ∙ (λ i. (x.now.session, p.0 i) ∷ sections (p.1 i))
    ∙ ap (λ k. (x.now.session, referred (take k (x ∷ xs))) ∷ sections (referred (drop k (x ∷ xs)))) (sym e)

pub ends_section : (bs : List (Bor BlockMessage)) (start count : ℕ) (d : Bor BlockMessage) → SessionsRise (referred bs) → start < length bs → count ≡ length (front (get_or bs start d).now.session (referred (drop start bs))) → count ≤ length (drop start bs)
    → EndsSection bs start (start + count)
ends_section bs start count d up below long within =
    let x = get_or bs start d in
    let rest = drop (start + 1) bs in
    let here : drop start bs ≡ x ∷ rest = drop_more bs start d below in
    let count_is : count ≡ length (front x.now.session (referred (x ∷ rest))) = long ∙ ap (λ ys. length (front x.now.session (referred ys))) here in
    let ends : start + count - start ≡ count = omega arith in
    record {
      some = omega (arith, count_is, ap (λ b. length (cond b (x.now ∷ front x.now.session (referred rest)) [])) (mine x.now.session));
      within = omega (arith, within, below, length-drop start bs);
      sectioned = λ e.
          ap (λ ys. sections (referred ys)) here
          ∙ section_of x rest count (subst (λ ys. SessionsRise (referred ys)) here (sessions_rise-drop start bs up)) count_is
          ∙ (λ i. ((get_or_default bs start d e below i).now.session, referred (take (sym ends i) (sym here i))) ∷ sections (referred ((ap (drop count) (sym here) ∙ drop-drop count start bs) i)));
    }

-- ---- a stable sort keeps the sections

pub ties_at : (c : Ordering) → (not (is_lt (ordering_reverse c)) && not (is_lt c)) ≡ is_eq c
ties_at Less = refl
ties_at Equal = refl
ties_at Greater = refl

abbrev pub below : Bor BlockMessage → Bor BlockMessage → Bool
below x y = is_lt (session_cmp x.now.session y.now.session)

ties_is : (x y : Bor BlockMessage) → ties below x y ≡ same_session y.now.session x.now.session
ties_is x y =
    ap (λ c. not (is_lt c) && not (is_lt (session_cmp y.now.session x.now.session))) (session_cmp_total.antisymm x.now.session y.now.session)
    ∙ ties_at (session_cmp y.now.session x.now.session)

referred_at : (b : Bool) (x : Bor BlockMessage) (xs : List (Bor BlockMessage)) → cond b (x.now ∷ referred xs) (referred xs) ≡ referred (cond b (x ∷ xs) xs)
referred_at true x xs = refl
referred_at false x xs = refl

filter_referred : (p : BlockMessage → Bool) (q : Bor BlockMessage → Bool) → ((x : Bor BlockMessage) → q x ≡ p x.now) → (xs : List (Bor BlockMessage)) → filter p (referred xs) ≡ referred (filter q xs)
filter_referred p q e [] = refl
filter_referred p q e (x ∷ xs) =
    ap (λ ys. cond (p x.now) (x.now ∷ ys) ys) (filter_referred p q e xs)
    ∙ referred_at (p x.now) x (filter q xs)
    ∙ ap (λ b. referred (cond b (x ∷ filter q xs) (filter q xs))) (sym (e x))

permuted : (xs ys : List (Bor BlockMessage)) → IsPermutation xs ys → (q : Session) → Has (map session_of (referred xs)) q → Has (map session_of (referred ys)) q
permuted xs ys p q h =
    has_from_contains (map session_of (referred ys)) q
    (Contains-permutation (map session_of (referred xs)) (map session_of (referred ys)) q
    (IsPermutation-map session_of (referred xs) (referred ys) (IsPermutation-map (λ (b : Bor BlockMessage). b.now) xs ys p))
    (contains_from_has (map session_of (referred xs)) q h))

pub sections_stay : (xs ys : List (Bor BlockMessage)) → IsPermutation xs ys → IsStableBy below xs ys → sections (referred ys) ≡ sections (referred xs)
sections_stay xs ys p stable =
    ap (map (λ s. (s, of_session (referred ys) s))) (in_order_same session_cmp_total session_cmp_exact (map session_of (referred ys)) (map session_of (referred xs)) (permuted ys xs (IsPermutation-sym xs ys p)) (permuted xs ys p))
    ∙ map_agree (λ s. (s, of_session (referred ys) s)) (λ s. (s, of_session (referred xs) s)) (sessions (referred xs)) each
  where
    one : (x : Bor BlockMessage) → of_session (referred ys) x.now.session ≡ of_session (referred xs) x.now.session
    one x =
        filter_referred (λ b. same_session b.session x.now.session) (ties below x) (ties_is x) ys
        ∙ ap referred (stable x)
        ∙ sym (filter_referred (λ b. same_session b.session x.now.session) (ties below x) (ties_is x) xs)

    each : (s : Session) → Has (sessions (referred xs)) s → ◌≡◌ {A = Session × List BlockMessage} (s, of_session (referred ys) s) (s, of_session (referred xs) s)
    each s h =
        let w : (b : BlockMessage) × Has (referred xs) b × (b.session ≡ s) = from_has-map session_of (referred xs) s (from_has-in_order session_cmp_total session_cmp_exact s (map session_of (referred xs)) h) in
        let v : (x : Bor BlockMessage) × Has xs x × (x.now ≡ w.0) = from_has-map (λ (b : Bor BlockMessage). b.now) xs w.0 w.1 in
        let at : v.0.now.session ≡ s = ap session_of v.2 ∙ w.2 in
        ap (λ bs. (s, bs)) (subst (λ q. of_session (referred ys) q ≡ of_session (referred xs) q) at (one v.0))
