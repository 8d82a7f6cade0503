-- A walk over the blocks of a log carries what the definition of the log names.
use Rattle.std.proofs.Common.{◌≡◌, ◌⊎◌, inl, inr, ℕ, ◌<◌, ◌≤◌, ◌&&◌, ◌||◌, Bool, true, false, cond, not, List, [], ◌∷◌, ◌++◌, length, get_or, take, filter, ◌+◌, refl, sym, ap, ◌∙◌, subst, append_assoc, arith}
use Rattle.std.specs.Prelude.{nat_lt, flat_map, filter_map, Option, Some, None}
use Rattle.std.specs.List.{list_any, cons_option}
use Rattle.std.specs.List.Sorted.{IsStrictlySortedBy}
use Rattle.std.specs.declared.cmp.Ordering.TheVariants.{Less}
use Rattle.std.specs.Ordering.{nat_cmp}
use Rattle.std.proofs.Math.Bool.{or-false}
use Rattle.std.proofs.lemmas.Bool.{lt-ltb, le-ltb, not-true}
use Rattle.std.proofs.lemmas.Cmp.{nat_cmp_total}
use Rattle.std.proofs.lemmas.List.{append-nil, map-append, length-map, length-take-le, take_more}
use Rattle.std.proofs.lemmas.List.Folds.{list_any-append}
use Rattle.std.proofs.lemmas.Map.Lookups.{exact_unsigned}
use Rattle.ss_review.specs.keep.BlockMessage.{BlockMessage, BlockContent, Hashes, Fragment}
use Rattle.ss_review.specs.declared.report.report.Report.{Report}
use Rattle.ss_review.specs.report.Extract.{place_listed}
use Rattle.ss_review.specs.Ordered.{in_order}
use Rattle.ss_review.specs.keep.Notes.{note, notes}
use Rattle.ss_review.specs.keep.Contents.{block_at, blocks}
use Rattle.ss_octets.proofs.Members.{Has, has-map, has-append_left, has-append_right, has-append_cases, has-filter, from_has-filter, from_has-map, has-flat_map, from_has-flat_map, all-has}
use Rattle.ss_review.proofs.of_kept_messages.Ends.{blocks_push}
use Rattle.ss_review.proofs.of_lists.Keyed.{from_less}
use Rattle.ss_review.proofs.of_lists.Lookups.{any_none}
use Rattle.ss_review.proofs.of_lists.Rising.{in_order_same}
use Rattle.ss_report.specs.runs.Carrying.{places_of, is_joined_in, is_refused_in, is_verified_in, is_fragment_of, is_first_said, is_gap, entries_said, entries_under, is_unjudged, is_first_certificate, has_gap}
use Rattle.ss_report.specs.runs.Carrying.{unjudged, certificates, gaps, listed, carried_by}
use Rattle.ss_report.specs.runs.CarriedSoFar.{carried_numbers, carried_verified, carried_with, carried_at, carried_along}

-- ---- one more block

pub blocks_more : (ms : List (List ℕ)) (i : ℕ) (d text : List ℕ) → i < length ms → text ≡ get_or ms i d
    → blocks (notes (take (i + 1) ms)) ≡ blocks (notes (take i ms)) ++ cons_option (block_at i (note text)) []
blocks_more ms i d text within is =
    let count : length (notes (take i ms)) ≡ i = omega (arith, length-map (take i ms) note, length-take-le i ms (omega (arith, within))) in
    ap (λ l. blocks (notes l)) (take_more ms i d within)
    ∙ ap blocks (map-append note (take i ms) (get_or ms i d ∷ []))
    ∙ blocks_push (notes (take i ms)) (note (get_or ms i d))
    ∙ (λ k. blocks (notes (take i ms)) ++ cons_option (block_at (count k) (note (sym is k))) [])

pub along_more : (r : Report) (before bs : List BlockMessage) (o : Option BlockMessage)
    → carried_along r before (bs ++ cons_option o []) ≡ carried_along r before bs ++ carried_at r (before ++ bs) o
along_more r before [] None = refl
along_more r before [] (Some b) =
    append-nil (carried_with r before b) ∙ ap (λ all. carried_with r all b) (sym (append-nil before))
along_more r before (b ∷ bs) o =
    ap (λ qs. carried_with r before b ++ qs) (along_more r (before ++ b ∷ []) bs o ∙ ap (λ all. carried_along r (before ++ b ∷ []) bs ++ carried_at r all o) (append_assoc before (b ∷ []) bs))
    ∙ sym (append_assoc (carried_with r before b) (carried_along r (before ++ b ∷ []) bs) (carried_at r (before ++ b ∷ bs) o))

-- ---- the blocks before one, where places rise

abbrev Rise : List BlockMessage → Type 0
Rise bs = IsStrictlySortedBy nat_cmp (places_of bs)

all_before : (before after : List BlockMessage) (b : BlockMessage) → Rise (before ++ b ∷ after) → (o : BlockMessage) → Has before o → o.place < b.place
unfolding IsStrictlySortedBy
all_before [] after b up o h = absurd h
all_before (x ∷ before) after b up o (inl e) =
    let there : Has (places_of (before ++ b ∷ after)) b.place = has-map (λ (c : BlockMessage). c.place) (before ++ b ∷ after) b (has-append_right before (b ∷ after) b (inl refl)) in
    subst (λ (c : BlockMessage). c.place < b.place) e (from_less x.place b.place (all-has (λ p. nat_cmp x.place p ≡ Less) (places_of (before ++ b ∷ after)) b.place up.0 there))
all_before (x ∷ before) after b up o (inr h) = all_before before after b up.1 o h

none_before : (before after : List BlockMessage) (b : BlockMessage) → Rise (before ++ b ∷ after) → (o : BlockMessage) → Has (b ∷ after) o → b.place ≤ o.place
unfolding IsStrictlySortedBy
none_before [] after b up o (inl e) = subst (λ (c : BlockMessage). b.place ≤ c.place) e (omega arith)
none_before [] after b up o (inr h) =
    let less : b.place < o.place = from_less b.place o.place (all-has (λ p. nat_cmp b.place p ≡ Less) (places_of after) o.place up.0 (has-map (λ (c : BlockMessage). c.place) after o h)) in
    omega arith
none_before (x ∷ before) after b up o h = none_before before after b up.1 o h

module _ (p : BlockMessage → Bool) (place : ℕ) where
  any_earlier : (bs : List BlockMessage) → ((o : BlockMessage) → Has bs o → o.place < place) → list_any (λ o. nat_lt o.place place && p o) bs ≡ list_any p bs
  any_earlier [] low = refl
  any_earlier (x ∷ bs) low =
      let here : nat_lt x.place place ≡ true = lt-ltb x.place place (low x (inl refl)) in
      let rest : list_any (λ o. nat_lt o.place place && p o) bs ≡ list_any p bs = any_earlier bs (λ o h. low o (inr h)) in
      λ i. (here i && p x) || rest i

  any_before : (before after : List BlockMessage) → ((o : BlockMessage) → Has before o → o.place < place) → ((o : BlockMessage) → Has after o → place ≤ o.place)
      → list_any (λ o. nat_lt o.place place && p o) (before ++ after) ≡ list_any p before
  any_before before after low high =
      let none : list_any (λ o. nat_lt o.place place && p o) after ≡ false
      = any_none (λ o. nat_lt o.place place && p o) after (λ o h. ap (λ b. b && p o) (le-ltb o.place place (high o h))) in
      list_any-append (λ o. nat_lt o.place place && p o) before after
      ∙ (λ i. any_earlier before low i || none i)
      ∙ or-false (list_any p before)

-- ---- what is carried for a block, by the whole log

cond-not : {A : Type 0} (b : Bool) (x y : A) → cond (not b) x y ≡ cond b y x
cond-not true x y = refl
cond-not false x y = refl

abbrev for_said : Report → List BlockMessage → BlockMessage → BlockContent → List ℕ
for_said r bs b (Hashes h) = carried_numbers (entries_under r b) b.place
for_said r bs b (Fragment c) = cond (is_first_said r bs b (Fragment c)) (b.place ∷ []) []

abbrev carried_for : Report → List BlockMessage → BlockMessage → List ℕ
carried_for r bs b = cond (not (is_joined_in r b.session)) (b.place ∷ []) (cond (is_refused_in r b) [] (for_said r bs b b.said))

said_is : (r : Report) (before after : List BlockMessage) (b : BlockMessage) (said : BlockContent) → Rise (before ++ b ∷ after)
    → carried_verified r before b said ≡ for_said r (before ++ b ∷ after) b said
said_is r before after b (Hashes h) up = refl
said_is r before after b (Fragment c) up =
    let same = any_before (is_fragment_of r b.session c.index (length c.fragment)) b.place before (b ∷ after) (all_before before after b up) (none_before before after b up) in
    ap (λ t. cond t [] (b.place ∷ [])) (sym same)
    ∙ sym (cond-not (list_any (λ o. nat_lt o.place b.place && is_fragment_of r b.session c.index (length c.fragment) o) (before ++ b ∷ after)) (b.place ∷ []) [])

with_is : (r : Report) (before after : List BlockMessage) (b : BlockMessage) → Rise (before ++ b ∷ after) → carried_with r before b ≡ carried_for r (before ++ b ∷ after) b
with_is r before after b up =
    ap (λ ps. cond (not (is_joined_in r b.session)) (b.place ∷ []) (cond (is_refused_in r b) [] ps)) (said_is r before after b b.said up)

along_is : (r : Report) (before bs : List BlockMessage) → Rise (before ++ bs) → carried_along r before bs ≡ flat_map (carried_for r (before ++ bs)) bs
along_is r before [] up = refl
along_is r before (b ∷ bs) up =
    let whole = append_assoc before (b ∷ []) bs in
    let rest = along_is r (before ++ b ∷ []) bs (subst Rise (sym whole) up) ∙ ap (λ all. flat_map (carried_for r all) bs) whole in
    λ i. with_is r before bs b up i ++ rest i

-- ---- the same places

both : (a b : Bool) → (a && b) ≡ true → (a ≡ true) × (b ≡ true)
both true b e = (refl, e)
both false b e = absurd (cc)

together : (a b : Bool) → a ≡ true → b ≡ true → (a && b) ≡ true
together a b s t = λ i. s i && t i

module _ (r : Report) (bs : List BlockMessage) where
  abbrev pub all : List ℕ
  all = unjudged r bs ++ certificates r bs ++ gaps r bs ++ listed r bs ++ r.unlisted

  abbrev walk : List ℕ
  walk = r.unlisted ++ flat_map (carried_for r bs) bs

  -- ---- each kind is among all

  in_unjudged : (q : ℕ) → Has (unjudged r bs) q → Has all q
  in_unjudged q h =
      has-append_left (unjudged r bs ++ certificates r bs ++ gaps r bs ++ listed r bs) r.unlisted q
      (has-append_left (unjudged r bs ++ certificates r bs ++ gaps r bs) (listed r bs) q
      (has-append_left (unjudged r bs ++ certificates r bs) (gaps r bs) q (has-append_left (unjudged r bs) (certificates r bs) q h)))

  in_certificates : (q : ℕ) → Has (certificates r bs) q → Has all q
  in_certificates q h =
      has-append_left (unjudged r bs ++ certificates r bs ++ gaps r bs ++ listed r bs) r.unlisted q
      (has-append_left (unjudged r bs ++ certificates r bs ++ gaps r bs) (listed r bs) q
      (has-append_left (unjudged r bs ++ certificates r bs) (gaps r bs) q (has-append_right (unjudged r bs) (certificates r bs) q h)))

  in_gaps : (q : ℕ) → Has (gaps r bs) q → Has all q
  in_gaps q h =
      has-append_left (unjudged r bs ++ certificates r bs ++ gaps r bs ++ listed r bs) r.unlisted q
      (has-append_left (unjudged r bs ++ certificates r bs ++ gaps r bs) (listed r bs) q
      (has-append_right (unjudged r bs ++ certificates r bs) (gaps r bs) q h))

  in_listed : (q : ℕ) → Has (listed r bs) q → Has all q
  in_listed q h =
      has-append_left (unjudged r bs ++ certificates r bs ++ gaps r bs ++ listed r bs) r.unlisted q
      (has-append_right (unjudged r bs ++ certificates r bs ++ gaps r bs) (listed r bs) q h)

  in_unlisted : (q : ℕ) → Has r.unlisted q → Has all q
  in_unlisted q h = has-append_right (unjudged r bs ++ certificates r bs ++ gaps r bs ++ listed r bs) r.unlisted q h

  of_kind : (k : BlockMessage → Bool) (b : BlockMessage) → Has bs b → k b ≡ true → Has (places_of (filter k bs)) b.place
  of_kind k b h t = has-map (λ (c : BlockMessage). c.place) (filter k bs) b (has-filter k bs b h t)

  -- ---- what the walk carries is of some kind

  of_verified : (b : BlockMessage) → Has bs b → is_verified_in r b ≡ true → (said : BlockContent) → b.said ≡ said → (q : ℕ) → Has (for_said r bs b said) q → Has all q
  of_verified b h v (Hashes s) e q i = by (list_any is_gap (entries_under r b)) refl i
    where
      by : (g : Bool) → list_any is_gap (entries_under r b) ≡ g → Has (cond g (b.place ∷ filter_map place_listed (entries_under r b)) []) q → Has all q
      by true t (inl p) = subst (Has all) p (in_gaps b.place (of_kind (has_gap r) b h (together _ _ v t)))
      by true t (inr l) = in_listed q (has-flat_map (λ (c : BlockMessage). filter_map place_listed (entries_under r c)) (filter (has_gap r) bs) b q (has-filter (has_gap r) bs b h (together _ _ v t)) l)
      by false t n = absurd n
  of_verified b h v (Fragment c) e q i = by (is_first_said r bs b (Fragment c)) refl i
    where
      by : (g : Bool) → is_first_said r bs b (Fragment c) ≡ g → Has (cond g (b.place ∷ []) []) q → Has all q
      by true t (inl p) = subst (Has all) p (in_certificates b.place (of_kind (is_first_certificate r bs) b h (together _ _ v (ap (is_first_said r bs b) e ∙ t))))
      by true t (inr n) = absurd n
      by false t n = absurd n

  of_block : (b : BlockMessage) → Has bs b → (q : ℕ) → Has (carried_for r bs b) q → Has all q
  of_block b h q i = by (is_joined_in r b.session) (is_refused_in r b) refl refl i
    where
      by : (j f : Bool) → is_joined_in r b.session ≡ j → is_refused_in r b ≡ f → Has (cond (not j) (b.place ∷ []) (cond f [] (for_said r bs b b.said))) q → Has all q
      by false f e t (inl p) = subst (Has all) p (in_unjudged b.place (of_kind (is_unjudged r) b h (ap not e)))
      by false f e t (inr n) = absurd n
      by true true e t n = absurd n
      by true false e t l = of_verified b h (together _ _ e (ap not t)) b.said refl q l

  forth : (q : ℕ) → Has walk q → Has all q
  forth q h =
      elim (has-append_cases r.unlisted (flat_map (carried_for r bs) bs) q h) [
        | inl l ↦ in_unlisted q l
        | inr w ↦ (let b : (b : BlockMessage) × Has bs b × Has (carried_for r bs b) q = from_has-flat_map (carried_for r bs) bs q w in of_block b.0 b.1 q b.2)
      ]

  -- ---- what is of some kind is carried on the walk

  carries : (b : BlockMessage) → Has bs b → (q : ℕ) → Has (carried_for r bs b) q → Has walk q
  carries b h q i = has-append_right r.unlisted (flat_map (carried_for r bs) bs) q (has-flat_map (carried_for r bs) bs b q h i)

  carries_verified : (b : BlockMessage) → Has bs b → is_verified_in r b ≡ true → (ps : List ℕ) → for_said r bs b b.said ≡ ps → (q : ℕ) → Has ps q → Has walk q
  carries_verified b h v ps e q i =
      let w = both (is_joined_in r b.session) (not (is_refused_in r b)) v in
      let is : carried_for r bs b ≡ ps = (λ k. cond (not (w.0 k)) (b.place ∷ []) (cond (not-true (is_refused_in r b) w.1 k) [] (for_said r bs b b.said))) ∙ e in
      carries b h q (subst (λ qs. Has qs q) (sym is) i)

  first_for : (b : BlockMessage) (said : BlockContent) → is_first_said r bs b said ≡ true → for_said r bs b said ≡ b.place ∷ []
  first_for b (Hashes s) e = absurd (cc)
  first_for b (Fragment c) e = ap (λ t. cond t (b.place ∷ []) []) e

  gap_for : (b : BlockMessage) (said : BlockContent) → b.said ≡ said → list_any is_gap (entries_under r b) ≡ true → for_said r bs b said ≡ b.place ∷ filter_map place_listed (entries_under r b)
  gap_for b (Hashes s) e t = ap (λ g. cond g (b.place ∷ filter_map place_listed (entries_under r b)) []) t
  gap_for b (Fragment c) e t =
      let none : false ≡ true = sym (ap (λ s. list_any is_gap (entries_said r b.session s)) e) ∙ t in
      absurd (cc)

  carries_unjudged : (q : ℕ) → Has (unjudged r bs) q → Has walk q
  carries_unjudged q h =
      let w : (b : BlockMessage) × Has (filter (is_unjudged r) bs) b × (b.place ≡ q) = from_has-map (λ (c : BlockMessage). c.place) (filter (is_unjudged r) bs) q h in
      let k = from_has-filter (is_unjudged r) bs w.0 w.1 in
      carries w.0 k.0 q (subst (λ t. Has (cond t (w.0.place ∷ []) (cond (is_refused_in r w.0) [] (for_said r bs w.0 w.0.said))) q) (sym k.1) (inl w.2))

  carries_certificates : (q : ℕ) → Has (certificates r bs) q → Has walk q
  carries_certificates q h =
      let w : (b : BlockMessage) × Has (filter (is_first_certificate r bs) bs) b × (b.place ≡ q) = from_has-map (λ (c : BlockMessage). c.place) (filter (is_first_certificate r bs) bs) q h in
      let k = from_has-filter (is_first_certificate r bs) bs w.0 w.1 in
      let v = both (is_verified_in r w.0) (is_first_said r bs w.0 w.0.said) k.1 in
      carries_verified w.0 k.0 v.0 (w.0.place ∷ []) (first_for w.0 w.0.said v.1) q (inl w.2)

  carries_gap : (b : BlockMessage) → Has (filter (has_gap r) bs) b → (q : ℕ) → Has (b.place ∷ filter_map place_listed (entries_under r b)) q → Has walk q
  carries_gap b h q i =
      let k = from_has-filter (has_gap r) bs b h in
      let v = both (is_verified_in r b) (list_any is_gap (entries_under r b)) k.1 in
      carries_verified b k.0 v.0 (b.place ∷ filter_map place_listed (entries_under r b)) (gap_for b b.said refl v.1) q i

  carries_gaps : (q : ℕ) → Has (gaps r bs) q → Has walk q
  carries_gaps q h =
      let w : (b : BlockMessage) × Has (filter (has_gap r) bs) b × (b.place ≡ q) = from_has-map (λ (c : BlockMessage). c.place) (filter (has_gap r) bs) q h in
      carries_gap w.0 w.1 q (inl w.2)

  carries_listed : (q : ℕ) → Has (listed r bs) q → Has walk q
  carries_listed q h =
      let w : (b : BlockMessage) × Has (filter (has_gap r) bs) b × Has (filter_map place_listed (entries_under r b)) q
      = from_has-flat_map (λ (c : BlockMessage). filter_map place_listed (entries_under r c)) (filter (has_gap r) bs) q h in
      carries_gap w.0 w.1 q (inr w.2)

  pub kinds : (q : ℕ) → Has all q → Has (unjudged r bs) q ⊎ (Has (certificates r bs) q ⊎ (Has (gaps r bs) q ⊎ (Has (listed r bs) q ⊎ Has r.unlisted q)))
  kinds q h =
      elim (has-append_cases (unjudged r bs ++ certificates r bs ++ gaps r bs ++ listed r bs) r.unlisted q h) [
        | inr x ↦ inr (inr (inr (inr x)))
        | inl h4 ↦ (elim (has-append_cases (unjudged r bs ++ certificates r bs ++ gaps r bs) (listed r bs) q h4) [
          | inr l ↦ inr (inr (inr (inl l)))
          | inl h3 ↦ (elim (has-append_cases (unjudged r bs ++ certificates r bs) (gaps r bs) q h3) [
            | inr g ↦ inr (inr (inl g))
            | inl h2 ↦ (elim (has-append_cases (unjudged r bs) (certificates r bs) q h2) [ inr c ↦ inr (inl c) | inl u ↦ inl u ])
          ])
        ])
      ]

  carries_kind : (q : ℕ) → Has (unjudged r bs) q ⊎ (Has (certificates r bs) q ⊎ (Has (gaps r bs) q ⊎ (Has (listed r bs) q ⊎ Has r.unlisted q))) → Has walk q
  carries_kind q (inl h) = carries_unjudged q h
  carries_kind q (inr (inl h)) = carries_certificates q h
  carries_kind q (inr (inr (inl h))) = carries_gaps q h
  carries_kind q (inr (inr (inr (inl h)))) = carries_listed q h
  carries_kind q (inr (inr (inr (inr h)))) = has-append_left r.unlisted (flat_map (carried_for r bs) bs) q h

  pub carried_is : Rise bs → in_order nat_cmp (r.unlisted ++ carried_along r [] bs) ≡ carried_by r bs
  unfolding carried_by
  carried_is up =
      ap (λ ps. in_order nat_cmp (r.unlisted ++ ps)) (along_is r [] bs up)
      ∙ in_order_same nat_cmp_total exact_unsigned walk all forth (λ q h. carries_kind q (kinds q h))
