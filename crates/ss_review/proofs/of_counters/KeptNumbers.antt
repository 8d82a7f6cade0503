-- What the counters of a session say so far, with one more of them, and what a report says of a group.
use Rattle.std.proofs.Common.{◌≡◌, ℕ, ◌+◌, ◌<◌, ◌≤◌, ◌^◌, Bool, true, false, cond, List, [], ◌∷◌, ◌++◌, length, get_or, take, map, flat_map, fold, Bor, refl, sym, ap, ◌∙◌, arith}
use Rattle.std.specs.Prelude.{max, unwrap_or, Some}
use Rattle.std.specs.declared.cmp.Ordering.TheVariants.{Less, Equal, Greater}
use Rattle.std.specs.Ordering.{ordering_index}
use Rattle.std.specs.BTreeMap as tree
use Rattle.std.specs.BTreeMap.{Updates}
use Rattle.std.specs.Cmp.{Equal-is}
use Rattle.std.specs.List.Sorted.{IsNonDecreasingBy, IsPartitionPoint}
use Rattle.std.proofs.lemmas.Grind.{flat_map-append}
use Rattle.std.proofs.lemmas.List.{append-nil, map-append, map_more, take_more, get_or_default}
use Rattle.std.proofs.lemmas.List.Elements.{All-contains}
use Rattle.std.proofs.lemmas.List.Sums.{fold-append}
use Rattle.ss_block.specs.declared.block.Group.{Group}
use Rattle.ss_block.specs.Order.{group_cmp}
use Rattle.ss_block.specs.OrderLaws.{group_cmp_total, group_cmp_exact}
use Rattle.ss_block.specs.Ranges.{past_last_number}
use Rattle.ss_review.specs.declared.counted.counter.Counter.{Counter}
use Rattle.ss_review.specs.declared.counted.counter.Counts.TheVariants as counts
use Rattle.ss_review.specs.declared.counted.shortfall.GroupTail.{GroupTail}
use Rattle.ss_review.specs.declared.report.group_report.GroupReport.{GroupReport}
use Rattle.ss_review.specs.counted.Counted.{next_number}
use Rattle.ss_review.specs.report.Entries.{same_group}
use Rattle.ss_review.specs.counted.Kept.{blocks_said, number_said, group_said, gbc_in, number_in, number_behind, tail_between, AreGroups}
use Rattle.ss_review.specs.counted.KeptSoFar.{led_to, KeepsNumbers}
use Rattle.ss_review.proofs.of_lists.Lookups.{found_alone, found_nowhere}
use Rattle.ss_review.proofs.of_lists.Rising.{all_below}
use Rattle.ss_review.proofs.of_lists.Sections.{keeps_none}

-- ---- one counter more

pub led_more : (xs : List (Bor Counter)) (i : ℕ) (x : Bor Counter) → i < length xs → x ≡ get_or xs i x → led_to (take (i + 1) xs) ≡ led_to (take i xs) ++ x.now ∷ []
led_more xs i x below e = map_more (λ (c : Bor Counter). c.now) xs i x below ∙ ap (λ (y : Bor Counter). led_to (take i xs) ++ y.now ∷ []) (sym e)

greatest_more : (f : Counter → ℕ) (own : List Counter) (c : Counter) → fold max 0 (map f (own ++ c ∷ [])) ≡ max (fold max 0 (map f own)) (f c)
greatest_more f own c = ap (fold max 0) (map-append f own (c ∷ [])) ∙ fold-append max 0 (map f own) (f c ∷ [])

pub gbc_more : (own : List Counter) (c : Counter) → gbc_in (own ++ c ∷ []) ≡ max (gbc_in own) (blocks_said c.counts c.next)
unfolding gbc_in
gbc_more own c = greatest_more (λ d. blocks_said d.counts d.next) own c

pub number_more : (own : List Counter) (c : Counter) (g : Group) → number_in (own ++ c ∷ []) g ≡ max (number_in own g) (number_said g c.counts c.next)
unfolding number_in
number_more own c g = greatest_more (λ d. number_said g d.counts d.next) own c

pub groups_more : (own : List Counter) (c : Counter) → flat_map (λ (d : Counter). group_said d.counts) (own ++ c ∷ []) ≡ flat_map (λ (d : Counter). group_said d.counts) own ++ group_said c.counts
groups_more own c =
    flat_map-append (λ (d : Counter). group_said d.counts) own (c ∷ [])
    ∙ ap (λ gs. flat_map (λ (d : Counter). group_said d.counts) own ++ gs) (append-nil (group_said c.counts))

-- ---- the numbers of groups

none_more : (n : ℕ) → n ≡ max n 0
none_more n = omega arith

pub blocks_keep : (m : tree.BTreeMap Group ℕ) (own : List Counter) (c : Counter) → c.counts ≡ counts.Blocks → KeepsNumbers m own → KeepsNumbers m (own ++ c ∷ [])
blocks_keep m own c e k = λ g.
    k g
    ∙ none_more (number_in own g)
    ∙ sym (number_more own c g ∙ ap (λ n. max (number_in own g) (number_said g n c.next)) e)

module _ (m n : tree.BTreeMap Group ℕ) (own : List Counter) (c : Counter) (h : Group) (v : ℕ) (speaks : c.counts ≡ counts.Messages h) (update : Updates group_cmp m n h (Some v)) (greatest : v ≡ max (unwrap_or (tree.get group_cmp m h) 0) c.next) (k : KeepsNumbers m own) where
  number_at : (g : Group) (b : Bool) → same_group h g ≡ b → unwrap_or (tree.get group_cmp n g) 0 ≡ number_in (own ++ c ∷ []) g
  number_at g true t =
      ap (λ o. unwrap_or o 0) (update.0 g ∙ ap (λ b. cond b (Some v) (tree.get group_cmp m g)) t)
      ∙ greatest
      ∙ ap (λ most. max most c.next) (k h)
      ∙ ap (λ q. max (number_in own q) c.next) (group_cmp_exact h g ((Equal-is (group_cmp h g)).0 t))
      ∙ ap (λ b. max (number_in own g) (cond b c.next 0)) (sym t)
      ∙ sym (number_more own c g ∙ ap (λ s. max (number_in own g) (number_said g s c.next)) speaks)
  number_at g false t =
      ap (λ o. unwrap_or o 0) (update.0 g ∙ ap (λ b. cond b (Some v) (tree.get group_cmp m g)) t)
      ∙ k g
      ∙ none_more (number_in own g)
      ∙ ap (λ b. max (number_in own g) (cond b c.next 0)) (sym t)
      ∙ sym (number_more own c g ∙ ap (λ s. max (number_in own g) (number_said g s c.next)) speaks)

  pub group_keeps : KeepsNumbers n (own ++ c ∷ [])
  group_keeps = λ g. number_at g (same_group h g) refl

-- ---- what a report says of a group

abbrev of : GroupReport → Group
of r = r.group

pub next_within : (gs : List GroupReport) → AreGroups gs → (i : ℕ) (d : GroupReport) → i < length gs → next_number (get_or gs i d) < 2 ^ 64
next_within gs are i d below =
    let r = get_or gs i d in
    let most : next_number r ≤ past_last_number = All-contains (λ (g : GroupReport). next_number g ≤ past_last_number) gs r are.within (i, below, get_or_default gs i r d below) in
    omega (arith, most)

pub behind_found : (gs : List GroupReport) → AreGroups gs → (g : Group) (i : ℕ) (d : GroupReport) → i < length gs → group_cmp (get_or gs i d).group g ≡ Equal → number_behind gs g ≡ max 1 (next_number (get_or gs i d))
behind_found gs are g i d below tie =
    ap (λ rs. fold max 1 (map next_number rs)) (found_alone group_cmp_total group_cmp_exact of g gs i d are.rise below tie)

pub behind_none : (gs : List GroupReport) → AreGroups gs → (g : Group) (i : ℕ)
    → (IsNonDecreasingBy (λ r. ordering_index (group_cmp (of r) g)) gs → IsPartitionPoint (λ r. group_cmp (of r) g ≡ Less) (λ r. group_cmp (of r) g ≡ Greater) gs i)
    → number_behind gs g ≡ 1
behind_none gs are g i parted =
    ap (λ rs. fold max 1 (map next_number rs))
    (keeps_none (λ (r : GroupReport). same_group r.group g) gs (all_below (λ (r : GroupReport). same_group r.group g ≡ false) gs (found_nowhere group_cmp_total group_cmp_exact of g gs i are.rise parted)))

-- ---- the tail of one group more

module _ (own : List Counter) (gs : List GroupReport) where
  abbrev tail_of : Group → List GroupTail
  tail_of g = tail_between g (number_behind gs g) (number_in own g)

  pub tails_more : (kept : List Group) (i : ℕ) (g : Group) → i < length kept → g ≡ get_or kept i g → flat_map tail_of (take (i + 1) kept) ≡ flat_map tail_of (take i kept) ++ tail_of g
  tails_more kept i g below e =
      ap (flat_map tail_of) (take_more kept i g below)
      ∙ flat_map-append tail_of (take i kept) (get_or kept i g ∷ [])
      ∙ ap (λ ts. flat_map tail_of (take i kept) ++ ts) (append-nil (tail_of (get_or kept i g)) ∙ ap tail_of (sym e))
