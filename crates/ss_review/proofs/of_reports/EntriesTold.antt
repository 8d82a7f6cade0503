-- The entries of numbers in their order are those of their keys.
use Rattle.std.proofs.Common.{◌≡◌, inl, inr, ℕ, ◌<◌, ◌≤◌, false, cond, List, [], ◌∷◌, ◌++◌, length, map, filter, flat_map, fold, refl, sym, ap, ◌∙◌, subst, arith}
use Rattle.std.specs.Prelude.{Option, Some, None, Result, max, nat_lt, if◌then◌else◌}
use Rattle.std.specs.declared.cmp.Ordering.TheVariants.{Less}
use Rattle.std.specs.Ordering.{nat_cmp}
use Rattle.std.specs.List.{AllByRecursion, zip}
use Rattle.std.specs.List.Sorted.{IsStrictlySortedBy}
use Rattle.std.proofs.lemmas.Bool.{lt-ltb, le-ltb}
use Rattle.std.proofs.lemmas.List.{append_assoc}
use Rattle.ss_block.specs.declared.hash.Hash.{Hash}
use Rattle.ss_review.specs.declared.report.entry.Why.{Why}
use Rattle.ss_review.specs.declared.report.entry.Why.TheVariants as whys
use Rattle.ss_review.specs.declared.report.entry.Entry.{Entry}
use Rattle.ss_review.specs.declared.report.entry.Entry.TheVariants as entry
use Rattle.ss_review.specs.declared.keep.message.NormalMessage.{NormalMessage}
use Rattle.ss_review.specs.declared.announced.message_number.MessageNumber.{MessageNumber}
use Rattle.ss_review.specs.announced.Announced.{Key, Row, keys, hashes_for}
use Rattle.ss_review.specs.assign.Assigned.{assigned}
use Rattle.ss_review.specs.report.Entries.{entry_with, entry_of, hole_between, entries}
use Rattle.ss_review.specs.announced.Numbered.{key_of, only_hash, only_hashes}
use Rattle.ss_review.specs.report.Grouped.{found_for, found_with, entry_by, numbered, with_entry, with_entries, entries_after}
use Rattle.ss_review.proofs.of_numbers.Announcements.{from_has-keys, has-hashes_for}
use Rattle.ss_review.proofs.of_lists.Keyed.{from_less}
use Rattle.ss_octets.proofs.Members.{Has, has-map, all-has}
use Rattle.ss_review.proofs.of_lists.Rising.{all_below}
use Rattle.ss_review.proofs.of_lists.Sections.{keeps_none}

-- ---- the entry of a number

-- a hash that is the only one is disputed by no other
gap_from : (n : ℕ) (hs : List Hash) (h : Hash) → Has hs h → entry_by n (found_for (only_hash hs) None) ≡ entry.Gap n (if nat_lt 1 (length hs) then whys.Disputed else whys.Lost)
gap_from n [] h i = absurd i
gap_from n (h ∷ []) g i = refl
gap_from n (h ∷ g ∷ hs) f i = ap (λ b. entry.Gap n (if b then whys.Disputed else whys.Lost)) (sym (lt-ltb 1 (length (h ∷ g ∷ hs)) (omega arith)))

hash_of : (rs : List Row) (k : Key) → Has (keys rs) k → (h : Hash) × Has (hashes_for rs k) h
hash_of rs k i =
    let w = from_has-keys rs k i in
    (w.0.hash, has-hashes_for rs k w.0.hash (subst (λ (j : Key). Has rs (record { key = j; hash = w.0.hash })) w.2 w.1))

entry_at : (rs : List Row) (k : Key) (place : Option ℕ) → Has (keys rs) k → entry_by k.number (found_for (only_hash (hashes_for rs k)) place) ≡ entry_with rs k place
entry_at rs k (Some place) i = refl
entry_at rs k None i = let h = hash_of rs k i in gap_from k.number (hashes_for rs k) h.0 h.1

-- the place of each number, or why it has none
abbrev found_all : List (Option Hash) → List (Option ℕ) → List (Result ℕ Why)
found_all hs ps = map found_with (zip hs ps)

zipped_are : (ms : List NormalMessage) (rs : List Row) (ns : List MessageNumber) → ((n : MessageNumber) → Has ns n → Has (keys rs) (key_of n))
    → map with_entry (numbered ns (found_all (map (λ k. only_hash (hashes_for rs k)) (map key_of ns)) (map (assigned ms rs) (map key_of ns)))) ≡ with_entries ms rs (map key_of ns)
zipped_are ms rs [] within = refl
zipped_are ms rs (n ∷ ns) within =
    let head : entry_by n.number (found_for (only_hash (hashes_for rs (key_of n))) (assigned ms rs (key_of n))) ≡ entry_of ms rs (key_of n) = entry_at rs (key_of n) (assigned ms rs (key_of n)) (within n (inl refl)) in
    let rest = zipped_are ms rs ns (λ m h. within m (inr h)) in
    λ i. (key_of n, head i) ∷ rest i

pub numbered_are : (ms : List NormalMessage) (rs : List Row) (ns : List MessageNumber) (found : List (Result ℕ Why))
    → map key_of ns ≡ keys rs → found ≡ found_all (only_hashes rs) (map (assigned ms rs) (keys rs)) → map with_entry (numbered ns found) ≡ with_entries ms rs (keys rs)
numbered_are ms rs ns found e f =
    ap (λ xs. map with_entry (numbered ns xs)) f
    ∙ (λ i. map with_entry (numbered ns (found_all (map (λ k. only_hash (hashes_for rs k)) (sym e i)) (map (assigned ms rs) (sym e i)))))
    ∙ zipped_are ms rs ns (λ n h. subst (λ ks. Has ks (key_of n)) e (has-map key_of ns n h))
    ∙ ap (with_entries ms rs) e

-- ---- the entries of a group

pub flat_map_agree : {X Y : Type 0} (f g : X → List Y) (xs : List X) → ((x : X) → Has xs x → f x ≡ g x) → flat_map f xs ≡ flat_map g xs
flat_map_agree f g [] e = refl
flat_map_agree f g (x ∷ xs) e =
    let head : f x ≡ g x = e x (inl refl) in
    let rest : flat_map f xs ≡ flat_map g xs = flat_map_agree f g xs (λ y h. e y (inr h)) in
    λ i. head i ++ rest i

-- the greatest of a first number and those of the keys below another
abbrev greatest : ℕ → List Key → ℕ → ℕ
greatest first ks n = fold max first (filter (λ m. nat_lt m n) (map (λ k. k.number) ks))

-- none of the keys is below the first of them
greatest_first : (a : ℕ) (k : Key) (ks : List Key) → AllByRecursion (λ n. nat_cmp k.number n ≡ Less) (map (λ (j : Key). j.number) ks) → greatest a (k ∷ ks) k.number ≡ a
greatest_first a k ks up =
    ap (fold max a)
    (keeps_none (λ m. nat_lt m k.number) (map (λ (j : Key). j.number) (k ∷ ks)) (
      le-ltb k.number k.number (omega arith),
      all_below (λ m. nat_lt m k.number ≡ false) (map (λ (j : Key). j.number) ks) (λ m h.
          le-ltb m k.number (omega (arith, from_less k.number m (all-has (λ n. nat_cmp k.number n ≡ Less) (map (λ (j : Key). j.number) ks) m up h)))),
    ))

-- below a later key the first one stands in for what is before it
greatest_later : (a : ℕ) (k : Key) (ks : List Key) (n : ℕ) → a ≤ k.number → k.number < n → greatest a (k ∷ ks) n ≡ greatest k.number ks n
greatest_later a k ks n least less =
    let below = filter (λ m. nat_lt m n) (map (λ (j : Key). j.number) ks) in
    ap (λ b. fold max a (cond b (k.number ∷ below) below)) (lt-ltb k.number n less)
    ∙ ap (λ first. fold max first below) (let most : max a k.number ≡ k.number = omega arith in most)

module _ (ms : List NormalMessage) (rs : List Row) where
  abbrev told : ℕ → List Key → Key → List Entry
  told first ks k = hole_between (greatest first ks k.number) k.number ++ entry_of ms rs k ∷ []

  told_along : (a : ℕ) (ks : List Key) → ((k : Key) → Has ks k → a ≤ k.number) → IsStrictlySortedBy nat_cmp (map (λ (k : Key). k.number) ks) → entries_after a (with_entries ms rs ks) ≡ flat_map (told a ks) ks
  unfolding IsStrictlySortedBy
  told_along a [] least up = refl
  told_along a (k ∷ ks) least up =
      let above : (j : Key) → Has ks j → k.number < j.number = λ j h. from_less k.number j.number (all-has (λ n. nat_cmp k.number n ≡ Less) (map (λ (i : Key). i.number) ks) j.number up.0 (has-map (λ (i : Key). i.number) ks j h)) in
      let rest : entries_after k.number (with_entries ms rs ks) ≡ flat_map (told k.number ks) ks = told_along k.number ks (λ j h. (let l = above j h in omega arith)) up.1 in
      let later : flat_map (told k.number ks) ks ≡ flat_map (told a (k ∷ ks)) ks
      = flat_map_agree (told k.number ks) (told a (k ∷ ks)) ks (λ j h. ap (λ last. hole_between last j.number ++ entry_of ms rs j ∷ []) (sym (greatest_later a k ks j.number (least k (inl refl)) (above j h)))) in
      (λ i. hole_between (sym (greatest_first a k ks up.0) i) k.number ++ entry_of ms rs k ∷ (rest ∙ later) i)
      ∙ sym (append_assoc (hole_between (greatest a (k ∷ ks) k.number) k.number) (entry_of ms rs k ∷ []) (flat_map (told a (k ∷ ks)) ks))

  pub entries_told : (ks : List Key) → IsStrictlySortedBy nat_cmp (map (λ (k : Key). k.number) ks) → entries_after 0 (with_entries ms rs ks) ≡ entries ms rs ks
  unfolding entries
  entries_told ks up = told_along 0 ks (λ k h. omega arith) up
