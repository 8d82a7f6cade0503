-- Rows in order, number by number.
use Rattle.std.proofs.Common.{◌≡◌, ℕ, ◌+◌, ◌<◌, Bool, true, false, not, cond, List, [], ◌∷◌, ◌++◌, length, get_or, drop, map, Bor, refl, sym, ap, ◌∙◌, subst}
use Rattle.std.specs.Prelude.{Option, Some, None, All, option_map}
use Rattle.std.specs.declared.cmp.Ordering.TheVariants.{Less}
use Rattle.std.specs.Ordering.{is_gt, is_eq}
use Rattle.std.specs.Cmp.{Equal-is}
use Rattle.std.specs.Slice.{IsItemAt}
use Rattle.std.specs.List.Sorted.{IsStrictlySortedBy}
use Rattle.std.proofs.lemmas.List.{append-nil, append_assoc, drop_more, drop_all}
use Rattle.std.proofs.lemmas.Simd.{map-map}
use Rattle.ss_block.specs.declared.hash.Hash.{Hash}
use Rattle.ss_block.specs.Order.{hash_cmp, session_cmp}
use Rattle.ss_review.specs.declared.announced.announced_hash.AnnouncedHash as row
use Rattle.ss_review.specs.Ordered.{in_order}
use Rattle.ss_review.specs.announced.Announced.{Key, Row, key_cmp, row_cmp, same_key, keys}
use Rattle.ss_review.specs.announced.Numbered.{only_hash, only_hashes}
use Rattle.ss_review.specs.announced.Indexed.{row_at, goes_on}
use Rattle.ss_review.specs.declared.sessions.joined_session.JoinedSession.{JoinedSession}
use Rattle.ss_octets.proofs.Members.{all-has}
use Rattle.ss_review.proofs.of_lists.Rising.{all_below}
use Rattle.ss_review.proofs.of_lists.Sections.{KeysRise, front, back, sections, keys_step, sections_step}
use Rattle.ss_review.proofs.of_lists.TotalOrders.{key_cmp_total, key_cmp_exact, then_first}
use Rattle.ss_review.proofs.of_numbers.IndexedRows.{numbers_stand}

abbrev key_in : Row → Key
key_in r = r.key

abbrev pub RowsRise : List Row → Type 0
RowsRise rs = KeysRise key_in key_cmp_total key_cmp_exact rs

rows_rise : (rs : List Row) → IsStrictlySortedBy row_cmp rs → RowsRise rs
unfolding IsStrictlySortedBy
rows_rise [] up = tt
rows_rise (r ∷ rs) up = (all_below (λ s. is_gt (key_cmp r.key s.key) ≡ false) rs (λ s h. then_first (key_cmp r.key s.key) (hash_cmp r.hash s.hash) (all-has (λ s. row_cmp r s ≡ Less) rs s up.0 h)), rows_rise rs up.1)

-- ---- the rows of one key, and those behind them

abbrev alike : Key → List Row → List Row
alike k rs = front key_in key_cmp_total key_cmp_exact k rs

abbrev pub behind : Key → List Row → List Row
behind k rs = back key_in key_cmp_total key_cmp_exact k rs

pub first_key : (r : Row) (rs : List Row) → RowsRise (r ∷ rs) → keys (r ∷ rs) ≡ r.key ∷ keys (behind r.key rs)
unfolding keys
first_key r rs up = keys_step key_in key_cmp_total key_cmp_exact r rs up

abbrev hash_in : Key × List Row → Option Hash
hash_in section = only_hash (map (λ r. r.hash) section.1)

from_sections : (rs : List Row) → only_hashes rs ≡ map hash_in (sections key_in key_cmp_total key_cmp_exact rs)
unfolding keys
from_sections rs = sym (map-map hash_in _ (keys rs))

-- the first of these rows is of this row's key too
abbrev goes : Row → List Row → Bool
goes r [] = false
goes r (s ∷ rest) = same_key s.key r.key

-- the hash of a key's first row, unless the row after it is of that key too
abbrev hash_with : Row → Bool → Option Hash
hash_with r more = cond more None (Some r.hash)

alike_hash : (r : Row) (rest : List Row) → only_hash (r.hash ∷ map (λ s. s.hash) (alike r.key rest)) ≡ hash_with r (goes r rest)
alike_hash r [] = refl
alike_hash r (s ∷ rest) = at (same_key s.key r.key)
  where
    at : (b : Bool) → only_hash (r.hash ∷ map (λ (q : Row). q.hash) (cond b (s ∷ alike r.key rest) [])) ≡ cond b None (Some r.hash)
    at true = refl
    at false = refl

pub first_hash : (r : Row) (rest : List Row) → RowsRise (r ∷ rest) → only_hashes (r ∷ rest) ≡ hash_with r (goes r rest) ∷ only_hashes (behind r.key rest)
first_hash r rest up =
    from_sections (r ∷ rest)
    ∙ ap (map hash_in) (sections_step key_in key_cmp_total key_cmp_exact r rest up)
    ∙ (λ i. alike_hash r rest i ∷ sym (from_sections (behind r.key rest)) i)

-- ---- the rows one after the other

-- the rows that are left: the rest, without those of its first row's key, unless that row is the first of its key
abbrev left : Bool → List Row → List Row
left is_first [] = []
left is_first (r ∷ rest) = cond is_first (r ∷ rest) (behind r.key rest)

next_left : (r : Row) (rest : List Row) → left (not (goes r rest)) rest ≡ behind r.key rest
next_left r [] = refl
next_left r (s ∷ rest) = at (same_key s.key r.key) refl
  where
    at : (b : Bool) → same_key s.key r.key ≡ b → cond (not b) (s ∷ rest) (behind s.key rest) ≡ cond b (behind r.key rest) (s ∷ rest)
    at true e = ap (λ k. behind k rest) (key_cmp_exact s.key r.key ((Equal-is (key_cmp s.key r.key)).0 e))
    at false e = refl

-- These keys and hashes, and those of the rows that are left, are those of all rows.
pub record IsTold (ks : List Key) (hs : List (Option Hash)) (is_first : Bool) (rs rest : List Row) : Type 0 where
  pub rise : RowsRise rest
  pub keys : ks ++ keys (left is_first rest) ≡ keys rs
  pub hashes : hs ++ only_hashes (left is_first rest) ≡ only_hashes rs

all_left : (rs : List Row) → left true rs ≡ rs
all_left [] = refl
all_left (r ∷ rs) = refl

-- no row is told yet
pub told_begin : (ks : List Key) (hs : List (Option Hash)) (rs : List Row) → ks ≡ [] → hs ≡ [] → IsStrictlySortedBy row_cmp rs → IsTold ks hs true rs rs
told_begin ks hs rs k h up = record {
  rise = rows_rise rs up;
  keys = λ i. k i ++ keys (all_left rs i);
  hashes = λ i. h i ++ only_hashes (all_left rs i);
}

told_more : (ks : List Key) (hs : List (Option Hash)) (rs : List Row) (r : Row) (rest : List Row) → IsTold ks hs false rs (r ∷ rest) → IsTold ks hs (not (goes r rest)) rs rest
told_more ks hs rs r rest t = record {
  rise = t.rise.1;
  keys = ap (λ qs. ks ++ keys qs) (next_left r rest) ∙ t.keys;
  hashes = ap (λ qs. hs ++ only_hashes qs) (next_left r rest) ∙ t.hashes;
}

told_first : (ks : List Key) (hs : List (Option Hash)) (rs : List Row) (r : Row) (rest : List Row) → IsTold ks hs true rs (r ∷ rest)
    → IsTold (ks ++ r.key ∷ []) (hs ++ hash_with r (goes r rest) ∷ []) (not (goes r rest)) rs rest
told_first ks hs rs r rest t = record {
  rise = t.rise.1;
  keys = append_assoc ks (r.key ∷ []) (keys (left (not (goes r rest)) rest)) ∙ ap (λ js. ks ++ js) (ap (λ qs. r.key ∷ keys qs) (next_left r rest) ∙ sym (first_key r rest t.rise)) ∙ t.keys;
  hashes = append_assoc hs (hash_with r (goes r rest) ∷ []) (only_hashes (left (not (goes r rest)) rest)) ∙ ap (λ gs. hs ++ gs) (ap (λ qs. hash_with r (goes r rest) ∷ only_hashes qs) (next_left r rest) ∙ sym (first_hash r rest t.rise)) ∙ t.hashes;
}

told_as : (ks js : List Key) (hs gs : List (Option Hash)) (is_first new : Bool) (rs rest : List Row) → js ≡ ks → gs ≡ hs → new ≡ is_first → IsTold ks hs is_first rs rest → IsTold js gs new rs rest
told_as ks js hs gs is_first new rs rest k h f t = record {
  rise = t.rise;
  keys = (λ i. k i ++ keys (left (f i) rest)) ∙ t.keys;
  hashes = (λ i. h i ++ only_hashes (left (f i) rest)) ∙ t.hashes;
}

pub told_all : (ks : List Key) (hs : List (Option Hash)) (is_first : Bool) (rs : List Row) → IsTold ks hs is_first rs [] → (ks ≡ keys rs) × (hs ≡ only_hashes rs)
unfolding keys in_order
told_all ks hs is_first rs t = (sym (append-nil ks) ∙ t.keys, sym (append-nil hs) ∙ t.hashes)

-- the row after another, as the slice gives it
goes_is : (js : List JoinedSession) → IsStrictlySortedBy session_cmp (map (λ (s : JoinedSession). s.session) js)
    → (rows : List row.AnnouncedHash) (n : ℕ) (r : row.AnnouncedHash) (next : Option (Bor row.AnnouncedHash)) → All (λ q. q.number.session < length js) rows → r.number.session < length js
    → IsItemAt rows n next → goes_on r (option_map (λ x. x.now) next) ≡ goes (row_at js r) (map (row_at js) (drop n rows))
goes_is js up rows n r None known here at = ap (λ qs. goes (row_at js r) (map (row_at js) qs)) (sym (drop_all n rows at.3))
goes_is js up rows n r (Some x) known here at =
    let there : x.now.number.session < length js = subst (λ (q : row.AnnouncedHash). q.number.session < length js) (sym at.1) (known n x.now at.3.0) in
    ap is_eq (numbers_stand js up x.now.number r.number there here)
    ∙ ap (λ q. same_key (row_at js q).key (row_at js r).key) at.1
    ∙ sym (ap (λ qs. goes (row_at js r) (map (row_at js) qs)) (drop_more rows n x.now at.3.0))

-- ---- one more row

module _ (js : List JoinedSession) (up : IsStrictlySortedBy session_cmp (map (λ (s : JoinedSession). s.session) js))
    (rows : List row.AnnouncedHash) (known : All (λ q. q.number.session < length js) rows)
    (n : ℕ) (d : row.AnnouncedHash) (within : n < length rows)
    (next : Option (Bor row.AnnouncedHash)) (at : IsItemAt rows (n + 1) next)
    (more : Bool) (told : more ≡ goes_on (get_or rows n d) (option_map (λ x. x.now) next)) where
  abbrev this : Row
  this = row_at js (get_or rows n d)

  abbrev all : List Row
  all = map (row_at js) rows

  abbrev rest : List Row
  rest = map (row_at js) (drop (n + 1) rows)

  more_is : more ≡ goes this rest
  more_is = told ∙ goes_is js up rows (n + 1) (get_or rows n d) next known (known n d within) at

  here : (ks : List Key) (hs : List (Option Hash)) (is_first b : Bool) → is_first ≡ b → IsTold ks hs is_first all (map (row_at js) (drop n rows)) → IsTold ks hs b all (this ∷ rest)
  here ks hs is_first b e t =
      subst (λ c. IsTold ks hs c all (this ∷ rest)) e (subst (IsTold ks hs is_first all) (ap (map (row_at js)) (drop_more rows n d within)) t)

  pub row_of_next : (ks ns : List Key) (hs gs : List (Option Hash)) (is_first : Bool) → is_first ≡ true → ns ≡ ks ++ this.key ∷ [] → gs ≡ hs ++ hash_with this more ∷ []
      → IsTold ks hs is_first all (map (row_at js) (drop n rows)) → IsTold ns gs (not more) all rest
  row_of_next ks ns hs gs is_first first k h t =
      told_as (ks ++ this.key ∷ []) ns (hs ++ hash_with this (goes this rest) ∷ []) gs (not (goes this rest)) (not more) all rest
      k (h ∙ ap (λ m. hs ++ hash_with this m ∷ []) more_is) (ap not more_is)
      (told_first ks hs all this rest (here ks hs is_first true first t))

  pub row_of_same : (ks ns : List Key) (hs gs : List (Option Hash)) (is_first : Bool) → is_first ≡ false → ns ≡ ks → gs ≡ hs
      → IsTold ks hs is_first all (map (row_at js) (drop n rows)) → IsTold ns gs (not more) all rest
  row_of_same ks ns hs gs is_first other k h t =
      told_as ks ns hs gs (not (goes this rest)) (not more) all rest k h (ap not more_is) (told_more ks hs all this rest (here ks hs is_first false other t))
