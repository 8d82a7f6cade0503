-- Rows, keys and hashes of the list of what is announced, and what they say of the blocks.
use Rattle.std.proofs.Common.{◌≡◌, ℕ, zero, suc, ◌+◌, ◌<◌, inl, inr, true, List, [], ◌∷◌, length, map, filter, refl, sym, ap, ◌∙◌, subst, arith}
use Rattle.std.specs.Prelude.{◌≢◌, Some, slice_get}
use Rattle.std.specs.declared.cmp.Ordering.TheVariants.{Less, Equal}
use Rattle.std.specs.Ordering.{is_eq, ordering_then}
use Rattle.std.specs.Cmp.{Equal-is}
use Rattle.std.specs.List.{enumerate_from, flat_map, AllByRecursion}
use Rattle.std.specs.List.Sorted.{IsStrictlySortedBy}
use Rattle.std.proofs.lemmas.Bool.{lt-ltb, ltb-true}
use Rattle.std.proofs.lemmas.Cmp.{tied_itself}
use Rattle.std.proofs.lemmas.List.Kept.{IsStrictlySortedBy-filter}
use Rattle.ss_block.specs.declared.hash.Hash.{Hash}
use Rattle.ss_review.specs.keep.BlockMessage.{BlockMessage, BlockContent, Hashes, Fragment}
use Rattle.ss_block.specs.Order.{hash_cmp}
use Rattle.ss_review.specs.sessions.Verified.{Answers, is_verified}
use Rattle.ss_review.specs.announced.Announced.{Key, Row, key_cmp, row_cmp, same_key, rows_said, rows, keys, hashes_for, is_disputed_key}
use Rattle.ss_review.specs.announced.Announcing.{Announces, IsAnnounced, IsDisputedKey}
use Rattle.ss_octets.proofs.Members.{Has, has_from_contains, contains_from_has, has-map, from_has-map, has-filter, from_has-filter, has-flat_map, from_has-flat_map, all-has}
use Rattle.ss_review.proofs.of_lists.Rising.{all_below, rises-in_order, has-in_order, from_has-in_order}
use Rattle.ss_block.specs.OrderLaws.{hash_cmp_total}
use Rattle.ss_review.proofs.of_lists.TotalOrders.{key_cmp_total, key_cmp_exact, row_cmp_total, row_cmp_exact}

-- ---- numbered elements

pub numbered_from : {X : Type 0} (k : ℕ) (xs : List X) (n : ℕ × X) → Has (enumerate_from k xs) n → (i : ℕ) × (n.0 ≡ k + i) × (slice_get xs i ≡ Some n.1)
numbered_from k [] n h = absurd h
numbered_from {X} k (x ∷ xs) n (inl e) =
    let at : k ≡ n.0 = ap (λ (m : ℕ × X). m.0) e in
    let it : x ≡ n.1 = ap (λ (m : ℕ × X). m.1) e in
    (0, omega (arith, at), ap (λ (y : X). Some y) it)
numbered_from {X} k (x ∷ xs) n (inr h) =
    let w : (i : ℕ) × (n.0 ≡ k + 1 + i) × (slice_get xs i ≡ Some n.1) = numbered_from (k + 1) xs n h in
    (suc w.0, omega (arith, w.1), w.2)

pub has-numbered : {X : Type 0} (k : ℕ) (xs : List X) (i : ℕ) (x : X) → slice_get xs i ≡ Some x → Has (enumerate_from k xs) (k + i, x)
has-numbered k [] i x e = absurd (cc)
has-numbered k (y ∷ ys) zero x e =
    let at : k ≡ k + 0 = omega arith in
    let it : y ≡ x = cc in
    inl (λ j. (at j, it j))
has-numbered {X} k (y ∷ ys) (suc i) x e =
    let at : k + 1 + i ≡ k + suc i = omega arith in
    inr (subst (λ n. Has (enumerate_from (k + 1) ys) (n, x)) at (has-numbered (k + 1) ys i x e))

-- ---- rows

row_said : (says : Answers) (bs : List BlockMessage) (b : BlockMessage) → Has bs b → is_verified says bs b ≡ true → (said : BlockContent) → b.said ≡ said → (r : Row) → Has (rows_said b.session said) r → Announces says bs r.key r.hash
row_said says bs b h v (Fragment c) e r i = absurd i
row_said says bs b h v (Hashes d) e r i =
    let w : (n : ℕ × Hash) × Has (enumerate_from d.first d.hashes) n × (record { key = record { session = b.session; group = d.group; number = n.0 }; hash = n.1 } ≡ r)
    = from_has-map (λ (n : ℕ × Hash). record { key = record { session = b.session; group = d.group; number = n.0 }; hash = n.1 }) (enumerate_from d.first d.hashes) r i in
    let at = numbered_from d.first d.hashes w.0 w.1 in
    record {
      message = b;
      stored = contains_from_has bs b h;
      verified = v;
      session_is = ap (λ (x : Row). x.key.session) w.2;
      said = d;
      says_so = e;
      group_is = ap (λ (x : Row). x.key.group) w.2;
      index = at.0;
      number = sym (ap (λ (x : Row). x.key.number) w.2) ∙ at.1;
      hash = at.2 ∙ ap (λ (x : Row). Some x.hash) w.2;
    }

-- each row is announced
pub announced_row : (says : Answers) (bs : List BlockMessage) (r : Row) → Has (rows says bs) r → Announces says bs r.key r.hash
unfolding rows
announced_row says bs r h =
    let w : (b : BlockMessage) × Has (filter (is_verified says bs) bs) b × Has (rows_said b.session b.said) r
    = from_has-flat_map (λ (b : BlockMessage). rows_said b.session b.said) (filter (is_verified says bs) bs) r
    (from_has-in_order row_cmp_total row_cmp_exact r (flat_map (λ (b : BlockMessage). rows_said b.session b.said) (filter (is_verified says bs) bs)) h) in
    let f = from_has-filter (is_verified says bs) bs w.0 w.1 in
    row_said says bs w.0 f.0 f.1 w.0.said refl r w.2

-- and all that is announced is a row
pub has-rows : (says : Answers) (bs : List BlockMessage) (k : Key) (h : Hash) → Announces says bs k h → Has (rows says bs) (record { key = k; hash = h })
unfolding rows
has-rows says bs k h a =
    let d = a.said in
    let here : Has (rows_said a.message.session (Hashes d)) (record { key = record { session = a.message.session; group = d.group; number = d.first + a.index }; hash = h })
    = has-map (λ (n : ℕ × Hash). record { key = record { session = a.message.session; group = d.group; number = n.0 }; hash = n.1 }) (enumerate_from d.first d.hashes) (d.first + a.index, h) (has-numbered d.first d.hashes a.index h a.hash) in
    let row : Has (rows_said a.message.session a.message.said) (record { key = k; hash = h })
    = subst (λ said. Has (rows_said a.message.session said) (record { key = k; hash = h })) (sym a.says_so)
    (subst (λ (j : Key). Has (rows_said a.message.session (Hashes d)) (record { key = j; hash = h }))
    (λ i. record { session = a.session_is i; group = a.group_is i; number = sym a.number i }) here) in
    has-in_order row_cmp_total row_cmp_exact (record { key = k; hash = h }) (flat_map (λ (b : BlockMessage). rows_said b.session b.said) (filter (is_verified says bs) bs))
    (has-flat_map (λ (b : BlockMessage). rows_said b.session b.said) (filter (is_verified says bs) bs) a.message (record { key = k; hash = h })
    (has-filter (is_verified says bs) bs a.message (has_from_contains bs a.message a.stored) a.verified) row)

-- ---- keys

pub keys-rise : (rs : List Row) → IsStrictlySortedBy key_cmp (keys rs)
unfolding keys
keys-rise rs = rises-in_order key_cmp_total key_cmp_exact (map (λ (r : Row). r.key) rs)

pub from_has-keys : (rs : List Row) (k : Key) → Has (keys rs) k → (r : Row) × Has rs r × (r.key ≡ k)
unfolding keys
from_has-keys rs k h = from_has-map (λ (r : Row). r.key) rs k (from_has-in_order key_cmp_total key_cmp_exact k (map (λ (r : Row). r.key) rs) h)

pub has-keys : (rs : List Row) (r : Row) → Has rs r → Has (keys rs) r.key
unfolding keys
has-keys rs r h = has-in_order key_cmp_total key_cmp_exact r.key (map (λ (r : Row). r.key) rs) (has-map (λ (r : Row). r.key) rs r h)

-- the keys are those that are announced
pub announced_key : (says : Answers) (bs : List BlockMessage) (k : Key) → Has (keys (rows says bs)) k → IsAnnounced says bs k
announced_key says bs k h =
    let w = from_has-keys (rows says bs) k h in
    (w.0.hash, subst (λ (j : Key). Announces says bs j w.0.hash) w.2 (announced_row says bs w.0 w.1))

pub has-announced_key : (says : Answers) (bs : List BlockMessage) (k : Key) → IsAnnounced says bs k → Has (keys (rows says bs)) k
has-announced_key says bs k a = has-keys (rows says bs) (record { key = k; hash = a.0 }) (has-rows says bs k a.0 a.1)

-- ---- the hashes for a key

key_is : (j k : Key) → same_key j k ≡ true → j ≡ k
key_is j k e = key_cmp_exact j k ((Equal-is (key_cmp j k)).0 e)

pub from_has-hashes_for : (rs : List Row) (k : Key) (h : Hash) → Has (hashes_for rs k) h → Has rs (record { key = k; hash = h })
from_has-hashes_for rs k h i =
    let w : (r : Row) × Has (filter (λ (r : Row). same_key r.key k) rs) r × (r.hash ≡ h) = from_has-map (λ (r : Row). r.hash) (filter (λ (r : Row). same_key r.key k) rs) h i in
    let f = from_has-filter (λ (r : Row). same_key r.key k) rs w.0 w.1 in
    let at : w.0.key ≡ k = key_is w.0.key k f.1 in
    subst (Has rs) (λ j. record { key = at j; hash = w.2 j }) f.0

pub has-hashes_for : (rs : List Row) (k : Key) (h : Hash) → Has rs (record { key = k; hash = h }) → Has (hashes_for rs k) h
has-hashes_for rs k h i =
    has-map (λ (r : Row). r.hash) (filter (λ (r : Row). same_key r.key k) rs) (record { key = k; hash = h })
    (has-filter (λ (r : Row). same_key r.key k) rs (record { key = k; hash = h }) i (ap is_eq (tied_itself key_cmp_total k)))

-- a row that is below another with the same key has the smaller hash
hash_below : (k : Key) (r s : Row) → row_cmp r s ≡ Less → r.key ≡ k → s.key ≡ k → hash_cmp r.hash s.hash ≡ Less
hash_below k r s e p q =
    let tie : key_cmp r.key s.key ≡ Equal = (λ i. key_cmp (p i) (q i)) ∙ tied_itself key_cmp_total k in
    sym (ap (λ c. ordering_then c (hash_cmp r.hash s.hash)) tie) ∙ e

hashes_at : (k : Key) (rs : List Row) → IsStrictlySortedBy row_cmp rs → AllByRecursion (λ r. r.key ≡ k) rs → IsStrictlySortedBy hash_cmp (map (λ (r : Row). r.hash) rs)
unfolding IsStrictlySortedBy
hashes_at k [] up a = tt
hashes_at k (r ∷ rs) up a = (
  all_below (λ h. hash_cmp r.hash h ≡ Less) (map (λ (s : Row). s.hash) rs) (λ h i.
      (let w : (s : Row) × Has rs s × (s.hash ≡ h) = from_has-map (λ (s : Row). s.hash) rs h i in
      subst (λ g. hash_cmp r.hash g ≡ Less) w.2 (hash_below k r w.0 (all-has (λ s. row_cmp r s ≡ Less) rs w.0 up.0 w.1) a.0 (all-has (λ (s : Row). s.key ≡ k) rs w.0 a.1 w.1)))),
  hashes_at k rs up.1 a.1,
)

-- each hash for a key is told once
pub hashes_for-rise : (rs : List Row) (k : Key) → IsStrictlySortedBy row_cmp rs → IsStrictlySortedBy hash_cmp (hashes_for rs k)
hashes_for-rise rs k up =
    hashes_at k (filter (λ (r : Row). same_key r.key k) rs) (IsStrictlySortedBy-filter row_cmp (λ (r : Row). same_key r.key k) rs up)
    (all_below (λ (r : Row). r.key ≡ k) (filter (λ (r : Row). same_key r.key k) rs) (λ r h. key_is r.key k (from_has-filter (λ (r : Row). same_key r.key k) rs r h).1))

pub rows-rise : (says : Answers) (bs : List BlockMessage) → IsStrictlySortedBy row_cmp (rows says bs)
unfolding rows
rows-rise says bs = rises-in_order row_cmp_total row_cmp_exact (flat_map (λ (b : BlockMessage). rows_said b.session b.said) (filter (is_verified says bs) bs))

-- ---- disputes

not_below_itself : (h : Hash) → hash_cmp h h ≡ Less → ⊥
not_below_itself h e = let t : hash_cmp h h ≡ Equal = tied_itself hash_cmp_total h in absurd (cc)

two_of : (hs : List Hash) → IsStrictlySortedBy hash_cmp hs → 1 < length hs → (h : Hash) × (g : Hash) × Has hs h × Has hs g × (h ≢ g)
unfolding IsStrictlySortedBy
two_of [] up l = absurd (omega (arith, l))
two_of (h ∷ []) up l = absurd (omega (arith, l))
two_of (h ∷ g ∷ hs) up l =
    (h, g, inl refl, inr (inl refl), λ e. not_below_itself h (subst (λ x. hash_cmp h x ≡ Less) (sym e) up.0.0))

more_than_one : (hs : List Hash) (h g : Hash) → Has hs h → Has hs g → h ≢ g → 1 < length hs
more_than_one [] h g i j n = absurd i
more_than_one (x ∷ []) h g (inl e) (inl f) n = absurd (n (sym e ∙ f))
more_than_one (x ∷ []) h g (inl e) (inr j) n = absurd j
more_than_one (x ∷ []) h g (inr i) j n = absurd i
more_than_one (x ∷ y ∷ hs) h g i j n = omega arith

pub disputed_key : (says : Answers) (bs : List BlockMessage) (k : Key) → is_disputed_key (rows says bs) k ≡ true → IsDisputedKey says bs k
disputed_key says bs k e =
    let w = two_of (hashes_for (rows says bs) k) (hashes_for-rise (rows says bs) k (rows-rise says bs)) (ltb-true 1 (length (hashes_for (rows says bs) k)) e) in
    (w.0, w.1, announced_row says bs (record { key = k; hash = w.0 }) (from_has-hashes_for (rows says bs) k w.0 w.2), announced_row says bs (record { key = k; hash = w.1 }) (from_has-hashes_for (rows says bs) k w.1 w.3), w.4)

pub has-disputed_key : (says : Answers) (bs : List BlockMessage) (k : Key) → IsDisputedKey says bs k → is_disputed_key (rows says bs) k ≡ true
has-disputed_key says bs k d =
    lt-ltb 1 (length (hashes_for (rows says bs) k))
    (more_than_one (hashes_for (rows says bs) k) d.0 d.1 (has-hashes_for (rows says bs) k d.0 (has-rows says bs k d.0 d.2)) (has-hashes_for (rows says bs) k d.1 (has-rows says bs k d.1 d.3)) d.4)
