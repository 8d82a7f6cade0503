-- Orders: those of keys and rows are total, and only equal values tie in them.
use Rattle.std.proofs.Common.{◌≡◌, true, false, Less, Equal, Greater, refl}
use Rattle.std.specs.declared.cmp.Ordering.{Ordering}
use Rattle.std.specs.Ordering.{is_lt, is_gt, ordering_then}
use Rattle.std.specs.Cmp.{IsTotalOrder}
use Rattle.std.proofs.lemmas.Cmp.{then_total, on_total, nat_cmp_total}
use Rattle.std.proofs.lemmas.Map.Lookups.{CmpEqualImpliesEq, exact_unsigned}
use Rattle.ss_block.specs.OrderLaws.{session_cmp_total, session_cmp_exact, group_cmp_total, group_cmp_exact, hash_cmp_total, hash_cmp_exact}
use Rattle.ss_review.specs.announced.Announced.{Key, Row, key_cmp, row_cmp}

-- ---- what is less

pub less_is : (c : Ordering) → is_lt c ≡ true → c ≡ Less
less_is Less e = refl
less_is Equal e = cc
less_is Greater e = cc

pub then_first : (c d : Ordering) → ordering_then c d ≡ Less → is_gt c ≡ false
then_first Less d e = refl
then_first Equal d e = refl
then_first Greater d e = cc

-- ---- they are total

pub key_cmp_total : IsTotalOrder key_cmp
key_cmp_total =
    then_total (on_total (λ (k : Key). k.session) session_cmp_total)
    (then_total (on_total (λ (k : Key). k.group) group_cmp_total) (on_total (λ (k : Key). k.number) nat_cmp_total))

pub row_cmp_total : IsTotalOrder row_cmp
row_cmp_total = then_total (on_total (λ (r : Row). r.key) key_cmp_total) (on_total (λ (r : Row). r.hash) hash_cmp_total)

-- ---- what ties is equal

pub both_tie : (p q : Ordering) → ordering_then p q ≡ Equal → (p ≡ Equal) × (q ≡ Equal)
both_tie Less q e = cc
both_tie Equal q e = (refl, e)
both_tie Greater q e = cc

pub key_cmp_exact : CmpEqualImpliesEq key_cmp
key_cmp_exact a b e =
    let t = both_tie _ _ e in
    let u = both_tie _ _ t.1 in
    λ i. record { session = session_cmp_exact a.session b.session t.0 i; group = group_cmp_exact a.group b.group u.0 i; number = exact_unsigned a.number b.number u.1 i }

pub row_cmp_exact : CmpEqualImpliesEq row_cmp
row_cmp_exact a b e =
    let t = both_tie _ _ e in
    λ i. record { key = key_cmp_exact a.key b.key t.0 i; hash = hash_cmp_exact a.hash b.hash t.1 i }
