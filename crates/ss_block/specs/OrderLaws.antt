-- What holds for the orders: each is total, and only equal values tie.
use Rattle.std.specs.Prelude.{◌≡◌, ℕ, ◌==◌, List, [], ◌∷◌, if◌then◌else◌, refl}
use Rattle.std.proofs.Common.{sym, ◌∙◌, ap, subst}
use Rattle.std.specs.declared.cmp.Ordering.{Ordering}
use Rattle.std.specs.declared.cmp.Ordering.TheVariants.{Less, Equal, Greater}
use Rattle.std.specs.Ordering.{nat_cmp, ordering_then}
use Rattle.std.specs.Cmp.{IsTotalOrder, then_total, on_total, nat_cmp_total}
use Rattle.std.specs.Cmp.Lexicographic.{nat_list_cmp_total}
use Rattle.std.proofs.lemmas.Map.Lookups.{exact_unsigned, exact_bytes}
use Rattle.ss_octets.specs.Ascii.{dash}
use Rattle.ss_message.specs.declared.draft.Field.{Field}
use Rattle.ss_message.specs.declared.draft.Field.TheVariants.{Nil, Text}
use Rattle.ss_block.specs.declared.block.Group.{Group}
use Rattle.ss_block.specs.declared.hash.Hash.{Hash}
use Rattle.ss_block.specs.declared.hash.Hash.TheVariants.{Sha1, Sha256}
use Rattle.ss_block.specs.declared.hash.HashPair.{HashPair}
use Rattle.ss_block.specs.declared.session.Session.{Session}
use Rattle.ss_block.specs.declared.spoil.Spoil.{Spoil}
use Rattle.ss_block.specs.declared.spoil.Spoil.TheVariants as spoils
use Rattle.ss_block.specs.Order.{octets_cmp, group_cmp, hash_cmp, pair_cmp, spoil_number, spoil_cmp, spelled, presence}
use Rattle.ss_block.specs.Order.{field_cmp, session_cmp}

-- a total order under which only equal values tie
pub record IsExactOrder {K : Type 0} (R : K → K → Ordering) : Type 0 where
  pub total : IsTotalOrder R
  pub exact : (a b : K) → R a b ≡ Equal → a ≡ b

-- where both tie, each does
first_tie : (r s : Ordering) → ordering_then r s ≡ Equal → r ≡ Equal
first_tie Less s h = h
first_tie Equal s h = refl
first_tie Greater s h = h

second_tie : (r s : Ordering) → ordering_then r s ≡ Equal → s ≡ Equal
second_tie Less s h = cc
second_tie Equal s h = h
second_tie Greater s h = cc

exact_octets : (a b : List ℕ) → octets_cmp a b ≡ Equal → a ≡ b
exact_octets = exact_bytes

-- ---- groups

pub group_cmp_total : IsTotalOrder group_cmp
group_cmp_total = then_total (on_total (λ g. g.sg) nat_cmp_total) (on_total (λ g. g.spri) nat_cmp_total)

pub group_cmp_exact : (a b : Group) → group_cmp a b ≡ Equal → a ≡ b
group_cmp_exact a b h =
    let sg : a.sg ≡ b.sg = exact_unsigned a.sg b.sg (first_tie _ _ h) in
    let spri : a.spri ≡ b.spri = exact_unsigned a.spri b.spri (second_tie (nat_cmp a.sg b.sg) _ h) in
    λ i. record { sg = sg i; spri = spri i }

-- ---- pairs

pub pair_cmp_total : IsTotalOrder pair_cmp
pair_cmp_total = then_total (on_total (λ p. p.sha1) nat_list_cmp_total) (on_total (λ p. p.sha256) nat_list_cmp_total)

pub pair_cmp_exact : (a b : HashPair) → pair_cmp a b ≡ Equal → a ≡ b
pair_cmp_exact a b h =
    let sha1 : a.sha1 ≡ b.sha1 = exact_octets a.sha1 b.sha1 (first_tie _ _ h) in
    let sha256 : a.sha256 ≡ b.sha256 = exact_octets a.sha256 b.sha256 (second_tie (octets_cmp a.sha1 b.sha1) _ h) in
    λ i. record { sha1 = sha1 i; sha256 = sha256 i }

-- ---- hashes

-- the algorithm's place and then the octets
hash_place : Hash → ℕ
hash_place (Sha1 octets) = 0
hash_place (Sha256 octets) = 1

hash_octets : Hash → List ℕ
hash_octets (Sha1 octets) = octets
hash_octets (Sha256 octets) = octets

placed_cmp : Hash → Hash → Ordering
placed_cmp a b = ordering_then (nat_cmp (hash_place a) (hash_place b)) (octets_cmp (hash_octets a) (hash_octets b))

as_placed : (a b : Hash) → placed_cmp a b ≡ hash_cmp a b
unfolding placed_cmp hash_place hash_octets
as_placed (Sha1 a) (Sha1 b) = refl
as_placed (Sha1 a) (Sha256 b) = refl
as_placed (Sha256 a) (Sha1 b) = refl
as_placed (Sha256 a) (Sha256 b) = refl

placed_total : IsTotalOrder placed_cmp
unfolding placed_cmp
placed_total = then_total (on_total hash_place nat_cmp_total) (on_total hash_octets nat_list_cmp_total)

pub hash_cmp_total : IsTotalOrder hash_cmp
hash_cmp_total = subst IsTotalOrder (λ i a b. as_placed a b i) placed_total

pub hash_cmp_exact : (a b : Hash) → hash_cmp a b ≡ Equal → a ≡ b
hash_cmp_exact (Sha1 a) (Sha1 b) h = ap Sha1 (exact_octets a b h)
hash_cmp_exact (Sha1 a) (Sha256 b) h = cc
hash_cmp_exact (Sha256 a) (Sha1 b) h = cc
hash_cmp_exact (Sha256 a) (Sha256 b) h = ap Sha256 (exact_octets a b h)

-- ---- causes

pub spoil_cmp_total : IsTotalOrder spoil_cmp
spoil_cmp_total = on_total spoil_number nat_cmp_total

-- the cause with this number
numbered : ℕ → Spoil
numbered n =
    if n == 1 then spoils.BothBlocks
    else (if n == 2 then spoils.Names
    else (if n == 3 then spoils.Version
    else (if n == 4 then spoils.Number
    else (if n == 5 then spoils.HashCount
    else (if n == 6 then spoils.Hash
    else (if n == 7 then spoils.Sign
    else (if n == 8 then spoils.Fragment
    else spoils.LastNumber)))))))

numbered-number : (cause : Spoil) → numbered (spoil_number cause) ≡ cause
unfolding numbered
numbered-number spoils.BothBlocks = refl
numbered-number spoils.Names = refl
numbered-number spoils.Version = refl
numbered-number spoils.Number = refl
numbered-number spoils.HashCount = refl
numbered-number spoils.Hash = refl
numbered-number spoils.Sign = refl
numbered-number spoils.Fragment = refl
numbered-number spoils.LastNumber = refl

pub spoil_cmp_exact : (a b : Spoil) → spoil_cmp a b ≡ Equal → a ≡ b
spoil_cmp_exact a b h =
    sym (numbered-number a) ∙ ap numbered (exact_unsigned (spoil_number a) (spoil_number b) h) ∙ numbered-number b

-- ---- sessions

pub field_cmp_total : IsTotalOrder field_cmp
field_cmp_total = then_total (on_total spelled nat_list_cmp_total) (on_total presence nat_cmp_total)

pub field_cmp_exact : (a b : Field) → field_cmp a b ≡ Equal → a ≡ b
field_cmp_exact Nil Nil h = refl
field_cmp_exact Nil (Text b) h = let tie : Less ≡ Equal = second_tie (octets_cmp (dash ∷ []) b) Less h in cc
field_cmp_exact (Text a) Nil h = let tie : Greater ≡ Equal = second_tie (octets_cmp a (dash ∷ [])) Greater h in cc
field_cmp_exact (Text a) (Text b) h = ap Text (exact_octets a b (first_tie _ _ h))

pub session_cmp_total : IsTotalOrder session_cmp
session_cmp_total =
    then_total (on_total (λ s. s.host) field_cmp_total)
    (then_total (on_total (λ s. s.app) field_cmp_total)
    (then_total (on_total (λ s. s.procid) field_cmp_total) (on_total (λ s. s.rsid) nat_cmp_total)))

pub session_cmp_exact : (a b : Session) → session_cmp a b ≡ Equal → a ≡ b
session_cmp_exact a b h =
    let behind_host = second_tie (field_cmp a.host b.host) _ h in
    let behind_app = second_tie (field_cmp a.app b.app) _ behind_host in
    let host : a.host ≡ b.host = field_cmp_exact a.host b.host (first_tie _ _ h) in
    let app : a.app ≡ b.app = field_cmp_exact a.app b.app (first_tie _ _ behind_host) in
    let procid : a.procid ≡ b.procid = field_cmp_exact a.procid b.procid (first_tie _ _ behind_app) in
    let rsid : a.rsid ≡ b.rsid = exact_unsigned a.rsid b.rsid (second_tie (field_cmp a.procid b.procid) _ behind_app) in
    λ i. record { host = host i; app = app i; procid = procid i; rsid = rsid i }

-- ---- the law

-- Each order is total, and only equal values tie.
abbrev pub OrdersAreExact : Type 0
OrdersAreExact =
    IsExactOrder group_cmp × IsExactOrder hash_cmp × IsExactOrder pair_cmp × IsExactOrder spoil_cmp
    × IsExactOrder session_cmp

pub orders_are_exact : OrdersAreExact
orders_are_exact = (
  record { total = group_cmp_total; exact = group_cmp_exact },
  record { total = hash_cmp_total; exact = hash_cmp_exact },
  record { total = pair_cmp_total; exact = pair_cmp_exact },
  record { total = spoil_cmp_total; exact = spoil_cmp_exact },
  record { total = session_cmp_total; exact = session_cmp_exact },
)
