-- What a judge is asked about in a block, where the block keeps it (RFC 5848, section 7).
use Rattle.std.specs.Prelude.{◌≡◌, ℕ, List, take, length, nat_le, if◌then◌else◌}
use Rattle.std.specs.declared.cmp.Ordering.{Ordering}
use Rattle.std.specs.Ordering.{nat_cmp, ordering_then}
use Rattle.std.specs.Cmp.{IsTotalOrder, then_total, on_total, nat_cmp_total}
use Rattle.std.specs.Cmp.Lexicographic.{nat_list_cmp_total}
use Rattle.std.specs.Int.{w64, from_be_bytes}
use Rattle.ss_message.specs.Octets.{part_of}
use Rattle.ss_block.specs.Order.{octets_cmp}
use Rattle.ss_block.specs.Versions.{hash_length}
use Rattle.ss_review.specs.declared.keep.kept_block.KeptFields.{KeptFields}
use Rattle.ss_review.specs.declared.keep.packed.Packed.{Packed}
use Rattle.ss_review.specs.declared.sessions.claim.Claim.{Claim}
use Rattle.ss_review.specs.keep.BlockMessage.{BlockMessage}
use Rattle.ss_review.specs.keep.KeptFields.{AreFieldsOf}
use Rattle.ss_review.specs.keep.KeptSender.{places_at}
use Rattle.ss_review.specs.keep.Packed.{kept_packed, signature_packed}

-- the first eight octets as one number, the greatest first; 0 for fewer
abbrev pub signature_start : List ℕ → ℕ
signature_start octets = if nat_le 8 (length octets) then from_be_bytes w64 (take 8 octets) else 0

-- by the octets that are kept of what is signed, then where the hashes stand among them, how many they are, and how long
-- each is
abbrev pub packed_cmp : Packed → Packed → Ordering
packed_cmp a b =
    ordering_then (octets_cmp (kept_packed a) (kept_packed b))
    (ordering_then (nat_cmp a.start b.start)
    (ordering_then (nat_cmp a.count b.count) (nat_cmp (hash_length a.alg) (hash_length b.alg))))

-- the octets that spell HOSTNAME, APP-NAME and PROCID
abbrev pub host_kept : KeptFields → List ℕ
host_kept f = part_of (kept_packed f.packed) (places_at f.sender).host

abbrev pub app_kept : KeptFields → List ℕ
app_kept f = part_of (kept_packed f.packed) (places_at f.sender).app

abbrev pub procid_kept : KeptFields → List ℕ
procid_kept f = part_of (kept_packed f.packed) (places_at f.sender).procid

-- by these, then RSID
abbrev pub sender_cmp : KeptFields → KeptFields → Ordering
sender_cmp a b =
    ordering_then (octets_cmp (host_kept a) (host_kept b))
    (ordering_then (octets_cmp (app_kept a) (app_kept b))
    (ordering_then (octets_cmp (procid_kept a) (procid_kept b)) (nat_cmp a.sender.rsid b.sender.rsid)))

-- by the signature, then what is signed, then the session
abbrev pub kept_cmp : KeptFields → KeptFields → Ordering
kept_cmp a b =
    ordering_then (octets_cmp (signature_packed a.packed) (signature_packed b.packed))
    (ordering_then (packed_cmp a.packed b.packed) (sender_cmp a b))

-- by what the signatures begin with, then by the whole
abbrev pub claim_cmp : Claim → Claim → Ordering
claim_cmp a b = ordering_then (nat_cmp a.start b.start) (kept_cmp a.kept.now b.kept.now)

-- The signature, the signed octets and the session are the block's. All claims of a certificate block tie: the octets
-- are those that are signed, and no hash stands after them.
pub record IsClaimOf (k : Claim) (b : BlockMessage) : Type 0 where
  pub fields : AreFieldsOf k.kept.now b
  pub start_is : k.start ≡ signature_start (signature_packed k.kept.now.packed)

-- ---- the order is total

pub packed_cmp_total : IsTotalOrder packed_cmp
packed_cmp_total =
    then_total (on_total kept_packed nat_list_cmp_total)
    (then_total (on_total (λ p. p.start) nat_cmp_total)
    (then_total (on_total (λ p. p.count) nat_cmp_total) (on_total (λ p. hash_length p.alg) nat_cmp_total)))

pub sender_cmp_total : IsTotalOrder sender_cmp
sender_cmp_total =
    then_total (on_total host_kept nat_list_cmp_total)
    (then_total (on_total app_kept nat_list_cmp_total)
    (then_total (on_total procid_kept nat_list_cmp_total) (on_total (λ f. f.sender.rsid) nat_cmp_total)))

pub kept_cmp_total : IsTotalOrder kept_cmp
kept_cmp_total =
    then_total (on_total (λ f. signature_packed f.packed) nat_list_cmp_total)
    (then_total (on_total (λ f. f.packed) packed_cmp_total) sender_cmp_total)

pub claim_cmp_total : IsTotalOrder claim_cmp
claim_cmp_total = then_total (on_total (λ k. k.start) nat_cmp_total) (on_total (λ k. k.kept.now) kept_cmp_total)
