-- The orders of fragments, fronts and payloads.
use Rattle.std.specs.Prelude.{ℕ, List, length}
use Rattle.std.specs.declared.cmp.Ordering.{Ordering}
use Rattle.std.specs.Ordering.{nat_cmp, ordering_then}
use Rattle.std.specs.Cmp.{IsTotalOrder, then_total, on_total, nat_cmp_total}
use Rattle.std.specs.Cmp.Lexicographic.{slice_cmp, nat_list_cmp_total}
use Rattle.ss_spelled.specs.declared.fragment.Fragment.{Fragment}
use Rattle.ss_spelled.specs.declared.front.Front.{Front}

-- the shorter one first, and of those as long as each other octet by octet
abbrev pub text_cmp : List ℕ → List ℕ → Ordering
text_cmp a b = ordering_then (nat_cmp (length a) (length b)) (slice_cmp nat_cmp a b)

-- by the total, then as texts
abbrev pub front_cmp : Front → Front → Ordering
front_cmp a b = ordering_then (nat_cmp a.total b.total) (text_cmp a.text b.text)

-- by the total, the index, and octet by octet
abbrev pub fragment_cmp : Fragment → Fragment → Ordering
fragment_cmp a b =
    ordering_then (nat_cmp a.total b.total)
    (ordering_then (nat_cmp a.index b.index) (slice_cmp nat_cmp a.octets b.octets))

-- ---- the orders are total

pub text_cmp_total : IsTotalOrder text_cmp
text_cmp_total = then_total (on_total (λ t. length t) nat_cmp_total) nat_list_cmp_total

pub front_cmp_total : IsTotalOrder front_cmp
front_cmp_total = then_total (on_total (λ f. f.total) nat_cmp_total) (on_total (λ f. f.text) text_cmp_total)

pub fragment_cmp_total : IsTotalOrder fragment_cmp
fragment_cmp_total =
    then_total (on_total (λ f. f.total) nat_cmp_total)
    (then_total (on_total (λ f. f.index) nat_cmp_total) (on_total (λ f. f.octets) nat_list_cmp_total))
