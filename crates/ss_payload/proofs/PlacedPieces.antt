-- Where the pieces of a text lie: within it, one at each index.
use Rattle.std.proofs.Common.{◌≡◌, ℕ, ◌+◌, ◌-◌, ◌<◌, ◌≤◌, List, [], ◌∷◌, length, slice_index_or, arith, refl, sym, ap, subst, ◌∙◌}
use Rattle.std.specs.List.{Any, Contains}
use Rattle.std.proofs.Math.Logic.{⊎_elim}
use Rattle.std.proofs.lemmas.Bool.{cases_lt}
use Rattle.ss_payload.specs.declared.cuts.Cut.{Cut}
use Rattle.ss_payload.specs.Cuts.{AreCuts}
use Rattle.ss_payload.specs.CuttingLaws.{LiesWithin, HasIndex}
use Rattle.ss_payload.proofs.CutLists.{AreFrom, more_octets, one_less, first_size, from_cuts}
use Rattle.ss_payload.proofs.FragmentLaws.{any_here, any_there, any_cases, any_none}

abbrev pub Has : Cut → List Cut → Type 0
Has c cuts = Any (λ (d : Cut). d ≡ c) cuts

pub has_from : (cuts : List Cut) (c : Cut) → Contains cuts c → Has c cuts
has_from cuts c h = (h.0, c, h.1, h.2, refl)

contains_at : (cuts : List Cut) (c d : Cut) (k : ℕ) → k < length cuts → slice_index_or cuts k d ≡ d → d ≡ c → Contains cuts c
contains_at cuts c d k lt at e = (k, lt, subst (λ (x : Cut). slice_index_or cuts k x ≡ x) e at)

pub contains_from : (cuts : List Cut) (c : Cut) → Has c cuts → Contains cuts c
contains_from cuts c h = contains_at cuts c h.1 h.0 h.2 h.3 h.4

-- where a piece of octets that begin at an index lies
record LiesIn (index octets size : ℕ) (c : Cut) : Type 0 where
  behind : index ≤ c.index
  within : c.index + c.len ≤ index + octets
  some : 1 ≤ c.len
  most : c.len ≤ size

lies_in : (index octets size : ℕ) (cuts : List Cut) (c : Cut) → 1 ≤ size → AreFrom index octets size cuts → Has c cuts → LiesIn index octets size c
lies_in index octets size [] c some a h = absurd (any_none (λ (d : Cut). d ≡ c) h)
lies_in index octets size (d ∷ cuts) c some a h =
    let first = first_size index octets size d cuts some a in
    let rest = one_less index octets size d cuts a in
    let fits = fits_first index octets size d cuts a in
    ⊎_elim
    (λ (e : d ≡ c).
    let at : d.index ≡ c.index = ap (λ (x : Cut). x.index) e in
    let long : d.len ≡ c.len = ap (λ (x : Cut). x.len) e in
    (record { behind = omega (arith, at, fits.0); within = omega (arith, at, long, fits.0, fits.1); some = omega (arith, long, first.0); most = omega (arith, long, first.1) }))
    (λ later.
    let l = lies_in (index + d.len) (octets - d.len) size cuts c some rest later in
    (record { behind = omega (arith, l.behind); within = omega (arith, l.within, fits.1); some = l.some; most = l.most }))
    (any_cases (λ (x : Cut). x ≡ c) d cuts h)
  where
    fits_first : (index octets size : ℕ) (d : Cut) (cuts : List Cut) → AreFrom index octets size (d ∷ cuts) → (d.index ≡ index) × (d.len ≤ octets)
    fits_first index octets size d cuts a = (omega (arith, a.follow [] d cuts refl), omega (arith, more_octets d cuts, a.end))

-- each index of a text lies in a piece
covered : (index octets size : ℕ) (cuts : List Cut) (i : ℕ) → 1 ≤ size → AreFrom index octets size cuts → index ≤ i → i < index + octets → (c : Cut) × Has c cuts × (c.index ≤ i) × (i < c.index + c.len)
covered index octets size [] i some a low high = absurd (omega (arith, a.end, low, high))
covered index octets size (d ∷ cuts) i some a low high =
    let at : d.index ≡ index = omega (arith, a.follow [] d cuts refl) in
    ⊎_elim
    (λ (h : i < index + d.len). (d, any_here (λ (x : Cut). x ≡ d) d cuts refl, omega (arith, at, low), omega (arith, at, h)))
    (λ (h : index + d.len ≤ i).
    let later = covered (index + d.len) (octets - d.len) size cuts i some (one_less index octets size d cuts a) h (omega (arith, high, h)) in
    (later.0, any_there (λ (x : Cut). x ≡ later.0) d cuts later.1, later.2, later.3))
    (cases_lt i (index + d.len))

-- no index lies in two pieces
apart : (index octets size : ℕ) (cuts : List Cut) (c d : Cut) (i : ℕ) → 1 ≤ size → AreFrom index octets size cuts → Has c cuts → Has d cuts → HasIndex c i → HasIndex d i → c ≡ d
apart index octets size [] c d i some a h k at too = absurd (any_none (λ (x : Cut). x ≡ c) h)
apart index octets size (e ∷ cuts) c d i some a h k at too =
    let first : e.index ≡ index = omega (arith, a.follow [] e cuts refl) in
    let rest = one_less index octets size e cuts a in
    ⊎_elim
    (λ (is : e ≡ c). ⊎_elim
    (λ (same : e ≡ d). sym is ∙ same)
    (λ (later : Has d cuts). absurd (behind_first index e c d i first is at too (lies_in (index + e.len) (octets - e.len) size cuts d some rest later).behind))
    (any_cases (λ (x : Cut). x ≡ d) e cuts k))
    (λ (later : Has c cuts). ⊎_elim
    (λ (same : e ≡ d). absurd (behind_first index e d c i first same too at (lies_in (index + e.len) (octets - e.len) size cuts c some rest later).behind))
    (λ (both : Has d cuts). apart (index + e.len) (octets - e.len) size cuts c d i some rest later both at too)
    (any_cases (λ (x : Cut). x ≡ d) e cuts k))
    (any_cases (λ (x : Cut). x ≡ c) e cuts h)
  where
    behind_first : (index : ℕ) (e c d : Cut) (i : ℕ) → e.index ≡ index → e ≡ c → HasIndex c i → HasIndex d i → index + e.len ≤ d.index → ⊥
    behind_first index e c d i first is at too low =
        let begin : e.index ≡ c.index = ap (λ (x : Cut). x.index) is in
        let long : e.len ≡ c.len = ap (λ (x : Cut). x.len) is in
        omega (arith, first, begin, long, at.1, too.0, low)

pub pieces_lie_within : (octets size : ℕ) (cuts : List Cut) (c : Cut) → 1 ≤ size → AreCuts octets size cuts → Contains cuts c → LiesWithin octets size c
pieces_lie_within octets size cuts c some a h =
    let l = lies_in 1 octets size cuts c some (from_cuts octets size cuts a) (has_from cuts c h) in
    (record { some_index = l.behind; end = omega (arith, l.within); some_octet = l.some; at_most = l.most })

pub pieces_cover : (octets size : ℕ) (cuts : List Cut) (index : ℕ) → 1 ≤ size → AreCuts octets size cuts → 1 ≤ index → index ≤ octets → (c : Cut) × Contains cuts c × HasIndex c index
pieces_cover octets size cuts index some a low high =
    let at = covered 1 octets size cuts index some (from_cuts octets size cuts a) low (omega (arith, high)) in
    (at.0, contains_from cuts at.0 at.1, (at.2, at.3))

pub pieces_are_apart : (octets size : ℕ) (cuts : List Cut) (c d : Cut) (index : ℕ) → 1 ≤ size → AreCuts octets size cuts → Contains cuts c → Contains cuts d → HasIndex c index → HasIndex d index → c ≡ d
pieces_are_apart octets size cuts c d index some a h k at too = apart 1 octets size cuts c d index some (from_cuts octets size cuts a) (has_from cuts c h) (has_from cuts d k) at too
