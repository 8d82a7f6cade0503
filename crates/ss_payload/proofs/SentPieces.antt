-- Why the pieces of a text, sent in any order and as often as one likes, are a whole payload.
use Rattle.std.proofs.Common.{◌≡◌, ◌∙◌, ℕ, ◌+◌, ◌-◌, ◌<◌, ◌≤◌, List, [], ◌∷◌, length, drop, map, slice_index, slice_index_or, arith, refl, sym, ap, subst}
use Rattle.std.specs.Prelude.{◌↔◌}
use Rattle.std.specs.List.{Any, Contains}
use Rattle.std.proofs.Math.Logic.{⊎_elim}
use Rattle.std.proofs.lemmas.List.{get_or-take, get_or-drop, length-take, length-drop}
use Rattle.ss_payload.specs.declared.cuts.Cut.{Cut}
use Rattle.ss_payload.specs.declared.joiner.JoinState.TheVariants.{Whole}
use Rattle.ss_payload.specs.Cuts.{AreCuts, piece_of}
use Rattle.ss_payload.specs.Joining.{Stated, HasTotal, HasOctet, HasGap, HasState, IsDisputed, IsPayload}
use Rattle.ss_payload.specs.Fragments.{Fragment, States, stated_by, fragment_of}
use Rattle.ss_payload.specs.CuttingLaws.{LiesWithin}
use Rattle.ss_payload.proofs.PlacedPieces.{pieces_lie_within, pieces_cover}
use Rattle.ss_payload.proofs.FragmentLaws.{any_here, any_there, any_cases, any_none, totals_are_of_fragments, octets_are_of_fragments}

-- a piece that lies in a text has as many octets as it says
pub piece_long : (text : List ℕ) (size : ℕ) (c : Cut) → LiesWithin (length text) size c → length (piece_of text c) ≡ c.len
piece_long text size c l = omega (arith, length-take c.len (drop (c.index - 1) text), length-drop (c.index - 1) text, l.some_index, l.end)

piece_at : (text : List ℕ) (size : ℕ) (c : Cut) (j : ℕ) → LiesWithin (length text) size c → j < c.len → slice_index (piece_of text c) j ≡ slice_index text (c.index - 1 + j)
piece_at text size c j l lt = get_or-take c.len (drop (c.index - 1) text) j 0 lt ∙ get_or-drop (c.index - 1) text j 0

-- fragments of pieces
any_map : {X : Type 0} → (f : Cut → X) (P : X → Type 0) (cuts : List Cut) → Any P (map f cuts) → Any (λ (c : Cut). P (f c)) cuts
any_map f P [] a = absurd (any_none P a)
any_map f P (c ∷ cuts) a = ⊎_elim
    (λ (p : P (f c)). any_here (λ (c : Cut). P (f c)) c cuts p)
    (λ rest. any_there (λ (c : Cut). P (f c)) c cuts (any_map f P cuts rest))
    (any_cases P (f c) (map f cuts) a)

map_any : {X : Type 0} → (f : Cut → X) (P : X → Type 0) (cuts : List Cut) → Any (λ (c : Cut). P (f c)) cuts → Any P (map f cuts)
map_any f P [] a = absurd (any_none (λ (c : Cut). P (f c)) a)
map_any f P (c ∷ cuts) a = ⊎_elim
    (λ (p : P (f c)). any_here P (f c) (map f cuts) p)
    (λ rest. any_there P (f c) (map f cuts) (map_any f P cuts rest))
    (any_cases (λ (c : Cut). P (f c)) c cuts a)

module _ (text : List ℕ) (size : ℕ) (cuts sent : List Cut) (octet : 1 ≤ length text) (some : 1 ≤ size) (a : AreCuts (length text) size cuts) (same : (c : Cut) → Contains sent c ↔ Contains cuts c) where
  abbrev stated : Stated
  stated = stated_by (map (fragment_of text) sent)

  lies : (k : ℕ) (c : Cut) → k < length sent → slice_index_or sent k c ≡ c → LiesWithin (length text) size c
  lies k c lt at = pieces_lie_within (length text) size cuts c some a ((same c).0 (k, lt, at))

  one_total : (t : ℕ) → HasTotal stated t → t ≡ length text
  one_total t h =
      let at = any_map (fragment_of text) (λ (f : Fragment). f.total ≡ t) sent ((totals_are_of_fragments (map (fragment_of text) sent) t).0 h) in
      sym at.4

  one_octet : (i o : ℕ) → HasOctet stated i o → o ≡ slice_index text (i - 1)
  one_octet i o h =
      let at = any_map (fragment_of text) (λ (f : Fragment). States f i o) sent ((octets_are_of_fragments (map (fragment_of text) sent) i o).0 h) in
      let l = lies at.0 at.1 at.2 at.3 in
      let long = piece_long text size at.1 l in
      let s : States (fragment_of text at.1) i o = at.4 in
      let low : s.0 < at.1.len = omega (arith, s.1, long) in
      let place : at.1.index - 1 + s.0 ≡ i - 1 = omega (arith, s.2, l.some_index) in
      sym s.3 ∙ piece_at text size at.1 s.0 l low ∙ ap (slice_index text) place

  each_octet : (k : ℕ) → k < length text → HasOctet stated (k + 1) (slice_index text k)
  each_octet k lt =
      let at = pieces_cover (length text) size cuts (k + 1) some a (omega arith) (omega (arith, lt)) in
      let c : Cut = at.0 in
      let inside = (same c).1 at.1 in
      let l = pieces_lie_within (length text) size cuts c some a at.1 in
      let long = piece_long text size c l in
      let j : ℕ = k + 1 - c.index in
      let low : j < c.len = omega (arith, at.2.0, at.2.1) in
      let place : c.index - 1 + j ≡ k = omega (arith, at.2.0, l.some_index) in
      let s : States (fragment_of text c) (k + 1) (slice_index text k) = (j, omega (arith, low, long), omega (arith, at.2.0), piece_at text size c j l low ∙ ap (slice_index text) place) in
      (octets_are_of_fragments (map (fragment_of text) sent) (k + 1) (slice_index text k)).1
      (map_any (fragment_of text) (λ (f : Fragment). States f (k + 1) (slice_index text k)) sent (inside.0, c, inside.1, inside.2, s))

  the_total : HasTotal stated (length text)
  the_total =
      let at = pieces_cover (length text) size cuts 1 some a (omega arith) octet in
      let c : Cut = at.0 in
      let inside = (same c).1 at.1 in
      (totals_are_of_fragments (map (fragment_of text) sent) (length text)).1
      (map_any (fragment_of text) (λ (f : Fragment). f.total ≡ length text) sent (inside.0, c, inside.1, inside.2, refl))

  undisputed : ¬ IsDisputed stated
  unfolding IsDisputed
  undisputed d = ⊎_elim
      (λ t. t.4 (one_total t.0 t.2 ∙ sym (one_total t.1 t.3)))
      (λ o. o.5 (one_octet o.0 o.1 o.3 ∙ sym (one_octet o.0 o.2 o.4)))
      d

  no_gap : ¬ HasGap stated
  unfolding HasGap
  no_gap g = ⊎_elim
      (λ none. none (length text) the_total)
      (λ lack.
      let total : lack.0 ≡ length text = one_total lack.0 lack.2 in
      let back : lack.1 - 1 + 1 ≡ lack.1 = omega (arith, lack.3) in
      lack.5 (slice_index text (lack.1 - 1)) (subst (λ (i : ℕ). HasOctet stated i (slice_index text (lack.1 - 1))) back (each_octet (lack.1 - 1) (omega (arith, lack.3, lack.4, total)))))
      g

  whole : HasState stated Whole × IsPayload stated text
  whole = ((undisputed, no_gap), record { total = the_total; octets = each_octet })

pub pieces_are_whole : (text : List ℕ) (size : ℕ) (cuts sent : List Cut) → 1 ≤ length text → 1 ≤ size → AreCuts (length text) size cuts → ((c : Cut) → Contains sent c ↔ Contains cuts c)
    → HasState (stated_by (map (fragment_of text) sent)) Whole × IsPayload (stated_by (map (fragment_of text) sent)) text
pieces_are_whole text size cuts sent octet some a same = whole text size cuts sent octet some a same
