-- What certificate blocks state together whose fragments are pieces of one text.
use Rattle.std.proofs.Common.{◌≡◌, inl, inr, ℕ, ◌+◌, ◌-◌, ◌≤◌, true, false, ◌&&◌, List, [], ◌∷◌, ◌++◌, length, drop, map, fold, refl, sym, ap, ◌∙◌, subst, arith}
use Rattle.std.specs.Prelude.{nat_le, nat_lt}
use Rattle.std.specs.List.{range_with_len}
use Rattle.std.proofs.lemmas.Bool.{leb-true, ltb-true, and_parts, not-false}
use Rattle.std.proofs.lemmas.List.{length-take, length-drop, map-append}
use Rattle.std.proofs.lemmas.List.Sums.{fold-append}
use Rattle.ss_payload.specs.declared.cuts.Cut.{Cut}
use Rattle.ss_payload.specs.declared.joiner.JoinState.TheVariants.{Whole}
use Rattle.ss_payload.specs.Cuts.{AreCuts, piece_of}
use Rattle.ss_payload.specs.CuttingLaws.{LiesWithin, PiecesLieWithin, PiecesAreApart}
use Rattle.ss_payload.specs.Fragments.{Fragment, fragment_of}
use Rattle.ss_payload.specs.Joining.{Stated, nothing_stated, with_fragment, IsDisputed, HasState, IsPayload}
use Rattle.ss_payload.specs.JoiningLaws.{DisputesStay, PiecesAreWhole}
use Rattle.ss_block.specs.Block as block
use Rattle.ss_review.specs.sessions.Payloads.{has_index, cover, lacks_some}
use Rattle.ss_review.specs.sessions.Stated.{stated_after, stated_in_turn}
use Rattle.ss_octets.proofs.Members.{Has, has_from_contains, contains_from_has, has-append_right, has-append_cases, from_has-map}
use Rattle.ss_review.proofs.of_lists.Tests.{any_member, all_member, in_range}

-- the fragment is a piece of the text, which is cut so
pub record IsPiece (text : List ℕ) (cuts : List Cut) (c : block.Certificate) : Type 0 where
  pub cut : Cut
  pub of_cuts : Has cuts cut
  pub total : c.total ≡ length text
  pub index : c.index ≡ cut.index
  pub fragment : c.fragment ≡ piece_of text cut

-- the piece that a fragment is
abbrev pub cut_in : block.Certificate → Cut
cut_in c = record { index = c.index; len = length c.fragment }

abbrev stated_behind : Stated → List Fragment → Stated
stated_behind stated fragments = fold (λ s (f : Fragment). with_fragment s f.total f.index f.octets) stated fragments

-- what is disputed stays so, whatever fragments come
disputes_stay_behind : DisputesStay → (stated : Stated) (fragments : List Fragment) → IsDisputed stated → IsDisputed (stated_behind stated fragments)
disputes_stay_behind stay stated [] d = d
disputes_stay_behind stay stated (f ∷ fragments) d =
    disputes_stay_behind stay (with_fragment stated f.total f.index f.octets) fragments (stay stated f.total f.index f.octets d)

module _ (within : PiecesLieWithin) (text : List ℕ) (size : ℕ) (cuts : List Cut) (some : 1 ≤ size) (are : AreCuts (length text) size cuts) where
  lies : (cut : Cut) → Has cuts cut → LiesWithin (length text) size cut
  lies cut h = within (length text) size cuts cut some are (contains_from_has cuts cut h)

  pub cut_is : (c : block.Certificate) (p : IsPiece text cuts c) → cut_in c ≡ p.cut
  cut_is c p =
      let l = lies p.cut p.of_cuts in
      let long : length (piece_of text p.cut) ≡ p.cut.len
      = omega (arith, length-take p.cut.len (drop (p.cut.index - 1) text), length-drop (p.cut.index - 1) text, l.some_index, l.end) in
      let same : length c.fragment ≡ p.cut.len = ap length p.fragment ∙ long in
      λ i. record { index = p.index i; len = same i }

  pub has-cut : (c : block.Certificate) → IsPiece text cuts c → Has cuts (cut_in c)
  has-cut c p = subst (Has cuts) (sym (cut_is c p)) p.of_cuts

  -- they state what the pieces of the text state
  stated_pieces : (s : Stated) (cs : List block.Certificate) → ((c : block.Certificate) → Has cs c → IsPiece text cuts c)
      → stated_after s cs ≡ stated_behind s (map (fragment_of text) (map cut_in cs))
  stated_pieces s [] all = refl
  stated_pieces s (c ∷ cs) all =
      let p = all c (inl refl) in
      let fragment : c.fragment ≡ piece_of text (cut_in c) = p.fragment ∙ ap (piece_of text) (sym (cut_is c p)) in
      let same : with_fragment s c.total c.index c.fragment ≡ with_fragment s (length text) c.index (piece_of text (cut_in c))
      = λ i. with_fragment s (p.total i) c.index (fragment i) in
      ap (λ (t : Stated). stated_after t cs) same
      ∙ stated_pieces (with_fragment s (length text) c.index (piece_of text (cut_in c))) cs (λ d h. all d (inr h))

  has-cuts : (cs : List block.Certificate) → ((c : block.Certificate) → Has cs c → IsPiece text cuts c) → (cut : Cut) → Has (map cut_in cs) cut → Has cuts cut
  has-cuts cs all cut h =
      let w : (c : block.Certificate) × Has cs c × (cut_in c ≡ cut) = from_has-map cut_in cs cut h in
      subst (Has cuts) w.2 (has-cut w.0 (all w.0 w.1))

  -- they aren't disputed, since with all pieces they aren't
  pub undisputed : DisputesStay → PiecesAreWhole → 1 ≤ length text → (cs : List block.Certificate) → ((c : block.Certificate) → Has cs c → IsPiece text cuts c) → ¬ IsDisputed (stated_in_turn cs)
  undisputed stay whole octet cs all = λ d.
      let sent = map cut_in cs in
      let f = fragment_of text in
      let both = whole text size cuts (sent ++ cuts) octet some are (λ cut. (
        λ h. contains_from_has cuts cut (elim (has-append_cases sent cuts cut (has_from_contains (sent ++ cuts) cut h)) [
          | inl l ↦ has-cuts cs all cut l
          | inr r ↦ r
        ]),
        λ h. contains_from_has (sent ++ cuts) cut (has-append_right sent cuts cut (has_from_contains cuts cut h)),
      )) in
      let more : IsDisputed (stated_behind (stated_behind nothing_stated (map f sent)) (map f cuts))
      = disputes_stay_behind stay (stated_behind nothing_stated (map f sent)) (map f cuts) (subst IsDisputed (stated_pieces nothing_stated cs all) d) in
      let joined : stated_behind nothing_stated (map f (sent ++ cuts)) ≡ stated_behind (stated_behind nothing_stated (map f sent)) (map f cuts)
      = ap (stated_behind nothing_stated) (map-append f sent cuts)
      ∙ fold-append (λ s (g : Fragment). with_fragment s g.total g.index g.octets) nothing_stated (map f sent) (map f cuts) in
      both.0.0 (subst IsDisputed (sym joined) more)

  -- where each piece is there, they state the text
  pub all_pieces : PiecesAreWhole → 1 ≤ length text → (cs : List block.Certificate) → ((c : block.Certificate) → Has cs c → IsPiece text cuts c)
      → ((cut : Cut) → Has cuts cut → Has (map cut_in cs) cut) → HasState (stated_in_turn cs) Whole × IsPayload (stated_in_turn cs) text
  all_pieces whole octet cs all each =
      let sent = map cut_in cs in
      let told = whole text size cuts sent octet some are (λ cut. (
        λ h. contains_from_has cuts cut (has-cuts cs all cut (has_from_contains sent cut h)),
        λ h. contains_from_has sent cut (each cut (has_from_contains cuts cut h)),
      )) in
      let same = stated_pieces nothing_stated cs all in
      (subst (λ (s : Stated). HasState s Whole) (sym same) told.0, subst (λ (s : Stated). IsPayload s text) (sym same) told.1)

  -- a piece whose first index is covered is there
  pub piece_there : PiecesAreApart → (cs : List block.Certificate) → ((c : block.Certificate) → Has cs c → IsPiece text cuts c) → (cut : Cut) → Has cuts cut → has_index cs cut.index ≡ true
      → (c : block.Certificate) × Has cs c × (cut_in c ≡ cut)
  piece_there apart cs all cut h e =
      let w : (c : block.Certificate) × Has cs c × ((nat_le c.index cut.index && nat_lt cut.index (c.index + length c.fragment)) ≡ true)
      = any_member (λ (c : block.Certificate). nat_le c.index cut.index && nat_lt cut.index (c.index + length c.fragment)) cs e in
      let b = and_parts _ _ w.2 in
      let l = lies cut h in
      let same : cut_in w.0 ≡ cut
      = apart (length text) size cuts (cut_in w.0) cut cut.index some are (contains_from_has cuts (cut_in w.0) (has-cut w.0 (all w.0 w.1))) (contains_from_has cuts cut h)
      (leb-true w.0.index cut.index b.0, ltb-true cut.index (w.0.index + length w.0.fragment) b.1)
      (omega arith, omega (arith, l.some_octet)) in
      (w.0, w.1, same)

-- where no index is lacking, each index from 1 to the total is covered
pub covered : (cs : List block.Certificate) (total : ℕ) → ((c : block.Certificate) → Has cs c → c.total ≡ total) → lacks_some cs ≡ false → cover cs total ≡ true
covered [] total all e = absurd (cc)
covered (c ∷ cs) total all e = subst (λ n. cover (c ∷ cs) n ≡ true) (all c (inl refl)) (not-false (cover (c ∷ cs) c.total) e)

pub index_covered : (cs : List block.Certificate) (total i : ℕ) → cover cs total ≡ true → 1 ≤ i → i ≤ total → has_index cs i ≡ true
unfolding cover
index_covered cs total i e low high = all_member (has_index cs) (range_with_len 1 total) e i (in_range 1 total i low (omega (arith, high)))
