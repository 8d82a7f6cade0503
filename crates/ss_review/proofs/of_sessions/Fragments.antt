-- What certificate blocks state together, by membership, and the text that it fits.
use Rattle.std.proofs.Common.{◌≡◌, ℕ, suc, ◌+◌, ◌<◌, inl, inr, List, [], ◌∷◌, length, map, refl, sym, ap, ◌∙◌, arith}
use Rattle.std.specs.Prelude.{slice_index, Some}
use Rattle.std.specs.FinSet as set
use Rattle.std.specs.FinSet.{IsAntisymmetric, same_set, nat_cmp-IsAntisymmetric}
use Rattle.std.specs.Cmp.{IsTotalOrder, nat_cmp_total}
use Rattle.std.specs.Ordering.{nat_cmp}
use Rattle.std.proofs.lemmas.Bool.{cases_eq}
use Rattle.std.proofs.lemmas.Cmp.{then_total, on_total}
use Rattle.std.proofs.lemmas.Map.Lookups.{exact_pairs}
use Rattle.ss_block.specs.Block as block
use Rattle.ss_block.specs.Joining.{Stated, placed_cmp, placed, HasTotal, HasOctet, IsDisputed, IsPayload}
use Rattle.ss_review.specs.keep.BlockMessage.{BlockMessage, Fragment}
use Rattle.ss_review.specs.sessions.Payloads.{certificate_of, certificates, octets}
use Rattle.ss_review.specs.sessions.States.{stated_by, StatesText}
use Rattle.ss_octets.proofs.Members.{Has, has-map, from_has-map, from_has-flat_map, has-flat_map, has-filter_map, from_has-filter_map}
use Rattle.ss_review.proofs.of_lists.FilteredAlike.{one_test}
use Rattle.ss_review.proofs.of_sessions.Stating.{IsStatedBy, stated_by-IsStatedBy}
use Rattle.ss_review.proofs.of_sessions.StatesTold.{fragment_of}

abbrev total_in : block.Certificate → ℕ
total_in c = c.total

abbrev placed_in : block.Certificate → List (ℕ × ℕ)
placed_in c = placed c.index c.fragment

-- one of these blocks states the total
abbrev pub StatesTotal : List BlockMessage → ℕ → Type 0
StatesTotal bs total = Has (map total_in (certificates bs)) total

-- one of these blocks states the octet at its index
abbrev pub StatesOctet : List BlockMessage → ℕ × ℕ → Type 0
StatesOctet bs p = Has (octets (certificates bs)) p

-- one of these blocks is a certificate block that says this
pub record HasFragment (bs : List BlockMessage) (c : block.Certificate) : Type 0 where
  pub message : BlockMessage
  pub stored : Has bs message
  pub says_so : message.said ≡ Fragment c

fragment_among : (bs : List BlockMessage) (c : block.Certificate) → Has (certificates bs) c → HasFragment bs c
fragment_among bs c h =
    let m : (b : BlockMessage) × Has bs b × (certificate_of b.said ≡ Some c) = from_has-filter_map (λ (b : BlockMessage). certificate_of b.said) bs c h in
    record { message = m.0; stored = m.1; says_so = fragment_of m.0.said c m.2 }

has-fragment : (bs : List BlockMessage) (c : block.Certificate) → HasFragment bs c → Has (certificates bs) c
has-fragment bs c f = has-filter_map (λ (b : BlockMessage). certificate_of b.said) bs f.message c f.stored (ap certificate_of f.says_so)

pub total_of : (bs : List BlockMessage) (total : ℕ) → StatesTotal bs total → (c : block.Certificate) × HasFragment bs c × (c.total ≡ total)
total_of bs total h =
    let w : (c : block.Certificate) × Has (certificates bs) c × (c.total ≡ total) = from_has-map total_in (certificates bs) total h in
    (w.0, fragment_among bs w.0 w.1, w.2)

pub has-total : (bs : List BlockMessage) (c : block.Certificate) → HasFragment bs c → StatesTotal bs c.total
has-total bs c f = has-map total_in (certificates bs) c (has-fragment bs c f)

pub octet_of : (bs : List BlockMessage) (p : ℕ × ℕ) → StatesOctet bs p → (c : block.Certificate) × HasFragment bs c × Has (placed c.index c.fragment) p
octet_of bs p h =
    let w : (c : block.Certificate) × Has (certificates bs) c × Has (placed_in c) p = from_has-flat_map placed_in (certificates bs) p h in
    (w.0, fragment_among bs w.0 w.1, w.2)

pub has-octet : (bs : List BlockMessage) (c : block.Certificate) (p : ℕ × ℕ) → HasFragment bs c → Has (placed c.index c.fragment) p → StatesOctet bs p
has-octet bs c p f h = has-flat_map placed_in (certificates bs) c p (has-fragment bs c f) h

-- a fragment stays where its block stays
pub fragment_in : (bs ds : List BlockMessage) (c : block.Certificate) (f : HasFragment bs c) → Has ds f.message → HasFragment ds c
fragment_in bs ds c f h = record { message = f.message; stored = h; says_so = f.says_so }

-- ---- blocks that state the same

placed_cmp_total : IsTotalOrder placed_cmp
placed_cmp_total = then_total (on_total (λ (p : ℕ × ℕ). p.0) nat_cmp_total) (on_total (λ (p : ℕ × ℕ). p.1) nat_cmp_total)

placed_cmp-IsAntisymmetric : IsAntisymmetric placed_cmp
placed_cmp-IsAntisymmetric = exact_pairs nat_cmp nat_cmp nat_cmp-IsAntisymmetric nat_cmp-IsAntisymmetric

module _ (bs ds : List BlockMessage)
    (totals : (t : ℕ) → StatesTotal bs t → StatesTotal ds t) (totals_back : (t : ℕ) → StatesTotal ds t → StatesTotal bs t)
    (octets_there : (p : ℕ × ℕ) → StatesOctet bs p → StatesOctet ds p) (octets_back : (p : ℕ × ℕ) → StatesOctet ds p → StatesOctet bs p) where
  abbrev s : Stated
  s = stated_by (certificates bs)

  abbrev t : Stated
  t = stated_by (certificates ds)

  abbrev told_s : IsStatedBy s (certificates bs)
  told_s = stated_by-IsStatedBy (certificates bs)

  abbrev told_t : IsStatedBy t (certificates ds)
  told_t = stated_by-IsStatedBy (certificates ds)

  same_totals : s.totals ≡ t.totals
  same_totals =
      same_set nat_cmp_total nat_cmp-IsAntisymmetric s.totals t.totals (λ q.
      one_test (set.contains s.totals q) (set.contains t.totals q)
      (λ e. told_t.has_total q (totals q (told_s.total q e)))
      (λ e. told_s.has_total q (totals_back q (told_t.total q e))))

  same_octets : s.octets ≡ t.octets
  same_octets =
      same_set placed_cmp_total placed_cmp-IsAntisymmetric s.octets t.octets (λ q.
      one_test (set.contains s.octets q) (set.contains t.octets q)
      (λ e. told_t.has_octet q (octets_there q (told_s.octet q.0 q.1 e)))
      (λ e. told_s.has_octet q (octets_back q (told_t.octet q.0 q.1 e))))

  pub same_stated : stated_by (certificates bs) ≡ stated_by (certificates ds)
  same_stated = λ i. record { totals = same_totals i; octets = same_octets i }

-- ---- where nothing is disputed

pub one_total : (s : Stated) (t u : ℕ) → ¬ IsDisputed s → HasTotal s t → HasTotal s u → t ≡ u
unfolding IsDisputed
one_total s t u n h k = elim (cases_eq t u) [ inl e ↦ e | inr apart ↦ absurd (n (inl (t, u, h, k, apart))) ]

pub one_octet : (s : Stated) (i o p : ℕ) → ¬ IsDisputed s → HasOctet s i o → HasOctet s i p → o ≡ p
unfolding IsDisputed
one_octet s i o p n h k = elim (cases_eq o p) [ inl e ↦ e | inr apart ↦ absurd (n (inr (i, o, p, h, k, apart))) ]

-- ---- texts

-- nothing that the blocks state contradicts the text
pub record Fits (bs : List BlockMessage) (text : List ℕ) : Type 0 where
  pub total : (t : ℕ) → StatesTotal bs t → t ≡ length text
  pub octet : (i o : ℕ) → StatesOctet bs (i + 1, o) → i < length text → slice_index text i ≡ o

pub fits_stated : (bs : List BlockMessage) (text : List ℕ) → StatesText (stated_by (certificates bs)) text → Fits bs text
fits_stated bs text t =
    let s = stated_by (certificates bs) in
    let told = stated_by-IsStatedBy (certificates bs) in
    record {
      total = λ u h. one_total s u (length text) t.undisputed (told.has_total u h) t.text_is.total;
      octet = λ i o h below. one_octet s (i + 1) (slice_index text i) o t.undisputed (t.text_is.octets i below) (told.has_octet (i + 1, o) h);
    }

pub fits_within : (bs ds : List BlockMessage) (text : List ℕ) → ((b : BlockMessage) → Has bs b → Has ds b) → Fits ds text → Fits bs text
fits_within bs ds text within fits = record {
  total = λ t h.
      (let w = total_of bs t h in
      sym w.2 ∙ fits.total w.0.total (has-total ds w.0 (fragment_in bs ds w.0 w.1 (within w.1.message w.1.stored))));
  octet = λ i o h below.
      (let w = octet_of bs (i + 1, o) h in
      fits.octet i o (has-octet ds w.0 (i + 1, o) (fragment_in bs ds w.0 w.1 (within w.1.message w.1.stored)) w.2) below);
}

same_texts : (xs ys : List ℕ) → length xs ≡ length ys → ((i : ℕ) → i < length xs → slice_index xs i ≡ slice_index ys i) → xs ≡ ys
same_texts [] [] l e = refl
same_texts [] (y ∷ ys) l e = absurd (omega (arith, l))
same_texts (x ∷ xs) [] l e = absurd (omega (arith, l))
same_texts (x ∷ xs) (y ∷ ys) l e =
    let head : x ≡ y = e 0 (omega arith) in
    let rest : xs ≡ ys = same_texts xs ys (omega (arith, l)) (λ i h. e (suc i) (omega (arith, h))) in
    λ j. head j ∷ rest j

-- a stated text is the only one that fits
pub fits_one : (bs : List BlockMessage) (text other : List ℕ) → IsPayload (stated_by (certificates bs)) text → Fits bs other → text ≡ other
fits_one bs text other p fits =
    let told = stated_by-IsStatedBy (certificates bs) in
    let long : length text ≡ length other = fits.total (length text) (told.total (length text) p.total) in
    same_texts text other long (λ i below.
    sym (fits.octet i (slice_index text i) (told.octet (i + 1) (slice_index text i) (p.octets i below)) (omega (arith, below, long))))
