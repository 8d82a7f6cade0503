-- What blocks state stays where more of them come, and so does a payload, unless it is disputed.
use Rattle.std.proofs.Common.{◌≡◌, inl, inr, ℕ, ◌+◌, ◌-◌, List, length, sym, subst, arith}
use Rattle.std.specs.Prelude.{slice_index, Ok}
use Rattle.ss_block.specs.Joining.{Stated, HasTotal, HasOctet, IsDisputed, HasGap, IsPayload}
use Rattle.ss_review.specs.keep.BlockMessage.{BlockMessage}
use Rattle.ss_review.specs.sessions.Payloads.{certificates}
use Rattle.ss_review.specs.sessions.Verified.{Answers, joined}
use Rattle.ss_review.specs.sessions.States.{stated_by, IsCovered}
use Rattle.ss_octets.proofs.Members.{Has, has_from_contains}
use Rattle.ss_review.proofs.of_sessions.Stating.{IsStatedBy, stated_by-IsStatedBy}
use Rattle.ss_review.proofs.of_sessions.StatesTold.{joined_under, payload_told}
use Rattle.ss_review.proofs.of_sessions.Fragments.{StatesTotal, total_of, has-total, octet_of, has-octet, fragment_in, Fits, fits_stated, fits_within, fits_one}
use Rattle.ss_laws.proofs.of_carry.SameStates.{valid_in}
use Rattle.ss_laws.proofs.of_carry.LeftBlocks.{Joins}

abbrev pub AreAmong : List BlockMessage → List BlockMessage → Type 0
AreAmong bs ds = (b : BlockMessage) → Has bs b → Has ds b

module _ (bs ds : List BlockMessage) (among : AreAmong bs ds) where
  abbrev s : Stated
  s = stated_by (certificates bs)

  abbrev t : Stated
  t = stated_by (certificates ds)

  abbrev told_s : IsStatedBy s (certificates bs)
  told_s = stated_by-IsStatedBy (certificates bs)

  abbrev told_t : IsStatedBy t (certificates ds)
  told_t = stated_by-IsStatedBy (certificates ds)

  pub total_stays : (total : ℕ) → HasTotal s total → HasTotal t total
  total_stays total h =
      let w = total_of bs total (told_s.total total h) in
      told_t.has_total total (subst (StatesTotal ds) w.2 (has-total ds w.0 (fragment_in bs ds w.0 w.1 (among w.1.message w.1.stored))))

  pub octet_stays : (i o : ℕ) → HasOctet s i o → HasOctet t i o
  octet_stays i o h =
      let w = octet_of bs (i, o) (told_s.octet i o h) in
      told_t.has_octet (i, o) (has-octet ds w.0 (i, o) (fragment_in bs ds w.0 w.1 (among w.1.message w.1.stored)) w.2)

  dispute_stays : IsDisputed s → IsDisputed t
  unfolding IsDisputed
  dispute_stays (inl d) = inl (d.0, d.1, total_stays d.0 d.2, total_stays d.1 d.3, d.4)
  dispute_stays (inr d) = inr (d.0, d.1, d.2, octet_stays d.0 d.1 d.3, octet_stays d.0 d.2 d.4, d.5)

  payload_stays : (text : List ℕ) → IsPayload s text → IsPayload t text
  payload_stays text p = record {
    total = total_stays (length text) p.total;
    octets = λ i below. octet_stays (i + 1) (slice_index text i) (p.octets i below);
  }

  no_gap : (text : List ℕ) → IsPayload s text → Fits ds text → HasGap t → ⊥
  unfolding HasGap
  no_gap text p fits (inl none) = none (length text) (total_stays (length text) p.total)
  no_gap text p fits (inr g) =
      let long : g.0 ≡ length text = fits.total g.0 (told_t.total g.0 g.2) in
      let at : g.1 - 1 + 1 ≡ g.1 = omega (arith, g.3) in
      g.5 (slice_index text (g.1 - 1))
      (subst (λ i. HasOctet t i (slice_index text (g.1 - 1))) at
      (octet_stays (g.1 - 1 + 1) (slice_index text (g.1 - 1)) (p.octets (g.1 - 1) (omega (arith, g.3, g.4, long)))))

  module _ (says : Answers) where
    covered_stays : (text : List ℕ) → IsCovered says bs text → IsCovered says ds text
    covered_stays text c = λ index low high.
        let o = c index low high in
        valid_in says bs ds text index o (among o.message (has_from_contains bs o.message o.stored))

    -- a session that is joined by some of its blocks, and by all, has one payload
    pub one_payload : (text other : List ℕ) → joined says bs ≡ Ok text → joined says ds ≡ Ok other → text ≡ other
    one_payload text other e f =
        fits_one bs text other (payload_told says bs text e).0.text_is (fits_within bs ds other among (fits_stated ds other (payload_told says ds other f).0))

-- a session that is joined by some of its blocks, and by all, is joined by any between
pub joined_between : (says : Answers) (bs ds es : List BlockMessage) → AreAmong bs ds → AreAmong ds es
    → (text : List ℕ) → joined says bs ≡ Ok text → Joins says es → joined says ds ≡ Ok text
joined_between says bs ds es low high text e j =
    let under = payload_told says bs text e in
    let end = payload_told says es j.0 j.1 in
    let same : text ≡ j.0 = one_payload bs es (λ b h. high b (low b h)) says text j.0 e j.1 in
    let fits : Fits ds text = fits_within ds es text high (subst (Fits es) (sym same) (fits_stated es j.0 end.0)) in
    joined_under says ds text (
      record {
        undisputed = λ d. end.0.undisputed (dispute_stays ds es high d);
        gapless = no_gap bs ds low text under.0.text_is fits;
        text_is = payload_stays bs ds low text under.0.text_is;
      },
      under.1,
      under.2,
      covered_stays bs ds low says text under.3,
    )
