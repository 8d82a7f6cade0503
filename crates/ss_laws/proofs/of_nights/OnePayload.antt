-- A session whose blocks of two logs are joined under one payload is joined under it by the blocks of both.
use Rattle.std.proofs.Common.{◌≡◌, inl, inr, ℕ, ◌+◌, ◌-◌, ◌<◌, List, ◌++◌, length, sym, ◌∙◌, subst, arith}
use Rattle.std.specs.Prelude.{slice_index, Ok}
use Rattle.ss_block.specs.Block as block
use Rattle.ss_review.specs.keep.BlockMessage.{BlockMessage}
use Rattle.ss_review.specs.sessions.Payloads.{certificates}
use Rattle.ss_review.specs.sessions.Verified.{Answers, joined}
use Rattle.ss_review.specs.sessions.States.{stated_by, HasValidOctet, IsJoinedUnder}
use Rattle.ss_octets.proofs.Members.{Has, has_from_contains, has-append_left, has-append_cases}
use Rattle.ss_review.proofs.of_sessions.Stating.{IsStatedBy, stated_by-IsStatedBy, from_has-placed}
use Rattle.ss_review.proofs.of_sessions.StatesTold.{payload_told}
use Rattle.ss_review.proofs.of_sessions.Fragments.{StatesTotal, StatesOctet, HasFragment, total_of, has-total, octet_of, has-octet, fragment_in, Fits, fits_stated, fits_within, fits_one}
use Rattle.ss_laws.proofs.of_carry.LeftBlocks.{AreInRange}
use Rattle.ss_laws.proofs.of_carry.SameStates.{same_joined}

-- ---- more blocks that state no other text

module _ (says : Answers) (xs all : List BlockMessage) (among : (b : BlockMessage) → Has xs b → Has all b) (ranges : AreInRange all)
    (text : List ℕ) (e : joined says xs ≡ Ok text) (fits : Fits all text) where
  told : IsStatedBy (stated_by (certificates xs)) (certificates xs)
  told = stated_by-IsStatedBy (certificates xs)

  under : IsJoinedUnder says xs text
  under = payload_told says xs text e

  its_total : StatesTotal xs (length text)
  its_total = told.total (length text) under.0.text_is.total

  long : (c : block.Certificate) → HasFragment all c → c.total ≡ length text
  long c f = fits.total c.total (has-total all c f)

  total_there : (t : ℕ) → StatesTotal all t → StatesTotal xs t
  total_there t h = subst (StatesTotal xs) (sym (fits.total t h)) its_total

  octet_there : (p : ℕ × ℕ) → StatesOctet all p → StatesOctet xs p
  octet_there p h =
      let w = octet_of all p h in
      let r = ranges w.0 w.1 in
      let at = from_has-placed w.0.index w.0.fragment p w.2 in
      let l : w.0.total ≡ length text = long w.0 w.1 in
      let back : p.0 - 1 + 1 ≡ p.0 = omega (arith, r.some_index, at.0) in
      let below : p.0 - 1 < length text = omega (arith, r.some_index, r.within, at.0, at.1, l) in
      let same : slice_index text (p.0 - 1) ≡ p.1 = fits.octet (p.0 - 1) p.1 (subst (λ (q : ℕ). StatesOctet all (q, p.1)) (sym back) h) below in
      let mine : StatesOctet xs (p.0 - 1 + 1, slice_index text (p.0 - 1)) = told.octet (p.0 - 1 + 1) (slice_index text (p.0 - 1)) (under.0.text_is.octets (p.0 - 1) below) in
      subst (λ (q : ℕ). StatesOctet xs (q, p.1)) back (subst (λ (o : ℕ). StatesOctet xs (p.0 - 1 + 1, o)) same mine)

  valid_there : (other : List ℕ) → Fits all other → (index : ℕ) → HasValidOctet says all other index → HasValidOctet says xs other index
  valid_there other ok index o =
      let same : text ≡ other = fits_one xs text other under.0.text_is (fits_within xs all other among ok) in
      let f : HasFragment all o.said = record { message = o.message; stored = has_from_contains all o.message o.stored; says_so = o.says_so } in
      let r = ranges o.said f in
      let l : o.said.total ≡ length text = long o.said f in
      let low = o.from in
      let high = o.to in
      subst (λ (q : List ℕ). HasValidOctet says xs q index) same (under.3 index (omega (arith, r.some_index, low)) (omega (arith, r.within, l, high)))

  some_block : (d : BlockMessage) × Has xs d
  some_block =
      let w = total_of xs (length text) its_total in
      (w.1.message, w.1.stored)

  pub joined_all : joined says all ≡ Ok text
  joined_all =
      sym (same_joined says xs all (record {
        among = among;
        some = λ b h. some_block;
        totals = total_there;
        octets = octet_there;
        covered = valid_there;
      }))
      ∙ e

-- ---- the blocks of two logs

module _ (xs ys : List BlockMessage) (text : List ℕ) (first : Fits xs text) (second : Fits ys text) where
  abbrev both : List BlockMessage
  both = xs ++ ys

  fits_both : Fits both text
  fits_both = record {
    total = λ t h.
        (let w = total_of both t h in
        elim (has-append_cases xs ys w.1.message w.1.stored) [
          | inl i ↦ sym w.2 ∙ first.total w.0.total (has-total xs w.0 (fragment_in both xs w.0 w.1 i))
          | inr i ↦ sym w.2 ∙ second.total w.0.total (has-total ys w.0 (fragment_in both ys w.0 w.1 i))
        ]);
    octet = λ i o h below.
        (let w = octet_of both (i + 1, o) h in
        elim (has-append_cases xs ys w.1.message w.1.stored) [
          | inl j ↦ first.octet i o (has-octet xs w.0 (i + 1, o) (fragment_in both xs w.0 w.1 j) w.2) below
          | inr j ↦ second.octet i o (has-octet ys w.0 (i + 1, o) (fragment_in both ys w.0 w.1 j) w.2) below
        ]);
  }

pub joined_both : (says : Answers) (xs ys : List BlockMessage) (text : List ℕ) → AreInRange (xs ++ ys) → joined says xs ≡ Ok text → joined says ys ≡ Ok text → joined says (xs ++ ys) ≡ Ok text
joined_both says xs ys text ranges e f =
    joined_all says xs (xs ++ ys) (has-append_left xs ys) ranges text e
    (fits_both xs ys text (fits_stated xs text (payload_told says xs text e).0) (fits_stated ys text (payload_told says ys text f).0))
