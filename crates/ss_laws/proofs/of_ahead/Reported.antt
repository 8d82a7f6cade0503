-- What a report of any contents says about a number, and the same of two reports with equal sessions.
use Rattle.std.proofs.Common.{◌≡◌, inl, inr, ℕ, Bool, true, false, List, refl, ap, ◌∙◌, subst}
use Rattle.std.specs.Prelude.{Option, Some, None, if◌then◌else◌}
use Rattle.std.specs.List.{Contains}
use Rattle.ss_block.specs.declared.block.Group.{Group}
use Rattle.ss_block.specs.declared.hash.Hash.{Hash}
use Rattle.ss_block.specs.declared.hash.HashPair.{HashPair}
use Rattle.ss_block.specs.declared.session.Session.{Session}
use Rattle.ss_review.specs.declared.keep.message.NormalMessage.{NormalMessage}
use Rattle.ss_review.specs.declared.report.entry.Entry.{Entry}
use Rattle.ss_review.specs.declared.report.entry.Why.TheVariants as whys
use Rattle.ss_review.specs.declared.report.report.Report.{Report}
use Rattle.ss_review.specs.declared.report.session_report.SessionReport.{SessionReport}
use Rattle.ss_review.specs.announced.Announced.{Key, Row, keys, rows, hashes_for, is_disputed_key}
use Rattle.ss_review.specs.announced.Announcing.{Announces, IsAnnounced, IsDisputedKey}
use Rattle.ss_review.specs.assign.Assigned.{has_hash, places_with, wanted, rank, assigned}
use Rattle.ss_review.specs.counted.KeptLaws.{IsInHole}
use Rattle.ss_review.specs.keep.Contents.{Contents}
use Rattle.ss_review.specs.report.Meaning.{Tells, IsListed, IsGap, IsTold}
use Rattle.ss_review.specs.report.Report.{report_of}
use Rattle.ss_review.specs.sessions.Verified.{Answers}
use Rattle.ss_octets.proofs.Members.{Has}
use Rattle.ss_review.proofs.of_assignment.OnePlaceOneKey.{only_one, assigned_cases, from_has-places_with}
use Rattle.ss_review.proofs.of_lists.Keyed.{has-slice_get}
use Rattle.ss_review.proofs.of_numbers.Announcements.{announced_row, announced_key, has-announced_key, from_has-hashes_for, disputed_key}
use Rattle.ss_review.proofs.of_reports.Listings.{listed_assigned, assigned_listed, gap_told, tells_gap}
use Rattle.ss_review.proofs.of_reports.Witnesses.{bearer_has}

-- ---- reports with equal sessions

pub told_in : (r q : Report) (s : Session) (g : Group) (e : Entry) → r.sessions ≡ q.sessions → Tells r s g e → Tells q s g e
told_in r q s g e same t = record {
  session = t.session;
  session_told = subst (λ (ss : List SessionReport). Contains ss t.session) same t.session_told;
  session_is = t.session_is;
  group = t.group;
  group_told = t.group_told;
  group_is = t.group_is;
  entry_told = t.entry_told;
}

pub hole_in : (r q : Report) (k : Key) → r.sessions ≡ q.sessions → IsInHole r k → IsInHole q k
hole_in r q k same h = record { first = h.first; last = h.last; told = told_in r q k.session k.group _ same h.told; from = h.from; to = h.to }

-- ---- what is listed

-- the hash that is announced for a number, and the message that is listed under it
pub record IsBorne (says : Answers) (log : Contents) (k : Key) (place : ℕ) : Type 0 where
  pub hash : Hash
  pub announced : Announces says log.blocks k hash
  pub message : NormalMessage
  pub stored : Has log.normal message
  pub place_is : message.place ≡ place
  pub has : has_hash hash message.pair ≡ true

module _ (says : Answers) (log : Contents) where
  abbrev rs : List Row
  rs = rows says log.blocks

  hash_wanted : (k : Key) (p : HashPair) → wanted log.normal rs k ≡ Some p → (h : Hash) × Announces says log.blocks k h × (has_hash h p ≡ true)
  unfolding wanted
  hash_wanted k p e =
      let w = only_one log.normal (hashes_for rs k) p e in
      (w.0, announced_row says log.blocks (record { key = k; hash = w.0 }) (from_has-hashes_for rs k w.0 w.1), bearer_has log.normal w.0 p w.3)

  pub borne : (k : Key) (place : ℕ) → IsListed (report_of says log) k place → IsBorne says log k place
  borne k place l =
      let a = assigned_cases log.normal rs k place (listed_assigned says log k place l) in
      let m = from_has-places_with log.normal rs a.0 place (has-slice_get (places_with log.normal a.0) (rank log.normal rs k a.0) place a.2) in
      let w = hash_wanted k a.0 a.1 in
      record {
        hash = w.0;
        announced = w.1;
        message = m.0;
        stored = m.1;
        place_is = m.3;
        has = ap (has_hash w.0) m.2 ∙ w.2;
      }

  -- ---- what is told

  pub told_announced : (k : Key) → IsTold (report_of says log) k → IsAnnounced says log.blocks k
  told_announced k (inl l) = let b = borne k l.0 l.1 in (b.hash, b.announced)
  told_announced k (inr g) = announced_key says log.blocks k (gap_told says log k g.0 g.1).0

  by_place : (k : Key) → Has (keys rs) k → (o : Option ℕ) → assigned log.normal rs k ≡ o → IsTold (report_of says log) k
  by_place k h None e = inr (_, tells_gap says log k h e)
  by_place k h (Some place) e = inl (place, assigned_listed says log k place e)

  pub announced_told : (k : Key) → IsAnnounced says log.blocks k → IsTold (report_of says log) k
  announced_told k a = by_place k (has-announced_key says log.blocks k a) (assigned log.normal rs k) refl

  -- ---- disputes

  why_disputed : (b : Bool) → (if b then whys.Disputed else whys.Lost) ≡ whys.Disputed → b ≡ true
  why_disputed true e = refl
  why_disputed false e = absurd (cc)

  pub disputed_announced : (k : Key) → IsGap (report_of says log) k whys.Disputed → IsDisputedKey says log.blocks k
  disputed_announced k g = disputed_key says log.blocks k (why_disputed (is_disputed_key rs k) (gap_told says log k whys.Disputed g).2)
