-- What a review by given payloads reports of originators whose blocks nobody forged.
use Rattle.std.proofs.Common.{◌≡◌, inl, inr, ℕ, ◌<◌, ◌≤◌, List, ◌∷◌, refl, sym, ap, ◌∙◌, subst}
use Rattle.std.specs.Prelude.{Ok}
use Rattle.ss_payload.specs.Payload.{payload_text}
use Rattle.ss_review.specs.declared.counted.counter.Counter.{Counter}
use Rattle.ss_review.specs.announced.Announced.{Key}
use Rattle.ss_review.specs.announced.Announcing.{Announces, IsAnnounced}
use Rattle.ss_review.specs.counted.Kept.{kept_number}
use Rattle.ss_review.specs.counted.KeptLaws.{shortfalls_of, EveryNumberIsTold, IsLost}
use Rattle.ss_review.specs.deliveries.Delivery.{own_session}
use Rattle.ss_review.specs.deliveries.DeliveryLaws.{Case, says}
use Rattle.ss_review.specs.keep.Contents.{Contents, blocks, contents}
use Rattle.ss_review.specs.keep.Notes.{notes}
use Rattle.ss_review.specs.report.Meaning.{IsListed, IsGap, IsTold}
use Rattle.ss_review.specs.report.Report.{report, report_of}
use Rattle.ss_review.specs.sessions.Sessions.{of_session}
use Rattle.ss_review.specs.sessions.Verified.{is_valid, joined}
use Rattle.ss_octets.proofs.Members.{has_from_contains, contains_from_has}
use Rattle.ss_review.proofs.of_reports.Witnesses.{verified_cases}
use Rattle.ss_review.specs.pinned.Pinned.{pinned_contents}
use Rattle.ss_laws.specs.strangers.StateLaws.{LogsAreWithin, SessionsAreJoinedByGiven}
use Rattle.ss_laws.specs.strangers.Unforged.{IsUnforged, blocks_in, pinned_in}
use Rattle.ss_laws.specs.strangers.UnforgedLaws.{OnlyClaimantsJoin, HasItsHash, AnnouncedAreGiven, NothingIsDisputed, ListedHaveTheirHash, IsReported, LostAreReported}
use Rattle.ss_laws.proofs.of_ahead.AsSent.{AreAsSent, hash_at, lost_unlisted, unlisted_fate}
use Rattle.ss_review.proofs.of_pinned.HiddenBlocks.{IsSpoiltText, hidden, same_sessions, same_shortfalls}
use Rattle.ss_laws.proofs.of_ahead.Reported.{told_in, hole_in, told_announced, disputed_announced}
use Rattle.ss_laws.proofs.of_strangers.ReportsAgree.{from_has-kept}
use Rattle.ss_origin.specs.Ahead.{Life}
use Rattle.ss_origin.specs.AheadLaws.{NumbersAreGivenOnce, CountersGoPast, number_given}
use Rattle.ss_review.specs.deliveries.AheadDelivery.{HasNumber, HasHashOfNumber}
use Rattle.ss_review.specs.declared.report.entry.Why.TheVariants as whys
use Rattle.ss_review.specs.counted.KeptLaws as fates
use Rattle.ss_message.specs.Laws.{FaultsAreOfNoMessage}
use Rattle.ss_origin.specs.Calls.{spri_in}
use Rattle.ss_review.specs.deliveries.Delivered.{own_number}
use Rattle.ss_laws.specs.ahead.Reported.{AreAhead}
use Rattle.ss_laws.specs.strangers.NewestCounters.{LostAreReportedByTheNewestCounters}
use Rattle.ss_laws.proofs.of_ahead.NewestCounters.{below_newest}
use Rattle.ss_laws.proofs.of_ahead.Numbered.{is_numbered, one_hash}

module _ (x : Case) (ps : List (List ℕ)) where
  abbrev pub log_of : Contents
  log_of = pinned_contents (says x) ps (contents (notes x.log))

  -- ---- the report of what is kept

  pub told_of : (k : Key) → IsTold (pinned_in x ps) k → IsTold (report_of (says x) log_of) k
  told_of k (inl l) = inl (l.0, told_in (pinned_in x ps) (report_of (says x) log_of) k.session k.group _ refl l.1)
  told_of k (inr g) = inr (g.0, told_in (pinned_in x ps) (report_of (says x) log_of) k.session k.group _ refl g.1)

  pub of_told : (k : Key) → IsTold (report_of (says x) log_of) k → IsTold (pinned_in x ps) k
  of_told k (inl l) = inl (l.0, told_in (report_of (says x) log_of) (pinned_in x ps) k.session k.group _ refl l.1)
  of_told k (inr g) = inr (g.0, told_in (report_of (says x) log_of) (pinned_in x ps) k.session k.group _ refl g.1)

  pub listed_of : (k : Key) (place : ℕ) → IsListed (pinned_in x ps) k place → IsListed (report_of (says x) log_of) k place
  listed_of k place l = told_in (pinned_in x ps) (report_of (says x) log_of) k.session k.group _ refl l

  -- ---- nothing is forged

  pub as_sent : IsUnforged x ps → AreAsSent x (blocks_in x ps)
  as_sent is b said c own says_so verified =
      let v = verified_cases (says x) (blocks_in x ps) b verified in
      let under : joined (says x) (of_session (blocks_in x ps) (own_session x.s)) ≡ Ok v.0 = ap (λ s. joined (says x) (of_session (blocks_in x ps) s)) (sym own) ∙ v.1 in
      let its : v.0 ≡ payload_text x.s.payload = is.no_other v.0 under in
      let all = blocks (notes x.log) in
      is.nothing b said (contains_from_has all b (from_has-kept (says x) ps all b (has_from_contains (blocks_in x ps) b c)).0) own says_so
      (ap (λ p. is_valid (says x) p b) (sym its) ∙ v.2)

  -- ---- what became of a number

  -- up to counters that go past it, it is reported if it is neither listed nor disputed
  pub fate_of : EveryNumberIsTold → IsSpoiltText → (cs : List Counter) (k : Key) → ((place : ℕ) → IsListed (pinned_in x ps) k place → ⊥) → (IsGap (pinned_in x ps) k whys.Disputed → ⊥)
      → 1 ≤ k.number → k.number < kept_number cs k.session k.group → IsReported x ps cs k
  fate_of every spoilt cs k unlisted undisputed some below =
      let h = hidden (says x) ps x.log in
      let r = report (says x) h in
      let same = same_sessions (says x) ps x.log spoilt in
      let all = same_shortfalls (says x) ps x.log spoilt cs in
      let w = (every (says x) h cs k).0 some below in
      elim (unlisted_fate r (shortfalls_of (says x) h cs) k
      (λ place l. unlisted place (told_in r (pinned_in x ps) k.session k.group _ same l))
      (λ g. undisputed (told_in r (pinned_in x ps) k.session k.group _ same g)) w.0 w.1) [
        | inl gap ↦ inl (told_in r (pinned_in x ps) k.session k.group _ same gap)
        | inr more ↦ (elim more [
          | inl hole ↦ inr (inl (hole_in r (pinned_in x ps) k same hole))
          | inr tail ↦ inr (inr (subst (λ a. fates.IsInTail a k) all tail))
        ])
      ]

-- ---- laws

-- a session that only the originators' payload claims is joined under it
pub only_claimants : LogsAreWithin → SessionsAreJoinedByGiven → OnlyClaimantsJoin
only_claimants within given_ones x ps one payload e =
    let all = blocks (notes x.log) in
    let under = (given_ones (says x) ps all (own_session x.s) (within x.log)).one (payload_text x.s.payload) one in
    let both : Ok payload ≡ Ok (payload_text x.s.payload) = sym e ∙ under in
    cc

module _ (once : NumbersAreGivenOnce) (x : Case) (ps : List (List ℕ)) (lives : List Life) (ahead : AreAhead x lives) (is : IsUnforged x ps) where
  given : (k : Key) → k.session ≡ own_session x.s → IsTold (pinned_in x ps) k → HasItsHash x ps lives k
  given k own t =
      let a : IsAnnounced (says x) (blocks_in x ps) k = told_announced (says x) (log_of x ps) k (told_of x ps k t) in
      let n = is_numbered x lives ahead (blocks_in x ps) (as_sent x ps is) k own a.0 a.1 in
      record {
        message = n.message;
        numbered = n.numbered;
        announced = subst (Announces (says x) (blocks_in x ps) k) n.hash a.1;
        no_other = one_hash x lives ahead (blocks_in x ps) (as_sent x ps is) once k n.message own n.numbered;
      }

  undisputed : (k : Key) → k.session ≡ own_session x.s → IsGap (pinned_in x ps) k whys.Disputed → ⊥
  undisputed k own g =
      let its = given k own (inr (whys.Disputed, g)) in
      let two = disputed_announced (says x) (log_of x ps) k (told_in (pinned_in x ps) (report_of (says x) (log_of x ps)) k.session k.group _ refl g) in
      two.4 (its.no_other two.0 two.2 ∙ sym (its.no_other two.1 two.3))

  its_hash : (k : Key) (place : ℕ) → k.session ≡ own_session x.s → IsListed (pinned_in x ps) k place → HasHashOfNumber x lives k place
  its_hash k place own l =
      let its = given k own (inl (place, l)) in
      let h = hash_at x (log_of x ps) refl k place its.message its.no_other (listed_of x ps k place l) in
      record { message = its.message; numbered = its.numbered; stored = h.stored; stored_is = h.stored_is; no_block = h.no_block; same_hash = h.same_hash }

  lost : EveryNumberIsTold → IsSpoiltText → (k : Key) (m : List ℕ) → k.session ≡ own_session x.s → HasNumber x.s.config lives k m → IsLost x m
      → (cs : List Counter) → 1 ≤ k.number → k.number < kept_number cs k.session k.group → IsReported x ps cs k
  lost every spoilt k m own numbered is_lost cs some below =
      fate_of x ps every spoilt cs k
      (λ place l. lost_unlisted x (log_of x ps) refl k place m
      (one_hash x lives ahead (blocks_in x ps) (as_sent x ps is) once k m own numbered) is_lost (listed_of x ps k place l))
      (undisputed k own) some below

pub announced_given : NumbersAreGivenOnce → AnnouncedAreGiven
announced_given once x ps lives ahead is k own t = given once x ps lives ahead is k own t

pub nothing_disputed : NumbersAreGivenOnce → NothingIsDisputed
nothing_disputed once x ps lives ahead is k own = undisputed once x ps lives ahead is k own

pub listed_hash : NumbersAreGivenOnce → ListedHaveTheirHash
listed_hash once x ps lives ahead is k place own l = its_hash once x ps lives ahead is k place own l

pub lost_reported : NumbersAreGivenOnce → EveryNumberIsTold → IsSpoiltText → LostAreReported
lost_reported once every spoilt x ps lives ahead is k m own numbered is_lost cs some below = lost once x ps lives ahead is every spoilt k m own numbered is_lost cs some below

pub lost_by_newest : FaultsAreOfNoMessage → CountersGoPast → LostAreReported → LostAreReportedByTheNewestCounters
lost_by_newest read past told x ps newest older ahead is cs newer m g lost =
    let own = own_number x (spri_in x.s.config.grouping m) (number_given x.s.config g) in
    let b = below_newest read past x newest older ahead cs newer m g in
    told x ps (newest ∷ older) ahead is own m refl (record { given = g; number = refl; group = refl }) lost cs b.0 b.1
