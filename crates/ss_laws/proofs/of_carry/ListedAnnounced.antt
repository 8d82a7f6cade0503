-- A hash of what a night lists under a number it announces for that number.
use Rattle.std.proofs.Common.{◌≡◌, inl, ℕ, true, refl, sym, ap, ◌∙◌, subst}
use Rattle.ss_block.specs.declared.hash.Hash.{Hash}
use Rattle.ss_block.specs.declared.hash.HashPair.{HashPair}
use Rattle.ss_review.specs.declared.keep.message.NormalMessage.{NormalMessage}
use Rattle.ss_review.specs.sessions.Verified.{Answers}
use Rattle.ss_review.specs.announced.Announced.{Key}
use Rattle.ss_review.specs.assign.Assigned.{has_hash}
use Rattle.ss_review.specs.announced.Announcing.{Announces}
use Rattle.ss_review.specs.report.Meaning.{IsListed}
use Rattle.ss_octets.proofs.Members.{Has, has_from_contains}
use Rattle.ss_review.proofs.of_reports.Listings.{listed_assigned}
use Rattle.ss_laws.specs.carry.Nights.{Nights, night_log, HasPair}
use Rattle.ss_laws.specs.carry.Reports.{night_report}
use Rattle.ss_laws.proofs.of_carry.KeysStay.{announced_for}
use Rattle.ss_laws.proofs.of_carry.SettledCounts.{same_message}
use Rattle.ss_laws.proofs.of_carry.SettledKeys.{from_night_normal, lists_one}
use Rattle.ss_laws.proofs.of_carry.WholeBearers.{wants_it}
use Rattle.ss_review.proofs.of_assignment.StoredRuns.{PlacesRise}

pub listed_announced : (x : Nights) (says : Answers) (up : PlacesRise x.whole.normal) (night : ℕ) (k : Key) (place : ℕ) (p : HashPair)
    → IsListed (night_report says x night) k place → HasPair x.whole place p
    → (h : Hash) × Announces says (night_log x night).blocks k h × (has_hash h p ≡ true)
listed_announced x says up night k place p l pair =
    let o = lists_one x says night k place (listed_assigned says (night_log x night) k place l) in
    let w = wants_it x says up night k o.message.pair o.wants in
    let m = pair.message in
    let same : o.message ≡ m
    = same_message x up o.message m (from_night_normal x night o.message o.stored).0 (has_from_contains x.whole.normal m pair.stored) (o.place_is ∙ sym pair.place_is) in
    let its : w.bearer.pair ≡ p = w.pair_is ∙ ap (λ (n : NormalMessage). n.pair) same ∙ pair.pair_is in
    (w.hash, announced_for says (night_log x night).blocks k w.hash (subst (λ hs. Has hs w.hash) (sym w.hashes) (inl refl)), subst (λ q. has_hash w.hash q ≡ true) its w.has)
