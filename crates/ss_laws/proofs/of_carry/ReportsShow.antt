-- What the reports of the nights alone show of the premises.
use Rattle.std.proofs.Common.{◌≡◌, ℕ, refl, arith}
use Rattle.std.specs.Prelude.{Option, Some, None}
use Rattle.ss_review.specs.sessions.Verified.{Answers}
use Rattle.ss_review.specs.announced.Announced.{Key, rows}
use Rattle.ss_review.specs.announced.Announcing.{IsAnnounced}
use Rattle.ss_review.proofs.of_numbers.Announcements.{announced_key}
use Rattle.ss_review.proofs.of_assignment.OnePlaceOneKey.{assigned_cases, wanted_key}
use Rattle.ss_laws.specs.carry.Nights.{Nights, night_log, listed}
use Rattle.ss_laws.specs.carry.Together.{AgreeLater, NoOtherWanted, ReportsShow}
use Rattle.ss_laws.proofs.of_carry.KeysStay.{verified_joined}

module _ (says : Answers) (x : Nights) (last : ℕ) (show : ReportsShow says x last) where
  -- what isn't announced isn't listed
  unlisted_if : (night : ℕ) (k : Key) → ¬ IsAnnounced says (night_log x night).blocks k → (o : Option ℕ) → listed says (night_log x night) k ≡ o → listed says (night_log x night) k ≡ None
  unlisted_if night k n None e = e
  unlisted_if night k n (Some place) e =
      let log = night_log x night in
      let a = assigned_cases log.normal (rows says log.blocks) k place e in
      absurd (n (announced_key says log.blocks k (wanted_key log.normal (rows says log.blocks) k a.0 a.1)))

  pub shown : NoOtherWanted says x last → AgreeLater says x last
  shown collision = record {
    joined = λ night b below stored verified left.
        show.joined night last b.session below (omega arith) (verified_joined says (night_log x night).blocks b verified);
    hash = λ night later k place g h before within s a b. absurd (show.unannounced night later k place before within s (h, b));
    again = λ night later k place before within s.
        unlisted_if later k (show.unannounced night later k place before within s) (listed says (night_log x later) k) refl;
    lost = λ night k place p j h below s pair l n has less. show.none_lost j h l;
    collision = collision;
  }
