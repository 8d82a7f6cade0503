-- Premises that hold in the end and of each night before.
use Rattle.std.proofs.Common.{◌≡◌, ◌==◌, ℕ, ◌≤◌, Bool, true, false, cond, refl, sym, ap, ◌∙◌, arith}
use Rattle.std.specs.Prelude.{nat_le}
use Rattle.ss_review.specs.keep.Notes.{notes}
use Rattle.ss_review.specs.keep.Contents.{Contents, contents}
use Rattle.ss_review.specs.report.Report.{report_of}
use Rattle.ss_review.specs.sessions.Verified.{Answers}
use Rattle.ss_laws.proofs.of_parts.PartLogs.{part_told}
use Rattle.ss_laws.specs.carry.Nights.{Nights, night_log, at_places, LeaveEnough}
use Rattle.ss_laws.specs.carry.Together.{JoinedStay, AgreeLater}
use Rattle.ss_laws.proofs.of_carry.AnnouncedNights.{verified_joined, stays_verified}
use Rattle.ss_laws.proofs.of_carry.LeftBlocks.{AreInRange}
use Rattle.ss_laws.specs.carry.EachNight.{FilesSoFarAreLogs, AgreeButLost, part_so_far}

-- a session that is joined in a night and in the end is joined in between
module _ (says : Answers) (x : Nights) (ranges : AreInRange x.whole.blocks) (last : ℕ) (leave : LeaveEnough says x last) where
  joined_before : JoinedStay says x last → (night : ℕ) → night ≤ last → JoinedStay says x night
  joined_before stay night low before b less c v l =
      verified_joined says (night_log x night).blocks b
      (stays_verified says x ranges last leave before night (omega (arith, less)) low b v (stay before b (omega (arith, less, low)) c v l))

  pub agree_before : AgreeButLost says x last → (night : ℕ) → night ≤ last → AgreeButLost says x night
  agree_before agree night low = record {
    joined = joined_before agree.joined night low;
    hash = λ before later k place g h less most. agree.hash before later k place g h less (omega (arith, most, low));
    again = λ before later k place less most. agree.again before later k place less (omega (arith, most, low));
    collision = λ before later k place p j q w less most. agree.collision before later k place p j q w less (omega (arith, most, low));
  }

pub first_agrees : (says : Answers) (x : Nights) → AgreeLater says x 0
first_agrees says x = record {
  joined = λ night b low. absurd (omega (arith, low));
  hash = λ night later k place g h low high. absurd (omega (arith, low, high));
  again = λ night later k place low high. absurd (omega (arith, low, high));
  lost = λ night k place p j h low. absurd (omega (arith, low));
  collision = λ night later k place p j q w low high. absurd (omega (arith, low, high));
}

same_test : (b : Bool) → b ≡ (cond b 0 1 == 0)
same_test true = refl
same_test false = refl

pub so_far_are_logs : FilesSoFarAreLogs
so_far_are_logs says x night log e =
    ap (λ (whole : Contents). report_of says (at_places (λ place. nat_le (x.file place) night) whole)) e
    ∙ (λ i. report_of says (at_places (λ place. same_test (nat_le (x.file place) night) i) (contents (notes log))))
    ∙ sym (part_told (part_so_far x.file night) 0 log says)
