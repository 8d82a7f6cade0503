-- The small log of two originators without the stranger's blocks, reviewed without given payloads. It delivers from the
-- originators, and meets all premises of the laws on what is reported of them.
use Rattle.std.specs.Prelude.{◌≡◌, ◌<◌, [], ◌∷◌, slice_get, Some}
use Rattle.ss_origin.specs.Chain.{IsChain, given_to}
use Rattle.ss_review.specs.declared.report.entry.Why.TheVariants as whys
use Rattle.ss_review.specs.declared.report.report.Report.{Report}
use Rattle.ss_review.specs.counted.Kept.{kept_number}
use Rattle.ss_review.specs.counted.KeptLaws.{shortfalls_of, IsInTail, ReachTheEnd, IsLost}
use Rattle.ss_review.specs.deliveries.Delivery.{Delivers}
use Rattle.ss_review.specs.deliveries.DeliveryLaws.{Case, says, report_in, message_of}
use Rattle.ss_review.specs.deliveries.AheadDelivery.{HasNumber}
use Rattle.ss_review.specs.deliveries.SmallChains.{small, message, certificate, block, ahead}
use Rattle.ss_review.specs.report.Meaning.{IsListed, IsGap}
use Rattle.ss_laws.specs.strangers.AddedMessages.{IsWith, MayBeAdded}
use Rattle.ss_laws.specs.strangers.cases.SmallUnforged.{mixed, lives, number, counters_at, joined_session, missing_to}
use Rattle.ss_laws.specs.ahead.Reported.{AreAhead}

-- the stranger's message is left in it
abbrev pub delivered : Case
delivered = record mixed {
  log = certificate ∷ block 0 1 (message 49 ∷ message 50 ∷ []) ∷ message 57 ∷ message 50 ∷ [];
}

-- the same log of originators that go on ahead
abbrev pub delivered_ahead : Case
delivered_ahead = record delivered { chain = ahead.chain }

abbrev pub delivered_report : Report
delivered_report = record {
  sessions = joined_session 3 ∷ [];
  unlisted = 2 ∷ [];
  refused = [];
  spoilt = [];
  count = 4;
}

pub record SmallUntrustedIsThis : Type 0 where
  -- the stranger may add its two blocks to it, which gives the other log
  pub added : IsWith (MayBeAdded (says delivered) delivered.log) delivered.log mixed.log
  pub chain : IsChain small delivered.chain
  pub delivers : Delivers small delivered.chain delivered.log
  pub reach : ReachTheEnd delivered (counters_at 2 5)
  pub last_is : slice_get (given_to small.config 0 delivered.chain) 3 ≡ Some (message 52)
  pub last_lost : IsLost delivered (message 52)
  pub ahead : AreAhead delivered_ahead lives
  pub delivers_ahead : Delivers small delivered_ahead.chain delivered_ahead.log
  pub last_numbered : HasNumber small.config lives (number 6) (message 52)
  pub below : 6 < kept_number (counters_at 4 7) (number 6).session (number 6).group
  -- the message number 2 is listed, number 1 is a gap, and the last one is in a tail
  pub report : report_in delivered ≡ delivered_report
  pub listed : IsListed (report_in delivered) (number 2) 3
  pub stored : slice_get delivered.log 3 ≡ Some (message 50)
  pub its_message : message_of delivered (number 2) ≡ Some (message 50)
  pub gap : IsGap (report_in delivered) (number 1) whys.Lost
  pub missing : shortfalls_of (says delivered) delivered.log (counters_at 2 5) ≡ missing_to 1 4
  pub in_tail : IsInTail (shortfalls_of (says delivered) delivered.log (counters_at 2 5)) (number 4)
  pub missing_ahead : shortfalls_of (says delivered_ahead) delivered_ahead.log (counters_at 4 7) ≡ missing_to 3 6
  pub in_tail_ahead : IsInTail (shortfalls_of (says delivered_ahead) delivered_ahead.log (counters_at 4 7)) (number 6)
