-- A small log of two originators into which a stranger wrote. One message is listed, and all others are lost. The log
-- meets all premises of the laws of `unforged` at once.
use Rattle.std.specs.Prelude.{◌≡◌, ℕ, ◌<◌, true, List, [], ◌∷◌, slice_get, Contains, None, Some, Err}
use Rattle.ss_block.specs.declared.hash.Alg.TheVariants as algs
use Rattle.ss_block.specs.Hashes.{hash_of}
use Rattle.ss_block.specs.Writing.{signature_text}
use Rattle.ss_origin.specs.declared.grouping.Grouping.TheVariants.{One}
use Rattle.ss_origin.specs.Groups.{group_of}
use Rattle.ss_origin.specs.Emission.{signature_in}
use Rattle.ss_origin.specs.Chain.{IsChain, given_to}
use Rattle.ss_origin.specs.Ahead.{Life}
use Rattle.ss_origin.specs.AheadLaws.{IsGiven}
use Rattle.ss_review.specs.declared.counted.counter.Counter.{Counter}
use Rattle.ss_review.specs.declared.counted.counter.Counts.TheVariants as counts
use Rattle.ss_review.specs.declared.counted.shortfall.LogShortfalls.{LogShortfalls}
use Rattle.ss_review.specs.declared.report.entry.Entry.TheVariants as entry
use Rattle.ss_review.specs.declared.report.entry.Why.TheVariants as whys
use Rattle.ss_review.specs.declared.report.report.Report.{Report}
use Rattle.ss_review.specs.declared.report.session_report.SessionReport.{SessionReport}
use Rattle.ss_review.specs.declared.report.session_report.SessionState.TheVariants as states
use Rattle.ss_review.specs.announced.Announced.{Key}
use Rattle.ss_review.specs.counted.Kept.{kept_gbc, kept_number}
use Rattle.ss_review.specs.counted.KeptLaws.{IsInTail, IsInRunOf, ReachTheEnd, IsLost}
use Rattle.ss_review.specs.deliveries.Delivered.{own_number}
use Rattle.ss_review.specs.deliveries.Delivery.{own_session, HasPayload}
use Rattle.ss_review.specs.deliveries.DeliveryLaws.{Case, says, AcceptsSent, HasBlock, message_of}
use Rattle.ss_review.specs.deliveries.AheadDelivery.{HasNumber}
use Rattle.ss_review.specs.deliveries.SmallChains.{small, message, certificate, block, lossy, ahead}
use Rattle.ss_review.specs.keep.Contents.{blocks}
use Rattle.ss_review.specs.keep.Notes.{notes}
use Rattle.ss_review.specs.pinned.Claimants.{IsOnlyClaimant}
use Rattle.ss_review.specs.pinned.Stands.{pinned_shortfalls}
use Rattle.ss_review.specs.report.Meaning.{IsListed, IsGap}
use Rattle.ss_review.specs.sessions.Sessions.{of_session}
use Rattle.ss_review.specs.sessions.Verified.{joined}
use Rattle.ss_laws.specs.ahead.Reported.{AreAhead, AreNewest}
use Rattle.ss_laws.specs.ahead.cases.LostLog.{first_life, next_life, next_is}
use Rattle.ss_laws.specs.strangers.PinnedListings.{IsWitnessedByKept}
use Rattle.ss_laws.specs.strangers.cases.SmallAttack.{own_payload, given, forged_certificate}
use Rattle.ss_laws.specs.strangers.Unforged.{IsUnforged, pinned_in}

-- ---- the log

-- A signature block of the originators' session, with another message for the number 2. Its signature isn't valid.
abbrev pub forged_block : List ℕ
forged_block =
    signature_text small.config.head None
    (record (signature_in small.config 0 0 2 (hash_of algs.Sha256 (message 57) ∷ [])) { signature = 84 ∷ [] })

-- The first originator got the messages number 1 to 3, and signed two of them. The next one got and signed number 4. Of
-- all this the log has the certificate block, the first signature block, and the message number 2. A stranger wrote the
-- first two blocks and a message.
abbrev pub mixed : Case
mixed = record lossy {
  log = forged_certificate ∷ forged_block ∷ certificate ∷ block 0 1 (message 49 ∷ message 50 ∷ []) ∷ message 57
      ∷ message 50
      ∷ [];
}

-- The same log, where the next originator began with counters that are 2 greater. It gave the number 6.
abbrev pub mixed_ahead : Case
mixed_ahead = record mixed { chain = ahead.chain }

abbrev pub lives : List Life
lives = next_life ∷ first_life ∷ []

abbrev pub number : ℕ → Key
number n = own_number mixed 0 n

-- counters of a review: the next GBC, and the next number of the one group
abbrev pub counters_at : ℕ → ℕ → List Counter
counters_at gbc next = record { session = own_session small; counts = counts.Blocks; next = gbc } ∷ next_is next

-- ---- what is reported

-- the message number 1 is a gap, and number 2 is listed with what stands at the place
abbrev pub joined_session : ℕ → SessionReport
joined_session place = record {
  session = own_session small;
  state = states.Joined;
  groups = record { group = group_of (One 0) 0; entries = entry.Gap 1 whys.Lost ∷ entry.Listed 2 place ∷ [] } ∷ [];
}

-- With the originators' payload the stranger's message is unlisted, and its blocks are refused.
abbrev pub mixed_report : Report
mixed_report = record {
  sessions = joined_session 5 ∷ [];
  unlisted = 4 ∷ [];
  refused = 0 ∷ 1 ∷ [];
  spoilt = [];
  count = 6;
}

-- what is missing of it up to counters: the numbers from 3 on, and the signature blocks from GBC 1 on
abbrev pub missing_to : ℕ → ℕ → LogShortfalls
missing_to gbc last = record {
  known = record {
    session = own_session small;
    tails = record { group = group_of (One 0) 0; first = 3; last = last } ∷ [];
    blocks = record { first = 1; last = gbc } ∷ [];
  } ∷ [];
  absent = [];
}

-- ---- what is so

-- the premises of the laws on originators of which each goes on from the last counters
pub record MeetsPremises : Type 0 where
  pub chain : IsChain small mixed.chain
  pub unforged : IsUnforged mixed given
  pub arrived : HasPayload mixed.chain mixed.log
  pub accepts : AcceptsSent mixed
  pub trusted : (says mixed).trusted own_payload ≡ true
  pub is_given : Contains given own_payload
  pub claimant : IsOnlyClaimant (says mixed) given (of_session (blocks (notes mixed.log)) (own_session small)) own_payload
  pub covered : HasBlock mixed (number 2)
  pub reach : ReachTheEnd mixed (counters_at 2 5)
  pub last_is : slice_get (given_to small.config 0 mixed.chain) 3 ≡ Some (message 52)
  pub last_lost : IsLost mixed (message 52)
  pub first_lost : IsLost mixed (message 49)

-- the premises of the laws on originators that go on ahead
pub record MeetsPremisesAhead : Type 0 where
  pub ahead : AreAhead mixed_ahead lives
  pub unforged : IsUnforged mixed_ahead given
  pub arrived : HasPayload mixed_ahead.chain mixed_ahead.log
  pub accepts : AcceptsSent mixed_ahead
  pub trusted : (says mixed_ahead).trusted own_payload ≡ true
  pub is_given : Contains given own_payload
  pub claimant : IsOnlyClaimant (says mixed_ahead) given (of_session (blocks (notes mixed_ahead.log)) (own_session small)) own_payload
  pub covered : HasBlock mixed_ahead (number 2)
  pub listed_numbered : HasNumber small.config lives (number 2) (message 50)
  pub last_given : IsGiven lives (message 52)
  pub last_numbered : HasNumber small.config lives (number 6) (message 52)
  pub last_lost : IsLost mixed_ahead (message 52)
  pub newest : AreNewest mixed_ahead next_life (counters_at 4 7)
  pub below : 6 < kept_number (counters_at 4 7) (number 6).session (number 6).group

pub record SmallUnforgedIsThis : Type 0 where
  pub premises : MeetsPremises
  pub premises_ahead : MeetsPremisesAhead
  -- without given payloads the session is disputed
  pub disputed : joined (says mixed) (of_session (blocks (notes mixed.log)) (own_session small)) ≡ Err states.Disputed
  pub report : pinned_in mixed given ≡ mixed_report
  pub report_ahead : pinned_in mixed_ahead given ≡ mixed_report
  -- the message number 2 is listed, and the chain's signature block stands behind it
  pub listed : IsListed (pinned_in mixed given) (number 2) 5
  pub stored : slice_get mixed.log 5 ≡ Some (message 50)
  pub its_message : message_of mixed (number 2) ≡ Some (message 50)
  pub witnessed : IsWitnessedByKept (says mixed) given mixed.log (number 2) 5
  pub by_own_block : witnessed.block_place ≡ 3
  pub listed_ahead : IsListed (pinned_in mixed_ahead given) (number 2) 5
  -- the message number 1 is a gap
  pub gap : IsGap (pinned_in mixed given) (number 1) whys.Lost
  -- the last message is in a tail up to the counters with which the next originator ended, and its block is missing
  pub missing : pinned_shortfalls (says mixed) given mixed.log (counters_at 2 5) ≡ missing_to 1 4
  pub in_tail : IsInTail (pinned_shortfalls (says mixed) given mixed.log (counters_at 2 5)) (number 4)
  pub block_below : 1 < kept_gbc (counters_at 2 5) (own_session small)
  pub block_missing : IsInRunOf (pinned_shortfalls (says mixed) given mixed.log (counters_at 2 5)) (own_session small) 1
  pub missing_ahead : pinned_shortfalls (says mixed_ahead) given mixed_ahead.log (counters_at 4 7) ≡ missing_to 3 6
  pub in_tail_ahead : IsInTail (pinned_shortfalls (says mixed_ahead) given mixed_ahead.log (counters_at 4 7)) (number 6)
