-- What goes wrong without each premise of `IsUnforged`: small logs into which somebody wrote who has a key. All other
-- premises are met, and a message is listed that the originators weren't given under its number.
use Rattle.std.specs.Prelude.{◌≡◌, ℕ, List, [], ◌∷◌, None, true, if◌then◌else◌}
use Rattle.std.specs.Str.{bytes_eq}
use Rattle.ss_block.specs.Block.{Certificate}
use Rattle.ss_block.specs.Writing.{certificate_text}
use Rattle.ss_origin.specs.Emission.{certificate_in}
use Rattle.ss_origin.specs.declared.grouping.Grouping.TheVariants.{One}
use Rattle.ss_origin.specs.Groups.{group_of}
use Rattle.ss_origin.specs.Chain.{IsChain}
use Rattle.ss_review.specs.declared.report.entry.Entry.{Entry}
use Rattle.ss_review.specs.declared.report.entry.Entry.TheVariants as entry
use Rattle.ss_review.specs.declared.report.entry.Why.TheVariants as whys
use Rattle.ss_review.specs.declared.report.report.Report.{Report}
use Rattle.ss_review.specs.declared.report.session_report.SessionReport.{SessionReport}
use Rattle.ss_review.specs.declared.report.session_report.SessionState.TheVariants as states
use Rattle.ss_review.specs.deliveries.Delivery.{own_session}
use Rattle.ss_review.specs.deliveries.DeliveryLaws.{Case, HasHashOfGiven}
use Rattle.ss_review.specs.deliveries.SmallChains.{mark, small, message, certificate, block}
use Rattle.ss_review.specs.report.Meaning.{IsListed}
use Rattle.ss_review.specs.sessions.Verified.{Answers}
use Rattle.ss_laws.specs.strangers.cases.SmallAttack.{own_payload, given}
use Rattle.ss_laws.specs.strangers.cases.SmallUnforged.{forged_block, mixed, number}
use Rattle.ss_laws.specs.strangers.Unforged.{NothingIsForged, IsJoinedUnderNoOther, pinned_in}

abbrev pub session_with : List Entry → SessionReport
session_with es = record {
  session = own_session small;
  state = states.Joined;
  groups = record { group = group_of (One 0) 0; entries = es } ∷ [];
}

-- ---- somebody has the originators' key

-- The first block has another message for the number 3, and its signature is valid.
abbrev pub stolen : Case
stolen = record mixed {
  log = block 7 3 (message 57 ∷ []) ∷ certificate ∷ block 0 1 (message 49 ∷ message 50 ∷ []) ∷ message 57 ∷ message 50
      ∷ [];
}

abbrev pub stolen_report : Report
stolen_report = record {
  sessions = session_with (entry.Gap 1 whys.Lost ∷ entry.Listed 2 4 ∷ entry.Listed 3 3 ∷ []) ∷ [];
  unlisted = [];
  refused = [];
  spoilt = [];
  count = 5;
}

-- ---- a stranger has the key of another payload, and that one is given

-- the originators' payload is `- N`, and this one `- N` with a space after it
abbrev pub other_payload : List ℕ
other_payload = 45 ∷ 32 ∷ 78 ∷ 32 ∷ []

-- the stranger's certificate block has all of it
abbrev pub other_certificate : Certificate
other_certificate = record (certificate_in small.config own_payload (record { index = 1; len = 3 })) {
  total = 4;
  fragment = other_payload;
  signature = 84 ∷ [];
}

-- each of two payloads has its own signature
abbrev pub two_keys : Answers
two_keys = record {
  trusted = λ payload. true;
  valid = λ payload octets signature. bytes_eq signature (if bytes_eq payload other_payload then 84 ∷ [] else mark);
}

abbrev pub other_key : Case
other_key = record mixed {
  answers = two_keys;
  log = certificate_text small.config.head None other_certificate ∷ forged_block ∷ certificate ∷ block 0 1 (message 49 ∷ message 50 ∷ [])
      ∷ message 57
      ∷ message 50
      ∷ [];
}

abbrev pub other_report : Report
other_report = record {
  sessions = session_with (entry.Hole 1 1 ∷ entry.Listed 2 4 ∷ []) ∷ [];
  unlisted = 5 ∷ [];
  refused = 2 ∷ 3 ∷ [];
  spoilt = [];
  count = 6;
}

-- ---- what is so

pub record SmallForgedIsThis : Type 0 where
  pub chain : IsChain small mixed.chain
  -- the message number 3 is another one
  pub no_other : IsJoinedUnderNoOther stolen given
  pub stolen_is : pinned_in stolen given ≡ stolen_report
  pub stolen_listed : IsListed (pinned_in stolen given) (number 3) 3
  pub not_theirs : ¬ HasHashOfGiven stolen (number 3) 3
  -- the message number 2 is another one
  pub nothing : NothingIsForged other_key
  pub other_is : pinned_in other_key (other_payload ∷ []) ≡ other_report
  pub other_listed : IsListed (pinned_in other_key (other_payload ∷ [])) (number 2) 4
  pub not_its : ¬ HasHashOfGiven other_key (number 2) 4
