-- A small log of texts, which a keeper reviews in two nights, meets the premises of the laws on logs of texts.
use Rattle.std.specs.Prelude.{ℕ, ◌<◌, ◌≤◌, List, [], ◌∷◌, length}
use Rattle.ss_review.specs.deliveries.Delivery.{own_session}
use Rattle.ss_review.specs.deliveries.SmallChains.{small, message, certificate, block, accepting, whole}
use Rattle.ss_review.specs.keep.Notes.{notes}
use Rattle.ss_review.specs.keep.Contents.{blocks}
use Rattle.ss_review.specs.sessions.Verified.{Answers}
use Rattle.ss_laws.specs.carry.Nights.{IsJoined}
use Rattle.ss_laws.specs.carry.Together.{FilesFollow, AgreeLater}
use Rattle.ss_laws.specs.carry.CarriedNights.{nights_of}
use Rattle.ss_laws.specs.carry.cases.CounterRows.{cut_at}
use Rattle.ss_laws.specs.carry.EachNight.{BelongLater}
use Rattle.ss_laws.specs.carry.NightCounters.{AreGreatestOfLogs}
use Rattle.ss_laws.specs.carry.OwnAnswers.{AgreeOnLogs, IsPutTogetherOfOwnLogs}

-- the signature block comes in the first night, its message and the certificate block come in the second
abbrev pub first_file : List (List ℕ)
first_file = block 0 1 (message 49 ∷ []) ∷ []

abbrev pub second_file : List (List ℕ)
second_file = message 49 ∷ certificate ∷ []

-- which is all that the small originator sent
abbrev pub kept_log : List (List ℕ)
kept_log = whole.log

-- the same answers file in both nights
abbrev pub same_answers : ℕ → Answers
same_answers night = accepting

pub record TextsMeetPremises : Type 0 where
  pub within : (place : ℕ) → place < length kept_log → cut_at 1 place ≤ 1
  pub follow : FilesFollow (nights_of accepting (cut_at 1) kept_log)
  pub agree : AgreeLater accepting (nights_of accepting (cut_at 1) kept_log) 1
  pub joined : IsJoined accepting (blocks (notes kept_log)) (own_session small)
  pub answers : AgreeOnLogs accepting same_answers (cut_at 1) kept_log 1
  -- of the first file alone, with the second after it
  pub first_within : (place : ℕ) → place < length first_file → cut_at 1 place ≤ 0
  pub first_follow : FilesFollow (nights_of accepting (cut_at 1) first_file)
  pub first_agree : AgreeLater accepting (nights_of accepting (cut_at 1) first_file) 0
  pub second_later : BelongLater (cut_at 1) first_file second_file 0
  -- so the laws hold of them
  pub greatest : AreGreatestOfLogs accepting (cut_at 1) kept_log 1 (own_session small)
  pub together : IsPutTogetherOfOwnLogs accepting same_answers (cut_at 1) kept_log 1
