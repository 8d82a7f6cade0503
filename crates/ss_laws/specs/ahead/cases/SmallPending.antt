-- A small chain that goes on ahead, and what is in its blocks.
use Rattle.std.specs.Prelude.{◌≡◌, ℕ, List, [], ◌∷◌}
use Rattle.ss_origin.specs.Groups.{group_of}
use Rattle.ss_origin.specs.CountedLaws.{HasGbc}
use Rattle.ss_origin.specs.Ahead.{IsChainAhead, sent_by}
use Rattle.ss_origin.specs.AheadLaws.{IsGiven, number_given}
use Rattle.ss_origin.specs.NoBlockLaws.{HaveNoBlock}
use Rattle.ss_review.specs.report.Meaning.{IsTold}
use Rattle.ss_review.specs.deliveries.Delivered.{own_number}
use Rattle.ss_review.specs.deliveries.DeliveryLaws.{report_in}
use Rattle.ss_review.specs.deliveries.AheadDelivery.{IsCaseAhead}
use Rattle.ss_review.specs.deliveries.SmallChains.{small, message, certificate, block, ahead, ahead_lives}
use Rattle.ss_laws.specs.ahead.PendingAhead.{IsLeftPending}
use Rattle.ss_laws.specs.ahead.RisingGbc.{sent_ahead}

-- the block of the first originator, for the numbers 1 and 2, and that of the next one, for the number 6
abbrev pub first_block : List ℕ
first_block = block 0 1 (message 49 ∷ message 50 ∷ [])

abbrev pub next_block : List ℕ
next_block = block 3 6 (message 52 ∷ [])

-- no block of the chain has a hash for this number
abbrev pub HasNoBlock : ℕ → Type 0
HasNoBlock number = HaveNoBlock (sent_by ahead_lives) (group_of small.config.grouping 0) number

-- The first originator left the number 3 pending, so the number is in no block, and is neither listed nor a gap. The
-- numbers 2 and 6 are in blocks, and the greater one is listed or a gap. The GBC 1 and 2 were left out.
pub record SmallChainIsThis : Type 0 where
  pub chain : IsChainAhead small ahead_lives
  pub given : IsGiven ahead_lives (message 51)
  pub number : number_given small.config given ≡ 3
  pub pending : IsLeftPending small.config given
  pub in_no_block : HasNoBlock 3
  pub signed_before : ¬ HasNoBlock 2
  pub signed_after : ¬ HasNoBlock 6
  pub is_case : IsCaseAhead ahead ahead_lives
  pub untold : ¬ IsTold (report_in ahead) (own_number ahead 0 3)
  pub greater_is_told : IsTold (report_in ahead) (own_number ahead 0 6)
  pub sent : sent_ahead ahead_lives ≡ certificate ∷ message 49 ∷ message 50 ∷ first_block ∷ message 51 ∷ message 52
      ∷ next_block ∷ []
  pub first_gbc : HasGbc (0, first_block)
  pub next_gbc : HasGbc (3, next_block)
