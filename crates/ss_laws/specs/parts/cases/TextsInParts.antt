-- A small log of texts, which is cut in two, meets the premises of the laws on logs of texts.
use Rattle.std.specs.Prelude.{◌≡◌, ℕ, zero, suc, List, [], ◌∷◌, None, Option}
use Rattle.ss_message.specs.Message.{text}
use Rattle.ss_origin.specs.Groups.{group_of}
use Rattle.ss_review.specs.declared.counted.counter.Counter.{Counter}
use Rattle.ss_review.specs.declared.counted.counter.Counts.TheVariants.{Blocks, Messages}
use Rattle.ss_review.specs.counted.KeptLaws.{log_counters, shortfalls_of}
use Rattle.ss_review.specs.deliveries.Delivery.{own_session}
use Rattle.ss_review.specs.deliveries.SmallChains.{small, accepting, bare}
use Rattle.ss_review.specs.keep.Notes.{notes}
use Rattle.ss_review.specs.keep.Contents.{blocks, contents}
use Rattle.ss_laws.specs.parts.Parts.{AreParts, messages_of}
use Rattle.ss_laws.specs.parts.PartCounters.{AreBlockParts, by_session, counters_of_parts}
use Rattle.ss_laws.specs.parts.PinnedParts.{contents_by}
use Rattle.ss_laws.specs.parts.WholeParts.{AreGiven, GivenOnlyIts, missing_together, missing_of_parts}

-- a spoilt block, which has no parameter
abbrev pub spoilt_text : List ℕ
spoilt_text =
    text (record {
      pri = 13;
      stamp = None;
      hostname = None;
      app_name = None;
      procid = None;
      msgid = None;
      elements = record { id = 115 ∷ 115 ∷ 105 ∷ 103 ∷ 110 ∷ []; parameters = [] } ∷ [];
      msg = None;
    })

-- It stands before the blocks of an originator, whose only message is lost.
abbrev pub small_log : List (List ℕ)
small_log = spoilt_text ∷ bare.log

-- the first place is part 1, and each other one part 0
abbrev pub first_apart : ℕ → ℕ
first_apart zero = 1
first_apart (suc place) = 0

-- the originator sent more than the log shows
abbrev pub sent_counters : List Counter
sent_counters =
    record { session = own_session small; counts = Blocks; next = 3 }
    ∷ record { session = own_session small; counts = Messages (group_of small.config.grouping 0); next = 4 }
    ∷ []

-- all of them are given to part 0, which has the blocks
abbrev pub given_first : ℕ → List Counter
given_first zero = sent_counters
given_first (suc k) = []

pub record TextsMeetPremises : Type 0 where
  pub parts_are : messages_of first_apart 0 small_log ≡ bare.log
  pub blocks_keep : AreBlockParts (blocks (notes small_log)) first_apart 2
  pub cut_keeps : (known : Option (List (List ℕ)))
      → AreParts accepting (contents_by known accepting (contents (notes small_log))) first_apart 2
  pub given : AreGiven (blocks (notes small_log)) first_apart 2 sent_counters given_first
  pub only_its : GivenOnlyIts (blocks (notes small_log)) first_apart 2 given_first
  -- so the laws hold of them
  pub counters : log_counters accepting small_log
      ≡ by_session (counters_of_parts None accepting first_apart 2 small_log)
  pub missing : shortfalls_of accepting small_log sent_counters
      ≡ missing_together (missing_of_parts None accepting first_apart 2 small_log given_first)
