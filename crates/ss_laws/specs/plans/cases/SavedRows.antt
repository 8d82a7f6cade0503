-- Small counters that are saved, and what is read of them, computed.
use Rattle.std.specs.Prelude.{◌≡◌, ℕ, true, false, List, [], ◌∷◌, codes, All}
use Rattle.ss_block.specs.declared.session.Session.{Session}
use Rattle.ss_origin.specs.declared.counters.Counters.{Counters}
use Rattle.ss_origin.specs.declared.counters.NextNumber.{NextNumber}
use Rattle.ss_origin.specs.declared.grouping.Grouping.{Grouping}
use Rattle.ss_origin.specs.declared.grouping.Grouping.TheVariants.{Ranges}
use Rattle.ss_origin.specs.Counting.{are_counters}
use Rattle.ss_origin.specs.Groups.{is_grouping}
use Rattle.ss_review.specs.declared.counted.counter.Counter.{Counter}
use Rattle.ss_review.specs.declared.counted.counter.Counts.TheVariants.{Blocks, Messages}
use Rattle.ss_review.specs.counted.CounterRange.{IsSession, IsCounter}
use Rattle.ss_review.specs.deliveries.SmallChains.{small}
use Rattle.ss_answers.specs.declared.counters.start_fault.StartFault.TheVariants.{OtherGroup}
use Rattle.ss_answers.specs.Start.{IsStartFault, start_of}
use Rattle.ss_signing.specs.Ahead.{counters_text}
use Rattle.ss_laws.specs.plans.ReadBack.{AreNoGreater, saved, saved_among, session_of}

-- the session `h s - 1`, and groups of PRI up to 10 and up to 191
abbrev pub own : Session
own = session_of small.config

abbrev pub two : Grouping
two = Ranges (10 ∷ 191 ∷ [])

abbrev pub next_is : ℕ → ℕ → NextNumber
next_is spri number = record { spri = spri; number = number }

abbrev pub told : Counters
told = record { gbc = 3; groups = next_is 10 5 ∷ next_is 191 2 ∷ [] }

-- counters of the session: of its blocks, and of a group
abbrev pub blocks_at : ℕ → Counter
blocks_at next = record { session = own; counts = Blocks; next = next }

abbrev pub number_at : (sg spri next : ℕ) → Counter
number_at sg spri next =
    record { session = own; counts = Messages (record { sg = sg; spri = spri }); next = next }

-- older ones, with one of another session; and one that goes further
abbrev pub older : List Counter
older =
    blocks_at 2 ∷ number_at 2 10 4 ∷ record { session = record own { rsid = 2 }; counts = Blocks; next = 9 } ∷ []

abbrev pub newer : List Counter
newer = number_at 2 10 7 ∷ []

-- The premises of the laws are met. With the older counters an originator goes on at those that were told; with the newer
-- one at its number. With a counter of a group that the grouping hasn't it is refused. Of a group that isn't named, or
-- whose number is 0, the ranges say no.
pub record SavedRowsAreThese : Type 0 where
  pub session : IsSession own
  pub grouped : is_grouping two ≡ true
  pub ranged : are_counters two told ≡ true
  pub older_in_range : All IsCounter older
  pub newer_in_range : All IsCounter newer
  pub no_greater : AreNoGreater own two told older
  pub text : counters_text own 2 told ≡ codes "count h s - 1 3\ncount h s - 1 2 10 5\ncount h s - 1 2 191 2\nend 3\n"
  pub alone : start_of own two (saved own 2 told) ≡ told
  pub with_older : start_of own two (saved_among own 2 told older []) ≡ told
  pub with_newer : start_of own two (saved_among own 2 told older newer)
      ≡ record { gbc = 3; groups = next_is 10 7 ∷ next_is 191 2 ∷ [] }
  pub of_another_group : IsStartFault own two (saved_among own 2 told [] (number_at 1 10 4 ∷ [])) (OtherGroup 4)
  pub not_named : are_counters two (record { gbc = 3; groups = next_is 11 5 ∷ [] }) ≡ false
  pub number_0 : are_counters two (record { gbc = 3; groups = next_is 10 0 ∷ [] }) ≡ false
