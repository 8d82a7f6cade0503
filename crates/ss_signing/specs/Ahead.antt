-- The text of where the next originator of a session goes on: a line for the next GBC, and one for the next number of
-- each group that was named at the start or given a message, by rising SPRI (RFC 5848, sections 4.2.4 and 4.2.5). How
-- many these are stands at its end.
use Rattle.std.specs.Prelude.{ℕ, ◌+◌, List, ◌++◌, length, flat_map}
use Rattle.ss_block.specs.declared.session.Session.{Session}
use Rattle.ss_block.specs.Writing.{head_session}
use Rattle.ss_origin.specs.declared.config.Config.{Config}
use Rattle.ss_origin.specs.declared.counters.Counters.{Counters}
use Rattle.ss_origin.specs.declared.counters.NextNumber.{NextNumber}
use Rattle.ss_origin.specs.Groups.{sg_of}
use Rattle.ss_report.specs.declared.notation.Notation.TheVariants.{Plain}
use Rattle.ss_report.specs.runs.Counters.{block_counter, counters_end, message_counter}

-- the line of a group of this SG, as `ssign counters` spells it
abbrev pub number_line : Session → (sg : ℕ) → NextNumber → List ℕ
number_line s sg next = message_counter Plain s (record { sg = sg; spri = next.spri }) next.number

abbrev pub counters_text : Session → (sg : ℕ) → Counters → List ℕ
counters_text s sg k =
    block_counter Plain s k.gbc ++ flat_map (number_line s sg) k.groups ++ counters_end Plain (length k.groups + 1)

-- those of the session of a configuration
abbrev pub ahead_lines : Config → Counters → List ℕ
ahead_lines c k = counters_text (head_session c.head c.rsid) (sg_of c.grouping) k
