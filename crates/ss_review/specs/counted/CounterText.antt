-- How a counter is spelt: one line, here without its line feed; and the lines of several.
use Rattle.std.specs.Prelude.{ℕ, List, [], ◌∷◌, ◌++◌, flat_map, codes, decimal}
use Rattle.ss_octets.specs.Ascii.{lf}
use Rattle.ss_message.specs.declared.draft.Field.{Field}
use Rattle.ss_message.specs.declared.draft.Field.TheVariants as fields
use Rattle.ss_block.specs.declared.block.Group.{Group}
use Rattle.ss_block.specs.declared.session.Session.{Session}
use Rattle.ss_review.specs.declared.counted.counter.Counter.{Counter}
use Rattle.ss_review.specs.declared.counted.counter.Counts.{Counts}
use Rattle.ss_review.specs.declared.counted.counter.Counts.TheVariants.{Blocks, Messages}

-- ---- words that stand in other lines too, with the SP before each

-- a number and the SP before it
abbrev pub spaced : ℕ → List ℕ
spaced n = codes " " ++ decimal n

-- `-` for an absent field
abbrev pub field_word : Field → List ℕ
field_word fields.Nil = codes "-"
field_word (fields.Text octets) = octets

-- HOST APP PROCID RSID, with the SP before each
abbrev pub session_words : Session → List ℕ
session_words s =
    codes " " ++ field_word s.host ++ codes " " ++ field_word s.app ++ codes " " ++ field_word s.procid ++ spaced s.rsid

-- SG SPRI, with the SP before each
abbrev pub group_words : Group → List ℕ
group_words g = spaced g.sg ++ spaced g.spri

-- ---- a counter

-- count HOST APP PROCID RSID GBC, or count HOST APP PROCID RSID SG SPRI NUMBER
abbrev pub counter_text : Session → Counts → (next : ℕ) → List ℕ
counter_text s Blocks next = codes "count" ++ session_words s ++ spaced next
counter_text s (Messages g) next = codes "count" ++ session_words s ++ group_words g ++ spaced next

abbrev pub counter_line : Counter → List ℕ
counter_line c = counter_text c.session c.counts c.next

-- the lines of counters, each ended by LF
abbrev pub lines_of_counters : List Counter → List ℕ
lines_of_counters counters = flat_map (λ c. counter_line c ++ lf ∷ []) counters
