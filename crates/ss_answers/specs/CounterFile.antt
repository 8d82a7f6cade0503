-- Files of counters: parts, one after the other. Each ends with a line that says how many counters it has, so that no
-- file is taken that was cut off inside a part.
use Rattle.std.specs.Prelude.{◌≡◌, ℕ, ◌+◌, ◌<◌, ◌⊎◌, List, [], ◌∷◌, ◌++◌, length, codes, decimal, flat_map, All}
use Rattle.std.specs.List.{AllByRecursion}
use Rattle.ss_octets.specs.Ascii.{lf}
use Rattle.ss_review.specs.declared.counted.counter.Counter.{Counter}
use Rattle.ss_review.specs.counted.CounterRange.{IsCounter}
use Rattle.ss_review.specs.counted.CounterText.{lines_of_counters}
use Rattle.ss_answers.specs.CounterLine.{IsNoCounter}
use Rattle.ss_answers.specs.Lines.{Lacks}

-- ---- parts

-- end N, the last line of a part, without its line feed
abbrev pub end_line : ℕ → List ℕ
end_line count = codes "end " ++ decimal count

-- a part: the lines of its counters, and how many they are
abbrev pub part_text : List Counter → List ℕ
part_text counters = lines_of_counters counters ++ (end_line (length counters) ++ lf ∷ [])

-- parts one after the other, and their counters in this order
abbrev pub text_of_parts : List (List Counter) → List ℕ
text_of_parts parts = flat_map part_text parts

abbrev pub together : List (List Counter) → List Counter
together parts = flat_map (λ counters. counters) parts

-- ---- a text

-- a text has these counters: it is one part or more, and these are their counters
pub record HasCounters (text : List ℕ) (counters : List Counter) : Type 0 where
  pub parts : List (List Counter)
  pub some : 0 < length parts
  pub are : counters ≡ together parts
  pub fields : AllByRecursion IsCounter counters
  pub spelt : text ≡ text_of_parts parts

-- a text begins with whole parts, and then with the lines of counters of one that has begun; the rest follows them
pub record Begins (text : List ℕ) (parts : List (List Counter)) (begun : List Counter) (rest : List ℕ) : Type 0 where
  pub fields : AllByRecursion IsCounter (together parts ++ begun)
  pub spelt : text ≡ text_of_parts parts ++ (lines_of_counters begun ++ rest)

-- a line isn't one that ends a part
abbrev pub IsNoEnd : List ℕ → Type 0
IsNoEnd line = (said : List ℕ) → line ≡ codes "end " ++ said → ⊥

-- the line of this number, from 1, is the first bad one: it has a line feed, and it neither spells a counter nor ends a
-- part
pub record HasFirstBadCounter (text : List ℕ) (number : ℕ) : Type 0 where
  pub parts : List (List Counter)
  pub begun : List Counter
  pub line : List ℕ
  pub behind : List ℕ
  pub begins : Begins text parts begun (line ++ lf ∷ behind)
  pub lacks : Lacks lf line
  pub no_counter : IsNoCounter line
  pub no_end : IsNoEnd line
  pub place : number ≡ length (together parts ++ begun) + length parts + 1

-- no line with a line feed follows, and that isn't where a part ends
pub record BreaksOff (parts : List (List Counter)) (begun : List Counter) (rest : List ℕ) : Type 0 where
  pub lacks : Lacks lf rest
  pub inside : (length parts ≡ 0) ⊎ (0 < length begun) ⊎ (0 < length rest)

-- the line that follows ends the part, and says something else than how many counters it has
pub record HasWrongEnd (begun : List Counter) (rest : List ℕ) : Type 0 where
  pub said : List ℕ
  pub behind : List ℕ
  pub rest_is : rest ≡ (codes "end " ++ said) ++ lf ∷ behind
  pub lacks : Lacks lf said
  pub wrong : said ≡ decimal (length begun) → ⊥

-- a text isn't whole: it breaks off inside a part, or a part in it hasn't as many counters as its end says
pub record IsNotWhole (text : List ℕ) : Type 0 where
  pub parts : List (List Counter)
  pub begun : List Counter
  pub rest : List ℕ
  pub begins : Begins text parts begun rest
  pub why : BreaksOff parts begun rest ⊎ HasWrongEnd begun rest

-- a text has these counters and no others, no line of it is bad, and it is whole
pub record HasOnly (text : List ℕ) (counters : List Counter) : Type 0 where
  pub has : HasCounters text counters
  pub no_others : (others : List Counter) → HasCounters text others → others ≡ counters
  pub none_bad : (number : ℕ) → HasFirstBadCounter text number → ⊥
  pub whole : IsNotWhole text → ⊥

-- a text of counters is cut in two where a part ends: the front has these of its counters, and these are cut off
pub record IsCutBetweenParts (front behind : List ℕ) (counters : List Counter) : Type 0 where
  pub before : List (List Counter)
  pub after : List (List Counter)
  pub front_is : front ≡ text_of_parts before
  pub behind_is : behind ≡ text_of_parts after
  pub counters_are : counters ≡ together before ++ together after
  pub some : 0 < length before

-- ---- laws

-- no text has counters and a first bad line
abbrev pub NoCountersAreGoodAndBad : Type 0
NoCountersAreGoodAndBad = (text : List ℕ) (counters : List Counter) (number : ℕ)
    → HasCounters text counters → HasFirstBadCounter text number → ⊥

-- no text has counters and isn't whole
abbrev pub CountersAreWhole : Type 0
CountersAreWhole = (text : List ℕ) (counters : List Counter) → HasCounters text counters → IsNotWhole text → ⊥

-- a text has its counters in one way
abbrev pub CountersAreDetermined : Type 0
CountersAreDetermined = (text : List ℕ) (counters others : List Counter)
    → HasCounters text counters → HasCounters text others → counters ≡ others

-- a text has one first line that is no counter
abbrev pub BadCounterIsDetermined : Type 0
BadCounterIsDetermined = (text : List ℕ) (m n : ℕ) → HasFirstBadCounter text m → HasFirstBadCounter text n → m ≡ n

-- Parts one after the other, whose counters are in range, are a text that has these counters and no others. So the files
-- that programs wrote can be put together.
abbrev pub PartsHaveTheirCounters : Type 0
PartsHaveTheirCounters = (parts : List (List Counter))
    → 0 < length parts → All IsCounter (together parts) → HasOnly (text_of_parts parts) (together parts)

-- What is cut off a text of counters leaves a text that isn't whole, or it was whole parts, and the text before the cut
-- has the counters of its own parts.
abbrev pub CutsAreSeen : Type 0
CutsAreSeen = (front behind : List ℕ) (counters : List Counter) → HasCounters (front ++ behind) counters
    → IsNotWhole front ⊎ IsCutBetweenParts front behind counters
