-- The lines of a file of counters: those of counters, and those that end a part.
use Rattle.std.proofs.Common.{◌≡◌, ℕ, zero, suc, ◌+◌, ◌<◌, ◌/◌, ◌%◌, cond, eqb, get_or, ltb, Bool, true, false, codes, List, [], ◌∷◌, ◌++◌, length, map, flat_map, sym, refl, ap, ◌∙◌, subst, arith, append_assoc, append-nil, length-append}
use Rattle.std.specs.Fmt.{decimal, digit_glyph, digits, digits_onto}
use Rattle.std.specs.List.{AllByRecursion}
use Rattle.std.proofs.lemmas.Bool.Decides.{nat_tests}
use Rattle.std.proofs.lemmas.Grind.{flat_map-append}
use Rattle.ss_octets.specs.Ascii.{lf}
use Rattle.ss_octets.proofs.Base64Text.{Clear, Clear-append}
use Rattle.ss_review.specs.declared.counted.counter.Counter.{Counter}
use Rattle.ss_review.specs.counted.CounterRange.{IsCounter}
use Rattle.ss_review.specs.counted.CounterText.{counter_line, lines_of_counters}
use Rattle.ss_answers.specs.CounterFile.{end_line, part_text, text_of_parts, together}
use Rattle.ss_answers.specs.Lines.{ended}
use Rattle.ss_answers.proofs.CounterLaws.{Clear-line, line-injective, line_cut}
use Rattle.ss_answers.proofs.LineLaws.{AreSpelt}

-- a counter, or the end of a part, which says something
pub data Line : Type 0 where
  Count : Counter → Line
  End : List ℕ → Line

abbrev pub spell : Line → List ℕ
spell (Count c) = counter_line c
spell (End said) = codes "end " ++ said

abbrev pub good : Line → Type 0
good (Count c) = IsCounter c
good (End said) = Clear lf said

-- ---- how they are spelt

line-clear : (line : Line) → good line → Clear lf (spell line)
line-clear (Count c) h = Clear-line c h
line-clear (End said) h = (refl, (refl, (refl, (refl, h))))

line-some : (line : Line) → [] ≡ spell line → ⊥
line-some (Count c) e = omega (arith, ap length (e ∙ line_cut c))
line-some (End said) e = omega (arith, ap length e)

line-apart : (a b : Line) → good a → good b → spell a ≡ spell b → a ≡ b
line-apart (Count c) (Count d) h k e = ap Count (line-injective c d h k e)
line-apart (Count c) (End said) h k e = absurd (omega (arith, ap (λ (t : List ℕ). get_or t 0 0) (sym (line_cut c) ∙ e)))
line-apart (End said) (Count c) h k e = absurd (omega (arith, ap (λ (t : List ℕ). get_or t 0 0) (e ∙ line_cut c)))
line-apart (End said) (End other) h k e = let same : said ≡ other = cc in ap End same

pub are_spelt : AreSpelt good spell
are_spelt = record { clear = line-clear; some = λ line h. line-some line; apart = line-apart }

-- ---- the line that ends a part

glyph-clear : (n : ℕ) → eqb (digit_glyph false n) lf ≡ false
glyph-clear n = by (ltb n 10)
  where
    by : (a : Bool) → eqb (cond a (48 + n) (87 + n)) lf ≡ false
    by true = grind (arith, nat_tests)
    by false = grind (arith, nat_tests)

onto-clear : (k n : ℕ) (acc : List ℕ) → Clear lf acc → Clear lf (digits_onto k 10 false n acc)
onto-clear zero n acc h = h
onto-clear (suc k) n acc h =
    either (eqb (n / 10) 0) _ _ (glyph-clear (n % 10), h) (onto-clear k (n / 10) (digit_glyph false (n % 10) ∷ acc) (glyph-clear (n % 10), h))
  where
    either : (b : Bool) (xs ys : List ℕ) → Clear lf xs → Clear lf ys → Clear lf (cond b xs ys)
    either true xs ys p q = p
    either false xs ys p q = q

pub decimal-clear : (n : ℕ) → Clear lf (decimal n)
unfolding digits
decimal-clear n = onto-clear 64 n [] tt

-- ---- the lines of parts, and of one that has begun

abbrev pub lines_of : List (List Counter) → List Counter → List Line
lines_of [] begun = map Count begun
lines_of (p ∷ parts) begun = map Count p ++ End (decimal (length p)) ∷ lines_of parts begun

counts-spelt : (cs : List Counter) → ended spell (map Count cs) ≡ lines_of_counters cs
counts-spelt [] = refl
counts-spelt (c ∷ cs) = ap (λ t. (counter_line c ++ lf ∷ []) ++ t) (counts-spelt cs)

part-spelt : (p : List Counter) (parts : List (List Counter)) (begun : List Counter)
    → ended spell (lines_of (p ∷ parts) begun) ≡ part_text p ++ ended spell (lines_of parts begun)
part-spelt p parts begun =
    flat_map-append (λ line. spell line ++ lf ∷ []) (map Count p) (End (decimal (length p)) ∷ lines_of parts begun)
    ∙ ap (λ t. t ++ ((end_line (length p) ++ lf ∷ []) ++ ended spell (lines_of parts begun))) (counts-spelt p)
    ∙ sym (append_assoc (lines_of_counters p) (end_line (length p) ++ lf ∷ []) (ended spell (lines_of parts begun)))

pub text_is : (parts : List (List Counter)) (begun : List Counter) (rest : List ℕ)
    → text_of_parts parts ++ (lines_of_counters begun ++ rest) ≡ ended spell (lines_of parts begun) ++ rest
text_is [] begun rest = ap (λ t. t ++ rest) (sym (counts-spelt begun))
text_is (p ∷ parts) begun rest =
    append_assoc (part_text p) (text_of_parts parts) (lines_of_counters begun ++ rest)
    ∙ ap (λ t. part_text p ++ t) (text_is parts begun rest)
    ∙ sym (append_assoc (part_text p) (ended spell (lines_of parts begun)) rest)
    ∙ ap (λ t. t ++ rest) (sym (part-spelt p parts begun))

pub parts_are : (parts : List (List Counter)) → text_of_parts parts ≡ ended spell (lines_of parts [])
parts_are parts = sym (append-nil (text_of_parts parts)) ∙ text_is parts [] [] ∙ append-nil (ended spell (lines_of parts []))

-- ---- they are good

counts-good : (cs : List Counter) → AllByRecursion IsCounter cs → AllByRecursion good (map Count cs)
counts-good [] h = tt
counts-good (c ∷ cs) h = (h.0, counts-good cs h.1)

part-good : (p others : List Counter) (lines : List Line) → (AllByRecursion IsCounter others → AllByRecursion good lines)
    → AllByRecursion IsCounter (p ++ others) → AllByRecursion good (map Count p ++ lines)
part-good [] others lines then h = then h
part-good (c ∷ p) others lines then h = (h.0, part-good p others lines then h.1)

pub lines_good : (parts : List (List Counter)) (begun : List Counter) → AllByRecursion IsCounter (together parts ++ begun)
    → AllByRecursion good (lines_of parts begun)
lines_good [] begun h = counts-good begun h
lines_good (p ∷ parts) begun h =
    part-good p (together parts ++ begun) (End (decimal (length p)) ∷ lines_of parts begun)
    (λ k. (decimal-clear (length p), lines_good parts begun k))
    (subst (AllByRecursion IsCounter) (append_assoc p (together parts) begun) h)

-- ---- what they say

counts-many : (cs : List Counter) → length (map Count cs) ≡ length cs
counts-many [] = refl
counts-many (c ∷ cs) = omega (arith, counts-many cs)

pub lines_many : (parts : List (List Counter)) (begun : List Counter)
    → length (lines_of parts begun) ≡ length (together parts ++ begun) + length parts
lines_many [] begun = omega (arith, counts-many begun)
lines_many (p ∷ parts) begun =
    omega (
      arith,
      counts-many p,
      lines_many parts begun,
      length-append (map Count p) (End (decimal (length p)) ∷ lines_of parts begun),
      ap length (append_assoc p (together parts) begun),
      length-append p (together parts ++ begun),
    )

-- the counters of lines
abbrev pub counters_in : List Line → List Counter
counters_in [] = []
counters_in (Count c ∷ lines) = c ∷ counters_in lines
counters_in (End said ∷ lines) = counters_in lines

counters-behind : (p : List Counter) (lines : List Line) → counters_in (map Count p ++ lines) ≡ p ++ counters_in lines
counters-behind [] lines = refl
counters-behind (c ∷ p) lines = ap (λ cs. c ∷ cs) (counters-behind p lines)

counters-own : (p : List Counter) → counters_in (map Count p) ≡ p
counters-own [] = refl
counters-own (c ∷ p) = ap (λ cs. c ∷ cs) (counters-own p)

pub counters_back : (parts : List (List Counter)) (begun : List Counter) → counters_in (lines_of parts begun) ≡ together parts ++ begun
counters_back [] begun = counters-own begun
counters_back (p ∷ parts) begun =
    counters-behind p (End (decimal (length p)) ∷ lines_of parts begun)
    ∙ ap (λ cs. p ++ cs) (counters_back parts begun)
    ∙ sym (append_assoc p (together parts) begun)

pub same_counters : (parts others : List (List Counter)) → lines_of parts [] ≡ lines_of others [] → together parts ≡ together others
same_counters parts others e =
    sym (counters_back parts [] ∙ append-nil (together parts)) ∙ ap counters_in e ∙ counters_back others [] ∙ append-nil (together others)

-- how many parts end in lines
abbrev pub ends_in : List Line → ℕ
ends_in [] = 0
ends_in (Count c ∷ lines) = ends_in lines
ends_in (End said ∷ lines) = suc (ends_in lines)

ends-behind : (p : List Counter) (lines : List Line) → ends_in (map Count p ++ lines) ≡ ends_in lines
ends-behind [] lines = refl
ends-behind (c ∷ p) lines = ends-behind p lines

ends-none : (p : List Counter) → ends_in (map Count p) ≡ 0
ends-none [] = refl
ends-none (c ∷ p) = ends-none p

pub ends_back : (parts : List (List Counter)) (begun : List Counter) → ends_in (lines_of parts begun) ≡ length parts
ends_back [] begun = ends-none begun
ends_back (p ∷ parts) begun =
    ends-behind p (End (decimal (length p)) ∷ lines_of parts begun) ∙ omega (arith, ends_back parts begun)

-- how many counters stand after the last end, where so many stand before the lines
abbrev pub left_in : ℕ → List Line → ℕ
left_in n [] = n
left_in n (Count c ∷ lines) = left_in (suc n) lines
left_in n (End said ∷ lines) = left_in 0 lines

left-behind : (n : ℕ) (p : List Counter) (said : List ℕ) (lines : List Line) → left_in n (map Count p ++ End said ∷ lines) ≡ left_in 0 lines
left-behind n [] said lines = refl
left-behind n (c ∷ p) said lines = left-behind (suc n) p said lines

left-own : (n : ℕ) (p : List Counter) → left_in n (map Count p) ≡ n + length p
left-own n [] = omega arith
left-own n (c ∷ p) = left-own (suc n) p ∙ omega arith

pub left_back : (parts : List (List Counter)) (begun : List Counter) → left_in 0 (lines_of parts begun) ≡ length begun
left_back [] begun = left-own 0 begun ∙ omega arith
left_back (p ∷ parts) begun = left-behind 0 p (decimal (length p)) (lines_of parts begun) ∙ left_back parts begun

-- each end says how many counters its part has
abbrev pub AreRight : ℕ → List Line → Type 0
AreRight n [] = Unit {0}
AreRight n (Count c ∷ lines) = AreRight (suc n) lines
AreRight n (End said ∷ lines) = (said ≡ decimal n) × AreRight 0 lines

right-counts : (n : ℕ) (p : List Counter) → AreRight n (map Count p)
right-counts n [] = tt
right-counts n (c ∷ p) = right-counts (suc n) p

right-part : (n : ℕ) (p : List Counter) (said : List ℕ) (lines : List Line) → said ≡ decimal (n + length p) → AreRight 0 lines
    → AreRight n (map Count p ++ End said ∷ lines)
right-part n [] said lines e h = (e ∙ ap decimal (omega arith), h)
right-part n (c ∷ p) said lines e h = right-part (suc n) p said lines (e ∙ ap decimal (omega arith)) h

pub are_right : (parts : List (List Counter)) (begun : List Counter) → AreRight 0 (lines_of parts begun)
are_right [] begun = right-counts 0 begun
are_right (p ∷ parts) begun =
    right-part 0 p (decimal (length p)) (lines_of parts begun) (ap decimal (omega arith)) (are_right parts begun)

pub said_right : (n : ℕ) (lines : List Line) (said : List ℕ) (after : List Line) → AreRight n (lines ++ End said ∷ after)
    → said ≡ decimal (left_in n lines)
said_right n [] said after h = h.0
said_right n (Count c ∷ lines) said after h = said_right (suc n) lines said after h
said_right n (End other ∷ lines) said after h = said_right 0 lines said after h.1
