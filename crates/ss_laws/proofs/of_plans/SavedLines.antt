-- The text of saved counters is a part with the counters that it saves. These are in their ranges, and the text is short.
use Rattle.std.proofs.Common.{◌≡◌, ℕ, ◌+◌, ◌*◌, ◌<◌, ◌≤◌, ◌^◌, ◌&&◌, codes, List, [], ◌∷◌, ◌++◌, length, map, flat_map, refl, ap, ◌∙◌, arith, append-nil, append_assoc, length-append}
use Rattle.std.proofs.lemmas.List.{length-map}
use Rattle.std.specs.Prelude.{decimal, nat_le, nat_lt}
use Rattle.std.specs.List.{AllByRecursion, list_all}
use Rattle.std.proofs.lemmas.Bool.{and_parts, leb-true}
use Rattle.std.proofs.lemmas.Fmt.{length-decimal-le}
use Rattle.ss_octets.specs.Ascii.{lf}
use Rattle.ss_message.specs.declared.draft.Field.{Field}
use Rattle.ss_message.specs.declared.draft.Field.TheVariants.{Nil, Text}
use Rattle.ss_message.specs.Octets.{is_printable, is_text}
use Rattle.ss_block.specs.declared.block.Group.{Group}
use Rattle.ss_block.specs.declared.session.Session.{Session}
use Rattle.ss_origin.specs.declared.counters.Counters.{Counters}
use Rattle.ss_origin.specs.declared.counters.NextNumber.{NextNumber}
use Rattle.ss_origin.specs.declared.grouping.Grouping.{Grouping}
use Rattle.ss_origin.specs.declared.grouping.Grouping.TheVariants.{One, ByPri, Ranges}
use Rattle.ss_origin.specs.Groups.{sg_of}
use Rattle.ss_review.specs.declared.counted.counter.Counts.TheVariants.{Blocks, Messages}
use Rattle.ss_review.specs.counted.CounterRange.{IsName, IsSession, IsCounter}
use Rattle.ss_review.specs.counted.CounterText as spelling
use Rattle.ss_review.specs.counted.CounterText.{counter_line, counter_text, lines_of_counters}
use Rattle.ss_report.specs.runs.Counters.{block_counter, counters_end, message_counter}
use Rattle.ss_report.specs.records.Record.{field}
use Rattle.ss_report.specs.records.Fields.{field_word, session_fields, group_fields}
use Rattle.ss_report.specs.records.Written.{fields_in, written}
use Rattle.ss_report.specs.declared.notation.Notation.TheVariants.{Plain}
use Rattle.ss_answers.specs.CounterFile.{end_line, part_text}
use Rattle.ss_answers.proofs.CounterWords.{is_text-word}
use Rattle.ss_signing.specs.Ahead.{counters_text, number_line}
use Rattle.ss_laws.specs.plans.ReadBack.{number_saved, saved}
use Rattle.ss_laws.proofs.of_plans.SavedNumbers.{IsOwn, AreInRange, few_numbers}

-- ---- a line

same_word : (f : Field) → field_word f ≡ spelling.field_word f
same_word Nil = refl
same_word (Text octets) = refl

-- five words, each with a space before it, and seven
five_words : (kind sp host app procid rsid next end : List ℕ)
    → kind ++ ((sp ++ host) ++ ((sp ++ app) ++ ((sp ++ procid) ++ ((sp ++ rsid) ++ ((sp ++ next) ++ []))))) ++ end
    ≡ (kind ++ (sp ++ host ++ sp ++ app ++ sp ++ procid ++ (sp ++ rsid)) ++ (sp ++ next)) ++ end
five_words kind sp host app procid rsid next end = simp (append_assoc, append-nil)

seven_words : (kind sp host app procid rsid sg spri next end : List ℕ)
    → kind ++ ((sp ++ host) ++ ((sp ++ app) ++ ((sp ++ procid) ++ ((sp ++ rsid) ++ ((sp ++ sg) ++ ((sp ++ spri) ++ ((sp ++ next) ++ []))))))) ++ end
    ≡ (kind ++ (sp ++ host ++ sp ++ app ++ sp ++ procid ++ (sp ++ rsid)) ++ ((sp ++ sg) ++ (sp ++ spri)) ++ (sp ++ next)) ++ end
seven_words kind sp host app procid rsid sg spri next end = simp (append_assoc, append-nil)

same_session : (s : Session)
    → codes " " ++ field_word s.host ++ codes " " ++ field_word s.app ++ codes " " ++ field_word s.procid ++ spelling.spaced s.rsid ≡ spelling.session_words s
same_session s i =
    codes " " ++ same_word s.host i ++ codes " " ++ same_word s.app i ++ codes " " ++ same_word s.procid i
    ++ spelling.spaced s.rsid

block_line : (s : Session) (gbc : ℕ) → block_counter Plain s gbc ≡ counter_text s Blocks gbc ++ lf ∷ []
unfolding written fields_in session_fields field
block_line s gbc =
    five_words (codes "count") (codes " ") (field_word s.host) (field_word s.app) (field_word s.procid) (decimal s.rsid) (decimal gbc) (codes "\n")
    ∙ ap (λ words. (codes "count" ++ words ++ spelling.spaced gbc) ++ codes "\n") (same_session s)

message_line : (s : Session) (g : Group) (number : ℕ)
    → message_counter Plain s g number ≡ counter_text s (Messages g) number ++ lf ∷ []
unfolding written fields_in session_fields group_fields field
message_line s g number =
    seven_words (codes "count") (codes " ") (field_word s.host) (field_word s.app) (field_word s.procid) (decimal s.rsid) (decimal g.sg) (decimal g.spri) (decimal number) (codes "\n")
    ∙ ap (λ words. (codes "count" ++ words ++ spelling.group_words g ++ spelling.spaced number) ++ codes "\n") (same_session s)

-- ---- the text

group_lines : (s : Session) (sg : ℕ) (numbers : List NextNumber) → flat_map (number_line s sg) numbers ≡ lines_of_counters (map (number_saved s sg) numbers)
group_lines s sg [] = refl
group_lines s sg (n ∷ numbers) = λ i. message_line s (record { sg = sg; spri = n.spri }) n.number i ++ group_lines s sg numbers i

end_is : (count other : ℕ) → count ≡ other → counters_end Plain count ≡ end_line other ++ lf ∷ []
unfolding written fields_in field
end_is count other e = ap (λ t. codes "end " ++ t ++ lf ∷ []) (append-nil (decimal count)) ∙ ap (λ n. end_line n ++ lf ∷ []) e

pub text_is_part : (s : Session) (sg : ℕ) (k : Counters) → counters_text s sg k ≡ part_text (saved s sg k)
text_is_part s sg k =
    let count : length k.groups + 1 ≡ length (saved s sg k) = omega (arith, length-map k.groups (number_saved s sg)) in
    λ i. block_line s k.gbc i ++ group_lines s sg k.groups i ++ end_is (length k.groups + 1) (length (saved s sg k)) count i

-- ---- ranges

small_sg : (grouping : Grouping) → sg_of grouping ≤ 3
small_sg (One spri) = omega arith
small_sg ByPri = omega arith
small_sg (Ranges bounds) = omega arith

numbers_are_counters : (s : Session) (grouping : Grouping) → IsSession s → (numbers : List NextNumber) → AllByRecursion (IsOwn grouping) numbers → AllByRecursion IsCounter (map (number_saved s (sg_of grouping)) numbers)
numbers_are_counters s grouping is [] own = tt
numbers_are_counters s grouping is (n ∷ numbers) own = (
  record {
    session = is;
    next = (record { sg = small_sg grouping; spri = own.0.spri }, own.0.least, own.0.most);
  },
  numbers_are_counters s grouping is numbers own.1,
)

pub saved_are_counters : (s : Session) (grouping : Grouping) (k : Counters) → IsSession s → AreInRange grouping k → AllByRecursion IsCounter (saved s (sg_of grouping) k)
saved_are_counters s grouping k is ranges =
    (record { session = is; next = ranges.gbc }, numbers_are_counters s grouping is k.groups ranges.own)

-- ---- how long the text is

word_length : (limit : ℕ) (f : Field) → 1 ≤ limit → IsName limit f → length (spelling.field_word f) ≤ limit
unfolding is_text
word_length limit f some is =
    let word = spelling.field_word f in
    let parts = and_parts (nat_lt 0 (length word) && nat_le (length word) limit) (list_all is_printable word) (is_text-word limit f some is) in
    leb-true (length word) limit (and_parts (nat_lt 0 (length word)) (nat_le (length word) limit) parts.0).1

number_length : (n : ℕ) → n ≤ 10000000000 → length (decimal n) ≤ 11
number_length n most = length-decimal-le 11 n (omega arith) (omega (arith, most)) (omega (arith, most))

spaced_length : (n : ℕ) → n ≤ 10000000000 → length (spelling.spaced n) ≤ 12
spaced_length n most = let digits = number_length n most in omega (arith, digits)

four_words : (sp host app procid rsid : List ℕ) → length sp ≡ 1 → length host ≤ 255 → length app ≤ 48 → length procid ≤ 128 → length rsid ≤ 12
    → length (sp ++ host ++ sp ++ app ++ sp ++ procid ++ rsid) ≤ 446
four_words sp host app procid rsid one h a p r = grind (arith, length-append)

session_length : (s : Session) → IsSession s → length (spelling.session_words s) ≤ 446
session_length s is =
    four_words (codes " ") (spelling.field_word s.host) (spelling.field_word s.app) (spelling.field_word s.procid) (spelling.spaced s.rsid) refl (word_length 255 s.host (omega arith) is.host) (word_length 48 s.app (omega arith) is.app) (word_length 128 s.procid (omega arith) is.procid)
    (spaced_length s.rsid (let most = is.rsid in omega (arith, most)))

block_words : (kind session next end : List ℕ) → length kind ≡ 5 → length session ≤ 446 → length next ≤ 12 → length end ≡ 1
    → length ((kind ++ session ++ next) ++ end) ≤ 488
block_words kind session next end five s n one = grind (arith, length-append)

number_words : (kind session sg spri next end : List ℕ) → length kind ≡ 5 → length session ≤ 446 → length sg ≤ 12 → length spri ≤ 12 → length next ≤ 12 → length end ≡ 1
    → length ((kind ++ session ++ (sg ++ spri) ++ next) ++ end) ≤ 488
number_words kind session sg spri next end five s g p n one = grind (arith, length-append)

append_length : (xs ys : List ℕ) (a b : ℕ) → length xs ≤ a → length ys ≤ b → length (xs ++ ys) ≤ a + b
append_length xs ys a b x y = grind (arith, length-append)

numbers_length : (s : Session) (grouping : Grouping) → IsSession s → (numbers : List NextNumber) → AllByRecursion (IsOwn grouping) numbers
    → length (lines_of_counters (map (number_saved s (sg_of grouping)) numbers)) ≤ 488 * length numbers
numbers_length s grouping is [] own = omega arith
numbers_length s grouping is (n ∷ numbers) own =
    let sg = small_sg grouping in
    let spri = own.0.spri in
    let line = number_words (codes "count") (spelling.session_words s) (spelling.spaced (sg_of grouping)) (spelling.spaced n.spri) (spelling.spaced n.number) (codes "\n") refl (session_length s is) (spaced_length (sg_of grouping) (omega (arith, sg))) (spaced_length n.spri (omega (arith, spri))) (spaced_length n.number own.0.most) refl in
    let both = append_length (counter_line (number_saved s (sg_of grouping) n) ++ lf ∷ []) (lines_of_counters (map (number_saved s (sg_of grouping)) numbers)) 488 (488 * length numbers) line (numbers_length s grouping is numbers own.1) in
    omega (arith, both)

end_length : (count : ℕ) → count ≤ 10000000000 → length (end_line count ++ lf ∷ []) ≤ 16
end_length count most =
    let digits = number_length count most in omega (arith, digits, length-append (end_line count) (lf ∷ []))

pub text_is_short : (s : Session) (grouping : Grouping) (k : Counters) → IsSession s → AreInRange grouping k → length (part_text (saved s (sg_of grouping) k)) < 2 ^ 32
text_is_short s grouping k is ranges =
    let few = few_numbers grouping 0 k.groups (omega arith) ranges.rise ranges.own in
    let first = block_words (codes "count") (spelling.session_words s) (spelling.spaced k.gbc) (codes "\n") refl (session_length s is) (spaced_length k.gbc ranges.gbc) refl in
    let both = append_length (counter_text s Blocks k.gbc ++ lf ∷ []) (lines_of_counters (map (number_saved s (sg_of grouping)) k.groups)) 488 (488 * length k.groups) first (numbers_length s grouping is k.groups ranges.own) in
    let many = length-map k.groups (number_saved s (sg_of grouping)) in
    let end = end_length (length (saved s (sg_of grouping) k)) (omega (arith, few, many)) in
    let all = append_length (lines_of_counters (saved s (sg_of grouping) k)) (end_line (length (saved s (sg_of grouping) k)) ++ lf ∷ []) (488 + 488 * length k.groups) 16 both end in
    omega (arith, few, all)
