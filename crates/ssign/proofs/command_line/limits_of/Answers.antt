use Rattle.std.proofs.Common.{◌==◌, ◌≡◌, ◌∙◌, ◌<◌, ◌^◌, ℕ, Bool, true, false, List, [], ◌∷◌, Option, Some, None, Result, codes, cond, drop, ap, refl, sym, arith}
use Rattle.std.specs.Prelude.{decimal}
use Rattle.std.specs.Str.Parse.{IsNumeral, ParsesUnsigned, ExplainsUnsignedError, HasUnsignedDigitsIfOk, without_leading_plus}
use Rattle.std.specs.declared.num.ParseIntError.{ParseIntError}
use Rattle.std.proofs.lemmas.Bool.{ne_eqb}
use Rattle.std.proofs.lemmas.Fmt.{decimal_is_IsNumeral}
use Rattle.std.proofs.lemmas.Str.Parse.{digit_from_value}
use Rattle.clap.specs.Words.{ReadsOne}
use Rattle.clap.specs.declared.parser.matches.ArgMatches.{ArgMatches}
use Rattle.ss_frame.specs.Limits.{InRange}
use Rattle.ssign.specs.CommandLine.{HasNumber, SpellsNumber, is_given, text_of}
use Rattle.ssign.proofs.command_line.limits_of.Goals as goal

-- what `from_str` of a u32 states about its answer
abbrev Parses : List ℕ → Result ℕ ParseIntError → Type 0
Parses text r = ParsesUnsigned 32 10 text r × ExplainsUnsignedError 10 text r × HasUnsignedDigitsIfOk text r

-- an option's text is read so
abbrev IsReadAs : ArgMatches → List ℕ → Option ℕ → Type 0
IsReadAs m option r = (text : List ℕ) → text_of m option ≡ Some text → ReadsOne Parses text r

-- a numeral has no plus
no_plus : (digits : List ℕ) → IsNumeral 10 digits → without_leading_plus digits ≡ digits
no_plus [] numeral = refl
no_plus (digit ∷ digits) numeral =
    let other : (digit == 43) ≡ false = ne_eqb _ _ (λ e. omega (arith, digit_from_value digit numeral.1.0)) in
    ap (λ (b : Bool). drop (cond b 1 0) (digit ∷ digits)) other

-- the decimal text of a number spells it
spells_decimal : (n : ℕ) → n < 2 ^ 64 → SpellsNumber (decimal n) n
spells_decimal n small =
    let spelled = decimal_is_IsNumeral n small in
    rw (no_plus (decimal n) spelled.0) spelled

has_decimal : (m : ArgMatches) (option : List ℕ) (n : ℕ) → n < 2 ^ 32 → text_of m option ≡ Some (decimal n) → HasNumber m option n
has_decimal m option n small e = (decimal n, e, spells_decimal n (omega arith))

-- an option that has a number is read as it
number_read : (m : ArgMatches) (option : List ℕ) (r : Option ℕ) (n : ℕ) → IsReadAs m option r → HasNumber m option n → n < 2 ^ 32 → r ≡ Some n
number_read m option None n value has small =
    let read = value has.0 has.1 in
    absurd (read.1.0 (has.2.0, rw has.2.1 small))
number_read m option (Some v) n value has small = ap Some ((value has.0 has.1).0.1 ∙ has.2.1)

-- the number that was read is the one that the option has
number_is : (m : ArgMatches) (option : List ℕ) (v n : ℕ) → IsReadAs m option (Some v) → HasNumber m option n → n ≡ v
number_is m option v n value has = sym ((value has.0 has.1).0.1 ∙ has.2.1)

-- what was read is a number that the option has
has_number : (m : ArgMatches) (option : List ℕ) (v : ℕ) → (text_of m option ≡ None → Some v ≡ None) → IsReadAs m option (Some v) → HasNumber m option v
has_number m option v none value = by_text (text_of m option) refl
  where
    by_text : (text : Option (List ℕ)) → text_of m option ≡ text → HasNumber m option v
    by_text None e =
        let bad : Some v ≡ None = none e in
        cc
    by_text (Some text) e =
        let read = value text e in
        (text, e, (read.0.0.0, sym read.0.1))

pub returns-in_err-max_len-clause-value : goal.returns-in_err-max_len-clause-value
returns-in_err-max_len-clause-value c = λ a b has_a has_b.
    rw c.from_residual.ensures (λ (range : InRange a b).
    let read = number_read c.args.matches.now (codes "max-len") None a c.in_err-max_len.ensures.value has_a (omega (arith, range.at_most_a_mebibyte)) in
    absurd cc)

pub returns-in_err-max_len-clause-decimal : goal.returns-in_err-max_len-clause-decimal
returns-in_err-max_len-clause-decimal c = λ a b small_a small_b is_a is_b.
    let m = c.args.matches.now in
    returns-in_err-max_len-clause-value c a b (has_decimal m _ a small_a is_a) (has_decimal m _ b small_b is_b)

pub returns-in_err-max_messages-clause-value : goal.returns-in_err-max_messages-clause-value
returns-in_err-max_messages-clause-value c = λ a b has_a has_b.
    rw c.from_residual-in_err-max_messages.ensures (λ (range : InRange a b).
    let read = number_read c.args.matches.now (codes "max-messages") None b c.in_err-max_messages.ensures.value has_b (omega (arith, range.at_most_ten_million)) in
    absurd cc)

pub returns-in_err-max_messages-clause-decimal : goal.returns-in_err-max_messages-clause-decimal
returns-in_err-max_messages-clause-decimal c = λ a b small_a small_b is_a is_b.
    let m = c.args.matches.now in
    returns-in_err-max_messages-clause-value c a b (has_decimal m _ a small_a is_a) (has_decimal m _ b small_b is_b)

pub returns-in_err-limits-clause-value : goal.returns-in_err-limits-clause-value
returns-in_err-limits-clause-value c = λ a b has_a has_b.
    let m = c.args.matches.now in
    let same_a = number_is m (codes "max-len") c.in_ok-max_len.max_len a c.in_ok-max_len.ensures.value has_a in
    let same_b = number_is m (codes "max-messages") c.in_ok-max_messages.max_messages b c.in_ok-max_messages.ensures.value has_b in
    rw (c.from_residual-in_err-limits.ensures, same_a, same_b) (λ range.
    let bad : false ≡ true = c.in_err-limits.ensures.valid.1 range in
    cc)

pub returns-in_err-limits-clause-decimal : goal.returns-in_err-limits-clause-decimal
returns-in_err-limits-clause-decimal c = λ a b small_a small_b is_a is_b.
    let m = c.args.matches.now in
    returns-in_err-limits-clause-value c a b (has_decimal m _ a small_a is_a) (has_decimal m _ b small_b is_b)

pub returns-then-is_given-clause-value : goal.returns-then-is_given-clause-value
returns-then-is_given-clause-value c = λ a b has_a has_b.
    let m = c.args.matches.now in
    let same_a = number_is m (codes "max-len") c.in_ok-max_len.max_len a c.in_ok-max_len.ensures.value has_a in
    let same_b = number_is m (codes "max-messages") c.in_ok-max_messages.max_messages b c.in_ok-max_messages.ensures.value has_b in
    let same_form : is_given m (codes "lines") ≡ true = sym c.is_given.ensures ∙ c.if-is_given.true in
    let made = rw c.in_ok-limits.ensures.value at c.lines.ensures in
    rw (same_a, same_b, same_form) (c.in_ok-limits.ensures.valid.0 refl, made)

pub returns-then-is_given-clause-decimal : goal.returns-then-is_given-clause-decimal
returns-then-is_given-clause-decimal c = λ a b small_a small_b is_a is_b.
    let m = c.args.matches.now in
    returns-then-is_given-clause-value c a b (has_decimal m _ a small_a is_a) (has_decimal m _ b small_b is_b)

pub returns-then-is_given-clause-numbers : goal.returns-then-is_given-clause-numbers
returns-then-is_given-clause-numbers c =
    let m = c.args.matches.now in
    let made = rw c.in_ok-limits.ensures.value at c.lines.ensures in
    rw made (
      has_number m (codes "max-len") c.in_ok-max_len.max_len c.in_ok-max_len.ensures.none c.in_ok-max_len.ensures.value,
      has_number m (codes "max-messages") c.in_ok-max_messages.max_messages c.in_ok-max_messages.ensures.none c.in_ok-max_messages.ensures.value,
    )

pub returns-else-is_given-clause-value : goal.returns-else-is_given-clause-value
returns-else-is_given-clause-value c = λ a b has_a has_b.
    let m = c.args.matches.now in
    let same_a = number_is m (codes "max-len") c.in_ok-max_len.max_len a c.in_ok-max_len.ensures.value has_a in
    let same_b = number_is m (codes "max-messages") c.in_ok-max_messages.max_messages b c.in_ok-max_messages.ensures.value has_b in
    let same_form : is_given m (codes "lines") ≡ false = sym c.is_given.ensures ∙ c.if-is_given.false in
    rw (same_a, same_b, same_form) (c.in_ok-limits.ensures.valid.0 refl, c.in_ok-limits.ensures.value)

pub returns-else-is_given-clause-decimal : goal.returns-else-is_given-clause-decimal
returns-else-is_given-clause-decimal c = λ a b small_a small_b is_a is_b.
    let m = c.args.matches.now in
    returns-else-is_given-clause-value c a b (has_decimal m _ a small_a is_a) (has_decimal m _ b small_b is_b)

pub returns-else-is_given-clause-numbers : goal.returns-else-is_given-clause-numbers
returns-else-is_given-clause-numbers c =
    let m = c.args.matches.now in
    rw c.in_ok-limits.ensures.value (
      has_number m (codes "max-len") c.in_ok-max_len.max_len c.in_ok-max_len.ensures.none c.in_ok-max_len.ensures.value,
      has_number m (codes "max-messages") c.in_ok-max_messages.max_messages c.in_ok-max_messages.ensures.none c.in_ok-max_messages.ensures.value,
    )
