use Rattle.std.proofs.Common.{◌≡◌, ℕ, ◌<◌, ◌^◌, List, Ok, Err, not, false, sym, ap, subst, ◌∙◌, arith}
use Rattle.std.specs.Fmt.{decimal}
use Rattle.std.specs.Str.{IsAscii}
use Rattle.std.specs.Str.Parse.{ParsesUnsigned}
use Rattle.std.proofs.lemmas.Bool.{not-false}
use Rattle.std.proofs.lemmas.Fmt.{IsAscii-decimal, parse-decimal}
use Rattle.std.proofs.lemmas.Slice.Eq.{bytes_eq-Decides}
use Rattle.std.proofs.lemmas.Str.{IsUtf8-from_ascii}
use Rattle.ss_octets.specs.Number.{number}
use Rattle.ss_octets.proofs.Numbers.{number_in-none, number_in-decimal}
use Rattle.ss_octets.proofs.number.number_of.Goals as goal
use Rattle.ss_octets.proofs.number.number_of.Goals.{then-number-least-via-then-number-least, then-number-least-via-else-number-least+then-number-most, then-number-least-via-else-number-least+else-number-most+then-ne}

-- what `parse` makes of a spelled number is that number
is_read : (n m : ℕ) (text : List ℕ) → n < 2 ^ 64 → text ≡ decimal n → ParsesUnsigned {E = ℕ} 64 10 text (Ok m) → m ≡ n
is_read n m text small e read = let same = parse-decimal {E = ℕ} 64 n text (Ok m) small small e read in cc

-- and it makes one of it
never_fails : (n : ℕ) (text : List ℕ) → n < 2 ^ 64 → text ≡ decimal n → ParsesUnsigned {E = ℕ} 64 10 text (Err 0) → ⊥
never_fails n text small e fails = let same = parse-decimal {E = ℕ} 64 n text (Err 0) small small e fails in cc

pub returns-in_default : goal.returns-in_default
returns-in_default c =
    sym (number_in-none c.args.least c.args.most c.args.text.now (λ s.
    let small : number c.args.text.now < 2 ^ 64 = omega (arith, s.high) in
    c.in_default.ensures.cases.0 (IsUtf8-from_ascii c.args.text.now (subst IsAscii (sym s.spelled) (IsAscii-decimal (number c.args.text.now) small)))))

pub returns-in_default-parse : goal.returns-in_default-parse
returns-in_default-parse c =
    sym (number_in-none c.args.least c.args.most c.args.text.now (λ s.
    let small : number c.args.text.now < 2 ^ 64 = omega (arith, s.high) in
    never_fails (number c.args.text.now) c.in-Ok.text.now small (c.in-Ok.ensures.cases.0 ∙ s.spelled) c.in_default-parse.ensures.value.0))

pub returns-then-number-least : goal.returns-then-number-least
returns-then-number-least c =
    sym (number_in-none c.args.least c.args.most c.args.text.now (λ s.
    let small : number c.args.text.now < 2 ^ 64 = omega (arith, s.high) in
    let same = is_read (number c.args.text.now) c.in-Ok-parse.number c.in-Ok.text.now small (c.in-Ok.ensures.cases.0 ∙ s.spelled) c.in-Ok-parse.ensures.value.0 in
    elim c.then-number-least.branch [
      | then-number-least-via-then-number-least w ↦ omega (arith, s.low)
      | then-number-least-via-else-number-least+then-number-most w ↦ omega (arith, s.high)
      | then-number-least-via-else-number-least+else-number-most+then-ne w ↦
          let spelled : w.format.result.now ≡ c.in-Ok.text.now = w.format.ensures.text ∙ ap decimal same ∙ sym (c.in-Ok.ensures.cases.0 ∙ s.spelled) in
          let differs : w.ne.result ≡ false = w.ne.ensures ∙ ap not ((bytes_eq-Decides w.format.result.now c.in-Ok.text.now).1 spelled) in
          cc
    ]))

pub returns : goal.returns
returns c =
    let same : c.format.result.now ≡ c.in-Ok.text.now = (bytes_eq-Decides c.format.result.now c.in-Ok.text.now).0 (not-false _ (sym c.ne.ensures ∙ c.if-ne.false)) in
    sym (number_in-decimal c.args.least c.args.most c.in-Ok-parse.number c.args.text.now (omega arith) (omega arith) (omega arith)
    (sym c.in-Ok.ensures.cases.0 ∙ sym same ∙ c.format.ensures.text))
