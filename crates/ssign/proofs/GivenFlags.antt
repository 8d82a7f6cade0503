-- What is read of a flag.
use Rattle.std.proofs.Common.{◌≡◌, ◌∙◌, List, ℕ, Bool, true, false, Option, Some, None, codes, ap, refl, sym}
use Rattle.std.specs.Prelude.{Decides, unwrap_or}
use Rattle.std.specs.Str.{bytes_eq}
use Rattle.std.specs.Str.Parse.{ParsesBool, false_text, true_text}
use Rattle.std.proofs.lemmas.Slice.Eq.{bytes_eq-Decides}
use Rattle.clap.specs.Words.{ReadsOne}
use Rattle.clap.specs.declared.parser.matches.ArgMatches.{ArgMatches}
use Rattle.ssign.specs.CommandLine.{is_true, text_of}

-- a test of what doesn't hold
fails : {P : Type 0} (b : Bool) → Decides b P → ¬ P → b ≡ false
fails true is other = absurd (other (is.0 refl))
fails false is other = refl

-- a text is read as `true` or it isn't
read_text : (E : Type 0) (text : List ℕ) (r : Option Bool) → ReadsOne (ParsesBool {E = E}) text r
    → unwrap_or r false ≡ bytes_eq text (codes "true")
read_text E text (Some true) is = sym ((bytes_eq-Decides text (codes "true")).1 is)
read_text E text (Some false) is = sym (fails _ (bytes_eq-Decides text (codes "true")) (λ e.
    let bad : false_text ≡ true_text = sym is ∙ e in
    cc))
read_text E text None is = sym (fails _ (bytes_eq-Decides text (codes "true")) is.1.0)

-- so is the text of a flag
pub flag_read : (E : Type 0) (m : ArgMatches) (flag : List ℕ) (r : Option Bool) → (text_of m flag ≡ None → r ≡ None)
    → ((text : List ℕ) → text_of m flag ≡ Some text → ReadsOne (ParsesBool {E = E}) text r)
    → unwrap_or r false ≡ is_true (text_of m flag)
flag_read E m flag r none value = by_text (text_of m flag) refl
  where
    by_text : (text : Option (List ℕ)) → text_of m flag ≡ text → unwrap_or r false ≡ is_true text
    by_text None e = ap (λ (x : Option Bool). unwrap_or x false) (none e)
    by_text (Some text) e = read_text E text r (value text e)
