-- What a text that is cut at its first space can't be.
use Rattle.std.proofs.Common.{◌≡◌, ℕ, List, ◌∷◌, ◌++◌, sym, ◌∙◌}
use Rattle.ss_octets.specs.Ascii.{sp}
use Rattle.ss_octets.specs.StrictBase64.{base64}
use Rattle.ss_answers.specs.Answers.{IsNoField, IsNoPair, IsNoTriple}
use Rattle.ss_answers.specs.Lines.{Lacks}
use Rattle.ss_answers.proofs.Base64Text.{Lacks-space}
use Rattle.ss_answers.proofs.Cuts.{cut_once}
use Rattle.ss_answers.specs.declared.field.LineFault.{LineFault}
use Rattle.ss_answers.specs.declared.field.LineFault.TheVariants as faults
use Rattle.ss_answers.specs.AnswerLine.{IfBad}

pub IfBad-weaker : (fault : LineFault) (P Q : Type 0) → (P → Q) → IfBad fault P → IfBad fault Q
IfBad-weaker faults.Bad P Q f h = f h
IfBad-weaker faults.Memory P Q f h = tt

-- what a text cut at its first space can't be
pub IsNoPair-from_first : (text a x : List ℕ) → Lacks sp a → text ≡ a ++ sp ∷ x → IsNoField a → IsNoPair text
IsNoPair-from_first text a x lacks cut none = λ first second pair.
    none first pair.0 (cut_once sp a x (base64 first) (base64 second) lacks (Lacks-space first) (sym cut ∙ pair.2)).0

pub IsNoPair-from_second : (text a x : List ℕ) → Lacks sp a → text ≡ a ++ sp ∷ x → IsNoField x → IsNoPair text
IsNoPair-from_second text a x lacks cut none = λ first second pair.
    none second pair.1 (cut_once sp a x (base64 first) (base64 second) lacks (Lacks-space first) (sym cut ∙ pair.2)).1

pub IsNoTriple-from_first : (text a x : List ℕ) → Lacks sp a → text ≡ a ++ sp ∷ x → IsNoField a → IsNoTriple text
IsNoTriple-from_first text a x lacks cut none = λ first second third triple.
    none first triple.0 (cut_once sp a x (base64 first) (base64 second ++ sp ∷ base64 third) lacks (Lacks-space first) (sym cut ∙ triple.3)).0

pub IsNoTriple-from_rest : (text a x : List ℕ) → Lacks sp a → text ≡ a ++ sp ∷ x → IsNoPair x → IsNoTriple text
IsNoTriple-from_rest text a x lacks cut none = λ first second third triple.
    none second third (triple.1, triple.2, (cut_once sp a x (base64 first) (base64 second ++ sp ∷ base64 third) lacks (Lacks-space first) (sym cut ∙ triple.3)).1)
