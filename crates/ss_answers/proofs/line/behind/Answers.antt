use Rattle.std.proofs.Common.{◌≡◌, ℕ, List, [], ◌∷◌, ◌++◌, Bor, Option, Some, None, ap, ◌∙◌}
use Rattle.std.specs.Option.{MatchOption}
use Rattle.std.proofs.lemmas.Bool.Decides.{Decides-eqb}
use Rattle.std.proofs.lemmas.Slice.Eq.{strip_prefix_is}
use Rattle.ss_octets.specs.Ascii.{sp}
use Rattle.ss_answers.proofs.line.behind.Goals as goal

behind_space : (text beginning middle : List ℕ) (r : Option (Bor (List ℕ))) (P : Type 0) → text ≡ beginning ++ middle
    → MatchOption r P (λ rest. middle ≡ (sp ∷ []) ++ rest.now) → MatchOption r (Unit {0}) (λ rest. text ≡ beginning ++ sp ∷ rest.now)
behind_space text beginning middle None P begins h = tt
behind_space text beginning middle (Some rest) P begins h = begins ∙ ap (λ t. beginning ++ t) h

pub returns : goal.returns
returns c =
    let front = strip_prefix_is Decides-eqb c.args.text.now c.args.beginning.now _ c.strip_prefix.ensures.cases in
    let begins : c.args.text.now ≡ c.args.beginning.now ++ c.in_ok-strip_prefix.field-0.now = rw c.in_ok-strip_prefix.was at front in
    let next = strip_prefix_is Decides-eqb c.in_ok-strip_prefix.field-0.now (sp ∷ []) _ c.strip_prefix-2.ensures.cases in
    behind_space _ _ _ _ _ begins next
