use Rattle.std.proofs.Common.{◌≡◌, ◌∙◌, true, [], map, ap, refl, subst, inl, inr}
use Rattle.clap.specs.Words.{App, HasKind, app_of, fault_of, is_simple, is_simple_and_free, subcommand_of}
use Rattle.clap.proofs.OnLiterals.{clap_on_literals}
use Rattle.ssign.specs.CommandLine.{ssign_app}
use Rattle.ssign.specs.Options.{Kept}
use Rattle.ssign.proofs.program.parsed.Goals as goal

-- clap reports each fault of the program's commands
is_told : (versions : Kept) → is_simple_and_free (ssign_app versions) ≡ true
unfolding clap_on_literals
is_told versions = refl

-- and its definition gives their matches
has_matches : (versions : Kept) → is_simple (ssign_app versions) ≡ true
unfolding clap_on_literals
has_matches versions = refl

pub returns-in_default : goal.returns-in_default
returns-in_default c = inl c.out_of_memory.ensures

pub returns-in-Ok-try_get_matches_from : goal.returns-in-Ok-try_get_matches_from
returns-in-Ok-try_get_matches_from c =
    let versions = c.in-Ok.ensures.0 in
    let is : app_of c.in-Ok.command ≡ ssign_app versions = c.in-Ok.ensures.2 in
    let words = map (λ word. word.bytes.items) c.args.words.now in
    record {
      versions = versions;
      are_versions = c.in-Ok.ensures.1;
      no_fault = subst (λ (a : App). fault_of a words ≡ []) is
          (c.in-Ok-try_get_matches_from.ensures.kinds (ap is_simple_and_free is ∙ is_told versions));
      names = (c.in-Ok-try_get_matches_from.ensures.matches (ap is_simple is ∙ has_matches versions)).1
          ∙ ap (λ (a : App). subcommand_of a words) is;
    }

pub returns-in-Err : goal.returns-in-Err
returns-in-Err c =
    let versions = c.in-Ok.ensures.0 in
    let is : app_of c.in-Ok.command ≡ ssign_app versions = c.in-Ok.ensures.2 in
    let words = map (λ word. word.bytes.items) c.args.words.now in
    let fails : HasKind (fault_of (ssign_app versions) words) c.in-Err.fault =
    subst (λ (a : App). HasKind (fault_of a words) c.in-Err.fault) is
    (c.in-Err.ensures.kinds (ap is_simple_and_free is ∙ is_told versions)) in
    elim (c.outcome_of_words.ensures (fault_of (ssign_app versions) words) fails) [
      | inl memory ↦ inl memory
      | inr told ↦ inr (record { versions = versions; are_versions = c.in-Ok.ensures.1; told = told })
    ]
