-- The exit status of what a run comes to.
use Rattle.std.proofs.Common.{◌≡◌, ◌∙◌, ◌⊎◌, ◌≤◌, ℕ, List, Option, Some, None, Result, Ok, Err, ap, refl, subst, inl, inr, arith}
use Rattle.clap.specs.Words.{IsAmong, Kinds, Row, Text, kind_of}
use Rattle.clap.specs.declared.error.kind.ErrorKind.{ErrorKind}
use Rattle.clap.specs.declared.error.kind.ErrorKind.TheVariants as kinds
use Rattle.clap.specs.declared.parser.matches.ArgMatches.{ArgMatches}
use Rattle.ss_frame.specs.Watched.{Sink}
use Rattle.ss_report.specs.declared.verdict.verdict.Verdict.{Verdict}
use Rattle.ss_report.specs.declared.verdict.verdict.Verdict.TheVariants.{Clean, Findings}
use Rattle.ssign.specs.CommandLine.{AreMistaken, IsUsageFault, order_in, status_of}
use Rattle.ssign.specs.GivenFiles.{Files}
use Rattle.ssign.specs.Outcome.{IsKindOf, IsRefused, RunsNamed, RunsOrder, RunsWords, silent, status_of_kind}
use Rattle.ssign.specs.declared.command_line.Order.{Order}
use Rattle.ssign.specs.declared.explanations.Tables.{Tables}
use Rattle.ssign.specs.declared.outcome.Outcome.{Outcome}
use Rattle.ssign.specs.declared.refusal.Refusal.{Refusal}

-- ---- what clap says

-- only help and the version don't end with 2
asked_or_refused : (k : ErrorKind) → ((k ≡ kinds.DisplayHelp) ⊎ (k ≡ kinds.DisplayVersion)) ⊎ (status_of_kind k ≡ 2)
asked_or_refused kinds.InvalidValue = inr refl
asked_or_refused kinds.UnknownArgument = inr refl
asked_or_refused kinds.InvalidSubcommand = inr refl
asked_or_refused kinds.NoEquals = inr refl
asked_or_refused kinds.ValueValidation = inr refl
asked_or_refused kinds.TooManyValues = inr refl
asked_or_refused kinds.TooFewValues = inr refl
asked_or_refused kinds.WrongNumberOfValues = inr refl
asked_or_refused kinds.ArgumentConflict = inr refl
asked_or_refused kinds.MissingRequiredArgument = inr refl
asked_or_refused kinds.MissingSubcommand = inr refl
asked_or_refused kinds.DisplayHelp = inl (inl refl)
asked_or_refused kinds.DisplayHelpOnMissingArgumentOrSubcommand = inr refl
asked_or_refused kinds.DisplayVersion = inl (inr refl)
asked_or_refused kinds.Io = inr refl
asked_or_refused kinds.Format = inr refl
asked_or_refused kinds.OutOfMemory = inr refl

kind_most : (k : ErrorKind) → status_of_kind k ≤ 2
kind_most k = elim (asked_or_refused k) [
  | inl (inl help) ↦ let is : status_of_kind k ≡ 0 = ap status_of_kind help in omega arith
  | inl (inr version) ↦ let is : status_of_kind k ≡ 0 = ap status_of_kind version in omega arith
  | inr is ↦ omega arith
]

-- a mistake ends with 2
mistaken_kind : (allowed : Kinds) (k : ErrorKind) → IsUsageFault allowed → IsKindOf allowed k → status_of_kind k ≡ 2
mistaken_kind allowed k usage (inl among) = elim (asked_or_refused k) [
  | inl (inl help) ↦ absurd (usage.1 (subst (λ (kind : ErrorKind). IsAmong kind allowed) help among))
  | inl (inr version) ↦ absurd (usage.2 (subst (λ (kind : ErrorKind). IsAmong kind allowed) version among))
  | inr is ↦ is
]
mistaken_kind allowed k usage (inr (unknown, is)) = ap status_of_kind is

-- ---- what runs come to

ended_most : (ended : Result Verdict Refusal) → status_of ended ≤ 2
ended_most (Ok Clean) = omega arith
ended_most (Ok Findings) = omega arith
ended_most (Err refusal) = omega arith

module _ (old new : Files) (tables : Tables) (known : Option (List ℕ)) (kept : List ℕ) (was is : Sink) (o : Outcome) where
  silent_most : o ≡ silent → o.status ≤ 2
  silent_most e = let two : o.status ≡ 2 = ap (λ (x : Outcome). x.status) e in omega arith

  order_most : (m : ArgMatches) (order : Option Order) → RunsOrder old new tables m order known kept was is o → o.status ≤ 2
  order_most m (Some order) runs =
      let status : o.status ≡ status_of runs.ended = runs.outcome.status in
      omega (arith, ended_most runs.ended)
  order_most m None runs = silent_most runs.0

  named_most : (named : Option (Text × List Row)) → RunsNamed old new tables named known kept was is o → o.status ≤ 2
  named_most (Some (name, rows)) runs = order_most runs.options (order_in name) runs.runs
  named_most None runs = silent_most runs.0

  refused_most : (words : List (List ℕ)) → IsRefused words o → o.status ≤ 2
  refused_most words (inl memory) = let two : o.status ≡ 2 = memory.status in omega arith
  refused_most words (inr mistaken) =
      let told : o.status ≡ status_of_kind (kind_of mistaken.told.fault) = ap (λ (x : Outcome). x.status) mistaken.told.outcome in
      omega (arith, kind_most (kind_of mistaken.told.fault))

  pub words_most : (words : List (List ℕ)) → RunsWords old new tables words known kept was is o → o.status ≤ 2
  words_most words (inl (named, taken, runs)) = named_most named runs
  words_most words (inr (refused, untouched, unopened)) = refused_most words refused

  refused_usage : (words : List (List ℕ)) → AreMistaken words → IsRefused words o → o.status ≡ 2
  refused_usage words mistakes (inl memory) = memory.status
  refused_usage words mistakes (inr mistaken) =
      ap (λ (x : Outcome). x.status) mistaken.told.outcome
      ∙ mistaken_kind _ (kind_of mistaken.told.fault) (mistakes mistaken.versions mistaken.are_versions) mistaken.told.kind

  pub words_usage : (words : List (List ℕ)) → AreMistaken words → RunsWords old new tables words known kept was is o → o.status ≡ 2
  words_usage words mistakes (inl (named, taken, runs)) =
      absurd ((mistakes taken.versions taken.are_versions).0 taken.no_fault)
  words_usage words mistakes (inr (refused, untouched, unopened)) = refused_usage words mistakes refused
