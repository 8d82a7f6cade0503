use Rattle.std.proofs.Common.{◌≡◌, ◌≢◌, ◌∙◌, refl, sym, subst, inl, inr}
use Rattle.clap.specs.Words.{HasKind, IsAmong, Kinds, kind_of}
use Rattle.clap.specs.declared.error.Error.{Error}
use Rattle.clap.specs.declared.error.kind.ErrorKind.{ErrorKind}
use Rattle.clap.specs.declared.error.kind.ErrorKind.TheVariants as kinds
use Rattle.ssign.proofs.program.outcome_of_words.Goals as goal

-- memory didn't run out
among : (allowed : Kinds) (fault : Error) (kind : ErrorKind) → HasKind allowed fault → kind_of fault ≡ kind → kind ≢ kinds.OutOfMemory
    → IsAmong kind allowed
among allowed fault kind (inl memory) is other = absurd (other (sym is ∙ memory))
among allowed fault kind (inr one) is other = subst (λ (k : ErrorKind). IsAmong k allowed) is one

-- a word that is no option isn't that
unknown_is_other : kinds.UnknownArgument ≢ kinds.OutOfMemory
unknown_is_other e = cc

pub returns-in-Some : goal.returns-in-Some
returns-in-Some c = λ allowed has. inr (record {
  fault = c.in-Some.other;
  kind = inr (among allowed c.args.fault _ has (sym c.kind.ensures ∙ c.in-UnknownArgument.is) unknown_is_other, c.in-Some.ensures);
  outcome = c.outcome_of_fault.ensures;
})

pub returns-in-UnknownArgument : goal.returns-in-UnknownArgument
returns-in-UnknownArgument c = λ allowed has. inr (record {
  fault = c.args.fault;
  kind = inl (among allowed c.args.fault _ has refl (λ e. unknown_is_other (sym c.in-UnknownArgument.is ∙ c.kind.ensures ∙ e)));
  outcome = c.outcome_of_fault-in-None.ensures;
})

pub returns : goal.returns
returns c = λ allowed has. inr (record {
  fault = c.args.fault;
  kind = inl (among allowed c.args.fault _ has refl (λ e. c.in_default.not-OutOfMemory (c.kind.ensures ∙ e)));
  outcome = c.outcome_of_fault-in_default.ensures;
})
