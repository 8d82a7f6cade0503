-- What the clauses of `limits_of` give together.
use Rattle.std.proofs.Common.{ℕ, Option, Some, None, ap, codes}
use Rattle.std.specs.Prelude.{IfSome}
use Rattle.std.specs.Option.{SomeIff}
use Rattle.clap.specs.declared.parser.matches.ArgMatches.{ArgMatches}
use Rattle.ss_frame.specs.Limits.{Allowance, InRange}
use Rattle.ssign.specs.CommandLine.{HasNumber, is_given, limits_with}
use Rattle.ssign.specs.LogOrder.{GivesLimits}

pub limits_given : (m : ArgMatches) (limits : Option Allowance)
    → ((a b : ℕ) → HasNumber m (codes "max-len") a → HasNumber m (codes "max-messages") b → SomeIff limits (InRange a b) (limits_with a b (is_given m (codes "lines"))))
    → IfSome limits (λ l. HasNumber m (codes "max-len") l.max_len × HasNumber m (codes "max-messages") l.max_messages)
    → GivesLimits m limits
limits_given m None value numbers = value
limits_given m (Some l) value numbers =
    let at = value l.max_len l.max_messages numbers.0 numbers.1 in
    (numbers.0, numbers.1, at.0, ap (λ (x : Allowance). x.form) at.1)
