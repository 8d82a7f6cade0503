-- The command that matches name.
use Rattle.std.proofs.Common.{◌≡◌, ℕ, List, Option, Some, None}
use Rattle.std.specs.Prelude.{Box, option_map}
use Rattle.std.specs.Box.{box_value}
use Rattle.clap.specs.Words.{Row, subcommand_name_of, subcommand_rows_of}
use Rattle.clap.specs.Simple.{subcommand_rows}
use Rattle.clap.specs.declared.parser.matches.ArgMatches.{ArgMatches}
use Rattle.clap.specs.declared.parser.matches.ArgMatches.TheViews.{out-ArgMatches, out-SubCommand}
use Rattle.clap.specs.declared.parser.matches.SubCommand.{SubCommand}

-- a name and rows are those of the command
are_rows : {Z : Type 0} (found : Option (Box SubCommand Z)) (name : List ℕ) (rows : List Row)
    → Some name ≡ option_map (λ b. (out-SubCommand (box_value b)).name.now) found
    → Some rows ≡ option_map (λ p. p.1) (subcommand_rows found) → subcommand_rows found ≡ Some (name, rows)
are_rows None name rows e f = cc
are_rows (Some b) name rows e f = cc

pub is_named : (m : ArgMatches) (name : List ℕ) (rows : List Row) → Some name ≡ subcommand_name_of m
    → Some rows ≡ option_map (λ p. p.1) (subcommand_rows_of m) → subcommand_rows_of m ≡ Some (name, rows)
is_named m = are_rows (out-ArgMatches m).subcommand

-- no rows are those of no command
no_rows : {Z : Type 0} (found : Option (Box SubCommand Z)) → None ≡ option_map (λ p. p.1) (subcommand_rows found) → subcommand_rows found ≡ None
no_rows None e = cc
no_rows (Some b) e = cc

pub is_unnamed : (m : ArgMatches) → None ≡ option_map (λ p. p.1) (subcommand_rows_of m) → subcommand_rows_of m ≡ None
is_unnamed m = no_rows (out-ArgMatches m).subcommand
