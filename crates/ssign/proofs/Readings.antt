-- What the clauses of `limits_of` and `reading_of` give together.
use Rattle.std.proofs.Common.{◌≡◌, Bool, true, false, Some, None, codes, refl, subst}
use Rattle.clap.specs.declared.parser.matches.ArgMatches.{ArgMatches}
use Rattle.ss_frame.specs.Limits.{Allowance}
use Rattle.ss_frame.specs.declared.limits.Form.{Form}
use Rattle.ss_frame.specs.declared.limits.Form.TheVariants.{Frames, Lines}
use Rattle.ss_report.specs.declared.log.read_options.ReadOptions.{ReadOptions}
use Rattle.ssign.specs.CommandLine.{form_of, is_given, reading, reading_in}
use Rattle.ssign.specs.LogOrder.{AreSalvagedLines, GivesLimits, IsReading}

-- a log is read on after damage as the flag says
salvage_kept : (form : Form) (l : Allowance) (given : Bool) (r : ReadOptions) → Some r ≡ reading_in form l given → r.salvage ≡ given
salvage_kept Lines l true r e = cc
salvage_kept Lines l false r e = cc
salvage_kept Frames l given r e = cc

-- lines aren't read so
no_lines : (form : Form) (l : Allowance) (r : ReadOptions) (lines_given : Bool) → form ≡ form_of lines_given → Some r ≡ reading_in form l true
    → lines_given ≡ false
no_lines Lines l r lines_given same e = cc
no_lines Frames l r true same e = cc
no_lines Frames l r false same e = refl

-- if a log isn't read, both flags are given
both_given : (form : Form) (l : Allowance) (salvage_given lines_given : Bool) → form ≡ form_of lines_given → None ≡ reading_in form l salvage_given
    → (salvage_given ≡ true) × (lines_given ≡ true)
both_given Lines l true true same e = (refl, refl)
both_given Lines l true false same e = cc
both_given Lines l false lines_given same e = cc
both_given Frames l salvage_given lines_given same e = cc

pub reading_given : (m : ArgMatches) (l : Allowance) (r : ReadOptions) → GivesLimits m (Some l)
    → Some r ≡ reading l (is_given m (codes "salvage"))
    → r.limits ≡ l
    → IsReading m r
reading_given m l r limits value same = record {
  limits = rw same limits;
  salvaged = salvage_kept l.form l (is_given m (codes "salvage")) r value;
  frames = λ is_salvage. no_lines l.form l r (is_given m (codes "lines")) limits.3
      (subst (λ (salvage_given : Bool). Some r ≡ reading l salvage_given) is_salvage value);
}

pub salvaged_lines : (m : ArgMatches) (l : Allowance) → GivesLimits m (Some l)
    → None ≡ reading l (is_given m (codes "salvage"))
    → AreSalvagedLines m
salvaged_lines m l limits value =
    both_given l.form l (is_given m (codes "salvage")) (is_given m (codes "lines")) limits.3 value
