-- Why a refused block isn't to be ignored, and which blocks aren't.
use Rattle.std.proofs.Common.{◌≡◌, ℕ, ◌+◌, ◌<◌, Bool, true, false, cond, not, List, [], ◌∷◌, ◌++◌, length, get_or, take, filter_map, refl, sym, ap, ◌∙◌}
use Rattle.std.specs.Prelude.{Option, Some, None, option_map}
use Rattle.std.specs.List.{cons_option}
use Rattle.std.proofs.lemmas.List.{take_more}
use Rattle.std.proofs.lemmas.List.Elements.{filter_map-append}
use Rattle.ss_review.specs.declared.keep.log_blocks.LogBlock.{LogBlock}
use Rattle.ss_review.specs.declared.report.report.Report.{Report}
use Rattle.ss_report.specs.declared.strangers.suspects.Suspect.{Suspect}
use Rattle.ss_report.specs.declared.strangers.suspects.Suspicion.{Suspicion}
use Rattle.ss_report.specs.declared.strangers.suspects.Suspicion.TheVariants as suspicions
use Rattle.ss_report.specs.runs.Carrying.{is_joined_in}
use Rattle.ss_report.specs.strangers.Strangers.{is_reached, is_verified, suspect, suspect_at, suspicion_of}

module _ (bs : List LogBlock) (r : Report) (b : LogBlock) where
  abbrev by : (joined reached : Bool) → Option Suspicion
  by joined reached = cond (not joined) (Some suspicions.Unjoined) (cond reached None (Some suspicions.Late))

  pub unsuspected : is_joined_in r b.session ≡ true → is_reached r.sessions r.refused bs b.session b.parameters ≡ true → None ≡ suspicion_of bs r b
  unsuspected joined reached = λ i. by (sym joined i) (sym reached i)

  pub late : is_joined_in r b.session ≡ true → is_reached r.sessions r.refused bs b.session b.parameters ≡ false → Some suspicions.Late ≡ suspicion_of bs r b
  late joined reached = λ i. by (sym joined i) (sym reached i)

  pub suspected : (why : Option Suspicion) → is_verified r.refused b ≡ false → why ≡ suspicion_of bs r b → option_map (suspect b.place) why ≡ suspect_at bs r b
  suspected why refused is = λ i. cond (sym refused i) None (option_map (suspect b.place) (is i))

pub suspects_more : (at : LogBlock → Option Suspect) (bs : List LogBlock) (i : ℕ) (b : LogBlock) → i < length bs → b ≡ get_or bs i b
    → filter_map at (take i bs) ++ cons_option (at b) [] ≡ filter_map at (take (i + 1) bs)
suspects_more at bs i b within is =
    ap (λ (x : LogBlock). filter_map at (take i bs) ++ cons_option (at x) []) is
    ∙ sym (ap (filter_map at) (take_more bs i b within) ∙ filter_map-append at (take i bs) (get_or bs i b ∷ []))
