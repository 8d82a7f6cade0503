use Rattle.std.proofs.Common.{ap, sym, ◌∙◌}
use Rattle.std.specs.Prelude.{slice_get}
use Rattle.std.specs.Option.{option_and_then}
use Rattle.ss_report.proofs.of_reading.PickedAt.{lf_found}
use Rattle.ss_report.proofs.runs.selecting.place_with_lf.Goals as goal

pub returns-in-Some : goal.returns-in-Some
returns-in-Some c = λ messages are. c.place_at.ensures ∙ sym (lf_found messages _ _ are ∙ ap (option_and_then (slice_get c.args.places.now)) (sym c.index_with_lf.ensures ∙ c.in-Some.is))

pub returns-in-None : goal.returns-in-None
returns-in-None c = λ messages are. sym (lf_found messages _ _ are ∙ ap (option_and_then (slice_get c.args.places.now)) (sym c.index_with_lf.ensures ∙ c.in-None.is))
