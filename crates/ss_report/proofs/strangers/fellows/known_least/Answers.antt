use Rattle.std.proofs.Common.{◌≡◌, ℕ, ap, sym, ◌∙◌}
use Rattle.std.specs.List.{list_all}
use Rattle.ss_review.specs.declared.report.session_report.SessionReport.{SessionReport}
use Rattle.ss_report.specs.strangers.Reaches.{at_least, is_below}
use Rattle.ss_report.specs.strangers.Strangers.{all_have, has_verified, same_names}
use Rattle.ss_report.proofs.of_strangers.LeastReach.{agreed, first_passes, joined_ones, known_more}
use Rattle.ss_report.proofs.of_strangers.RaisedReaches.{key_of}
use Rattle.ss_report.proofs.of_strangers.SameNames.{same_agree}
use Rattle.ss_report.proofs.strangers.fellows.known_least.Goals as goal

pub returns-in-Some-copied : goal.returns-in-Some-copied
returns-in-Some-copied c = λ refused bs ss s has knows is.
    let first = c.in-Some.first.now in
    let agree = same_agree first.session s (first_passes (λ (t : SessionReport). same_names t.session s) ss c.args.named.now first c.in-Some.ensures.value is) in
    let found = sym c.get.ensures.value ∙ sym c.copied.ensures ∙ c.in-Some-copied.is in
    (knows, λ x. knows first.session c.args.scale c.in-Some-copied.least found x ∙ agreed ss refused bs c.args.scale x first.session s agree)

pub returns-in_ok-insert-in-None : goal.returns-in_ok-insert-in-None
returns-in_ok-insert-in-None c = λ refused bs ss s has knows is.
    let first = c.in-Some.first.now in
    let scale = c.args.scale in
    let agree = same_agree first.session s (first_passes (λ (t : SessionReport). same_names t.session s) ss c.args.named.now first c.in-Some.ensures.value is) in
    let here : (x : ℕ) → is_below x c.least_reach-least.result ≡ all_have ss refused bs (at_least scale x) s
    = λ x. c.least_reach-least.ensures refused bs has x
    ∙ ap (λ ts. list_all (λ t. has_verified refused bs (at_least scale x) t.session) (joined_ones ts)) is in (
      known_more ss refused bs c.args.known.now c.insert.new.self (key_of first.session scale) c.least_reach-least.result c.in_ok-insert-in-None.ensures.updates knows
          (λ x. here x ∙ sym (agreed ss refused bs scale x first.session s agree)),
      here,
    )
