use Rattle.std.proofs.Common.{◌+◌, ◌&&◌, ◌∙◌, ap, sym}
use Rattle.ss_report.specs.strangers.Strangers.{is_reached}
use Rattle.ss_report.proofs.strangers.suspects.is_reached.Goals as goal

pub returns-in_ok-numbers-in-Signature : goal.returns-in_ok-numbers-in-Signature
returns-in_ok-numbers-in-Signature c = λ refused bs ss s has knows named.
    let it = c.in-Signature in
    let first = c.in_ok-gbcs-in-Signature.ensures refused bs ss s has knows named in
    let second = c.in_ok-numbers-in-Signature.ensures refused bs ss s has first.0 named in (
      second.0,
      rw (c.from.ensures, c.from-in-Signature.ensures, c.from-in-Signature-2.ensures) at c.are_below.ensures
          ∙ (λ i. first.1 it.gbc i && second.1 (it.first + it.count) i)
          ∙ ap (is_reached ss refused bs s) (sym it.is),
    )
