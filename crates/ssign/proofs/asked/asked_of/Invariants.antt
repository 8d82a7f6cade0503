use Rattle.std.proofs.Common.{◌≡◌, drop}
use Rattle.std.specs.Prelude.{map}
use Rattle.ssign.specs.Explanation.{asked_of}
use Rattle.ssign.proofs.asked.asked_of.Given as goal

abbrev pub invariant-loop-text : goal.invariant-loop-text
invariant-loop-text l = asked_of (map (λ text. text.now) l.texts) ≡ asked_of (map (λ text. text.now) (drop l.text-index l.texts))
