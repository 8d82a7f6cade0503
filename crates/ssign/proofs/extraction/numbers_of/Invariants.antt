use Rattle.std.proofs.Common.{take}
use Rattle.ssign.specs.Extraction.{SpellNumbers}
use Rattle.ssign.proofs.SpelledNumbers.{texts}
use Rattle.ssign.proofs.extraction.numbers_of.Given as goal

abbrev pub invariant-loop-text : goal.invariant-loop-text
invariant-loop-text l = SpellNumbers (texts (take l.text-index l.texts)) l.numbers.items
