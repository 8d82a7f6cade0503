use Rattle.std.proofs.Common.{◌≤◌, length, sym, arith}
use Rattle.std.proofs.lemmas.List.{take_all}
use Rattle.ss_report.specs.texts.Facts.{longest_text}
use Rattle.ss_report.proofs.texts.facts.front.Goals as goal

pub returns-else-text-gt-LONGEST_TEXT : goal.returns-else-text-gt-LONGEST_TEXT
returns-else-text-gt-LONGEST_TEXT c =
    let least : length c.args.text.now ≤ longest_text = omega (arith, c.if-text-gt-LONGEST_TEXT.false) in
    sym (take_all longest_text c.args.text.now least)
