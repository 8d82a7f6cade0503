use Rattle.std.proofs.Common.{sym, ◌∙◌}
use Rattle.ss_report.proofs.of_writing.Writings.{writes_same}
use Rattle.ss_report.proofs.of_writing.EscapedText.{nothing_escaped}
use Rattle.ss_report.proofs.records.escaped.write_escaped.Goals as goal

pub returns-else-has_escaped : goal.returns-else-has_escaped
returns-else-has_escaped g c =
    let none = sym c.has_escaped.ensures ∙ c.if-has_escaped.false in
    writes_same _ _ _ _ c.write_text.ensures (sym (nothing_escaped c.args.octets.now none))
