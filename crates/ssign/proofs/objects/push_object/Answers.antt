use Rattle.std.proofs.Common.{codes, ◌++◌}
use Rattle.ss_report.specs.records.Record.{Text}
use Rattle.ss_report.specs.records.Json.{json_end, json_field, json_head}
use Rattle.ssign.proofs.AddedTexts.{added_then}
use Rattle.ssign.proofs.objects.push_object.Goals as goal

pub returns : goal.returns
returns c =
    let before = c.args.text.now.items in
    let head = json_head (codes "explanation") in
    let table = json_field (codes "table", Text c.args.table.now) in
    let code = json_field (codes "code", Text c.args.entry.now.code.now) in
    let text = json_field (codes "text", Text c.args.entry.now.text.now) in
    let first = added_then before head table c.extend_from_slice.new.self.items c.push_field.new.text.items c.in_ok-extend_from_slice.ensures.items c.in_ok-push_field.ensures in
    let second = added_then before (head ++ table) code c.push_field.new.text.items c.push_field-2.new.text.items first c.in_ok-push_field-2.ensures in
    let third = added_then before (head ++ table ++ code) text c.push_field-2.new.text.items c.push_field-3.new.text.items second c.in_ok-push_field-3.ensures in
    added_then before (head ++ table ++ code ++ text) json_end c.push_field-3.new.text.items c.extend_from_slice-2.new.self.items third c.in_ok-extend_from_slice-2.ensures.items
