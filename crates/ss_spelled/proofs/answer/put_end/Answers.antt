use Rattle.std.proofs.Common.{◌≡◌, ◌++◌, length}
use Rattle.std.specs.Prelude.{codes, decimal}
use Rattle.ss_spelled.specs.Answers.{end_text, end_object}
use Rattle.ss_spelled.proofs.Lines.{three_parts}
use Rattle.ss_spelled.proofs.answer.put_end.Goals as goal

pub returns : goal.returns
unfolding end_object
returns c =
    let number : c.put_number.new.out.items ≡ c.extend_from_slice.new.self.items ++ decimal (length c.args.spelled.now.texts) = cc (c.in_ok-put_number.ensures.written, c.as_slice.ensures) in
    let end : c.extend_from_slice-2.new.self.items ≡ c.put_number.new.out.items ++ end_text c.args.spelled.now.cut = cc (c.in_ok-extend_from_slice-2.ensures.items, c.end_text.ensures) in
    three_parts c.args.text.now.items (codes "{\"line\":\"spelled\",\"payloads\":") (decimal (length c.args.spelled.now.texts)) (end_text c.args.spelled.now.cut)
    c.extend_from_slice.new.self.items c.put_number.new.out.items c.extend_from_slice-2.new.self.items
    c.in_ok-extend_from_slice.ensures.items number end
