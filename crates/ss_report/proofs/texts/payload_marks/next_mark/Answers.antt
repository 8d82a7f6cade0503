use Rattle.std.proofs.Common.{◌≡◌, ◌+◌, None, sym, ap, ◌∙◌, cond}
use Rattle.std.specs.Option.{is_some}
use Rattle.std.specs.BTreeMap.{btree_map_len}
use Rattle.ss_report.specs.texts.KnownPayloads.{found_in}
use Rattle.ss_report.proofs.of_writing.KnownSoFar.{marked_again, marked_new}
use Rattle.ss_report.proofs.texts.payload_marks.next_mark.Goals as goal

pub returns-in-Some : goal.returns-in-Some
returns-in-Some c = λ ps knows.
    marked_again c.args.known.now ps c.args.payload.now c.in-Some.index knows (sym c.get.ensures.value ∙ sym c.copied.ensures ∙ c.in-Some.is)

pub returns-in_ok-insert-in-None : goal.returns-in_ok-insert-in-None
returns-in_ok-insert-in-None c = λ ps knows.
    let m = c.args.known.now in
    let absent : found_in m c.args.payload.now ≡ None = sym c.get.ensures.value ∙ sym c.copied.ensures ∙ c.in-None.is in
    let more : btree_map_len c.insert.new.self ≡ btree_map_len m + 1 =
    c.in_ok-insert-in-None.ensures.len ∙ ap (λ o. btree_map_len m + cond (is_some o) 0 1) (c.in_ok-insert-in-None.ensures.old ∙ absent) in
    marked_new m c.insert.new.self ps c.args.payload.now c.len-index.result knows absent c.len-index.ensures.len c.in_ok-insert-in-None.ensures.updates more
