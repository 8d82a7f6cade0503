use Rattle.std.proofs.Common.{◌≡◌, ℕ, List, get_or, ap, subst, ◌∙◌}
use Rattle.std.specs.Prelude.{IfOk}
use Rattle.ss_message.specs.declared.message.Parameter.{Parameter}
use Rattle.ss_message.specs.Octets.{part_of}
use Rattle.ss_message.specs.Raw.{meant}
use Rattle.ss_block.specs.Meanings.{octets_of}
use Rattle.ss_block.proofs.Values.{text_is}
use Rattle.ss_block.proofs.texts.text_at.Goals as goal

pub returns : goal.returns
returns c =
    let d : Parameter = record { name = record { start = 0; end = 0 }; value = record { start = 0; end = 0 } } in
    let e = ap meant (c.of.ensures ∙ ap (λ (ps : List Parameter). part_of c.args.source.now (get_or ps c.args.i d).value) c.as_slice.ensures)
    ∙ text_is c.args.source.now c.args.element.now.parameters c.args.i d c.requires.place in
    subst (λ (t : List ℕ). IfOk c.meaning.result (λ m. octets_of m ≡ t)) e c.meaning.ensures
