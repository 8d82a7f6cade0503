use Rattle.std.proofs.Common.{◌-◌, length, ap, ◌∙◌}
use Rattle.ss_block.specs.HashArrays.{text_more}
use Rattle.ss_review.specs.declared.keep.kept_block.KeptFields.{KeptFields}
use Rattle.ss_review.specs.keep.BlockMessage.{BlockMessage}
use Rattle.ss_review.specs.keep.KeptSender.{places_at}
use Rattle.ss_review.specs.keep.Noted.{signed_kept}
use Rattle.ss_review.specs.keep.Packed.{kept_packed, signed_packed}
use Rattle.ss_review.proofs.of_kept_messages.Fields.{one_alg}
use Rattle.ss_review.proofs.of_kept_messages.Packing.{kept_long}
use Rattle.ss_review.proofs.keep.kept_block.KeptBlock.signed_kept.Goals as goal

pub returns : goal.returns
returns c =
    let f : KeptFields = c.self.inside.fields.value in
    ap length (c.kept.ensures ∙ ap (λ (g : KeptFields). kept_packed g.packed) c.deref.ensures)
    ∙ kept_long f.packed c.self.invariant.hashes
    ∙ ap (λ alg. length (signed_packed f.packed) - text_more alg f.packed.count) (one_alg f.content (places_at f.sender) f.packed)
    ∙ ap (λ (b : BlockMessage). signed_kept b) c.self.view_is
