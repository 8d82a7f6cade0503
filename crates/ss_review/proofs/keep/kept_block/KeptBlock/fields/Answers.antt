use Rattle.std.proofs.Common.{sym, subst}
use Rattle.ss_review.specs.declared.keep.kept_block.KeptFields.{KeptFields}
use Rattle.ss_review.specs.keep.KeptFields.{AreFieldsOf}
use Rattle.ss_review.proofs.of_kept_messages.Fields.{fields_of}
use Rattle.ss_review.proofs.keep.kept_block.KeptBlock.fields.Goals as goal

pub returns : goal.returns
returns c =
    let f : KeptFields = c.self.inside.fields.value in
    subst (λ g. AreFieldsOf g c.args.self.now) (sym c.deref.ensures) (subst (AreFieldsOf f) c.self.view_is (fields_of f c.self.invariant))
