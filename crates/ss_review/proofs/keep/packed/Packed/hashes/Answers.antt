use Rattle.std.proofs.Common.{◌≡◌, ap, ◌∙◌, subst}
use Rattle.std.specs.Prelude.{IfOk}
use Rattle.ss_block.specs.HashArrays.{hashes_at}
use Rattle.ss_review.proofs.of_kept_messages.Packing.{first_hashes}
use Rattle.ss_review.proofs.keep.packed.Packed.hashes.Goals as goal

pub returns : goal.returns
returns c =
    let p = c.args.self.now in
    subst (λ hs. IfOk c.array_hashes.result (λ r. r ≡ hs))
    (ap (hashes_at p.alg c.args.first) c.array_on.ensures ∙ first_hashes p.alg c.args.first p.count _ c.requires.within)
    c.array_hashes.ensures
