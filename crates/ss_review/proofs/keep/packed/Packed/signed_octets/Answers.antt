use Rattle.std.proofs.Common.{◌++◌, length, ap, length-append, arith}
use Rattle.std.proofs.lemmas.List.{length-take, length-drop}
use Rattle.ss_block.specs.Writing.{hashes_text}
use Rattle.ss_review.specs.keep.Packed.{kept_packed, array_long, array_on, front_packed, back_packed, hashes_packed}
use Rattle.ss_review.proofs.keep.packed.Packed.signed_octets.Goals as goal

pub returns : goal.returns
returns c =
    let p = c.args.self.now in
    omega (
      arith,
      length-append (front_packed p) (hashes_text (hashes_packed p) ++ back_packed p),
      length-append (hashes_text (hashes_packed p)) (back_packed p),
      length-take p.start (kept_packed p),
      length-drop p.start (kept_packed p),
      length-drop (array_long p) (array_on p),
      ap length c.kept.ensures,
    )
