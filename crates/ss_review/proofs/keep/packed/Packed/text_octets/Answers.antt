use Rattle.std.proofs.Common.{◌≡◌, ℕ, ◌+◌, ◌*◌, ◌-◌, ◌≤◌, ◌<◌, sym, ap, ◌∙◌, arith, length-drop}
use Rattle.ss_block.specs.declared.hash.Alg.{Alg}
use Rattle.ss_block.specs.declared.hash.Alg.TheVariants as algs
use Rattle.ss_review.specs.keep.Packed.{kept_packed, array_on}
use Rattle.ss_review.proofs.of_kept_messages.Packing.{hashes_long, text_long}
use Rattle.ss_review.proofs.keep.packed.Packed.text_octets.Goals as goal

few_of : (alg : Alg) (count : ℕ) → count < 256 → count * (text_long alg + 1) - 1 ≤ 11475
few_of algs.Sha1 count few = omega arith
few_of algs.Sha256 count few = omega arith

module _ (c : goal.After-saturating_sub) where
  result_is : c.saturating_sub.result ≡ c.args.self.now.count * (text_long c.args.self.now.alg + 1) - 1
  result_is =
      c.saturating_sub.ensures ∙ ap (λ n. c.args.self.now.count * (n + 1) - 1) c.text_octets-each.ensures

pub returns-clause-long : goal.returns-clause-long
returns-clause-long c =
    let p = c.args.self.now in
    result_is c ∙ sym (hashes_long p.alg p.count (array_on p) (omega (arith, length-drop p.start (kept_packed p), c.requires)))

pub returns-clause-few : goal.returns-clause-few
returns-clause-few c = omega (arith, result_is c, few_of c.args.self.now.alg c.args.self.now.count (omega arith))
