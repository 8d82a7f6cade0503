use Rattle.std.proofs.Common.{◌≡◌, true}
use Rattle.ss_octets.specs.StrictBase64.{octets_in}
use Rattle.ss_block.specs.declared.hash.Alg.TheVariants as algs
use Rattle.ss_block.proofs.HashTexts.{spells_none}
use Rattle.ss_block.proofs.hash_text.hash_in.Goals as goal

pub returns-else-fills : goal.returns-else-fills
returns-else-fills c =
    let no = c.if-fills.false in
    rw c.in-Sha1.is (spells_none algs.Sha1 (octets_in c.args.text.now) (λ b long e. let yes : c.fills.result ≡ true = c.fills.ensures.only b long e in absurd cc))

pub returns-else-fills-2 : goal.returns-else-fills-2
returns-else-fills-2 c =
    let no = c.if-fills-2.false in
    rw c.in-Sha256.is (spells_none algs.Sha256 (octets_in c.args.text.now) (λ b long e. let yes : c.fills-in-Sha256.result ≡ true = c.fills-in-Sha256.ensures.only b long e in absurd cc))
