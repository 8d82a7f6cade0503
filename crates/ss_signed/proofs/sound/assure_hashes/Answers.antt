use Rattle.std.proofs.Common.{sym, subst, arith}
use Rattle.std.specs.List.{All}
use Rattle.std.proofs.lemmas.List.{take_all, take_more}
use Rattle.std.proofs.lemmas.List.Elements.{All-push}
use Rattle.ss_block.specs.WritingLaws.{IsHash}
use Rattle.ss_signed.proofs.sound.assure_hashes.Goals as goal

pub loop-hash-preserved : goal.loop-hash-preserved
loop-hash-preserved c =
    subst (All IsHash) (sym (take_more c.args.hashes.now c.loop-hash.hash-index _ c.loop-hash-test.true)) (All-push IsHash _ _ c.loop-hash.invariant c.assure_hash.ensures)

pub returns : goal.returns
returns c = subst (All IsHash) (take_all c.loop-hash.hash-index c.args.hashes.now (omega arith)) c.loop-hash.invariant
