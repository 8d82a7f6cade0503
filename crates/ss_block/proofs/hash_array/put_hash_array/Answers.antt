use Rattle.std.proofs.lemmas.List.Elements.{recursion_from_All}
use Rattle.ss_block.specs.WritingLaws.{IsHash}
use Rattle.ss_block.proofs.HashArrays.{is_array}
use Rattle.ss_block.proofs.hash_array.put_hash_array.Goals as goal

pub returns-in_err-reserve-clause-array : goal.returns-in_err-reserve-clause-array
returns-in_err-reserve-clause-array c = is_array c.args.alg c.args.hashes.now c.requires (recursion_from_All IsHash c.args.hashes.now c.assure_hashes.ensures)

pub returns-in_err-extend_from_slice-clause-array : goal.returns-in_err-extend_from_slice-clause-array
returns-in_err-extend_from_slice-clause-array c = is_array c.args.alg c.args.hashes.now c.requires (recursion_from_All IsHash c.args.hashes.now c.assure_hashes.ensures)

pub returns-clause-array : goal.returns-clause-array
returns-clause-array c = is_array c.args.alg c.args.hashes.now c.requires (recursion_from_All IsHash c.args.hashes.now c.assure_hashes.ensures)
