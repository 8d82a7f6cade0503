use Rattle.ss_review.proofs.of_assignment.ListedHashes.{entry_place}
use Rattle.ss_review.proofs.assign.hash_list.HashList.place.Goals as goal

pub returns : goal.returns
returns c = λ stored here. entry_place c.args.self.now.pairs.now c.args.self.now.entries.now c.args.index _ stored here
