use Rattle.ssign.proofs.outcome.mistake_of.Goals as goal

pub returns-in-Extraction : goal.returns-in-Extraction
returns-in-Extraction c = rw c.in-Extraction.is (c.extraction_mistake.ensures c.args.options.now)
