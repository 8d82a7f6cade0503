use Rattle.std.proofs.Common.{List, ℕ, ◌++◌, ◌∙◌, sym, ap}
use Rattle.ss_frame.specs.Frame.{frames}
use Rattle.ss_journal.specs.Records.{first_record, records}
use Rattle.ss_journal.proofs.Records.{splits, torn_is}
use Rattle.ss_journal.proofs.laws.records.records_are_frames.Goals as goal

pub returns : goal.returns
returns c octets =
    let s = splits octets in
    let t = torn_is octets in
    (s.is ∙ ap (λ (l : List ℕ). frames (records octets) ++ l) (sym t), s.all, ap first_record t ∙ s.none)
