use Rattle.std.proofs.Common.{ℕ, List, subst, sym}
use Rattle.ss_frame.specs.Frame.{frames}
use Rattle.ss_journal.specs.Law.{begin}
use Rattle.ss_journal.specs.Front.{IsFrontOf}
use Rattle.ss_journal.specs.Records.{records}
use Rattle.ss_journal.proofs.Fronts.{front_frames, front_longer}
use Rattle.ss_journal.proofs.Records.{splits}
use Rattle.ss_journal.proofs.Lives.{at_begin, run_right, left_right}
use Rattle.ss_journal.proofs.laws.lives.after_lives.Goals as goal

pub returns-clause-confirmed : goal.returns-clause-confirmed
returns-clause-confirmed c es w i run left =
    let s = splits (i.octets w.file) in
    let front = (left_right w (records (i.octets w.file)) (run_right begin es w at_begin run) left.front left.kept).confirmed in
    subst (λ (l : List ℕ). IsFrontOf (frames w.confirmed) l) (sym s.is) (front_longer (frames w.confirmed) (frames (records (i.octets w.file))) s.torn (front_frames w.confirmed (records (i.octets w.file)) front))

pub returns-clause-stored : goal.returns-clause-stored
returns-clause-stored c es w i run left = (left_right w (records (i.octets w.file)) (run_right begin es w at_begin run) left.front left.kept).stored

pub returns-clause-order : goal.returns-clause-order
returns-clause-order c es w i run left = (left_right w (records (i.octets w.file)) (run_right begin es w at_begin run) left.front left.kept).in_order

pub returns-clause-closed : goal.returns-clause-closed
returns-clause-closed c es w i run left = left.rest
