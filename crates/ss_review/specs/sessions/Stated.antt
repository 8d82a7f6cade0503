-- What certificate blocks state together, as a joiner that is given one after the other has it.
use Rattle.std.specs.Prelude.{List, fold}
use Rattle.ss_payload.specs.declared.joiner.JoinState.{JoinState}
use Rattle.ss_payload.specs.declared.joiner.JoinState.TheVariants.{Incomplete, Disputed, Whole}
use Rattle.ss_block.specs.Block as block
use Rattle.ss_block.specs.Joining.{Stated, nothing_stated, with_fragment}
use Rattle.ss_review.specs.declared.report.session_report.SessionState.{SessionState}
use Rattle.ss_review.specs.declared.report.session_report.SessionState.TheVariants as states

-- what is stated once these fragments are there too
abbrev pub stated_after : Stated → List block.Certificate → Stated
stated_after stated cs = fold (λ s c. with_fragment s c.total c.index c.fragment) stated cs

abbrev pub stated_in_turn : List block.Certificate → Stated
stated_in_turn cs = stated_after nothing_stated cs

-- the state of a session whose payload isn't whole
abbrev pub unjoined : JoinState → SessionState
unjoined Disputed = states.Disputed
unjoined Incomplete = states.Incomplete
unjoined Whole = states.Incomplete
