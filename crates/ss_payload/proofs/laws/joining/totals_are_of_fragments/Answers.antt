use Rattle.ss_payload.proofs.FragmentLaws.{totals_are_of_fragments}
use Rattle.ss_payload.proofs.laws.joining.totals_are_of_fragments.Goals as goal

pub returns : goal.returns
returns c = totals_are_of_fragments
