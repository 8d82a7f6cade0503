use Rattle.ss_payload.proofs.FragmentLaws.{octets_are_of_fragments}
use Rattle.ss_payload.proofs.laws.joining.octets_are_of_fragments.Goals as goal

pub returns : goal.returns
returns c = octets_are_of_fragments
