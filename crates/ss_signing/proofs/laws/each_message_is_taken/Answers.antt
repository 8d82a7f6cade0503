use Rattle.ss_signing.proofs.Wrapped.{ahead_takes_each, planning_takes_each, signing_takes_each}
use Rattle.ss_signing.proofs.laws.each_message_is_taken.Goals as goal

pub returns : goal.returns
returns g c = record {
  signed = signing_takes_each g.J.Seals.answers;
  planned = planning_takes_each;
  ahead = ahead_takes_each;
}
