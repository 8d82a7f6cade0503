use Rattle.ss_laws.proofs.of_nights.LogsTogether.{put_together_is}
use Rattle.ss_laws.proofs.nights.logs_are_put_together.Goals as goal

pub returns : goal.returns
returns c = put_together_is
