use Rattle.std.proofs.Common.{subst}
use Rattle.ss_laws.specs.carry.Nights.{night_log, IsJoined}
use Rattle.ss_laws.proofs.carry.counters.enough_of_sessions.Goals as goal

pub returns : goal.returns
returns c = λ says x last leave s night low.
    (let l = leave night low in
    record {
      unjudged = λ b h own n. l.unjudged b h (λ j. n (subst (IsJoined says (night_log x night).blocks) own j));
      certificates = λ index o. l.certificates s index o;
    })
