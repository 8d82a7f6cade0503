use Rattle.ss_laws.proofs.of_carry.AlikeAnswers.{night_alike}
use Rattle.ss_laws.proofs.carry.answers.nights_by_own_answers.Goals as goal

pub returns : goal.returns
returns c = λ says own x last agree night low. night_alike says (own night) x night (agree night low)
