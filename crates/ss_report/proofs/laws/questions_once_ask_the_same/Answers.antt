use Rattle.ss_report.proofs.of_writing.OnceRead as laws
use Rattle.ss_report.proofs.laws.questions_once_ask_the_same.Goals as goal

pub returns : goal.returns
returns c = laws.ask_the_same
