use Rattle.ss_answers.proofs.TrustedPayloads as payloads
use Rattle.ss_answers.proofs.laws.payloads_are_those_trusted.Goals as goal

pub returns : goal.returns
returns c = payloads.payloads_are_those_trusted
