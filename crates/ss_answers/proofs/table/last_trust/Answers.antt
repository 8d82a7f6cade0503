use Rattle.std.proofs.Common.{◌∷◌, sym, ap, ◌∙◌, subst}
use Rattle.ss_answers.specs.Answers.{last_trust}
use Rattle.ss_answers.specs.AnswerLine.{IsInOrder, answer_at, answers_at}
use Rattle.ss_answers.proofs.TrustedPayloads.{last_of_all}
use Rattle.ss_answers.proofs.table.last_trust.Goals as goal

pub returns-else-trusts : goal.returns-else-trusts
returns-else-trusts c =
    let bytes = c.args.octets.now in
    let first = c.args.first.now in
    let payload = c.in_ok-payload.payload.now in
    let is = c.in-Some.ensures.cases.0 in
    let order = subst (λ others. IsInOrder bytes (first ∷ others)) is c.requires in
    let trusted = sym c.in_ok-payload.ensures in
    let other = sym c.trusts.ensures ∙ c.if-trusts.false in
    sym (ap (λ others. last_trust (answer_at bytes first) (answers_at bytes others)) is
    ∙ last_of_all bytes first c.in-Some.next.now c.in-Some.field-0-1.now payload order trusted other)
