use Rattle.std.proofs.Common.{◌≡◌, [], ◌++◌, append-nil, sym, ap, ◌∙◌, subst}
use Rattle.std.specs.List.{cons_option}
use Rattle.ss_answers.specs.Answers.{Rise, last_trust, payloads_of}
use Rattle.ss_answers.specs.AnswerLine.{IsInOrder, answer_at, answers_at}
use Rattle.ss_answers.proofs.TrustedPayloads.{cons_option-append, in_order_after, none_left, payloads_rise}
use Rattle.ss_answers.proofs.table.payloads_at.Goals as goal

pub last_trust-requires : goal.last_trust-requires
last_trust-requires c = subst (IsInOrder c.args.octets.now) c.in-Some.ensures.cases.0 c.loop-first.invariant.order

pub loop-first-preserved : goal.loop-first-preserved
loop-first-preserved c =
    let bytes = c.args.octets.now in
    let old = c.loop-first.payloads.items in
    let others = c.in-Some.others.now in
    let left = payloads_of (answers_at bytes others) in
    let is = c.in-Some.ensures.cases.0 in
    record {
      order = in_order_after bytes c.in-Some.first.now others (subst (IsInOrder bytes) is c.loop-first.invariant.order);
      so_far =
          ap (λ payloads. payloads ++ left) c.in_ok-add_payload.ensures
          ∙ ap (λ o. (old ++ cons_option o []) ++ left) c.last_trust.ensures
          ∙ cons_option-append old (last_trust (answer_at bytes c.in-Some.first.now) (answers_at bytes others)) left
          ∙ ap (λ places. old ++ payloads_of (answers_at bytes places)) (sym is)
          ∙ c.loop-first.invariant.so_far;
    }

pub returns-clause-rise : goal.returns-clause-rise
returns-clause-rise c =
    let bytes = c.args.octets.now in
    let old = c.loop-first.payloads.items in
    let none : c.loop-first.rest.now ≡ [] = none_left c.loop-first.rest.now c.in_default.ensures.cases in
    let so_far : old ++ payloads_of (answers_at bytes []) ≡ payloads_of (answers_at bytes c.args.places.now) =
    subst (λ rest. old ++ payloads_of (answers_at bytes rest) ≡ payloads_of (answers_at bytes c.args.places.now)) none
    c.loop-first.invariant.so_far in
    let are : old ≡ payloads_of (answers_at bytes c.args.places.now) = sym (append-nil old) ∙ so_far in
    subst Rise (sym are) (payloads_rise bytes c.args.places.now c.requires)
