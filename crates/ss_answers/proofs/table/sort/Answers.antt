use Rattle.std.proofs.Common.{Err, Ok, OnOk, Result, rules}
use Rattle.std.proofs.lemmas.List.Sorted.{ranks_by}
use Rattle.std.proofs.lemmas.Fn.{always_returns_same}
use Rattle.std.proofs.lemmas.Result.{on_ok_weaker}
use Rattle.ss_answers.specs.AnswerLine.{place_key}
use Rattle.ss_answers.proofs.OrderedLines.{SaysTheSame-sorted, is_before, key_cmp_total}
use Rattle.ss_answers.proofs.table.sort.Goals as goal

OnOk-from : {T E P : Type 0} (r : Result T E) → P → OnOk r P
OnOk-from (Ok x) p = p
OnOk-from (Err e) p = tt

pub returns-clause-in_order : goal.returns-clause-in_order
returns-clause-in_order c =
    on_ok_weaker c.sort_by.result
    (λ sorted. sorted (is_before c.args.octets.now) (ranks_by key_cmp_total (place_key c.args.octets.now)) (always_returns_same _ _ _ (λ a r q k. search rules)))
    c.sort_by.ensures.sorted

pub returns-clause-same : goal.returns-clause-same
returns-clause-same c =
    let stable = c.sort_by.ensures.stable (is_before c.args.octets.now) (ranks_by key_cmp_total (place_key c.args.octets.now)) (always_returns_same _ _ _ (λ a r q k. search rules)) in
    OnOk-from _ (SaysTheSame-sorted _ _ _ c.sort_by.ensures.permutation stable)
