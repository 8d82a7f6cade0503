use Rattle.std.proofs.Common.{rules}
use Rattle.ss_spelled.proofs.Tails.{tail_found, no_tail}
use Rattle.ss_spelled.proofs.longer.tail_of.Goals as goal

pub returns-in_err-tail-clause-none : goal.returns-in_err-tail-clause-none
returns-in_err-tail-clause-none c =
    let n = no_tail c.args.front.now c.args.fragment.now c.in_ok-begin.begin c.in_ok-over.over.now in
    search (rules, n)

pub returns-clause-some : goal.returns-clause-some
returns-clause-some c =
    tail_found c.args.front.now c.args.fragment.now c.in_ok-begin.begin c.in_ok-left.left c.in_ok-over.over.now c.in_ok-tail.tail.now (search rules) (search rules) (search rules) (search rules) (search rules) (search rules) (search rules) (search rules)
