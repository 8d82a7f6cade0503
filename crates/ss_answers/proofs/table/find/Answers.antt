use Rattle.std.proofs.Common.{◌≡◌, true, false, get_or, sym, arith, rules}
use Rattle.std.proofs.lemmas.List.Sorted.{IsPartitionPoint-from_clause}
use Rattle.ss_answers.specs.declared.place.Place.{Place}
use Rattle.ss_answers.specs.AnswerKey.{sort_key}
use Rattle.ss_answers.specs.AnswerLine.{has_key, no_span}
use Rattle.ss_answers.proofs.OrderedLines.{IsPartitionedBy-is_below, find_absent, find_at, find_past, is_below}
use Rattle.ss_answers.proofs.table.find.Goals as goal

pub returns-then-at-places : goal.returns-then-at-places
returns-then-at-places c =
    let bytes = c.args.octets.now in
    let key = sort_key c.args.key in
    let places = c.args.places.now in
    let point = IsPartitionPoint-from_clause (is_below bytes key) _ _ c.partition_point-at.ensures.partitioned
    (IsPartitionedBy-is_below bytes key places c.requires) (λ a r q k. search rules) in
    sym (find_past bytes key places c.partition_point-at.result point (omega arith))

nowhere : Place
nowhere = record { payload = no_span; start = 0; middle = 0; end = 0 }

pub returns-then-is_eq : goal.returns-then-is_eq
unfolding nowhere
returns-then-is_eq c =
    let bytes = c.args.octets.now in
    let key = sort_key c.args.key in
    let places = c.args.places.now in
    let at = c.partition_point-at.result in
    let point = IsPartitionPoint-from_clause (is_below bytes key) _ _ c.partition_point-at.ensures.partitioned
    (IsPartitionedBy-is_below bytes key places c.requires) (λ a r q k. search rules) in
    let here : has_key bytes key (get_or places at nowhere) ≡ true = search rules in
    sym (find_at bytes key places at point nowhere (omega arith) here)

pub returns-else-is_eq : goal.returns-else-is_eq
unfolding nowhere
returns-else-is_eq c =
    let bytes = c.args.octets.now in
    let key = sort_key c.args.key in
    let places = c.args.places.now in
    let at = c.partition_point-at.result in
    let point = IsPartitionPoint-from_clause (is_below bytes key) _ _ c.partition_point-at.ensures.partitioned
    (IsPartitionedBy-is_below bytes key places c.requires) (λ a r q k. search rules) in
    let here : has_key bytes key (get_or places at nowhere) ≡ false = search rules in
    sym (find_absent bytes key places at c.requires point nowhere (omega arith) here)
