use Rattle.std.proofs.Common.{inl, inr, List, ◌++◌, sym, subst}
use Rattle.ss_review.specs.declared.counted.counter.Counter.{Counter}
use Rattle.ss_review.specs.keep.Contents.{blocks}
use Rattle.ss_review.specs.keep.Notes.{notes}
use Rattle.ss_review.specs.pinned.Pinned.{blocks_by}
use Rattle.ss_laws.specs.parts.PartCounters.{counters_by, counters_of_parts}
use Rattle.ss_octets.proofs.Members.{Has, has_from_contains, contains_from_has, has-append_left, has-append_right, has-append_cases}
use Rattle.ss_laws.proofs.of_parts.AlikeCounters.{all_alike}
use Rattle.ss_laws.proofs.of_parts.CountersTogether.{into_whole, from_whole, counters_by_are, parts_are}
use Rattle.ss_laws.proofs.of_parts.PartTexts.{parts_by}
use Rattle.ss_laws.proofs.parts.counters_are_read_alike.Goals as goal

pub returns : goal.returns
returns c = λ known says log part parts are cs others same reported counted.
    (let bs = blocks_by known says (blocks (notes log)) in
    let own = parts_by known says part parts (blocks (notes log)) are in
    let of_parts : List Counter = counters_of_parts known says part parts log in
    let of_log : List Counter = counters_by known says log in
    let into : (x : Counter) → Has of_parts x → Has of_log x
    = λ x h.
    subst (λ xs. Has xs x) (sym (counters_by_are known says log)) (into_whole says bs part parts own x (subst (λ xs. Has xs x) (parts_are known says part parts log are.sessions) h)) in
    let from : (x : Counter) → Has of_log x → Has of_parts x
    = λ x h.
    subst (λ xs. Has xs x) (sym (parts_are known says part parts log are.sessions)) (from_whole says bs part parts own x (subst (λ xs. Has xs x) (counters_by_are known says log) h)) in
    all_alike cs (others ++ of_log)
    (λ x h.
    elim ((same x).0 (contains_from_has cs x h)) [
      | inl o ↦ has-append_left others of_log x (has_from_contains others x o)
      | inr p ↦ has-append_right others of_log x (into x (has_from_contains of_parts x p))
    ])
    (λ x h.
    has_from_contains cs x ((same x).1 (elim (has-append_cases others of_log x h) [
      | inl l ↦ inl (contains_from_has others x l)
      | inr r ↦ inr (contains_from_has of_parts x (from x r))
    ])))
    reported counted)
