use Rattle.std.proofs.Common.{◌≡◌, length, sym, subst, ap, ◌∙◌, arith}
use Rattle.ss_block.specs.Joiner.{Stands}
use Rattle.ss_block.specs.Joining.{with_fragment}
use Rattle.ss_review.specs.sessions.Stated.{stated_in_turn}
use Rattle.ss_review.proofs.of_sessions.Stating.{stated_push}
use Rattle.ss_review.proofs.sessions.joining.add_fragment.Goals as goal

pub add-requires-clause-total : goal.add-requires-clause-total
add-requires-clause-total c =
    let s = c.requires.1 in
    (omega (arith, s.total, s.valid.within, s.valid.some_index, s.valid.some_octet), omega (arith, s.total, s.valid.total))

pub add-requires-clause-index : goal.add-requires-clause-index
add-requires-clause-index c =
    let s = c.requires.1 in
    (omega (arith, s.index, s.valid.some_index), omega (arith, s.index, s.valid.within, s.valid.some_octet, s.valid.total))

pub add-requires-clause-length : goal.add-requires-clause-length
add-requires-clause-length c =
    let s = c.requires.1 in
    let long : length c.as_slice.result.now ≡ length c.requires.0.fragment = ap length (c.as_slice.ensures ∙ s.fragment) in
    (omega (arith, long, s.valid.some_octet), omega (arith, long, s.valid.at_most_9999_octets))

pub add-requires-clause-within : goal.add-requires-clause-within
add-requires-clause-within c =
    let s = c.requires.1 in
    let long : length c.as_slice.result.now ≡ length c.requires.0.fragment = ap length (c.as_slice.ensures ∙ s.fragment) in
    omega (arith, long, s.index, s.total, s.valid.within)

pub returns : goal.returns
returns c = λ cs b states stands.
    subst (λ s. Stands c.add.new.self s)
    ((λ i. with_fragment (stated_in_turn cs) (states.total i) (states.index i) ((c.as_slice.ensures ∙ states.fragment) i)) ∙ sym (stated_push cs b))
    (c.in_ok-add.ensures.joined (stated_in_turn cs) stands)
