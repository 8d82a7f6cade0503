use Rattle.std.proofs.Common.{length, drop, ap, ◌∙◌, Bor}
use Rattle.std.proofs.lemmas.List.{take_rest}
use Rattle.ss_block.specs.declared.session.Session.{Session}
use Rattle.ss_review.specs.keep.BlockMessage.{BlockMessage}
use Rattle.ss_review.specs.sessions.Sectioned.{referred, front}
use Rattle.ss_review.proofs.of_sessions.BySession.{ends_section}
use Rattle.ss_review.proofs.sessions.sectioning.section_end.Goals as goal

pub returns : goal.returns
returns c =
    let count = rw take_rest at c.front_len.ensures.front in
    let within = rw take_rest at c.front_len.ensures.within in
    let first = c.session.ensures ∙ ap (λ (b : Bor BlockMessage). b.now.session) c.index-blocks-start.is in
    let long = count ∙ ap (λ (s : Session). length (front s (referred (drop c.args.start c.args.blocks.now)))) first in
    ends_section c.args.blocks.now c.args.start c.front_len.result c.index-blocks-start.result c.requires.rise c.requires.some long within
