use Rattle.std.proofs.Common.{Bor, ◌++◌, List, All, get_or, drop, map, sym, ap, ◌∙◌, subst}
use Rattle.std.specs.Prelude.{slice_range}
use Rattle.std.proofs.lemmas.List.{append-nil}
use Rattle.std.proofs.lemmas.List.Elements.{All-push}
use Rattle.ss_block.specs.declared.session.Session.{Session}
use Rattle.ss_review.specs.keep.BlockMessage.{BlockMessage}
use Rattle.ss_review.specs.sessions.Sectioned.{sections, referred}
use Rattle.ss_review.specs.sessions.Verified.{answers}
use Rattle.ss_review.specs.pinned.Finding.{session_claimed, section_claimed, AreAskableUnder, AreFoundRight}
use Rattle.ss_review.proofs.of_pinned.Asking.{askable_first, askable_later}
use Rattle.ss_review.proofs.of_sessions.SectionsTold.{one_more, no_sections}
use Rattle.ss_review.proofs.pinned.claimed.claimed_sections.Goals as goal

pub claimants-requires-clause-askable : goal.claimants-requires-clause-askable
claimants-requires-clause-askable g c =
    let bs = c.args.blocks.now in
    let here = c.section_end-end.ensures.sectioned c.index-blocks-start.result in
    let s : Session × List BlockMessage = ((get_or bs c.loop-start.start c.index-blocks-start.result).now.session, referred (slice_range bs c.loop-start.start c.section_end-end.result)) in
    askable_first g.J.Judge.askable c.args.judge.now c.args.payloads.now s (sections (referred (drop c.section_end-end.result bs)))
    (subst (AreAskableUnder g.J.Judge.askable c.args.judge.now c.args.payloads.now) here c.loop-start.invariant.2)

pub loop-start-preserved : goal.loop-start-preserved
loop-start-preserved g c =
    let says = answers g.J.Judge.trusted g.J.Judge.valid c.args.judge.now in
    let ps = c.args.payloads.now in
    let bs = c.args.blocks.now in
    let here = c.section_end-end.ensures.sectioned c.index-blocks-start.result in
    let later = sections (referred (drop c.section_end-end.result bs)) in
    let session : Session = (get_or bs c.loop-start.start c.index-blocks-start.result).now.session in
    let told = c.session.ensures ∙ ap (λ (b : Bor BlockMessage). b.now.session) c.index-blocks-start.is in
    let s : Session × List BlockMessage = (session, referred (slice_range bs c.loop-start.start c.section_end-end.result)) in (
      ap (λ xs. map session_claimed xs ++ map (section_claimed says ps) later) c.in_ok-push.ensures.items
          ∙ one_more session_claimed (section_claimed says ps) c.loop-start.sessions.items _ s _ later here
          (λ i. (told i, c.in_ok-claimants.ensures.payloads i))
          ∙ c.loop-start.invariant.0,
      subst (All (AreFoundRight says)) (sym c.in_ok-push.ensures.items)
          (All-push (AreFoundRight says) c.loop-start.sessions.items _ c.loop-start.invariant.1 c.in_ok-claimants.ensures.found),
      askable_later g.J.Judge.askable c.args.judge.now ps s later
          (subst (AreAskableUnder g.J.Judge.askable c.args.judge.now ps) here c.loop-start.invariant.2),
    )

pub returns-clause-claimed : goal.returns-clause-claimed
returns-clause-claimed g c =
    let says = answers g.J.Judge.trusted g.J.Judge.valid c.args.judge.now in
    let done = map session_claimed c.loop-start.sessions.items in
    sym (ap (λ ss. done ++ map (section_claimed says c.args.payloads.now) ss) (no_sections c.args.blocks.now c.loop-start.start c.loop-start-test.false) ∙ append-nil done)
    ∙ c.loop-start.invariant.0
