use Rattle.std.proofs.Common.{[], ◌++◌, sym, ap, ◌∙◌, subst}
use Rattle.std.specs.Prelude.{OnOk}
use Rattle.std.specs.List.{cons_option}
use Rattle.std.proofs.lemmas.List.{append-nil}
use Rattle.ss_block.specs.Joiner.{Stands}
use Rattle.ss_review.specs.keep.Stated.{IsStated}
use Rattle.ss_review.specs.sessions.Payloads.{certificate_of}
use Rattle.ss_review.specs.sessions.Stated.{stated_in_turn}
use Rattle.ss_review.proofs.of_sessions.StatedFragments.{StatedBy, stated_by_some, none_stated}
use Rattle.ss_review.proofs.sessions.joining.add_block.Goals as goal

pub add_fragment-requires : goal.add_fragment-requires
add_fragment-requires c =
    let said = c.args.message.now.said in
    let by : StatedBy c.in-Some.stated (certificate_of said)
    = stated_by_some c.in-Some.stated (certificate_of said) (subst (λ o. IsStated o (certificate_of said)) c.in-Some.is c.in_ok-stated.ensures) in
    (by.certificate, by.states)

pub returns-in-None : goal.returns-in-None
returns-in-None c = λ cs stands.
    let said = c.args.message.now.said in
    let none = none_stated (certificate_of said) (subst (λ o. IsStated o (certificate_of said)) c.in-None.is c.in_ok-stated.ensures) in
    subst (λ ds. Stands c.args.joiner.now (stated_in_turn ds)) (sym (ap (λ o. cs ++ cons_option o []) none ∙ append-nil cs)) stands

pub returns-in-Some : goal.returns-in-Some
returns-in-Some c = λ cs stands.
    let said = c.args.message.now.said in
    let by : StatedBy c.in-Some.stated (certificate_of said)
    = stated_by_some c.in-Some.stated (certificate_of said) (subst (λ o. IsStated o (certificate_of said)) c.in-Some.is c.in_ok-stated.ensures) in
    subst (λ ds. OnOk c.add_fragment.result (Stands c.add_fragment.new.joiner (stated_in_turn ds)))
    (sym (ap (λ o. cs ++ cons_option o []) by.is))
    (c.add_fragment.ensures cs by.certificate by.states stands)
