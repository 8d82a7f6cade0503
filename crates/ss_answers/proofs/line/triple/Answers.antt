use Rattle.std.proofs.Common.{◌≡◌, ◌++◌, ◌∷◌, ap, ◌∙◌}
use Rattle.std.proofs.lemmas.Result.{err_from_is_err_and}
use Rattle.ss_octets.specs.Ascii.{sp}
use Rattle.ss_octets.specs.StrictBase64.{base64}
use Rattle.ss_answers.specs.AnswerLine.{HasField}
use Rattle.ss_answers.proofs.AnswerLines.{IfBad-weaker, IsNoTriple-from_first, IsNoTriple-from_rest}
use Rattle.ss_answers.proofs.Cuts.{nowhere}
use Rattle.ss_answers.proofs.KeptLines.{AreKnown-grows, KeepsTriple-payload, KeepsTriple-known, Lacks-known}
use Rattle.ss_answers.proofs.line.triple.Goals as goal

pub returns-in_default-cut_word-clause-bad : goal.returns-in_default-cut_word-clause-bad
returns-in_default-cut_word-clause-bad c = λ first second third triple.
    nowhere sp (base64 first) (base64 second ++ sp ∷ base64 third) _ c.in_default-cut_word.ensures triple.3

pub returns-in_err-bytes-in-Some-clause-bad : goal.returns-in_err-bytes-in-Some-clause-bad
returns-in_err-bytes-in-Some-clause-bad c =
    let p = err_from_is_err_and c.from_residual.result c.from_residual.ensures.1 in
    let has : HasField c.args.octets.now.items c.in-Some.known.text.items c.in-Some.known.span = rw c.in-Some.is at c.requires.known in
    let begins : c.args.text.now ≡ c.in-Some.known.text.items ++ sp ∷ c.in-Some-behind.rest.now =
    c.in-Some-behind.ensures ∙ ap (λ t. t ++ sp ∷ c.in-Some-behind.rest.now) c.as_slice.ensures.value in
    rw (p.1, p.2) (IfBad-weaker _ _ _ (IsNoTriple-from_rest _ _ _ (Lacks-known _ _ _ has) begins) c.in_err-bytes-in-Some.ensures.bad)

pub returns-in-Some-behind-clause-ok : goal.returns-in-Some-behind-clause-ok
returns-in-Some-behind-clause-ok c =
    let begins : c.args.text.now ≡ c.in-Some.known.text.items ++ sp ∷ c.in-Some-behind.rest.now =
    c.in-Some-behind.ensures ∙ ap (λ t. t ++ sp ∷ c.in-Some-behind.rest.now) c.as_slice.ensures.value in
    KeepsTriple-known _ _ _ _ _ _ _ begins (rw c.in-Some.is at c.requires.known) c.in_ok-bytes-in-Some.ensures.ok

pub returns-in_err-payload-clause-bad : goal.returns-in_err-payload-clause-bad
returns-in_err-payload-clause-bad c =
    let p = err_from_is_err_and c.from_residual-in_err-payload.result c.from_residual-in_err-payload.ensures.1 in
    rw (p.1, p.2) (IfBad-weaker _ _ _ (IsNoTriple-from_first _ _ _ c.in-Some-cut_word.ensures.0 c.in-Some-cut_word.ensures.1) c.in_err-payload.ensures.bad)

pub returns-in_err-bytes-clause-bad : goal.returns-in_err-bytes-clause-bad
returns-in_err-bytes-clause-bad c =
    let p = err_from_is_err_and c.from_residual-in_err-bytes.result c.from_residual-in_err-bytes.ensures.1 in
    rw (p.1, p.2) (IfBad-weaker _ _ _ (IsNoTriple-from_rest _ _ _ c.in-Some-cut_word.ensures.0 c.in-Some-cut_word.ensures.1) c.in_err-bytes.ensures.bad)

pub returns-clause-ok : goal.returns-clause-ok
returns-clause-ok c =
    KeepsTriple-payload _ _ _ _ _ _ _ _ _ c.in-Some-cut_word.ensures.1 c.in_ok-payload.ensures.ok c.in_ok-bytes.ensures.ok

pub returns-in-Some-behind-clause-payloads : goal.returns-in-Some-behind-clause-payloads
returns-in-Some-behind-clause-payloads c = AreKnown-grows _ _ _ _ c.in_ok-bytes-in-Some.ensures.ok.grows c.requires.payloads

pub returns-clause-payloads : goal.returns-clause-payloads
returns-clause-payloads c = AreKnown-grows _ _ _ _ c.in_ok-bytes.ensures.ok.grows c.in_ok-payload.ensures.payloads
