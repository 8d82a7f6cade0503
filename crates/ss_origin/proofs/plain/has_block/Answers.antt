use Rattle.std.proofs.Common.{◌≡◌, true, false, sym, ap, ◌∙◌}
use Rattle.std.specs.Prelude.{◌||◌, is_some, codes}
use Rattle.ss_message.specs.Layout.{value_of}
use Rattle.ss_block.specs.Reading.{ssign, ssign_cert}
use Rattle.ss_origin.proofs.PlainMessages.{found_alike, plain_without}
use Rattle.ss_origin.proofs.plain.has_block.Goals as goal

pub returns-then-is_some : goal.returns-then-is_some
returns-then-is_some c =
    let m = c.args.message.now in
    let es = (value_of m).elements in
    let signature : is_some (ssign es) ≡ true
    = sym (found_alike m.source.now (codes "ssign") m.elements c.requires) ∙ sym (ap is_some c.element.ensures.first) ∙ sym c.is_some.ensures ∙ c.if-is_some.true in
    c.if-is_some.true ∙ sym (plain_without (ssign es) (ssign_cert es) ∙ ap (λ b. b || is_some (ssign_cert es)) signature)

pub returns-else-is_some : goal.returns-else-is_some
returns-else-is_some c =
    let m = c.args.message.now in
    let es = (value_of m).elements in
    let signature : is_some (ssign es) ≡ false
    = sym (found_alike m.source.now (codes "ssign") m.elements c.requires) ∙ sym (ap is_some c.element.ensures.first) ∙ sym c.is_some.ensures ∙ c.if-is_some.false in
    let certificate : c.is_some-else-is_some.result ≡ is_some (ssign_cert es)
    = c.is_some-else-is_some.ensures ∙ ap is_some c.element-else-is_some.ensures.first ∙ found_alike m.source.now (codes "ssign-cert") m.elements c.requires in
    certificate ∙ sym (plain_without (ssign es) (ssign_cert es) ∙ ap (λ b. b || is_some (ssign_cert es)) signature)
