use Rattle.std.proofs.Common.{Some, ap, sym, ◌∙◌}
use Rattle.std.specs.Option.{option_copied}
use Rattle.std.proofs.lemmas.Option.{none-some}
use Rattle.ss_answers.proofs.OrderedLines.{seal_from_find, seal_from_line}
use Rattle.ss_answers.proofs.table.Answers.seal.Goals as goal

pub returns-in_default-clause-refused : goal.returns-in_default-clause-refused
returns-in_default-clause-refused c =
    let found = rw (c.seal.ensures, c.deref.ensures.value, c.deref-2.ensures.value) at c.find.ensures in
    let said = seal_from_find c.self.inside.octets.items c.self.inside.places.items c.args.bytes.now c.find.result found in
    rw (← c.self.view_is) (rw c.in_default.is at said)

pub returns-in_default-given_signature-clause-refused : goal.returns-in_default-given_signature-clause-refused
returns-in_default-given_signature-clause-refused c =
    let found = rw (c.seal.ensures, c.deref.ensures.value, c.deref-2.ensures.value) at c.find.ensures in
    let said = seal_from_line c.self.inside.octets.items c.self.inside.places.items c.args.bytes.now c.find.result c.in-Some.place c.given_signature.result found c.in-Some.is (rw c.deref-3.ensures.value at c.given_signature.ensures) in
    rw (← c.self.view_is) (said ∙ ap option_copied c.in_default-given_signature.is)

pub returns-in-Ok-clause-ok : goal.returns-in-Ok-clause-ok
returns-in-Ok-clause-ok c =
    let found = rw (c.seal.ensures, c.deref.ensures.value, c.deref-2.ensures.value) at c.find.ensures in
    let said = seal_from_line c.self.inside.octets.items c.self.inside.places.items c.args.bytes.now c.find.result c.in-Some.place c.given_signature.result found c.in-Some.is (rw c.deref-3.ensures.value at c.given_signature.ensures) in
    rw (← c.self.view_is) (said ∙ ap option_copied c.in-Some-given_signature.is ∙ ap Some (sym c.in-Ok.ensures.items))

pub returns-in-Ok-clause-refused_first : goal.returns-in-Ok-clause-refused_first
returns-in-Ok-clause-refused_first c =
    let found = rw (c.seal.ensures, c.deref.ensures.value, c.deref-2.ensures.value) at c.find.ensures in
    let said = seal_from_line c.self.inside.octets.items c.self.inside.places.items c.args.bytes.now c.find.result c.in-Some.place c.given_signature.result found c.in-Some.is (rw c.deref-3.ensures.value at c.given_signature.ensures) in
    rw (← c.self.view_is) (λ none. absurd (none-some _ (sym none ∙ said ∙ ap option_copied c.in-Some-given_signature.is)))

pub returns-in-Err-clause-refused_first : goal.returns-in-Err-clause-refused_first
returns-in-Err-clause-refused_first c =
    let found = rw (c.seal.ensures, c.deref.ensures.value, c.deref-2.ensures.value) at c.find.ensures in
    let said = seal_from_line c.self.inside.octets.items c.self.inside.places.items c.args.bytes.now c.find.result c.in-Some.place c.given_signature.result found c.in-Some.is (rw c.deref-3.ensures.value at c.given_signature.ensures) in
    rw (← c.self.view_is) (λ none. absurd (none-some _ (sym none ∙ said ∙ ap option_copied c.in-Some-given_signature.is)))
