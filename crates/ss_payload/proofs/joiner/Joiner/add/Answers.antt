use Rattle.std.proofs.Common.{◌∙◌, Bool, refl, sym, ap, ◌||◌}
use Rattle.ss_payload.proofs.Adding.{added, disagrees, agrees}
use Rattle.ss_payload.proofs.joiner.Joiner.add.Goals as goal

pub returns-then-other_total-other_octet-clause-joined : goal.returns-then-other_total-other_octet-clause-joined
returns-then-other_total-other_octet-clause-joined c = λ s h.
    let put = c.put_all-other_octet.ensures in
    added c.args.self.now s h c.args.total c.args.index c.args.fragment.now c.make_room.new.self c.put_all-other_octet.new.self
    c.make_room.ensures.same put.put c.put_all-other_octet.result put.some put.none _ c.joined-self.ensures refl refl

pub returns-else-other_total-other_octet-clause-joined : goal.returns-else-other_total-other_octet-clause-joined
returns-else-other_total-other_octet-clause-joined c = λ s h.
    let put = c.put_all-other_octet.ensures in
    added c.args.self.now s h c.args.total c.args.index c.args.fragment.now c.make_room.new.self c.put_all-other_octet.new.self
    c.make_room.ensures.same put.put c.put_all-other_octet.result put.some put.none _ c.joined-self.ensures refl refl

pub returns-then-other_total-other_octet-clause-answer : goal.returns-then-other_total-other_octet-clause-answer
returns-then-other_total-other_octet-clause-answer c = λ s h.
    let put = c.put_all-other_octet.ensures in
    let some = disagrees c.args.self.now s h c.args.total c.args.index c.args.fragment.now c.make_room.new.self c.put_all-other_octet.new.self c.make_room.ensures.same put.put c.put_all-other_octet.result put.some put.none in
    (λ _. some (ap (λ (b : Bool). b || c.put_all-other_octet.result) (sym c.differs-other_total.ensures) ∙ c.if-other_total-other_octet.true), λ _. refl)

pub returns-else-other_total-other_octet-clause-answer : goal.returns-else-other_total-other_octet-clause-answer
returns-else-other_total-other_octet-clause-answer c = λ s h.
    let put = c.put_all-other_octet.ensures in
    let none = agrees c.args.self.now s h c.args.total c.args.index c.args.fragment.now c.make_room.new.self c.put_all-other_octet.new.self c.make_room.ensures.same put.put c.put_all-other_octet.result put.some put.none in
    (λ e. cc, λ d. absurd (none (ap (λ (b : Bool). b || c.put_all-other_octet.result) (sym c.differs-other_total.ensures) ∙ c.if-other_total-other_octet.false) d))
