use Rattle.ss_payload.proofs.Standing.{disputed_total, disputed_octet, undisputed, gap, whole}
use Rattle.ss_payload.proofs.joiner.Joiner.state.Goals as goal

pub returns-then-self : goal.returns-then-self
returns-then-self c = λ s h. disputed_octet c.args.self.now s h c.if-self.true

pub returns-in-Many : goal.returns-in-Many
returns-in-Many c = λ s h. disputed_total c.args.self.now s h c.in-Many.is

pub returns-in-Some : goal.returns-in-Some
returns-in-Some c = λ s h. whole c.args.self.now s h c.in-Some.field-0 c.in-Some.ensures.some

pub returns-in-None : goal.returns-in-None
returns-in-None c = λ s h.
    (undisputed c.args.self.now s h c.if-self.false c.in_default.not-Many, gap c.args.self.now s h c.in_default.not-Many (c.in-None.ensures.none c.if-self.false))
