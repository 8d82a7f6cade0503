use Rattle.std.proofs.Common.{◌≡◌, [], ◌++◌, length, length-append, ap, arith}
use Rattle.std.proofs.lemmas.Bool.Decides.{nat_tests}
use Rattle.std.proofs.lemmas.List.{nil_from_length}
use Rattle.std.proofs.lemmas.Result.{IfErr-weaker, err_from_is_err_and, on_ok_weaker}
use Rattle.ss_octets.specs.Ascii.{lf}
use Rattle.ss_answers.specs.Lines.{Lacks}
use Rattle.ss_answers.specs.LinesSoFar.{AddsLine, IsLineFault, text_of}
use Rattle.ss_answers.proofs.EndedLines.{IsPartFault-ended, IsPartFault-gone_on, length-text_of, text_of-ended, text_of-gone_on, whole_line}
use Rattle.ss_answers.proofs.lines.LinesSoFar.end_line.Goals as goal

pub keep-requires-clause-room : goal.keep-requires-clause-room
keep-requires-clause-room c = omega (arith, length-text_of c.args.self.now)

pub keep-requires-clause-places : goal.keep-requires-clause-places
keep-requires-clause-places c = omega (arith, length-text_of c.args.self.now)

pub returns-then-is_empty-clause-taken : goal.returns-then-is_empty-clause-taken
returns-then-is_empty-clause-taken c =
    let zero : length c.args.self.now.unfinished.items ≡ 0 = grind (arith, nat_tests) in
    let empty : c.args.self.now.unfinished.items ≡ [] = nil_from_length _ zero in
    let none : c.keep.new.self.unfinished.items ≡ [] = cc in
    on_ok_weaker c.keep.result
    (λ (adds : AddsLine c.args.self.now.ended c.keep.new.self.ended c.args.end.now). text_of-ended c.args.self.now c.keep.new.self c.args.end.now c.args.end.now
    (whole_line c.args.self.now c.args.end.now empty) adds none)
    c.keep.ensures.adds

pub returns-then-is_empty-clause-err : goal.returns-then-is_empty-clause-err
returns-then-is_empty-clause-err c =
    let zero : length c.args.self.now.unfinished.items ≡ 0 = grind (arith, nat_tests) in
    let empty : c.args.self.now.unfinished.items ≡ [] = nil_from_length _ zero in
    IfErr-weaker c.keep.result (IsLineFault (length c.args.self.now.ended.places.items) c.args.end.now) _
    (λ fault. IsPartFault-ended c.args.self.now c.args.end.now c.args.end.now fault (whole_line c.args.self.now c.args.end.now empty)
    c.requires.sound.fields c.requires.lacks)
    c.keep.ensures.err

pub keep-requires-2-clause-room : goal.keep-requires-2-clause-room
keep-requires-2-clause-room c =
    let is : c.deref.result.now ≡ c.go_on.new.self.unfinished.items = cc in
    let taken : text_of c.go_on.new.self ≡ text_of c.args.self.now ++ c.args.end.now = c.in_ok-go_on.ensures.taken in
    omega (
      arith,
      length-text_of c.go_on.new.self,
      ap length taken,
      length-append (text_of c.args.self.now) c.args.end.now,
      c.in_ok-go_on.ensures.sound.sized,
      ap length is,
    )

pub keep-requires-2-clause-places : goal.keep-requires-2-clause-places
keep-requires-2-clause-places c =
    let taken : text_of c.go_on.new.self ≡ text_of c.args.self.now ++ c.args.end.now = c.in_ok-go_on.ensures.taken in
    omega (arith, length-text_of c.go_on.new.self, ap length taken, length-append (text_of c.args.self.now) c.args.end.now, c.in_ok-go_on.ensures.sound.counted)

pub returns-clause-taken : goal.returns-clause-taken
returns-clause-taken c =
    let is : c.deref.result.now ≡ c.go_on.new.self.unfinished.items = cc in
    text_of-gone_on c.args.self.now c.go_on.new.self _ c.deref.result.now c.args.end.now c.in_ok-go_on.ensures.taken is c.in_ok-keep.ensures.adds c.emptied.ensures

pub returns-in_err-keep-clause-err : goal.returns-in_err-keep-clause-err
returns-in_err-keep-clause-err c =
    let is : c.deref.result.now ≡ c.go_on.new.self.unfinished.items = cc in
    let lacks : Lacks lf c.deref.result.now = rw is c.in_ok-go_on.ensures.sound.lacks in
    let p = err_from_is_err_and c.from_residual-in_err-keep.result c.from_residual-in_err-keep.ensures.1 in
    rw (p.1, p.2) (IsPartFault-gone_on c.args.self.now c.go_on.new.self c.deref.result.now c.args.end.now _ c.in_ok-go_on.ensures.taken is
    c.in_ok-go_on.ensures.sound.fields lacks c.in_err-keep.ensures.err)
