use Rattle.std.proofs.Common.{◌≡◌, ◌<◌, length, ap, arith}
use Rattle.std.proofs.lemmas.Bool.Decides.{nat_tests}
use Rattle.std.proofs.lemmas.List.{nil_from_length}
use Rattle.std.proofs.lemmas.Result.{err_from_is_err_and}
use Rattle.ss_octets.specs.Ascii.{lf}
use Rattle.ss_answers.specs.Lines.{Lacks}
use Rattle.ss_answers.proofs.EndedLines.{HasLines-ended, HasLines-unfinished, IsTextFault-unfinished, length-text_of}
use Rattle.ss_answers.proofs.lines.LinesSoFar.finish.Goals as goal
use Rattle.ss_answers.proofs.lines.LinesSoFar.finish.Goals.{then-not-is_empty+in_ok-keep, else-not-is_empty}

pub keep-requires-clause-room : goal.keep-requires-clause-room
keep-requires-clause-room c =
    let is : c.deref.result.now ≡ c.args.self.unfinished.items = cc in
    omega (arith, length-text_of c.args.self, ap length is)

pub keep-requires-clause-places : goal.keep-requires-clause-places
keep-requires-clause-places c =
    let some : 0 < length c.args.self.unfinished.items = grind (arith, nat_tests) in
    omega (arith, length-text_of c.args.self, some)

pub returns-in_err-keep-clause-err : goal.returns-in_err-keep-clause-err
returns-in_err-keep-clause-err c =
    let is : c.deref.result.now ≡ c.args.self.unfinished.items = cc in
    let some : 0 < length c.args.self.unfinished.items = grind (arith, nat_tests) in
    let more : 0 < length c.deref.result.now = rw is some in
    let lacks : Lacks lf c.deref.result.now = rw is c.requires.sound.lacks in
    let p = err_from_is_err_and c.from_residual.result c.from_residual.ensures.1 in
    rw (p.1, p.2) (IsTextFault-unfinished c.args.self c.deref.result.now _ c.requires.sound.fields is lacks more c.in_err-keep.ensures.err)

pub returns-clause-ok : goal.returns-clause-ok
returns-clause-ok c =
    elim c.if-not-is_empty.branch [
      | then-not-is_empty+in_ok-keep w ↦
          let is : w.deref.result.now ≡ c.args.self.unfinished.items = cc in
          rw w.self-is (HasLines-unfinished c.args.self w.keep.new.self.ended w.deref.result.now c.requires.sound.fields is w.in_ok-keep.ensures.adds)
      | else-not-is_empty w ↦
          let zero : length c.args.self.unfinished.items ≡ 0 = grind (arith, nat_tests) in
          rw w.self-is (HasLines-ended c.args.self c.requires.sound.fields (nil_from_length _ zero))
    ]
