use Rattle.std.proofs.Common.{◌≡◌, [], ◌∷◌, ◌++◌, length, length-append, ap, ◌∙◌, arith, rules}
use Rattle.ss_answers.specs.AnswerLine.{KeepsLine, answers_at}
use Rattle.ss_answers.proofs.KeptLines.{answers-push, length-Grows-most, within-kept}
use Rattle.ss_answers.proofs.lines.LinesSoFar.keep.Goals as goal

pub returns-in-Ok-push-clause-adds : goal.returns-in-Ok-push-clause-adds
returns-in-Ok-push-clause-adds c =
    let kept : KeepsLine c.args.self.now.ended.octets.items c.keep-kept.new.octets.items c.args.text.now c.in-Ok.place = c.in-Ok.ensures.ok in
    let pushed : c.push.new.self.items ≡ c.args.self.now.ended.places.items ++ c.in-Ok.place ∷ [] = search rules in
    record {
      line = kept.line;
      fields = kept.fields;
      spelt = kept.spelt;
      answers = ap (answers_at c.keep-kept.new.octets.items) pushed ∙ answers-push _ _ _ _ _ kept c.requires.within;
      within = rw pushed (within-kept _ _ _ _ _ kept c.requires.within);
      counted = omega (arith, ap length pushed, length-append c.args.self.now.ended.places.items (c.in-Ok.place ∷ []));
      sized = length-Grows-most _ _ _ kept.grows;
    }
