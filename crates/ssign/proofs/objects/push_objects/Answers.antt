use Rattle.std.proofs.Common.{refl}
use Rattle.ssign.specs.Explanation.{object_in}
use Rattle.ssign.proofs.AddedTexts.{added_more}
use Rattle.ssign.proofs.objects.push_objects.Goals as goal

pub loop-entry-preserved : goal.loop-entry-preserved
loop-entry-preserved c =
    added_more (object_in c.args.table.now) c.args.entries.now c.loop-entry.entry-index _ c.args.text.now.items c.loop-entry.text.items c.push_object.new.text.items _ c.loop-entry-test.true c.loop-entry.invariant c.in_ok-push_object.ensures refl
