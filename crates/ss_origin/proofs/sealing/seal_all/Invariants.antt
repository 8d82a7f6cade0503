use Rattle.std.specs.List.{AllByRecursion}
use Rattle.ss_origin.specs.Blocks.{unsigned_text}
use Rattle.ss_origin.specs.Asking.{IsSameKey}
use Rattle.ss_origin.specs.Asked.{SealsAll}
use Rattle.ss_origin.specs.Emission.{AreSent}
use Rattle.ss_origin.specs.Refusals.{IsTaken}
use Rattle.ss_origin.proofs.sealing.seal_all.Given as goal

abbrev pub invariant-loop-block : goal.invariant-loop-block
invariant-loop-block g l =
    record {
      can_next : (goal.iterator-loop-block g).can_next l.block-iterator;
      is_finite : (goal.iterator-loop-block g).is_finite l.block-iterator;
      sound : g.J.Seals.sound l.sealer;
      same : IsSameKey g.J.Seals.payload g.J.Seals.valid g.J.Seals.answers l.initial.sealer l.sealer;
      asked : SealsAll g.J.Seals.asked l.config l.stamp l.yielded l.initial.messages.items l.messages.items l.initial.sealer l.sealer;
      taken : AllByRecursion (λ b. IsTaken (g.J.Seals.answers l.initial.sealer) (unsigned_text l.config.head l.stamp b)) l.yielded;
      sent : AreSent (record { config = l.config; payload = g.J.Seals.payload l.initial.sealer; valid = g.J.Seals.valid l.initial.sealer }) l.stamp l.yielded l.initial.messages.items l.messages.items;
    }
