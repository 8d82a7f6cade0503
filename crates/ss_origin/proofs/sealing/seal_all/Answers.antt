use Rattle.std.proofs.Common.{◌≡◌, ◌++◌, ◌∷◌, [], length, take, sym, ◌∙◌, subst}
use Rattle.std.proofs.lemmas.Result.{err_from_is_err_and}
use Rattle.std.proofs.lemmas.List.{map-id}
use Rattle.std.proofs.lemmas.Iterator.Adapters.{YieldsList-from_vec}
use Rattle.std.proofs.lemmas.Iterator.Consumers.{YieldsList-so_far, YieldsList-turn}
use Rattle.ss_origin.specs.Setting.{Setting}
use Rattle.ss_origin.specs.Blocks.{unsigned_text}
use Rattle.ss_origin.specs.Emission.{AreSent}
use Rattle.ss_origin.specs.Refusals.{IsTaken}
use Rattle.ss_origin.specs.Asked.{SealsAll}
use Rattle.ss_origin.proofs.Sending.{all_more, one_more_sent, fails_at}
use Rattle.ss_origin.proofs.Asking.{same_again, taken_as, not_taken_as, sealed_as, one_more_asked, stops_at, stops_behind}
use Rattle.ss_origin.proofs.sealing.seal_all.Goals as goal

pub loop-block-preserved : goal.loop-block-preserved
loop-block-preserved g c =
    let payload = g.J.Seals.payload in
    let valid = g.J.Seals.valid in
    let answers = g.J.Seals.answers in
    let first = c.args.sealer.now in
    let old = c.loop-block.sealer in
    let new = c.sealed.new.sealer in
    let config = c.args.config.now in
    let s : Setting = record { config = config; payload = payload first; valid = valid first } in
    let stamp = c.args.due.stamp in
    let front = c.args.messages.now.items in
    let sent = c.loop-block.messages.items in
    let block = c.in-Some.block in
    let message = c.in_ok-message.message in
    let yielded = c.loop-block.yielded in
    let so_far = c.loop-block.invariant in
    let ensures = c.in_ok-message.ensures in
    let copies = sym c.in_ok-push_copies.ensures.copies in
    record {
      can_next = tt;
      is_finite = tt;
      sound = ensures.sound;
      same = same_again payload valid answers first old new so_far.same ensures.same;
      asked = subst (λ sent. SealsAll g.J.Seals.asked config stamp (yielded ++ block ∷ []) front sent first new) copies
          (one_more_asked g.J.Seals.asked config stamp yielded front sent block message first old new so_far.asked ensures.asked);
      taken = all_more (λ b. IsTaken (answers first) (unsigned_text s.config.head stamp b)) yielded block so_far.taken
          (taken_as payload valid answers first old so_far.same (unsigned_text config.head stamp block) ensures.asks);
      sent = subst (λ sent. AreSent s stamp (yielded ++ block ∷ []) front sent) copies
          (one_more_sent s stamp yielded front sent block message so_far.sent (sealed_as payload valid answers first old so_far.same config stamp block message ensures.sealed));
    }

pub returns-in_err-message-clause-same : goal.returns-in_err-message-clause-same
returns-in_err-message-clause-same g c =
    same_again g.J.Seals.payload g.J.Seals.valid g.J.Seals.answers c.args.sealer.now c.loop-block.sealer c.sealed.new.sealer c.loop-block.invariant.same c.in_err-message.ensures.same

pub returns-in_err-message-clause-asked : goal.returns-in_err-message-clause-asked
returns-in_err-message-clause-asked g c =
    let due = c.args.due.blocks.items in
    let block = c.in-Some.block in
    let yielded = c.loop-block.yielded in
    let all = YieldsList-from_vec due c.into_iter-block-iterator.ensures.into_iter_gives.0 (c.into_iter-block-iterator.ensures.into_iter_gives.1 ∙ c.args.due.blocks.ok.0) in
    let so_far : yielded ≡ take (length yielded) due = sym (map-id yielded) ∙ YieldsList-so_far all yielded c.loop-block.block-iterator c.loop-block.yielded_by in
    let turn = YieldsList-turn all yielded c.loop-block.block-iterator c.loop-block.yielded_by c.next.result c.next.new.self block c.in-Some.is c.next.ensures.steps in
    let p = err_from_is_err_and c.from_residual.result c.from_residual.ensures.1 in
    rw (p.1, p.2)
    (stops_at g.J.Seals.asked c.args.config.now c.args.due.stamp due yielded c.args.messages.now.items c.loop-block.messages.items (length yielded) block c.in_err-message.field-0.0
    c.args.sealer.now c.loop-block.sealer c.sealed.new.sealer turn.0 so_far turn.1 c.loop-block.invariant.asked c.in_err-message.ensures.asked)

pub returns-in_err-push_copies-clause-same : goal.returns-in_err-push_copies-clause-same
returns-in_err-push_copies-clause-same g c =
    same_again g.J.Seals.payload g.J.Seals.valid g.J.Seals.answers c.args.sealer.now c.loop-block.sealer c.sealed.new.sealer c.loop-block.invariant.same c.in_ok-message.ensures.same

pub returns-in_err-push_copies-clause-asked : goal.returns-in_err-push_copies-clause-asked
returns-in_err-push_copies-clause-asked g c =
    let asked = g.J.Seals.asked in
    let config = c.args.config.now in
    let stamp = c.args.due.stamp in
    let due = c.args.due.blocks.items in
    let block = c.in-Some.block in
    let yielded = c.loop-block.yielded in
    let all = YieldsList-from_vec due c.into_iter-block-iterator.ensures.into_iter_gives.0 (c.into_iter-block-iterator.ensures.into_iter_gives.1 ∙ c.args.due.blocks.ok.0) in
    let so_far : yielded ≡ take (length yielded) due = sym (map-id yielded) ∙ YieldsList-so_far all yielded c.loop-block.block-iterator c.loop-block.yielded_by in
    let turn = YieldsList-turn all yielded c.loop-block.block-iterator c.loop-block.yielded_by c.next.result c.next.new.self block c.in-Some.is c.next.ensures.steps in
    let fault = c.in_err-push_copies.field-0.0 in
    let p = err_from_is_err_and c.from_residual-in_err-push_copies.result c.from_residual-in_err-push_copies.ensures.1 in
    rw (p.1, p.2)
    (stops_at asked config stamp due yielded c.args.messages.now.items c.loop-block.messages.items (length yielded) block fault
    c.args.sealer.now c.loop-block.sealer c.sealed.new.sealer turn.0 so_far turn.1 c.loop-block.invariant.asked
    (stops_behind asked config stamp block c.in_ok-message.message fault c.loop-block.sealer c.sealed.new.sealer c.in_ok-message.ensures.asked c.in_err-push_copies.ensures.fault))

pub returns-in_err-message-clause-asks : goal.returns-in_err-message-clause-asks
returns-in_err-message-clause-asks g c =
    let due = c.args.due.blocks.items in
    let block = c.in-Some.block in
    let yielded = c.loop-block.yielded in
    let all = YieldsList-from_vec due c.into_iter-block-iterator.ensures.into_iter_gives.0 (c.into_iter-block-iterator.ensures.into_iter_gives.1 ∙ c.args.due.blocks.ok.0) in
    let so_far : yielded ≡ take (length yielded) due = sym (map-id yielded) ∙ YieldsList-so_far all yielded c.loop-block.block-iterator c.loop-block.yielded_by in
    let turn = YieldsList-turn all yielded c.loop-block.block-iterator c.loop-block.yielded_by c.next.result c.next.new.self block c.in-Some.is c.next.ensures.steps in
    let p = err_from_is_err_and c.from_residual.result c.from_residual.ensures.1 in
    let fault = c.in_err-message.field-0.0 in
    let octets_of = unsigned_text c.args.config.now.head c.args.due.stamp in
    let first = c.args.sealer.now in
    let asks = not_taken_as g.J.Seals.payload g.J.Seals.valid g.J.Seals.answers first c.loop-block.sealer c.loop-block.invariant.same (octets_of block) fault c.in_err-message.ensures.asks in
    rw (p.1, p.2)
    (fails_at (g.J.Seals.answers first) octets_of due yielded (length yielded) block fault turn.0 so_far turn.1 c.loop-block.invariant.taken asks)
