use Rattle.std.proofs.Common.{sym}
use Rattle.ss_origin.proofs.PendingRuns.{pending_fits}
use Rattle.ss_origin.proofs.blocks.push_pending.Goals as goal

pub signature-requires : goal.signature-requires
signature-requires c =
    let some = sym (rw c.pending-pending.ensures at c.if-is_empty.ensures) in
    rw (c.in_ok-hashes.ensures.items, c.number.ensures, c.pending-pending.ensures)
    (pending_fits c.args.config.now c.args.place.spri c.args.place.gbc c.args.slot.now c.requires.config c.requires.spri c.requires.group c.requires.gbc some)
