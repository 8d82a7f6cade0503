use Rattle.std.proofs.Common.{◌≡◌, ◌++◌, ◌∷◌, [], ap, ◌∙◌}
use Rattle.ss_origin.proofs.Submitting.{full_fits}
use Rattle.ss_origin.proofs.blocks.full_block.Goals as goal

pub signature-requires : goal.signature-requires
signature-requires c =
    let hash = c.args.hash in
    let pending = c.pending-pending.ensures in
    let hashes : c.push.new.self.items ≡ c.args.slot.now.pending ++ hash ∷ []
    = c.in_ok-push.ensures.items
    ∙ ap (λ xs. xs ++ hash ∷ []) (c.in_ok-extend_from_slice.ensures.items ∙ ap (λ xs. xs ++ c.pending-pending.result.now) c.in_ok-hashes.ensures.items ∙ pending) in
    rw (hashes, c.number.ensures, c.pending-pending.ensures)
    (full_fits c.args.config.now c.args.place.spri c.args.place.gbc c.args.slot.now hash c.requires.config c.requires.spri c.requires.group c.requires.gbc c.requires.number c.requires.hash)
