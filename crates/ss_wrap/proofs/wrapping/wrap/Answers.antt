use Rattle.std.proofs.Common.{◌≡◌, sym, ◌∙◌}
use Rattle.ss_message.specs.declared.fault.Part.{Part}
use Rattle.ss_message.specs.declared.fault.DraftFault.{DraftFault}
use Rattle.ss_message.specs.declared.fault.DraftFault.TheVariants.{Bad, Memory}
use Rattle.ss_wrap.proofs.Wraps.{draft_is_message}
use Rattle.ss_wrap.proofs.wrapping.wrap.Goals as goal

not_both : (f : DraftFault) (part : Part) → f ≡ Bad part → f ≡ Memory → ⊥
not_both f part bad memory =
    let same : Bad part ≡ Memory = sym bad ∙ memory in
    absurd cc

-- a draft of a message isn't refused
pub unreachable-requires : goal.unreachable-requires
unreachable-requires c =
    let valid = draft_is_message c.in_ok-draft.draft c.args.head.now c.args.stamp c.args.octets.now c.in_ok-draft.ensures c.assure_in_range.ensures c.assure_timestamp.ensures in
    not_both c.in-Err-Bad.field-0 c.in-Err-Bad.field-0-0 c.in-Err-Bad.field-0-is (c.in-Err-Bad.ensures.only valid)
