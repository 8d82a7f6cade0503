use Rattle.std.proofs.Common.{◌≡◌, ◌≢◌, Bool, false, ◌&&◌, refl, sym, ap, ◌∙◌}
use Rattle.std.specs.declared.cmp.Ordering.{Ordering}
use Rattle.std.specs.declared.cmp.Ordering.TheVariants.{Less, Equal, Greater}
use Rattle.std.specs.Ordering.{is_eq}
use Rattle.ss_review.specs.assign.Assigned.{has_hash}
use Rattle.ss_review.specs.assign.StoredHashes.{start_of, start_cmp}
use Rattle.ss_review.proofs.of_assignment.ListedHashes.{begun_has}
use Rattle.ss_review.proofs.assign.hash_entry.entry_has.Goals as goal

alike : (c : Ordering) (b : Bool) → c ≡ Equal → b ≡ (is_eq c && b)
alike Less b e = absurd (cc)
alike Equal b e = refl
alike Greater b e = absurd (cc)

apart : (c : Ordering) (b : Bool) → c ≢ Equal → false ≡ (is_eq c && b)
apart Less b n = refl
apart Equal b n = absurd (n refl)
apart Greater b n = refl

pub returns-in-Equal : goal.returns-in-Equal
returns-in-Equal c =
    let e = c.args.entry.now in
    let h = c.args.hash.now in
    c.pair_has.ensures
    ∙ ap (has_hash h) c.pair_at.ensures
    ∙ alike (start_cmp e.start (start_of h)) _ (sym (c.compare.ensures ∙ ap (start_cmp e.start) c.of.ensures) ∙ c.in-Equal.is)
    ∙ begun_has c.args.pairs.now e h

pub returns-in_default : goal.returns-in_default
returns-in_default c =
    let e = c.args.entry.now in
    let h = c.args.hash.now in
    apart (start_cmp e.start (start_of h)) _ (λ s. c.in_default.not-Equal (c.compare.ensures ∙ ap (start_cmp e.start) c.of.ensures ∙ s))
    ∙ begun_has c.args.pairs.now e h
