use Rattle.std.proofs.Common.{◌≡◌, inl, true, sym, ap, ◌∙◌, subst}
use Rattle.std.specs.Prelude.{Some, slice_get}
use Rattle.ss_block.specs.Hashes.{pair, hash_of}
use Rattle.ss_review.specs.keep.Notes.{notes}
use Rattle.ss_review.specs.keep.Contents.{normals, contents}
use Rattle.ss_review.specs.assign.Assigned.{has_hash}
use Rattle.ss_review.specs.assign.Listing.{IsDue}
use Rattle.ss_review.specs.deliveries.Delivery.{is_normal}
use Rattle.ss_review.specs.deliveries.DeliveryLaws.{says, HasItsHash}
use Rattle.ss_octets.proofs.Members.{has_from_contains}
use Rattle.ss_review.proofs.of_deliveries.OwnKeys.{own_alg}
use Rattle.ss_review.proofs.of_reports.Witnesses.{stored_normal, hash_is}
use Rattle.ss_review.proofs.laws.deliveries.listed_have_their_hash.Goals as goal

pub returns : goal.returns
returns c = λ x is k place own listed.
    (let its : HasItsHash x k = (c.announced_by_blocks.ensures x is k own).1 (inl (place, listed)) in
    let due : IsDue (says x) (contents (notes x.log)) k place
    = ((c.reports_list_what_is_announced.ensures (says x) x.log).due k place).0 listed in
    let alg = x.s.config.alg in
    let hash : due.wants.hash ≡ hash_of alg its.message = its.no_other due.wants.hash due.wants.announced in
    let t = stored_normal x.log due.message (has_from_contains (normals (notes x.log)) due.message due.stored) in
    let has : has_hash (hash_of alg its.message) (pair t.0) ≡ true
    = ap (has_hash (hash_of alg its.message)) (t.3 ∙ sym due.wants.pair_is)
    ∙ ap (λ h. has_hash h due.wants.bearer.pair) (sym hash)
    ∙ due.wants.is_bearer.has in
    record {
      given = its.message;
      given_is = its.given;
      stored = t.0;
      stored_is = subst (λ i. slice_get x.log i ≡ Some t.0) due.place_is t.1;
      no_block = ap is_normal t.2;
      same_hash = sym (hash_is alg (hash_of alg its.message) t.0 (own_alg alg (pair its.message)) has);
    })
