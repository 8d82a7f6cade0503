use Rattle.std.proofs.lemmas.Option.{slice_get_within}
use Rattle.ss_review.specs.keep.Contents.{blocks}
use Rattle.ss_review.specs.keep.Notes.{Block, notes}
use Rattle.ss_octets.proofs.Members.{has_from_contains}
use Rattle.ss_review.proofs.of_kept_messages.NotesTold.{block_noted}
use Rattle.ss_laws.proofs.parts.whole_reports_add_up.Goals as goal

pub returns : goal.returns
returns c = λ known says log part parts whole are cs own given. (
  c.reports_by_payloads_add_up.ensures known says log part parts whole are,
  c.missing_adds_up.ensures known says log part parts
      (record {
        within = λ b h.
            (let w = block_noted (notes log) b (has_from_contains (blocks (notes log)) b h) in
            are.within b.place (slice_get_within (notes log) b.place (Block w.0) w.1));
        sessions = whole;
      }) cs own given,
)
