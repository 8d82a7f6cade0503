use Rattle.std.proofs.Common.{◌≡◌, ◌<◌, ◌++◌, [], Some, length, take, sym, ap, subst, ◌∙◌, arith, append_assoc}
use Rattle.std.specs.Prelude.{slice_get}
use Rattle.std.specs.List.{list_any}
use Rattle.std.specs.Ordering.{nat_cmp}
use Rattle.std.specs.BTreeMap.{is_at}
use Rattle.std.proofs.lemmas.List.{append-nil, take_all}
use Rattle.std.proofs.lemmas.Option.{get_or_from_slice_get, slice_get_within}
use Rattle.ss_review.specs.keep.Contents.{block_at, blocks}
use Rattle.ss_review.specs.keep.Notes.{note, notes}
use Rattle.ss_review.specs.Ordered.{in_order}
use Rattle.ss_review.proofs.of_kept_messages.PlacesRise.{blocks_rise}
use Rattle.ss_report.specs.runs.CarriedSoFar.{KnowsExtents, carried_along, carried_at, extent_cmp}
use Rattle.ss_report.proofs.of_carrying.Carried.{along_more, blocks_more, carried_is}
use Rattle.ss_report.proofs.of_reading.HeldTexts.{none_left}
use Rattle.ss_report.proofs.runs.carrying.carried_places.Goals as goal

pub overflow_add-place : goal.overflow_add-place
overflow_add-place c =
    let there : c.loop-text.place < length c.args.messages.now = slice_get_within c.args.messages.now c.loop-text.place c.in-Some.text.now (sym c.in-Some.ensures) in
    omega (arith, there, c.requires.few)

pub loop-text-init : goal.loop-text-init
unfolding blocks
loop-text-init c = record {
  within = omega arith;
  places = c.in_ok-places.ensures.items ∙ c.as_slice.ensures ∙ sym (append-nil c.args.report.now.unlisted);
  known = λ e. ap (list_any (is_at (extent_cmp e))) c.new-known.ensures.empty;
}

pub loop-text-smaller : goal.loop-text-smaller
loop-text-smaller c =
    let there : c.loop-text.place < length c.args.messages.now = slice_get_within c.args.messages.now c.loop-text.place c.in-Some.text.now (sym c.in-Some.ensures) in
    omega (arith, there)

pub loop-text-preserved : goal.loop-text-preserved
loop-text-preserved c =
    let inv = c.loop-text.invariant in
    let i = c.loop-text.place in
    let r = c.args.report.now in
    let ms = c.args.messages.now in
    let before = blocks (notes (take i ms)) in
    let text = c.in-Some.text.now in
    let found : slice_get ms i ≡ Some text = sym c.in-Some.ensures in
    let there : i < length ms = slice_get_within ms i text found in
    let more = blocks_more ms i text text there (sym (get_or_from_slice_get ms i text text found)) in
    let o = block_at i (note text) in
    record {
      within = omega (arith, there);
      places =
          c.in_ok-carry_message.ensures.carried before inv.known
          ∙ (λ k. inv.places k ++ carried_at r before o)
          ∙ append_assoc r.unlisted (carried_along r [] before) (carried_at r before o)
          ∙ ap (λ ps. r.unlisted ++ ps) (sym (along_more r [] before o))
          ∙ ap (λ bs. r.unlisted ++ carried_along r [] bs) (sym more);
      known = subst (λ bs. KnowsExtents r bs c.carry_message.new.carried.known) (sym more) (c.in_ok-carry_message.ensures.known before inv.known);
    }

pub returns : goal.returns
returns c =
    let r = c.args.report.now in
    let ms = c.args.messages.now in
    c.from_vec.ensures
    ∙ c.put_in_order.ensures
    ∙ ap (in_order nat_cmp) (c.loop-text.invariant.places ∙ ap (λ l. r.unlisted ++ carried_along r [] (blocks (notes l))) (take_all c.loop-text.place ms (none_left ms c.loop-text.place (sym c.in_default.ensures))))
    ∙ carried_is r (blocks (notes ms)) (blocks_rise (notes ms))
