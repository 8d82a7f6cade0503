-- A block of a log as it stands in another log that has its text.
use Rattle.std.proofs.Common.{◌≡◌, ℕ, List, sym, ap, ◌∙◌}
use Rattle.std.specs.Prelude.{Option, Some, option_map, slice_get}
use Rattle.std.proofs.lemmas.Option.{slice_get-map}
use Rattle.ss_block.specs.Reading.{reading}
use Rattle.ss_review.specs.keep.BlockMessage.{BlockMessage, BlockContent}
use Rattle.ss_review.specs.keep.Contents.{said_in, block_with, block_in, blocks}
use Rattle.ss_review.specs.keep.Notes.{Note, Block, note, notes}
use Rattle.ss_octets.proofs.Members.{Has}
use Rattle.ss_review.proofs.of_deliveries.StoredBlocks.{noted_block}
use Rattle.ss_review.proofs.of_kept_messages.NotesTold.{IsBlockOf, has-block}
use Rattle.ss_review.proofs.of_lists.Keyed.{slice_get-has}

pub at_place : (place : ℕ) (b : BlockMessage) (t : List ℕ) → IsBlockOf b.place t b → block_in place t ≡ Some (record b { place = place })
unfolding block_in
at_place place b t told =
    (λ i. block_with place (told.said_is i) (told.session_is i) (told.signed_is i))
    ∙ ap (λ count. Some (record b { place = place; count = count })) (sym told.count_is)

block_note : (t : List ℕ) (said : BlockContent) → said_in (reading t) ≡ Some said → note t ≡ Block t
unfolding note
block_note t said e = noted_block t (reading t) said e

-- a block of one log stands in another that has its text
pub stored_too : (log : List (List ℕ)) (b : BlockMessage) (t : List ℕ) → IsBlockOf b.place t b → Has log t → (place : ℕ) × Has (blocks (notes log)) (record b { place = place })
stored_too log b t told h =
    let at = slice_get-has log t h in
    let noted_so : slice_get (notes log) at.0 ≡ Some (Block t)
    = slice_get-map note log at.0 ∙ ap (λ (o : Option (List ℕ)). option_map note o) at.1 ∙ ap (λ (p : Note). Some p) (block_note t b.said told.said_is) in
    (at.0, has-block (notes log) at.0 t (record b { place = at.0 }) noted_so (at_place at.0 b t told))
