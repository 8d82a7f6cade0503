-- The block that a message is noted with is the one that its text holds.
use Rattle.std.proofs.Common.{◌≡◌, ℕ, ◌+◌, ◌≤◌, false, List, [], ◌∷◌, ◌++◌, length, map, refl, sym, ap, ◌∙◌, subst}
use Rattle.std.specs.Prelude.{Option, Some, None, All, IfSome}
use Rattle.std.specs.List.{cons_option}
use Rattle.std.proofs.lemmas.List.{map-append, append-nil}
use Rattle.std.proofs.lemmas.List.Elements.{All-push}
use Rattle.ss_block.specs.declared.reading.Reading.{Reading}
use Rattle.ss_block.specs.declared.reading.Reading.TheVariants.{Plain, Unparsed, Signature, Certificate, Spoilt}
use Rattle.ss_block.specs.Mark.{has_block_element}
use Rattle.ss_block.specs.Reading.{reading}
use Rattle.ss_block.specs.Session.{session}
use Rattle.ss_block.specs.Signed.{signed}
use Rattle.ss_review.specs.keep.BlockMessage.{BlockMessage}
use Rattle.ss_review.specs.declared.questions.questioner.Questioner.{Questioner}
use Rattle.ss_review.specs.keep.Notes.{Note, noted, note}
use Rattle.ss_review.specs.keep.Contents.{said_in, block_with, block_in, block_at, blocks}
use Rattle.ss_review.specs.questions.Questions.{needed}
use Rattle.ss_review.specs.keep.Keeping.{KeepsBlocks}
use Rattle.ss_review.specs.questions.Shortened.{hash_count}
use Rattle.ss_review.proofs.of_kept_messages.Ends.{blocks_push, count_more}

held : (place : ℕ) (text : List ℕ) (r : Reading) → r ≡ reading text → block_in place text ≡ block_at place (noted text r)
unfolding block_in
held place text Plain e = ap (λ q. block_with place (said_in q) (session text) (signed text)) (sym e)
held place text (Unparsed part pos) e = ap (λ q. block_with place (said_in q) (session text) (signed text)) (sym e)
held place text (Signature b) e = refl
held place text (Certificate b) e = refl
held place text (Spoilt cause) e = ap (λ q. block_with place (said_in q) (session text) (signed text)) (sym e)

pub block_held : (place : ℕ) (text : List ℕ) → block_in place text ≡ block_at place (note text)
unfolding note
block_held place text = held place text (reading text) refl

none_noted : (place : ℕ) (text : List ℕ) (r : Reading) → has_block_element r ≡ false → block_at place (noted text r) ≡ None
none_noted place text Plain e = refl
none_noted place text (Unparsed part pos) e = refl
none_noted place text (Signature b) e = absurd cc
none_noted place text (Certificate b) e = absurd cc
none_noted place text (Spoilt cause) e = refl

-- a text without the element of a block holds none
pub none_held : (place : ℕ) (text : List ℕ) → has_block_element (reading text) ≡ false → block_at place (note text) ≡ None
unfolding note
none_held place text e = none_noted place text (reading text) e

-- a questioner of one more message
pub keeps_held : (q new : Questioner) (ns : List Note) (n : Note) (k : KeepsBlocks q ns) (held : Option BlockMessage)
    → map needed (cons_option held []) ≡ map needed (cons_option (block_at q.count n) [])
    → new.count ≡ q.count + 1
    → new.blocks.items ≡ q.blocks.items ++ cons_option held []
    → KeepsBlocks new (ns ++ n ∷ [])
keeps_held q new ns n k held is more blocks_are = record {
  count = more ∙ ap (λ m. m + 1) k.count ∙ sym (count_more ns n);
  blocks =
      ap (map needed) blocks_are
      ∙ map-append needed q.blocks.items (cons_option held [])
      ∙ ap (λ ds. ds ++ map needed (cons_option held [])) k.blocks
      ∙ ap (λ ds. map needed (blocks ns) ++ ds) (is ∙ ap (λ place. map needed (cons_option (block_at place n) [])) k.count)
      ∙ sym (map-append needed (blocks ns) (cons_option (block_at (length ns) n) []))
      ∙ ap (map needed) (sym (blocks_push ns n));
}

few_held : (bs : List BlockMessage) (held : Option BlockMessage)
    → IfSome held (λ b. hash_count b.said ≤ 1)
    → All (λ b. hash_count b.said ≤ 1) bs
    → All (λ b. hash_count b.said ≤ 1) (bs ++ cons_option held [])
few_held bs None one few = subst (All (λ b. hash_count b.said ≤ 1)) (sym (append-nil bs)) few
few_held bs (Some d) one few = All-push (λ b. hash_count b.said ≤ 1) bs d few one

-- one more block with few hashes
pub keeps_few : (bs kept : List BlockMessage) (held : Option BlockMessage)
    → IfSome held (λ b. hash_count b.said ≤ 1)
    → All (λ b. hash_count b.said ≤ 1) bs
    → kept ≡ bs ++ cons_option held []
    → All (λ b. hash_count b.said ≤ 1) kept
keeps_few bs kept held one few kept_are = subst (All (λ b. hash_count b.said ≤ 1)) (sym kept_are) (few_held bs held one few)
