-- What a reviewer keeps, once it was fed one more message.
use Rattle.std.proofs.Common.{◌≡◌, ◌≤◌, ℕ, ◌+◌, false, cond, List, [], ◌∷◌, ◌++◌, length, refl, subst, sym, ap, ◌∙◌, arith, length-append}
use Rattle.std.specs.Prelude.{None, count_by, sum_by}
use Rattle.std.specs.List.{cons_option}
use Rattle.std.proofs.lemmas.List.{append-nil}
use Rattle.std.proofs.lemmas.List.Sums.{sum_by_push}
use Rattle.ss_block.specs.declared.hash.HashPair.{HashPair}
use Rattle.ss_block.specs.declared.spoil.Spoil.{Spoil}
use Rattle.ss_review.specs.declared.keep.reviewer.Reviewer.{Reviewer}
use Rattle.ss_review.specs.keep.BlockMessage.{BlockMessage}
use Rattle.ss_review.specs.keep.Notes.{Note, Normal, Block, Spoilt, note}
use Rattle.ss_review.specs.keep.BlockNotes.{is_block}
use Rattle.ss_review.specs.keep.Noted.{block_octets, IsBlockOf}
use Rattle.ss_review.specs.keep.Contents.{normal_at, block_at, normals, blocks, spoilts}
use Rattle.ss_review.specs.keep.Stored.{HoldsStored}
use Rattle.ss_review.specs.keep.Keeping.{note_octets, octets_noted, Keeps}
use Rattle.ss_review.proofs.of_kept_messages.Ends.{normals_push, blocks_push, spoilts_push, count_more}

-- how many blocks and how many octets there are with one more note
more_blocks : (ns : List Note) (n : Note) → count_by is_block (ns ++ n ∷ []) ≡ count_by is_block ns + cond (is_block n) 1 0
more_blocks ns n = sum_by_push (λ m. cond (is_block m) 1 0) ns n

more_octets : (ns : List Note) (n : Note) → octets_noted (ns ++ n ∷ []) ≡ octets_noted ns + note_octets n
more_octets ns n = sum_by_push note_octets ns n

module _ (r new : Reviewer) (ns : List Note) (k : Keeps r ns) (more : new.count ≡ r.count + 1) where
  count_then : (n : Note) → new.count ≡ length (ns ++ n ∷ [])
  count_then n = more ∙ ap (λ m. m + 1) k.count ∙ sym (count_more ns n)

  -- where it isn't a block
  blocks_then : (n : Note) → block_at (length ns) n ≡ None → new.blocks ≡ r.blocks → new.blocks.items ≡ blocks (ns ++ n ∷ [])
  blocks_then n none same =
      ap (λ v. v.items) same
      ∙ k.blocks
      ∙ sym (blocks_push ns n ∙ ap (λ o. blocks ns ++ cons_option o []) none ∙ append-nil (blocks ns))

  each_then : (n : Note) → is_block n ≡ false → new.blocks ≡ r.blocks → length new.blocks.items ≡ count_by is_block (ns ++ n ∷ [])
  each_then n none same = omega (arith, ap (λ v. length v.items) same, k.each_block, more_blocks ns n, ap {B = ℕ} (λ b. cond b 1 0) none)

  octets_then : new.blocks ≡ r.blocks → sum_by block_octets new.blocks.items ≡ sum_by block_octets r.blocks.items
  octets_then same = ap (λ v. sum_by block_octets v.items) same

  pub keeps_normal : (pair : HashPair)
      → HoldsStored new.normal (normals ns ++ record { place = r.count; pair = pair } ∷ [])
      → length new.normal.pairs.items ≤ length r.normal.pairs.items + 1
      → new.blocks ≡ r.blocks
      → new.spoilt ≡ r.spoilt
      → Keeps new (ns ++ Normal pair ∷ [])
  keeps_normal pair normal few blocks spoilt = record {
    count = count_then (Normal pair);
    normal = subst (HoldsStored new.normal) (ap (λ n. normals ns ++ record { place = n; pair = pair } ∷ []) k.count ∙ sym (normals_push ns (Normal pair))) normal;
    blocks = blocks_then (Normal pair) refl blocks;
    each_block = each_then (Normal pair) refl blocks;
    spoilt = ap (λ v. v.items) spoilt ∙ k.spoilt ∙ sym (append-nil (spoilts ns)) ∙ sym (spoilts_push ns (Normal pair));
    bounded = omega (arith, few, octets_then blocks, k.bounded, more_octets ns (Normal pair));
  }

  module _ (normal : new.normal ≡ r.normal) where
    as_many : length new.normal.pairs.items ≡ length r.normal.pairs.items
    as_many = ap (λ s. length s.pairs.items) normal

    normal_then : (n : Note) → normal_at (length ns) n ≡ None → HoldsStored new.normal (normals (ns ++ n ∷ []))
    normal_then n none =
        subst (λ i. HoldsStored i (normals (ns ++ n ∷ []))) (sym normal)
        (subst (HoldsStored r.normal) (sym (normals_push ns n ∙ ap (λ o. normals ns ++ cons_option o []) none ∙ append-nil (normals ns))) k.normal)

    keeps_text : (text : List ℕ) (b : BlockMessage) → IsBlockOf r.count text b → new.blocks.items ≡ r.blocks.items ++ b ∷ [] → new.spoilt ≡ r.spoilt → Keeps new (ns ++ Block text ∷ [])
    keeps_text text b is added spoilt = record {
      count = count_then (Block text);
      normal = normal_then (Block text) refl;
      blocks =
          added
          ∙ ap (λ bs. bs ++ b ∷ []) k.blocks
          ∙ ap (λ o. blocks ns ++ cons_option o []) (sym is.block ∙ ap (λ place. block_at place (Block text)) k.count)
          ∙ sym (blocks_push ns (Block text));
      each_block = omega (arith, ap (λ bs. length bs) added, length-append r.blocks.items (b ∷ []), k.each_block, more_blocks ns (Block text));
      spoilt = ap (λ v. v.items) spoilt ∙ k.spoilt ∙ sym (append-nil (spoilts ns)) ∙ sym (spoilts_push ns (Block text));
      bounded = omega (
        arith,
        as_many,
        ap (sum_by block_octets) added,
        sum_by_push block_octets r.blocks.items b,
        is.small,
        k.bounded,
        more_octets ns (Block text),
      );
    }

    pub keeps_block : (text : List ℕ) (b : BlockMessage) → IsBlockOf r.count text b → new.blocks.items ≡ r.blocks.items ++ b ∷ [] → new.spoilt ≡ r.spoilt → Keeps new (ns ++ note text ∷ [])
    keeps_block text b is added spoilt = subst (λ n. Keeps new (ns ++ n ∷ [])) (sym is.note) (keeps_text text b is added spoilt)

    pub keeps_spoilt : (cause : Spoil) → new.blocks ≡ r.blocks → new.spoilt.items ≡ r.spoilt.items ++ record { place = r.count; cause = cause } ∷ [] → Keeps new (ns ++ Spoilt cause ∷ [])
    keeps_spoilt cause blocks spoilt = record {
      count = count_then (Spoilt cause);
      normal = normal_then (Spoilt cause) refl;
      blocks = blocks_then (Spoilt cause) refl blocks;
      each_block = each_then (Spoilt cause) refl blocks;
      spoilt =
          spoilt
          ∙ ap (λ ss. ss ++ record { place = r.count; cause = cause } ∷ []) k.spoilt
          ∙ ap (λ n. spoilts ns ++ record { place = n; cause = cause } ∷ []) k.count
          ∙ sym (spoilts_push ns (Spoilt cause));
      bounded = omega (arith, as_many, octets_then blocks, k.bounded, more_octets ns (Spoilt cause));
    }
