-- What two logs hold, one after the other.
use Rattle.std.proofs.Common.{◌≡◌, ℕ, ◌+◌, List, [], ◌∷◌, ◌++◌, length, map, refl, sym, ap, ◌∙◌, arith, length-append}
use Rattle.std.specs.Prelude.{Option, Some, None, option_map}
use Rattle.std.specs.List.{enumerate_from, filter_map, cons_option}
use Rattle.ss_review.specs.keep.Notes.{Note, note, notes}
use Rattle.ss_review.specs.keep.Contents.{normal_at, block_at, spoilt_at, normals, blocks, spoilts, contents}
use Rattle.ss_laws.specs.nights.WholeRows.{LogsArePutTogether}
use Rattle.std.proofs.lemmas.List.{map-append}
use Rattle.ss_laws.specs.parts.Parts.{moved_spoilt}
use Rattle.ss_laws.proofs.of_parts.MovedBlocks.{moved_block}
use Rattle.ss_laws.proofs.of_parts.MovedReports.{moved_normal}
use Rattle.ss_review.proofs.of_lists.Mapped.{map-cons_option}
use Rattle.ss_laws.proofs.of_parts.Moves.{normal_moves, block_moves, spoilt_moves}

-- ---- notes of two logs

module _ {Y : Type 0} (at : ℕ → Note → Option Y) (move : (ℕ → ℕ) → Y → Y)
    (moves : (f : ℕ → ℕ) (p : ℕ) (n : Note) → option_map (move f) (at p n) ≡ at (f p) n) where
  abbrev tell : ℕ × Note → Option Y
  tell n = at n.0 n.1

  abbrev told_from : ℕ → List Note → List Y
  told_from k ns = filter_map tell (enumerate_from k ns)

  moved_on : (by k : ℕ) (ns : List Note) → told_from (by + k) ns ≡ map (move (λ p. by + p)) (told_from k ns)
  moved_on by k [] = refl
  moved_on by k (n ∷ ns) =
      let next : by + k + 1 ≡ by + (k + 1) = omega arith in
      ap (λ o. cons_option o (told_from (by + k + 1) ns)) (sym (moves (λ p. by + p) k n))
      ∙ ap (λ q. cons_option (option_map (move (λ p. by + p)) (at k n)) (told_from q ns)) next
      ∙ ap (cons_option (option_map (move (λ p. by + p)) (at k n))) (moved_on by (k + 1) ns)
      ∙ sym (map-cons_option (move (λ p. by + p)) (at k n) (told_from (k + 1) ns))

  cons_more : (o : Option Y) (ys zs : List Y) → cons_option o (ys ++ zs) ≡ cons_option o ys ++ zs
  cons_more None ys zs = refl
  cons_more (Some y) ys zs = refl

  from_both : (k : ℕ) (ms ns : List Note) → told_from k (ms ++ ns) ≡ told_from k ms ++ told_from (length ms + k) ns
  from_both k [] ns =
      let same : k ≡ 0 + k = omega arith in
      ap (λ q. told_from q ns) same
  from_both k (m ∷ ms) ns =
      let next : length ms + (k + 1) ≡ length (m ∷ ms) + k = omega arith in
      ap (cons_option (at k m)) (from_both (k + 1) ms ns)
      ∙ cons_more (at k m) (told_from (k + 1) ms) (told_from (length ms + (k + 1)) ns)
      ∙ ap (λ q. cons_option (at k m) (told_from (k + 1) ms) ++ told_from q ns) next

  pub told_both : (ms ns : List Note) → told_from 0 (ms ++ ns) ≡ told_from 0 ms ++ map (move (λ p. length ms + p)) (told_from 0 ns)
  told_both ms ns = from_both 0 ms ns ∙ ap (λ ys. told_from 0 ms ++ ys) (moved_on (length ms) 0 ns)

-- ---- messages, by what they are

-- the place in both logs of what stands at a place of the second one
abbrev pub after : List Note → ℕ → ℕ
after ms place = length ms + place

pub normals_both : (ms ns : List Note) → normals (ms ++ ns) ≡ normals ms ++ map (moved_normal (after ms)) (normals ns)
unfolding normals
normals_both ms ns = told_both normal_at moved_normal normal_moves ms ns

pub blocks_both : (ms ns : List Note) → blocks (ms ++ ns) ≡ blocks ms ++ map (moved_block (after ms)) (blocks ns)
unfolding blocks
blocks_both ms ns = told_both block_at moved_block block_moves ms ns

pub spoilts_both : (ms ns : List Note) → spoilts (ms ++ ns) ≡ spoilts ms ++ map (moved_spoilt (after ms)) (spoilts ns)
unfolding spoilts
spoilts_both ms ns = told_both spoilt_at moved_spoilt spoilt_moves ms ns

pub put_together_is : LogsArePutTogether
put_together_is log next =
    ap contents (map-append note log next)
    ∙ (λ i. record {
      normal = normals_both (notes log) (notes next) i;
      blocks = blocks_both (notes log) (notes next) i;
      spoilt = spoilts_both (notes log) (notes next) i;
      count = length-append (notes log) (notes next) i;
    })
