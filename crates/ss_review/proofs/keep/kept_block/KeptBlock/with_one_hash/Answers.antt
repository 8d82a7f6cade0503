use Rattle.std.proofs.Common.{◌≡◌, ℕ, zero, suc, ◌≤◌, true, List, [], ◌∷◌, length, take, refl, sym, subst, arith}
use Rattle.std.specs.List.{list_all}
use Rattle.std.proofs.lemmas.Bool.{and_parts, and_from}
use Rattle.std.proofs.lemmas.List.{length-take}
use Rattle.ss_block.specs.Block as block
use Rattle.ss_block.specs.Block.{is_of}
use Rattle.ss_block.specs.declared.block.Group.{Group}
use Rattle.ss_block.specs.declared.hash.Hash.{Hash}
use Rattle.ss_block.specs.declared.session_places.SessionPlaces.{SessionPlaces}
use Rattle.ss_review.specs.declared.keep.kept_content.KeptContent.{KeptContent}
use Rattle.ss_review.specs.declared.keep.kept_content.KeptContent.TheVariants as kept
use Rattle.ss_review.specs.declared.keep.packed.Packed.{Packed}
use Rattle.ss_review.specs.keep.KeptBlock.{AreKept}
use Rattle.ss_review.specs.keep.Kept.{IsKept}
use Rattle.ss_review.specs.keep.KeptSender.{places_at}
use Rattle.ss_review.specs.keep.Packed.{signature_packed, hashes_packed}
use Rattle.ss_review.proofs.keep.kept_block.KeptBlock.with_one_hash.Goals as goal

-- a block with some of these hashes, and the block with the first alone
first_valid : (b : block.Signature) (hs : List Hash) (held : ℕ) → block.IsSignature (record b { hashes = take held hs }) → block.IsSignature (record b { hashes = take 1 hs })
first_valid b [] held valid = let some = valid.some_hash in absurd (omega (arith, length-take {A = Hash} held []))
first_valid b (h ∷ hs) zero valid = let some = valid.some_hash in absurd (omega arith)
first_valid b (h ∷ hs) (suc held) valid =
    let of_alg = and_parts (is_of b.alg h) (list_all (is_of b.alg) (take held hs)) valid.hashes in
    let last = valid.last in
    record {
      rsid = valid.rsid;
      group = valid.group;
      gbc = valid.gbc;
      some_first = valid.some_first;
      some_hash = omega arith;
      at_most_99_hashes = omega arith;
      hashes = and_from (is_of b.alg h) true of_alg.0 refl;
      last = omega arith;
    }

some_held : {A : Type 0} (hs : List A) (held : ℕ) → 1 ≤ length (take held hs) → 1 ≤ held
some_held hs held some = omega (arith, length-take held hs)

one_held : {A : Type 0} (hs : List A) → length (take 1 hs) ≤ 1
one_held hs = omega (arith, length-take 1 hs)

pub returns-in-Hashes-clause-few : goal.returns-in-Hashes-clause-few
returns-in-Hashes-clause-few c = one_held (hashes_packed c.deref_mut-fields.result.now.packed)

shortened : (sender : SessionPlaces) (content : KeptContent) (packed : Packed) (group : Group) (gbc first held : ℕ)
    → IsKept sender content packed
    → content ≡ kept.Hashes group gbc first held
    → IsKept sender (kept.Hashes group gbc first 1) packed
shortened sender content packed group gbc first held agrees is =
    let k = subst (λ k. IsKept sender k packed) is agrees in
    let some = some_held (hashes_packed packed) held k.valid.some_hash in
    let most = k.text in
    record {
      hashes = k.hashes;
      head = k.head;
      text = omega arith;
      valid = first_valid (record { alg = packed.alg; rsid = sender.rsid; group = group; gbc = gbc; first = first; hashes = []; signature = signature_packed packed }) (hashes_packed packed) held k.valid;
    }

pub invariant_of-self : goal.invariant_of-self
invariant_of-self c =
    let f = c.deref_mut-fields.result.now in
    let same : f ≡ c.self.inside.fields.value = c.deref_mut-fields.ensures.value in
    shortened (places_at f.sender) f.content f.packed c.in-Hashes.group c.in-Hashes.gbc c.in-Hashes.first c.in-Hashes.held (subst AreKept (sym same) c.self.invariant) c.in-Hashes.is
