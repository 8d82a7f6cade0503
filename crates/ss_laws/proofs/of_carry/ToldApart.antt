-- Messages of a log differ in their places: one place has one message.
use Rattle.std.proofs.Common.{◌≡◌, ℕ, Bool, List, map, sym, ap, ◌∙◌, subst}
use Rattle.std.specs.Prelude.{Some, slice_get}
use Rattle.std.specs.Ordering.{nat_cmp}
use Rattle.std.specs.List.Sorted.{IsStrictlySortedBy}
use Rattle.std.specs.Cmp.{nat_cmp_total}
use Rattle.std.proofs.lemmas.Map.Lookups.{exact_unsigned}
use Rattle.ss_review.specs.declared.keep.message.NormalMessage.{NormalMessage}
use Rattle.ss_review.specs.keep.BlockMessage.{BlockMessage}
use Rattle.ss_review.specs.declared.keep.spoilt.SpoiltPlace.{SpoiltPlace}
use Rattle.ss_review.specs.keep.Notes.{Note, Normal, Block, Spoilt, notes}
use Rattle.ss_review.specs.keep.Contents.{Contents, blocks, contents}
use Rattle.ss_octets.proofs.Members.{Has, from_has-filter}
use Rattle.ss_review.proofs.of_lists.Keyed.{one_of_key, keys_rise-filter}
use Rattle.ss_review.proofs.of_kept_messages.NotesTold.{normal_noted, block_noted, spoilt_noted}
use Rattle.ss_review.proofs.of_kept_messages.PlacesRise.{normals_rise, blocks_rise}
use Rattle.ss_laws.specs.carry.Nights.{at_places, AreContents}

pub record AreApart (log : Contents) : Type 0 where
  pub blocks : (b d : BlockMessage) → Has log.blocks b → Has log.blocks d → b.place ≡ d.place → b ≡ d
  pub normals_rise : IsStrictlySortedBy nat_cmp (map (λ (m : NormalMessage). m.place) log.normal)
  pub block_normal : (b : BlockMessage) (m : NormalMessage) → Has log.blocks b → Has log.normal m → b.place ≡ m.place → ⊥
  pub spoilt_block : (s : SpoiltPlace) (b : BlockMessage) → Has log.spoilt s → Has log.blocks b → s.place ≡ b.place → ⊥
  pub spoilt_normal : (s : SpoiltPlace) (m : NormalMessage) → Has log.spoilt s → Has log.normal m → s.place ≡ m.place → ⊥

no_block : (ns : List Note) (text : List ℕ) (place other : ℕ) (n : Note) → place ≡ other → slice_get ns place ≡ Some (Block text) → slice_get ns other ≡ Some n → Some (Block text) ≡ Some n
no_block ns text place other n e f g = sym f ∙ ap (slice_get ns) e ∙ g

no_normal : (ns : List Note) (place other : ℕ) (m : NormalMessage) (s : SpoiltPlace) → place ≡ other → slice_get ns place ≡ Some (Spoilt s.cause) → slice_get ns other ≡ Some (Normal m.pair)
    → Some (Spoilt s.cause) ≡ Some (Normal m.pair)
no_normal ns place other m s e f g = sym f ∙ ap (slice_get ns) e ∙ g

block_or_normal : (text : List ℕ) (m : NormalMessage) → Some (Block text) ≡ Some (Normal m.pair) → ⊥
block_or_normal text m e = cc

block_or_spoilt : (text : List ℕ) (s : SpoiltPlace) → Some (Block text) ≡ Some (Spoilt s.cause) → ⊥
block_or_spoilt text s e = cc

spoilt_or_normal : (s : SpoiltPlace) (m : NormalMessage) → Some (Spoilt s.cause) ≡ Some (Normal m.pair) → ⊥
spoilt_or_normal s m e = cc

pub notes_apart : (ns : List Note) → AreApart (contents ns)
notes_apart ns = record {
  blocks = λ b d h i e. one_of_key nat_cmp_total exact_unsigned (λ (m : BlockMessage). m.place) (blocks ns) (blocks_rise ns) b d h i e;
  normals_rise = normals_rise ns;
  block_normal = λ b m h i e.
      (let w = block_noted ns b h in block_or_normal w.0 m (no_block ns w.0 b.place m.place (Normal m.pair) e w.1 (normal_noted ns m i)));
  spoilt_block = λ s b h i e.
      (let w = block_noted ns b i in block_or_spoilt w.0 s (no_block ns w.0 b.place s.place (Spoilt s.cause) (sym e) w.1 (spoilt_noted ns s h)));
  spoilt_normal = λ s m h i e. spoilt_or_normal s m (no_normal ns s.place m.place m s e (spoilt_noted ns s h) (normal_noted ns m i));
}

pub apart_at : (is : ℕ → Bool) (log : Contents) → AreApart log → AreApart (at_places is log)
apart_at is log a = record {
  blocks = λ b d h i e. a.blocks b d (block b h) (block d i) e;
  normals_rise = keys_rise-filter (λ (m : NormalMessage). m.place) nat_cmp (λ (m : NormalMessage). is m.place) log.normal a.normals_rise;
  block_normal = λ b m h i e. a.block_normal b m (block b h) (normal m i) e;
  spoilt_block = λ s b h i e. a.spoilt_block s b (spoilt s h) (block b i) e;
  spoilt_normal = λ s m h i e. a.spoilt_normal s m (spoilt s h) (normal m i) e;
}
  where
    block : (b : BlockMessage) → Has (at_places is log).blocks b → Has log.blocks b
    block b h = (from_has-filter (λ (d : BlockMessage). is d.place) log.blocks b h).0

    normal : (m : NormalMessage) → Has (at_places is log).normal m → Has log.normal m
    normal m h = (from_has-filter (λ (n : NormalMessage). is n.place) log.normal m h).0

    spoilt : (s : SpoiltPlace) → Has (at_places is log).spoilt s → Has log.spoilt s
    spoilt s h = (from_has-filter (λ (t : SpoiltPlace). is t.place) log.spoilt s h).0

pub are_apart : (is : ℕ → Bool) (whole : Contents) → AreContents whole → AreApart (at_places is whole)
are_apart is whole are = apart_at is whole (subst AreApart (sym are.1) (notes_apart (notes are.0)))
