-- The cut of the small log of texts keeps the premises: only the spoilt block is in the other part.
use Rattle.std.proofs.Common.{◌≡◌, ℕ, zero, suc, ◌<◌, List, [], ◌∷◌, refl, sym, ap, ◌∙◌, subst, arith}
use Rattle.std.specs.Prelude.{Option, Some, None, slice_get, Contains}
use Rattle.ss_block.specs.Reading.{signature_reading}
use Rattle.ss_block.specs.ReadingLaws.{ReadingsAreOfValues}
use Rattle.ss_block.specs.declared.hash.HashPair.{HashPair}
use Rattle.ss_block.specs.declared.spoil.Spoil.{Spoil}
use Rattle.ss_message.specs.Message.{MessageValue}
use Rattle.ss_message.specs.Octets.{is_name}
use Rattle.ss_review.specs.declared.counted.counter.Counter.{Counter}
use Rattle.ss_review.specs.keep.BlockMessage.{BlockMessage}
use Rattle.ss_review.specs.declared.keep.message.NormalMessage.{NormalMessage}
use Rattle.ss_review.specs.deliveries.SmallChains.{accepting}
use Rattle.ss_review.specs.keep.Notes.{Note, Normal, Block, Spoilt, noted, note, notes}
use Rattle.ss_review.specs.keep.Contents.{blocks, normals, contents}
use Rattle.ss_review.specs.pinned.Pinned.{blocks_by}
use Rattle.ss_laws.specs.parts.Parts.{AreParts}
use Rattle.ss_octets.proofs.Members.{has_from_contains, contains_from_has}
use Rattle.ss_review.proofs.of_kept_messages.NotesTold.{normal_noted, block_noted}
use Rattle.ss_laws.specs.parts.PartCounters.{AreBlockParts}
use Rattle.ss_laws.specs.parts.PinnedParts.{contents_by}
use Rattle.ss_laws.specs.parts.cases.TextsInParts.{spoilt_text, small_log, first_apart, sent_counters, given_first}
use Rattle.ss_laws.specs.parts.WholeParts.{AreGiven, GivenOnlyIts}
use Rattle.ss_laws.proofs.of_parts.PartTexts.{from_by}

abbrev spoilt_value : MessageValue
spoilt_value = record {
  pri = 13;
  stamp = None;
  hostname = None;
  app_name = None;
  procid = None;
  msgid = None;
  elements = record { id = 115 ∷ 115 ∷ 105 ∷ 103 ∷ 110 ∷ []; parameters = [] } ∷ [];
  msg = None;
}

record IsSpoilt : Type 0 where
  cause : Spoil
  noted_so : note spoilt_text ≡ Spoilt cause

is_spoilt : ReadingsAreOfValues → IsSpoilt
unfolding note signature_reading is_name
is_spoilt values =
    let read = values.0 spoilt_text spoilt_value
    (record { pri = omega arith; stamp = refl; hostname = refl; app_name = refl; procid = refl; msgid = refl; names = refl; raws = refl; ids = refl; msg = refl })
    refl in
    record { cause = _; noted_so = ap (noted spoilt_text) read }

-- ---- what stands at the first place

not_block : (cause : Spoil) (text : List ℕ) → ◌≡◌ {A = Option Note} (Some (Spoilt cause)) (Some (Block text)) → ⊥
not_block cause text e = cc

not_normal : (cause : Spoil) (pair : HashPair) → ◌≡◌ {A = Option Note} (Some (Spoilt cause)) (Some (Normal pair)) → ⊥
not_normal cause pair e = cc

in_two : (place : ℕ) → first_apart place < 2
in_two zero = omega arith
in_two (suc place) = omega arith

module _ (values : ReadingsAreOfValues) where
  block_at : (place : ℕ) (text : List ℕ) → slice_get (notes small_log) place ≡ Some (Block text) → first_apart place ≡ 0
  block_at zero text e =
      let is = is_spoilt values in
      absurd (not_block is.cause text (ap (λ (n : Note). Some n) (sym is.noted_so) ∙ e))
  block_at (suc place) text e = refl

  normal_at : (place : ℕ) (pair : HashPair) → slice_get (notes small_log) place ≡ Some (Normal pair) → first_apart place ≡ 0
  normal_at zero pair e =
      let is = is_spoilt values in
      absurd (not_normal is.cause pair (ap (λ (n : Note). Some n) (sym is.noted_so) ∙ e))
  normal_at (suc place) pair e = refl

  block_first : (b : BlockMessage) → Contains (blocks (notes small_log)) b → first_apart b.place ≡ 0
  block_first b h =
      let w = block_noted (notes small_log) b (has_from_contains (blocks (notes small_log)) b h) in
      block_at b.place w.0 w.1

  normal_first : (m : NormalMessage) → Contains (normals (notes small_log)) m → first_apart m.place ≡ 0
  normal_first m h =
      normal_at m.place m.pair (normal_noted (notes small_log) m (has_from_contains (normals (notes small_log)) m h))

  -- ---- what the cut keeps

  pub blocks_keep : AreBlockParts (blocks (notes small_log)) first_apart 2
  blocks_keep = record {
    within = λ b h. in_two b.place;
    sessions = λ b d h i e. block_first b h ∙ sym (block_first d i);
  }

  pub cut_keeps : (known : Option (List (List ℕ))) → AreParts accepting (contents_by known accepting (contents (notes small_log))) first_apart 2
  cut_keeps known =
      let bs = blocks (notes small_log) in
      let kept : (b : BlockMessage) → Contains (blocks_by known accepting (blocks (notes small_log))) b → Contains (blocks (notes small_log)) b
      = λ b h. contains_from_has bs b (from_by known accepting bs b (has_from_contains (blocks_by known accepting bs) b h)) in
      record {
        within = λ place below. in_two place;
        sessions = λ b d h i e. block_first b (kept b h) ∙ sym (block_first d (kept d i));
        messages = λ m k h a c has. normal_first m c ∙ sym (block_first a.message (kept a.message a.stored));
      }

  none_given : (c : Counter) → Contains [] c → ⊥
  none_given c h = has_from_contains [] c h

  given_within : (k : ℕ) (c : Counter) → Contains (given_first k) c → Contains sent_counters c
  given_within zero c h = h
  given_within (suc k) c h = absurd (none_given c h)

  given_all : (k : ℕ) (c d : Counter) → Contains (given_first k) c → Contains sent_counters d → Contains (given_first k) d
  given_all zero c d h i = i
  given_all (suc k) c d h i = absurd (none_given c h)

  at_first : (k : ℕ) (c : Counter) → Contains (given_first k) c → 0 ≡ k
  at_first zero c h = refl
  at_first (suc k) c h = absurd (none_given c h)

  pub given : AreGiven (blocks (notes small_log)) first_apart 2 sent_counters given_first
  given = record {
    within = λ k c low h. given_within k c h;
    its = λ b c h i e. subst (λ k. Contains (given_first k) c) (sym (block_first b h)) i;
    some = λ c h none. (0, omega arith, h);
    all = λ k c d low none h i e. given_all k c d h i;
  }

  pub only_its : GivenOnlyIts (blocks (notes small_log)) first_apart 2 given_first
  only_its k c b low h i e = block_first b i ∙ at_first k c h
