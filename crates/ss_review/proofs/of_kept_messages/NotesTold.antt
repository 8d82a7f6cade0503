-- What a note at a place is told as, and the note of what is told.
use Rattle.std.proofs.Common.{◌≡◌, ℕ, ◌+◌, List, refl, sym, ap, ◌∙◌, subst, arith}
use Rattle.std.specs.Prelude.{Option, Some, None, slice_get}
use Rattle.std.specs.List.{enumerate_from, filter_map}
use Rattle.std.proofs.lemmas.Option.{same_Some}
use Rattle.ss_block.specs.declared.session.Session.{Session}
use Rattle.ss_block.specs.Reading.{reading}
use Rattle.ss_block.specs.Session.{session}
use Rattle.ss_block.specs.Signed.{signed}
use Rattle.ss_review.specs.declared.keep.message.NormalMessage.{NormalMessage}
use Rattle.ss_review.specs.keep.BlockMessage.{BlockMessage, BlockContent}
use Rattle.ss_review.specs.declared.keep.spoilt.SpoiltPlace.{SpoiltPlace}
use Rattle.ss_review.specs.keep.Notes.{Note, Normal, Block, Spoilt}
use Rattle.ss_review.specs.questions.Shortened.{hash_count}
use Rattle.ss_review.specs.keep.Contents.{said_in, block_with, block_in, normal_at, block_at, spoilt_at, normals, blocks, spoilts}
use Rattle.ss_review.proofs.of_numbers.Announcements.{numbered_from, has-numbered}
use Rattle.ss_octets.proofs.Members.{Has, has-filter_map, from_has-filter_map}

-- ---- messages without a block

pub normal_told : (place : ℕ) (n : Note) (m : NormalMessage) → normal_at place n ≡ Some m → (n ≡ Normal m.pair) × (m.place ≡ place)
normal_told place (Normal pair) m e =
    let it : record { place = place; pair = pair } ≡ m = same_Some _ _ e in
    (ap (λ (x : NormalMessage). Normal x.pair) it, sym (ap (λ (x : NormalMessage). x.place) it))
normal_told place (Block text) m e = absurd (cc)
normal_told place (Spoilt cause) m e = absurd (cc)

pub normal_place : (place : ℕ) (n : Note) (m : NormalMessage) → normal_at place n ≡ Some m → m.place ≡ place
normal_place place n m e = (normal_told place n m e).1

-- ---- spoilt messages

pub spoilt_told : (place : ℕ) (n : Note) (s : SpoiltPlace) → spoilt_at place n ≡ Some s → (n ≡ Spoilt s.cause) × (s.place ≡ place)
spoilt_told place (Normal pair) s e = absurd (cc)
spoilt_told place (Block text) s e = absurd (cc)
spoilt_told place (Spoilt cause) s e =
    let it : record { place = place; cause = cause } ≡ s = same_Some _ _ e in
    (ap (λ (x : SpoiltPlace). Spoilt x.cause) it, sym (ap (λ (x : SpoiltPlace). x.place) it))

pub spoilt_place : (place : ℕ) (n : Note) (s : SpoiltPlace) → spoilt_at place n ≡ Some s → s.place ≡ place
spoilt_place place n s e = (spoilt_told place n s e).1

-- ---- blocks

-- the block of a text, with what the text says, its session and its signed octets
pub record IsBlockOf (place : ℕ) (text : List ℕ) (b : BlockMessage) : Type 0 where
  pub place_is : b.place ≡ place
  pub count_is : b.count ≡ hash_count b.said
  pub said_is : said_in (reading text) ≡ Some b.said
  pub session_is : session text ≡ Some b.session
  pub signed_is : signed text ≡ Some b.signed

block_parts : (place : ℕ) (said : Option BlockContent) (s : Option Session) (octets : Option (List ℕ)) (b : BlockMessage) → block_with place said s octets ≡ Some b
    → (b.place ≡ place) × (b.count ≡ hash_count b.said) × (said ≡ Some b.said) × (s ≡ Some b.session) × (octets ≡ Some b.signed)
block_parts place (Some said) (Some s) (Some octets) b e =
    let it : record { place = place; count = hash_count said; session = s; said = said; signed = octets } ≡ b = same_Some _ _ e in (
      sym (ap (λ (x : BlockMessage). x.place) it),
      sym (ap (λ (x : BlockMessage). x.count) it) ∙ ap (λ (x : BlockMessage). hash_count x.said) it,
      ap (λ (x : BlockMessage). Some x.said) it,
      ap (λ (x : BlockMessage). Some x.session) it,
      ap (λ (x : BlockMessage). Some x.signed) it,
    )
block_parts place (Some said) (Some s) None b e = absurd (cc)
block_parts place (Some said) None octets b e = absurd (cc)
block_parts place None s octets b e = absurd (cc)

pub block_read : (place : ℕ) (text : List ℕ) (b : BlockMessage) → block_in place text ≡ Some b → IsBlockOf place text b
unfolding block_in
block_read place text b e =
    let parts = block_parts place (said_in (reading text)) (session text) (signed text) b e in
    record { place_is = parts.0; count_is = parts.1; said_is = parts.2; session_is = parts.3; signed_is = parts.4 }

pub block_told : (place : ℕ) (n : Note) (b : BlockMessage) → block_at place n ≡ Some b → (text : List ℕ) × (n ≡ Block text) × IsBlockOf place text b
block_told place (Normal pair) b e = absurd (cc)
block_told place (Block text) b e = (text, refl, block_read place text b e)
block_told place (Spoilt cause) b e = absurd (cc)

pub block_place : (place : ℕ) (n : Note) (b : BlockMessage) → block_at place n ≡ Some b → b.place ≡ place
block_place place n b e = (block_told place n b e).2.place_is

-- ---- the note at a place

-- what notes are told as comes from the note at a place, and what that note is told as is there
module _ {Y : Type 0} (f : ℕ × Note → Option Y) (ns : List Note) where
  note_of : (y : Y) → Has (filter_map f (enumerate_from 0 ns)) y → (place : ℕ) × (n : Note) × (slice_get ns place ≡ Some n) × (f (place, n) ≡ Some y)
  note_of y h =
      let w : (n : ℕ × Note) × Has (enumerate_from 0 ns) n × (f n ≡ Some y) = from_has-filter_map f (enumerate_from 0 ns) y h in
      let i = numbered_from 0 ns w.0 w.1 in
      let at : i.0 ≡ w.0.0 = omega (arith, i.1) in
      (w.0.0, w.0.1, subst (λ k. slice_get ns k ≡ Some w.0.1) at i.2, w.2)

  has-note : (place : ℕ) (n : Note) (y : Y) → slice_get ns place ≡ Some n → f (place, n) ≡ Some y → Has (filter_map f (enumerate_from 0 ns)) y
  has-note place n y e t =
      let at : 0 + place ≡ place = omega arith in
      has-filter_map f (enumerate_from 0 ns) (place, n) y (subst (λ k. Has (enumerate_from 0 ns) (k, n)) at (has-numbered 0 ns place n e)) t

pub normal_noted : (ns : List Note) (m : NormalMessage) → Has (normals ns) m → slice_get ns m.place ≡ Some (Normal m.pair)
unfolding normals
normal_noted ns m h =
    let w : (place : ℕ) × (n : Note) × (slice_get ns place ≡ Some n) × (normal_at place n ≡ Some m) = note_of (λ (n : ℕ × Note). normal_at n.0 n.1) ns m h in
    let told = normal_told w.0 w.1 m w.3 in
    ap (slice_get ns) told.1 ∙ w.2 ∙ ap (λ (n : Note). Some n) told.0

pub block_noted : (ns : List Note) (b : BlockMessage) → Has (blocks ns) b → (text : List ℕ) × (slice_get ns b.place ≡ Some (Block text)) × IsBlockOf b.place text b
unfolding blocks
block_noted ns b h =
    let w : (place : ℕ) × (n : Note) × (slice_get ns place ≡ Some n) × (block_at place n ≡ Some b) = note_of (λ (n : ℕ × Note). block_at n.0 n.1) ns b h in
    let told : (text : List ℕ) × (w.1 ≡ Block text) × IsBlockOf w.0 text b = block_told w.0 w.1 b w.3 in
    (told.0, ap (slice_get ns) told.2.place_is ∙ w.2 ∙ ap (λ (n : Note). Some n) told.1, subst (λ i. IsBlockOf i told.0 b) (sym told.2.place_is) told.2)

pub spoilt_noted : (ns : List Note) (s : SpoiltPlace) → Has (spoilts ns) s → slice_get ns s.place ≡ Some (Spoilt s.cause)
unfolding spoilts
spoilt_noted ns s h =
    let w : (place : ℕ) × (n : Note) × (slice_get ns place ≡ Some n) × (spoilt_at place n ≡ Some s) = note_of (λ (n : ℕ × Note). spoilt_at n.0 n.1) ns s h in
    let told = spoilt_told w.0 w.1 s w.3 in
    ap (slice_get ns) told.1 ∙ w.2 ∙ ap (λ (n : Note). Some n) told.0

pub has-normal : (ns : List Note) (m : NormalMessage) → slice_get ns m.place ≡ Some (Normal m.pair) → Has (normals ns) m
unfolding normals
has-normal ns m e = has-note (λ (n : ℕ × Note). normal_at n.0 n.1) ns m.place (Normal m.pair) m e refl

pub has-block : (ns : List Note) (place : ℕ) (text : List ℕ) (b : BlockMessage) → slice_get ns place ≡ Some (Block text) → block_in place text ≡ Some b → Has (blocks ns) b
unfolding blocks
has-block ns place text b e t = has-note (λ (n : ℕ × Note). block_at n.0 n.1) ns place (Block text) b e t

pub has-spoilt : (ns : List Note) (s : SpoiltPlace) → slice_get ns s.place ≡ Some (Spoilt s.cause) → Has (spoilts ns) s
unfolding spoilts
has-spoilt ns s e = has-note (λ (n : ℕ × Note). spoilt_at n.0 n.1) ns s.place (Spoilt s.cause) s e refl
