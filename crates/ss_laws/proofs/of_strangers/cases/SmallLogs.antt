-- What a log has that holds messages of the small chains, and blocks of their session.
use Rattle.std.proofs.Common.{◌≡◌, ℕ, suc, ◌+◌, List, [], ◌∷◌, length, map, refl, ap, ◌∙◌}
use Rattle.std.specs.Prelude.{Option, Some, None}
use Rattle.std.specs.List.{enumerate_from, filter_map}
use Rattle.ss_block.specs.Hashes.{pair}
use Rattle.ss_block.specs.Reading.{reading}
use Rattle.ss_block.specs.Session.{session}
use Rattle.ss_block.specs.Signed.{signed}
use Rattle.ss_block.specs.declared.reading.Reading.TheVariants as readings
use Rattle.ss_review.specs.keep.BlockMessage.{BlockMessage, BlockContent}
use Rattle.ss_review.specs.declared.keep.message.NormalMessage.{NormalMessage}
use Rattle.ss_review.specs.deliveries.Delivery.{own_session}
use Rattle.ss_review.specs.deliveries.SmallChains.{small, message}
use Rattle.ss_review.specs.keep.Contents.{Contents, said_in, block_with, block_in, normal_at, block_at, spoilt_at, normals, blocks, spoilts, contents}
use Rattle.ss_review.specs.keep.Notes.{Note, Normal, Block, noted, note, notes}
use Rattle.ss_review.specs.questions.Shortened.{hash_count}
use Rattle.ss_review.proofs.of_deliveries.StoredBlocks.{noted_block}

-- a text that says this for the session
pub record Says (t : List ℕ) (said : BlockContent) : Type 0 where
  pub octets : List ℕ
  pub read : said_in (reading t) ≡ Some said
  pub signed_is : signed t ≡ Some octets
  pub session_is : session t ≡ Some (own_session small)

-- the block that stands at a place
abbrev pub stored_as : (t : List ℕ) (said : BlockContent) → Says t said → ℕ → BlockMessage
stored_as t said s place = record { place = place; count = hash_count said; session = own_session small; said = said; signed = s.octets }

pub at : (t : List ℕ) (said : BlockContent) (s : Says t said) (place : ℕ) → block_in place t ≡ Some (stored_as t said s place)
unfolding block_in
at t said s place = λ i. block_with place (s.read i) (s.session_is i) (s.signed_is i)

pub note_of : (t : List ℕ) (said : BlockContent) → Says t said → note t ≡ Block t
unfolding note
note_of t said s = noted_block t (reading t) said s.read

pub plain_note : (octet : ℕ) → reading (message octet) ≡ readings.Plain → note (message octet) ≡ Normal (pair (message octet))
unfolding note
plain_note octet e = ap (noted (message octet)) e

-- ---- logs

pub data Line : Type 0 where
  Plain : (octet : ℕ) → reading (message octet) ≡ readings.Plain → Line
  Saying : (t : List ℕ) (said : BlockContent) → Says t said → Line

abbrev pub text_of : Line → List ℕ
text_of (Plain octet e) = message octet
text_of (Saying t said s) = t

abbrev pub blocks_from : ℕ → List Line → List BlockMessage
blocks_from n [] = []
blocks_from n (Plain octet e ∷ ls) = blocks_from (n + 1) ls
blocks_from n (Saying t said s ∷ ls) = stored_as t said s n ∷ blocks_from (n + 1) ls

abbrev pub normals_from : ℕ → List Line → List NormalMessage
normals_from n [] = []
normals_from n (Plain octet e ∷ ls) = record { place = n; pair = pair (message octet) } ∷ normals_from (n + 1) ls
normals_from n (Saying t said s ∷ ls) = normals_from (n + 1) ls

abbrev pub contents_of : List Line → Contents
contents_of ls = record { normal = normals_from 0 ls; blocks = blocks_from 0 ls; spoilt = []; count = length ls }

-- ---- what is read of a log

head_some : {X Y : Type 0} (f : X → Option Y) (x : X) (xs : List X) (y : Y) → f x ≡ Some y → filter_map f (x ∷ xs) ≡ y ∷ filter_map f xs
head_some f x xs y e = rw e refl

head_none : {X Y : Type 0} (f : X → Option Y) (x : X) (xs : List X) → f x ≡ None → filter_map f (x ∷ xs) ≡ filter_map f xs
head_none f x xs e = rw e refl

abbrev numbered : ℕ → List Line → List (ℕ × Note)
numbered n ls = enumerate_from n (notes (map text_of ls))

blocks_read : (n : ℕ) (ls : List Line) → filter_map (λ (p : ℕ × Note). block_at p.0 p.1) (numbered n ls) ≡ blocks_from n ls
blocks_read n [] = refl
blocks_read n (Plain octet e ∷ ls) =
    head_none (λ (p : ℕ × Note). block_at p.0 p.1) (n, note (message octet)) (numbered (n + 1) ls) (ap (block_at n) (plain_note octet e))
    ∙ blocks_read (n + 1) ls
blocks_read n (Saying t said s ∷ ls) =
    head_some (λ (p : ℕ × Note). block_at p.0 p.1) (n, note t) (numbered (n + 1) ls) (stored_as t said s n) (ap (block_at n) (note_of t said s) ∙ at t said s n)
    ∙ ap (λ bs. stored_as t said s n ∷ bs) (blocks_read (n + 1) ls)

normals_read : (n : ℕ) (ls : List Line) → filter_map (λ (p : ℕ × Note). normal_at p.0 p.1) (numbered n ls) ≡ normals_from n ls
normals_read n [] = refl
normals_read n (Plain octet e ∷ ls) =
    let m : NormalMessage = record { place = n; pair = pair (message octet) } in
    head_some (λ (p : ℕ × Note). normal_at p.0 p.1) (n, note (message octet)) (numbered (n + 1) ls) m (ap (normal_at n) (plain_note octet e))
    ∙ ap (λ ms. m ∷ ms) (normals_read (n + 1) ls)
normals_read n (Saying t said s ∷ ls) =
    head_none (λ (p : ℕ × Note). normal_at p.0 p.1) (n, note t) (numbered (n + 1) ls) (ap (normal_at n) (note_of t said s))
    ∙ normals_read (n + 1) ls

none_spoilt : (n : ℕ) (ls : List Line) → filter_map (λ (p : ℕ × Note). spoilt_at p.0 p.1) (numbered n ls) ≡ []
none_spoilt n [] = refl
none_spoilt n (Plain octet e ∷ ls) =
    head_none (λ (p : ℕ × Note). spoilt_at p.0 p.1) (n, note (message octet)) (numbered (n + 1) ls) (ap (spoilt_at n) (plain_note octet e))
    ∙ none_spoilt (n + 1) ls
none_spoilt n (Saying t said s ∷ ls) =
    head_none (λ (p : ℕ × Note). spoilt_at p.0 p.1) (n, note t) (numbered (n + 1) ls) (ap (spoilt_at n) (note_of t said s))
    ∙ none_spoilt (n + 1) ls

counted : (ls : List Line) → length (notes (map text_of ls)) ≡ length ls
counted [] = refl
counted (l ∷ ls) = ap (λ n. suc n) (counted ls)

pub contents_read : (ls : List Line) → contents (notes (map text_of ls)) ≡ contents_of ls
unfolding normals blocks spoilts
contents_read ls = λ i. record {
  normal = normals_read 0 ls i;
  blocks = blocks_read 0 ls i;
  spoilt = none_spoilt 0 ls i;
  count = counted ls i;
}
