-- A message with a block as a review keeps it: its signed octets with the hashes in octets, its signature after them,
-- its numbers, and where FRAG stands in the signed octets.
use Rattle.std.specs.Prelude.{◌≡◌, ℕ, ◌≤◌, List, take, length}
use Rattle.ss_message.specs.declared.span.Span.{Span}
use Rattle.ss_message.specs.Octets.{part_of}
use Rattle.ss_message.specs.Places.{IsWithin}
use Rattle.ss_message.specs.Raw.{meant}
use Rattle.ss_block.specs.Block as block
use Rattle.ss_block.specs.declared.session_places.SessionPlaces.{SessionPlaces}
use Rattle.ss_block.specs.SessionPlaces.{LieIn, session_at}
use Rattle.ss_review.specs.declared.keep.kept_content.KeptContent.{KeptContent}
use Rattle.ss_review.specs.declared.keep.kept_content.KeptContent.TheVariants as kept
use Rattle.ss_review.specs.declared.keep.packed.Packed.{Packed}
use Rattle.ss_review.specs.keep.BlockMessage.{BlockMessage, BlockContent, Hashes, Fragment}
use Rattle.ss_review.specs.keep.KeptSender.{span_at}
use Rattle.ss_review.specs.keep.Signatures.{alg_said}
use Rattle.ss_review.specs.keep.Packed.{kept_packed, signature_packed, front_packed, hashes_packed, signed_packed, IsPacked}

-- what the value stands for that stands there in the octets
abbrev pub meant_at : List ℕ → Span → List ℕ
meant_at octets text = meant (part_of octets text)

-- what the block of this sender says whose signed octets and signature these are
abbrev pub said_by : KeptContent → SessionPlaces → Packed → BlockContent
said_by (kept.Hashes group gbc first held) sender packed =
    Hashes (record {
      alg = packed.alg;
      rsid = sender.rsid;
      group = group;
      gbc = gbc;
      first = first;
      hashes = take held (hashes_packed packed);
      signature = signature_packed packed;
    })
said_by (kept.Fragment group total index len text) sender packed =
    Fragment (record {
      alg = packed.alg;
      rsid = sender.rsid;
      group = group;
      total = total;
      index = index;
      fragment = meant_at (kept_packed packed) (span_at text);
      signature = signature_packed packed;
    })

-- The message of which this is kept. Its sender stands before the hashes, and so where it stands in the signed octets.
abbrev pub message_kept : ℕ → SessionPlaces → KeptContent → Packed → BlockMessage
message_kept place sender content packed = record {
  place = place;
  count = packed.count;
  session = session_at (front_packed packed) sender;
  said = said_by content sender packed;
  signed = signed_packed packed;
}

-- What is signed of the message is kept so. Of a block without hashes nothing signed is kept after their place.
pub record IsPackedOf (p : Packed) (b : BlockMessage) : Type 0 where
  pub packed : IsPacked p
  pub signed : signed_packed p ≡ b.signed
  pub count : p.count ≡ b.count
  pub alg : p.alg ≡ alg_said b.said
  pub none : p.count ≡ 0 → p.start ≡ length (kept_packed p)

-- the block is in its ranges
abbrev pub IsContent : BlockContent → Type 0
IsContent (Hashes b) = block.IsSignature b
IsContent (Fragment c) = block.IsCertificate c

-- FRAG stands there, and stands for so many octets
pub record HoldsFragment (octets : List ℕ) (len : ℕ) (text : Span) : Type 0 where
  pub within : IsWithin octets text
  pub long : length (meant_at octets text) ≡ len

-- The first `held` of the hashes count; or there is no hash, and FRAG stands where the numbers say.
abbrev pub IsKeptText : KeptContent → Packed → Type 0
IsKeptText (kept.Hashes group gbc first held) packed = held ≤ packed.count
IsKeptText (kept.Fragment group total index len text) packed =
    (packed.count ≡ 0) × (packed.start ≡ length (kept_packed packed)) × HoldsFragment (kept_packed packed) len (span_at text)

-- what is kept of a message with a block agrees
pub record IsKept (sender : SessionPlaces) (content : KeptContent) (packed : Packed) : Type 0 where
  pub hashes : IsPacked packed
  pub head : LieIn (front_packed packed) sender
  pub text : IsKeptText content packed
  pub valid : IsContent (said_by content sender packed)
