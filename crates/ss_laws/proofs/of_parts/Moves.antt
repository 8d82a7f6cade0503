-- What a note is read as at a place, moves with the place.
use Rattle.std.proofs.Common.{◌≡◌, ℕ, List, refl}
use Rattle.std.specs.Prelude.{Option, Some, None, option_map}
use Rattle.ss_block.specs.declared.session.Session.{Session}
use Rattle.ss_block.specs.Reading.{reading}
use Rattle.ss_block.specs.Session.{session}
use Rattle.ss_block.specs.Signed.{signed}
use Rattle.ss_review.specs.keep.BlockMessage.{BlockContent}
use Rattle.ss_review.specs.keep.Notes.{Note, Normal, Block, Spoilt}
use Rattle.ss_review.specs.keep.Contents.{said_in, normal_at, block_with, block_in, block_at, spoilt_at}
use Rattle.ss_laws.specs.parts.Parts.{moved_spoilt}
use Rattle.ss_laws.proofs.of_parts.MovedBlocks.{moved_block}
use Rattle.ss_laws.proofs.of_parts.MovedReports.{moved_normal}

pub normal_moves : (f : ℕ → ℕ) (p : ℕ) (n : Note) → option_map (moved_normal f) (normal_at p n) ≡ normal_at (f p) n
normal_moves f p (Normal pair) = refl
normal_moves f p (Block text) = refl
normal_moves f p (Spoilt cause) = refl

with_moves : (f : ℕ → ℕ) (p : ℕ) (said : Option BlockContent) (s : Option Session) (octets : Option (List ℕ)) → option_map (moved_block f) (block_with p said s octets) ≡ block_with (f p) said s octets
with_moves f p (Some said) (Some s) (Some octets) = refl
with_moves f p (Some said) (Some s) None = refl
with_moves f p (Some said) None octets = refl
with_moves f p None s octets = refl

pub block_moves : (f : ℕ → ℕ) (p : ℕ) (n : Note) → option_map (moved_block f) (block_at p n) ≡ block_at (f p) n
unfolding block_in
block_moves f p (Normal pair) = refl
block_moves f p (Block text) = with_moves f p (said_in (reading text)) (session text) (signed text)
block_moves f p (Spoilt cause) = refl

pub spoilt_moves : (f : ℕ → ℕ) (p : ℕ) (n : Note) → option_map (moved_spoilt f) (spoilt_at p n) ≡ spoilt_at (f p) n
spoilt_moves f p (Normal pair) = refl
spoilt_moves f p (Block text) = refl
spoilt_moves f p (Spoilt cause) = refl
