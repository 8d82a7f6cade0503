-- A signature block of the small chains that has one hash is read as one.
use Rattle.std.proofs.Common.{ℕ, zero, suc, ◌≤◌, List, [], ◌∷◌, refl, arith}
use Rattle.std.specs.Prelude.{None}
use Rattle.std.proofs.lemmas.List.Elements.{All-nil, All-cons}
use Rattle.ss_block.specs.declared.hash.Alg.TheVariants as algs
use Rattle.ss_block.specs.declared.reading.Reading.TheVariants as readings
use Rattle.ss_block.specs.Block as block
use Rattle.ss_block.specs.Hashes.{hash_of}
use Rattle.ss_block.specs.Writing.{unsigned_signature_text, head_session}
use Rattle.ss_block.specs.WritingLaws.{IsHash, IsBlockText, SignaturesAreRead}
use Rattle.ss_origin.specs.Emission.{signature_in}
use Rattle.ss_review.specs.deliveries.SmallChains.{mark, small}
use Rattle.ss_review.specs.deliveries.SmallChains as chains
use Rattle.ss_review.proofs.of_deliveries.DigestOctets.{AreOctets, hash_is_hash}
use Rattle.ss_review.proofs.of_deliveries.SmallChains.{is_setting}

pub mark_octets : AreOctets mark
mark_octets zero = omega arith
mark_octets (suc i) = omega arith

abbrev pub said_of : ℕ → ℕ → List ℕ → block.Signature
said_of gbc first m = record (signature_in small.config 0 gbc first (hash_of algs.Sha256 m ∷ [])) { signature = mark }

pub block_read : SignaturesAreRead → (gbc first : ℕ) (m : List ℕ) → gbc ≤ 9 → 1 ≤ first → first ≤ 9
    → IsBlockText (chains.block gbc first (m ∷ [])) (readings.Signature (said_of gbc first m)) (unsigned_signature_text small.config.head None (said_of gbc first m))
    (head_session small.config.head (said_of gbc first m).rsid)
block_read read gbc first m few some few_first =
    read small.config.head None (said_of gbc first m) is_setting.head refl
    (record {
      rsid = omega arith;
      group = record { sg = omega arith; spri = omega arith };
      gbc = omega (arith, few);
      some_first = some;
      some_hash = omega arith;
      at_most_99_hashes = omega arith;
      hashes = refl;
      last = omega (arith, few_first);
    })
    (All-cons IsHash (hash_of algs.Sha256 m) [] (hash_is_hash m) (All-nil IsHash)) mark_octets (omega arith)
