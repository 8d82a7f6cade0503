-- Messages of the small chains have different hashes, because the first octets differ that are computed.
use Rattle.std.proofs.Common.{◌≡◌, ℕ, refl, sym, ap, ◌∙◌, arith}
use Rattle.std.specs.Prelude.{slice_index}
use Rattle.std.specs.Fmt.{digits}
use Rattle.sha2.specs.Sha256.{sha256, hash_after, compress, rounds, first_words, schedule, digest_bytes}
use Rattle.ss_message.specs.Message.{text}
use Rattle.ss_block.specs.declared.hash.Alg.TheVariants as algs
use Rattle.ss_block.specs.declared.hash.Hash.{Hash}
use Rattle.ss_block.specs.declared.hash.Hash.TheVariants as hashes
use Rattle.ss_block.specs.Hashes.{pair, hash_of}
use Rattle.ss_review.specs.deliveries.SmallChains.{message}

abbrev pub first_octet : Hash → ℕ
first_octet (hashes.Sha1 octets) = slice_index octets 0
first_octet (hashes.Sha256 octets) = slice_index octets 0

abbrev pub of_message : ℕ → Hash
of_message octet = hash_of algs.Sha256 (message octet)

begins_49 : first_octet (of_message 49) ≡ 241
unfolding pair text digits sha256 hash_after compress rounds first_words schedule digest_bytes
begins_49 = refl

begins_50 : first_octet (of_message 50) ≡ 240
unfolding pair text digits sha256 hash_after compress rounds first_words schedule digest_bytes
begins_50 = refl

begins_51 : first_octet (of_message 51) ≡ 145
unfolding pair text digits sha256 hash_after compress rounds first_words schedule digest_bytes
begins_51 = refl

begins_52 : first_octet (of_message 52) ≡ 143
unfolding pair text digits sha256 hash_after compress rounds first_words schedule digest_bytes
begins_52 = refl

begins_57 : first_octet (of_message 57) ≡ 220
unfolding pair text digits sha256 hash_after compress rounds first_words schedule digest_bytes
begins_57 = refl

apart : (h g : Hash) (a b : ℕ) → first_octet h ≡ a → first_octet g ≡ b → (a ≡ b → ⊥) → h ≡ g → ⊥
apart h g a b first second differ e = differ (sym first ∙ ap first_octet e ∙ second)

pub apart_50_49 : of_message 50 ≡ of_message 49 → ⊥
apart_50_49 = apart (of_message 50) (of_message 49) 240 241 begins_50 begins_49 (λ e. omega (arith, e))

pub apart_50_52 : of_message 50 ≡ of_message 52 → ⊥
apart_50_52 = apart (of_message 50) (of_message 52) 240 143 begins_50 begins_52 (λ e. omega (arith, e))

pub apart_57_49 : of_message 57 ≡ of_message 49 → ⊥
apart_57_49 = apart (of_message 57) (of_message 49) 220 241 begins_57 begins_49 (λ e. omega (arith, e))

pub apart_57_52 : of_message 57 ≡ of_message 52 → ⊥
apart_57_52 = apart (of_message 57) (of_message 52) 220 143 begins_57 begins_52 (λ e. omega (arith, e))

pub apart_57_50 : of_message 57 ≡ of_message 50 → ⊥
apart_57_50 = apart (of_message 57) (of_message 50) 220 240 begins_57 begins_50 (λ e. omega (arith, e))

pub apart_57_51 : of_message 57 ≡ of_message 51 → ⊥
apart_57_51 = apart (of_message 57) (of_message 51) 220 145 begins_57 begins_51 (λ e. omega (arith, e))
