-- The small chain that goes on ahead left a number pending, and two GBC out.
use Rattle.std.proofs.Common.{◌≡◌, inl, inr, ℕ, List, [], ◌∷◌, map, refl, arith}
use Rattle.std.specs.Prelude.{None}
use Rattle.std.specs.List.{All, Contains}
use Rattle.std.proofs.lemmas.List.Elements.{All-nil, All-cons}
use Rattle.ss_block.specs.declared.hash.Alg.TheVariants as algs
use Rattle.ss_block.specs.declared.reading.Reading.TheVariants as readings
use Rattle.ss_block.specs.Block as block
use Rattle.ss_block.specs.Hashes.{hash_of}
use Rattle.ss_block.specs.Reading.{reading}
use Rattle.ss_block.specs.WritingLaws.{IsHash, SignaturesAreRead}
use Rattle.ss_origin.specs.Counting.{anew, resumed}
use Rattle.ss_origin.specs.Calls.{pending_of}
use Rattle.ss_origin.specs.Emission.{signature_in}
use Rattle.ss_origin.specs.Ahead.{sent_by}
use Rattle.ss_origin.specs.AheadLaws.{IsGiven}
use Rattle.ss_review.specs.deliveries.SmallChains.{mark, small, message, turns_before, first_turns, next_turns, ahead, ahead_lives, PremisesAheadAreMet}
use Rattle.ss_review.specs.deliveries.SmallChains as chains
use Rattle.ss_octets.proofs.Members.{contains_from_has}
use Rattle.ss_review.proofs.of_deliveries.DigestOctets.{hash_is_hash}
use Rattle.ss_review.proofs.of_deliveries.SmallChains.{is_setting}
use Rattle.ss_laws.specs.ahead.PendingAhead.{IsLeftPending, PendingAheadAreInNoBlock, PendingAheadAreMissing}
use Rattle.ss_laws.specs.ahead.cases.SmallPending.{first_block, next_block, HasNoBlock, SmallChainIsThis}
use Rattle.ss_laws.proofs.of_ahead.cases.SmallBlocks.{mark_octets, block_read}

-- ---- the pending message

third : IsGiven ahead_lives (message 51)
third = record {
  newer = record { start = resumed (record { gbc = 3; groups = record { spri = 0; number = 6 } ∷ [] }); turns = next_turns 3 6 } ∷ [];
  life = record { start = anew; turns = first_turns };
  older = [];
  lives_are = refl;
  later = [];
  turn = chains.given 51;
  earlier = turns_before;
  turns_are = refl;
  stamp = None;
  call = refl;
}

third_pending : IsLeftPending small.config third
unfolding third pending_of
third_pending = omega arith

-- ---- blocks

abbrev said : ℕ → ℕ → List (List ℕ) → block.Signature
said gbc first messages = record (signature_in small.config 0 gbc first (map (hash_of algs.Sha256) messages)) { signature = mark }

are_hashes : (messages : List (List ℕ)) → All IsHash (map (hash_of algs.Sha256) messages)
are_hashes [] = All-nil IsHash
are_hashes (m ∷ ms) = All-cons IsHash (hash_of algs.Sha256 m) (map (hash_of algs.Sha256) ms) (hash_is_hash m) (are_hashes ms)

module _ (read : SignaturesAreRead) where
  first_read : reading first_block ≡ readings.Signature (said 0 1 (message 49 ∷ message 50 ∷ []))
  first_read =
      (read small.config.head None (said 0 1 (message 49 ∷ message 50 ∷ [])) is_setting.head refl
      (record {
        rsid = omega arith;
        group = record { sg = omega arith; spri = omega arith };
        gbc = omega arith;
        some_first = omega arith;
        some_hash = omega arith;
        at_most_99_hashes = omega arith;
        hashes = refl;
        last = omega arith;
      })
      (are_hashes (message 49 ∷ message 50 ∷ [])) mark_octets (omega arith)).read

  next_read : reading next_block ≡ readings.Signature (said 3 6 (message 52 ∷ []))
  next_read = (block_read read 3 6 (message 52) (omega arith) (omega arith) (omega arith)).read

  first_sent : Contains (sent_by ahead_lives) first_block
  first_sent = contains_from_has (sent_by ahead_lives) first_block (inr (inr (inr (inr (inl refl)))))

  next_sent : Contains (sent_by ahead_lives) next_block
  next_sent = contains_from_has (sent_by ahead_lives) next_block (inl refl)

  in_first : HasNoBlock 2 → ⊥
  in_first none = none first_block (said 0 1 (message 49 ∷ message 50 ∷ [])) first_sent first_read (record { own = refl; least = omega arith; below = omega arith })

  in_next : HasNoBlock 6 → ⊥
  in_next none = none next_block (said 3 6 (message 52 ∷ [])) next_sent next_read (record { own = refl; least = omega arith; below = omega arith })

-- ---- the chain

pub small_chain : SignaturesAreRead → PremisesAheadAreMet → PendingAheadAreInNoBlock → PendingAheadAreMissing → SmallChainIsThis
unfolding third
small_chain read premises none missing = record {
  chain = premises.ahead_is_case.chain;
  given = third;
  number = refl;
  pending = third_pending;
  in_no_block = none small ahead_lives premises.ahead_is_case.chain (message 51) third third_pending;
  signed_before = in_first read;
  signed_after = in_next read;
  is_case = premises.ahead_is_case;
  untold = (missing ahead ahead_lives premises.ahead_is_case (message 51) third third_pending).0;
  greater_is_told = premises.greater_is_told;
  sent = refl;
  first_gbc = (said 0 1 (message 49 ∷ message 50 ∷ []), first_read read, refl);
  next_gbc = (said 3 6 (message 52 ∷ []), next_read read, refl);
}
