-- The small chain of nights meets the premises.
use Rattle.std.proofs.Common.{◌≡◌, inl, inr, ℕ, zero, suc, List, [], ◌∷◌, length, refl, sym, ap, ◌∙◌, subst, arith}
use Rattle.std.specs.Prelude.{Some, None, Ok, slice_get}
use Rattle.std.specs.Str.{IsAscii}
use Rattle.std.proofs.lemmas.Str.{IsUtf8-from_ascii, is_utf8-from_IsUtf8}
use Rattle.ss_payload.specs.Payload.{payload_text}
use Rattle.ss_block.specs.declared.hash.HashPair.{HashPair}
use Rattle.ss_block.specs.declared.reading.Reading.{Reading}
use Rattle.ss_block.specs.declared.reading.Reading.TheVariants as readings
use Rattle.ss_block.specs.declared.session.Session.{Session}
use Rattle.ss_block.specs.Block as block
use Rattle.ss_block.specs.Hashes.{pair}
use Rattle.ss_block.specs.Reading.{reading}
use Rattle.ss_block.specs.ReadingLaws.{ReadingsAreOfValues}
use Rattle.ss_block.specs.WritingLaws.{SignaturesAreRead, CertificatesAreRead}
use Rattle.ss_origin.specs.Emission.{certificate_in}
use Rattle.ss_review.specs.declared.keep.message.NormalMessage.{NormalMessage}
use Rattle.ss_review.specs.keep.Notes.{Note, Normal, Block, noted, note, notes}
use Rattle.ss_review.specs.keep.Contents.{normals, blocks}
use Rattle.ss_review.specs.sessions.Sessions.{of_session}
use Rattle.ss_review.specs.sessions.Verified.{joined}
use Rattle.ss_review.specs.deliveries.SmallChains.{mark, small, message, certificate, accepting, whole}
use Rattle.ss_review.specs.deliveries.SmallChains as chains
use Rattle.ss_laws.specs.nights.CleanLaws.{Night}
use Rattle.ss_laws.specs.nights.SmallNights.{SmallNightIsClean}
use Rattle.ss_laws.specs.nights.WholeNights.{IsJoinedUnder, HaveOnePayload, HaveNoTwins}
use Rattle.ss_laws.specs.nights.cases.SmallWholeNights.{small_nights, PremisesAreMet}
use Rattle.ss_octets.proofs.Members.{Has, has_from_contains}
use Rattle.ss_review.proofs.of_deliveries.SmallChains.{is_setting, plain_message}
use Rattle.ss_review.proofs.of_kept_messages.NotesTold.{normal_noted}
use Rattle.ss_review.proofs.of_sessions.Stating.{stated_by-IsStatedBy}
use Rattle.ss_review.proofs.of_sessions.StatesTold.{payload_told}
use Rattle.ss_review.specs.sessions.Payloads.{certificates}
use Rattle.ss_review.proofs.of_sessions.Fragments.{total_of}
use Rattle.ss_laws.proofs.of_nights.TwoLogs.{same_ok}
use Rattle.ss_laws.proofs.of_ahead.cases.SmallBlocks.{mark_octets, said_of, block_read}

-- ---- the blocks of the first night are read as blocks

payload_ascii : IsAscii (45 ∷ 32 ∷ 78 ∷ [])
payload_ascii zero = omega arith
payload_ascii (suc zero) = omega arith
payload_ascii (suc (suc zero)) = omega arith
payload_ascii (suc (suc (suc i))) = omega arith

signature_read : SignaturesAreRead → reading (chains.block 0 1 (message 49 ∷ [])) ≡ readings.Signature (said_of 0 1 (message 49))
signature_read read = (block_read read 0 1 (message 49) (omega arith) (omega arith) (omega arith)).read

abbrev stated : block.Certificate
stated = record (certificate_in small.config (payload_text small.payload) (record { index = 1; len = 3 })) { signature = mark }

certificate_read : CertificatesAreRead → reading certificate ≡ readings.Certificate stated
unfolding payload_text
certificate_read read =
    (read small.config.head None stated is_setting.head refl
    (record {
      rsid = omega arith;
      group = record { sg = omega arith; spri = omega arith };
      total = omega arith;
      some_index = omega arith;
      some_octet = omega arith;
      at_most_9999_octets = omega arith;
      within = omega arith;
      fragment = is_utf8-from_IsUtf8 (45 ∷ 32 ∷ 78 ∷ []) (IsUtf8-from_ascii (45 ∷ 32 ∷ 78 ∷ []) payload_ascii);
    })
    mark_octets (omega arith)).read

-- ---- so it has one message

noted_as : (text : List ℕ) (r : Reading) → reading text ≡ r → note text ≡ noted text r
unfolding note
noted_as text r e = ap (noted text) e

same_normal : (p q : HashPair) → Some (Normal p) ≡ Some (Normal q) → p ≡ q
same_normal p q e = cc

module _ (values : ReadingsAreOfValues) (signatures : SignaturesAreRead) (certificates_are : CertificatesAreRead) where
  pair_at : (place : ℕ) (p : HashPair) → slice_get (notes whole.log) place ≡ Some (Normal p) → p ≡ pair (message 49)
  pair_at zero p e =
      let n : note (chains.block 0 1 (message 49 ∷ [])) ≡ Block (chains.block 0 1 (message 49 ∷ [])) = noted_as (chains.block 0 1 (message 49 ∷ [])) (readings.Signature (said_of 0 1 (message 49))) (signature_read signatures) in
      let f : Some (note (chains.block 0 1 (message 49 ∷ []))) ≡ Some (Normal p) = e in
      absurd (cc)
  pair_at (suc zero) p e =
      let n : note (message 49) ≡ Normal (pair (message 49)) = noted_as (message 49) readings.Plain (plain_message values 49 refl) in
      let f : Some (note (message 49)) ≡ Some (Normal p) = e in
      same_normal p (pair (message 49)) (sym f ∙ ap (λ (x : Note). Some x) n)
  pair_at (suc (suc zero)) p e =
      let n : note certificate ≡ Block certificate = noted_as certificate (readings.Certificate stated) (certificate_read certificates_are) in
      let f : Some (note certificate) ≡ Some (Normal p) = e in
      absurd (cc)
  pair_at (suc (suc (suc i))) p e = absurd (let none : None ≡ Some (Normal p) = e in cc)

  one_message : (m : NormalMessage) → Has (normals (notes whole.log)) m → m.pair ≡ pair (message 49)
  one_message m h = pair_at m.place m.pair (normal_noted (notes whole.log) m h)

  none_there : (m : NormalMessage) → Has (normals (notes [])) m → ⊥
  unfolding normals
  none_there m h = h

  pair_in : (n : Night) (m : NormalMessage) → Has small_nights n → Has (normals (notes n.log)) m → m.pair ≡ pair (message 49)
  pair_in n m (inl e) h = one_message m (subst (λ (x : Night). Has (normals (notes x.log)) m) (sym e) h)
  pair_in n m (inr (inl e)) h = absurd (none_there m (subst (λ (x : Night). Has (normals (notes x.log)) m) (sym e) h))
  pair_in n m (inr (inr i)) h = absurd i

  no_twins : HaveNoTwins small_nights
  no_twins n m a b h c d i j t u =
      pair_in n a (has_from_contains small_nights n c) (has_from_contains (normals (notes n.log)) a i)
      ∙ sym (pair_in m b (has_from_contains small_nights m d) (has_from_contains (normals (notes m.log)) b j))

-- ---- the other night joins no session

no_block : (s : Session) (payload : List ℕ) → joined accepting (of_session (blocks (notes [])) s) ≡ Ok payload → ⊥
unfolding blocks
no_block s payload e =
    let bs = of_session (blocks (notes [])) s in
    let w = total_of bs (length payload) ((stated_by-IsStatedBy (certificates bs)).total (length payload) (payload_told accepting bs payload e).0.text_is.total) in
    w.1.stored

one_payload : HaveOnePayload accepting small_nights
one_payload n m s payload other c d e f = both n m (has_from_contains small_nights n c) (has_from_contains small_nights m d) e f
  where
    first : (n : Night) → Has small_nights n → (p : List ℕ) → IsJoinedUnder accepting n s p → joined accepting (of_session (blocks (notes whole.log)) s) ≡ Ok p
    first n (inl i) p e = subst (λ (x : Night). IsJoinedUnder accepting x s p) (sym i) e
    first n (inr (inl i)) p e = absurd (no_block s p (subst (λ (x : Night). IsJoinedUnder accepting x s p) (sym i) e))
    first n (inr (inr i)) p e = absurd i

    both : (n m : Night) → Has small_nights n → Has small_nights m → IsJoinedUnder accepting n s payload → IsJoinedUnder accepting m s other → payload ≡ other
    both n m h i e f = same_ok (joined accepting (of_session (blocks (notes whole.log)) s)) payload other (first n h payload e) (first m i other f)

pub premises : ReadingsAreOfValues → SignaturesAreRead → CertificatesAreRead → SmallNightIsClean → PremisesAreMet
premises values signatures certificates_are night = record {
  follow = night.follow;
  one_payload = one_payload;
  no_twins = no_twins values signatures certificates_are;
}
