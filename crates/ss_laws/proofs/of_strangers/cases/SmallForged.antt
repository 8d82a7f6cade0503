-- Without each premise of `IsUnforged` another message is listed, which is computed.
use Rattle.std.proofs.Common.{◌≡◌, inl, inr, ℕ, zero, suc, true, List, [], ◌∷◌, refl, sym, ap, ◌∙◌, subst, arith}
use Rattle.std.specs.Prelude.{Some, None, Ok}
use Rattle.std.specs.List.{Contains}
use Rattle.std.specs.Str.{IsAscii, bytes_eq}
use Rattle.std.specs.Fmt.{digits}
use Rattle.std.proofs.lemmas.List.Elements.{All-nil, All-cons}
use Rattle.std.proofs.lemmas.Option.{same_Some}
use Rattle.std.proofs.lemmas.Str.{IsUtf8-from_ascii, is_utf8-from_IsUtf8}
use Rattle.sha1.specs.Sha1 as one
use Rattle.sha2.specs.Sha256.{sha256, hash_after, compress, rounds, first_words, schedule, digest_bytes}
use Rattle.ss_octets.specs.Cut.{parts_at}
use Rattle.ss_message.specs.Message.{text}
use Rattle.ss_payload.specs.Payload.{payload_text}
use Rattle.ss_block.specs.declared.hash.Alg.TheVariants as algs
use Rattle.ss_block.specs.Block as block
use Rattle.ss_block.specs.Hashes.{pair, hash_of}
use Rattle.ss_block.specs.PayloadReading.{stamp_in, stamp_and_rest_in, blob_in, payload_in}
use Rattle.ss_block.specs.Reading.{reading}
use Rattle.ss_block.specs.ReadingLaws.{ReadingsAreOfValues}
use Rattle.ss_block.specs.Writing.{certificate_text}
use Rattle.ss_block.specs.WritingLaws.{IsHash, SignaturesAreRead, CertificatesAreRead}
use Rattle.ss_review.specs.Ordered.{in_order}
use Rattle.ss_review.specs.announced.Announced.{rows, keys}
use Rattle.ss_review.specs.assign.Assigned.{pair_of_bearer, places_with, wanted, rank, assigned, is_taken}
use Rattle.ss_review.specs.keep.BlockMessage.{BlockContent, Hashes, Fragment}
use Rattle.ss_review.specs.declared.report.entry.Entry.{Entry}
use Rattle.ss_review.specs.declared.report.entry.Entry.TheVariants as entry
use Rattle.ss_review.specs.declared.report.entry.Why.TheVariants as whys
use Rattle.ss_review.specs.declared.report.report.Report.{Report}
use Rattle.ss_review.specs.deliveries.Delivery.{own_session}
use Rattle.ss_review.specs.deliveries.DeliveryLaws.{HasHashOfGiven}
use Rattle.ss_review.specs.deliveries.SmallChains.{mark, small, message, accepting, PremisesAreMet}
use Rattle.ss_review.specs.deliveries.SmallChains as chains
use Rattle.ss_review.specs.keep.Contents.{Contents, said_in, blocks, contents}
use Rattle.ss_review.specs.keep.Notes.{notes}
use Rattle.ss_review.specs.pinned.Pinned.{claims, keeps, pinned_report}
use Rattle.ss_review.specs.report.Entries.{group_keys, entries}
use Rattle.ss_review.specs.report.Meaning.{Tells}
use Rattle.ss_review.specs.report.Report.{report_of}
use Rattle.ss_review.specs.sessions.Payloads.{is_disputed, cover, joined_text, stated_payload}
use Rattle.ss_review.specs.sessions.Verified.{joined, is_verified, signature_of}
use Rattle.ss_octets.proofs.Members.{Has, has_from_contains, contains_from_has}
use Rattle.ss_review.proofs.of_deliveries.DigestOctets.{hash_is_hash}
use Rattle.ss_review.proofs.of_deliveries.SmallChains.{is_setting}
use Rattle.ss_review.proofs.of_lists.Keyed.{has-slice_get}
use Rattle.ss_review.proofs.of_reports.Witnesses.{stored_block}
use Rattle.ss_laws.specs.strangers.cases.SmallAttack.{own_payload, given}
use Rattle.ss_laws.specs.strangers.cases.SmallForged.{session_with, stolen, stolen_report, other_payload, other_certificate, two_keys, other_key, other_report, SmallForgedIsThis}
use Rattle.ss_laws.specs.strangers.cases.SmallUnforged.{forged_block, mixed, number}
use Rattle.ss_laws.specs.strangers.StateLaws.{pinned_joined}
use Rattle.ss_laws.specs.strangers.Unforged.{IsAsSent, NothingIsForged, IsJoinedUnderNoOther, pinned_in}
use Rattle.ss_laws.proofs.of_strangers.cases.SmallAttack.{octets_of}
use Rattle.ss_laws.proofs.of_strangers.cases.SmallHashes.{of_message, apart_57_50, apart_57_51}
use Rattle.ss_laws.proofs.of_strangers.cases.SmallLogs.{Says, Line, Saying, blocks_from, contents_of, contents_read}
use Rattle.ss_laws.proofs.of_strangers.cases.SmallUnforged.{counted_block, hashed, hashed_read, strange_hash, forged_read, own_lines, own_sent, same_payload, IsRead}
use Rattle.ss_laws.proofs.of_strangers.cases.SmallUnforged.{as_sent as own_as_sent}

-- what a report of the one session tells
told : (r : Report) (es : List Entry) → r.sessions ≡ session_with es ∷ [] → (e : Entry) → Has es e → Tells r (own_session small) (number 1).group e
told r es same e h = record {
  session = session_with es;
  session_told = subst (λ ts. Contains ts (session_with es)) (sym same) (contains_from_has (session_with es ∷ []) (session_with es) (inl refl));
  session_is = refl;
  group = record { group = (number 1).group; entries = es };
  group_told = contains_from_has (record { group = (number 1).group; entries = es } ∷ []) (record { group = (number 1).group; entries = es }) (inl refl);
  group_is = refl;
  entry_told = contains_from_has es e h;
}

abbrev stolen_text : List ℕ
stolen_text = chains.block 7 3 (message 57 ∷ [])

module _ (values : ReadingsAreOfValues) (signatures : SignaturesAreRead) (certificates_read : CertificatesAreRead) where
  -- ---- the originators' key

  pub stolen_read : IsRead stolen_text (counted_block 7 3 83 strange_hash)
  stolen_read =
      hashed_read signatures 7 3 83 strange_hash (omega arith) (omega arith) (omega arith) (omega arith) (omega arith) (omega arith) refl
      (All-cons IsHash (of_message 57) [] (hash_is_hash (message 57)) (All-nil IsHash))

  abbrev stolen_lines : List Line
  stolen_lines = Saying stolen_text (Hashes (counted_block 7 3 83 strange_hash)) stolen_read.text_is ∷ own_lines values signatures certificates_read

  contents_are : contents (notes stolen.log) ≡ contents_of stolen_lines
  contents_are = contents_read stolen_lines

  joined_own : pinned_joined accepting given (blocks_from 0 stolen_lines) (own_session small) ≡ Ok own_payload
  unfolding claims keeps cover joined_text stated_payload is_disputed joined parts_at stamp_in stamp_and_rest_in blob_in payload_in payload_text
  joined_own = refl

  no_other : IsJoinedUnderNoOther stolen given
  no_other payload e =
      let so = ap (λ (c : Contents). pinned_joined accepting given c.blocks (own_session small)) contents_are ∙ joined_own in
      sym (same_payload values signatures certificates_read own_payload payload (sym so ∙ e))

  reported : pinned_report accepting given (contents_of stolen_lines) ≡ stolen_report
  unfolding rows keys pair_of_bearer places_with wanted rank assigned is_taken group_keys entries in_order is_disputed cover joined_text stated_payload report_of joined is_verified parts_at stamp_in stamp_and_rest_in blob_in payload_in payload_text claims keeps pair text digits sha256 hash_after compress rounds first_words schedule digest_bytes one.sha1 one.hash_after one.compress one.rounds one.first_words one.schedule one.digest_bytes
  reported = refl

  not_theirs : HasHashOfGiven stolen (number 3) 3 → ⊥
  not_theirs h =
      let own : h.given ≡ message 51 = same_Some h.given (message 51) (sym h.given_is) in
      let stored : message 57 ≡ h.stored = same_Some (message 57) h.stored h.stored_is in
      apart_57_51 (ap (hash_of algs.Sha256) stored ∙ h.same_hash ∙ ap (hash_of algs.Sha256) own)

  -- ---- the key of another payload

  valid_own : (octets signature : List ℕ) → two_keys.valid own_payload octets signature ≡ bytes_eq signature mark
  unfolding payload_text
  valid_own octets signature = refl

  other_ascii : IsAscii other_payload
  other_ascii zero = omega arith
  other_ascii (suc zero) = omega arith
  other_ascii (suc (suc zero)) = omega arith
  other_ascii (suc (suc (suc zero))) = omega arith
  other_ascii (suc (suc (suc (suc i)))) = omega arith

  other_says : Says (certificate_text small.config.head None other_certificate) (Fragment other_certificate)
  unfolding payload_text
  other_says =
      let r = certificates_read small.config.head None other_certificate is_setting.head refl
      (record {
        rsid = omega arith;
        group = record { sg = omega arith; spri = omega arith };
        total = omega arith;
        some_index = omega arith;
        some_octet = omega arith;
        at_most_9999_octets = omega arith;
        within = omega arith;
        fragment = is_utf8-from_IsUtf8 other_payload (IsUtf8-from_ascii other_payload other_ascii);
      })
      (octets_of 84 (omega arith)) (omega arith) in
      record { octets = _; read = ap said_in r.read; signed_is = r.signed; session_is = r.session }

  abbrev other_lines : List Line
  other_lines =
      Saying (certificate_text small.config.head None other_certificate) (Fragment other_certificate) other_says
      ∷ Saying forged_block (Hashes (hashed 2 84 strange_hash)) (forged_read values signatures certificates_read).text_is
      ∷ own_lines values signatures certificates_read

  other_contents : contents (notes other_key.log) ≡ contents_of other_lines
  other_contents = contents_read other_lines

  as_sent : (t : List ℕ) (said : block.Signature) → Has other_key.log t → said_in (reading t) ≡ Some (Hashes said) → bytes_eq said.signature mark ≡ true → IsAsSent mixed.chain said
  as_sent t said (inl e) read valid = absurd (let no : Some (Fragment other_certificate) ≡ Some (Hashes said) = sym other_says.read ∙ ap (λ u. said_in (reading u)) e ∙ read in cc)
  as_sent t said (inr h) read valid = own_as_sent values signatures certificates_read mixed.chain (own_sent values signatures certificates_read) t said (inr h) read valid

  nothing : NothingIsForged other_key
  nothing b said c own_one says_so valid =
      let t = stored_block other_key.log b (has_from_contains (blocks (notes other_key.log)) b c) in
      as_sent t.0 said (has-slice_get other_key.log b.place t.0 t.1)
      (t.2.said_is ∙ ap (λ (x : BlockContent). Some x) says_so)
      (sym (ap (λ (x : BlockContent). bytes_eq (signature_of x) mark) says_so) ∙ sym (valid_own b.signed (signature_of b.said)) ∙ valid)

  other_reported : pinned_report two_keys (other_payload ∷ []) (contents_of other_lines) ≡ other_report
  unfolding rows keys pair_of_bearer places_with wanted rank assigned is_taken group_keys entries in_order is_disputed cover joined_text stated_payload report_of joined is_verified parts_at stamp_in stamp_and_rest_in blob_in payload_in payload_text claims keeps pair text digits sha256 hash_after compress rounds first_words schedule digest_bytes one.sha1 one.hash_after one.compress one.rounds one.first_words one.schedule one.digest_bytes
  other_reported = refl

  not_its : HasHashOfGiven other_key (number 2) 4 → ⊥
  not_its h =
      let own : h.given ≡ message 50 = same_Some h.given (message 50) (sym h.given_is) in
      let stored : message 57 ≡ h.stored = same_Some (message 57) h.stored h.stored_is in
      apart_57_50 (ap (hash_of algs.Sha256) stored ∙ h.same_hash ∙ ap (hash_of algs.Sha256) own)

  pub small_forged : PremisesAreMet → SmallForgedIsThis
  small_forged met =
      let stolen_is = ap (pinned_report accepting given) contents_are ∙ reported in
      let other_is = ap (pinned_report two_keys (other_payload ∷ [])) other_contents ∙ other_reported in
      record {
        chain = met.lossy_is_case.chain;
        no_other = no_other;
        stolen_is = stolen_is;
        stolen_listed = told (pinned_in stolen given) (entry.Gap 1 whys.Lost ∷ entry.Listed 2 4 ∷ entry.Listed 3 3 ∷ []) (ap (λ (r : Report). r.sessions) stolen_is) (entry.Listed 3 3) (inr (inr (inl refl)));
        not_theirs = not_theirs;
        nothing = nothing;
        other_is = other_is;
        other_listed = told (pinned_in other_key (other_payload ∷ [])) (entry.Hole 1 1 ∷ entry.Listed 2 4 ∷ []) (ap (λ (r : Report). r.sessions) other_is) (entry.Listed 2 4) (inr (inl refl));
        not_its = not_its;
      }
