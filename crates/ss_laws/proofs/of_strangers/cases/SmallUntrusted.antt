-- The small log without the stranger's blocks delivers from the originators, and its report without given payloads is
-- computed.
use Rattle.std.proofs.Common.{◌≡◌, inl, inr, ℕ, true, List, [], refl, sym, ap, ◌∙◌, subst, arith}
use Rattle.std.specs.Prelude.{Some}
use Rattle.std.specs.List.{Contains}
use Rattle.std.specs.Str.{bytes_eq}
use Rattle.std.specs.Fmt.{digits}
use Rattle.std.proofs.lemmas.Option.{same_Some}
use Rattle.sha1.specs.Sha1 as one
use Rattle.sha2.specs.Sha256.{sha256, hash_after, compress, rounds, first_words, schedule, digest_bytes}
use Rattle.ss_octets.specs.Cut.{parts_at}
use Rattle.ss_message.specs.Message.{text}
use Rattle.ss_payload.specs.Payload.{payload_text}
use Rattle.ss_block.specs.Hashes.{pair}
use Rattle.ss_block.specs.PayloadReading.{stamp_in, stamp_and_rest_in, blob_in, payload_in}
use Rattle.ss_block.specs.ReadingLaws.{ReadingsAreOfValues}
use Rattle.ss_block.specs.WritingLaws.{SignaturesAreRead, CertificatesAreRead}
use Rattle.ss_origin.specs.Chain.{Turn, emitted_by}
use Rattle.ss_review.specs.Ordered.{in_order}
use Rattle.ss_review.specs.announced.Announced.{rows, keys}
use Rattle.ss_review.specs.assign.Assigned.{pair_of_bearer, places_with, wanted, rank, assigned, is_taken}
use Rattle.ss_review.specs.counted.Counted.{gbcs, next_number, missing, counted_sessions}
use Rattle.ss_review.specs.counted.Kept.{gbc_in, number_in, groups_in, kept_sessions, tails_in, log_shortfalls}
use Rattle.ss_review.specs.counted.KeptLaws.{shortfalls_of, IsLost}
use Rattle.ss_review.specs.declared.counted.shortfall.LogShortfalls.{LogShortfalls}
use Rattle.ss_review.specs.keep.BlockMessage.{BlockMessage, Hashes}
use Rattle.ss_review.specs.declared.report.entry.Entry.TheVariants as entry
use Rattle.ss_review.specs.declared.report.entry.Why.TheVariants as whys
use Rattle.ss_review.specs.declared.report.report.Report.{Report}
use Rattle.ss_review.specs.deliveries.Delivery.{is_normal, IsDelivered, sent, normal, Delivers}
use Rattle.ss_review.specs.deliveries.DeliveryLaws.{report_in}
use Rattle.ss_review.specs.deliveries.SmallChains.{mark, small, message, certificate, accepting, PremisesAreMet}
use Rattle.ss_review.specs.keep.Contents.{block_in, contents}
use Rattle.ss_review.specs.keep.Notes.{note, notes}
use Rattle.ss_review.specs.report.Entries.{group_keys, entries}
use Rattle.ss_review.specs.report.Report.{report_of}
use Rattle.ss_review.specs.sessions.Payloads.{is_disputed, cover, joined_text, stated_payload}
use Rattle.ss_review.specs.sessions.Verified.{joined, is_verified, signature_of}
use Rattle.ss_review.proofs.of_kept_messages.NotesTold.{block_read}
use Rattle.ss_octets.proofs.Members.{Has, has_from_contains, contains_from_has}
use Rattle.ss_laws.specs.ahead.cases.LostLog.{LostLogIsThis}
use Rattle.ss_laws.specs.strangers.AddedMessages.{IsWith, MayBeAdded}
use Rattle.ss_laws.specs.strangers.cases.SmallUnforged.{forged_block, mixed, counters_at, missing_to}
use Rattle.ss_laws.specs.strangers.cases.SmallUntrusted.{delivered, delivered_ahead, delivered_report, SmallUntrustedIsThis}
use Rattle.ss_laws.specs.strangers.Strangers.{IsForeign}
use Rattle.ss_laws.proofs.of_strangers.cases.SmallAttack.{foreign}
use Rattle.ss_laws.proofs.of_strangers.cases.SmallHashes.{apart_50_52, apart_57_52}
use Rattle.ss_laws.proofs.of_strangers.cases.SmallUnforged.{told, in_tail, kept_seven, reach, last_numbered, hashed, strange_hash, own_text, forged_read, strange_plain, own_lines, lost}
use Rattle.ss_laws.proofs.of_strangers.cases.SmallLogs.{plain_note, Line, blocks_from, contents_of, contents_read}

module _ (values : ReadingsAreOfValues) (signatures : SignaturesAreRead) (certificates_read : CertificatesAreRead) where
  abbrev its_lines : List Line
  its_lines = own_lines values signatures certificates_read

  contents_are : contents (notes delivered.log) ≡ contents_of its_lines
  contents_are = contents_read its_lines

  -- ---- what is computed

  reported : report_of accepting (contents_of its_lines) ≡ delivered_report
  unfolding rows keys pair_of_bearer places_with wanted rank assigned is_taken group_keys entries in_order is_disputed cover joined_text stated_payload report_of joined is_verified parts_at stamp_in stamp_and_rest_in blob_in payload_in payload_text pair text digits sha256 hash_after compress rounds first_words schedule digest_bytes one.sha1 one.hash_after one.compress one.rounds one.first_words one.schedule one.digest_bytes
  reported = refl

  missing_own : log_shortfalls (counters_at 2 5) delivered_report.sessions (counted_sessions accepting (blocks_from 0 its_lines)) ≡ missing_to 1 4
  unfolding log_shortfalls tails_in groups_in number_in gbc_in kept_sessions in_order next_number gbcs missing is_verified joined is_disputed cover joined_text stated_payload parts_at stamp_in stamp_and_rest_in blob_in payload_in payload_text
  missing_own = refl

  missing_next : log_shortfalls (counters_at 4 7) delivered_report.sessions (counted_sessions accepting (blocks_from 0 its_lines)) ≡ missing_to 3 6
  unfolding log_shortfalls tails_in groups_in number_in gbc_in kept_sessions in_order next_number gbcs missing is_verified joined is_disputed cover joined_text stated_payload parts_at stamp_in stamp_and_rest_in blob_in payload_in payload_text
  missing_next = refl

  report : report_in delivered ≡ delivered_report
  report = ap (report_of accepting) contents_are ∙ reported

  up_to : (gbc next : ℕ) (all : LogShortfalls) → log_shortfalls (counters_at gbc next) delivered_report.sessions (counted_sessions accepting (blocks_from 0 its_lines)) ≡ all
      → shortfalls_of accepting delivered.log (counters_at gbc next) ≡ all
  up_to gbc next all computed = (λ i. log_shortfalls (counters_at gbc next) (report i).sessions (counted_sessions accepting (contents_are i).blocks)) ∙ computed

  -- ---- the log delivers

  delivers : (chain : List (List Turn)) → Has (emitted_by chain) certificate → Has (emitted_by chain) own_text → Has (emitted_by chain) (message 50) → Delivers small chain delivered.log
  delivers chain first second third m c = each m (has_from_contains delivered.log m c)
    where
      as_sent : (t m : List ℕ) → Has (emitted_by chain) t → t ≡ m → IsDelivered small chain m
      as_sent t m h e = sent (subst (Contains (emitted_by chain)) e (contains_from_has (emitted_by chain) t h))

      each : (m : List ℕ) → Has delivered.log m → IsDelivered small chain m
      each m (inl e) = as_sent certificate m first e
      each m (inr (inl e)) = as_sent own_text m second e
      each m (inr (inr (inl e))) = normal (subst (λ t. is_normal (note t) ≡ true) e (ap is_normal (plain_note 57 (strange_plain values signatures certificates_read))))
      each m (inr (inr (inr (inl e)))) = as_sent (message 50) m third e
      each m (inr (inr (inr (inr h)))) = absurd h

  -- ---- what the stranger added

  foreign_block : (place : ℕ) (b : BlockMessage) → block_in place forged_block ≡ Some b → IsForeign accepting b
  foreign_block place b e p t =
      let said : b.said ≡ Hashes (hashed 2 84 strange_hash) = sym (same_Some _ _ (sym (forged_read values signatures certificates_read).text_is.read ∙ (block_read place forged_block b e).said_is)) in
      ap (λ c. bytes_eq (signature_of c) mark) said

  added : IsWith (MayBeAdded accepting delivered.log) delivered.log mixed.log
  added = inr (inr (foreign signatures certificates_read), inr (inr foreign_block, inl (_, refl, inl (_, refl, inl (_, refl, inl ([], refl, refl))))))

  -- what is lost from the log with the stranger's blocks is lost from this one
  in_mixed : (n : List ℕ) → Has delivered.log n → Has mixed.log n
  in_mixed n (inl e) = inr (inr (inl e))
  in_mixed n (inr (inl e)) = inr (inr (inr (inl e)))
  in_mixed n (inr (inr (inl e))) = inr (inr (inr (inr (inl e))))
  in_mixed n (inr (inr (inr (inl e)))) = inr (inr (inr (inr (inr (inl e)))))
  in_mixed n (inr (inr (inr (inr h)))) = absurd h

  last_lost : IsLost delivered (message 52)
  last_lost n c t e =
      lost values signatures certificates_read 52 apart_57_52 apart_50_52 n (contains_from_has mixed.log n (in_mixed n (has_from_contains delivered.log n c))) t e

  pub small_untrusted : PremisesAreMet → LostLogIsThis → SmallUntrustedIsThis
  small_untrusted met l =
      let own_missing = up_to 2 5 (missing_to 1 4) missing_own in
      let next_missing = up_to 4 7 (missing_to 3 6) missing_next in
      let sessions = ap (λ (r : Report). r.sessions) report in
      record {
        added = added;
        chain = met.lossy_is_case.chain;
        delivers = delivers delivered.chain (inr (inr (inr (inr (inr (inr (inl refl))))))) (inr (inr (inr (inr (inl refl))))) (inr (inr (inr (inl refl))));
        reach = reach;
        last_is = refl;
        last_lost = last_lost;
        ahead = record { chain = l.is_case.chain; turns = refl };
        delivers_ahead = delivers delivered_ahead.chain (inr (inr (inr (inr (inr (inr (inl refl))))))) (inr (inr (inr (inr (inl refl))))) (inr (inr (inr (inl refl))));
        last_numbered = last_numbered;
        below = let seven = kept_seven in omega (arith, seven);
        report = report;
        listed = told (report_in delivered) 3 sessions (entry.Listed 2 3) (inr (inl refl));
        stored = refl;
        its_message = refl;
        gap = told (report_in delivered) 3 sessions (entry.Gap 1 whys.Lost) (inl refl);
        missing = own_missing;
        in_tail = in_tail 1 4 (shortfalls_of accepting delivered.log (counters_at 2 5)) 4 own_missing (omega arith) (omega arith);
        missing_ahead = next_missing;
        in_tail_ahead = in_tail 3 6 (shortfalls_of accepting delivered.log (counters_at 4 7)) 6 next_missing (omega arith) (omega arith);
      }
