-- Each file of the small chain is read, and its report is clean.
use Rattle.std.proofs.Common.{◌≡◌, ℕ, zero, suc, ◌≤◌, true, List, [], ◌∷◌, ◌++◌, refl, ap, ◌∙◌, arith}
use Rattle.std.specs.Prelude.{Some, None, codes}
use Rattle.std.specs.List.{cons_option}
use Rattle.std.specs.Str.{bytes_eq, IsAscii}
use Rattle.std.proofs.lemmas.Cmp.{tied_itself, nat_cmp_total}
use Rattle.std.proofs.lemmas.List.Elements.{All-nil, All-cons}
use Rattle.std.proofs.lemmas.Slice.Eq.{bytes_eq-Decides}
use Rattle.std.proofs.lemmas.Str.{IsUtf8-from_ascii, is_utf8-from_IsUtf8}
use Rattle.base64.specs.GeneralPurpose.{IsBytes}
use Rattle.ss_octets.specs.Cut.{parts_at}
use Rattle.ss_message.specs.Message.{MessageValue}
use Rattle.ss_message.specs.Octets.{is_text}
use Rattle.ss_block.specs.declared.hash.Alg.TheVariants as algs
use Rattle.ss_block.specs.declared.hash.HashPair.{HashPair}
use Rattle.ss_block.specs.declared.hash.Hash.TheVariants as hashes
use Rattle.ss_block.specs.declared.reading.Reading.{Reading}
use Rattle.ss_block.specs.declared.reading.Reading.TheVariants as readings
use Rattle.ss_block.specs.Hashes.{pair, hash_of}
use Rattle.ss_block.specs.Head.{IsHead}
use Rattle.ss_block.specs.PayloadReading.{stamp_in, stamp_and_rest_in, blob_in, payload_in}
use Rattle.ss_block.specs.Reading.{reading}
use Rattle.ss_block.specs.ReadingLaws.{ReadingsAreOfValues}
use Rattle.ss_block.specs.Writing.{signature_text, certificate_text, head_session}
use Rattle.ss_block.specs.Writing.{unsigned_signature_text, unsigned_certificate_text}
use Rattle.ss_block.specs.WritingLaws.{IsHash, IsBlockText, SignaturesAreRead, CertificatesAreRead}
use Rattle.ss_review.specs.Ordered.{in_order}
use Rattle.ss_review.specs.announced.Announced.{rows, keys}
use Rattle.ss_review.specs.assign.Assigned.{pair_of_bearer, places_with, wanted, rank, assigned, is_taken}
use Rattle.ss_review.specs.keep.BlockMessage.{BlockContent, Hashes, Fragment}
use Rattle.ss_review.specs.keep.Contents.{Contents, said_in, block_with, block_in, normals, blocks, spoilts, contents}
use Rattle.ss_review.specs.keep.Notes.{Normal, Block, noted, note, notes}
use Rattle.ss_review.specs.report.Entries.{group_keys, entries}
use Rattle.ss_review.specs.report.Report.{report_of, report}
use Rattle.ss_review.specs.sessions.Payloads.{is_disputed, cover, joined_text, stated_payload}
use Rattle.ss_review.specs.sessions.Verified.{joined, is_verified}
use Rattle.ss_review.proofs.of_deliveries.DigestOctets.{hash_is_hash}
use Rattle.ss_laws.specs.files.cases.SmallChain.{link_text, head, mark, certificate, signature, small_log}
use Rattle.ss_laws.specs.files.cases.SmallChain.{accepting, clean_report}

-- ---- its texts

is_head : IsHead head
unfolding is_text
is_head = record { pri = omega arith; hostname = refl; app_name = refl; procid = refl; msgid = refl }

mark_octets : IsBytes mark
mark_octets zero = omega arith
mark_octets (suc i) = omega arith

payload_ascii : IsAscii (codes "- N")
payload_ascii zero = omega arith
payload_ascii (suc zero) = omega arith
payload_ascii (suc (suc zero)) = omega arith
payload_ascii (suc (suc (suc i))) = omega arith

abbrev certificate_message : ℕ → List ℕ
certificate_message rsid = certificate_text head None (certificate rsid)

abbrev signature_message : ℕ → List ℕ → List ℕ
signature_message rsid link = signature_text head None (signature rsid link)

-- what is signed of them
abbrev certificate_signed : ℕ → List ℕ
certificate_signed rsid = unsigned_certificate_text head None (certificate rsid)

abbrev signature_signed : ℕ → List ℕ → List ℕ
signature_signed rsid link = unsigned_signature_text head None (signature rsid link)

-- ---- what is reported of its contents

-- a link with these two hashes between the blocks, of which these octets are signed
abbrev contents_with : ℕ → HashPair → (certified signed : List ℕ) → Contents
contents_with rsid p certified signed = record {
  normal = record { place = 1; pair = p } ∷ [];
  blocks = record {
    place = 0;
    count = 0;
    session = head_session head rsid;
    said = Fragment (certificate rsid);
    signed = certified;
  }
      ∷ record {
        place = 2;
        count = 1;
        session = head_session head rsid;
        said = Hashes (record (signature rsid []) { hashes = hashes.Sha256 p.sha256 ∷ [] });
        signed = signed;
      }
      ∷ [];
  spoilt = [];
  count = 3;
}

same : (octets : List ℕ) → bytes_eq octets octets ≡ true
same octets = (bytes_eq-Decides octets octets).1 refl

-- the session and the two hashes equal themselves, and all else is computed
reported_with : (rsid : ℕ) (p : HashPair) (certified signed : List ℕ)
    → report_of accepting (contents_with rsid p certified signed) ≡ clean_report rsid
unfolding rows keys pair_of_bearer places_with wanted rank assigned is_taken group_keys entries in_order is_disputed cover joined_text stated_payload report_of joined is_verified parts_at stamp_in stamp_and_rest_in blob_in payload_in
reported_with rsid p certified signed = simp (same p.sha256, same p.sha1, tied_itself nat_cmp_total rsid)

-- ---- its contents

block_read : (place : ℕ) (t octets : List ℕ) (r : Reading) (said : BlockContent) (rsid : ℕ)
    → IsBlockText t r octets (head_session head rsid) → said_in r ≡ Some said
    → block_in place t ≡ block_with place (Some said) (Some (head_session head rsid)) (Some octets)
unfolding block_in
block_read place t octets r said rsid is e =
    let s : said_in (reading t) ≡ Some said = ap said_in is.read ∙ e in
    λ i. block_with place (s i) (is.session i) (is.signed i)

module _ (values : ReadingsAreOfValues) (signatures : SignaturesAreRead) (certificates : CertificatesAreRead) where
  link_plain : (sum : List ℕ) → reading (link_text sum) ≡ readings.Plain
  unfolding is_text
  link_plain sum =
      let v : MessageValue
      = record {
        pri = 110;
        stamp = None;
        hostname = Some (codes "h");
        app_name = Some (codes "s");
        procid = None;
        msgid = Some (codes "chain");
        elements = [];
        msg = Some (codes ":" ++ sum);
      } in
      values.0 (link_text sum) v
      (record {
        pri = omega arith;
        stamp = refl;
        hostname = refl;
        app_name = refl;
        procid = refl;
        msgid = refl;
        names = refl;
        raws = refl;
        ids = refl;
        msg = refl;
      })
      refl

  certificate_read : (rsid : ℕ) → rsid ≤ 3
      → IsBlockText (certificate_message rsid) (readings.Certificate (certificate rsid)) (certificate_signed rsid)
      (head_session head rsid)
  certificate_read rsid few =
      certificates head None (certificate rsid) is_head refl
      (record {
        rsid = omega (arith, few);
        group = record { sg = omega arith; spri = omega arith };
        total = omega arith;
        some_index = omega arith;
        some_octet = omega arith;
        at_most_9999_octets = omega arith;
        within = omega arith;
        fragment = is_utf8-from_IsUtf8 (codes "- N") (IsUtf8-from_ascii (codes "- N") payload_ascii);
      }) mark_octets (omega arith)

  signature_read : (rsid : ℕ) (link : List ℕ) → rsid ≤ 3
      → IsBlockText (signature_message rsid link) (readings.Signature (signature rsid link)) (signature_signed rsid link)
      (head_session head rsid)
  signature_read rsid link few =
      signatures head None (signature rsid link) is_head refl
      (record {
        rsid = omega (arith, few);
        group = record { sg = omega arith; spri = omega arith };
        gbc = omega arith;
        some_first = omega arith;
        some_hash = omega arith;
        at_most_99_hashes = omega arith;
        hashes = refl;
        last = omega arith;
      })
      (All-cons IsHash (hash_of algs.Sha256 link) [] (hash_is_hash link) (All-nil IsHash)) mark_octets (omega arith)

  noted_as : (rsid : ℕ) (sum : List ℕ) → rsid ≤ 3
      → notes (small_log rsid (link_text sum))
      ≡ Block (certificate_message rsid) ∷ Normal (pair (link_text sum)) ∷ Block (signature_message rsid (link_text sum))
      ∷ []
  unfolding note
  noted_as rsid sum few =
      let link = link_text sum in
      let c = (certificate_read rsid few).read in
      let l = link_plain sum in
      let s = (signature_read rsid link few).read in
      λ i. noted (certificate_message rsid) (c i) ∷ noted link (l i) ∷ noted (signature_message rsid link) (s i) ∷ []

  contents_are : (rsid : ℕ) (sum : List ℕ) → rsid ≤ 3
      → contents (notes (small_log rsid (link_text sum)))
      ≡ contents_with rsid (pair (link_text sum)) (certificate_signed rsid) (signature_signed rsid (link_text sum))
  unfolding normals blocks spoilts
  contents_are rsid sum few =
      let link = link_text sum in
      let c = block_read 0 (certificate_message rsid) _ _ (Fragment (certificate rsid)) rsid (certificate_read rsid few) refl in
      let s = block_read 2 (signature_message rsid link) _ _ (Hashes (signature rsid link)) rsid (signature_read rsid link few) refl in
      ap contents (noted_as rsid sum few)
      ∙ (λ i. record {
        normal = record { place = 1; pair = pair link } ∷ [];
        blocks = cons_option (c i) (cons_option (s i) []);
        spoilt = [];
        count = 3;
      })

  pub reported : (rsid : ℕ) (sum : List ℕ) → rsid ≤ 3
      → report accepting (small_log rsid (link_text sum)) ≡ clean_report rsid
  reported rsid sum few =
      let link = link_text sum in
      ap (report_of accepting) (contents_are rsid sum few)
      ∙ reported_with rsid (pair link) (certificate_signed rsid) (signature_signed rsid link)
