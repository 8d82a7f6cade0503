-- The small chain is one: each link names the file before, and each file has its link.
use Rattle.std.proofs.Common.{◌≡◌, inl, inr, ℕ, zero, suc, ◌+◌, ◌≤◌, ◌<◌, Bool, true, false, List, [], ◌∷◌, length}
use Rattle.std.proofs.Common.{refl, sym, ap, ◌∙◌, subst, arith, length-append}
use Rattle.std.specs.Prelude.{Some, None, decimal, if◌then◌else◌, ◌/◌, ◌*◌}
use Rattle.std.specs.Fmt.{digits}
use Rattle.std.specs.List.{Contains}
use Rattle.std.proofs.lemmas.Option.{same_Some}
use Rattle.base64.specs.Rfc4648.{padding_len}
use Rattle.sha2.specs.Sha256.{sha256}
use Rattle.sha2.proofs.Facts256.{length-sha256}
use Rattle.ss_octets.specs.StrictBase64.{base64, some_octets}
use Rattle.ss_octets.proofs.Members.{has_from_contains, contains_from_has}
use Rattle.ss_frame.specs.End.{Clean}
use Rattle.ss_frame.specs.Frame.{frames, IsAllowed}
use Rattle.ss_frame.specs.Laws.{UnitsAreRead}
use Rattle.ss_frame.specs.Stream.{reads}
use Rattle.ss_message.specs.Message.{text}
use Rattle.ss_message.specs.Octets.{is_special}
use Rattle.ss_message.specs.Raw.{escaped}
use Rattle.ss_block.proofs.Lengths.{length-padded}
use Rattle.ss_block.specs.declared.session.Session.{Session}
use Rattle.ss_block.specs.ReadingLaws.{ReadingsAreOfValues}
use Rattle.ss_block.specs.WritingLaws.{SignaturesAreRead, CertificatesAreRead}
use Rattle.ss_block.specs.declared.hash.Alg.TheVariants as algs
use Rattle.ss_block.specs.Hashes.{hash_of}
use Rattle.ss_block.specs.Writing.{hash_octets, signature_text, certificate_text, head_session}
use Rattle.ss_review.specs.declared.report.entry.Entry.TheVariants as entry
use Rattle.ss_review.specs.declared.report.report.Report.{Report}
use Rattle.ss_review.specs.declared.report.session_report.SessionReport.{SessionReport}
use Rattle.ss_review.specs.report.Meaning.{IsListed}
use Rattle.ss_review.specs.report.Report.{report}
use Rattle.ss_review.proofs.of_deliveries.DigestOctets.{hash_is_hash}
use Rattle.ss_laws.specs.files.Links.{Joins, first_number, HasLink}
use Rattle.ss_laws.specs.files.cases.SmallChain.{link_text, small_names, head, mark, certificate, signature, small_log, small_file}
use Rattle.ss_laws.specs.files.cases.SmallChain.{first, second, third, accepting, small_check}
use Rattle.ss_laws.specs.files.cases.SmallChain.{clean_group, clean_session, clean_report, SmallChainIsThis}
use Rattle.ss_laws.proofs.of_files.cases.SmallFiles.{reported}

-- ---- how long its texts are

escaped_octet-short : (t : Bool) (b : ℕ) → length (if t then 92 ∷ b ∷ [] else b ∷ []) ≤ 2
escaped_octet-short true b = omega arith
escaped_octet-short false b = omega arith

escaped-short : (octets : List ℕ) → length (escaped octets) ≤ length octets + length octets
escaped-short [] = omega arith
escaped-short (b ∷ octets) =
    let appended = length-append (if is_special b then 92 ∷ b ∷ [] else b ∷ []) (escaped octets) in
    omega (arith, appended, escaped_octet-short (is_special b) b, escaped-short octets)

-- octets that are at least one, and no more than are allowed
pub record IsShort (octets : List ℕ) : Type 0 where
  pub some_octet : 0 < length octets
  pub not_too_long : length octets ≤ 1000

link-short : (sum : List ℕ) → length sum ≤ 32 → IsShort (link_text sum)
unfolding text digits
link-short sum few = record { some_octet = omega arith; not_too_long = omega (arith, few) }

mark-short : length (escaped (base64 mark)) ≤ 8
mark-short = omega (arith, escaped-short (base64 mark), length-padded mark)

hash-short : (link : List ℕ) → length (escaped (base64 (hash_octets (hash_of algs.Sha256 link)))) ≤ 88
hash-short link =
    let octets = hash_octets (hash_of algs.Sha256 link) in
    let long : length (base64 octets) ≡ 44
    = length-padded octets ∙ ap (λ (n : ℕ). (4 * n + 2) / 3 + padding_len n) (hash_is_hash link).0 in
    omega (arith, escaped-short (base64 octets), long)

decimal-short : (n : ℕ) → n ≤ 3 → length (escaped (decimal n)) ≤ 2
unfolding digits
decimal-short zero few = omega arith
decimal-short (suc zero) few = omega arith
decimal-short (suc (suc zero)) few = omega arith
decimal-short (suc (suc (suc zero))) few = omega arith
decimal-short (suc (suc (suc (suc n)))) few = absurd (omega (arith, few))

certificate-short : (rsid : ℕ) → rsid ≤ 3 → IsShort (certificate_text head None (certificate rsid))
unfolding text digits
certificate-short rsid few = record {
  some_octet = omega arith;
  not_too_long = simp length-append (omega (arith, mark-short, decimal-short rsid few));
}

signature-short : (rsid : ℕ) (link : List ℕ) → rsid ≤ 3 → IsShort (signature_text head None (signature rsid link))
unfolding text digits
signature-short rsid link few = record {
  some_octet = omega arith;
  not_too_long = simp length-append (omega (arith, mark-short, hash-short link, decimal-short rsid few));
}

allowed : (octets : List ℕ) → IsShort octets → IsAllowed small_check.limits octets
allowed octets is = record { some_octet = is.some_octet; not_too_long = is.not_too_long; fits = tt }

-- ---- what links name

some_of : (octets : List ℕ) → 0 < length octets → some_octets octets ≡ Some octets
some_of [] some = absurd (omega arith)
some_of (b ∷ octets) some = refl

names_sum : (octets : List ℕ) → small_names (link_text (sha256 octets)) ≡ Some (sha256 octets)
unfolding text digits
names_sum octets = some_of (sha256 octets) (omega (arith, length-sha256 octets))

names_none : small_names (link_text []) ≡ None
unfolding text digits
names_none = refl

-- ---- its files

module _ (values : ReadingsAreOfValues) (signatures : SignaturesAreRead) (certificates : CertificatesAreRead)
    (units : UnitsAreRead) where
  read_whole : (rsid : ℕ) (sum : List ℕ) → rsid ≤ 3 → length sum ≤ 32
      → reads small_check.limits (frames (small_log rsid (link_text sum))) (small_log rsid (link_text sum)) Clean
  read_whole rsid sum few short =
      let link = link_text sum in
      units small_check.limits (small_log rsid link) (
        allowed (certificate_text head None (certificate rsid)) (certificate-short rsid few),
        (
          allowed link (link-short sum short),
          (allowed (signature_text head None (signature rsid link)) (signature-short rsid link few), tt),
        ),
      )
      (omega arith)

  has_link : (rsid : ℕ) (sum : List ℕ) → rsid ≤ 3 → length sum ≤ 32
      → report accepting (small_log rsid (link_text sum)) ≡ clean_report rsid
      → HasLink small_check (small_file rsid (link_text sum)).octets (link_text sum)
  has_link rsid sum few short e =
      let s : Session = head_session head rsid in
      let told : Contains (clean_session rsid ∷ []) (clean_session rsid)
      = contains_from_has (clean_session rsid ∷ []) (clean_session rsid) (inl refl) in
      let joins : Joins (clean_report rsid) s
      = record { session = clean_session rsid; told = told; session_is = refl; joined = refl } in
      let lists : IsListed (clean_report rsid) (first_number s) 1
      = record {
        session = clean_session rsid;
        session_told = told;
        session_is = refl;
        group = clean_group;
        group_told = contains_from_has (clean_group ∷ []) clean_group (inl refl);
        group_is = refl;
        entry_told = contains_from_has (entry.Listed 1 1 ∷ []) (entry.Listed 1 1) (inl refl);
      } in
      record {
        in_range =
            record {
              some_octet = omega arith;
              at_most_a_mebibyte = omega arith;
              some_message = omega arith;
              at_most_ten_million = omega arith;
            };
        log = small_log rsid (link_text sum);
        end = Clean;
        read = read_whole rsid sum few short;
        session = s;
        joined = subst (λ (r : Report). Joins r s) (sym e) joins;
        no_other = λ other o.
            (let k : Joins (clean_report rsid) other = subst (λ (r : Report). Joins r other) e o in
            elim (has_from_contains (clean_session rsid ∷ []) k.session k.told) [
              | inl is ↦ sym k.session_is ∙ ap (λ (t : SessionReport). t.session) (sym is)
              | inr none ↦ absurd none
            ]);
        place = 1;
        listed = subst (λ (r : Report). IsListed r (first_number s) 1) (sym e) lists;
        link_is = refl;
      }

  pub small_chain : SmallChainIsThis
  small_chain =
      let sum_1 : List ℕ = sha256 first.octets in
      let sum_2 : List ℕ = sha256 second.octets in
      let report_1 = reported values signatures certificates 1 [] (omega arith) in
      let report_2 = reported values signatures certificates 2 sum_1 (omega arith) in
      let report_3 = reported values signatures certificates 3 sum_2 (omega arith) in
      let named_1 : small_names second.link ≡ Some sum_1 = names_sum first.octets in
      let named_2 : small_names third.link ≡ Some sum_2 = names_sum second.octets in
      let own_1 = has_link 1 [] (omega arith) (omega arith) report_1 in
      let own_2 = has_link 2 sum_1 (omega arith) (omega (arith, length-sha256 first.octets)) report_2 in
      let own_3 = has_link 3 sum_2 (omega arith) (omega (arith, length-sha256 second.octets)) report_3 in
      record {
        chain = record { links = (own_3, (own_2, (own_1, tt))); linked = (named_2, (named_1, tt)) };
        whole = names_none;
        third_report = report_3;
        second_report = report_2;
        first_report = report_1;
        cut = record { links = (own_2, (own_1, tt)); linked = (named_1, tt) };
        cut_whole = names_none;
        not_without_the_first = λ none. absurd (let no : Some sum_1 ≡ None = sym named_1 ∙ none in cc);
        not_without_the_second = λ linked. same_Some sum_2 sum_1 (sym named_2 ∙ linked.0);
      }
