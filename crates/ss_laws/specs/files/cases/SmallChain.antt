-- A small chain of three files, each of them clean, and what is no chain.
use Rattle.std.specs.Prelude.{◌≡◌, ℕ, true, List, [], ◌∷◌, ◌++◌, drop, codes, Some, None}
use Rattle.std.specs.Str.{bytes_eq}
use Rattle.sha2.specs.Sha256.{sha256}
use Rattle.ss_octets.specs.StrictBase64.{some_octets}
use Rattle.ss_frame.specs.Frame.{frames}
use Rattle.ss_frame.specs.declared.limits.Form.TheVariants.{Frames}
use Rattle.ss_message.specs.Message.{text}
use Rattle.ss_block.specs.declared.hash.Alg.TheVariants as algs
use Rattle.ss_block.specs.Block as block
use Rattle.ss_block.specs.Hashes.{hash_of}
use Rattle.ss_block.specs.Head.{HeadValue}
use Rattle.ss_block.specs.Writing.{signature_text, certificate_text, head_session}
use Rattle.ss_review.specs.declared.report.entry.Entry.TheVariants as entry
use Rattle.ss_review.specs.declared.report.group_report.GroupReport.{GroupReport}
use Rattle.ss_review.specs.declared.report.report.Report.{Report}
use Rattle.ss_review.specs.declared.report.session_report.SessionReport.{SessionReport}
use Rattle.ss_review.specs.declared.report.session_report.SessionState.TheVariants as states
use Rattle.ss_review.specs.report.Report.{report}
use Rattle.ss_review.specs.sessions.Verified.{Answers}
use Rattle.ss_laws.specs.files.ChainLaws.{IsChain}
use Rattle.ss_laws.specs.files.Files.{SignedFile, Naming, AreLinked, GoBackToTheFirst}
use Rattle.ss_laws.specs.files.Links.{Check}

-- ---- a file

-- its link begins with the 24 octets `<110>1 - h s - chain - :`, after which the SHA-256 of the file before stands
abbrev pub link_text : List ℕ → List ℕ
link_text sum =
    text (record {
      pri = 110;
      stamp = None;
      hostname = Some (codes "h");
      app_name = Some (codes "s");
      procid = None;
      msgid = Some (codes "chain");
      elements = [];
      msg = Some (codes ":" ++ sum);
    })

abbrev pub small_names : Naming
small_names link = some_octets (drop 24 link)

abbrev pub head : HeadValue
head = record { pri = 110; hostname = Some (codes "h"); app_name = Some (codes "s"); procid = None; msgid = None }

-- the one signature that is valid
abbrev pub mark : List ℕ
mark = codes "S"

-- a certificate block with all of the payload `- N`
abbrev pub certificate : ℕ → block.Certificate
certificate rsid = record {
  alg = algs.Sha256;
  rsid = rsid;
  group = record { sg = 0; spri = 0 };
  total = 3;
  index = 1;
  fragment = codes "- N";
  signature = mark;
}

-- a signature block with the hash of the link
abbrev pub signature : ℕ → List ℕ → block.Signature
signature rsid link = record {
  alg = algs.Sha256;
  rsid = rsid;
  group = record { sg = 0; spri = 0 };
  gbc = 0;
  first = 1;
  hashes = hash_of algs.Sha256 link ∷ [];
  signature = mark;
}

abbrev pub small_log : ℕ → List ℕ → List (List ℕ)
small_log rsid link =
    certificate_text head None (certificate rsid) ∷ link ∷ signature_text head None (signature rsid link) ∷ []

abbrev pub small_file : ℕ → List ℕ → SignedFile
small_file rsid link = record { octets = frames (small_log rsid link); link = link }

-- ---- the chain

abbrev pub first : SignedFile
first = small_file 1 (link_text [])

abbrev pub second : SignedFile
second = small_file 2 (link_text (sha256 first.octets))

abbrev pub third : SignedFile
third = small_file 3 (link_text (sha256 second.octets))

-- ---- its check

-- payloads are trusted, and the mark is accepted
abbrev pub accepting : Answers
accepting = record { trusted = λ payload. true; valid = λ payload octets signature. bytes_eq signature mark }

abbrev pub small_check : Check
small_check = record {
  limits = record { max_len = 1000; max_messages = 3; form = Frames };
  known = λ octets. None;
  says = λ octets. accepting;
}

-- the link is listed under the number 1, and nothing else is reported
abbrev pub clean_group : GroupReport
clean_group = record { group = record { sg = 0; spri = 0 }; entries = entry.Listed 1 1 ∷ [] }

abbrev pub clean_session : ℕ → SessionReport
clean_session rsid =
    record { session = head_session head rsid; state = states.Joined; groups = clean_group ∷ [] }

abbrev pub clean_report : ℕ → Report
clean_report rsid =
    record { sessions = clean_session rsid ∷ []; unlisted = []; refused = []; spoilt = []; count = 3 }

-- ---- what is so

pub record SmallChainIsThis : Type 0 where
  pub chain : IsChain small_check small_names (third ∷ second ∷ first ∷ [])
  pub whole : GoBackToTheFirst small_names (third ∷ second ∷ first ∷ [])
  pub third_report : report accepting (small_log 3 third.link) ≡ clean_report 3
  pub second_report : report accepting (small_log 2 second.link) ≡ clean_report 2
  pub first_report : report accepting (small_log 1 first.link) ≡ clean_report 1
  -- without the newest file it is a chain too, so the newest one has to be known
  pub cut : IsChain small_check small_names (second ∷ first ∷ [])
  pub cut_whole : GoBackToTheFirst small_names (second ∷ first ∷ [])
  -- without the first file it doesn't go back to a first one
  pub not_without_the_first : ¬ GoBackToTheFirst small_names (third ∷ second ∷ [])
  -- without the second one the files aren't linked, unless it has the SHA-256 of the first one
  pub not_without_the_second : AreLinked small_names (third ∷ first ∷ []) → sha256 second.octets ≡ sha256 first.octets
