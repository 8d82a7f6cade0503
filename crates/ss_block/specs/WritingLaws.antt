-- What holds for every block message that is written (RFC 5848, sections 4.2 and 5.3.2).
use Rattle.std.specs.Prelude.{◌≡◌, ℕ, ◌≤◌, true, List, length, Option, Some}
use Rattle.std.specs.List.{All}
use Rattle.base64.specs.GeneralPurpose.{IsBytes}
use Rattle.ss_message.specs.Stamp.{Moment}
use Rattle.ss_message.specs.Message.{is_timestamp}
use Rattle.ss_block.specs.declared.hash.Alg.TheVariants as algs
use Rattle.ss_block.specs.declared.hash.Hash.{Hash}
use Rattle.ss_block.specs.declared.hash.Hash.TheVariants as hashes
use Rattle.ss_block.specs.declared.session.Session.{Session}
use Rattle.ss_block.specs.declared.reading.Reading.{Reading}
use Rattle.ss_block.specs.declared.reading.Reading.TheVariants as readings
use Rattle.ss_block.specs.Block as block
use Rattle.ss_block.specs.Versions.{hash_length}
use Rattle.ss_block.specs.Head.{HeadValue, IsHead}
use Rattle.ss_block.specs.Reading.{reading}
use Rattle.ss_block.specs.Session.{session}
use Rattle.ss_block.specs.Signed.{signed}
use Rattle.ss_block.specs.Writing.{unsigned_signature_text, signature_text, unsigned_certificate_text, certificate_text}
use Rattle.ss_block.specs.Writing.{head_session}

-- as many octets as the algorithm makes, each below 256; every hash in a call has them
abbrev pub IsHash : Hash → Type 0
IsHash (hashes.Sha1 octets) = (length octets ≡ hash_length algs.Sha1) × IsBytes octets
IsHash (hashes.Sha256 octets) = (length octets ≡ hash_length algs.Sha256) × IsBytes octets

-- The text is that of this block; what is signed of it are these octets, in this session.
pub record IsBlockText (t : List ℕ) (r : Reading) (octets : List ℕ) (s : Session) : Type 0 where
  pub read : reading t ≡ r
  pub signed : signed t ≡ Some octets
  pub session : session t ≡ Some s

-- what is signed of a block has nothing of its signature
abbrev pub UnsignedTextsHaveNoSignature : Type 0
UnsignedTextsHaveNoSignature =
    ((h : HeadValue) (stamp : Option Moment) (b : block.Signature) (other : List ℕ)
    → unsigned_signature_text h stamp
    (record {
      alg = b.alg;
      rsid = b.rsid;
      group = b.group;
      gbc = b.gbc;
      first = b.first;
      hashes = b.hashes;
      signature = other;
    })
    ≡ unsigned_signature_text h stamp b)
    × ((h : HeadValue) (stamp : Option Moment) (b : block.Certificate) (other : List ℕ)
    → unsigned_certificate_text h stamp
    (record {
      alg = b.alg;
      rsid = b.rsid;
      group = b.group;
      total = b.total;
      index = b.index;
      fragment = b.fragment;
      signature = other;
    })
    ≡ unsigned_certificate_text h stamp b)

abbrev pub SignaturesAreRead : Type 0
SignaturesAreRead = (h : HeadValue) (stamp : Option Moment) (b : block.Signature)
    → IsHead h → is_timestamp stamp ≡ true → block.IsSignature b → All IsHash b.hashes → IsBytes b.signature
    → 1 ≤ length b.signature
    → IsBlockText (signature_text h stamp b) (readings.Signature b) (unsigned_signature_text h stamp b)
    (head_session h b.rsid)

abbrev pub CertificatesAreRead : Type 0
CertificatesAreRead = (h : HeadValue) (stamp : Option Moment) (b : block.Certificate)
    → IsHead h → is_timestamp stamp ≡ true → block.IsCertificate b → IsBytes b.signature → 1 ≤ length b.signature
    → IsBlockText (certificate_text h stamp b) (readings.Certificate b) (unsigned_certificate_text h stamp b)
    (head_session h b.rsid)
