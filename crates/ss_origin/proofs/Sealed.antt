-- A block that was signed and written is sealed.
use Rattle.std.proofs.Common.{◌≡◌, ℕ, ◌≤◌, true, List, length, Option, ap, ◌∙◌}
use Rattle.std.specs.Prelude.{Some}
use Rattle.ss_message.specs.Stamp.{Moment}
use Rattle.ss_payload.specs.Payload.{payload_text}
use Rattle.ss_block.specs.declared.reading.Reading.TheVariants as readings
use Rattle.ss_block.specs.Block as block
use Rattle.ss_block.specs.Reading.{reading}
use Rattle.ss_block.specs.Session.{session}
use Rattle.ss_block.specs.Signed.{signed}
use Rattle.ss_block.specs.Writing.{unsigned_signature_text, signature_text, unsigned_certificate_text, certificate_text, head_session}
use Rattle.ss_origin.specs.declared.unsigned.Unsigned.TheVariants.{Signature, Certificate}
use Rattle.ss_origin.specs.Setting.{Setting}
use Rattle.ss_origin.specs.Emission.{IsSealed}

-- a signature of these octets that may be taken
pub record Signs (s : Setting) (octets signature : List ℕ) : Type 0 where
  pub some_octet : 1 ≤ length signature
  pub at_most_1024 : length signature ≤ 1024
  pub valid : s.valid (payload_text s.payload) octets signature ≡ true

module _ (s : Setting) (stamp : Option Moment) where
  pub record WritesSignature (b : block.Signature) (m : List ℕ) : Type 0 where
    pub text : m ≡ signature_text s.config.head stamp b
    pub read : reading m ≡ readings.Signature b
    pub signed : signed m ≡ Some (unsigned_signature_text s.config.head stamp b)
    pub session : session m ≡ Some (head_session s.config.head b.rsid)

  pub record WritesCertificate (b : block.Certificate) (m : List ℕ) : Type 0 where
    pub text : m ≡ certificate_text s.config.head stamp b
    pub read : reading m ≡ readings.Certificate b
    pub signed : signed m ≡ Some (unsigned_certificate_text s.config.head stamp b)
    pub session : session m ≡ Some (head_session s.config.head b.rsid)

  pub sealed_signature : (b : block.Signature) (signature m : List ℕ)
      → b.rsid ≡ s.config.rsid
      → Signs s (unsigned_signature_text s.config.head stamp b) signature
      → WritesSignature (record b { signature = signature }) m
      → IsSealed s stamp (Signature b) m
  sealed_signature b signature m same signs writes = record {
    signature = signature;
    some_octet = signs.some_octet;
    at_most_1024 = signs.at_most_1024;
    valid = signs.valid;
    text = writes.text;
    read = record { read = writes.read; signed = writes.signed; session = writes.session ∙ ap (λ r. Some (head_session s.config.head r)) same };
  }

  pub sealed_certificate : (b : block.Certificate) (signature m : List ℕ)
      → b.rsid ≡ s.config.rsid
      → Signs s (unsigned_certificate_text s.config.head stamp b) signature
      → WritesCertificate (record b { signature = signature }) m
      → IsSealed s stamp (Certificate b) m
  sealed_certificate b signature m same signs writes = record {
    signature = signature;
    some_octet = signs.some_octet;
    at_most_1024 = signs.at_most_1024;
    valid = signs.valid;
    text = writes.text;
    read = record { read = writes.read; signed = writes.signed; session = writes.session ∙ ap (λ r. Some (head_session s.config.head r)) same };
  }
