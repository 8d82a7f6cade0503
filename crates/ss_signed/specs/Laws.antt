-- What holds of all octets.
use Rattle.std.specs.Prelude.{◌≡◌, ◌⊎◌, ℕ, Bool, true, List, Option, Some}
use Rattle.std.specs.List.{All}
use Rattle.ss_message.specs.Stamp.{Moment}
use Rattle.ss_message.specs.Message.{is_timestamp}
use Rattle.ss_block.specs.declared.session.Session.{Session}
use Rattle.ss_block.specs.declared.reading.Reading.TheVariants as readings
use Rattle.ss_block.specs.Block as block
use Rattle.ss_block.specs.Head.{HeadValue, IsHead}
use Rattle.ss_block.specs.Reading.{reading}
use Rattle.ss_block.specs.Session.{session}
use Rattle.ss_block.specs.Signed.{signed}
use Rattle.ss_block.specs.Writing.{unsigned_signature_text, unsigned_certificate_text, head_session}
use Rattle.ss_block.specs.WritingLaws.{IsHash}
use Rattle.ss_signed.specs.declared.signed_block.SignedBlock.{SignedBlock}
use Rattle.ss_signed.specs.Described.{of_signature, of_certificate, described}

-- The octets are what is written, without SIGN, for a head, a stamp and a signature block in their ranges; and they say
-- of it what this is.
pub record IsWrittenSignature (octets : List ℕ) (d : SignedBlock) : Type 0 where
  pub head : HeadValue
  pub stamp : Option Moment
  pub of : block.Signature
  pub head_in_range : IsHead head
  pub stamp_in_range : is_timestamp stamp ≡ true
  pub in_range : block.IsSignature of
  pub hashes : All IsHash of.hashes
  pub written : octets ≡ unsigned_signature_text head stamp of
  pub said : d ≡ of_signature (head_session head of.rsid) of true

-- the same of a certificate block
pub record IsWrittenCertificate (octets : List ℕ) (d : SignedBlock) : Type 0 where
  pub head : HeadValue
  pub stamp : Option Moment
  pub of : block.Certificate
  pub head_in_range : IsHead head
  pub stamp_in_range : is_timestamp stamp ≡ true
  pub in_range : block.IsCertificate of
  pub written : octets ≡ unsigned_certificate_text head stamp of
  pub said : d ≡ of_certificate (head_session head of.rsid) of true

-- the octets are exactly a written block
abbrev pub IsWritten : List ℕ → SignedBlock → Type 0
IsWritten octets d = IsWrittenSignature octets d ⊎ IsWrittenCertificate octets d

-- what is written without SIGN for a block in its ranges is described as that block, and as exact
abbrev pub WrittenBlocksAreExact : Type 0
WrittenBlocksAreExact =
    ((h : HeadValue) (stamp : Option Moment) (b : block.Signature)
    → IsHead h → is_timestamp stamp ≡ true → block.IsSignature b → All IsHash b.hashes
    → described (unsigned_signature_text h stamp b) ≡ Some (of_signature (head_session h b.rsid) b true))
    × ((h : HeadValue) (stamp : Option Moment) (b : block.Certificate)
    → IsHead h → is_timestamp stamp ≡ true → block.IsCertificate b
    → described (unsigned_certificate_text h stamp b) ≡ Some (of_certificate (head_session h b.rsid) b true))

-- the signed octets of a message that is read as a block are described as that block, in its session
abbrev pub SignedOctetsAreOfTheBlock : Type 0
SignedOctetsAreOfTheBlock =
    ((t octets : List ℕ) (b : block.Signature) (s : Session)
    → reading t ≡ readings.Signature b → signed t ≡ Some octets → session t ≡ Some s
    → ((exact : Bool) × (described octets ≡ Some (of_signature s b exact))))
    × ((t octets : List ℕ) (b : block.Certificate) (s : Session)
    → reading t ≡ readings.Certificate b → signed t ≡ Some octets → session t ≡ Some s
    → ((exact : Bool) × (described octets ≡ Some (of_certificate s b exact))))
