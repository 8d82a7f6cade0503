-- What octets say of a block: what the block says whose signed octets they are.
use Rattle.std.specs.Prelude.{ℕ, Bool, List, length, Option, Some, None, Result, Ok, Err}
use Rattle.std.specs.Str.{bytes_eq}
use Rattle.ss_message.specs.declared.fault.BadPart.{BadPart}
use Rattle.ss_message.specs.Stamp.{Moment}
use Rattle.ss_message.specs.Message.{MessageValue}
use Rattle.ss_message.specs.Layout.{Layout, value_at}
use Rattle.ss_message.specs.Reading.{layout_at}
use Rattle.ss_block.specs.declared.session.Session.{Session}
use Rattle.ss_block.specs.declared.reading.Reading.{Reading}
use Rattle.ss_block.specs.declared.reading.Reading.TheVariants.{Plain, Unparsed, Signature, Certificate, Spoilt}
use Rattle.ss_block.specs.Block as block
use Rattle.ss_block.specs.Head.{HeadValue}
use Rattle.ss_block.specs.Reading.{value_reading}
use Rattle.ss_block.specs.Writing.{unsigned_signature_text, unsigned_certificate_text, head_session}
use Rattle.ss_signed.specs.declared.signed_block.SignedContent.TheVariants as contents
use Rattle.ss_signed.specs.declared.signed_block.SignedBlock.{SignedBlock}
use Rattle.ss_signed.specs.Completed.{completed_value}

-- what a signature block of this session says, and whether the octets are as they are written
abbrev pub of_signature : Session → block.Signature → Bool → SignedBlock
of_signature s b exact = record {
  session = s;
  alg = b.alg;
  group = b.group;
  content = contents.Signature b.gbc b.first (length b.hashes);
  exact = exact;
}

abbrev pub of_certificate : Session → block.Certificate → Bool → SignedBlock
of_certificate s b exact = record {
  session = s;
  alg = b.alg;
  group = b.group;
  content = contents.Certificate b.total b.index b.fragment;
  exact = exact;
}

-- PRI and four fields of the header
abbrev pub head_in : MessageValue → HeadValue
head_in v = record {
  pri = v.pri;
  hostname = v.hostname;
  app_name = v.app_name;
  procid = v.procid;
  msgid = v.msgid;
}

-- the octets are exactly what is written for this block under this head
abbrev pub signature_described : List ℕ → HeadValue → Option Moment → block.Signature → SignedBlock
signature_described octets h stamp b =
    of_signature (head_session h b.rsid) b (bytes_eq (unsigned_signature_text h stamp b) octets)

abbrev pub certificate_described : List ℕ → HeadValue → Option Moment → block.Certificate → SignedBlock
certificate_described octets h stamp b =
    of_certificate (head_session h b.rsid) b (bytes_eq (unsigned_certificate_text h stamp b) octets)

-- none unless a block was read
abbrev pub described_as : List ℕ → HeadValue → Option Moment → Reading → Option SignedBlock
described_as octets h stamp (Signature b) = Some (signature_described octets h stamp b)
described_as octets h stamp (Certificate b) = Some (certificate_described octets h stamp b)
described_as octets h stamp Plain = None
described_as octets h stamp (Unparsed part pos) = None
described_as octets h stamp (Spoilt cause) = None

-- the message gets SIGN, and is read as a block
abbrev pub value_described : List ℕ → MessageValue → Option SignedBlock
value_described octets v = described_as octets (head_in v) v.stamp (value_reading (completed_value v))

abbrev pub described_from : List ℕ → Result Layout BadPart → Option SignedBlock
described_from octets (Ok l) = value_described octets (value_at octets l)
described_from octets (Err e) = None

-- none unless the octets are a message, and one of a block once it has SIGN
unfoldable pub described : List ℕ → Option SignedBlock
described octets = described_from octets (layout_at octets)
