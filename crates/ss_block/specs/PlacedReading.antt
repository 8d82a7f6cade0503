-- Where the content of a block stands in its signed octets: the value of HB (RFC 5848, section 4.2.7) or of FRAG
-- (section 5.3.2), as it stands there, escapes included.
use Rattle.std.specs.Prelude.{◌≡◌, ◌≤◌, ℕ, List, [], Option, Some, None}
use Rattle.ss_message.specs.declared.span.Span.{Span}
use Rattle.ss_message.specs.Octets.{part_of}
use Rattle.ss_message.specs.Places.{IsWithin}
use Rattle.ss_message.specs.Raw.{meant}
use Rattle.ss_block.specs.declared.reading.Reading.{Reading}
use Rattle.ss_block.specs.declared.reading.Reading.TheVariants.{Plain, Unparsed, Signature, Certificate, Spoilt}
use Rattle.ss_block.specs.Block as block
use Rattle.ss_block.specs.declared.session_places.SessionPlaces.{SessionPlaces}
use Rattle.ss_block.specs.Writing.{hashes_text}

-- The value at the span is the one spelling of the hashes of the block.
pub record SpellsHashes (octets : List ℕ) (s : Span) (b : block.Signature) : Type 0 where
  pub within : IsWithin octets s
  pub spelled : part_of octets s ≡ hashes_text b.hashes

-- the value at the span stands for the fragment of the block
pub record SpellsFragment (octets : List ℕ) (s : Span) (c : block.Certificate) : Type 0 where
  pub within : IsWithin octets s
  pub fragment : c.fragment ≡ meant (part_of octets s)

-- The span tells where in the signed octets the content of a block stands; of any other reading nothing is said.
abbrev pub HasContent : Option (List ℕ) → Option Span → Reading → Type 0
HasContent (Some octets) (Some s) (Signature b) = SpellsHashes octets s b
HasContent None s (Signature b) = ⊥
HasContent (Some octets) None (Signature b) = ⊥
HasContent (Some octets) (Some s) (Certificate c) = SpellsFragment octets s c
HasContent None s (Certificate c) = ⊥
HasContent (Some octets) None (Certificate c) = ⊥
HasContent octets s Plain = Unit {0}
HasContent octets s (Unparsed part pos) = Unit {0}
HasContent octets s (Spoilt cause) = Unit {0}

-- the places of a sender end before the content of the block begins
abbrev pub StandsBefore : Option SessionPlaces → Option Span → Type 0
StandsBefore (Some p) (Some s) = (p.host.end ≤ s.start) × (p.app.end ≤ s.start) × (p.procid.end ≤ s.start)
StandsBefore (Some p) None = Unit {0}
StandsBefore None s = Unit {0}

-- RSID is that of the block
abbrev pub HasRsid : Option SessionPlaces → Reading → Type 0
HasRsid (Some p) (Signature b) = p.rsid ≡ b.rsid
HasRsid (Some p) (Certificate c) = p.rsid ≡ c.rsid
HasRsid (Some p) Plain = Unit {0}
HasRsid (Some p) (Unparsed part pos) = Unit {0}
HasRsid (Some p) (Spoilt cause) = Unit {0}
HasRsid None r = Unit {0}

-- the octets of SIGN; none where there is no block
abbrev pub signature_in : Reading → List ℕ
signature_in (Signature b) = b.signature
signature_in (Certificate c) = c.signature
signature_in Plain = []
signature_in (Unparsed part pos) = []
signature_in (Spoilt cause) = []
