-- Where the session of a block stands in its signed octets (RFC 5848, section 4.2).
use Rattle.std.specs.Prelude.{◌≡◌, ℕ, List, Option, Some, None}
use Rattle.ss_message.specs.Layout.{field_of}
use Rattle.ss_message.specs.Octets.{part_of}
use Rattle.ss_message.specs.Places.{IsWithin}
use Rattle.ss_block.specs.declared.session.Session.{Session}
use Rattle.ss_block.specs.declared.session_places.SessionPlaces.{SessionPlaces}
use Rattle.ss_block.specs.Session.{field_from}

-- the three spans lie within the octets
abbrev pub LieIn : List ℕ → SessionPlaces → Type 0
LieIn octets p = IsWithin octets p.host × IsWithin octets p.app × IsWithin octets p.procid

-- the session that is spelled there
abbrev pub session_at : List ℕ → SessionPlaces → Session
session_at octets p = record {
  host = field_from (field_of (part_of octets p.host));
  app = field_from (field_of (part_of octets p.app));
  procid = field_from (field_of (part_of octets p.procid));
  rsid = p.rsid;
}

-- The places tell who sent a block with these signed octets: the session. Where nothing is signed, there are neither
-- places nor a session.
abbrev pub HasSender : Option (List ℕ) → Option SessionPlaces → Option Session → Type 0
HasSender (Some octets) (Some p) s = LieIn octets p × (s ≡ Some (session_at octets p))
HasSender None None s = s ≡ None
HasSender (Some octets) None s = ⊥
HasSender None (Some p) s = ⊥
