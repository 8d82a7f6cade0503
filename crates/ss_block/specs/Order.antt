-- The orders of groups, hashes, causes and sessions.
use Rattle.std.specs.Prelude.{ℕ, List}
use Rattle.std.specs.declared.cmp.Ordering.{Ordering}
use Rattle.std.specs.declared.cmp.Ordering.TheVariants.{Less, Greater}
use Rattle.std.specs.Ordering.{nat_cmp, ordering_then}
use Rattle.std.specs.Cmp.Lexicographic.{slice_cmp}
use Rattle.ss_message.specs.declared.draft.Field.{Field}
use Rattle.ss_message.specs.declared.draft.Field.TheVariants.{Nil, Text}
use Rattle.ss_message.specs.Draft.{drafted_field}
use Rattle.ss_message.specs.Message.{field_text}
use Rattle.ss_block.specs.declared.block.Group.{Group}
use Rattle.ss_block.specs.declared.hash.Hash.{Hash}
use Rattle.ss_block.specs.declared.hash.Hash.TheVariants.{Sha1, Sha256}
use Rattle.ss_block.specs.declared.hash.HashPair.{HashPair}
use Rattle.ss_block.specs.declared.session.Session.{Session}
use Rattle.ss_block.specs.declared.spoil.Spoil.{Spoil}
use Rattle.ss_block.specs.declared.spoil.Spoil.TheVariants as spoils

-- octet by octet, a prefix before the longer list
abbrev pub octets_cmp : List ℕ → List ℕ → Ordering
octets_cmp a b = slice_cmp nat_cmp a b

-- by SG, then SPRI
abbrev pub group_cmp : Group → Group → Ordering
group_cmp a b = ordering_then (nat_cmp a.sg b.sg) (nat_cmp a.spri b.spri)

-- SHA-1 before SHA-256, then by the octets
abbrev pub hash_cmp : Hash → Hash → Ordering
hash_cmp (Sha1 a) (Sha1 b) = octets_cmp a b
hash_cmp (Sha1 a) (Sha256 b) = Less
hash_cmp (Sha256 a) (Sha1 b) = Greater
hash_cmp (Sha256 a) (Sha256 b) = octets_cmp a b

-- by the octets of SHA-1, then those of SHA-256
abbrev pub pair_cmp : HashPair → HashPair → Ordering
pair_cmp a b = ordering_then (octets_cmp a.sha1 b.sha1) (octets_cmp a.sha256 b.sha256)

-- the number of a cause: S1 to S9
abbrev pub spoil_number : Spoil → ℕ
spoil_number spoils.BothBlocks = 1
spoil_number spoils.Names = 2
spoil_number spoils.Version = 3
spoil_number spoils.Number = 4
spoil_number spoils.HashCount = 5
spoil_number spoils.Hash = 6
spoil_number spoils.Sign = 7
spoil_number spoils.Fragment = 8
spoil_number spoils.LastNumber = 9

-- by the numbers
abbrev pub spoil_cmp : Spoil → Spoil → Ordering
spoil_cmp a b = nat_cmp (spoil_number a) (spoil_number b)

-- as a header spells it: `-` for an absent field
abbrev pub spelled : Field → List ℕ
spelled f = field_text (drafted_field f)

-- Sets an absent field apart from the text `-`, which no field of a message is.
abbrev pub presence : Field → ℕ
presence Nil = 0
presence (Text octets) = 1

-- by the octets that spell them
abbrev pub field_cmp : Field → Field → Ordering
field_cmp a b = ordering_then (octets_cmp (spelled a) (spelled b)) (nat_cmp (presence a) (presence b))

-- by HOSTNAME, APP-NAME and PROCID, then RSID
abbrev pub session_cmp : Session → Session → Ordering
session_cmp a b =
    ordering_then (field_cmp a.host b.host)
    (ordering_then (field_cmp a.app b.app)
    (ordering_then (field_cmp a.procid b.procid) (nat_cmp a.rsid b.rsid)))
