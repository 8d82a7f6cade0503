-- What octets say as a JSON object (RFC 8259) on a line, in the form of the lines of a report as JSON, and with the keys
-- of questions.
use Rattle.std.specs.Prelude.{ℕ, Bool, true, false, List, [], ◌∷◌, ◌++◌, ◌==◌, ◌||◌, if◌then◌else◌, codes, decimal}
use Rattle.std.specs.Prelude.{flat_map, length, Option, Some, None}
use Rattle.ss_octets.specs.Ascii.{quote, backslash}
use Rattle.ss_octets.specs.StrictBase64.{base64}
use Rattle.ss_message.specs.declared.draft.Field.{Field}
use Rattle.ss_message.specs.declared.draft.Field.TheVariants as fields
use Rattle.ss_block.specs.declared.block.Group.{Group}
use Rattle.ss_block.specs.declared.session.Session.{Session}
use Rattle.ss_block.specs.Versions.{version_text}
use Rattle.ss_signed.specs.declared.signed_block.SignedContent.{SignedContent}
use Rattle.ss_signed.specs.declared.signed_block.SignedContent.TheVariants as contents
use Rattle.ss_signed.specs.declared.signed_block.SignedBlock.{SignedBlock}

-- `"` and `\` stand after a `\` in a text (RFC 8259, section 7)
abbrev pub is_escaped : ℕ → Bool
is_escaped octet = octet == quote || octet == backslash

abbrev pub escaped : ℕ → List ℕ
escaped octet = if is_escaped octet then backslash ∷ octet ∷ [] else octet ∷ []

-- ---- a member, after a comma

-- ,"KEY":
abbrev pub key_text : List ℕ → List ℕ
key_text key = codes ",\"" ++ key ++ codes "\":"

abbrev pub number_member : (key : List ℕ) → ℕ → List ℕ
number_member key number = key_text key ++ decimal number

abbrev pub text_member : (key : List ℕ) → List ℕ → List ℕ
text_member key text = key_text key ++ codes "\"" ++ flat_map escaped text ++ codes "\""

-- in strict base64, of which no octet is escaped
abbrev pub octets_member : (key : List ℕ) → List ℕ → List ℕ
octets_member key octets = key_text key ++ codes "\"" ++ base64 octets ++ codes "\""

-- `-` for an absent field
abbrev pub field_octets : Field → List ℕ
field_octets fields.Nil = codes "-"
field_octets (fields.Text octets) = octets

-- ---- the members of a block

unfoldable pub session_members : Session → List ℕ
session_members s =
    text_member (codes "host") (field_octets s.host) ++ text_member (codes "app") (field_octets s.app)
    ++ text_member (codes "procid") (field_octets s.procid)
    ++ number_member (codes "rsid") s.rsid

unfoldable pub group_members : Group → List ℕ
group_members g = number_member (codes "sg") g.sg ++ number_member (codes "spri") g.spri

-- GBC, FMN and CNT; or TPBL, INDEX, FLEN and the fragment
unfoldable pub content_members : SignedContent → List ℕ
content_members (contents.Signature gbc first count) =
    number_member (codes "gbc") gbc ++ number_member (codes "first") first ++ number_member (codes "count") count
content_members (contents.Certificate total index fragment) =
    number_member (codes "total") total ++ number_member (codes "index") index
    ++ number_member (codes "length") (length fragment)
    ++ octets_member (codes "fragment") fragment

-- the word of the line
abbrev pub content_word : SignedContent → List ℕ
content_word (contents.Signature gbc first count) = codes "signature"
content_word (contents.Certificate total index fragment) = codes "certificate"

-- it stands only where the octets are exact
abbrev pub exact_member : Bool → List ℕ
exact_member true = number_member (codes "exact") 1
exact_member false = []

unfoldable pub block_members : SignedBlock → List ℕ
block_members d =
    session_members d.session ++ text_member (codes "ver") (version_text d.alg) ++ group_members d.group
    ++ content_members d.content
    ++ exact_member d.exact

-- ---- the object

abbrev pub object_head : (word : List ℕ) → List ℕ
object_head word = codes "{\"line\":\"" ++ word ++ codes "\""

abbrev pub object_end : List ℕ
object_end = codes "}\n"

unfoldable pub block_object : SignedBlock → List ℕ
block_object d = object_head (content_word d.content) ++ block_members d ++ object_end

-- the line of no block
abbrev pub no_object : List ℕ
no_object = codes "{\"line\":\"none\"}\n"

abbrev pub object_of : Option SignedBlock → List ℕ
object_of (Some d) = block_object d
object_of None = no_object
