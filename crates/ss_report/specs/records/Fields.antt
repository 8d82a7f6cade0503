-- The fields that several outputs have.
use Rattle.std.specs.Prelude.{ℕ, List, [], ◌++◌, Option, Some, None, codes}
use Rattle.ss_message.specs.declared.draft.Field.{Field}
use Rattle.ss_message.specs.declared.draft.Field.TheVariants as fields
use Rattle.ss_block.specs.declared.block.Group.{Group}
use Rattle.ss_block.specs.declared.session.Session.{Session}
use Rattle.ss_block.specs.declared.spoil.Spoil.{Spoil}
use Rattle.ss_block.specs.declared.spoil.Spoil.TheVariants as spoils
use Rattle.ss_report.specs.records.Record.{Value, Number, Text, field}

-- `-` for an absent field
abbrev pub field_word : Field → List ℕ
field_word fields.Nil = codes "-"
field_word (fields.Text octets) = octets

-- host, app, procid and rsid
unfoldable pub session_fields : Session → List (List ℕ × Value)
session_fields s =
    field (codes "host") (Text (field_word s.host)) ++ field (codes "app") (Text (field_word s.app))
    ++ field (codes "procid") (Text (field_word s.procid))
    ++ field (codes "rsid") (Number s.rsid)

-- the fields of a session, where one is known
abbrev pub known_session_fields : Option Session → List (List ℕ × Value)
known_session_fields None = []
known_session_fields (Some s) = session_fields s

-- sg and spri
unfoldable pub group_fields : Group → List (List ℕ × Value)
group_fields g = field (codes "sg") (Number g.sg) ++ field (codes "spri") (Number g.spri)

-- a damaged stretch: how many messages stand before it, the offset of its first octet, and how many it has
unfoldable pub stretch_fields : (place offset size : ℕ) → List (List ℕ × Value)
stretch_fields place offset size =
    field (codes "place") (Number place) ++ field (codes "offset") (Number offset)
    ++ field (codes "length") (Number size)

-- the word of the cause, S1 to S9
abbrev pub cause_word : Spoil → List ℕ
cause_word spoils.BothBlocks = codes "S1"
cause_word spoils.Names = codes "S2"
cause_word spoils.Version = codes "S3"
cause_word spoils.Number = codes "S4"
cause_word spoils.HashCount = codes "S5"
cause_word spoils.Hash = codes "S6"
cause_word spoils.Sign = codes "S7"
cause_word spoils.Fragment = codes "S8"
cause_word spoils.LastNumber = codes "S9"
