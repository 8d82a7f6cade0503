-- The parameters of the elements `ssign` (RFC 5848, section 4.2) and `ssign-cert` (section 5.3.2): the name of each,
-- and its place in its element. Both elements begin with the same four, and end with SIGN.
use Rattle.std.specs.Prelude.{ℕ, List, [], ◌∷◌, codes, map}
use Rattle.ss_block.specs.declared.block_parameter.BlockParameter.{BlockParameter}
use Rattle.ss_block.specs.declared.block_parameter.BlockParameter.TheVariants as kinds

abbrev pub name_of : BlockParameter → List ℕ
name_of kinds.Ver = codes "VER"
name_of kinds.Rsid = codes "RSID"
name_of kinds.Sg = codes "SG"
name_of kinds.Spri = codes "SPRI"
name_of kinds.Gbc = codes "GBC"
name_of kinds.Fmn = codes "FMN"
name_of kinds.Cnt = codes "CNT"
name_of kinds.Hb = codes "HB"
name_of kinds.Tpbl = codes "TPBL"
name_of kinds.Index = codes "INDEX"
name_of kinds.Flen = codes "FLEN"
name_of kinds.Frag = codes "FRAG"
name_of kinds.Sign = codes "SIGN"

-- how many parameters stand before it in its element
abbrev pub place_of : BlockParameter → ℕ
place_of kinds.Ver = 0
place_of kinds.Rsid = 1
place_of kinds.Sg = 2
place_of kinds.Spri = 3
place_of kinds.Gbc = 4
place_of kinds.Fmn = 5
place_of kinds.Cnt = 6
place_of kinds.Hb = 7
place_of kinds.Tpbl = 4
place_of kinds.Index = 5
place_of kinds.Flen = 6
place_of kinds.Frag = 7
place_of kinds.Sign = 8

-- how many parameters each of the two elements has
abbrev pub parameter_count : ℕ
parameter_count = 9

-- the parameters of `ssign`, in their order
abbrev pub signature_row : List BlockParameter
signature_row =
    kinds.Ver ∷ kinds.Rsid ∷ kinds.Sg ∷ kinds.Spri ∷ kinds.Gbc ∷ kinds.Fmn
    ∷ kinds.Cnt ∷ kinds.Hb ∷ kinds.Sign ∷ []

-- the parameters of `ssign-cert`, in their order
abbrev pub certificate_row : List BlockParameter
certificate_row =
    kinds.Ver ∷ kinds.Rsid ∷ kinds.Sg ∷ kinds.Spri ∷ kinds.Tpbl ∷ kinds.Index
    ∷ kinds.Flen ∷ kinds.Frag ∷ kinds.Sign ∷ []

abbrev pub names_in : List BlockParameter → List (List ℕ)
names_in row = map name_of row
