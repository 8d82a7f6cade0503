-- How far the verified signature blocks of a session reach, as it is looked up: in the numbers of a group, or in GBC.
use Rattle.std.specs.Prelude.{◌≡◌, ℕ, nat_lt, nat_le, min, max, Bool, true, false, List, Option, Some, None, unwrap_or}
use Rattle.std.specs.Prelude.{if◌then◌else◌}
use Rattle.std.specs.declared.cmp.Ordering.{Ordering}
use Rattle.std.specs.Borrow.{Bor}
use Rattle.std.specs.BTreeMap as tree
use Rattle.std.specs.Map.{lookup}
use Rattle.std.specs.Option.{option_cmp}
use Rattle.std.specs.Ordering.{is_eq, ordering_then}
use Rattle.ss_block.specs.declared.block.Group.{Group}
use Rattle.ss_block.specs.declared.session.Session.{Session}
use Rattle.ss_block.specs.Order.{group_cmp, session_cmp}
use Rattle.ss_review.specs.declared.keep.log_blocks.LogBlock.{LogBlock}
use Rattle.ss_review.specs.declared.questions.parameters.AskedParameters.{AskedParameters}
use Rattle.ss_review.specs.declared.report.session_report.SessionReport.{SessionReport}
use Rattle.ss_report.specs.strangers.Strangers.{all_have, has_gbc, has_last, has_verified}

-- a session, and a group or none
abbrev pub Key : Type 0
Key = Bor Session × Option Group

-- by session, then by group, none before each
abbrev pub key_cmp : Key → Key → Ordering
key_cmp a b = ordering_then (session_cmp a.0.now b.0.now) (option_cmp group_cmp a.1 b.1)

-- whether the key is of this session and group
abbrev pub is_key : Session → Option Group → Key → Bool
is_key s scale k = is_eq (ordering_then (session_cmp s k.0.now) (option_cmp group_cmp scale k.1))

-- the same of a session and a group that no key has yet
abbrev pub is_same : (s : Session) → (scale : Option Group) → Session → Option Group → Bool
is_same s scale t other = is_eq (ordering_then (session_cmp s t) (option_cmp group_cmp scale other))

-- what a map has of them
abbrev pub found_in : {X : Type 0} → tree.BTreeMap Key X → Session → Option Group → Option X
found_in m s scale = lookup (is_key s scale) m.entries

abbrev pub reach_in : tree.BTreeMap Key ℕ → Session → Option Group → ℕ
reach_in m s scale = unwrap_or (found_in m s scale) 0

-- one of them is raised at least to this
abbrev pub Raises : (before after : tree.BTreeMap Key ℕ) → Session → Option Group → ℕ → Type 0
Raises before after s scale end =
    (t : Session) (other : Option Group)
    → reach_in after t other
    ≡ (if is_same s scale t other then max (reach_in before t other) end else reach_in before t other)

-- a signature block with at least this GBC, or one of the group whose numbers end there or later
abbrev pub at_least : Option Group → ℕ → AskedParameters → Bool
at_least None x = has_gbc x
at_least (Some g) x = has_last g x

-- what lies below is what a verified block of the session reaches
abbrev pub HasReaches : tree.BTreeMap Key ℕ → (refused : List ℕ) → List LogBlock → Type 0
HasReaches m refused bs =
    (s : Session) (scale : Option Group) (x : ℕ)
    → nat_lt x (reach_in m s scale) ≡ has_verified refused bs (at_least scale x) s

-- ---- several sessions

-- below what all of several reach, where none bounds nothing
abbrev pub is_below : ℕ → Option ℕ → Bool
is_below x None = true
is_below x (Some least) = nat_lt x least

abbrev pub lesser : Option ℕ → ℕ → Option ℕ
lesser None reach = Some reach
lesser (Some least) reach = Some (min least reach)

-- what a map has of a session and a group is what all joined sessions of its originator reach
abbrev pub KnowsLeast :
    tree.BTreeMap Key (Option ℕ) → List SessionReport → (refused : List ℕ) → List LogBlock → Type 0
KnowsLeast m ss refused bs =
    (s : Session) (scale : Option Group) (least : Option ℕ)
    → found_in m s scale ≡ Some least
    → (x : ℕ)
    → is_below x least ≡ all_have ss refused bs (at_least scale x) s
