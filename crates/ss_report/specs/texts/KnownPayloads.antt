-- A map that holds payloads, each with its index.
use Rattle.std.specs.Prelude.{◌≡◌, ℕ, List, Option, length}
use Rattle.std.specs.Ordering.{nat_cmp}
use Rattle.std.specs.List.{position}
use Rattle.std.specs.Str.{bytes_eq}
use Rattle.std.specs.Cmp.Lexicographic.{slice_cmp}
use Rattle.std.specs.BTreeMap.{BTreeMap, btree_map_len, get_by}
use Rattle.std.specs.Borrow.{Bor}

-- what the map holds for these octets
abbrev pub found_in : BTreeMap (Bor (List ℕ)) ℕ → List ℕ → Option ℕ
found_in m payload = get_by (λ k. slice_cmp nat_cmp payload k.now) m

-- it holds these payloads and no other, each with its index among them
pub record Knows (m : BTreeMap (Bor (List ℕ)) ℕ) (ps : List (List ℕ)) : Type 0 where
  pub found : (payload : List ℕ) → found_in m payload ≡ position (bytes_eq payload) ps
  pub many : btree_map_len m ≡ length ps
