-- What the value of a parameter stands for, by how it begins (RFC 5424, section 6.3.3).
use Rattle.std.specs.Prelude.{◌≡◌, ℕ, Bool, true, false, ◌&&◌, ◌==◌, List, [], ◌∷◌}
use Rattle.ss_octets.specs.Ascii.{backslash}
use Rattle.ss_message.specs.Octets.{is_special}
use Rattle.ss_message.specs.Raw.{meant}

-- a `\` before `"`, `\` or `]` begins the octets
abbrev pub begins_escaped : List ℕ → Bool
begins_escaped [] = false
begins_escaped (a ∷ []) = false
begins_escaped (a ∷ b ∷ rest) = (a == backslash) && is_special b

-- A `\` before `"`, `\` or `]` gives that octet, and every other octet gives itself.
pub data Stands : List ℕ → List ℕ → Type 0 where
  nothing : Stands [] []
  escape : {a b : ℕ} {raw value : List ℕ} → a ≡ backslash → is_special b ≡ true
      → Stands raw value → Stands (a ∷ b ∷ raw) (b ∷ value)
  itself : {a : ℕ} {raw value : List ℕ} → begins_escaped (a ∷ raw) ≡ false → Stands raw value
      → Stands (a ∷ raw) (a ∷ value)

-- Octets stand for one value, which is the one that is read.
abbrev pub ValuesStand : Type 0
ValuesStand =
    ((raw : List ℕ) → Stands raw (meant raw))
    × ((raw value : List ℕ) → Stands raw value → value ≡ meant raw)
