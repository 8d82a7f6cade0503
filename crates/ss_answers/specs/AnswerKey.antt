-- The order in which the lines of an answers file are kept.
use Rattle.std.specs.Prelude.{◌≡◌, ℕ, ◌≤◌, List, [], length, take}
use Rattle.base64.specs.GeneralPurpose.{IsBytes}
use Rattle.std.specs.Cmp.Lexicographic.{slice_cmp}
use Rattle.std.specs.Int.{w64, from_be_bytes}
use Rattle.std.specs.Ordering.{nat_cmp, on, then_cmp}
use Rattle.std.specs.declared.cmp.Ordering.{Ordering}
use Rattle.ss_answers.specs.declared.key.Key.{Key}
use Rattle.ss_answers.specs.Answers.{Answer, Trust, Yes, Seal}

-- a key by the octets that it refers to
pub record SortKey : Type 0 where
  pub kind : ℕ
  pub first : List ℕ
  pub second : List ℕ
  pub third : List ℕ

abbrev pub sort_key : Key → SortKey
sort_key k = record { kind = k.kind; first = k.first.now; second = k.second.now; third = k.third.now }

abbrev pub trust_key : List ℕ → SortKey
trust_key payload = record { kind = 0; first = payload; second = []; third = [] }

-- The signature comes first, because the signed octets of all blocks of a session begin alike. The payload comes last:
-- it is the longest of the three, and all blocks of a session have it.
abbrev pub yes_key : List ℕ → List ℕ → List ℕ → SortKey
yes_key payload octets signature = record { kind = 1; first = signature; second = octets; third = payload }

abbrev pub seal_key : List ℕ → SortKey
seal_key octets = record { kind = 2; first = octets; second = []; third = [] }

-- the key of a line
abbrev pub key_of : Answer → SortKey
key_of (Trust payload) = trust_key payload
key_of (Yes payload octets signature) = yes_key payload octets signature
key_of (Seal octets signature) = seal_key octets

-- by kind, and then by the octets
abbrev pub key_cmp : SortKey → SortKey → Ordering
key_cmp = then_cmp (then_cmp (then_cmp (on (λ k. k.kind) nat_cmp) (on (λ k. k.first) (slice_cmp nat_cmp)))
    (on (λ k. k.second) (slice_cmp nat_cmp))) (on (λ k. k.third) (slice_cmp nat_cmp))

-- ---- a step of the comparing

-- the first eight octets are this number, the greatest first
pub record IsFirstNumber (octets : List ℕ) (number : ℕ) : Type 0 where
  pub enough : 8 ≤ length octets
  pub bytes : IsBytes octets
  pub value : number ≡ from_be_bytes w64 (take 8 octets)
