-- Which given payloads claim a session.
use Rattle.std.specs.Prelude.{◌≡◌, ℕ, ◌+◌, ◌≤◌, true, List, length, Contains}
use Rattle.ss_block.specs.Block as block
use Rattle.ss_review.specs.keep.BlockMessage.{BlockMessage, Fragment}
use Rattle.ss_review.specs.sessions.Verified.{Answers}
use Rattle.ss_review.specs.pinned.Pinned.{claims}

-- The fragments of these blocks lie within the payload whose length they state, and their indexes count from 1. So it is
-- of the blocks of each log (RFC 5848, section 5.3.2).
abbrev pub AreWithin : List BlockMessage → Type 0
AreWithin bs = (b : BlockMessage) (c : block.Certificate) → Contains bs b → b.said ≡ Fragment c
    → (1 ≤ c.index) × (c.index + length c.fragment ≤ c.total + 1)

-- The payload is given, and claims the session of these blocks.
pub record IsClaimant (says : Answers) (ps : List (List ℕ)) (own : List BlockMessage) (p : List ℕ) : Type 0 where
  pub given : Contains ps p
  pub claims_it : claims says p own ≡ true

-- no given payload claims it
abbrev pub IsUnclaimed : Answers → List (List ℕ) → List BlockMessage → Type 0
IsUnclaimed says ps own = (p : List ℕ) → ¬ IsClaimant says ps own p

-- the payload claims it, and no other given one does
pub record IsOnlyClaimant (says : Answers) (ps : List (List ℕ)) (own : List BlockMessage) (p : List ℕ) : Type 0 where
  pub is : IsClaimant says ps own p
  pub only : (q : List ℕ) → IsClaimant says ps own q → q ≡ p

-- two different ones do
pub record AreClaimants (says : Answers) (ps : List (List ℕ)) (own : List BlockMessage) (p q : List ℕ) : Type 0 where
  pub first : IsClaimant says ps own p
  pub second : IsClaimant says ps own q
  pub differ : p ≡ q → ⊥
