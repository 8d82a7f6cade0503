-- What a certificate block states of a payload, and the block that states it.
use Rattle.std.proofs.Common.{◌≡◌, refl}
use Rattle.std.specs.Prelude.{Option, Some, None}
use Rattle.ss_block.specs.Block as block
use Rattle.ss_review.specs.declared.keep.kept_block.Stated.{Stated}
use Rattle.ss_review.specs.keep.Stated.{States, IsStated}

pub record StatedBy (s : Stated) (o : Option block.Certificate) : Type 0 where
  pub certificate : block.Certificate
  pub is : o ≡ Some certificate
  pub states : States s certificate

pub stated_by_some : (s : Stated) (o : Option block.Certificate) → IsStated (Some s) o → StatedBy s o
stated_by_some s (Some c) h = record { certificate = c; is = refl; states = h }
stated_by_some s None h = absurd h

pub none_stated : (o : Option block.Certificate) → IsStated None o → o ≡ None
none_stated None h = refl
none_stated (Some c) h = absurd h
