-- A message with a block (RFC 5848, sections 4.2 and 5.3.2).
use Rattle.std.specs.Prelude.{ℕ, List}
use Rattle.ss_block.specs.Block as block
use Rattle.ss_block.specs.declared.session.Session.{Session}

-- what its block says: hashes of messages, or a fragment of the payload
pub data BlockContent : Type 0 where
  Hashes : block.Signature → BlockContent
  Fragment : block.Certificate → BlockContent

-- its place in the log, from 0; how many hashes its signature block announced (CNT), and 0 for a certificate block; who
-- sent it; what its block says; and what is signed of it
pub record BlockMessage : Type 0 where
  pub place : ℕ
  pub count : ℕ
  pub session : Session
  pub said : BlockContent
  pub signed : List ℕ
