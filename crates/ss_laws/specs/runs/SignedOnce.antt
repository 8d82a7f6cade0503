-- That a run has each number of a group signed once, and each GBC, whatever came of it (RFC 5848, sections 4.2.4 and
-- 4.2.5).
use Rattle.std.specs.Prelude.{◌≡◌, ℕ, Bool, List, ◌++◌, map, Option, Result}
use Rattle.std.specs.List.{AllPairs}
use Rattle.ss_message.specs.Stamp.{Moment}
use Rattle.ss_frame.specs.Limits.{Allowance}
use Rattle.ss_frame.specs.Watched.{Source, Sink}
use Rattle.ss_frame.specs.declared.limits.Form.{Form}
use Rattle.ss_block.specs.declared.block.Group.{Group}
use Rattle.ss_block.specs.Head.{HeadValue}
use Rattle.ss_origin.specs.declared.unsigned.Unsigned.{Unsigned}
use Rattle.ss_origin.specs.declared.unsigned.Unsigned.TheVariants.{Signature, Certificate}
use Rattle.ss_origin.specs.Asking.{Asking}
use Rattle.ss_origin.specs.AskedLaws.{Lists}
use Rattle.ss_origin.specs.Blocks.{unsigned_text}
use Rattle.ss_origin.specs.Counting.{Start}
use Rattle.ss_origin.specs.OneBlockLaws.{Covers}
use Rattle.ss_origin.specs.Sealing.{Answers}
use Rattle.ss_origin.specs.Setting.{Setting}
use Rattle.ss_signing.specs.declared.fault.SignFault.{SignFault}
use Rattle.ss_signing.specs.AskedRun.{AskedRun}
use Rattle.ss_signing.specs.Jobs.{signing_from}

-- ---- blocks

-- the block has a hash for this number of the group; a certificate block has none
abbrev pub HasNumber : Unsigned → Group → ℕ → Type 0
HasNumber (Signature b) group number = Covers b group number
HasNumber (Certificate b) group number = ⊥

-- it has this GBC; a certificate block has none
abbrev pub HasGbc : Unsigned → ℕ → Type 0
HasGbc (Signature b) gbc = b.gbc ≡ gbc
HasGbc (Certificate b) gbc = ⊥

abbrev pub ShareNoNumber : Unsigned → Unsigned → Type 0
ShareNoNumber u v = (group : Group) (number : ℕ) → HasNumber u group number → ¬ HasNumber v group number

abbrev pub ShareNoGbc : Unsigned → Unsigned → Type 0
ShareNoGbc u v = (gbc : ℕ) → HasGbc u gbc → ¬ HasGbc v gbc

-- ---- what is signed

-- These octets are, in order, what is signed of some blocks. No two places have blocks with a hash for one number of a
-- group, or with one GBC. So neither do two different blocks, and no signature block stands there twice.
pub record AreSignedOnce (h : HeadValue) (stamp : Option Moment) (octets : List (List ℕ)) : Type 0 where
  pub blocks : List Unsigned
  pub octets_are : octets ≡ map (unsigned_text h stamp) blocks
  pub each_number_once : AllPairs ShareNoNumber blocks
  pub each_gbc_once : AllPairs ShareNoGbc blocks

-- what a sealer listed that lists what it is asked, after what it had listed before
abbrev pub HasListed : {J : Type 0} → (J → List (List ℕ)) → (first last : J) → (List (List ℕ) → Type 0) → Type 0
HasListed list first last P = (octets : List (List ℕ)) × (list last ≡ list first ++ octets) × P octets

-- In a run it is asked for such octets alone. Blocks that were signed and never sent are among them.
abbrev pub RunsSignOnce : {J : Type 0} → (J → Answers) → Asking J → Type 0
RunsSignOnce {J} answers asked = (list : J → List (List ℕ)) → Lists asked list
    → (start : Start) (s : Setting) (stamp : Option Moment) (wraps : Bool) (out : Form) (limits : Allowance)
    (before after : Source) (was is : Sink) (first last : J) (result : Result (Unit {0}) SignFault)
    → AskedRun (signing_from start s (answers first) stamp wraps out) asked limits before after was is first last
    result
    → HasListed list first last (AreSignedOnce s.config.head stamp)
