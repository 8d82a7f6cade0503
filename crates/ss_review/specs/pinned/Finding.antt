-- How the payloads that claim a session are found.
use Rattle.std.specs.List.Sorted.{IsStrictlySortedBy}
use Rattle.std.specs.Ordering.{nat_cmp}
use Rattle.std.specs.Prelude.{◌≡◌, ◌⊎◌, ℕ, ◌&&◌, Bool, true, List, length, Contains, All, map, filter, Option, MatchOption, Ok, false}
use Rattle.ss_block.specs.declared.session.Session.{Session}
use Rattle.ss_review.specs.keep.BlockMessage.{BlockMessage}
use Rattle.ss_review.specs.declared.pinned.claimant.Claimant.{Claimant}
use Rattle.ss_review.specs.declared.pinned.claimant.ClaimedSession.{ClaimedSession}
use Rattle.ss_review.specs.declared.questions.question.Question.{Question}
use Rattle.ss_review.specs.questions.Questions.{asked, question_about, AreAskable}
use Rattle.ss_review.specs.sessions.FoundBlocks.{KeepsWhatHolds}
use Rattle.ss_review.specs.sessions.Payloads.{certificates, cover, is_payload}
use Rattle.ss_review.specs.sessions.Verified.{Answers, is_valid}
use Rattle.ss_review.specs.pinned.Pinned.{agrees_in, claims, claimants}

-- Only an answer can tell whether the payload claims the session: those of its certificate blocks that agree with the
-- payload cover it, and it is a payload block.
abbrev pub may_claim : List ℕ → List BlockMessage → Bool
may_claim p bs = cover (certificates (filter (λ b. agrees_in p b.said) bs)) (length p) && is_payload p

-- whatever was found of blocks under the payload is what holds of them
abbrev pub IsFoundRight : Answers → Claimant → Type 0
IsFoundRight says c = KeepsWhatHolds (is_valid says c.payload.now) c.found

-- the payload with what was found under it, exactly if it claims the session of these blocks
abbrev pub IsClaimantIf : Answers → List BlockMessage → List ℕ → Option Claimant → Type 0
IsClaimantIf says own p o =
    MatchOption o (claims says p own ≡ false) (λ c. (claims says p own ≡ true) × (c.payload.now ≡ p) × IsFoundRight says c)

abbrev pub payloads_of : List Claimant → List (List ℕ)
payloads_of cs = map (λ c. c.payload.now) cs

-- a session, and the payloads that claim it
abbrev pub session_claimed : ClaimedSession → Session × List (List ℕ)
session_claimed x = (x.session.now, payloads_of x.claimants.items)

abbrev pub section_claimed : Answers → List (List ℕ) → Session × List BlockMessage → Session × List (List ℕ)
section_claimed says ps section = (section.0, claimants says ps section.1)

abbrev pub AreFoundRight : Answers → ClaimedSession → Type 0
AreFoundRight says x = All (IsFoundRight says) x.claimants.items

-- the judge may be asked all about the section, under each of the payloads of which only an answer can tell whether it
-- claims it
abbrev pub IsAskableUnder : {J : Type 0} → (J → Question → Type 0) → J → List (List ℕ) → List BlockMessage → Type 0
IsAskableUnder askable judge ps own =
    (p : List ℕ) → Contains ps p → may_claim p own ≡ true → AreAskable askable judge (asked own (Ok p))

abbrev pub AreAskableUnder : {J : Type 0} → (J → Question → Type 0) → J → List (List ℕ) → List (Session × List BlockMessage) → Type 0
AreAskableUnder askable judge ps ss =
    (s : Session × List BlockMessage) → Contains ss s → IsAskableUnder askable judge ps s.1

-- the judge may be asked whether the block is valid under each payload that claims its session, which is one of these
abbrev pub IsAskableBlock : {J : Type 0} → (J → Question → Type 0) → J → List ClaimedSession → BlockMessage → Type 0
IsAskableBlock askable judge xs b =
    (x : ClaimedSession) (c : Claimant) → Contains xs x → x.session.now ≡ b.session → Contains x.claimants.items c
    → askable judge (question_about c.payload.now b)

-- both lists' members, in rising order
pub record IsTogether (xs ys all : List ℕ) : Type 0 where
  pub rises : IsStrictlySortedBy nat_cmp all
  pub first : (x : ℕ) → Contains xs x → Contains all x
  pub second : (x : ℕ) → Contains ys x → Contains all x
  pub no_other : (x : ℕ) → Contains all x → Contains xs x ⊎ Contains ys x
