-- The state of a session of which only the blocks are kept that given payloads leave.
use Rattle.std.proofs.Common.{◌≡◌, inl, inr, ℕ, false, List, sym, ap, ◌∙◌, subst}
use Rattle.std.specs.Prelude.{Some, Ok, Err}
use Rattle.std.proofs.lemmas.Bool.{cases_Bool, true≢false}
use Rattle.ss_block.specs.declared.session.Session.{Session}
use Rattle.ss_block.specs.Joining.{IsDisputed}
use Rattle.ss_block.specs.ReadingLaws.{BlocksAreInRange}
use Rattle.ss_block.specs.declared.reading.Reading.TheVariants as readings
use Rattle.ss_block.specs.Reading.{reading}
use Rattle.ss_review.specs.keep.BlockMessage.{BlockMessage, BlockContent}
use Rattle.ss_review.specs.declared.report.session_report.SessionState.TheVariants as states
use Rattle.ss_review.specs.keep.Contents.{blocks}
use Rattle.ss_review.specs.keep.Notes.{notes}
use Rattle.ss_review.specs.sessions.Payloads.{certificates, is_disputed}
use Rattle.ss_review.specs.sessions.Sessions.{of_session}
use Rattle.ss_review.specs.sessions.States.{stated_by}
use Rattle.ss_review.specs.sessions.Verified.{Answers, joined}
use Rattle.ss_octets.proofs.Members.{has_from_contains}
use Rattle.ss_review.proofs.of_reports.Witnesses.{stored_block}
use Rattle.ss_review.proofs.of_sessions.Stating.{stated_by-IsStatedBy, disputed_from, disputed_to}
use Rattle.ss_review.specs.pinned.Claimants.{AreWithin, IsClaimant, IsOnlyClaimant}
use Rattle.ss_laws.specs.strangers.StateLaws.{pinned_joined, LogsAreWithin, IsJoinedByGiven, SessionsAreJoinedByGiven, IsUndisputedOrUnclaimed, StatesAgree, OnlyDisputesEnd}
use Rattle.ss_review.proofs.of_pinned.Claims.{joined_disputed}
use Rattle.ss_review.proofs.of_pinned.KeptOfSessions.{left, kept_of_session, one_joined, two_joined, one_undisputed, how_many, unclaimed_left, session_within}
use Rattle.ss_review.proofs.of_deliveries.OwnPayload.{said_certificate}

-- ---- logs

pub logs_are_within : BlocksAreInRange → LogsAreWithin
logs_are_within range log b c h said =
    let t = stored_block log b (has_from_contains (blocks (notes log)) b h) in
    let read : reading t.0 ≡ readings.Certificate c = said_certificate (reading t.0) c (t.2.said_is ∙ ap (λ (x : BlockContent). Some x) said) in
    let its = range.1 t.0 c read in
    (its.some_index, its.within)

-- ---- laws

module _ (says : Answers) (ps : List (List ℕ)) (bs : List BlockMessage) (s : Session) (are : AreWithin bs) where
  abbrev own : List BlockMessage
  own = of_session bs s

  pub own_within : AreWithin own
  own_within = session_within bs s are

  pub pinned_is : pinned_joined says ps bs s ≡ joined says (left says ps own)
  pinned_is = ap (joined says) (kept_of_session says ps bs s)

  exactly : (p q : List ℕ) → pinned_joined says ps bs s ≡ Ok p → IsClaimant says ps own q → IsOnlyClaimant says ps own p
  exactly p q e is =
      elim (how_many says ps own) [
        | inl one ↦ (
            let at : Ok one.0 ≡ Ok p = sym (one_joined says ps own own_within one.0 one.1) ∙ sym pinned_is ∙ e in
            let same : one.0 ≡ p = cc in
            subst (IsOnlyClaimant says ps own) same one.1)
        | inr more ↦ (elim more [
          | inl two ↦ absurd (let no : Err states.Disputed ≡ Ok p = sym (two_joined says ps own own_within two.0 two.1 two.2) ∙ sym pinned_is ∙ e in cc)
          | inr none ↦ absurd (none q is)
        ])
      ]

  pub joined_by_given : IsJoinedByGiven says ps bs s
  joined_by_given = record {
    cases = how_many says ps own;
    one = λ p one. pinned_is ∙ one_joined says ps own own_within p one;
    two = λ p q two. pinned_is ∙ two_joined says ps own own_within p q two;
    none = λ none. kept_of_session says ps bs s ∙ unclaimed_left says ps own none;
    exactly = exactly;
  }

  undisputed_stated : is_disputed (certificates own) ≡ false → ¬ IsDisputed (stated_by (certificates own))
  undisputed_stated e d = true≢false (sym (disputed_to (certificates own) (stated_by (certificates own)) (stated_by-IsStatedBy (certificates own)) d) ∙ e)

  -- a claimant of a session in which nothing is disputed is the only one, and joins it either way
  pub claimed_undisputed : is_disputed (certificates own) ≡ false → (p : List ℕ) → IsClaimant says ps own p → IsOnlyClaimant says ps own p × (joined says own ≡ Ok p)
  claimed_undisputed e p is = one_undisputed says ps own own_within (undisputed_stated e) p is

  agree_undisputed : is_disputed (certificates own) ≡ false → pinned_joined says ps bs s ≡ joined says own
  agree_undisputed e =
      elim (how_many says ps own) [
        | inl one ↦ pinned_is ∙ one_joined says ps own own_within one.0 one.1 ∙ sym (claimed_undisputed e one.0 one.1.is).1
        | inr more ↦ (elim more [
          | inl two ↦ absurd (two.2.differ ((claimed_undisputed e two.1 two.2.second).0.only two.0 two.2.first))
          | inr none ↦ ap (joined says) (kept_of_session says ps bs s ∙ unclaimed_left says ps own none)
        ])
      ]

  pub states_agree : IsUndisputedOrUnclaimed says ps bs s → pinned_joined says ps bs s ≡ joined says own
  states_agree (inl e) = agree_undisputed e
  states_agree (inr none) = ap (joined says) (kept_of_session says ps bs s ∙ unclaimed_left says ps own none)

pub sessions_are_joined_by_given : SessionsAreJoinedByGiven
sessions_are_joined_by_given says ps bs s are = joined_by_given says ps bs s are

pub same_states : StatesAgree
same_states says ps bs s are e = states_agree says ps bs s are e

pub only_disputes : OnlyDisputesEnd
only_disputes says ps bs s are =
    let cs = certificates (of_session bs s) in
    elim (cases_Bool (is_disputed cs)) [
      | inr f ↦ inl (states_agree says ps bs s are (inl f))
      | inl t ↦ inr (joined_disputed says (of_session bs s) (disputed_from cs (stated_by cs) (stated_by-IsStatedBy cs) t))
    ]
