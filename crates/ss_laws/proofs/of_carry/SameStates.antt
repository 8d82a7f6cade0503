-- Blocks of a session that state and cover what others do join it alike.
use Rattle.std.proofs.Common.{◌≡◌, ℕ, List, refl, sym, ap, subst}
use Rattle.std.specs.Prelude.{Result, Ok, Err}
use Rattle.ss_block.specs.Joining.{Stated, IsDisputed, HasGap}
use Rattle.ss_review.specs.declared.report.session_report.SessionState.{SessionState}
use Rattle.ss_review.specs.declared.report.session_report.SessionState.TheVariants as states
use Rattle.ss_review.specs.keep.BlockMessage.{BlockMessage}
use Rattle.ss_review.specs.sessions.Payloads.{certificates}
use Rattle.ss_review.specs.sessions.Verified.{Answers, joined, state_in}
use Rattle.ss_review.specs.sessions.States.{stated_by, StatesText, HasValidOctet, IsCovered, IsJoinedUnder, IsInState}
use Rattle.ss_octets.proofs.Members.{Has, has_from_contains, contains_from_has}
use Rattle.ss_review.proofs.of_sessions.StatesTold.{joined_under, in_state, state_told, payload_told}
use Rattle.ss_review.proofs.of_sessions.Fragments.{StatesTotal, StatesOctet, total_of, has-total, octet_of, has-octet, fragment_in, same_stated, Fits, fits_stated}

-- the first blocks are among the others, and state and cover what those do
pub record Alike (says : Answers) (ns fs : List BlockMessage) : Type 0 where
  pub among : (b : BlockMessage) → Has ns b → Has fs b
  pub some : (b : BlockMessage) → Has fs b → (d : BlockMessage) × Has ns d
  pub totals : (t : ℕ) → StatesTotal fs t → StatesTotal ns t
  pub octets : (p : ℕ × ℕ) → StatesOctet fs p → StatesOctet ns p
  pub covered : (text : List ℕ) → Fits fs text → (index : ℕ) → HasValidOctet says fs text index → HasValidOctet says ns text index

-- a valid octet stays where its block stays
pub valid_in : (says : Answers) (bs ds : List BlockMessage) (text : List ℕ) (index : ℕ) (o : HasValidOctet says bs text index) → Has ds o.message → HasValidOctet says ds text index
valid_in says bs ds text index o h = record {
  message = o.message;
  stored = contains_from_has ds o.message h;
  said = o.said;
  says_so = o.says_so;
  valid = o.valid;
  from = o.from;
  to = o.to;
}

-- blocks with the same members
pub alike_same : (says : Answers) (ns fs : List BlockMessage) → ((b : BlockMessage) → Has ns b → Has fs b) → ((b : BlockMessage) → Has fs b → Has ns b) → Alike says ns fs
alike_same says ns fs there back = record {
  among = there;
  some = λ b h. (b, back b h);
  totals = λ t h. (let w = total_of fs t h in subst (StatesTotal ns) w.2 (has-total ns w.0 (fragment_in fs ns w.0 w.1 (back w.1.message w.1.stored))));
  octets = λ p h. (let w = octet_of fs p h in has-octet ns w.0 p (fragment_in fs ns w.0 w.1 (back w.1.message w.1.stored)) w.2);
  covered = λ text fits index o. valid_in says fs ns text index o (back o.message (has_from_contains fs o.message o.stored));
}

same_result : (r q : Result (List ℕ) SessionState) → state_in r ≡ state_in q → ((text : List ℕ) → r ≡ Ok text → q ≡ Ok text)
    → ((text : List ℕ) → q ≡ Ok text → r ≡ Ok text) → r ≡ q
same_result (Ok text) q e f g = sym (f text refl)
same_result (Err s) (Ok text) e f g = g text refl
same_result (Err s) (Err t) e f g = ap Err e

module _ (says : Answers) (ns fs : List BlockMessage) (a : Alike says ns fs) where
  same : stated_by (certificates ns) ≡ stated_by (certificates fs)
  same =
      same_stated ns fs
      (λ t h. (let w = total_of ns t h in subst (StatesTotal fs) w.2 (has-total fs w.0 (fragment_in ns fs w.0 w.1 (a.among w.1.message w.1.stored)))))
      a.totals
      (λ p h. (let w = octet_of ns p h in has-octet fs w.0 p (fragment_in ns fs w.0 w.1 (a.among w.1.message w.1.stored)) w.2))
      a.octets

  text_down : (text : List ℕ) → StatesText (stated_by (certificates fs)) text → StatesText (stated_by (certificates ns)) text
  text_down text t = subst (λ (s : Stated). StatesText s text) (sym same) t

  covered_up : (text : List ℕ) → IsCovered says ns text → IsCovered says fs text
  covered_up text c = λ index low high.
      let o = c index low high in
      valid_in says ns fs text index o (a.among o.message (has_from_contains ns o.message o.stored))

  joined_down : (text : List ℕ) → IsJoinedUnder says fs text → IsJoinedUnder says ns text
  joined_down text j = (
    text_down text j.0,
    j.1,
    j.2,
    λ index low high. a.covered text (fits_stated fs text j.0) index (j.3 index low high),
  )

  joined_up : (text : List ℕ) → IsJoinedUnder says ns text → IsJoinedUnder says fs text
  joined_up text j = (subst (λ (s : Stated). StatesText s text) same j.0, j.1, j.2, covered_up text j.3)

  state_down : (state : SessionState) → IsInState says fs state → IsInState says ns state
  state_down states.Disputed d = subst IsDisputed (sym same) d
  state_down states.Incomplete i = (λ d. i.0 (subst IsDisputed same d), subst HasGap (sym same) i.1)
  state_down states.Malformed m = (m.0, text_down m.0 m.1, m.2)
  state_down states.Untrusted u = (u.0, text_down u.0 u.1, u.2, u.3)
  state_down states.Unaccepted u = (u.0, text_down u.0 u.1, u.2, u.3, λ c. u.4 (covered_up u.0 c))
  state_down states.Joined j = (j.0, joined_down j.0 j.1)

  pub same_joined : joined says ns ≡ joined says fs
  same_joined =
      same_result (joined says ns) (joined says fs)
      (in_state says ns (state_in (joined says fs)) (state_down (state_in (joined says fs)) (state_told says fs (state_in (joined says fs)) refl)))
      (λ text e. joined_under says fs text (joined_up text (payload_told says ns text e)))
      (λ text e. joined_under says ns text (joined_down text (payload_told says fs text e)))
