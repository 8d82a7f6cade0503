-- Each block that is due in a call of a plan has a line of the plan.
use Rattle.std.proofs.Common.{◌≡◌, ◌⊎◌, inl, inr, ℕ, ◌≤◌, codes, List, [], ◌∷◌, ◌++◌, reverse, flat_map, Option, Some, None, refl, sym, ap, ◌∙◌, subst, append-nil, append_assoc}
use Rattle.std.proofs.lemmas.Grind.{reverse_onto}
use Rattle.base64.specs.GeneralPurpose.{IsBytes}
use Rattle.ss_octets.specs.Ascii.{lf}
use Rattle.ss_octets.specs.StrictBase64.{base64}
use Rattle.ss_octets.proofs.Members.{Has, has-append_cases, has-append_left, has-append_right, has-copies, has-flat_map, has-zipped}
use Rattle.ss_block.specs.Signed.{signed}
use Rattle.ss_origin.specs.declared.unsigned.Unsigned.{Unsigned}
use Rattle.ss_origin.specs.Blocks.{unsigned_text}
use Rattle.ss_origin.specs.Calls.{Call, stamp_of}
use Rattle.ss_origin.specs.Chain.{Turn, calls_of, AreTurns}
use Rattle.ss_origin.specs.Counting.{Start}
use Rattle.ss_origin.specs.Emission.{EmitsFrom, IsSealed, sent_first}
use Rattle.ss_origin.specs.Setting.{Setting}
use Rattle.ss_origin.specs.State.{State, state}
use Rattle.ss_signing.specs.Wants.{line_if_signed, want_line, want_lines, want_of}
use Rattle.ss_laws.specs.plans.SealedPlans.{AreLinesBefore, IsWanted}

-- ---- lines

lines_before : (o : Option (List ℕ)) (before : List ℕ) → AreLinesBefore before → AreLinesBefore (line_if_signed o ++ before)
lines_before None before are = are
lines_before (Some octets) before (inl none) =
    inr (codes "want " ++ base64 octets, ap (λ b. want_line octets ++ b) none ∙ append-nil (want_line octets))
lines_before (Some octets) before (inr ends) =
    inr (want_line octets ++ ends.0, ap (λ b. want_line octets ++ b) ends.1 ∙ sym (append_assoc (want_line octets) ends.0 (lf ∷ [])))

-- a block message among those that are emitted has a line
pub has_line : (messages : List (List ℕ)) (m octets : List ℕ) → Has messages m → signed m ≡ Some octets → IsBytes octets → IsWanted (want_lines messages) octets
unfolding want_of
has_line [] m octets has is bytes = absurd has
has_line (n ∷ messages) m octets (inl e) is bytes = record {
  bytes = bytes;
  before = [];
  behind = want_lines messages;
  lines_before = inl refl;
  there = ap (λ o. line_if_signed o ++ want_lines messages) (ap signed e ∙ is);
}
has_line (n ∷ messages) m octets (inr has) is bytes =
    let w = has_line messages m octets has is bytes in
    record {
      bytes = bytes;
      before = line_if_signed (signed n) ++ w.before;
      behind = w.behind;
      lines_before = lines_before (signed n) w.before w.lines_before;
      there = ap (λ rest. line_if_signed (signed n) ++ rest) w.there ∙ sym (append_assoc (line_if_signed (signed n)) w.before (want_line octets ++ w.behind));
    }

-- ---- what was emitted in a turn

-- the turn of a call that was accepted after these
pub turn_of : (s : Setting) (start : Start) (turns : List Turn) (later earlier : List Call) (call : Call) → calls_of turns ≡ later ++ call ∷ earlier → AreTurns s start turns
    → (t : Turn) × Has turns t × EmitsFrom s (state s.config start earlier) call t.emitted
turn_of s start [] [] earlier call e are = absurd (cc)
turn_of s start [] (x ∷ later) earlier call e are = absurd (cc)
turn_of s start (t ∷ turns) [] earlier call e are =
    let same : t.call ≡ call = cc in
    let rest : calls_of turns ≡ earlier = cc in
    (t, inl refl, subst (λ k. EmitsFrom s (state s.config start earlier) k t.emitted) same (subst (λ cs. EmitsFrom s (state s.config start cs) t.call t.emitted) rest are.2))
turn_of s start (t ∷ turns) (x ∷ later) earlier call e are =
    let rest : calls_of turns ≡ later ++ call ∷ earlier = cc in
    let w = turn_of s start turns later earlier call rest are.0 in
    (w.0, inr w.1, w.2)

-- a block that was due has a message of which its octets are signed
pub due_is_sent : (s : Setting) (old : State) (call : Call) (emitted : List (List ℕ)) (d : Unsigned) → 1 ≤ s.config.copies → (e : EmitsFrom s old call emitted) → Has e.due d
    → (m : List ℕ) × Has emitted m × (signed m ≡ Some (unsigned_text s.config.head (stamp_of call) d))
due_is_sent s old call emitted d some e has =
    let w = has-zipped (IsSealed s (stamp_of call)) e.due e.sent.messages d e.sent.sealed has in
    let copies = has-copies s.config.copies e.sent.messages w.0 some w.1 in
    (w.0, subst (λ ms. Has ms w.0) (sym e.sent.sent_are) (has-append_right (sent_first call) _ w.0 copies), w.2.read.signed)

has-reverse : {X : Type 0} (xs : List X) (x : X) → Has xs x → Has (reverse xs) x
has-reverse [] x has = absurd has
has-reverse (y ∷ ys) x (inl e) = subst (λ zs. Has zs x) (sym (reverse_onto ys y [])) (has-append_right (reverse ys) (y ∷ []) x (inl e))
has-reverse (y ∷ ys) x (inr has) = subst (λ zs. Has zs x) (sym (reverse_onto ys y [])) (has-append_left (reverse ys) (y ∷ []) x (has-reverse ys x has))

pub from_has-reverse : {X : Type 0} (xs : List X) (x : X) → Has (reverse xs) x → Has xs x
from_has-reverse [] x has = absurd has
from_has-reverse (y ∷ ys) x has =
    by (has-append_cases (reverse ys) (y ∷ []) x (subst (λ zs. Has zs x) (reverse_onto ys y []) has)) (from_has-reverse ys x)
  where
    by : Has (reverse ys) x ⊎ Has (y ∷ []) x → (Has (reverse ys) x → Has ys x) → Has (y ∷ ys) x
    by (inl front) more = inr (more front)
    by (inr (inl e)) more = inl e
    by (inr (inr none)) more = absurd none

pub sent_in_turn : (turns : List Turn) (t : Turn) (m : List ℕ) → Has turns t → Has t.emitted m → Has (flat_map (λ u. u.emitted) (reverse turns)) m
sent_in_turn turns t m there sent = has-flat_map (λ (u : Turn). u.emitted) (reverse turns) t m (has-reverse turns t there) sent
