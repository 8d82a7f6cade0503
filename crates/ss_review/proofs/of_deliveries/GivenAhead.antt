-- Behind each number that a block of an originator has stands the message that was given it.
use Rattle.std.proofs.Common.{◌≡◌, ◌⊎◌, inl, inr, ℕ, zero, suc, ◌+◌, Bool, true, false, List, [], ◌∷◌, ◌++◌, length, refl, sym, ap, ◌∙◌, subst, arith, append_assoc, append-nil, length-append}
use Rattle.std.specs.Prelude.{Option, Some, slice_get, ◌==◌, if◌then◌else◌}
use Rattle.std.proofs.lemmas.Bool.{eqb-true}
use Rattle.std.proofs.lemmas.List.{length-map, map-append}
use Rattle.ss_message.specs.Stamp.{Moment}
use Rattle.ss_block.specs.declared.hash.Hash.{Hash}
use Rattle.ss_block.specs.Block as block
use Rattle.ss_block.specs.Hashes.{hash_of}
use Rattle.ss_origin.specs.declared.config.Config.{Config}
use Rattle.ss_origin.specs.Groups.{group_of}
use Rattle.ss_origin.specs.Counting.{Start, number_in}
use Rattle.ss_origin.specs.Calls.{Call, Begin, Submit, Flush, Run, spri_in, messages_of, pending_of, stamp_of}
use Rattle.ss_origin.specs.State.{state, pending_in, first_pending, runs_closed}
use Rattle.ss_origin.specs.Setting.{Setting}
use Rattle.ss_origin.specs.Chain.{Turn, calls_of, AreTurns}
use Rattle.ss_origin.specs.RunLaws.{IsLastRun}
use Rattle.ss_origin.proofs.Frontiers.{from_has-enumerated, says, IsSentIn}
use Rattle.ss_octets.proofs.Members.{has_split, all-has}
use Rattle.ss_origin.proofs.RunsClosed.{runs_are_last}
use Rattle.ss_origin.proofs.Sent.{turn_of}
use Rattle.ss_origin.proofs.SentRuns.{sent_run_of}
use Rattle.ss_origin.proofs.SignedMessages.{messages-append}
use Rattle.ss_review.proofs.of_reports.Witnesses.{got_map}

-- ---- lists

none_at : {X : Type 0} (ys zs : List X) (y : X) → [] ≡ ys ++ y ∷ zs → ⊥
none_at [] zs y e = cc
none_at (w ∷ ys) zs y e = cc

-- an element of a list with one more at its end is that one, or stands before it
cut_push : {X : Type 0} (xs ys zs : List X) (x y : X) → xs ++ x ∷ [] ≡ ys ++ y ∷ zs → ((xs ≡ ys) × (x ≡ y)) ⊎ ((rest : List X) × (xs ≡ ys ++ y ∷ rest))
cut_push [] [] zs x y e = inl (refl, cc)
cut_push [] (w ∷ ys) zs x y e =
    let tail : [] ≡ ys ++ y ∷ zs = cc in
    absurd (none_at ys zs y tail)
cut_push (v ∷ xs) [] zs x y e =
    let same : v ≡ y = cc in
    inr (xs, ap (λ u. u ∷ xs) same)
cut_push (v ∷ xs) (w ∷ ys) zs x y e =
    let same : v ≡ w = cc in
    let tail : xs ++ x ∷ [] ≡ ys ++ y ∷ zs = cc in
    elim (cut_push xs ys zs x y tail) [
      | inl last ↦ inl ((λ i. same i ∷ last.0 i), last.1)
      | inr before ↦ inr (before.0, (λ i. same i ∷ before.1 i))
    ]

cut_at : {X : Type 0} (xs : List X) (i : ℕ) (x : X) → slice_get xs i ≡ Some x → (front : List X) × (behind : List X) × (xs ≡ front ++ x ∷ behind) × (length front ≡ i)
cut_at [] i x e = absurd (cc)
cut_at (y ∷ xs) zero x e = let same : y ≡ x = cc in ([], xs, ap (λ z. z ∷ xs) same, refl)
cut_at (y ∷ xs) (suc i) x e = let w = cut_at xs i x e in (y ∷ w.0, w.1, ap (λ zs. y ∷ zs) w.2, ap suc w.3)

-- ---- the turn that was given a message

module _ (c : Config) (spri : ℕ) where
  abbrev of_turns : List Turn → List (List ℕ)
  of_turns turns = messages_of c.grouping spri (calls_of turns)

  -- the message of the group, with those of it that came before
  pub record IsGivenIn (turns : List Turn) (before : List (List ℕ)) (message : List ℕ) : Type 0 where
    pub later : List Turn
    pub turn : Turn
    pub earlier : List Turn
    pub turns_are : turns ≡ later ++ turn ∷ earlier
    pub stamp : Option Moment
    pub call : turn.call ≡ Submit message stamp
    pub own : spri_in c.grouping message ≡ spri
    pub behind : of_turns earlier ≡ before

  one_more : (t : Turn) (rest : List Turn) (before : List (List ℕ)) (message : List ℕ) → IsGivenIn rest before message → IsGivenIn (t ∷ rest) before message
  one_more t rest before message g = record {
    later = t ∷ g.later;
    turn = g.turn;
    earlier = g.earlier;
    turns_are = ap (λ ts. t ∷ ts) g.turns_are;
    stamp = g.stamp;
    call = g.call;
    own = g.own;
    behind = g.behind;
  }

  -- the turn is among these where they were given the message
  abbrev InRest : List Turn → List (List ℕ) → List ℕ → Type 0
  InRest rest before message = (after : List (List ℕ)) → of_turns rest ≡ before ++ message ∷ after → IsGivenIn rest before message

  pub given_in : (turns : List Turn) (before after : List (List ℕ)) (message : List ℕ) → of_turns turns ≡ before ++ message ∷ after → IsGivenIn turns before message
  given_in [] before after message e = absurd (none_at before after message e)
  given_in (t ∷ rest) before after message e = by (λ others f. given_in rest before others message f) t.call refl e
    where
      add : InRest rest before message → (b : Bool) (m : List ℕ) (stamp : Option Moment) → t.call ≡ Submit m stamp → (spri_in c.grouping m == spri) ≡ b
          → of_turns rest ++ (if b then m ∷ [] else []) ≡ before ++ message ∷ after → IsGivenIn (t ∷ rest) before message
      add in_rest true m stamp call own f = elim (cut_push (of_turns rest) before after m message f) [
        | inl last ↦ record {
          later = [];
          turn = t;
          earlier = rest;
          turns_are = refl;
          stamp = stamp;
          call = call ∙ ap (λ n. Submit n stamp) last.1;
          own = ap (spri_in c.grouping) (sym last.1) ∙ eqb-true (spri_in c.grouping m) spri own;
          behind = last.0;
        }
        | inr there ↦ one_more t rest before message (in_rest there.0 there.1)
      ]
      add in_rest false m stamp call own f = one_more t rest before message (in_rest after (sym (append-nil (of_turns rest)) ∙ f))

      by : InRest rest before message → (call : Call) → t.call ≡ call → messages_of c.grouping spri (call ∷ calls_of rest) ≡ before ++ message ∷ after → IsGivenIn (t ∷ rest) before message
      by in_rest (Begin stamp) call f = one_more t rest before message (in_rest after f)
      by in_rest (Submit m stamp) call f = add in_rest (spri_in c.grouping m == spri) m stamp call refl f
      by in_rest (Flush stamp) call f = one_more t rest before message (in_rest after f)

-- ---- the message of a hash

-- The hash at an index of a signature block that turns sent is that of a message which they were given for the block's
-- group. Its number is the first one of the group, and one more for each message before it.
pub record IsHashOf (c : Config) (start : Start) (turns : List Turn) (b : block.Signature) (i : ℕ) (h : Hash) : Type 0 where
  pub spri : ℕ
  pub group : b.group ≡ group_of c.grouping spri
  pub before : List (List ℕ)
  pub message : List ℕ
  pub after : List (List ℕ)
  pub messages : messages_of c.grouping spri (calls_of turns) ≡ before ++ message ∷ after
  pub hash : h ≡ hash_of c.alg message
  pub number : b.first + i ≡ number_in start.counters.groups spri + length before

regrouped : {X : Type 0} (front run least rest more : List X) (x : X) → run ≡ least ++ x ∷ rest → (front ++ run) ++ more ≡ (front ++ least) ++ x ∷ (rest ++ more)
regrouped front run least rest more x e = ap (λ xs. (front ++ xs) ++ more) e ∙ parts front least rest more x
  where
    parts : {X : Type 0} (front least rest more : List X) (x : X) → (front ++ (least ++ x ∷ rest)) ++ more ≡ (front ++ least) ++ x ∷ (rest ++ more)
    parts front least rest more x = simp append_assoc

of_run : (c : Config) (start : Start) (later earlier : List Turn) (t : Turn) (r : Run) (b : block.Signature) → IsLastRun c (calls_of earlier) t.call r
    → b.group ≡ group_of c.grouping r.spri → b.hashes ≡ r.hashes → b.first ≡ first_pending (state c start (calls_of earlier)) r.spri
    → (i : ℕ) (h : Hash) → slice_get b.hashes i ≡ Some h → IsHashOf c start (later ++ t ∷ earlier) b i h
of_run c start later earlier t r b last group hashes first i h at =
    let more = messages_of c.grouping r.spri (calls_of later) in
    let m = got_map (hash_of c.alg) last.run i h (ap (λ hs. slice_get hs i) (sym (hashes ∙ last.hashes)) ∙ at) in
    let cut = cut_at last.run i m.0 m.1 in
    let given = ap length last.before ∙ length-append last.front (pending_of c r.spri (calls_of earlier)) in
    let pending = length-map (pending_of c r.spri (calls_of earlier)) (hash_of c.alg) in
    let many = length-append last.front cut.0 in
    let index = cut.3 in
    record {
      spri = r.spri;
      group = group;
      before = last.front ++ cut.0;
      message = m.0;
      after = cut.1 ++ more;
      messages =
          ap (messages_of c.grouping r.spri) (map-append (λ (u : Turn). u.call) later (t ∷ earlier))
          ∙ messages-append c.grouping r.spri (calls_of later) (calls_of (t ∷ earlier))
          ∙ ap (λ ms. ms ++ more) last.messages
          ∙ regrouped last.front last.run cut.0 cut.1 more m.0 cut.2;
      hash = sym m.2;
      number = omega (arith, first, given, pending, many, index);
    }

pub hash_of_given : (s : Setting) (start : Start) (turns : List Turn) (m : List ℕ) (b : block.Signature) → AreTurns s start turns → IsSentIn turns m b
    → (i : ℕ) (h : Hash) → slice_get b.hashes i ≡ Some h → IsHashOf s.config start turns b i h
hash_of_given s start turns m b are sent i h at =
    let c = s.config in
    let cut = has_split turns sent.turn sent.of_turns in
    let old = state c start (calls_of cut.1) in
    let turn = turn_of s start cut.0 cut.1 sent.turn (subst (AreTurns s start) cut.2 are) in
    let run = sent_run_of s old m b sent.read sent.turn.call sent.turn.emitted turn.0 turn.1 sent.sent in
    let of_sent = says s old (stamp_of sent.turn.call) run.gbc run.run m b run.sealed sent.read in
    let runs = runs_closed c (pending_in old) sent.turn.call in
    let entry = from_has-enumerated old.gbc runs run.gbc run.run run.closed in
    let last = all-has (IsLastRun c (calls_of cut.1) sent.turn.call) runs run.run (runs_are_last c (calls_of cut.1) sent.turn.call) entry.2 in
    subst (λ ts. IsHashOf c start ts b i h) (sym cut.2)
    (of_run c start cut.0 cut.1 sent.turn run.run b last of_sent.group of_sent.hashes of_sent.first i h at)
