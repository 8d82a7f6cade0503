-- The messages that originators were given for a group: each was submitted, and is of this group.
use Rattle.std.proofs.Common.{◌≡◌, ℕ, inl, inr, Bool, true, false, cond, eqb, List, [], ◌∷◌, ◌++◌, refl, sym, ap, ◌∙◌}
use Rattle.std.specs.List.{flat_map}
use Rattle.std.proofs.lemmas.Bool.{eqb-true}
use Rattle.ss_origin.specs.declared.config.Config.{Config}
use Rattle.ss_origin.specs.Calls.{Call, Begin, Submit, Flush, spri_in, if_in, messages_of}
use Rattle.ss_origin.specs.Chain.{Turn, calls_of, given_to}
use Rattle.ss_review.specs.deliveries.Delivery.{submitted_in, submitted_to}
use Rattle.ss_octets.proofs.Members.{Has, has-append_left, has-append_right, has-append_cases}

-- what one originator was given
abbrev pub submitted_by : List Turn → List (List ℕ)
submitted_by turns = flat_map (λ (t : Turn). submitted_in t.call) turns

module _ (c : Config) (spri : ℕ) where
  -- in some messages, and of the group
  abbrev IsGiven : List (List ℕ) → List ℕ → Type 0
  IsGiven messages m = Has messages m × (spri_in c.grouping m ≡ spri)

  kept_if : (b : Bool) (m n : List ℕ) → Has (cond b (n ∷ []) []) m → (b ≡ true) × (n ≡ m)
  kept_if true m n (inl e) = (refl, e)
  kept_if true m n (inr h) = absurd h
  kept_if false m n h = absurd h

  called : (call : Call) (turns : List Turn) (m : List ℕ) → (Has (messages_of c.grouping spri (calls_of turns)) m → IsGiven (submitted_by turns) m) → Has (messages_of c.grouping spri (call ∷ calls_of turns)) m → IsGiven (submitted_in call ++ submitted_by turns) m
  called (Begin stamp) turns m rest h = rest h
  called (Flush stamp) turns m rest h = rest h
  called (Submit n stamp) turns m rest h =
      elim (has-append_cases (messages_of c.grouping spri (calls_of turns)) (if_in c.grouping spri n) m h) [
        | inl l ↦ (inr (rest l).0, (rest l).1)
        | inr r ↦ (let k = kept_if (eqb (spri_in c.grouping n) spri) m n r in
            (inl k.1, ap (spri_in c.grouping) (sym k.1) ∙ eqb-true (spri_in c.grouping n) spri k.0))
      ]

  turned : (turns : List Turn) (m : List ℕ) → Has (messages_of c.grouping spri (calls_of turns)) m → IsGiven (submitted_by turns) m
  turned [] m h = absurd h
  turned (t ∷ turns) m h = called t.call turns m (turned turns m) h

  -- what the originators were given for the group
  pub is_given : (chain : List (List Turn)) (m : List ℕ) → Has (given_to c spri chain) m → Has (submitted_to chain) m × (spri_in c.grouping m ≡ spri)
  is_given [] m h = absurd h
  is_given (turns ∷ before) m h =
      elim (has-append_cases (given_to c spri before) (messages_of c.grouping spri (calls_of turns)) m h) [
        | inl l ↦ (let g = is_given before m l in (has-append_right (submitted_by turns) (submitted_to before) m g.0, g.1))
        | inr r ↦ (let g = turned turns m r in (has-append_left (submitted_by turns) (submitted_to before) m g.0, g.1))
      ]
