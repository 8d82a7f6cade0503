-- The messages that originators were given, group by group: each was given to one.
use Rattle.std.proofs.Common.{◌≡◌, ℕ, ◌+◌, ◌<◌, Bool, true, false, cond, eqb, List, [], ◌∷◌, ◌++◌, refl, sym, ◌∙◌, arith}
use Rattle.std.specs.Prelude.{count_by}
use Rattle.std.specs.List.{sum_by, range_with_len}
use Rattle.ss_origin.specs.declared.config.Config.{Config}
use Rattle.ss_origin.specs.Calls.{Call, Begin, Submit, Flush, spri_in, if_in, messages_of}
use Rattle.ss_origin.specs.Chain.{Turn, calls_of, given_to}
use Rattle.ss_review.specs.deliveries.Delivery.{submitted_in, submitted_to}
use Rattle.ss_review.proofs.of_deliveries.Given.{submitted_by}
use Rattle.ss_review.proofs.of_lists.Sums.{sum_by-added, sum_by-same, sum_by-none, one_is, count_by-append}

module _ (c : Config) (test : List ℕ → Bool) (groups : ℕ) (small : (m : List ℕ) → spri_in c.grouping m < groups) where
  -- ---- one originator

  abbrev in_groups : List Call → ℕ
  in_groups calls = sum_by (λ spri. count_by test (messages_of c.grouping spri calls)) (range_with_len 0 groups)

  counted_if : (b : Bool) (m : List ℕ) → count_by test (cond b (m ∷ []) []) ≡ cond b (count_by test (m ∷ [])) 0
  counted_if true m = refl
  counted_if false m = refl

  -- a message is in one group
  in_one : (m : List ℕ) → sum_by (λ spri. count_by test (if_in c.grouping spri m)) (range_with_len 0 groups) ≡ count_by test (m ∷ [])
  in_one m =
      sum_by-same (λ spri. count_by test (if_in c.grouping spri m)) (λ spri. cond (eqb (spri_in c.grouping m) spri) (count_by test (m ∷ [])) 0) (range_with_len 0 groups)
      (λ spri h. counted_if (eqb (spri_in c.grouping m) spri) m)
      ∙ one_is (spri_in c.grouping m) (count_by test (m ∷ [])) 0 groups (omega arith) (omega (arith, small m))

  called : (call : Call) (turns : List Turn) → count_by test (submitted_by turns) ≡ in_groups (calls_of turns) → count_by test (submitted_in call ++ submitted_by turns) ≡ in_groups (call ∷ calls_of turns)
  called (Begin stamp) turns e = e
  called (Flush stamp) turns e = e
  called (Submit m stamp) turns e =
      let calls = calls_of turns in
      let each : in_groups (Submit m stamp ∷ calls) ≡ sum_by (λ spri. count_by test (messages_of c.grouping spri calls) + count_by test (if_in c.grouping spri m)) (range_with_len 0 groups)
      = sum_by-same (λ spri. count_by test (messages_of c.grouping spri calls ++ if_in c.grouping spri m)) (λ spri. count_by test (messages_of c.grouping spri calls) + count_by test (if_in c.grouping spri m)) (range_with_len 0 groups)
      (λ spri h. count_by-append test (messages_of c.grouping spri calls) (if_in c.grouping spri m)) in
      let both : in_groups (Submit m stamp ∷ calls) ≡ in_groups calls + sum_by (λ spri. count_by test (if_in c.grouping spri m)) (range_with_len 0 groups)
      = each ∙ sum_by-added (λ spri. count_by test (messages_of c.grouping spri calls)) (λ spri. count_by test (if_in c.grouping spri m)) (range_with_len 0 groups) in
      let more : count_by test (m ∷ submitted_by turns) ≡ count_by test (m ∷ []) + count_by test (submitted_by turns) = count_by-append test (m ∷ []) (submitted_by turns) in
      more ∙ omega (arith, both, in_one m, e)

  turned : (turns : List Turn) → count_by test (submitted_by turns) ≡ in_groups (calls_of turns)
  turned [] = sym (sum_by-none (range_with_len 0 groups))
  turned (t ∷ turns) = called t.call turns (turned turns)

  -- ---- all originators

  -- the messages that were submitted are those of the groups together
  pub in_groups_all : (chain : List (List Turn)) → count_by test (submitted_to chain) ≡ sum_by (λ spri. count_by test (given_to c spri chain)) (range_with_len 0 groups)
  in_groups_all [] = sym (sum_by-none (range_with_len 0 groups))
  in_groups_all (turns ∷ before) =
      let each : sum_by (λ spri. count_by test (given_to c spri (turns ∷ before))) (range_with_len 0 groups)
      ≡ sum_by (λ spri. count_by test (given_to c spri before) + count_by test (messages_of c.grouping spri (calls_of turns))) (range_with_len 0 groups)
      = sum_by-same (λ spri. count_by test (given_to c spri (turns ∷ before))) (λ spri. count_by test (given_to c spri before) + count_by test (messages_of c.grouping spri (calls_of turns))) (range_with_len 0 groups)
      (λ spri h. count_by-append test (given_to c spri before) (messages_of c.grouping spri (calls_of turns))) in
      let both : sum_by (λ spri. count_by test (given_to c spri (turns ∷ before))) (range_with_len 0 groups) ≡ sum_by (λ spri. count_by test (given_to c spri before)) (range_with_len 0 groups) + in_groups (calls_of turns)
      = each ∙ sum_by-added (λ spri. count_by test (given_to c spri before)) (λ spri. count_by test (messages_of c.grouping spri (calls_of turns))) (range_with_len 0 groups) in
      let more : count_by test (submitted_to (turns ∷ before)) ≡ count_by test (submitted_by turns) + count_by test (submitted_to before) = count_by-append test (submitted_by turns) (submitted_to before) in
      more ∙ omega (arith, both, turned turns, in_groups_all before)
