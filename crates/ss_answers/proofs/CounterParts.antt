-- How far the parts of a text of counters were read, and a step more.
use Rattle.std.proofs.Common.{◌≡◌, ℕ, ◌+◌, ◌<◌, ◌≤◌, codes, List, [], ◌∷◌, ◌++◌, length, flat_map, sym, refl, ap, ◌∙◌, inl, inr, arith, append-nil, append_assoc, length-append, subst}
use Rattle.std.specs.Fmt.{decimal}
use Rattle.std.specs.List.{AllByRecursion}
use Rattle.std.proofs.lemmas.Grind.{flat_map-append}
use Rattle.std.proofs.lemmas.List.Elements.{All-from_recursion, recursion_from_All}
use Rattle.ss_octets.specs.Ascii.{lf}
use Rattle.ss_octets.proofs.Base64Text.{Clear}
use Rattle.ss_review.specs.declared.counted.counter.Counter.{Counter}
use Rattle.ss_review.specs.counted.CounterRange.{IsCounter}
use Rattle.ss_review.specs.counted.CounterText.{counter_line, lines_of_counters}
use Rattle.ss_answers.specs.CounterFile.{Begins, BreaksOff, HasCounters, HasFirstBadCounter, HasWrongEnd, IsNoEnd, IsNotWhole, end_line, part_text, text_of_parts, together}
use Rattle.ss_answers.specs.CounterLine.{IsNoCounter}
use Rattle.ss_answers.specs.Lines.{Lacks}
use Rattle.ss_answers.proofs.ReadLines.{ended-push, good-push}

-- the counters so far are those of so many parts, and of one that has begun
pub record StandsAt (text : List ℕ) (counters : List Counter) (ended parts : ℕ) (rest : List ℕ) : Type 0 where
  pub whole : List (List Counter)
  pub begun : List Counter
  pub counters_are : counters ≡ together whole ++ begun
  pub ended_is : ended ≡ length (together whole)
  pub parts_is : parts ≡ length whole
  pub begins : Begins text whole begun rest

pub at_start : (text : List ℕ) → StandsAt text [] 0 0 text
at_start text = record {
  whole = [];
  begun = [];
  counters_are = refl;
  ended_is = refl;
  parts_is = refl;
  begins = record { fields = tt; spelt = refl };
}

-- a counter more
lines_push : (begun : List Counter) (counter : Counter) (after : List ℕ)
    → lines_of_counters begun ++ (counter_line counter ++ lf ∷ after) ≡ lines_of_counters (begun ++ counter ∷ []) ++ after
lines_push begun counter after =
    ap (λ t. lines_of_counters begun ++ t) (sym (append_assoc (counter_line counter) (lf ∷ []) after))
    ∙ sym (append_assoc (lines_of_counters begun) (counter_line counter ++ lf ∷ []) after)
    ∙ ap (λ t. t ++ after) (sym (ended-push counter_line begun counter))

-- a part more
end_group : (lines end after : List ℕ) → lines ++ (end ++ lf ∷ after) ≡ (lines ++ (end ++ lf ∷ [])) ++ after
end_group lines end after = simp append_assoc

part_push : (whole : List (List Counter)) (begun : List Counter) (after : List ℕ)
    → text_of_parts whole ++ (lines_of_counters begun ++ (end_line (length begun) ++ lf ∷ after)) ≡ text_of_parts (whole ++ begun ∷ []) ++ after
part_push whole begun after =
    ap (λ t. text_of_parts whole ++ t) (end_group (lines_of_counters begun) (end_line (length begun)) after)
    ∙ sym (append_assoc (text_of_parts whole) (part_text begun) after)
    ∙ ap (λ t. t ++ after)
    (ap (λ t. text_of_parts whole ++ t) (sym (append-nil (part_text begun))) ∙ sym (flat_map-append part_text whole (begun ∷ [])))

said-lacks : (line said : List ℕ) → line ≡ codes "end " ++ said → Lacks lf line → Lacks lf said
said-lacks line said end lacks =
    let all : Clear lf (codes "end " ++ said) = subst (Clear lf) end (recursion_from_All _ line lacks) in
    All-from_recursion _ said all.1.1.1.1

module _ {text : List ℕ} {counters : List Counter} {ended parts : ℕ} {rest : List ℕ} (at : StandsAt text counters ended parts rest) where
  pub count_more : (line after : List ℕ) (counter : Counter) → rest ≡ line ++ lf ∷ after → IsCounter counter → line ≡ counter_line counter
      → StandsAt text (counters ++ counter ∷ []) ended parts after
  count_more line after counter cut good spelt =
      let more : (counters ++ counter ∷ []) ≡ together at.whole ++ (at.begun ++ counter ∷ []) =
      ap (λ cs. cs ++ counter ∷ []) at.counters_are ∙ append_assoc (together at.whole) at.begun (counter ∷ []) in
      record {
        whole = at.whole;
        begun = at.begun ++ counter ∷ [];
        counters_are = more;
        ended_is = at.ended_is;
        parts_is = at.parts_is;
        begins = record {
          fields = subst (AllByRecursion IsCounter) (append_assoc (together at.whole) at.begun (counter ∷ []))
              (good-push IsCounter (together at.whole ++ at.begun) counter at.begins.fields good);
          spelt = at.begins.spelt
              ∙ ap (λ t. text_of_parts at.whole ++ (lines_of_counters at.begun ++ t)) (cut ∙ ap (λ t. t ++ lf ∷ after) spelt)
              ∙ ap (λ t. text_of_parts at.whole ++ t) (lines_push at.begun counter after);
        };
      }

  -- how many stand in the part that has begun
  pub begun_is : length counters ≡ ended + length at.begun
  begun_is = omega (arith, ap length at.counters_are, length-append (together at.whole) at.begun, at.ended_is)

  pub end_more : (line said after : List ℕ) → rest ≡ line ++ lf ∷ after → line ≡ codes "end " ++ said
      → (count next : ℕ) → count + ended ≡ length counters → next ≡ length counters → said ≡ decimal count
      → StandsAt text counters next (parts + 1) after
  end_more line said after cut end count next counted all spelt =
      let n : count ≡ length at.begun = omega (arith, begun_is, counted) in
      let line_is : line ≡ end_line (length at.begun) = end ∙ ap (λ t. codes "end " ++ t) (spelt ∙ ap decimal n) in
      let own : together (at.whole ++ at.begun ∷ []) ≡ together at.whole ++ at.begun =
      flat_map-append (λ (cs : List Counter). cs) at.whole (at.begun ∷ []) ∙ ap (λ t. together at.whole ++ t) (append-nil at.begun) in
      record {
        whole = at.whole ++ at.begun ∷ [];
        begun = [];
        counters_are = at.counters_are ∙ sym own ∙ sym (append-nil (together (at.whole ++ at.begun ∷ [])));
        ended_is = all ∙ ap length (at.counters_are ∙ sym own);
        parts_is = omega (arith, length-append at.whole (at.begun ∷ []), at.parts_is);
        begins = record {
          fields = subst (AllByRecursion IsCounter) (sym own ∙ sym (append-nil (together (at.whole ++ at.begun ∷ [])))) at.begins.fields;
          spelt = at.begins.spelt
              ∙ ap (λ t. text_of_parts at.whole ++ (lines_of_counters at.begun ++ t)) (cut ∙ ap (λ t. t ++ lf ∷ after) line_is)
              ∙ part_push at.whole at.begun after;
        };
      }

  pub wrong_more : (line said after : List ℕ) → rest ≡ line ++ lf ∷ after → line ≡ codes "end " ++ said → Lacks lf line
      → (count : ℕ) → count + ended ≡ length counters → (said ≡ decimal count → ⊥) → IsNotWhole text
  wrong_more line said after cut end lacks count counted wrong =
      let n : length at.begun ≡ count = omega (arith, begun_is, counted) in
      record {
        parts = at.whole;
        begun = at.begun;
        rest = rest;
        begins = at.begins;
        why = inr (record {
          said = said;
          behind = after;
          rest_is = cut ∙ ap (λ t. t ++ lf ∷ after) end;
          lacks = said-lacks line said end lacks;
          wrong = λ e. wrong (e ∙ ap decimal n);
        });
      }
