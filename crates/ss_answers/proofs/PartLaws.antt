-- A text of counters is read in one way, and none is taken that was cut off inside a part.
use Rattle.std.proofs.Common.{◌≡◌, ◌⊎◌, inl, inr, ℕ, ◌+◌, ◌<◌, codes, List, [], ◌∷◌, ◌++◌, length, flat_map, sym, refl, ap, ◌∙◌, subst, arith, append_assoc, append-nil, length-append}
use Rattle.std.specs.Fmt.{decimal}
use Rattle.std.specs.List.{AllByRecursion}
use Rattle.std.proofs.lemmas.Grind.{flat_map-append}
use Rattle.std.proofs.lemmas.List.Elements.{recursion_from_All}
use Rattle.ss_octets.specs.Ascii.{lf}
use Rattle.ss_octets.proofs.Base64Text.{Clear}
use Rattle.ss_review.specs.declared.counted.counter.Counter.{Counter}
use Rattle.ss_review.specs.counted.CounterRange.{IsCounter}
use Rattle.ss_answers.specs.CounterFile.{BadCounterIsDetermined, Begins, BreaksOff, CountersAreDetermined, CountersAreWhole, HasCounters, HasFirstBadCounter, HasWrongEnd, IsNotWhole, NoCountersAreGoodAndBad, PartsHaveTheirCounters, text_of_parts, together}
use Rattle.ss_answers.specs.Lines.{AreLines, IsFirstBad, SpellsNone, ended, first_line}
use Rattle.ss_answers.proofs.Cuts.{clear_nowhere, cut_clear}
use Rattle.ss_answers.proofs.LineLaws as laws
use Rattle.ss_answers.proofs.LineLaws.{AreSpelt, ended-behind, ended-cons}
use Rattle.ss_answers.proofs.PartLines.{AreRight, Count, End, Line, are_right, are_spelt, ends_back, ends_in, good, left_back, left_in, lines_good, lines_many, lines_of, parts_are, said_right, same_counters, spell, text_is}
use Rattle.ss_answers.proofs.ReadLines.{ended-push, first_clear, good-push}

-- ---- a text and its lines

pub text_lines : {text : List ℕ} {counters : List Counter} (h : HasCounters text counters) → AreLines good spell text (lines_of h.parts [])
text_lines h = record {
  fields = lines_good h.parts [] (subst (AllByRecursion IsCounter) (h.are ∙ sym (append-nil (together h.parts))) h.fields);
  spelt = inl (h.spelt ∙ parts_are h.parts);
}

spells_none : (line behind : List ℕ) → Clear lf line → ((c : Counter) → IsCounter c → line ≡ spell (Count c) → ⊥)
    → ((said : List ℕ) → line ≡ codes "end " ++ said → ⊥) → SpellsNone good spell (first_line (line ++ lf ∷ behind))
spells_none line behind clear no_counter no_end (Count c) h e = no_counter c h (sym (first_clear line behind clear) ∙ e)
spells_none line behind clear no_counter no_end (End said) h e = no_end said (sym (first_clear line behind clear) ∙ e)

bad_lines : {text : List ℕ} {number : ℕ} → HasFirstBadCounter text number → IsFirstBad good spell text number
bad_lines b = record {
  lines = lines_of b.parts b.begun;
  rest = b.line ++ lf ∷ b.behind;
  fields = lines_good b.parts b.begun b.begins.fields;
  before = b.begins.spelt ∙ text_is b.parts b.begun (b.line ++ lf ∷ b.behind);
  some = omega (arith, length-append b.line (lf ∷ b.behind));
  place = b.place ∙ ap (λ n. n + 1) (sym (lines_many b.parts b.begun));
  bad = spells_none b.line b.behind (recursion_from_All _ b.line b.lacks) b.no_counter b.no_end;
}

pub no_counters_are_good_and_bad : NoCountersAreGoodAndBad
no_counters_are_good_and_bad text counters number has bad =
    laws.none_good_and_bad good spell are_spelt text (lines_of has.parts []) number (text_lines has) (bad_lines bad)

pub counters_are_determined : CountersAreDetermined
counters_are_determined text counters others one two =
    one.are
    ∙ same_counters one.parts two.parts (laws.lines_are_determined good spell are_spelt text _ _ (text_lines one) (text_lines two))
    ∙ sym two.are

pub bad_counter_is_determined : BadCounterIsDetermined
bad_counter_is_determined text m n one two = laws.bad_is_determined good spell are_spelt text m n (bad_lines one) (bad_lines two)

-- ---- a text is whole

-- no lines are a text without a line feed
no_rest : (ns : List Line) (rest : List ℕ) → Clear lf rest → rest ≡ ended spell ns → ns ≡ []
no_rest [] rest h e = refl
no_rest (n ∷ ns) rest h e = absurd (clear_nowhere lf (spell n) (ended spell ns) (subst (Clear lf) (e ∙ ended-cons spell n ns) h))

is_inside : (P Q : List (List Counter)) (begun : List Counter) (rest : List ℕ) → lines_of P [] ≡ lines_of Q begun → 0 < length P → rest ≡ []
    → (length Q ≡ 0) ⊎ (0 < length begun) ⊎ (0 < length rest) → ⊥
is_inside P Q begun rest e some none (inl h) = omega (arith, h, ends_back P [], ends_back Q begun, some, ap ends_in e)
is_inside P Q begun rest e some none (inr (inl h)) = omega (arith, h, left_back P [], left_back Q begun, ap (left_in 0) e)
is_inside P Q begun rest e some none (inr (inr h)) = omega (arith, h, ap length none)

-- what follows lines in a text of parts
behind_lines : {text : List ℕ} {counters : List Counter} (has : HasCounters text counters) (lines : List Line) (rest : List ℕ)
    → AllByRecursion good lines → text ≡ ended spell lines ++ rest
    → (after : List Line) × (lines_of has.parts [] ≡ lines ++ after) × (rest ≡ ended spell after)
behind_lines has lines rest f e =
    laws.first_ones good spell are_spelt lines (lines_of has.parts []) rest f (text_lines has).fields (sym e ∙ has.spelt ∙ parts_are has.parts)

breaks_nowhere : {text : List ℕ} {counters : List Counter} (has : HasCounters text counters) (not : IsNotWhole text)
    → BreaksOff not.parts not.begun not.rest → ⊥
breaks_nowhere has not off =
    let lines = lines_of not.parts not.begun in
    let next = behind_lines has lines not.rest (lines_good not.parts not.begun not.begins.fields) (not.begins.spelt ∙ text_is not.parts not.begun not.rest) in
    let none = no_rest next.0 not.rest (recursion_from_All _ not.rest off.lacks) next.2 in
    is_inside has.parts not.parts not.begun not.rest (next.1 ∙ ap (λ ls. lines ++ ls) none ∙ append-nil lines) has.some (next.2 ∙ ap (ended spell) none) off.inside

push-good : (lines : List Line) (line : Line) → AllByRecursion good lines → good line → AllByRecursion good (lines ++ line ∷ [])
push-good lines line h k = good-push good lines line h k

ends_right : {text : List ℕ} {counters : List Counter} (has : HasCounters text counters) (not : IsNotWhole text)
    → HasWrongEnd not.begun not.rest → ⊥
ends_right has not wrong =
    let lines = lines_of not.parts not.begun in
    let end = End wrong.said in
    let fields = push-good lines end (lines_good not.parts not.begun not.begins.fields) (recursion_from_All _ wrong.said wrong.lacks) in
    let spelt = not.begins.spelt ∙ text_is not.parts not.begun not.rest
    ∙ ap (λ t. ended spell lines ++ t) (wrong.rest_is ∙ sym (append_assoc (spell end) (lf ∷ []) wrong.behind))
    ∙ sym (append_assoc (ended spell lines) (spell end ++ lf ∷ []) wrong.behind)
    ∙ ap (λ t. t ++ wrong.behind) (sym (ended-push spell lines end)) in
    let next = behind_lines has (lines ++ end ∷ []) wrong.behind fields spelt in
    let all : lines_of has.parts [] ≡ lines ++ end ∷ next.0 = next.1 ∙ append_assoc lines (end ∷ []) next.0 in
    wrong.wrong (said_right 0 lines wrong.said next.0 (subst (AreRight 0) all (are_right has.parts [])) ∙ ap decimal (left_back not.parts not.begun))

pub counters_are_whole : CountersAreWhole
counters_are_whole text counters has not = by not.why
  where
    by : BreaksOff not.parts not.begun not.rest ⊎ HasWrongEnd not.begun not.rest → ⊥
    by (inl off) = breaks_nowhere has not off
    by (inr wrong) = ends_right has not wrong

pub parts_have_their_counters : PartsHaveTheirCounters
parts_have_their_counters parts some range =
    let text = text_of_parts parts in
    let has : HasCounters text (together parts) = record { parts = parts; some = some; are = refl; fields = recursion_from_All IsCounter (together parts) range; spelt = refl } in
    record {
      has = has;
      no_others = λ others h. counters_are_determined text others (together parts) h has;
      none_bad = λ number bad. no_counters_are_good_and_bad text (together parts) number has bad;
      whole = λ not. counters_are_whole text (together parts) has not;
    }
