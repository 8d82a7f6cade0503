-- Lines of a text that is taken part by part: a step of the taking, and what a fault says about the whole text.
use Rattle.std.proofs.Common.{◌≡◌, ℕ, ◌+◌, ◌<◌, List, [], ◌∷◌, ◌++◌, length, sym, ap, ◌∙◌, inl, inr, subst, arith, length-append}
use Rattle.std.specs.List.{AllByRecursion}
use Rattle.std.proofs.lemmas.List.{append-nil, append_assoc}
use Rattle.std.proofs.lemmas.List.Elements.{recursion_from_All}
use Rattle.ss_octets.specs.Ascii.{lf}
use Rattle.ss_answers.specs.declared.fault.AnswerFault.{AnswerFault}
use Rattle.ss_answers.specs.declared.fault.AnswerFault.TheVariants.{BadLine, Read, TooBig, Memory}
use Rattle.ss_answers.specs.declared.lines.Lines.{Lines}
use Rattle.ss_answers.specs.declared.lines.LinesSoFar.{LinesSoFar}
use Rattle.ss_answers.specs.Answers.{HasFields, HasFirstBadLine, HasLines, line_text}
use Rattle.ss_answers.specs.AnswerInput.{IsTextFault}
use Rattle.ss_answers.specs.AnswerLine.{answers_of}
use Rattle.ss_answers.specs.Lines.{Lacks, ended}
use Rattle.ss_answers.specs.LinesSoFar.{AddsLine, HasEndedBadLine, IsLineFault, IsPartFault, ended_text, text_of}
use Rattle.ss_answers.proofs.KeptLines.{length-answers_at}
use Rattle.ss_answers.proofs.ReadLines.{ended-push, first_clear, good-push, whole_clear}

pub length-text_of : (lines : LinesSoFar) → length (text_of lines) ≡ length (ended_text lines.ended) + length lines.unfinished.items
unfolding text_of
length-text_of lines = length-append (ended_text lines.ended) lines.unfinished.items

-- the unfinished line goes on
pub text_of-more : (old new : LinesSoFar) (text : List ℕ) → new.ended ≡ old.ended → new.unfinished.items ≡ old.unfinished.items ++ text
    → text_of new ≡ text_of old ++ text
unfolding text_of
text_of-more old new text same more =
    ap (λ t. ended_text t ++ new.unfinished.items) same ∙ ap (λ t. ended_text old.ended ++ t) more
    ∙ sym (append_assoc (ended_text old.ended) old.unfinished.items text)

ended_text-adds : (old new : Lines) (text : List ℕ) → AddsLine old new text → ended_text new ≡ ended_text old ++ (text ++ lf ∷ [])
ended_text-adds old new text adds =
    ap (ended line_text) adds.answers ∙ ended-push line_text (answers_of old) adds.line
    ∙ ap (λ t. ended_text old ++ (t ++ lf ∷ [])) (sym adds.spelt)

-- where no line is unfinished, the end of a line is all of it
pub whole_line : (lines : LinesSoFar) (end : List ℕ) → lines.unfinished.items ≡ [] → end ≡ lines.unfinished.items ++ end
whole_line lines end none = ap (λ t. t ++ end) (sym none)

regroup : (a b c d : List ℕ) → a ++ ((b ++ c) ++ d) ≡ (a ++ b) ++ (c ++ d)
regroup a b c d = simp append_assoc

-- the unfinished line ends
pub text_of-ended : (old new : LinesSoFar) (line end : List ℕ) → line ≡ old.unfinished.items ++ end → AddsLine old.ended new.ended line
    → new.unfinished.items ≡ [] → text_of new ≡ text_of old ++ (end ++ lf ∷ [])
unfolding text_of
text_of-ended old new line end is adds none =
    ap (λ t. ended_text new.ended ++ t) none ∙ append-nil (ended_text new.ended) ∙ ended_text-adds old.ended new.ended line adds
    ∙ ap (λ t. ended_text old.ended ++ (t ++ lf ∷ [])) is ∙ regroup (ended_text old.ended) old.unfinished.items end (lf ∷ [])

-- it is bad
pub IsPartFault-ended : (lines : LinesSoFar) (line end : List ℕ) (fault : AnswerFault) → line ≡ lines.unfinished.items ++ end
    → AllByRecursion HasFields (answers_of lines.ended) → Lacks lf line → IsLineFault (length lines.ended.places.items) line fault
    → IsPartFault (text_of lines ++ (end ++ lf ∷ [])) fault
unfolding text_of
IsPartFault-ended lines line end (BadLine number) is fields lacks bad = record {
  lines = answers_of lines.ended;
  line = line;
  rest = [];
  fields = fields;
  before = sym (regroup (ended_text lines.ended) lines.unfinished.items end (lf ∷ []))
      ∙ ap (λ t. ended_text lines.ended ++ (t ++ lf ∷ [])) (sym is);
  lacks = lacks;
  place = omega (arith, bad.0, length-answers_at lines.ended.octets.items lines.ended.places.items);
  bad = bad.1;
}
IsPartFault-ended lines line end Read is fields lacks bad = bad
IsPartFault-ended lines line end TooBig is fields lacks bad = bad
IsPartFault-ended lines line end Memory is fields lacks bad = tt

-- the same where the line went on before it ended
pub text_of-gone_on : (old middle new : LinesSoFar) (line end : List ℕ) → text_of middle ≡ text_of old ++ end → line ≡ middle.unfinished.items
    → AddsLine middle.ended new.ended line → new.unfinished.items ≡ [] → text_of new ≡ text_of old ++ (end ++ lf ∷ [])
text_of-gone_on old middle new line end taken is adds none =
    text_of-ended middle new line [] (is ∙ sym (append-nil middle.unfinished.items)) adds none
    ∙ ap (λ t. t ++ lf ∷ []) taken ∙ append_assoc (text_of old) end (lf ∷ [])

pub IsPartFault-gone_on : (old middle : LinesSoFar) (line end : List ℕ) (fault : AnswerFault) → text_of middle ≡ text_of old ++ end
    → line ≡ middle.unfinished.items → AllByRecursion HasFields (answers_of middle.ended) → Lacks lf line
    → IsLineFault (length middle.ended.places.items) line fault → IsPartFault (text_of old ++ (end ++ lf ∷ [])) fault
IsPartFault-gone_on old middle line end fault taken is fields lacks bad =
    subst (λ (t : List ℕ). IsPartFault t fault) (ap (λ t. t ++ lf ∷ []) taken ∙ append_assoc (text_of old) end (lf ∷ []))
    (IsPartFault-ended middle line [] fault (is ∙ sym (append-nil middle.unfinished.items)) fields lacks bad)

behind : (a b rest more : List ℕ) → (a ++ (b ++ lf ∷ rest)) ++ more ≡ a ++ (b ++ lf ∷ (rest ++ more))
behind a b rest more = simp append_assoc

-- it stays bad, whatever follows
pub IsPartFault-more : (text more : List ℕ) (fault : AnswerFault) → IsPartFault text fault → IsPartFault (text ++ more) fault
IsPartFault-more text more (BadLine number) bad = record {
  lines = bad.lines;
  line = bad.line;
  rest = bad.rest ++ more;
  fields = bad.fields;
  before = ap (λ t. t ++ more) bad.before ∙ behind (ended line_text bad.lines) bad.line bad.rest more;
  lacks = bad.lacks;
  place = bad.place;
  bad = bad.bad;
}
IsPartFault-more text more Read bad = bad
IsPartFault-more text more TooBig bad = bad
IsPartFault-more text more Memory bad = tt

behind_end : (text end after : List ℕ) → (text ++ (end ++ lf ∷ [])) ++ after ≡ text ++ (end ++ lf ∷ after)
behind_end text end after = simp append_assoc

pub IsPartFault-rest : (text rest whole end after : List ℕ) (fault : AnswerFault) → rest ≡ end ++ lf ∷ after → text ++ rest ≡ whole
    → IsPartFault (text ++ (end ++ lf ∷ [])) fault → IsPartFault whole fault
IsPartFault-rest text rest whole end after fault cut taken bad =
    subst (λ (t : List ℕ). IsPartFault t fault) (behind_end text end after ∙ ap (λ t. text ++ t) (sym cut) ∙ taken)
    (IsPartFault-more (text ++ (end ++ lf ∷ [])) after fault bad)

pub HasFirstBadLine-ended : (text more : List ℕ) (number : ℕ) → HasEndedBadLine text number → HasFirstBadLine (text ++ more) number
HasFirstBadLine-ended text more number bad = record {
  lines = bad.lines;
  rest = bad.line ++ lf ∷ (bad.rest ++ more);
  fields = bad.fields;
  before = ap (λ t. t ++ more) bad.before ∙ behind (ended line_text bad.lines) bad.line bad.rest more;
  some = omega (arith, length-append bad.line (lf ∷ (bad.rest ++ more)));
  place = bad.place;
  bad = rw (first_clear bad.line (bad.rest ++ more) (recursion_from_All _ bad.line bad.lacks)) bad.bad;
}

-- ---- the text ends

pub HasLines-ended : (lines : LinesSoFar) → AllByRecursion HasFields (answers_of lines.ended) → lines.unfinished.items ≡ []
    → HasLines (text_of lines) (answers_of lines.ended)
unfolding text_of
HasLines-ended lines fields none = record {
  fields = fields;
  spelt = inl (ap (λ t. ended_text lines.ended ++ t) none ∙ append-nil (ended_text lines.ended));
}

pub HasLines-unfinished : (lines : LinesSoFar) (new : Lines) (line : List ℕ) → AllByRecursion HasFields (answers_of lines.ended)
    → line ≡ lines.unfinished.items → AddsLine lines.ended new line → HasLines (text_of lines) (answers_of new)
unfolding text_of
HasLines-unfinished lines new line fields is adds = record {
  fields = rw adds.answers (good-push HasFields _ _ fields adds.fields);
  spelt = inr (append_assoc (ended_text lines.ended) lines.unfinished.items (lf ∷ [])
      ∙ ap (λ t. ended_text lines.ended ++ (t ++ lf ∷ [])) (sym is) ∙ sym (ended_text-adds lines.ended new line adds));
}

pub IsTextFault-unfinished : (lines : LinesSoFar) (line : List ℕ) (fault : AnswerFault) → AllByRecursion HasFields (answers_of lines.ended)
    → line ≡ lines.unfinished.items → Lacks lf line → 0 < length line → IsLineFault (length lines.ended.places.items) line fault
    → IsTextFault (text_of lines) fault
unfolding text_of
IsTextFault-unfinished lines line (BadLine number) fields is lacks some bad = record {
  lines = answers_of lines.ended;
  rest = line;
  fields = fields;
  before = ap (λ t. ended_text lines.ended ++ t) (sym is);
  some = some;
  place = omega (arith, bad.0, length-answers_at lines.ended.octets.items lines.ended.places.items);
  bad = rw (whole_clear line (recursion_from_All _ line lacks)) bad.1;
}
IsTextFault-unfinished lines line Read fields is lacks some bad = bad
IsTextFault-unfinished lines line TooBig fields is lacks some bad = bad
IsTextFault-unfinished lines line Memory fields is lacks some bad = tt
