-- What a reader makes of questions of which each payload is written once.
use Rattle.std.proofs.Common.{◌≡◌, ℕ, Bool, true, false, not, List, [], ◌∷◌, ◌++◌, length, map, refl, sym, ap, ◌∙◌, subst, append_assoc, append-nil, cond, eq-eqb}
use Rattle.std.specs.Prelude.{Some, zip, slice_get}
use Rattle.std.specs.List.{flat_map, IsDistinct}
use Rattle.std.specs.Str.{bytes_eq}
use Rattle.ss_review.specs.declared.questions.question.Question.{Question}
use Rattle.ss_review.specs.declared.questions.question.Question.TheVariants.{Trust}
use Rattle.ss_review.specs.questions.Questions.{asked_sessions, question_under, questions}
use Rattle.ss_review.proofs.of_questions.AskedShared.{sessions_shared}
use Rattle.ss_report.specs.texts.Asked.{AskTrust, AskYes, Asking, askings, payload_of, question_of}
use Rattle.ss_report.specs.texts.Payloads.{each_once, index_among, is_among, mark, marks_behind, marks, with_payload}
use Rattle.ss_report.specs.texts.QuestionsOnce.{OnceLine, PayloadLine, line_of, marked_lines, once_lines, payload_lines}
use Rattle.ss_report.specs.texts.OnceLaws.{AsksTheSame, QuestionsOnceAskTheSame, asked_about, payloads_written, questions_read}
use Rattle.ss_report.proofs.of_writing.PayloadIndexes.{among_once, at_index, distinct_once, index_behind, index_of_next, once_more, next_among}
use Rattle.ss_report.proofs.of_writing.QuestionLines.{all_asked}

-- the lines of questions after those about these payloads
abbrev pub lines_behind : (known before : List (List ℕ)) → List Asking → List OnceLine
lines_behind known before qs = flat_map marked_lines (zip (marks_behind known before (map payload_of qs)) qs)

-- the next line, at the index of its payload
asked_next : (read : List (List ℕ)) (index : ℕ) (q : Asking) (ls : List OnceLine) → slice_get read index ≡ Some (payload_of q)
    → questions_read read (line_of index q ∷ ls) ≡ question_of q ∷ questions_read read ls
asked_next read index (AskTrust s) ls at = ap (λ o. asked_about o Trust (questions_read read ls)) at
asked_next read index (AskYes s b) ls at = ap (λ o. asked_about o (λ payload. question_under payload b) (questions_read read ls)) at

taken : (ws : List (List ℕ)) (p : List ℕ) (index : ℕ) (ls : List OnceLine) → index ≡ length ws
    → questions_read ws (PayloadLine index p ∷ ls) ≡ questions_read (ws ++ p ∷ []) ls
taken ws p index ls is = ap (λ b. cond b (questions_read (ws ++ p ∷ []) ls) []) (eq-eqb index (length ws) is)

-- what was read with the payload, where it is new
introduced : (ws : List (List ℕ)) (p : List ℕ) (index : ℕ) (b : Bool) (ls : List OnceLine) → is_among ws p ≡ b → index ≡ index_among (cond b ws (ws ++ p ∷ [])) p
    → questions_read ws (payload_lines (record { index = index; is_new = not b }) p ++ ls) ≡ questions_read (cond b ws (ws ++ p ∷ [])) ls
introduced ws p index true ls is at = refl
introduced ws p index false ls is at = taken ws p index ls (at ∙ index_behind ws [] p is)

read_behind : (known before : List (List ℕ)) (qs : List Asking) → known ≡ each_once (before ++ map payload_of qs)
    → questions_read (each_once before) (lines_behind known before qs) ≡ map question_of qs
read_behind known before [] is = refl
read_behind known before (q ∷ qs) is =
    let p = payload_of q in
    let ws = each_once before in
    let next = with_payload ws p in
    let m = mark known before p in
    let rest = lines_behind known (before ++ p ∷ []) qs in
    let at : m.index ≡ index_among next p = index_of_next known before p (map payload_of qs) is in
    let split : (payload_lines m p ++ line_of m.index q ∷ []) ++ rest ≡ payload_lines m p ++ line_of m.index q ∷ rest = append_assoc (payload_lines m p) (line_of m.index q ∷ []) rest in
    let new : payload_lines m p ≡ payload_lines (record { index = m.index; is_new = not (is_among ws p) }) p =
    ap (λ b. payload_lines (record { index = m.index; is_new = not b }) p) (sym (among_once before p)) in
    let there : slice_get next m.index ≡ Some p = ap (slice_get next) at ∙ at_index next p (next_among ws p) in
    let more : known ≡ each_once ((before ++ p ∷ []) ++ map payload_of qs) = is ∙ ap each_once (sym (append_assoc before (p ∷ []) (map payload_of qs))) in
    let others : questions_read next rest ≡ map question_of qs = ap (λ read. questions_read read rest) (sym (once_more before p)) ∙ read_behind known (before ++ p ∷ []) qs more in
    ap (questions_read ws) (split ∙ ap (λ ls. ls ++ line_of m.index q ∷ rest) new) ∙ introduced ws p m.index (is_among ws p) (line_of m.index q ∷ rest) refl at
    ∙ asked_next next m.index q rest there ∙ ap (λ l. question_of q ∷ l) others

written_asked : (index : ℕ) (q : Asking) (ls : List OnceLine) → payloads_written (line_of index q ∷ ls) ≡ payloads_written ls
written_asked index (AskTrust s) ls = refl
written_asked index (AskYes s b) ls = refl

written_new : (ws : List (List ℕ)) (p : List ℕ) (index : ℕ) (b : Bool) (ls : List OnceLine)
    → ws ++ payloads_written (payload_lines (record { index = index; is_new = not b }) p ++ ls) ≡ cond b ws (ws ++ p ∷ []) ++ payloads_written ls
written_new ws p index true ls = refl
written_new ws p index false ls = sym (append_assoc ws (p ∷ []) (payloads_written ls))

written_behind : (known before : List (List ℕ)) (qs : List Asking) → known ≡ each_once (before ++ map payload_of qs)
    → each_once before ++ payloads_written (lines_behind known before qs) ≡ known
written_behind known before [] is = append-nil (each_once before) ∙ ap each_once (sym (append-nil before)) ∙ sym is
written_behind known before (q ∷ qs) is =
    let p = payload_of q in
    let ws = each_once before in
    let m = mark known before p in
    let rest = lines_behind known (before ++ p ∷ []) qs in
    let split : (payload_lines m p ++ line_of m.index q ∷ []) ++ rest ≡ payload_lines m p ++ line_of m.index q ∷ rest = append_assoc (payload_lines m p) (line_of m.index q ∷ []) rest in
    let new : payload_lines m p ≡ payload_lines (record { index = m.index; is_new = not (is_among ws p) }) p =
    ap (λ b. payload_lines (record { index = m.index; is_new = not b }) p) (sym (among_once before p)) in
    let more : known ≡ each_once ((before ++ p ∷ []) ++ map payload_of qs) = is ∙ ap each_once (sym (append_assoc before (p ∷ []) (map payload_of qs))) in
    ap (λ ls. ws ++ payloads_written ls) (split ∙ ap (λ ls. ls ++ line_of m.index q ∷ rest) new)
    ∙ written_new ws p m.index (is_among ws p) (line_of m.index q ∷ rest)
    ∙ ap (λ ls. with_payload ws p ++ ls) (written_asked m.index q rest)
    ∙ ap (λ read. read ++ payloads_written rest) (sym (once_more before p))
    ∙ written_behind known (before ++ p ∷ []) qs more

written_all : (xs : List Asking) → payloads_written (once_lines xs) ≡ each_once (map payload_of xs)
unfolding once_lines marks each_once
written_all xs = written_behind (each_once (map payload_of xs)) [] xs refl

read_all : (xs : List Asking) → questions_read [] (once_lines xs) ≡ map question_of xs
unfolding once_lines marks each_once
read_all xs = read_behind (each_once (map payload_of xs)) [] xs refl

asks_the_same : (xs : List Asking) (qs : List Question) → map question_of xs ≡ qs → AsksTheSame xs qs
asks_the_same xs qs are = record {
  read = read_all xs ∙ are;
  written = written_all xs;
  once = subst (IsDistinct bytes_eq) (sym (written_all xs)) (distinct_once (map payload_of xs));
}

pub ask_the_same : QuestionsOnceAskTheSame
ask_the_same = record {
  asked = λ xs. asks_the_same xs (map question_of xs) refl;
  of_blocks = λ bs. asks_the_same (askings (asked_sessions bs)) (questions bs) (all_asked (asked_sessions bs) ∙ sessions_shared bs);
}
