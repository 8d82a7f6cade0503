-- The plain text of the counters of a log is the lines of the counters that the log gives.
use Rattle.std.proofs.Common.{◌≡◌, ℕ, Bool, true, false, codes, List, [], ◌∷◌, ◌++◌, map, flat_map, refl, sym, ap, ◌∙◌, append-nil, append_assoc}
use Rattle.std.specs.Prelude.{decimal, zip, sum_by, if◌then◌else◌}
use Rattle.std.proofs.lemmas.Grind.{flat_map-append}
use Rattle.ss_octets.specs.Ascii.{lf}
use Rattle.ss_message.specs.declared.draft.Field.{Field}
use Rattle.ss_message.specs.declared.draft.Field.TheVariants.{Nil, Text}
use Rattle.ss_block.specs.declared.block.Group.{Group}
use Rattle.ss_block.specs.declared.session.Session.{Session}
use Rattle.ss_review.specs.declared.counted.counted_session.CountedSession.{CountedSession}
use Rattle.ss_review.specs.declared.counted.counter.Counter.{Counter}
use Rattle.ss_review.specs.declared.counted.counter.Counts.TheVariants.{Blocks, Messages}
use Rattle.ss_review.specs.declared.report.group_report.GroupReport.{GroupReport}
use Rattle.ss_review.specs.declared.report.session_report.SessionReport.{SessionReport}
use Rattle.ss_review.specs.keep.Notes.{notes}
use Rattle.ss_review.specs.keep.Contents.{blocks, contents}
use Rattle.ss_review.specs.counted.Counted.{next_after, next_number}
use Rattle.ss_review.specs.pinned.Pinned.{counted_by, report_by}
use Rattle.ss_review.specs.counted.CounterText as spelling
use Rattle.ss_review.specs.counted.CounterText.{counter_line, counter_text, lines_of_counters}
use Rattle.ss_review.specs.counted.KeptLaws.{group_given, session_given, given_beside, counters_given}
use Rattle.ss_review.specs.report.Verdict.{is_joined}
use Rattle.ss_report.specs.runs.CounterLaws.{CountersAreTheLogs}
use Rattle.ss_report.specs.runs.Counters.{block_counter, message_counter, group_counter, session_counters, counters_beside, counters_end, counter_lines_with, how_many}
use Rattle.ss_report.specs.records.Record.{field}
use Rattle.ss_report.specs.records.Fields.{field_word, session_fields, group_fields}
use Rattle.ss_report.specs.records.Written.{fields_in, written}
use Rattle.ss_report.specs.declared.notation.Notation.TheVariants.{Plain}
use Rattle.ss_report.proofs.of_reports.CountersWritten.{counters_are, counters_many}

-- ---- a line

same_word : (f : Field) → field_word f ≡ spelling.field_word f
same_word Nil = refl
same_word (Text octets) = refl

-- five words, each with a space before it, and seven
five_words : (kind sp host app procid rsid next end : List ℕ)
    → kind ++ ((sp ++ host) ++ ((sp ++ app) ++ ((sp ++ procid) ++ ((sp ++ rsid) ++ ((sp ++ next) ++ []))))) ++ end
    ≡ (kind ++ (sp ++ host ++ sp ++ app ++ sp ++ procid ++ (sp ++ rsid)) ++ (sp ++ next)) ++ end
five_words kind sp host app procid rsid next end = simp (append_assoc, append-nil)

seven_words : (kind sp host app procid rsid sg spri next end : List ℕ)
    → kind ++ ((sp ++ host) ++ ((sp ++ app) ++ ((sp ++ procid) ++ ((sp ++ rsid) ++ ((sp ++ sg) ++ ((sp ++ spri) ++ ((sp ++ next) ++ []))))))) ++ end
    ≡ (kind ++ (sp ++ host ++ sp ++ app ++ sp ++ procid ++ (sp ++ rsid)) ++ ((sp ++ sg) ++ (sp ++ spri)) ++ (sp ++ next)) ++ end
seven_words kind sp host app procid rsid sg spri next end = simp (append_assoc, append-nil)

same_session : (s : Session)
    → codes " " ++ field_word s.host ++ codes " " ++ field_word s.app ++ codes " " ++ field_word s.procid ++ spelling.spaced s.rsid ≡ spelling.session_words s
same_session s i =
    codes " " ++ same_word s.host i ++ codes " " ++ same_word s.app i ++ codes " " ++ same_word s.procid i
    ++ spelling.spaced s.rsid

block_line : (s : Session) (gbc : ℕ) → block_counter Plain s gbc ≡ counter_text s Blocks gbc ++ lf ∷ []
unfolding written fields_in session_fields field
block_line s gbc =
    five_words (codes "count") (codes " ") (field_word s.host) (field_word s.app) (field_word s.procid) (decimal s.rsid) (decimal gbc) (codes "\n")
    ∙ ap (λ words. (codes "count" ++ words ++ spelling.spaced gbc) ++ codes "\n") (same_session s)

message_line : (s : Session) (g : Group) (number : ℕ)
    → message_counter Plain s g number ≡ counter_text s (Messages g) number ++ lf ∷ []
unfolding written fields_in session_fields group_fields field
message_line s g number =
    seven_words (codes "count") (codes " ") (field_word s.host) (field_word s.app) (field_word s.procid) (decimal s.rsid) (decimal g.sg) (decimal g.spri) (decimal number) (codes "\n")
    ∙ ap (λ words. (codes "count" ++ words ++ spelling.group_words g ++ spelling.spaced number) ++ codes "\n") (same_session s)

end_line : (count : ℕ) → counters_end Plain count ≡ codes "end " ++ decimal count ++ lf ∷ []
unfolding written fields_in field
end_line count = ap (λ t. codes "end " ++ t ++ lf ∷ []) (append-nil (decimal count))

-- ---- the lines of a log

group_lines : (s : Session) (gs : List GroupReport)
    → flat_map (group_counter Plain s) gs ≡ lines_of_counters (map (group_given s) gs)
group_lines s [] = refl
group_lines s (g ∷ gs) = λ i. message_line s g.group (next_number g) i ++ group_lines s gs i

lines_if : (b : Bool) (s : SessionReport) (c : CountedSession)
    → (if b then session_counters Plain s c else []) ≡ lines_of_counters (if b then session_given s c else [])
lines_if true s c = λ i. block_line s.session (next_after c.gbcs) i ++ group_lines s.session s.groups i
lines_if false s c = refl

lines_beside : (ps : List (SessionReport × CountedSession))
    → flat_map (counters_beside Plain) ps ≡ lines_of_counters (flat_map given_beside ps)
lines_beside [] = refl
lines_beside (p ∷ ps) =
    (λ i. lines_if (is_joined p.0.state) p.0 p.1 i ++ lines_beside ps i)
    ∙ sym (flat_map-append (λ (c : Counter). counter_line c ++ lf ∷ []) (given_beside p) (flat_map given_beside ps))

pub counters_are_the_logs : CountersAreTheLogs
unfolding counter_lines_with counters_given
counters_are_the_logs known says log ending =
    let pairs = zip (report_by known says (contents (notes log))).sessions (counted_by known says (blocks (notes log))) in
    let count = sum_by how_many (report_by known says (contents (notes log))).sessions in
    sym (counters_are Plain known says log)
    ∙ ap (λ t. t ++ counters_end Plain count) (lines_beside pairs)
    ∙ ap (λ t. lines_of_counters (flat_map given_beside pairs) ++ t)
    (end_line count ∙ ap (λ n. codes "end " ++ decimal n ++ lf ∷ []) (sym (counters_many known says log)))
