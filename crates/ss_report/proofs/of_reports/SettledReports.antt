-- A verdict is that of the report, of its end, and of what is missing beside it.
use Rattle.std.proofs.Common.{◌≡◌, ℕ, Bool, true, false, List, [], ◌∷◌, ◌++◌, ◌&&◌, length, map, flat_map, Option, Some, None, refl, ap, ◌∙◌, append-nil, append_assoc, arith}
use Rattle.std.specs.Prelude.{zip}
use Rattle.std.specs.List.{list_all}
use Rattle.std.proofs.lemmas.List.{length-map}
use Rattle.std.proofs.lemmas.List.Folds.{list_all-append}
use Rattle.std.proofs.lemmas.Slice.Zip.{length-zip}
use Rattle.ss_frame.specs.declared.step.Tail.{Tail}
use Rattle.ss_frame.specs.declared.step.Tail.TheVariants as tails
use Rattle.ss_block.specs.declared.block.Group.{Group}
use Rattle.ss_block.specs.declared.session.Session.{Session}
use Rattle.ss_review.specs.declared.counted.counter.Counter.{Counter}
use Rattle.ss_review.specs.declared.counted.missing.MissingRun.{MissingRun}
use Rattle.ss_review.specs.declared.counted.shortfall.GroupTail.{GroupTail}
use Rattle.ss_review.specs.declared.counted.shortfall.LogShortfalls.{LogShortfalls}
use Rattle.ss_review.specs.declared.counted.shortfall.Shortfall.{Shortfall}
use Rattle.ss_review.specs.declared.keep.spoilt.SpoiltPlace.{SpoiltPlace}
use Rattle.ss_review.specs.declared.report.entry.Entry.{Entry}
use Rattle.ss_review.specs.declared.report.entry.Entry.TheVariants as entry
use Rattle.ss_review.specs.declared.report.group_report.GroupReport.{GroupReport}
use Rattle.ss_review.specs.declared.report.report.Report.{Report}
use Rattle.ss_review.specs.declared.report.session_report.SessionReport.{SessionReport}
use Rattle.ss_review.specs.keep.Contents.{Contents, contents}
use Rattle.ss_review.specs.keep.Notes.{notes}
use Rattle.ss_review.specs.counted.Counted.{counted_session, counted_sessions}
use Rattle.ss_review.specs.counted.Kept.{log_shortfalls, shortfall_beside}
use Rattle.ss_review.specs.pinned.Pinned.{pinned_contents, report_by}
use Rattle.ss_review.specs.pinned.Stands.{shortfalls_by}
use Rattle.ss_review.specs.report.Report.{report_of}
use Rattle.ss_review.specs.report.Verdict.{is_clean, is_joined, is_listed, is_none}
use Rattle.ss_review.specs.sessions.Sessions.{sessions}
use Rattle.ss_review.specs.sessions.Verified.{Answers}
use Rattle.ss_between.specs.Between.{beyond}
use Rattle.ss_report.specs.declared.lines.detail.Listing.TheVariants as listings
use Rattle.ss_report.specs.lines.Lines.{UnlistedLine, RefusedLine, EndLine, itemized, entry_line, group_lines, session_lines, damage_line, ending_lines, spoilt_place_line, tail_lines, single_lines, other_lines, lines}
use Rattle.ss_report.specs.lines.Settled.{is_settled}
use Rattle.ss_report.specs.lines.Whole.{absent_lines, missing_line, shortfall_lines, tail_line}
use Rattle.ss_report.specs.lines.Between.{lines_between, lines_of_night, whole_verdict_by}
use Rattle.ss_report.specs.Verdict.{is_clean_ending, is_clean_tail, report_verdict, verdict_of}
use Rattle.ss_report.specs.declared.log.ending.Damage.{Damage}
use Rattle.ss_report.specs.declared.log.ending.Ending.{Ending}
use Rattle.ss_report.specs.VerdictLaws.{is_complete, is_nothing_short, verdict_where, VerdictsAreOfReports}

-- ---- the lines of a report

settled_entries : (s : Session) (g : Group) (es : List Entry) → list_all is_settled (map (entry_line s g) es) ≡ list_all is_listed es
settled_entries s g [] = refl
settled_entries s g (entry.Listed number place ∷ es) = settled_entries s g es
settled_entries s g (entry.Gap number why ∷ es) = refl
settled_entries s g (entry.Hole first last ∷ es) = refl

abbrev are_listed : GroupReport → Bool
are_listed g = list_all is_listed g.entries

settled_groups : (s : Session) (gs : List GroupReport) → list_all is_settled (flat_map (group_lines itemized s) gs) ≡ list_all are_listed gs
settled_groups s [] = refl
settled_groups s (g ∷ gs) =
    list_all-append is_settled (map (entry_line s g.group) g.entries) (flat_map (group_lines itemized s) gs)
    ∙ (λ i. settled_entries s g.group g.entries i && settled_groups s gs i)

abbrev is_whole : SessionReport → Bool
is_whole s = is_joined s.state && list_all are_listed s.groups

settled_session : (s : SessionReport) → list_all is_settled (session_lines itemized s) ≡ is_whole s
settled_session s = ap (λ b. is_joined s.state && b) (settled_groups s.session s.groups)

settled_sessions : (ss : List SessionReport) → list_all is_settled (flat_map (session_lines itemized) ss) ≡ list_all is_whole ss
settled_sessions [] = refl
settled_sessions (s ∷ ss) =
    list_all-append is_settled (session_lines itemized s) (flat_map (session_lines itemized) ss)
    ∙ (λ i. settled_session s i && settled_sessions ss i)

settled_unlisted : (ps : List ℕ) → list_all is_settled (map UnlistedLine ps) ≡ is_none ps
settled_unlisted [] = refl
settled_unlisted (p ∷ ps) = refl

settled_refused : (ps : List ℕ) → list_all is_settled (map RefusedLine ps) ≡ is_none ps
settled_refused [] = refl
settled_refused (p ∷ ps) = refl

settled_spoilt : (ps : List SpoiltPlace) → list_all is_settled (map spoilt_place_line ps) ≡ is_none ps
settled_spoilt [] = refl
settled_spoilt (p ∷ ps) = refl

settled_damaged : (ds : List Damage) → list_all is_settled (map damage_line ds) ≡ is_none ds
settled_damaged [] = refl
settled_damaged (d ∷ ds) = refl

settled_tail : (tail : Tail) (count : ℕ) → list_all is_settled (tail_lines tail ++ EndLine count ∷ []) ≡ is_clean_tail tail
settled_tail tails.Clean count = refl
settled_tail (tails.Torn pos) count = refl

settled_end : (ending : Ending) (count : ℕ) → list_all is_settled (ending_lines listings.Itemized ending ++ EndLine count ∷ []) ≡ is_clean_ending ending
settled_end ending count =
    ap (list_all is_settled) (append_assoc (map damage_line ending.damaged) (tail_lines ending.tail) (EndLine count ∷ []))
    ∙ list_all-append is_settled (map damage_line ending.damaged) (tail_lines ending.tail ++ EndLine count ∷ [])
    ∙ (λ i. settled_damaged ending.damaged i && settled_tail ending.tail count i)

settled_single : (r : Report) → list_all is_settled (single_lines listings.Itemized r) ≡ ((is_none r.unlisted && is_none r.refused) && is_none r.spoilt)
unfolding single_lines
settled_single r =
    list_all-append is_settled (map UnlistedLine r.unlisted ++ map RefusedLine r.refused) (map spoilt_place_line r.spoilt)
    ∙ (λ i. list_all-append is_settled (map UnlistedLine r.unlisted) (map RefusedLine r.refused) i && settled_spoilt r.spoilt i)
    ∙ (λ i. (settled_unlisted r.unlisted i && settled_refused r.refused i) && is_none r.spoilt)

settled_others : (r : Report) (ending : Ending) → list_all is_settled (other_lines itemized r ending) ≡ (((is_none r.unlisted && is_none r.refused) && is_none r.spoilt) && is_clean_ending ending)
unfolding other_lines
settled_others r ending =
    list_all-append is_settled (single_lines listings.Itemized r) (ending_lines listings.Itemized ending ++ EndLine r.count ∷ [])
    ∙ (λ i. settled_single r i && settled_end ending r.count i)

settled_lines : (r : Report) (ending : Ending)
    → list_all is_settled (lines itemized r ending) ≡ (list_all is_whole r.sessions && (((is_none r.unlisted && is_none r.refused) && is_none r.spoilt) && is_clean_ending ending))
unfolding lines
settled_lines r ending =
    list_all-append is_settled (flat_map (session_lines itemized) r.sessions) (other_lines itemized r ending)
    ∙ (λ i. settled_sessions r.sessions i && settled_others r ending i)

verdict_by : (w u r s : Bool) (ending : Ending) → verdict_of (w && (((u && r) && s) && is_clean_ending ending)) ≡ verdict_where (w && u && r && s) ending
verdict_by false u r s ending = refl
verdict_by true false r s ending = refl
verdict_by true true false s ending = refl
verdict_by true true true false ending = refl
verdict_by true true true true ending = refl

plain : (r : Report) (ending : Ending) → report_verdict r ending ≡ verdict_where (is_clean r) ending
unfolding is_clean
plain r ending =
    ap verdict_of (settled_lines r ending)
    ∙ verdict_by (list_all is_whole r.sessions) (is_none r.unlisted) (is_none r.refused) (is_none r.spoilt) ending

-- ---- what is missing beside it

settled_tails : (s : Session) (ts : List GroupTail) → list_all is_settled (map (tail_line s) ts) ≡ is_none ts
settled_tails s [] = refl
settled_tails s (t ∷ ts) = refl

settled_missing : (s : Session) (rs : List MissingRun) → list_all is_settled (map (missing_line s) rs) ≡ is_none rs
settled_missing s [] = refl
settled_missing s (r ∷ rs) = refl

settled_short : (f : Shortfall) → list_all is_settled (shortfall_lines f) ≡ is_complete f
settled_short f =
    list_all-append is_settled (map (tail_line f.session) f.tails) (map (missing_line f.session) f.blocks)
    ∙ (λ i. settled_tails f.session f.tails i && settled_missing f.session f.blocks i)

both_by : (a b c d : Bool) → ((a && b) && (c && d)) ≡ ((a && c) && (b && d))
both_by false b c d = refl
both_by true true c d = refl
both_by true false true d = refl
both_by true false false d = refl

settled_night : (s : SessionReport) (f : Shortfall) → list_all is_settled (lines_of_night itemized None None (s, f)) ≡ (is_whole s && is_complete f)
unfolding beyond
settled_night s f =
    let own = session_lines itemized s in
    ap (λ ls. list_all is_settled (ls ++ shortfall_lines f)) (append-nil (own ++ []) ∙ append-nil own)
    ∙ list_all-append is_settled own (shortfall_lines f)
    ∙ (λ i. settled_session s i && settled_short f i)

settled_nights : (ss : List SessionReport) (fs : List Shortfall) → length ss ≡ length fs
    → list_all is_settled (flat_map (lines_of_night itemized None None) (zip ss fs)) ≡ (list_all is_whole ss && list_all is_complete fs)
settled_nights [] [] e = refl
settled_nights [] (f ∷ fs) e = absurd (omega (arith, e))
settled_nights (s ∷ ss) [] e = absurd (omega (arith, e))
settled_nights (s ∷ ss) (f ∷ fs) e =
    list_all-append is_settled (lines_of_night itemized None None (s, f)) (flat_map (lines_of_night itemized None None) (zip ss fs))
    ∙ (λ i. settled_night s f i && settled_nights ss fs (omega (arith, e)) i)
    ∙ both_by (is_whole s) (is_complete f) (list_all is_whole ss) (list_all is_complete fs)

settled_absent : (fs : List Shortfall) → list_all is_settled (flat_map absent_lines fs) ≡ is_none fs
settled_absent [] = refl
settled_absent (f ∷ fs) = refl

settled_whole : (r : Report) (short : LogShortfalls) (ending : Ending) → length r.sessions ≡ length short.known
    → list_all is_settled (lines_between itemized None None r short ending)
    ≡ (((list_all is_whole r.sessions && list_all is_complete short.known) && is_none short.absent) && (((is_none r.unlisted && is_none r.refused) && is_none r.spoilt) && is_clean_ending ending))
unfolding lines_between
settled_whole r short ending e =
    let known = flat_map (lines_of_night itemized None None) (zip r.sessions short.known) in
    list_all-append is_settled (known ++ flat_map absent_lines short.absent) (other_lines itemized r ending)
    ∙ (λ i. list_all-append is_settled known (flat_map absent_lines short.absent) i && settled_others r ending i)
    ∙ (λ i. (settled_nights r.sessions short.known e i && settled_absent short.absent i) && (((is_none r.unlisted && is_none r.refused) && is_none r.spoilt) && is_clean_ending ending))

whole_by : (w u r s k a : Bool) (ending : Ending)
    → verdict_of (((w && k) && a) && (((u && r) && s) && is_clean_ending ending)) ≡ verdict_where ((w && u && r && s) && (k && a)) ending
whole_by false u r s k a ending = refl
whole_by true false r s false a ending = refl
whole_by true true false s false a ending = refl
whole_by true true true false false a ending = refl
whole_by true true true true false a ending = refl
whole_by true false r s true false ending = refl
whole_by true false r s true true ending = refl
whole_by true true false s true false ending = refl
whole_by true true false s true true ending = refl
whole_by true true true false true false ending = refl
whole_by true true true false true true ending = refl
whole_by true true true true true false ending = refl
whole_by true true true true true true ending = refl

-- a report and what is missing beside it have as many sessions, which are those of the blocks
as_many_of : (says : Answers) (counters : List Counter) (log : Contents)
    → length (report_of says log).sessions ≡ length (log_shortfalls counters (report_of says log).sessions (counted_sessions says log.blocks)).known
unfolding report_of log_shortfalls
as_many_of says counters log =
    let bs = log.blocks in
    let ss = (report_of says log).sessions in
    let cs = counted_sessions says bs in
    let of_report : length ss ≡ length (sessions bs) = length-map (sessions bs) _ in
    let of_counted : length cs ≡ length (sessions bs) = length-map (sessions bs) (counted_session says bs) in
    let of_known : length (map (shortfall_beside counters) (zip ss cs)) ≡ length (zip ss cs) = length-map (zip ss cs) (shortfall_beside counters) in
    omega (arith, of_report, of_counted, of_known, length-zip ss cs)

as_many : (known : Option (List (List ℕ))) (says : Answers) (counters : List Counter) (log : List (List ℕ))
    → length (report_by known says (contents (notes log))).sessions ≡ length (shortfalls_by known says log counters).known
as_many None says counters log = as_many_of says counters (contents (notes log))
as_many (Some ps) says counters log = as_many_of says counters (pinned_contents says ps (contents (notes log)))

whole : (known : Option (List (List ℕ))) (says : Answers) (counters : List Counter) (log : List (List ℕ)) (ending : Ending)
    → whole_verdict_by known says counters log ending ≡ verdict_where (is_clean (report_by known says (contents (notes log))) && is_nothing_short (shortfalls_by known says log counters)) ending
unfolding is_clean
whole known says counters log ending =
    let r = report_by known says (contents (notes log)) in
    let short = shortfalls_by known says log counters in
    ap verdict_of (settled_whole r short ending (as_many known says counters log))
    ∙ whole_by (list_all is_whole r.sessions) (is_none r.unlisted) (is_none r.refused) (is_none r.spoilt) (list_all is_complete short.known) (is_none short.absent) ending

pub verdicts_are_of_reports : VerdictsAreOfReports
verdicts_are_of_reports = record { plain = plain; whole = whole }
