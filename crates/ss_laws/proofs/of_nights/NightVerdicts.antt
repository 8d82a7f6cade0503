-- The verdict of a review between counters is clean exactly if its night is.
use Rattle.std.proofs.Common.{◌≡◌, ℕ, Bool, true, false, List, [], ◌∷◌, ◌++◌, ◌&&◌, map, flat_map, refl, sym, ap, ◌∙◌, subst, append_assoc}
use Rattle.std.specs.Prelude.{Option, Some, None}
use Rattle.std.specs.List.{list_all, zip}
use Rattle.std.proofs.lemmas.Bool.{and_parts, and_from}
use Rattle.std.proofs.lemmas.List.Elements.{All-contains, All-from_recursion}
use Rattle.std.proofs.lemmas.List.Folds.{list_all-append}
use Rattle.ss_frame.specs.declared.step.Tail.{Tail}
use Rattle.ss_frame.specs.declared.step.Tail.TheVariants as tails
use Rattle.ss_block.specs.declared.block.Group.{Group}
use Rattle.ss_block.specs.declared.session.Session.{Session}
use Rattle.ss_review.specs.declared.counted.counter.Counter.{Counter}
use Rattle.ss_review.specs.declared.counted.missing.MissingRun.{MissingRun}
use Rattle.ss_review.specs.declared.counted.shortfall.GroupTail.{GroupTail}
use Rattle.ss_review.specs.declared.counted.shortfall.LogShortfalls.{LogShortfalls}
use Rattle.ss_review.specs.declared.counted.shortfall.Shortfall.{Shortfall}
use Rattle.ss_review.specs.declared.keep.spoilt.SpoiltPlace.{SpoiltPlace}
use Rattle.ss_review.specs.declared.report.entry.Entry.{Entry}
use Rattle.ss_review.specs.declared.report.entry.Entry.TheVariants as entry
use Rattle.ss_review.specs.declared.report.group_report.GroupReport.{GroupReport}
use Rattle.ss_review.specs.declared.report.report.Report.{Report}
use Rattle.ss_review.specs.declared.report.session_report.SessionReport.{SessionReport}
use Rattle.ss_review.specs.pinned.Stands.{shortfalls_by}
use Rattle.ss_review.specs.report.Verdict.{is_clean, is_joined, is_listed, is_none}
use Rattle.ss_review.specs.sessions.Verified.{Answers}
use Rattle.ss_between.specs.Between.{NumberRun, SessionBetween, session_between, absent_left}
use Rattle.ss_report.specs.declared.lines.detail.Listing.TheVariants as listings
use Rattle.ss_report.specs.declared.verdict.verdict.Verdict.TheVariants as verdicts
use Rattle.ss_report.specs.lines.Lines.{itemized, UnlistedLine, RefusedLine, EndLine, entry_line, group_lines, session_lines, damage_line, ending_lines, spoilt_place_line, tail_lines, single_lines, other_lines}
use Rattle.ss_report.specs.lines.Settled.{is_settled}
use Rattle.ss_report.specs.lines.Whole.{absent_lines, missing_line, shortfall_lines, tail_line}
use Rattle.ss_report.specs.lines.Between as between
use Rattle.ss_report.specs.lines.Between.{early_line, beyond_line, night_lines, lines_of_night, lines_between}
use Rattle.ss_report.specs.Verdict.{is_clean_ending, is_clean_tail, verdict_of}
use Rattle.ss_report.specs.declared.log.ending.Damage.{Damage}
use Rattle.ss_report.specs.declared.log.ending.Ending.{Ending}
use Rattle.ss_laws.specs.nights.Night.{NightReport, end_counters, log_report, night_by}
use Rattle.ss_laws.specs.nights.CleanLaws.{IsCleanNight}
use Rattle.ss_laws.specs.nights.VerdictLaws.{verdict_between, VerdictsAreOfNights}
use Rattle.ss_octets.proofs.Members.{Has, has-map, contains_from_has, from_has-map}
use Rattle.ss_review.proofs.of_lists.Rising.{all_below}
use Rattle.ss_review.proofs.of_lists.Tests.{all_member, member_all}
use Rattle.ss_laws.proofs.of_nights.Left.{none_is}

-- ---- the lines of one session

settled_entries : (s : Session) (g : Group) (es : List Entry) → list_all is_settled (map (entry_line s g) es) ≡ list_all is_listed es
settled_entries s g [] = refl
settled_entries s g (entry.Listed number place ∷ es) = settled_entries s g es
settled_entries s g (entry.Gap number why ∷ es) = refl
settled_entries s g (entry.Hole first last ∷ es) = refl

abbrev are_listed : GroupReport → Bool
are_listed g = list_all is_listed g.entries

settled_groups : (s : Session) (gs : List GroupReport) → list_all is_settled (flat_map (group_lines itemized s) gs) ≡ list_all are_listed gs
settled_groups s [] = refl
settled_groups s (g ∷ gs) =
    list_all-append is_settled (map (entry_line s g.group) g.entries) (flat_map (group_lines itemized s) gs)
    ∙ (λ i. settled_entries s g.group g.entries i && settled_groups s gs i)

abbrev is_whole : SessionReport → Bool
is_whole s = is_joined s.state && list_all are_listed s.groups

settled_session : (s : SessionReport) → list_all is_settled (session_lines itemized s) ≡ is_whole s
settled_session s = ap (λ b. is_joined s.state && b) (settled_groups s.session s.groups)

settled_early : (s : Session) (rs : List NumberRun) → list_all is_settled (map (early_line s) rs) ≡ is_none rs
settled_early s [] = refl
settled_early s (r ∷ rs) = refl

settled_beyond : (s : Session) (rs : List NumberRun) → list_all is_settled (map (beyond_line s) rs) ≡ is_none rs
settled_beyond s [] = refl
settled_beyond s (r ∷ rs) = refl

settled_tails : (s : Session) (ts : List GroupTail) → list_all is_settled (map (tail_line s) ts) ≡ is_none ts
settled_tails s [] = refl
settled_tails s (t ∷ ts) = refl

settled_missing : (s : Session) (rs : List MissingRun) → list_all is_settled (map (missing_line s) rs) ≡ is_none rs
settled_missing s [] = refl
settled_missing s (r ∷ rs) = refl

settled_short : (f : Shortfall) → list_all is_settled (shortfall_lines f) ≡ (is_none f.tails && is_none f.blocks)
settled_short f =
    list_all-append is_settled (map (tail_line f.session) f.tails) (map (missing_line f.session) f.blocks)
    ∙ (λ i. settled_tails f.session f.tails i && settled_missing f.session f.blocks i)

abbrev is_settled_night : SessionBetween → Bool
is_settled_night b = ((is_whole b.report && is_none b.early) && is_none b.beyond) && (is_none b.short.tails && is_none b.short.blocks)

settled_night : (b : SessionBetween) → list_all is_settled (night_lines itemized b) ≡ is_settled_night b
settled_night b =
    let s = b.report.session in
    let own = session_lines itemized b.report in
    let early = map (early_line s) b.early in
    let beyond = map (beyond_line s) b.beyond in
    list_all-append is_settled ((own ++ early) ++ beyond) (shortfall_lines b.short)
    ∙ (λ i. list_all-append is_settled (own ++ early) beyond i && settled_short b.short i)
    ∙ (λ i. (list_all-append is_settled own early i && settled_beyond s b.beyond i) && (is_none b.short.tails && is_none b.short.blocks))
    ∙ (λ i. ((settled_session b.report i && settled_early s b.early i) && is_none b.beyond) && (is_none b.short.tails && is_none b.short.blocks))

settled_nights : (first : List Counter) (second : Option (List Counter)) (ps : List (SessionReport × Shortfall))
    → list_all is_settled (flat_map (lines_of_night itemized (Some first) second) ps) ≡ list_all is_settled_night (map (session_between first second) ps)
settled_nights first second [] = refl
settled_nights first second (p ∷ ps) =
    list_all-append is_settled (lines_of_night itemized (Some first) second p) (flat_map (lines_of_night itemized (Some first) second) ps)
    ∙ (λ i. settled_night (session_between first second p) i && settled_nights first second ps i)

-- ---- the other lines

settled_absent : (fs : List Shortfall) → list_all is_settled (flat_map absent_lines fs) ≡ is_none fs
settled_absent [] = refl
settled_absent (f ∷ fs) = refl

settled_unlisted : (ps : List ℕ) → list_all is_settled (map UnlistedLine ps) ≡ is_none ps
settled_unlisted [] = refl
settled_unlisted (p ∷ ps) = refl

settled_refused : (ps : List ℕ) → list_all is_settled (map RefusedLine ps) ≡ is_none ps
settled_refused [] = refl
settled_refused (p ∷ ps) = refl

settled_spoilt : (ps : List SpoiltPlace) → list_all is_settled (map spoilt_place_line ps) ≡ is_none ps
settled_spoilt [] = refl
settled_spoilt (p ∷ ps) = refl

settled_damaged : (ds : List Damage) → list_all is_settled (map damage_line ds) ≡ is_none ds
settled_damaged [] = refl
settled_damaged (d ∷ ds) = refl

settled_tail : (tail : Tail) (count : ℕ) → list_all is_settled (tail_lines tail ++ EndLine count ∷ []) ≡ is_clean_tail tail
settled_tail tails.Clean count = refl
settled_tail (tails.Torn pos) count = refl

settled_end : (ending : Ending) (count : ℕ) → list_all is_settled (ending_lines listings.Itemized ending ++ EndLine count ∷ []) ≡ is_clean_ending ending
settled_end ending count =
    ap (list_all is_settled) (append_assoc (map damage_line ending.damaged) (tail_lines ending.tail) (EndLine count ∷ []))
    ∙ list_all-append is_settled (map damage_line ending.damaged) (tail_lines ending.tail ++ EndLine count ∷ [])
    ∙ (λ i. settled_damaged ending.damaged i && settled_tail ending.tail count i)

abbrev is_settled_rest : Report → Ending → Bool
is_settled_rest r ending = ((is_none r.unlisted && is_none r.refused) && is_none r.spoilt) && is_clean_ending ending

settled_single : (r : Report) → list_all is_settled (single_lines listings.Itemized r) ≡ ((is_none r.unlisted && is_none r.refused) && is_none r.spoilt)
unfolding single_lines
settled_single r =
    list_all-append is_settled (map UnlistedLine r.unlisted ++ map RefusedLine r.refused) (map spoilt_place_line r.spoilt)
    ∙ (λ i. list_all-append is_settled (map UnlistedLine r.unlisted) (map RefusedLine r.refused) i && settled_spoilt r.spoilt i)
    ∙ (λ i. (settled_unlisted r.unlisted i && settled_refused r.refused i) && is_none r.spoilt)

settled_others : (r : Report) (ending : Ending) → list_all is_settled (other_lines itemized r ending) ≡ is_settled_rest r ending
unfolding other_lines
settled_others r ending =
    list_all-append is_settled (single_lines listings.Itemized r) (ending_lines listings.Itemized ending ++ EndLine r.count ∷ [])
    ∙ (λ i. settled_single r i && settled_end ending r.count i)

settled_all : (first : List Counter) (second : Option (List Counter)) (r : Report) (short : LogShortfalls) (ending : Ending)
    → list_all is_settled (lines_between itemized (Some first) second r short ending)
    ≡ ((list_all is_settled_night (map (session_between first second) (zip r.sessions short.known)) && is_none (absent_left first short.absent)) && is_settled_rest r ending)
unfolding lines_between
settled_all first second r short ending =
    let nights = flat_map (lines_of_night itemized (Some first) second) (zip r.sessions short.known) in
    let absent = flat_map absent_lines (absent_left first short.absent) in
    list_all-append is_settled (nights ++ absent) (other_lines itemized r ending)
    ∙ (λ i. list_all-append is_settled nights absent i && settled_others r ending i)
    ∙ (λ i. (settled_nights first second (zip r.sessions short.known) i && settled_absent (absent_left first short.absent) i) && is_settled_rest r ending)

-- ---- what it means that all lines are settled

is_none_of : {X : Type 0} (xs : List X) → xs ≡ [] → is_none xs ≡ true
is_none_of xs e = ap is_none e

clean_tail : (tail : Tail) → is_clean_tail tail ≡ true → tail ≡ tails.Clean
clean_tail tails.Clean e = refl
clean_tail (tails.Torn pos) e = absurd (let bad : false ≡ true = e in cc)

verdict_clean : (b : Bool) → verdict_of b ≡ verdicts.Clean → b ≡ true
verdict_clean true e = refl
verdict_clean false e = absurd (let bad : verdicts.Findings ≡ verdicts.Clean = e in cc)

module _ (r : Report) (n : NightReport) where
  abbrev nights : Bool
  nights = list_all is_settled_night n.sessions

  abbrev left : List SessionReport
  left = map (λ (b : SessionBetween). b.report) n.sessions

  abbrev shorts : List Shortfall
  shorts = map (λ (b : SessionBetween). b.short) n.sessions

  clean_from : nights ≡ true → is_none n.absent ≡ true → ((is_none r.unlisted && is_none r.refused) && is_none r.spoilt) ≡ true → IsCleanNight r n
  unfolding is_clean
  clean_from all no_absent rest =
      let none_spoilt = and_parts (is_none r.unlisted && is_none r.refused) (is_none r.spoilt) rest in
      let none_refused = and_parts (is_none r.unlisted) (is_none r.refused) none_spoilt.0 in
      let each : (b : SessionBetween) → Has n.sessions b → is_settled_night b ≡ true = λ b h. all_member is_settled_night n.sessions all b h in
      let outer : (b : SessionBetween) → Has n.sessions b → (((is_whole b.report && is_none b.early) && is_none b.beyond) ≡ true) × ((is_none b.short.tails && is_none b.short.blocks) ≡ true)
      = λ b h. and_parts ((is_whole b.report && is_none b.early) && is_none b.beyond) (is_none b.short.tails && is_none b.short.blocks) (each b h) in
      let middle : (b : SessionBetween) → Has n.sessions b → ((is_whole b.report && is_none b.early) ≡ true) × (is_none b.beyond ≡ true)
      = λ b h. and_parts (is_whole b.report && is_none b.early) (is_none b.beyond) (outer b h).0 in
      let inner : (b : SessionBetween) → Has n.sessions b → (is_whole b.report ≡ true) × (is_none b.early ≡ true)
      = λ b h. and_parts (is_whole b.report) (is_none b.early) (middle b h).0 in
      let short : (b : SessionBetween) → Has n.sessions b → (is_none b.short.tails ≡ true) × (is_none b.short.blocks ≡ true)
      = λ b h. and_parts (is_none b.short.tails) (is_none b.short.blocks) (outer b h).1 in
      let whole : list_all is_whole left ≡ true
      = member_all is_whole left (λ s h. (let w = from_has-map (λ (b : SessionBetween). b.report) n.sessions s h in subst (λ x. is_whole x ≡ true) w.2 (inner w.0 w.1).0)) in
      record {
        clean = and_from (list_all is_whole left && is_none r.unlisted && is_none r.refused) (is_none r.spoilt) (and_from (list_all is_whole left && is_none r.unlisted) (is_none r.refused) (and_from (list_all is_whole left) (is_none r.unlisted) whole none_refused.0) none_refused.1) none_spoilt.1;
        nothing_missing = record {
          tails = All-from_recursion (λ (f : Shortfall). f.tails ≡ []) shorts (all_below (λ (f : Shortfall). f.tails ≡ []) shorts (λ f h.
              (let w = from_has-map (λ (b : SessionBetween). b.short) n.sessions f h in subst (λ (x : Shortfall). x.tails ≡ []) w.2 (none_is w.0.short.tails (short w.0 w.1).0))));
          blocks = All-from_recursion (λ (f : Shortfall). f.blocks ≡ []) shorts (all_below (λ (f : Shortfall). f.blocks ≡ []) shorts (λ f h.
              (let w = from_has-map (λ (b : SessionBetween). b.short) n.sessions f h in subst (λ (x : Shortfall). x.blocks ≡ []) w.2 (none_is w.0.short.blocks (short w.0 w.1).1))));
          sessions = none_is n.absent no_absent;
        };
        no_early = All-from_recursion (λ (b : SessionBetween). b.early ≡ []) n.sessions (all_below (λ (b : SessionBetween). b.early ≡ []) n.sessions (λ b h. none_is b.early (inner b h).1));
        no_beyond = All-from_recursion (λ (b : SessionBetween). b.beyond ≡ []) n.sessions (all_below (λ (b : SessionBetween). b.beyond ≡ []) n.sessions (λ b h. none_is b.beyond (middle b h).1));
      }

  clean_to : IsCleanNight r n → (nights ≡ true) × (is_none n.absent ≡ true) × (((is_none r.unlisted && is_none r.refused) && is_none r.spoilt) ≡ true)
  unfolding is_clean
  clean_to is =
      let third = and_parts (list_all is_whole left && is_none r.unlisted && is_none r.refused) (is_none r.spoilt) is.clean in
      let second = and_parts (list_all is_whole left && is_none r.unlisted) (is_none r.refused) third.0 in
      let both = and_parts (list_all is_whole left) (is_none r.unlisted) second.0 in
      let each : (b : SessionBetween) → Has n.sessions b → is_settled_night b ≡ true
      = λ b h.
      (let c = contains_from_has n.sessions b h in
      let mine = contains_from_has shorts b.short (has-map (λ (x : SessionBetween). x.short) n.sessions b h) in
      let whole : is_whole b.report ≡ true = all_member is_whole left both.0 b.report (has-map (λ (x : SessionBetween). x.report) n.sessions b h) in
      let early = is_none_of b.early (All-contains (λ (x : SessionBetween). x.early ≡ []) n.sessions b is.no_early c) in
      let beyond = is_none_of b.beyond (All-contains (λ (x : SessionBetween). x.beyond ≡ []) n.sessions b is.no_beyond c) in
      let tails_none = is_none_of b.short.tails (All-contains (λ (f : Shortfall). f.tails ≡ []) shorts b.short is.nothing_missing.tails mine) in
      let blocks_none = is_none_of b.short.blocks (All-contains (λ (f : Shortfall). f.blocks ≡ []) shorts b.short is.nothing_missing.blocks mine) in
      and_from ((is_whole b.report && is_none b.early) && is_none b.beyond) (is_none b.short.tails && is_none b.short.blocks)
      (and_from (is_whole b.report && is_none b.early) (is_none b.beyond) (and_from (is_whole b.report) (is_none b.early) whole early) beyond)
      (and_from (is_none b.short.tails) (is_none b.short.blocks) tails_none blocks_none)) in (
        member_all is_settled_night n.sessions each,
        is_none_of n.absent is.nothing_missing.sessions,
        and_from (is_none r.unlisted && is_none r.refused) (is_none r.spoilt) (and_from (is_none r.unlisted) (is_none r.refused) both.1 second.1) third.1,
      )

-- ---- of a log

same_end : (second : Option (List Counter)) → between.end_counters second ≡ end_counters second
same_end None = refl
same_end (Some cs) = refl

module _ (known : Option (List (List ℕ))) (says : Answers) (log : List (List ℕ)) (first : List Counter) (second : Option (List Counter)) (ending : Ending) where
  abbrev r : Report
  r = log_report known says log

  abbrev n : NightReport
  n = night_by known says log first second

  abbrev settled : Bool
  settled = (list_all is_settled_night n.sessions && is_none n.absent) && is_settled_rest r ending

  verdict_is : verdict_between known says first second log ending ≡ verdict_of settled
  unfolding night_by
  verdict_is =
      ap (λ cs. verdict_of (list_all is_settled (lines_between itemized (Some first) second r (shortfalls_by known says log cs) ending))) (same_end second)
      ∙ ap verdict_of (settled_all first second r (shortfalls_by known says log (end_counters second)) ending)

  there : verdict_between known says first second log ending ≡ verdicts.Clean → IsCleanNight r n × (ending.damaged ≡ []) × (ending.tail ≡ tails.Clean)
  there e =
      let all = verdict_clean settled (sym verdict_is ∙ e) in
      let outer = and_parts (list_all is_settled_night n.sessions && is_none n.absent) (is_settled_rest r ending) all in
      let front = and_parts (list_all is_settled_night n.sessions) (is_none n.absent) outer.0 in
      let rest = and_parts ((is_none r.unlisted && is_none r.refused) && is_none r.spoilt) (is_clean_ending ending) outer.1 in
      let both = and_parts (is_none ending.damaged) (is_clean_tail ending.tail) rest.1 in
      (clean_from r n front.0 front.1 rest.0, none_is ending.damaged both.0, clean_tail ending.tail both.1)

  back : IsCleanNight r n × (ending.damaged ≡ []) × (ending.tail ≡ tails.Clean) → verdict_between known says first second log ending ≡ verdicts.Clean
  back p =
      let c = clean_to r n p.0 in
      let front = and_from (list_all is_settled_night n.sessions) (is_none n.absent) c.0 c.1 in
      let both = and_from (is_none ending.damaged) (is_clean_tail ending.tail) (is_none_of ending.damaged p.1) (ap is_clean_tail p.2) in
      let rest = and_from ((is_none r.unlisted && is_none r.refused) && is_none r.spoilt) (is_clean_ending ending) c.2 both in
      let all : settled ≡ true = and_from (list_all is_settled_night n.sessions && is_none n.absent) (is_settled_rest r ending) front rest in
      verdict_is ∙ ap verdict_of all

pub verdicts_of_nights : VerdictsAreOfNights
verdicts_of_nights known says log first second ending = (there known says log first second ending, back known says log first second ending)
