-- What the lines of a report leave in their visitors.
use Rattle.std.proofs.Common.{◌≡◌, ℕ, Bool, true, false, List, [], ◌∷◌, ◌++◌, ◌&&◌, map, flat_map, filter_map, refl, sym, ap, ◌∙◌, subst, append-nil, append_assoc}
use Rattle.std.specs.List.{list_all, cons_option}
use Rattle.std.proofs.lemmas.List.Elements.{filter_map-append}
use Rattle.ss_frame.specs.Watched.{Sink}
use Rattle.ss_frame.specs.declared.step.Tail.{Tail}
use Rattle.ss_frame.specs.declared.step.Tail.TheVariants as tails
use Rattle.ss_block.specs.declared.session.Session.{Session}
use Rattle.ss_block.specs.declared.block.Group.{Group}
use Rattle.ss_review.specs.declared.keep.spoilt.SpoiltPlace.{SpoiltPlace}
use Rattle.ss_review.specs.declared.report.entry.Entry.{Entry}
use Rattle.ss_review.specs.declared.report.entry.Entry.TheVariants as entry
use Rattle.ss_review.specs.declared.report.group_report.GroupReport.{GroupReport}
use Rattle.ss_review.specs.declared.report.session_report.SessionReport.{SessionReport}
use Rattle.ss_review.specs.declared.report.report.Report.{Report}
use Rattle.ss_review.specs.report.Extract.{place_listed, listed_places}
use Rattle.ss_report.specs.declared.lines.detail.Listing.TheVariants as listings
use Rattle.ss_report.specs.declared.lines.listed.PlacesSoFar.{PlacesSoFar}
use Rattle.ss_report.specs.log.Writing.{Writes}
use Rattle.ss_report.specs.lines.Lines.{ReportLine, UnlistedLine, RefusedLine, EndLine, itemized, entry_line, group_lines, session_lines, damage_line, ending_lines, spoilt_place_line, tail_lines, single_lines, other_lines, lines}
use Rattle.ss_report.specs.lines.Taken.{TakesAll}
use Rattle.ss_report.specs.lines.Listed.{place_in, KeepsPlace}
use Rattle.ss_report.proofs.of_writing.Writings.{writes_nothing, writes_then}
use Rattle.ss_report.specs.declared.log.ending.Damage.{Damage}
use Rattle.ss_report.specs.declared.log.ending.Ending.{Ending}

-- ---- a writer: their octets

pub all_written : {S : Type 0} (sink : S → Sink) (text : ReportLine → List ℕ) (a b : S) (ls : List ReportLine)
    → TakesAll (λ before after line. Writes (sink before) (sink after) (text line)) a b ls → Writes (sink a) (sink b) (flat_map text ls)
all_written sink text a b [] taken = subst (λ s. Writes (sink a) (sink s) []) (sym taken) (writes_nothing (sink a))
all_written sink text a b (line ∷ ls) taken =
    writes_then (sink a) (sink taken.0) (sink b) (text line) (flat_map text ls) taken.1 (all_written sink text taken.0 b ls taken.2)

-- ---- a truth: whether all are settled

and_assoc : (a b c : Bool) → ((a && b) && c) ≡ (a && (b && c))
and_assoc true b c = refl
and_assoc false b c = refl

and_true : (a : Bool) → (a && true) ≡ a
and_true true = refl
and_true false = refl

module _ (settled : ReportLine → Bool) where
  settled_from : (a b : Bool) (ls : List ReportLine) → TakesAll (λ before after line. after ≡ (before && settled line)) a b ls → b ≡ (a && list_all settled ls)
  settled_from a b [] taken = taken ∙ sym (and_true a)
  settled_from a b (line ∷ ls) taken =
      settled_from taken.0 b ls taken.2 ∙ ap (λ s. s && list_all settled ls) taken.1 ∙ and_assoc a (settled line) (list_all settled ls)

  pub all_settled : (b : Bool) (ls : List ReportLine) → TakesAll (λ before after line. after ≡ (before && settled line)) true b ls → b ≡ list_all settled ls
  all_settled b ls taken = settled_from true b ls taken

-- ---- places

kept_from : (a b : PlacesSoFar) (ls : List ReportLine) → TakesAll KeepsPlace a b ls → b.failed ≡ false → (a.failed ≡ false) × (b.places.items ≡ a.places.items ++ filter_map place_in ls)
kept_from a b [] taken ready =
    (ap (λ (s : PlacesSoFar). s.failed) (sym taken) ∙ ready, ap (λ (s : PlacesSoFar). s.places.items) taken ∙ sym (append-nil a.places.items))
kept_from a b (line ∷ ls) taken ready =
    let later = kept_from taken.0 b ls taken.2 ready in
    let first = taken.1 later.0 in (
      first.0,
      later.1 ∙ ap (λ xs. xs ++ filter_map place_in ls) first.1 ∙ append_assoc a.places.items (cons_option (place_in line) []) (filter_map place_in ls)
          ∙ ap (λ xs. a.places.items ++ xs) (sym (filter_map-append place_in (line ∷ []) ls)),
    )

-- of the lines of entries
of_entries : (s : Session) (g : Group) (es : List Entry) → filter_map place_in (map (entry_line s g) es) ≡ filter_map place_listed es
of_entries s g [] = refl
of_entries s g (entry.Listed number place ∷ es) = ap (λ xs. place ∷ xs) (of_entries s g es)
of_entries s g (entry.Gap number why ∷ es) = of_entries s g es
of_entries s g (entry.Hole first last ∷ es) = of_entries s g es

of_groups : (s : Session) (gs : List GroupReport) → filter_map place_in (flat_map (group_lines itemized s) gs) ≡ flat_map (λ g. filter_map place_listed g.entries) gs
of_groups s [] = refl
of_groups s (g ∷ gs) =
    filter_map-append place_in (map (entry_line s g.group) g.entries) (flat_map (group_lines itemized s) gs)
    ∙ (λ i. of_entries s g.group g.entries i ++ of_groups s gs i)

of_sessions : (ss : List SessionReport) → filter_map place_in (flat_map (session_lines itemized) ss) ≡ flat_map (λ s. flat_map (λ g. filter_map place_listed g.entries) s.groups) ss
of_sessions [] = refl
of_sessions (s ∷ ss) =
    filter_map-append place_in (flat_map (group_lines itemized s.session) s.groups) (flat_map (session_lines itemized) ss)
    ∙ (λ i. of_groups s.session s.groups i ++ of_sessions ss i)

none_unlisted : (ps : List ℕ) → filter_map place_in (map UnlistedLine ps) ≡ []
none_unlisted [] = refl
none_unlisted (p ∷ ps) = none_unlisted ps

none_refused : (ps : List ℕ) → filter_map place_in (map RefusedLine ps) ≡ []
none_refused [] = refl
none_refused (p ∷ ps) = none_refused ps

none_spoilt : (ps : List SpoiltPlace) → filter_map place_in (map spoilt_place_line ps) ≡ []
none_spoilt [] = refl
none_spoilt (p ∷ ps) = none_spoilt ps

none_damaged : (ds : List Damage) → filter_map place_in (map damage_line ds) ≡ []
none_damaged [] = refl
none_damaged (d ∷ ds) = none_damaged ds

none_at_tail : (tail : Tail) (count : ℕ) → filter_map place_in (tail_lines tail ++ EndLine count ∷ []) ≡ []
none_at_tail tails.Clean count = refl
none_at_tail (tails.Torn pos) count = refl

none_at_end : (ending : Ending) (count : ℕ) → filter_map place_in (ending_lines listings.Itemized ending ++ EndLine count ∷ []) ≡ []
none_at_end ending count =
    ap (filter_map place_in) (append_assoc (map damage_line ending.damaged) (tail_lines ending.tail) (EndLine count ∷ []))
    ∙ filter_map-append place_in (map damage_line ending.damaged) (tail_lines ending.tail ++ EndLine count ∷ [])
    ∙ (λ i. none_damaged ending.damaged i ++ none_at_tail ending.tail count i)

none_single : (r : Report) → filter_map place_in (single_lines listings.Itemized r) ≡ []
unfolding single_lines
none_single r =
    filter_map-append place_in (map UnlistedLine r.unlisted ++ map RefusedLine r.refused) (map spoilt_place_line r.spoilt)
    ∙ (λ i. filter_map-append place_in (map UnlistedLine r.unlisted) (map RefusedLine r.refused) i ++ none_spoilt r.spoilt i)
    ∙ (λ i. (none_unlisted r.unlisted i ++ none_refused r.refused i) ++ [])

none_behind : (r : Report) (ending : Ending) → filter_map place_in (other_lines itemized r ending) ≡ []
unfolding other_lines
none_behind r ending =
    filter_map-append place_in (single_lines listings.Itemized r) (ending_lines listings.Itemized ending ++ EndLine r.count ∷ [])
    ∙ (λ i. none_single r i ++ none_at_end ending r.count i)

-- the lines of a report list its messages
pub places_in_lines : (r : Report) (ending : Ending) → filter_map place_in (lines itemized r ending) ≡ listed_places r
unfolding lines
places_in_lines r ending =
    filter_map-append place_in (flat_map (session_lines itemized) r.sessions) (other_lines itemized r ending)
    ∙ (λ i. of_sessions r.sessions i ++ none_behind r ending i)
    ∙ append-nil (listed_places r)

pub all_kept : (a b : PlacesSoFar) (r : Report) (ending : Ending) → TakesAll KeepsPlace a b (lines itemized r ending) → b.failed ≡ false → a.places.items ≡ [] → b.places.items ≡ listed_places r
all_kept a b r ending taken ready none =
    (kept_from a b (lines itemized r ending) taken ready).1 ∙ ap (λ xs. xs ++ filter_map place_in (lines itemized r ending)) none ∙ places_in_lines r ending
