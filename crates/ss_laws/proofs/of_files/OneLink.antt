-- A file has one link at most, because its octets have one reading, and a report lists a number once.
use Rattle.std.proofs.Common.{◌≡◌, ℕ, List, sym, ap, ◌∙◌, subst}
use Rattle.std.specs.Prelude.{Option, Some, None, slice_get}
use Rattle.std.specs.List.{Contains}
use Rattle.std.proofs.lemmas.Option.{same_Some}
use Rattle.ss_block.specs.declared.session.Session.{Session}
use Rattle.ss_frame.specs.Laws.{OneReading}
use Rattle.ss_review.specs.Laws.{ReportsListWhatIsAnnounced}
use Rattle.ss_review.specs.announced.Announced.{Key}
use Rattle.ss_review.specs.declared.report.report.Report.{Report}
use Rattle.ss_review.specs.keep.Contents.{contents}
use Rattle.ss_review.specs.keep.Notes.{notes}
use Rattle.ss_review.specs.pinned.Pinned.{report_by, pinned_report}
use Rattle.ss_review.specs.pinned.Stands.{PinnedReportsAreOfLogs}
use Rattle.ss_review.specs.report.Meaning.{IsListed}
use Rattle.ss_review.specs.report.Report.{report}
use Rattle.ss_review.specs.sessions.Verified.{Answers}
use Rattle.ss_laws.specs.files.ChainLaws.{LinksAreOne}
use Rattle.ss_laws.specs.files.Links.{report_on, Joins, first_number}

-- what is listed is a matter of the sessions of a report
listed_alike : (r q : Report) (k : Key) (place : ℕ) → r.sessions ≡ q.sessions → IsListed r k place
    → IsListed q k place
listed_alike r q k place e t = record {
  session = t.session;
  session_told = subst (λ ts. Contains ts t.session) e t.session_told;
  session_is = t.session_is;
  group = t.group;
  group_told = t.group_told;
  group_is = t.group_is;
  entry_told = t.entry_told;
}

module _ (reading : OneReading) (lists : ReportsListWhatIsAnnounced) (pinned : PinnedReportsAreOfLogs) where
  place_once : (known : Option (List (List ℕ))) (says : Answers) (log : List (List ℕ)) (k : Key) (place other : ℕ)
      → IsListed (report_by known says (contents (notes log))) k place
      → IsListed (report_by known says (contents (notes log))) k other → place ≡ other
  place_once None says log k place other p o = (lists says log).number_once k place other p o
  place_once (Some ps) says log k place other p o =
      let w = pinned says ps log in
      let same = sym w.1.sessions in
      let alike = listed_alike (pinned_report says ps (contents (notes log))) (report says w.0) k in
      (lists says w.0).number_once k place other (alike place same p) (alike other same o)

  pub links_are_one : LinksAreOne
  links_are_one c octets link other h g =
      let logs : g.log ≡ h.log = (reading c.limits octets g.log h.log g.end h.end h.in_range g.read h.read).0 in
      let joined : Joins (report_on c octets h.log) g.session
      = subst (λ log. Joins (report_on c octets log) g.session) logs g.joined in
      let listed : IsListed (report_on c octets h.log) (first_number g.session) g.place
      = subst (λ log. IsListed (report_on c octets log) (first_number g.session) g.place) logs g.listed in
      let own_listed : IsListed (report_on c octets h.log) (first_number h.session) g.place
      = subst (λ (s : Session). IsListed (report_on c octets h.log) (first_number s) g.place)
      (h.no_other g.session joined) listed in
      let places : h.place ≡ g.place
      = place_once (c.known octets) (c.says octets) h.log (first_number h.session) h.place g.place h.listed own_listed in
      same_Some link other
      (sym h.link_is ∙ ap (slice_get h.log) places ∙ ap (λ (log : List (List ℕ)). slice_get log g.place) (sym logs) ∙ g.link_is)
