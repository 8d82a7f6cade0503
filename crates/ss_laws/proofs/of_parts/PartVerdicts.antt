-- A whole is clean exactly where each of its parts is.
use Rattle.std.proofs.Common.{◌≡◌, inl, ℕ, ◌<◌, Bool, true, ◌&&◌, List, [], ◌∷◌, refl, arith}
use Rattle.std.specs.List.{list_all, range_with_len}
use Rattle.std.proofs.lemmas.Bool.{and_parts}
use Rattle.ss_review.specs.declared.keep.spoilt.SpoiltPlace.{SpoiltPlace}
use Rattle.ss_review.specs.declared.report.group_report.GroupReport.{GroupReport}
use Rattle.ss_review.specs.declared.report.session_report.SessionReport.{SessionReport}
use Rattle.ss_review.specs.declared.report.report.Report.{Report}
use Rattle.ss_review.specs.keep.Notes.{Note}
use Rattle.ss_review.specs.keep.Contents.{contents}
use Rattle.ss_review.specs.sessions.Verified.{Answers}
use Rattle.ss_review.specs.report.Report.{report_of}
use Rattle.ss_laws.specs.parts.Parts.{part_of, AreParts}
use Rattle.ss_review.specs.report.Verdict.{is_joined, is_listed, is_none, is_clean}
use Rattle.ss_octets.proofs.Members.{Has}
use Rattle.ss_review.proofs.of_lists.FilteredAlike.{one_test}
use Rattle.ss_laws.proofs.of_parts.PartReports.{own_report, session_there, session_back, unlisted_there, unlisted_back, refused_there, refused_back, spoilt_there, spoilt_back}
use Rattle.ss_review.proofs.of_lists.Tests.{all_member, member_all, in_range}

-- ---- a clean report, by membership

none_has : {X : Type 0} (xs : List X) (x : X) → is_none xs ≡ true → Has xs x → ⊥
none_has [] x e h = h
none_has (y ∷ ys) x e h = absurd (cc)

has_none : {X : Type 0} (xs : List X) → ((x : X) → Has xs x → ⊥) → is_none xs ≡ true
has_none [] f = refl
has_none (x ∷ xs) f = absurd (f x (inl refl))

abbrev is_clean_session : SessionReport → Bool
is_clean_session t = is_joined t.state && list_all (λ (g : GroupReport). list_all is_listed g.entries) t.groups

record IsClean (r : Report) : Type 0 where
  sessions : (t : SessionReport) → Has r.sessions t → is_clean_session t ≡ true
  unlisted : (p : ℕ) → Has r.unlisted p → ⊥
  refused : (p : ℕ) → Has r.refused p → ⊥
  spoilt : (s : SpoiltPlace) → Has r.spoilt s → ⊥

from_clean : (r : Report) → is_clean r ≡ true → IsClean r
unfolding is_clean
from_clean r e =
    let first = list_all is_clean_session r.sessions in
    let second = first && is_none r.unlisted in
    let third = second && is_none r.refused in
    let d = and_parts third (is_none r.spoilt) e in
    let c = and_parts second (is_none r.refused) d.0 in
    let b = and_parts first (is_none r.unlisted) c.0 in
    record {
      sessions = all_member is_clean_session r.sessions b.0;
      unlisted = λ p. none_has r.unlisted p b.1;
      refused = λ p. none_has r.refused p c.1;
      spoilt = λ s. none_has r.spoilt s d.1;
    }

to_clean : (r : Report) → IsClean r → is_clean r ≡ true
unfolding is_clean
to_clean r w =
    let first : list_all is_clean_session r.sessions ≡ true = member_all is_clean_session r.sessions w.sessions in
    let second : is_none r.unlisted ≡ true = has_none r.unlisted w.unlisted in
    let third : is_none r.refused ≡ true = has_none r.refused w.refused in
    let fourth : is_none r.spoilt ≡ true = has_none r.spoilt w.spoilt in
    λ i. first i && second i && third i && fourth i

-- ---- the parts

pub clean_where_parts_are : (says : Answers) (ns : List Note) (part : ℕ → ℕ) (parts : ℕ) → AreParts says (contents ns) part parts
    → is_clean (report_of says (contents ns)) ≡ list_all (λ k. is_clean (report_of says (part_of part k (contents ns)))) (range_with_len 0 parts)
clean_where_parts_are says ns part parts are = one_test (is_clean whole) (list_all is_clean_part (range_with_len 0 parts)) there back
  where
    whole : Report
    whole = report_of says (contents ns)

    is_clean_part : ℕ → Bool
    is_clean_part k = is_clean (own_report says ns part parts are k)

    there : is_clean whole ≡ true → list_all is_clean_part (range_with_len 0 parts) ≡ true
    there e =
        let w = from_clean whole e in
        member_all is_clean_part (range_with_len 0 parts) (λ k h.
        to_clean (own_report says ns part parts are k) (record {
          sessions = λ t i. w.sessions t (session_back says ns part parts are k t i);
          unlisted = λ p i. w.unlisted p (unlisted_back says ns part parts are k p i);
          refused = λ p i. w.refused p (refused_back says ns part parts are k p i);
          spoilt = λ s i. w.spoilt s (spoilt_back says ns part parts are k s i);
        }))

    back : list_all is_clean_part (range_with_len 0 parts) ≡ true → is_clean whole ≡ true
    back e = to_clean whole (record {
      sessions = λ t i. (let v = session_there says ns part parts are t i in (part_clean v.0 v.1).sessions t v.2);
      unlisted = λ p i. (let v = unlisted_there says ns part parts are p i in (part_clean v.0 v.1).unlisted p v.2);
      refused = λ p i. (let v = refused_there says ns part parts are p i in (part_clean v.0 v.1).refused p v.2);
      spoilt = λ s i. (let v = spoilt_there says ns part parts are s i in (part_clean v.0 v.1).spoilt s v.2);
    })
      where
        part_clean : (k : ℕ) → k < parts → IsClean (own_report says ns part parts are k)
        part_clean k below = from_clean (own_report says ns part parts are k) (all_member is_clean_part (range_with_len 0 parts) e k (in_range 0 parts k (omega arith) (omega arith)))
