-- What is missing of a log of texts, and of its parts as logs of their own.
use Rattle.std.proofs.Common.{◌≡◌, inl, ℕ, ◌<◌, ◌==◌, List, [], ◌∷◌, map, refl, sym, ap, ◌∙◌, subst}
use Rattle.std.specs.Prelude.{Option, Some, None, Contains}
use Rattle.std.specs.List.{range_with_len}
use Rattle.std.proofs.lemmas.List.Elements.{All-contains, All-from_recursion}
use Rattle.std.proofs.lemmas.Bool.{eqb-true, eq-eqb}
use Rattle.ss_block.specs.declared.session.Session.{Session}
use Rattle.ss_review.specs.declared.counted.counter.Counter.{Counter}
use Rattle.ss_review.specs.declared.counted.shortfall.LogShortfalls.{LogShortfalls}
use Rattle.ss_review.specs.declared.counted.shortfall.Shortfall.{Shortfall}
use Rattle.ss_review.specs.keep.BlockMessage.{BlockMessage}
use Rattle.ss_review.specs.keep.Notes.{notes}
use Rattle.ss_review.specs.keep.Contents.{blocks, contents}
use Rattle.ss_review.specs.sessions.Sessions.{sessions}
use Rattle.ss_review.specs.sessions.Verified.{Answers}
use Rattle.ss_review.specs.counted.Kept.{kept_sessions, shortfall, absent_among, shortfall_beside}
use Rattle.ss_review.specs.counted.KeptLaws.{NothingIsMissing}
use Rattle.ss_review.specs.pinned.Pinned.{blocks_by, pinned_contents}
use Rattle.ss_review.specs.pinned.Stands.{shortfalls_by}
use Rattle.ss_laws.specs.parts.Parts.{SessionsStayWhole, blocks_of, messages_of}
use Rattle.ss_octets.proofs.Members.{Has, has_from_contains, contains_from_has, has-filter, from_has-filter, from_has-map}
use Rattle.ss_review.proofs.of_lists.Rising.{all_below}
use Rattle.ss_review.proofs.of_lists.Sections.{map_agree}
use Rattle.ss_laws.proofs.of_parts.PartBlocks.{is_own, has-own, its_own, from_has-sessions}
use Rattle.ss_laws.specs.parts.PartCounters.{AreBlockParts}
use Rattle.ss_laws.specs.parts.WholeParts.{AreGiven, GivenOnlyIts, IsHome, counters_at_home, missing_of_parts}
use Rattle.ss_laws.proofs.of_parts.BareSessions.{beside, missing_are}
use Rattle.ss_laws.proofs.of_parts.MissingTogether.{missing_in, known_there, known_back, absent_there, absent_back, from_kept, other_is}
use Rattle.ss_laws.proofs.of_parts.PartTexts.{sessions_of_part, beside_of_part}

pub missing_by_are : (known : Option (List (List ℕ))) (says : Answers) (log : List (List ℕ)) (cs : List Counter)
    → shortfalls_by known says log cs ≡ missing_in says (blocks_by known says (blocks (notes log))) cs (sessions (blocks_by known says (blocks (notes log))))
missing_by_are None says log cs = missing_are says (contents (notes log)) cs
missing_by_are (Some ps) says log cs = missing_are says (pinned_contents says ps (contents (notes log))) cs

pub missing_of_part_are : (known : Option (List (List ℕ))) (says : Answers) (part : ℕ → ℕ) (k : ℕ) (log : List (List ℕ)) → SessionsStayWhole part (blocks (notes log)) → (cs : List Counter)
    → shortfalls_by known says (messages_of part k log) cs
    ≡ missing_in says (blocks_by known says (blocks (notes log))) cs (sessions (blocks_of part k (blocks_by known says (blocks (notes log)))))
missing_of_part_are known says part k log whole cs =
    let bs = blocks_by known says (blocks (notes log)) in
    let own = blocks_by known says (blocks (notes (messages_of part k log))) in
    let each : map (λ s. shortfall_beside cs (beside says own s)) (sessions (blocks_of part k bs)) ≡ map (λ s. shortfall_beside cs (beside says bs s)) (sessions (blocks_of part k bs))
    = map_agree (λ s. shortfall_beside cs (beside says own s)) (λ s. shortfall_beside cs (beside says bs s)) (sessions (blocks_of part k bs))
    (λ s h. ap (shortfall_beside cs) (beside_of_part known says part k log whole s (is_own part bs k s h))) in
    missing_by_are known says (messages_of part k log) cs
    ∙ ap (λ ss. missing_in says own cs ss) (sessions_of_part known says part k log whole)
    ∙ (λ i. record { known = each i; absent = map (λ s. shortfall cs s [] []) (absent_among (kept_sessions cs) (sessions (blocks_of part k bs))) })

pub of_parts_are : (known : Option (List (List ℕ))) (says : Answers) (part : ℕ → ℕ) (parts : ℕ) (log : List (List ℕ)) → SessionsStayWhole part (blocks (notes log)) → (own : ℕ → List Counter)
    → missing_of_parts known says part parts log own
    ≡ map (λ k. missing_in says (blocks_by known says (blocks (notes log))) (own k) (sessions (blocks_of part k (blocks_by known says (blocks (notes log)))))) (range_with_len 0 parts)
of_parts_are known says part parts log whole own = λ i. map (λ k. missing_of_part_are known says part k log whole (own k) i) (range_with_len 0 parts)

-- ---- nothing is missing

-- what is said of each shortfall, and of none
record IsNothing (all : LogShortfalls) : Type 0 where
  tails : (f : Shortfall) → Has all.known f → f.tails ≡ []
  blocks : (f : Shortfall) → Has all.known f → f.blocks ≡ []
  sessions : (f : Shortfall) → Has all.absent f → ⊥

empty_has : (fs : List Shortfall) → fs ≡ [] → (f : Shortfall) → Has fs f → ⊥
empty_has fs e f h = subst (λ (gs : List Shortfall). Has gs f) e h

none_has : (fs : List Shortfall) → ((f : Shortfall) → Has fs f → ⊥) → fs ≡ []
none_has [] none = refl
none_has (f ∷ fs) none = absurd (none f (inl refl))

from_nothing : (all : LogShortfalls) → NothingIsMissing all → IsNothing all
from_nothing all n = record {
  tails = λ f h. All-contains (λ (g : Shortfall). g.tails ≡ []) all.known f n.tails (contains_from_has all.known f h);
  blocks = λ f h. All-contains (λ (g : Shortfall). g.blocks ≡ []) all.known f n.blocks (contains_from_has all.known f h);
  sessions = empty_has all.absent n.sessions;
}

to_nothing : (all : LogShortfalls) → IsNothing all → NothingIsMissing all
to_nothing all n = record {
  tails = All-from_recursion (λ (g : Shortfall). g.tails ≡ []) all.known (all_below (λ (g : Shortfall). g.tails ≡ []) all.known n.tails);
  blocks = All-from_recursion (λ (g : Shortfall). g.blocks ≡ []) all.known (all_below (λ (g : Shortfall). g.blocks ≡ []) all.known n.blocks);
  sessions = none_has all.absent n.sessions;
}

module _ (says : Answers) (bs : List BlockMessage) (part : ℕ → ℕ) (parts : ℕ) (are : AreBlockParts bs part parts) (cs : List Counter) (own : ℕ → List Counter) (given : AreGiven bs part parts cs own) where
  abbrev whole : LogShortfalls
  whole = missing_in says bs cs (sessions bs)

  abbrev at : ℕ → LogShortfalls
  at k = missing_in says bs (own k) (sessions (blocks_of part k bs))

  -- a session that is absent of a part has no block anywhere, where each part is given only its counters
  no_block : GivenOnlyIts bs part parts own → (k : ℕ) → k < parts → (x : Shortfall) → Has (at k).absent x → Has (sessions bs) x.session → ⊥
  no_block only k low x h i =
      let ss = sessions (blocks_of part k bs) in
      let w : (s : Session) × Has (absent_among (kept_sessions (own k)) ss) s × (shortfall (own k) s [] [] ≡ x)
      = from_has-map (λ s. shortfall (own k) s [] []) (absent_among (kept_sessions (own k)) ss) x h in
      let f = from_has-filter _ (kept_sessions (own k)) w.0 w.1 in
      let c = from_kept (own k) w.0 f.0 in
      let same : x.session ≡ w.0 = sym (ap (λ (y : Shortfall). y.session) w.2) in
      let b = from_has-sessions bs x.session i in
      let of : b.0.session ≡ c.0.session = b.2 ∙ same ∙ sym c.2 in
      let there = only k c.0 b.0 low (contains_from_has (own k) c.0 c.1) (contains_from_has bs b.0 b.1) of in
      other_is w.0 ss f.1 (its_own part bs k w.0 (b.0, has-own part bs k b.0 b.1 there, b.2 ∙ same))

  pub nothing_there : GivenOnlyIts bs part parts own → NothingIsMissing (missing_in says bs cs (sessions bs)) → (k : ℕ) → k < parts → NothingIsMissing (missing_in says bs (own k) (sessions (blocks_of part k bs)))
  nothing_there only n k low =
      let w = from_nothing whole n in
      to_nothing (at k) (record {
        tails = λ f h. w.tails f (known_back says bs part parts are cs own given k low f h);
        blocks = λ f h. w.blocks f (known_back says bs part parts are cs own given k low f h);
        sessions = λ f h. w.sessions f (absent_back says bs part parts are cs own given k low f h (no_block only k low f h));
      })

  pub nothing_back : ((k : ℕ) → k < parts → NothingIsMissing (missing_in says bs (own k) (sessions (blocks_of part k bs)))) → NothingIsMissing (missing_in says bs cs (sessions bs))
  nothing_back n =
      to_nothing whole (record {
        tails = λ f h. (let v = known_there says bs part parts are cs own given f h in (from_nothing (at v.0) (n v.0 v.1)).tails f v.2);
        blocks = λ f h. (let v = known_there says bs part parts are cs own given f h in (from_nothing (at v.0) (n v.0 v.1)).blocks f v.2);
        sessions = λ f h. (let v = absent_there says bs part parts are cs own given f h in (from_nothing (at v.0) (n v.0 v.1)).sessions f v.2);
      })

-- ---- two ways to give counters

module _ (bs : List BlockMessage) (part : ℕ → ℕ) (parts : ℕ) (cs : List Counter) where
  pub given_to_each : 0 < parts → AreGiven bs part parts cs (λ k. cs)
  given_to_each some = record {
    within = λ k c low h. h;
    its = λ b c h i e. i;
    some = λ c h none. (0, some, h);
    all = λ k c d low none h i e. i;
  }

  module _ (home : Session → ℕ) (is : IsHome bs part parts home) where
    abbrev own : ℕ → List Counter
    own = counters_at_home home cs

    at_home : (k : ℕ) (c : Counter) → Contains cs c → home c.session ≡ k → Contains (counters_at_home home cs k) c
    at_home k c h e =
        contains_from_has (own k) c (has-filter (λ (d : Counter). home d.session == k) cs c (has_from_contains cs c h) (eq-eqb (home c.session) k e))

    from_home : (k : ℕ) (c : Counter) → Contains (counters_at_home home cs k) c → Contains cs c × (home c.session ≡ k)
    from_home k c h =
        let f = from_has-filter (λ (d : Counter). home d.session == k) cs c (has_from_contains (own k) c h) in
        (contains_from_has cs c f.0, eqb-true (home c.session) k f.1)

    pub given_at_home : AreGiven bs part parts cs (counters_at_home home cs)
    given_at_home = record {
      within = λ k c low h. (from_home k c h).0;
      its = λ b c h i e. at_home (part b.place) c i (ap home e ∙ is.blocks b h);
      some = λ c h none. (home c.session, is.within c.session, at_home (home c.session) c h refl);
      all = λ k c d low none h i e. at_home k d i (ap home e ∙ (from_home k c h).1);
    }

    pub only_at_home : GivenOnlyIts bs part parts (counters_at_home home cs)
    only_at_home k c b low h i e = sym (is.blocks b i) ∙ ap home e ∙ (from_home k c h).1
