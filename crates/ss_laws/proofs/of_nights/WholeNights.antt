-- The logs of clean nights, one after another, are a full log, by induction over the nights.
use Rattle.std.proofs.Common.{◌≡◌, inl, inr, ℕ, true, List, [], ◌∷◌, ◌++◌, map, refl, sym, ap, ◌∙◌, subst, arith}
use Rattle.std.specs.Prelude.{Ok, Contains}
use Rattle.ss_block.specs.declared.hash.Hash.{Hash}
use Rattle.ss_block.specs.declared.session.Session.{Session}
use Rattle.ss_block.specs.ReadingLaws.{BlocksAreInRange}
use Rattle.ss_review.specs.declared.counted.counter.Counter.{Counter}
use Rattle.ss_review.specs.keep.BlockMessage.{BlockMessage}
use Rattle.ss_review.specs.declared.keep.message.NormalMessage.{NormalMessage}
use Rattle.ss_review.specs.keep.Notes.{notes}
use Rattle.ss_review.specs.keep.Contents.{Contents, normals, blocks, spoilts, contents}
use Rattle.ss_review.specs.sessions.Sessions.{of_session}
use Rattle.ss_review.specs.sessions.Verified.{Answers, joined}
use Rattle.ss_review.specs.assign.Assigned.{has_hash}
use Rattle.ss_review.specs.Laws.{AnnouncedAreTold, ListedAreAssigned, OneReport}
use Rattle.ss_laws.specs.nights.NightLaws.{NightsLeaveOutTheRest, NumbersOutsideAreThese}
use Rattle.ss_laws.specs.nights.CleanLaws.{Night, AreCleanNights, last_end}
use Rattle.ss_laws.specs.nights.CompleteLaws.{CompleteNightsHaveAll}
use Rattle.ss_laws.specs.nights.MissingLaws.{MissingIsReportedOnce}
use Rattle.ss_laws.specs.nights.WholeNights.{logs_of, IsJoinedUnder, HaveOnePayload, HaveNoTwins, WholeNightsAreClean}
use Rattle.ss_octets.proofs.Members.{Has, has_from_contains, contains_from_has, from_has-map, has-append_cases}
use Rattle.ss_laws.proofs.of_parts.MovedReports.{moved_normal}
use Rattle.ss_laws.proofs.of_carry.AnnouncedNights.{verified_joined}
use Rattle.ss_laws.proofs.of_nights.LogsTogether.{after}
use Rattle.ss_laws.proofs.of_nights.FullNights.{IsFull, full_night, is_clean_log, nothing_is_missing, is_clean_night}
use Rattle.ss_laws.proofs.of_nights.TwoLogs as two

-- ---- no night

abbrev nothing : Contents
nothing = record { normal = []; blocks = []; spoilt = []; count = 0 }

no_messages : contents [] ≡ nothing
unfolding normals blocks spoilts
no_messages = refl

full_of_nothing : (says : Answers) (first : List Counter) → IsFull says nothing first first
full_of_nothing says first = record {
  verified = λ b h. absurd h;
  low = λ k a. absurd (has_from_contains [] a.1.message a.1.stored);
  high = λ k a. absurd (has_from_contains [] a.1.message a.1.stored);
  all = λ k low high. absurd (omega (arith, low, high));
  listed = λ k a. absurd (has_from_contains [] a.1.message a.1.stored);
  taken = λ m h. absurd h;
  unspoilt = refl;
  counted = λ s gbc low high. absurd (omega (arith, low, high));
  counted_below = λ s gbc more low less c. absurd (has_from_contains [] c.message c.stored);
  idle = λ s has none. record { begun = has; numbers = λ g. omega arith; gbc = omega arith };
  rise = λ s g. omega arith;
}

-- ---- where messages and payloads come from

pub record IsStoredIn (ns : List Night) (m : NormalMessage) : Type 0 where
  pub night : Night
  pub there : Has ns night
  pub message : NormalMessage
  pub stored : Has (normals (notes night.log)) message
  pub pair_is : message.pair ≡ m.pair

-- a night has a block of the session, and joins it under the payload under which all nights together do
pub record IsJoinedIn (says : Answers) (ns : List Night) (bs : List BlockMessage) (s : Session) : Type 0 where
  pub night : Night
  pub there : Has ns night
  pub payload : List ℕ
  pub night_joins : IsJoinedUnder says night s payload
  pub all_join : joined says (of_session bs s) ≡ Ok payload

pub record AreTogether (says : Answers) (ns : List Night) (first end : List Counter) (log : Contents) : Type 0 where
  pub full : IsFull says log first end
  pub from : (m : NormalMessage) → Has log.normal m → IsStoredIn ns m
  pub joined_in : (b : BlockMessage) → Has log.blocks b → IsJoinedIn says ns log.blocks b.session

module _ (told : AnnouncedAreTold) (listed : ListedAreAssigned) (one : OneReport) (range : BlocksAreInRange) (leave : NightsLeaveOutTheRest)
    (missing : MissingIsReportedOnce) (have : CompleteNightsHaveAll) (says : Answers) where
  module _ (first : List Counter) (n : Night) (ns : List Night) (clean : AreCleanNights says first (n ∷ ns)) (payloads : HaveOnePayload says (n ∷ ns)) (twins : HaveNoTwins (n ∷ ns))
      (rest : AreTogether says ns n.end (last_end n.end ns) (contents (notes (logs_of ns)))) where
    abbrev whole : Contents
    whole = two.whole range says first n.end (last_end n.end ns) n.log (logs_of ns)

    here : IsFull says (contents (notes n.log)) first n.end
    here = full_night one says n.log told listed have leave missing first n.end clean.0 clean.1

    in_later : (m : Night) → Has ns m → Contains (n ∷ ns) m
    in_later m h = contains_from_has (n ∷ ns) m (inr h)

    in_first : Contains (n ∷ ns) n
    in_first = contains_from_has (n ∷ ns) n (inl refl)

    from_both : (m : NormalMessage) → Has whole.normal m → IsStoredIn (n ∷ ns) m
    from_both m h =
        elim (has-append_cases (normals (notes n.log)) (map (moved_normal (after (notes n.log))) (normals (notes (logs_of ns)))) m h) [
          | inl i ↦ record { night = n; there = inl refl; message = m; stored = i; pair_is = refl }
          | inr i ↦ (
              let w : (q : NormalMessage) × Has (normals (notes (logs_of ns))) q × (moved_normal (after (notes n.log)) q ≡ m) = from_has-map (moved_normal (after (notes n.log))) (normals (notes (logs_of ns))) m i in
              let s = rest.from w.0 w.1 in
              record { night = s.night; there = inr s.there; message = s.message; stored = s.stored; pair_is = s.pair_is ∙ ap (λ (q : NormalMessage). q.pair) w.2 })
        ]

    one_pair : (m q : NormalMessage) (h : Hash) → Has whole.normal m → Has whole.normal q → has_hash h m.pair ≡ true → has_hash h q.pair ≡ true → m.pair ≡ q.pair
    one_pair m q h i j t u =
        let a = from_both m i in
        let b = from_both q j in
        sym a.pair_is
        ∙ twins a.night b.night a.message b.message h (contains_from_has (n ∷ ns) a.night a.there) (contains_from_has (n ∷ ns) b.night b.there)
        (contains_from_has (normals (notes a.night.log)) a.message a.stored) (contains_from_has (normals (notes b.night.log)) b.message b.stored)
        (ap (has_hash h) a.pair_is ∙ t) (ap (has_hash h) b.pair_is ∙ u)
        ∙ b.pair_is

    one_payload : (x y : BlockMessage) → Has (blocks (notes n.log)) x → Has (blocks (notes (logs_of ns))) y → x.session ≡ y.session → (payload other : List ℕ)
        → joined says (of_session (blocks (notes n.log)) x.session) ≡ Ok payload → joined says (of_session (blocks (notes (logs_of ns))) y.session) ≡ Ok other → payload ≡ other
    one_payload x y h i same payload other e f =
        let j = rest.joined_in y i in
        let first_payload : IsJoinedUnder says n y.session payload = subst (λ (s : Session). joined says (of_session (blocks (notes n.log)) s) ≡ Ok payload) same e in
        payloads n j.night y.session payload j.payload in_first (in_later j.night j.there) first_payload j.night_joins
        ∙ two.same_ok (joined says (of_session (blocks (notes (logs_of ns))) y.session)) j.payload other j.all_join f

    together : IsFull says whole first (last_end n.end ns)
    together = two.full_both range says first n.end (last_end n.end ns) n.log (logs_of ns) here rest.full one_payload one_pair

    joined_both : (b : BlockMessage) → Has whole.blocks b → IsJoinedIn says (n ∷ ns) whole.blocks b.session
    joined_both b h =
        elim (two.block_cases range says first n.end (last_end n.end ns) n.log (logs_of ns) here rest.full one_payload one_pair b h) [
          | inl i ↦ (
              let j = verified_joined says (blocks (notes n.log)) b (here.verified b i) in
              record {
                night = n;
                there = inl refl;
                payload = j.0;
                night_joins = j.1;
                all_join = two.joined_first range says first n.end (last_end n.end ns) n.log (logs_of ns) here rest.full one_payload one_pair b i j.0 j.1;
              })
          | inr w ↦ (
              let j = rest.joined_in w.0 w.1 in
              subst (λ (c : BlockMessage). IsJoinedIn says (n ∷ ns) whole.blocks c.session) w.2 (record {
                night = j.night;
                there = inr j.there;
                payload = j.payload;
                night_joins = j.night_joins;
                all_join = two.joined_second range says first n.end (last_end n.end ns) n.log (logs_of ns) here rest.full one_payload one_pair w.0 w.1 j.payload j.all_join;
              }))
        ]

    one_more : AreTogether says (n ∷ ns) first (last_end n.end ns) (contents (notes (n.log ++ logs_of ns)))
    one_more =
        subst (AreTogether says (n ∷ ns) first (last_end n.end ns)) (sym (two.same_whole range says first n.end (last_end n.end ns) n.log (logs_of ns)))
        (record { full = together; from = from_both; joined_in = joined_both })

  later_payloads : (n : Night) (ns : List Night) → HaveOnePayload says (n ∷ ns) → HaveOnePayload says ns
  later_payloads n ns payloads m q s payload other c d =
      payloads m q s payload other (contains_from_has (n ∷ ns) m (inr (has_from_contains ns m c))) (contains_from_has (n ∷ ns) q (inr (has_from_contains ns q d)))

  later_twins : (n : Night) (ns : List Night) → HaveNoTwins (n ∷ ns) → HaveNoTwins ns
  later_twins n ns twins m q a b h c d =
      twins m q a b h (contains_from_has (n ∷ ns) m (inr (has_from_contains ns m c))) (contains_from_has (n ∷ ns) q (inr (has_from_contains ns q d)))

  all_nights : (first : List Counter) (ns : List Night) → AreCleanNights says first ns → HaveOnePayload says ns → HaveNoTwins ns
      → AreTogether says ns first (last_end first ns) (contents (notes (logs_of ns)))
  all_nights first [] clean payloads twins =
      subst (AreTogether says [] first first) (sym no_messages) (record { full = full_of_nothing says first; from = λ m h. absurd h; joined_in = λ b h. absurd h })
  all_nights first (n ∷ ns) clean payloads twins =
      one_more first n ns clean payloads twins (all_nights n.end ns clean.2 (later_payloads n ns payloads) (later_twins n ns twins))

pub whole_clean : AnnouncedAreTold → ListedAreAssigned → OneReport → BlocksAreInRange → NightsLeaveOutTheRest → MissingIsReportedOnce → CompleteNightsHaveAll → NumbersOutsideAreThese → WholeNightsAreClean
whole_clean told listed one range leave missing have outside says ns clean payloads twins =
    let w = all_nights told listed one range leave missing have says [] ns clean payloads twins in
    record {
      clean = is_clean_log one says (logs_of ns) missing (last_end [] ns) w.full;
      nothing_missing = nothing_is_missing one says (logs_of ns) missing (last_end [] ns) w.full;
      night = is_clean_night one says (logs_of ns) missing (last_end [] ns) w.full told outside;
    }
