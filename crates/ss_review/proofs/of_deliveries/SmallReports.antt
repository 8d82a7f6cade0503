-- The report of a small log that has everything.
use Rattle.std.proofs.Common.{◌≡◌, inl, inr, ℕ, ◌<◌, ◌≤◌, List, [], ◌∷◌, map, refl, sym, ap, ◌∙◌, subst, arith}
use Rattle.std.specs.Prelude.{Some}
use Rattle.std.specs.List.{All, Contains}
use Rattle.std.proofs.lemmas.List.Elements.{All-nil, All-cons, All-contains}
use Rattle.ss_block.specs.declared.session.Session.{Session}
use Rattle.ss_block.specs.Reading.{reading}
use Rattle.ss_review.specs.declared.counted.counted_session.CountedSession.{CountedSession}
use Rattle.ss_review.specs.declared.counted.missing.MissingRun.{MissingRun}
use Rattle.ss_review.specs.declared.counted.shortfall.Shortfall.{Shortfall}
use Rattle.ss_review.specs.keep.BlockMessage.{BlockContent}
use Rattle.ss_review.specs.announced.Announced.{Key}
use Rattle.ss_review.specs.keep.Contents.{blocks}
use Rattle.ss_review.specs.counted.Counted.{gbcs, counted_session, counted_sessions, next_after, missing, missing_blocks}
use Rattle.ss_review.specs.counted.CountedLaws.{IsCounted, IsInRun, AreMissing, IsNext, CountedOrMissing, NextGbcFollows}
use Rattle.ss_review.specs.deliveries.Delivered.{own_number}
use Rattle.ss_review.specs.deliveries.DeliveryLaws.{report_in, IsListedAsJoined, AnnouncedByBlocks, JoinedByFragments, ListedWhereStored, WholeDeliveriesAreClean}
use Rattle.ss_review.specs.report.Meaning.{IsTold}
use Rattle.ss_review.specs.counted.KeptLaws.{shortfalls_of, NothingIsMissing, log_counters, CountersGivenBack}
use Rattle.ss_review.specs.keep.Notes.{notes}
use Rattle.ss_review.specs.sessions.Sessions.{sessions}
use Rattle.ss_review.specs.deliveries.AheadDelivery.{CasesGoOnAhead}
use Rattle.ss_review.specs.deliveries.SmallChains.{message, accepting, whole, PremisesAreMet, WholeIsReported}
use Rattle.ss_octets.proofs.Members.{Has, has_from_contains, contains_from_has, from_has-map}
use Rattle.ss_review.proofs.of_lists.Keyed.{has-slice_get}
use Rattle.ss_review.proofs.of_deliveries.SmallChains.{Laws, block_whole, gbc_whole, message_whole}
use Rattle.ss_review.proofs.of_reports.Witnesses.{stored_block, said_signature}

-- ---- nothing is missing

-- where 0 is there and nothing else, no value is missing
none_missing : (is_there : ℕ → Type 0) (next : ℕ) (runs : List MissingRun) → AreMissing is_there next runs → IsNext is_there next → ((n : ℕ) → is_there n → n ≡ 0) → runs ≡ []
none_missing is_there next [] are follows only = refl
none_missing is_there next (r ∷ runs) are follows only =
    let here : Contains (r ∷ runs) r = contains_from_has (r ∷ runs) r (inl refl) in
    let some : r.first ≤ r.last = All-contains (λ (q : MissingRun). q.first ≤ q.last) (r ∷ runs) r are.some_value here in
    let in_run : IsInRun (r ∷ runs) r.first = (r, here, omega arith, some) in
    let less : r.first < next = are.within r.first in_run in
    elim follows.behind [
      | inl e ↦ absurd (omega (arith, less, e))
      | inr w ↦ (
          let zero_is : w.0 ≡ 0 = only w.0 w.1 in
          let end = w.2 in
          let same : w.0 ≡ r.first = omega (arith, less, zero_is, end) in
          absurd (are.never_both w.0 w.1 (subst (IsInRun (r ∷ runs)) (sym same) in_run)))
    ]

-- what holds of the runs of counted sessions holds of those that are reported
none_reported : (fs : List Shortfall) (cs : List CountedSession) → map (λ (f : Shortfall). f.blocks) fs ≡ map (λ (c : CountedSession). missing_blocks c.gbcs) cs
    → ((c : CountedSession) → Has cs c → missing_blocks c.gbcs ≡ []) → All (λ (f : Shortfall). f.blocks ≡ []) fs
none_reported [] cs e none = All-nil (λ (f : Shortfall). f.blocks ≡ [])
none_reported (f ∷ fs) [] e none = absurd (cc)
none_reported (f ∷ fs) (c ∷ cs) e none =
    let first : f.blocks ≡ missing_blocks c.gbcs = cc in
    let rest : map (λ (g : Shortfall). g.blocks) fs ≡ map (λ (d : CountedSession). missing_blocks d.gbcs) cs = cc in
    All-cons (λ (g : Shortfall). g.blocks ≡ []) f fs (first ∙ none c (inl refl)) (none_reported fs cs rest (λ d h. none d (inr h)))

module _ (laws : Laws) where
  only_0 : (s : Session) (n : ℕ) → IsCounted accepting (blocks (notes whole.log)) s n → n ≡ 0
  only_0 s n a =
      let b = a.message in
      let t = stored_block whole.log b (has_from_contains (blocks (notes whole.log)) b a.stored) in
      let read = said_signature (reading t.0) a.said (t.2.said_is ∙ ap (λ (x : BlockContent). Some x) a.says_so) in
      sym a.gbc_is ∙ gbc_whole laws t.0 a.said (has-slice_get whole.log b.place t.0 t.1) read

  nothing_missing : CountedOrMissing → NextGbcFollows → CountersGivenBack → NothingIsMissing (shortfalls_of accepting whole.log (log_counters accepting whole.log))
  nothing_missing or_missing follows given_back =
      let bs = blocks (notes whole.log) in
      let add = given_back accepting whole.log in
      let none : (c : CountedSession) → Has (counted_sessions accepting bs) c → missing_blocks c.gbcs ≡ []
      = λ c h.
      (let w = from_has-map (counted_session accepting bs) (sessions bs) c h in
      let next = next_after (gbcs accepting bs w.0) in
      ap (λ (d : CountedSession). missing_blocks d.gbcs) (sym w.2)
      ∙ none_missing (IsCounted accepting bs w.0) next (missing (gbcs accepting bs w.0) next) (or_missing accepting whole.log w.0 next) (follows accepting whole.log w.0) (only_0 w.0)) in
      record {
        tails = add.tails;
        blocks = none_reported (shortfalls_of accepting whole.log (log_counters accepting whole.log)).known (counted_sessions accepting bs) add.blocks none;
        sessions = add.sessions;
      }

  pub whole_is_reported : PremisesAreMet → JoinedByFragments → AnnouncedByBlocks → ListedWhereStored → WholeDeliveriesAreClean
      → CountedOrMissing → NextGbcFollows → CountersGivenBack → CasesGoOnAhead → WholeIsReported
  whole_is_reported p joined announced listed clean or_missing follows given_back ahead =
      let k : Key = own_number whole 0 1 in
      let case = p.whole_is_case in
      let l : IsListedAsJoined whole = (joined whole case).1 p.has_payload in
      let told : IsTold (report_in whole) k = (announced whole case k refl).0.1 (l, block_whole laws) in
      record {
        is_told = told;
        has_message = (listed whole case p.hashes_tell_pairs p.others_want_others p.pairs_differ k (message 49) refl told refl).1 (message_whole laws);
        clean = (clean whole case p.hashes_tell_pairs p.has_begun p.nothing_pending p.whole_delivery).1;
        nothing_is_missing = nothing_missing or_missing follows given_back;
        goes_on_ahead = ahead whole case;
      }
