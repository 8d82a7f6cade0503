-- Up to the counters of originators, each message of theirs that is lost is told.
use Rattle.std.proofs.Common.{◌≡◌, ◌⊎◌, inl, inr, ℕ, ◌+◌, ◌-◌, ◌<◌, ◌≤◌, Bool, true, false, ◌==◌, List, [], ◌∷◌, length, map, refl, sym, ap, ◌∙◌, arith}
use Rattle.std.specs.Prelude.{slice_get, Some, if◌then◌else◌}
use Rattle.std.specs.Ordering.{is_eq}
use Rattle.std.proofs.lemmas.Bool.{eqb-true}
use Rattle.std.proofs.lemmas.Cmp.{tied_itself}
use Rattle.std.proofs.lemmas.Option.{slice_get_within, same_Some}
use Rattle.ss_block.specs.OrderLaws.{session_cmp_total, group_cmp_total}
use Rattle.ss_block.specs.Hashes.{hash_of}
use Rattle.ss_origin.specs.declared.counters.NextNumber.{NextNumber}
use Rattle.ss_origin.specs.Chain.{start_behind, given_to}
use Rattle.ss_origin.specs.ChainLaws.{NumbersGoOn}
use Rattle.ss_origin.specs.Counting as counting
use Rattle.ss_origin.specs.Groups.{group_of}
use Rattle.ss_review.specs.declared.counted.counter.Counter.{Counter}
use Rattle.ss_review.specs.declared.report.entry.Why.{Why}
use Rattle.ss_review.specs.announced.Announced.{Key}
use Rattle.ss_review.specs.deliveries.Delivery.{own_session}
use Rattle.ss_review.specs.deliveries.Delivered.{own_number}
use Rattle.ss_review.specs.deliveries.DeliveryLaws.{Case, IsCase, says, report_in, ListedHaveTheirHash}
use Rattle.ss_review.specs.report.Entries.{same_group}
use Rattle.ss_review.specs.counted.Kept.{counters_of, kept_number, number_said, number_in}
use Rattle.ss_review.specs.counted.KeptLaws as fates
use Rattle.ss_review.specs.counted.KeptLaws.{shortfalls_of, IsInTail, IsInHole, Fate, HasFate, EveryNumberIsTold, ReachTheEnd, number_kept, counters_kept, OwnCountersReachTheEnd, IsLost, LostAreTold}
use Rattle.ss_review.specs.report.Meaning.{IsListed, IsGap}
use Rattle.ss_review.specs.sessions.Sessions.{same_session}
use Rattle.ss_octets.proofs.Members.{Has, has-map, contains_from_has, has-filter}
use Rattle.ss_review.proofs.of_reports.EntriesRise.{fold_max-member}
use Rattle.ss_review.proofs.of_lists.Keyed.{has-slice_get}

-- ---- the counters of a chain

named_at : (b : Bool) (n : NextNumber) (ns : List NextNumber) (spri : ℕ) → (n.spri == spri) ≡ b → 1 < (if b then n.number else counting.number_in ns spri)
    → (1 < counting.number_in ns spri → (m : NextNumber) × Has ns m × (m.spri ≡ spri) × (m.number ≡ counting.number_in ns spri))
    → (m : NextNumber) × Has (n ∷ ns) m × (m.spri ≡ spri) × (m.number ≡ (if b then n.number else counting.number_in ns spri))
named_at true n ns spri e more rest = (n, inl refl, eqb-true n.spri spri e, refl)
named_at false n ns spri e more rest = let w = rest more in (w.0, inr w.1, w.2, w.3)

named : (ns : List NextNumber) (spri : ℕ) → 1 < counting.number_in ns spri → (m : NextNumber) × Has ns m × (m.spri ≡ spri) × (m.number ≡ counting.number_in ns spri)
named [] spri more = absurd (omega (arith, more))
named (n ∷ ns) spri more = named_at (n.spri == spri) n ns spri refl more (named ns spri)

pub reach_the_end : NumbersGoOn → OwnCountersReachTheEnd
unfolding counters_kept number_in
reach_the_end goes_on x spri small some =
    let given = length (given_to x.s.config spri x.chain) in
    let ended = (start_behind x.s.config x.chain).counters.groups in
    let next : counting.number_in ended spri ≡ 1 + given = goes_on x.s.config x.chain spri small in
    let w = named ended spri (omega (arith, next, some)) in
    let g = group_of x.s.config.grouping spri in
    let own = own_session x.s in
    let cs = counters_kept x in
    let c : Counter = number_kept x w.0 in
    let said : Counter → ℕ = λ d. number_said g d.counts d.next in
    let of_session : same_session c.session own ≡ true = ap is_eq (tied_itself session_cmp_total own) in
    let h : Has (counters_of cs own) c = has-filter (λ (d : Counter). same_session d.session own) cs c (inr (has-map (number_kept x) ended w.0 w.1)) of_session in
    let of_group : same_group (group_of x.s.config.grouping w.0.spri) g ≡ true = ap (λ n. same_group (group_of x.s.config.grouping n) g) w.2 ∙ ap is_eq (tied_itself group_cmp_total g) in
    let says_it : said c ≡ w.0.number = ap (λ (b : Bool). if b then w.0.number else 0) of_group in
    let most : said c ≤ kept_number cs own g = fold_max-member 0 (map said (counters_of cs own)) (said c) (has-map said (counters_of cs own) c h) in
    omega (arith, most, says_it, w.3, next)

-- ---- what is lost isn't listed

module _ (its_hash : ListedHaveTheirHash) (x : Case) (case : IsCase x) (k : Key) (own : k.session ≡ own_session x.s) (m : List ℕ) (given : slice_get (given_to x.s.config k.group.spri x.chain) (k.number - 1) ≡ Some m) (lost : IsLost x m) where
  unlisted : (place : ℕ) → ¬ IsListed (report_in x) k place
  unlisted place l =
      let h = its_hash x case k place own l in
      let same : h.given ≡ m = same_Some h.given m (sym h.given_is ∙ given) in
      lost h.stored (contains_from_has x.log h.stored (has-slice_get x.log place h.stored h.stored_is)) h.no_block (h.same_hash ∙ ap (hash_of x.s.config.alg) same)

  told_as : (cs : List Counter) (fate : Fate) → HasFate (report_in x) (shortfalls_of (says x) x.log cs) k fate
      → ((why : Why) × IsGap (report_in x) k why) ⊎ (IsInHole (report_in x) k ⊎ IsInTail (shortfalls_of (says x) x.log cs) k)
  told_as cs fates.Listed l = absurd (unlisted l.0 l.1)
  told_as cs fates.Gap g = inl g
  told_as cs fates.Hole h = inr (inl h)
  told_as cs fates.Tail t = inr (inr t)

pub lost_are_told : EveryNumberIsTold → ListedHaveTheirHash → LostAreTold
lost_are_told told its_hash x case cs reach spri number m small some given lost =
    let k = own_number x spri number in
    let within : number - 1 < length (given_to x.s.config spri x.chain) = slice_get_within (given_to x.s.config spri x.chain) (number - 1) m given in
    let end = reach spri small (omega (arith, within)) in
    let w = (told (says x) x.log cs k).0 some (omega (arith, within, end)) in
    told_as its_hash x case k refl m given lost cs w.0 w.1
