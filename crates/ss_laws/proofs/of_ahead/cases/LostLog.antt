-- The small log from which everything is lost meets the premises, and only the newest counters report what is lost.
use Rattle.std.proofs.Common.{◌≡◌, inl, inr, ℕ, zero, suc, ◌+◌, ◌<◌, ◌≤◌, Bool, true, false, List, [], ◌∷◌, ◌++◌, length, map, fold, max, refl, ap, arith}
use Rattle.std.specs.Prelude.{Contains, None, ◌==◌, if◌then◌else◌}
use Rattle.std.specs.Ordering.{is_eq}
use Rattle.std.proofs.lemmas.Bool.{cases_Bool, eqb-true}
use Rattle.std.proofs.lemmas.Cmp.{tied_itself}
use Rattle.ss_block.specs.OrderLaws.{session_cmp_total}
use Rattle.ss_origin.specs.declared.counters.Counters.{Counters}
use Rattle.ss_origin.specs.Counting as counting
use Rattle.ss_origin.specs.Calls.{messages_of, pending_of}
use Rattle.ss_origin.specs.Chain.{calls_of}
use Rattle.ss_origin.specs.Ahead.{ended_with, AreAtLeast}
use Rattle.ss_origin.specs.AheadLaws.{IsGiven}
use Rattle.ss_review.specs.declared.counted.counter.Counter.{Counter}
use Rattle.ss_review.specs.declared.report.entry.Entry.TheVariants as entry
use Rattle.ss_review.specs.declared.report.entry.Why.TheVariants as whys
use Rattle.ss_review.specs.keep.Notes.{notes}
use Rattle.ss_review.specs.keep.Contents.{blocks}
use Rattle.ss_review.specs.announced.Announced.{Key}
use Rattle.ss_review.specs.announced.Announcing.{IsAnnounced}
use Rattle.ss_review.specs.report.Meaning.{IsTold}
use Rattle.ss_review.specs.Laws.{OneReport, AnnouncedAreTold}
use Rattle.ss_review.specs.counted.Kept.{kept_number, number_said, number_in}
use Rattle.ss_review.specs.counted.KeptLaws.{shortfalls_of, IsInTail, IsInHole, EveryNumberIsTold, number_kept, IsLost}
use Rattle.ss_review.specs.deliveries.Delivery.{own_session}
use Rattle.ss_review.specs.deliveries.DeliveryLaws.{says, report_in}
use Rattle.ss_review.specs.deliveries.AheadDelivery.{IsCaseAhead}
use Rattle.ss_review.specs.deliveries.SmallChains.{small, message, first_turns, next_turns, ahead, ahead_lives}
use Rattle.ss_review.specs.deliveries.SmallChains as chains
use Rattle.ss_review.specs.sessions.Sessions.{same_session}
use Rattle.ss_octets.proofs.Members.{Has, has_from_contains, contains_from_has}
use Rattle.ss_origin.proofs.Numbering.{counters_tell}
use Rattle.ss_laws.specs.ahead.Reported.{IsReported, HaveNumbers, AreNewest, LostAreReportedByTheNewestCounters}
use Rattle.ss_laws.specs.ahead.cases.LostLog.{first_life, next_life, emptied, last_number, next_is, LostLogIsThis}

-- ---- the premises

empty_case : IsCaseAhead ahead ahead_lives → IsCaseAhead emptied (next_life ∷ first_life ∷ [])
empty_case is = record {
  chain = is.chain;
  turns = is.turns;
  delivers = λ m c. absurd (has_from_contains [] m c);
  trusts = is.trusts;
  accepts = λ m octets said c d read signed valid. absurd (has_from_contains [] m c);
}

last_is_given : IsGiven (next_life ∷ first_life ∷ []) (message 52)
last_is_given = record {
  newer = [];
  life = next_life;
  older = first_life ∷ [];
  lives_are = refl;
  later = chains.flushed (chains.block 3 6 (message 52 ∷ [])) ∷ [];
  turn = chains.given 52;
  earlier = [];
  turns_are = refl;
  stamp = None;
  call = refl;
}

none_stored : IsLost emptied (message 52)
none_stored n c = absurd (has_from_contains [] n c)

-- ---- counters

pub other_group : (n : ℕ) → (0 == suc n) ≡ false
other_group n = elim (cases_Bool (0 == suc n)) [
  | inl t ↦ absurd (let e = eqb-true 0 (suc n) t in omega (arith, e))
  | inr f ↦ f
]

abbrev counters_with : ℕ → ℕ → Counters
counters_with gbc number = record { gbc = gbc; groups = record { spri = 0; number = number } ∷ [] }

abbrev one_if : Bool → ℕ → List (List ℕ)
one_if b octet = if b then message octet ∷ [] else []

other_numbers : (gbc number n : ℕ) → counting.number_in (counters_with gbc number).groups (suc n) ≡ 1
other_numbers gbc number n = ap (λ (b : Bool). if b then number else 1) (other_group n)

first_ended : AreAtLeast (ended_with small.config first_life) (counters_with 1 4)
unfolding pending_of
first_ended = record { gbc = omega arith; numbers = each }
  where
    each : (spri : ℕ) → spri < 192 → counting.number_in (ended_with small.config first_life).groups spri ≤ counting.number_in (counters_with 1 4).groups spri
    each zero small_one = omega arith
    each (suc n) small_one =
        let told = counters_tell small.config first_life.start (calls_of first_turns) (suc n) small_one in
        let none : length (messages_of small.config.grouping (suc n) (calls_of first_turns)) ≡ 0
        = ap (λ (b : Bool). length ((([] ++ one_if b 49) ++ one_if b 50) ++ one_if b 51)) (other_group n) in
        let first = other_numbers 1 4 n in
        omega (arith, told, none, first)

next_ended : AreAtLeast (ended_with small.config next_life) (counters_with 4 7)
unfolding pending_of
next_ended = record { gbc = omega arith; numbers = each }
  where
    each : (spri : ℕ) → spri < 192 → counting.number_in (ended_with small.config next_life).groups spri ≤ counting.number_in (counters_with 4 7).groups spri
    each zero small_one = omega arith
    each (suc n) small_one =
        let told = counters_tell small.config next_life.start (calls_of (next_turns 3 6)) (suc n) small_one in
        let none : length (messages_of small.config.grouping (suc n) (calls_of (next_turns 3 6))) ≡ 0
        = ap (λ (b : Bool). length ([] ++ one_if b 52)) (other_group n) in
        let begun = other_numbers 3 6 n in
        let ended = other_numbers 4 7 n in
        omega (arith, told, none, begun, ended)

has_number : (gbc number : ℕ) → HaveNumbers emptied (counters_with gbc number) (next_is number)
has_number gbc number n c = the_one (has_from_contains (counters_with gbc number).groups n c)
  where
    the_one : Has (counters_with gbc number).groups n → Contains (next_is number) (number_kept emptied n)
    the_one (inl e) = contains_from_has (next_is number) (number_kept emptied n) (inl (ap (number_kept emptied) e))
    the_one (inr h) = absurd h

-- ---- what is reported

nothing_announced : (k : Key) → ¬ IsAnnounced (says emptied) (blocks (notes [])) k
unfolding blocks
nothing_announced k a = absurd (has_from_contains [] a.1.message a.1.stored)

module _ (announced : AnnouncedAreTold) (one : OneReport) where
  nothing_told : (k : Key) → ¬ IsTold (report_in emptied) k
  nothing_told k t = nothing_announced k ((announced (says emptied) [] k).0 t)

  no_hole : (k : Key) → ¬ IsInHole (report_in emptied) k
  no_hole k h = nothing_announced (record { session = k.session; group = k.group; number = h.last + 1 }) ((((one.0 (says emptied) []).entries k.session k.group (entry.Hole h.first h.last)).0 h.told).behind)

  only_tail : (cs : List Counter) (k : Key) → IsReported emptied cs k → IsInTail (shortfalls_of (says emptied) [] cs) k
  only_tail cs k (inl gap) = absurd (nothing_told k (inr (whys.Lost, gap)))
  only_tail cs k (inr (inl hole)) = absurd (no_hole k hole)
  only_tail cs k (inr (inr tail)) = tail

-- the number in the counters
kept_four : kept_number (next_is 4) (own_session small) last_number.group ≤ 4
unfolding number_in
kept_four =
    let own = own_session small in
    let c : Counter = number_kept emptied (record { spri = 0; number = 4 }) in
    let said : Counter → ℕ = λ d. number_said last_number.group d.counts d.next in
    let of_session : same_session own own ≡ true = ap is_eq (tied_itself session_cmp_total own) in
    let kept : kept_number (next_is 4) own last_number.group ≡ fold max 0 (map said (c ∷ []))
    = ap (λ (b : Bool). fold max 0 (map said (if b then c ∷ [] else []))) of_session in
    omega (arith, kept)

pub lost_log : IsCaseAhead ahead ahead_lives → AnnouncedAreTold → OneReport → EveryNumberIsTold → LostAreReportedByTheNewestCounters → LostLogIsThis
unfolding last_is_given
lost_log is announced one every by_newest =
    let newest : AreNewest emptied next_life (next_is 7) = record { counters = counters_with 4 7; least = next_ended; numbers = has_number 4 7 } in
    record {
      is_case = empty_case is;
      newest = newest;
      given = last_is_given;
      lost = none_stored;
      told = only_tail announced one (next_is 7) last_number (by_newest emptied next_life (first_life ∷ []) (record { chain = is.chain; turns = is.turns }) (empty_case is).delivers (next_is 7) newest (message 52) last_is_given none_stored);
      older = record { counters = counters_with 1 4; least = first_ended; numbers = has_number 1 4 };
      untold = λ t. (let below = ((every (says emptied) [] (next_is 4) last_number).1 (only_tail announced one (next_is 4) last_number t)).0 in
          let four = kept_four in
          omega (arith, below, four));
    }
