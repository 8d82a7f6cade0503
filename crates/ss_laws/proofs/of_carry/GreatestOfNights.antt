-- What comes next in the end comes next of what the nights have, together.
use Rattle.std.proofs.Common.{◌≡◌, inl, inr, ℕ, ◌+◌, ◌≤◌, true, List, map, fold, refl, ◌∙◌, arith}
use Rattle.std.specs.Prelude.{max}
use Rattle.std.specs.List.{range_with_len}
use Rattle.ss_block.specs.declared.session.Session.{Session}
use Rattle.ss_review.specs.keep.BlockMessage.{BlockMessage}
use Rattle.ss_review.specs.sessions.Verified.{Answers, is_verified}
use Rattle.ss_review.specs.announced.Announced.{Key}
use Rattle.ss_review.specs.announced.Announcing.{IsAnnounced}
use Rattle.ss_review.specs.counted.CountedLaws.{IsCounted, IsNext}
use Rattle.ss_review.specs.counted.Kept.{kept_gbc, kept_number}
use Rattle.ss_octets.proofs.Members.{Has, has-map, from_has-map, has_from_contains, contains_from_has}
use Rattle.ss_review.proofs.of_lists.Tests.{in_range, from_in_range}
use Rattle.ss_review.proofs.of_reports.EntriesMeant.{greatest_of}
use Rattle.ss_review.proofs.of_reports.EntriesRise.{fold_max-member}
use Rattle.ss_laws.specs.carry.Nights.{Nights, night_log, so_far, IsJoined}
use Rattle.ss_laws.proofs.of_carry.LeftBlocks.{AreInRange}
use Rattle.ss_laws.proofs.of_carry.AnnouncedNights.{announced_among}
use Rattle.ss_laws.specs.carry.NightCounters.{counters_in, night_counters, greatest_of_nights, AreGreatest, LeaveSession}
use Rattle.ss_laws.proofs.of_carry.CountersSaid.{blocks_follow, numbers_follow}
use Rattle.ss_laws.proofs.of_carry.OneSession.{night_among, verified_up, some_night}

-- what is there in the end is what is there in some night
pub greatest_is : (there : ℕ → ℕ → Type 0) (in_the_end : ℕ → Type 0) (value : ℕ → ℕ) (end last : ℕ)
    → ((night : ℕ) → IsNext (there night) (value night)) → IsNext in_the_end end
    → ((n : ℕ) → in_the_end n → (night : ℕ) × (night ≤ last) × there night n)
    → ((night n : ℕ) → night ≤ last → there night n → in_the_end n)
    → end ≡ greatest_of_nights last value
greatest_is there in_the_end value end last each all down up = omega (arith, not_above, not_below)
  where
    not_above : end ≤ fold max 0 (map value (range_with_len 0 (last + 1)))
    not_above =
        elim all.behind [
          | inl none ↦ omega (arith, none)
          | inr w ↦ (
              let d = down w.0 w.1 in
              let less = (each d.0).above w.0 d.2 in
              let l = fold_max-member 0 (map value (range_with_len 0 (last + 1))) (value d.0) (has-map value (range_with_len 0 (last + 1)) d.0 (in_range 0 (last + 1) d.0 (omega arith) (omega (arith, d.1)))) in
              omega (arith, less, l, w.2))
        ]

    not_below : fold max 0 (map value (range_with_len 0 (last + 1))) ≤ end
    not_below =
        elim (greatest_of 0 (map value (range_with_len 0 (last + 1)))) [
          | inl none ↦ omega (arith, none)
          | inr h ↦ (
              let w = from_has-map value (range_with_len 0 (last + 1)) (fold max 0 (map value (range_with_len 0 (last + 1)))) h in
              let at = from_in_range 0 (last + 1) w.0 w.1 in
              elim (each w.0).behind [
                | inl none ↦ omega (arith, none, w.2)
                | inr b ↦ (let less = all.above b.0 (up w.0 b.0 (omega (arith, at.1)) b.1) in omega (arith, less, b.2, w.2))
              ])
        ]

-- a block that is counted is counted where it is verified too
counted_among : (says : Answers) (bs ds : List BlockMessage) (s : Session) (gbc : ℕ) (c : IsCounted says bs s gbc) → Has ds c.message → is_verified says ds c.message ≡ true → IsCounted says ds s gbc
counted_among says bs ds s gbc c h v = record {
  message = c.message;
  stored = contains_from_has ds c.message h;
  session_is = c.session_is;
  verified = v;
  said = c.said;
  says_so = c.says_so;
  gbc_is = c.gbc_is;
}

module _ (says : Answers) (x : Nights) (ranges : AreInRange x.whole.blocks) (last : ℕ) (s : Session) (leave : LeaveSession says x last s) (join : IsJoined says (so_far x last).blocks s) where
  block_down : (n : ℕ) → IsCounted says (so_far x last).blocks s n → (night : ℕ) × (night ≤ last) × IsCounted says (night_log x night).blocks s n
  block_down n c =
      let bs = (so_far x last).blocks in
      let w = some_night x s says ranges last leave c.message c.session_is (has_from_contains bs c.message c.stored) c.verified in
      (w.0, w.1, counted_among says bs (night_log x w.0).blocks s n c w.2 w.3)

  block_up : (night n : ℕ) → night ≤ last → IsCounted says (night_log x night).blocks s n → IsCounted says (so_far x last).blocks s n
  block_up night n low c =
      let bs = (night_log x night).blocks in
      counted_among says bs (so_far x last).blocks s n c
      (night_among x s says ranges last leave night low c.message (has_from_contains bs c.message c.stored))
      (verified_up x s says ranges last leave night low c.message c.session_is c.verified join)

  number_down : (k : Key) → k.session ≡ s → IsAnnounced says (so_far x last).blocks k → (night : ℕ) × (night ≤ last) × IsAnnounced says (night_log x night).blocks k
  number_down k at a =
      let bs = (so_far x last).blocks in
      let m = a.1.message in
      let w = some_night x s says ranges last leave m (a.1.session_is ∙ at) (has_from_contains bs m a.1.stored) a.1.verified in
      (w.0, w.1, (a.0, announced_among says bs (night_log x w.0).blocks k a.0 a.1 w.2 w.3))

  number_up : (k : Key) → k.session ≡ s → (night : ℕ) → night ≤ last → IsAnnounced says (night_log x night).blocks k → IsAnnounced says (so_far x last).blocks k
  number_up k at night low a =
      let bs = (night_log x night).blocks in
      let m = a.1.message in (
        a.0,
        announced_among says bs (so_far x last).blocks k a.0 a.1
            (night_among x s says ranges last leave night low m (has_from_contains bs m a.1.stored))
            (verified_up x s says ranges last leave night low m (a.1.session_is ∙ at) a.1.verified join),
      )

  pub are_greatest : AreGreatest says x last (counters_in says (so_far x last)) s
  are_greatest = record {
    gbc =
        greatest_is (λ night n. IsCounted says (night_log x night).blocks s n) (IsCounted says (so_far x last).blocks s)
        (λ night. kept_gbc (night_counters says x night) s) (kept_gbc (counters_in says (so_far x last)) s) last
        (λ night. blocks_follow says (night_log x night) s) (blocks_follow says (so_far x last) s) block_down block_up;
    number = λ g.
        greatest_is (λ night n. IsAnnounced says (night_log x night).blocks (record { session = s; group = g; number = n }))
        (λ n. IsAnnounced says (so_far x last).blocks (record { session = s; group = g; number = n }))
        (λ night. kept_number (night_counters says x night) s g) (kept_number (counters_in says (so_far x last)) s g) last
        (λ night. numbers_follow says (night_log x night) s g) (numbers_follow says (so_far x last) s g)
        (λ n. number_down (record { session = s; group = g; number = n }) refl) (λ night n low. number_up (record { session = s; group = g; number = n }) refl night low);
  }
