-- Small logs of which each night leaves over what is carried over leave enough over.
use Rattle.std.proofs.Common.{◌≡◌, ℕ, ◌==◌, Bool, false, List, [], map, sym, ◌∙◌, subst, ◌<◌, ◌≤◌, cond, arith, true, refl}
use Rattle.std.specs.Prelude.{nat_lt}
use Rattle.std.specs.Ordering.{nat_cmp}
use Rattle.std.specs.Cmp.{nat_cmp_total}
use Rattle.std.specs.List.{list_any}
use Rattle.std.specs.List.Sorted.{IsStrictlySortedBy}
use Rattle.std.proofs.lemmas.Bool.{eq-eqb, ltb-true, lt-ltb, true≢false}
use Rattle.std.proofs.lemmas.Map.Lookups.{exact_unsigned}
use Rattle.ss_review.specs.declared.keep.message.NormalMessage.{NormalMessage}
use Rattle.ss_review.specs.keep.BlockMessage.{BlockMessage}
use Rattle.ss_review.specs.declared.keep.spoilt.SpoiltPlace.{SpoiltPlace}
use Rattle.ss_review.specs.keep.Contents.{Contents}
use Rattle.ss_review.specs.sessions.Verified.{Answers}
use Rattle.ss_octets.proofs.Members.{Has}
use Rattle.ss_review.proofs.of_lists.Keyed.{one_of_key}
use Rattle.ss_review.proofs.of_lists.Tests.{member_any}
use Rattle.ss_laws.specs.carry.cases.CounterRows.{cut_at}
use Rattle.ss_laws.specs.carry.Nights.{is_reviewed, night_log, LeavesEnough, LeaveEnough}
use Rattle.ss_laws.specs.carry.CarriedNights.{carried_nights}
use Rattle.ss_laws.proofs.of_carry.CarriedEnough.{carried_enough}
use Rattle.ss_laws.proofs.of_carry.CarriedTexts.{carry_over}
use Rattle.ss_laws.proofs.of_carry.ToldApart.{AreApart, apart_at}

-- ---- a cut at a place

pub file_at : (a b : Bool) → (b ≡ true → a ≡ true) → cond a 0 1 ≤ cond b 0 1
file_at true b f = omega arith
file_at false true f = absurd (true≢false (sym (f refl)))
file_at false false f = omega arith

pub cut_rises : (cut place other : ℕ) → place < other → cut_at cut place ≤ cut_at cut other
cut_rises cut place other low =
    file_at (nat_lt place cut) (nat_lt other cut) (λ e. (let l = ltb-true other cut e in lt-ltb place cut (omega (arith, l, low))))

-- ---- what is left over

-- some block has the place of some message without one
abbrev pub has_shared : Contents → Bool
has_shared log = list_any (λ (b : BlockMessage). list_any (λ (m : NormalMessage). b.place == m.place) log.normal) log.blocks

pub small_apart : (log : Contents) → IsStrictlySortedBy nat_cmp (map (λ (b : BlockMessage). b.place) log.blocks)
    → IsStrictlySortedBy nat_cmp (map (λ (m : NormalMessage). m.place) log.normal) → has_shared log ≡ false → log.spoilt ≡ [] → AreApart log
small_apart log blocks normals shared none = record {
  blocks = λ b d h i e. one_of_key nat_cmp_total exact_unsigned (λ (c : BlockMessage). c.place) log.blocks blocks b d h i e;
  normals_rise = normals;
  block_normal = λ b m h i e.
      true≢false
      (sym (member_any (λ (c : BlockMessage). list_any (λ (n : NormalMessage). c.place == n.place) log.normal) log.blocks b h
      (member_any (λ (n : NormalMessage). b.place == n.place) log.normal m i (eq-eqb b.place m.place e)))
      ∙ shared);
  spoilt_block = λ s b h i e. no_spoilt s h;
  spoilt_normal = λ s m h i e. no_spoilt s h;
}
  where
    no_spoilt : (s : SpoiltPlace) → Has log.spoilt s → ⊥
    no_spoilt s h = subst (λ (ss : List SpoiltPlace). Has ss s) none h

pub carried_leave : (says : Answers) (file : ℕ → ℕ) (whole : Contents) → AreApart whole → (last : ℕ) → LeaveEnough says (carried_nights says file whole) last
carried_leave says file whole apart last night low =
    let x = carried_nights says file whole in
    subst (λ (left : ℕ → Bool). LeavesEnough says (night_log x night) left) (λ i place. sym (carry_over says file whole last night place low) i)
    (carried_enough says (night_log x night) (apart_at (is_reviewed x night) whole apart))
