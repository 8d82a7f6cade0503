use Rattle.std.proofs.Common.{◌≡◌, ◌+◌, ◌≤◌, ℕ, fold, sym, ap, ◌∙◌, arith}
use Rattle.std.specs.Prelude.{max}
use Rattle.std.specs.List.{range_with_len}
use Rattle.ss_review.specs.counted.Kept.{kept_gbc, kept_number}
use Rattle.ss_review.proofs.of_lists.Sections.{map_agree}
use Rattle.ss_review.proofs.of_lists.Tests.{from_in_range}
use Rattle.ss_laws.specs.carry.NightCounters.{greatest_of_nights}
use Rattle.ss_laws.proofs.carry.answers.counters_by_own_answers.Goals as goal

-- what is the same of each night has the same greatest
same_greatest : (last : ℕ) (f g : ℕ → ℕ) → ((night : ℕ) → night ≤ last → f night ≡ g night) → greatest_of_nights last f ≡ greatest_of_nights last g
same_greatest last f g same =
    ap (fold max 0) (map_agree f g (range_with_len 0 (last + 1)) (λ night h. (let low = (from_in_range 0 (last + 1) night h).1 in same night (omega (arith, low)))))

pub returns : goal.returns
returns c = λ says own file log last within follow agree s join.
    (let most = c.counters_of_carried_nights.ensures says file log last within follow s join in
    let alike = c.own_logs_are_alike.ensures says own file log last agree in
    record {
      gbc = most.gbc ∙ same_greatest last _ _ (λ night low. ap (λ cs. kept_gbc cs s) (sym (alike night low).counters));
      number = λ g. most.number g ∙ same_greatest last _ _ (λ night low. ap (λ cs. kept_number cs s g) (sym (alike night low).counters));
    })
