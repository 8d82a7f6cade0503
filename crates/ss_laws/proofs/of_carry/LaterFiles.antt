-- Messages of later files change no log of a night before.
use Rattle.std.proofs.Common.{◌≡◌, ℕ, zero, suc, ◌+◌, ◌≤◌, ◌==◌, Bool, true, false, List, [], ◌∷◌, ◌++◌, length, map, filter, refl, ap, ◌∙◌, arith}
use Rattle.std.specs.List.{enumerate_from}
use Rattle.std.proofs.lemmas.Bool.{eqb-true}
use Rattle.std.proofs.lemmas.List.{append-nil}
use Rattle.std.proofs.lemmas.List.Elements.{filter-append}
use Rattle.std.proofs.lemmas.Option.{slice_get_within}
use Rattle.ss_review.specs.sessions.Verified.{Answers}
use Rattle.ss_review.proofs.of_lists.Rising.{all_below}
use Rattle.ss_review.proofs.of_lists.Sections.{keeps_none}
use Rattle.ss_review.proofs.of_numbers.Announcements.{numbered_from}
use Rattle.ss_laws.specs.parts.Parts.{messages_of}
use Rattle.ss_laws.specs.carry.CarriedNights.{carried_texts, night_texts}
use Rattle.ss_laws.specs.carry.EachNight.{BelongLater}

enumerate_from-append : {X : Type 0} (a : ℕ) (xs ys : List X) → enumerate_from a (xs ++ ys) ≡ enumerate_from a xs ++ enumerate_from (a + length xs) ys
enumerate_from-append a [] ys = let at : a ≡ a + 0 = omega arith in ap (λ k. enumerate_from k ys) at
enumerate_from-append a (x ∷ xs) ys =
    let at : a + 1 + length xs ≡ a + suc (length xs) = omega arith in
    ap (λ ns. (a, x) ∷ ns) (enumerate_from-append (a + 1) xs ys ∙ ap (λ k. enumerate_from (a + 1) xs ++ enumerate_from k ys) at)

refused : (b : Bool) → (b ≡ true → ⊥) → b ≡ false
refused true n = absurd (n refl)
refused false n = refl

module _ (file : ℕ → ℕ) (log later : List (List ℕ)) (last : ℕ) (belong : BelongLater file log later last) where
  same_file : (night : ℕ) → night ≤ last → messages_of file night (log ++ later) ≡ messages_of file night log
  same_file night low =
      let own : ℕ × List ℕ → Bool = λ n. file n.0 == night in
      let start : 0 + length log ≡ length log = omega arith in
      let none : filter own (enumerate_from (0 + length log) later) ≡ []
      = keeps_none own (enumerate_from (0 + length log) later) (all_below (λ (n : ℕ × List ℕ). own n ≡ false) (enumerate_from (0 + length log) later) (λ n h.
      (let w = numbered_from (0 + length log) later n h in
      let below = slice_get_within later w.0 n.1 w.2 in
      refused (own n) (λ e.
      (let at = eqb-true (file n.0) night e in
      let after = belong n.0 (omega (arith, w.1)) (omega (arith, w.1, below)) in
      omega (arith, at, after, low)))))) in
      ap (map (λ (n : ℕ × List ℕ). n.1))
      (ap (filter own) (enumerate_from-append 0 log later)
      ∙ filter-append own (enumerate_from 0 log) (enumerate_from (0 + length log) later)
      ∙ ap (λ ns. filter own (enumerate_from 0 log) ++ ns) none
      ∙ append-nil (filter own (enumerate_from 0 log)))

  pub same_nights : (says : Answers) (night : ℕ) → night ≤ last → night_texts says file (log ++ later) night ≡ night_texts says file log night
  same_nights says zero low = same_file zero low
  same_nights says (suc night) low =
      (λ i. carried_texts says (same_nights says night (omega (arith, low)) i) ++ same_file (suc night) low i)
