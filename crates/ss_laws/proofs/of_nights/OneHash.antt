-- A number that is announced in complete nights is announced in one of their logs alone, and with one hash.
use Rattle.std.proofs.Common.{◌≡◌, inl, inr, ℕ, zero, suc, ◌≤◌, List, [], ◌∷◌, refl, sym, ap, ◌∙◌, subst, arith}
use Rattle.std.specs.Prelude.{Option, Some}
use Rattle.std.proofs.lemmas.Bool.{cases_lt}
use Rattle.ss_block.specs.declared.hash.Hash.{Hash}
use Rattle.ss_block.specs.declared.hash.HashPair.{HashPair}
use Rattle.ss_review.specs.declared.counted.counter.Counter.{Counter}
use Rattle.ss_review.specs.keep.BlockMessage.{BlockMessage}
use Rattle.ss_review.specs.declared.keep.message.NormalMessage.{NormalMessage}
use Rattle.ss_review.specs.keep.Notes.{notes}
use Rattle.ss_review.specs.keep.Contents.{normals, blocks}
use Rattle.ss_review.specs.sessions.Verified.{Answers}
use Rattle.ss_review.specs.announced.Announced.{Key, rows, hashes_for}
use Rattle.ss_review.specs.announced.Announcing.{Announces}
use Rattle.ss_review.specs.assign.Assigned.{wanted}
use Rattle.ss_review.specs.Laws.{ListedAreAssigned}
use Rattle.ss_review.specs.declared.report.entry.Entry.TheVariants as entry
use Rattle.ss_review.specs.pinned.Stands.{PinnedReportsAreOfLogs}
use Rattle.ss_review.specs.report.Meaning.{IsListed}
use Rattle.ss_review.specs.report.Report.{report}
use Rattle.ss_review.specs.counted.Kept.{kept_number}
use Rattle.ss_between.specs.Between.{number_at}
use Rattle.ss_laws.specs.nights.CleanLaws.{Night}
use Rattle.ss_laws.specs.nights.Night.{log_blocks, log_report}
use Rattle.ss_laws.specs.nights.CompleteLaws.{HasAllOfTheNight, CompleteNightsHaveAll, AreCompleteNights, IsAnnouncedWith, NumbersHaveOneHash}
use Rattle.ss_laws.proofs.of_nights.StandIns.{StandsIn, stand_in, tells_by}
use Rattle.ss_octets.proofs.Members.{Has}
use Rattle.ss_review.proofs.of_numbers.Announcements.{has-rows, has-hashes_for}
use Rattle.ss_review.proofs.of_assignment.OnePlaceOneKey.{only_one, assigned_cases}

-- ---- where a number wants something, one hash is announced for it

module _ (says : Answers) (bs : List BlockMessage) (k : Key) where
  has_hash_for : (h : Hash) → Announces says bs k h → Has (hashes_for (rows says bs) k) h
  has_hash_for h a = has-hashes_for (rows says bs) k h (has-rows says bs k h a)

  alone : (f g : Hash) → Has (f ∷ []) g → f ≡ g
  alone f g (inl e) = e
  alone f g (inr i) = absurd i

  one_wanted : (ms : List NormalMessage) (p : HashPair) → wanted ms (rows says bs) k ≡ Some p → (g h : Hash) → Announces says bs k g → Announces says bs k h → g ≡ h
  unfolding wanted
  one_wanted ms p e g h a b =
      let w = only_one ms (hashes_for (rows says bs) k) p e in
      sym (alone w.0 g (subst (λ hs. Has hs g) w.2 (has_hash_for g a))) ∙ alone w.0 h (subst (λ hs. Has hs h) w.2 (has_hash_for h b))

-- ---- one night, and those after it

module _ (listed : ListedAreAssigned) (of_logs : PinnedReportsAreOfLogs) (have : CompleteNightsHaveAll) (known : Option (List (List ℕ))) (says : Answers) where
  one_here : (first : List Counter) (n : Night) → HasAllOfTheNight known says n.log first (Some n.end) → (k : Key) (h g : Hash) → Announces says (log_blocks known says n.log) k h
      → Announces says (log_blocks known says n.log) k g → h ≡ g
  one_here first n all k h g a b =
      let low = all.none_before k (h, a) in
      elim (cases_lt k.number (kept_number n.end k.session k.group)) [
        | inl less ↦ (
            let l = all.numbers k low less in
            let o : (other : List (List ℕ)) × StandsIn known says n.log other = stand_in of_logs known says n.log in
            let there : IsListed (report says o.0) k l.0 = tells_by (log_report known says n.log) (report says o.0) (sym o.1.sessions) k.session k.group (entry.Listed k.number l.0) l.1 in
            let w = assigned_cases (normals (notes o.0)) (rows says (blocks (notes o.0))) k l.0 ((listed says o.0 k l.0).0 there) in
            let in_other : (x : Hash) → Announces says (log_blocks known says n.log) k x → Announces says (blocks (notes o.0)) k x = λ x y. subst (λ (bs : List BlockMessage). Announces says bs k x) (sym o.1.blocks_are) y in
            one_wanted says (blocks (notes o.0)) k (normals (notes o.0)) w.0 w.1 h g (in_other h a) (in_other g b))
        | inr more ↦ (
            let past : number_at n.end k.session k.group ≤ k.number = omega (arith, low, more) in
            absurd (all.none_after k (h, a) past))
      ]

  one_night : (a b : Night) → Some a ≡ Some b → a ≡ b
  one_night a b e = cc

  in_first : (n : Night) (ns : List Night) (k : Key) (h : Hash) → IsAnnouncedWith known says (n ∷ ns) k h 0 → Announces says (log_blocks known says n.log) k h
  in_first n ns k h a = subst (λ (m : Night). Announces says (log_blocks known says m.log) k h) (sym (one_night n a.night a.there)) a.announces

  in_later : (n : Night) (ns : List Night) (k : Key) (h : Hash) (i : ℕ) → IsAnnouncedWith known says (n ∷ ns) k h (suc i) → IsAnnouncedWith known says ns k h i
  in_later n ns k h i a = record { night = a.night; there = a.there; announces = a.announces }

  -- what the nights announce isn't below where they begin
  not_below : (first : List Counter) (ns : List Night) → AreCompleteNights known says first ns → (k : Key) (h : Hash) (i : ℕ) → IsAnnouncedWith known says ns k h i → number_at first k.session k.group ≤ k.number
  not_below first [] complete k h i a = absurd (let none = a.there in cc)
  not_below first (n ∷ ns) complete k h zero a = (have known says n.log first (Some n.end) complete.0).none_before k (h, in_first n ns k h a)
  not_below first (n ∷ ns) complete k h (suc i) a =
      let low = not_below n.end ns complete.2 k h i (in_later n ns k h i a) in
      let rise = complete.1 k.session k.group in
      omega (arith, low, rise)

  -- what the first of them announces the later ones don't
  never_both : (first : List Counter) (n : Night) (ns : List Night) → AreCompleteNights known says first (n ∷ ns) → (k : Key) (h g : Hash) (i : ℕ) → IsAnnouncedWith known says (n ∷ ns) k h 0
      → IsAnnouncedWith known says (n ∷ ns) k g (suc i) → ⊥
  never_both first n ns complete k h g i a b =
      (have known says n.log first (Some n.end) complete.0).none_after k (h, in_first n ns k h a) (not_below n.end ns complete.2 k g i (in_later n ns k g i b))

  one : (first : List Counter) (ns : List Night) → AreCompleteNights known says first ns → (k : Key) (h g : Hash) (i j : ℕ) → IsAnnouncedWith known says ns k h i → IsAnnouncedWith known says ns k g j → (i ≡ j) × (h ≡ g)
  one first [] complete k h g i j a b = absurd (let none = a.there in cc)
  one first (n ∷ ns) complete k h g zero zero a b =
      (refl, one_here first n (have known says n.log first (Some n.end) complete.0) k h g (in_first n ns k h a) (in_first n ns k g b))
  one first (n ∷ ns) complete k h g zero (suc j) a b = absurd (never_both first n ns complete k h g j a b)
  one first (n ∷ ns) complete k h g (suc i) zero a b = absurd (never_both first n ns complete k g h i b a)
  one first (n ∷ ns) complete k h g (suc i) (suc j) a b =
      let w = one n.end ns complete.2 k h g i j (in_later n ns k h i a) (in_later n ns k g j b) in
      (ap suc w.0, w.1)

pub one_hash : ListedAreAssigned → PinnedReportsAreOfLogs → CompleteNightsHaveAll → NumbersHaveOneHash
one_hash listed of_logs have known says first ns complete k h g i j a b = one listed of_logs have known says first ns complete k h g i j a b
