-- A log to which strangers added messages has what it had, and more.
use Rattle.std.proofs.Common.{◌≡◌, ◌⊎◌, inl, inr, ℕ, ◌≤◌, Bool, ◌&&◌, List, [], ◌∷◌, length, refl, sym, ap, subst, arith}
use Rattle.std.specs.Prelude.{count_by}
use Rattle.std.specs.List.{Contains}
use Rattle.ss_block.specs.declared.hash.HashPair.{HashPair}
use Rattle.ss_block.specs.Hashes.{pair}
use Rattle.ss_review.specs.keep.BlockMessage.{BlockMessage}
use Rattle.ss_review.specs.assign.Assigned.{same_pair, places_with}
use Rattle.ss_review.specs.keep.Contents.{normals, blocks}
use Rattle.ss_review.specs.deliveries.Delivery.{is_normal}
use Rattle.ss_review.specs.keep.Notes.{note, notes}
use Rattle.ss_review.specs.sessions.Verified.{Answers}
use Rattle.ss_octets.proofs.Members.{Has, has_from_contains, contains_from_has}
use Rattle.ss_review.proofs.of_kept_messages.NormalCounts.{normal_counts, length-places_with}
use Rattle.ss_review.proofs.of_lists.Counting.{count_by-cons}
use Rattle.ss_review.proofs.of_lists.Keyed.{has-slice_get}
use Rattle.ss_review.proofs.of_reports.Witnesses.{stored_block}
use Rattle.ss_laws.specs.strangers.AddedMessages.{IsWith, MayBeAdded, AddedAnywhere}
use Rattle.ss_laws.specs.strangers.Strangers.{AreCopies, IsForeign}
use Rattle.ss_laws.proofs.of_strangers.StoredTexts.{at_place, stored_too}

-- ---- texts

module _ (may : List ℕ → Type 0) where
  none_of : (log : List (List ℕ)) (m : List ℕ) → log ≡ [] → Has log m → ⊥
  none_of [] m e h = h
  none_of (x ∷ log) m e h = absurd (cc)

  -- what was there is there
  text_stays : (log more : List (List ℕ)) → IsWith may log more → (m : List ℕ) → Has log m → Has more m
  text_stays log [] e m h = absurd (none_of log m e h)
  text_stays log (x ∷ more) (inl w) m h = elim (subst (λ ms. Has ms m) w.1 h) [ inl e ↦ inl e | inr i ↦ inr (text_stays w.0 more w.2 m i) ]
  text_stays log (x ∷ more) (inr w) m h = inr (text_stays log more w.1 m h)

  -- what is there was there, or was added
  text_added : (log more : List (List ℕ)) → IsWith may log more → (m : List ℕ) → Has more m → Has log m ⊎ may m
  text_added log [] e m h = absurd h
  text_added log (x ∷ more) (inl w) m (inl e) = inl (subst (λ ms. Has ms m) (sym w.1) (inl e))
  text_added log (x ∷ more) (inl w) m (inr h) =
      elim (text_added w.0 more w.2 m h) [
        | inl i ↦ inl (subst (λ ms. Has ms m) (sym w.1) (inr i))
        | inr a ↦ inr a
      ]
  text_added log (x ∷ more) (inr w) m (inl e) = inr (subst may e w.0)
  text_added log (x ∷ more) (inr w) m (inr h) = text_added log more w.1 m h

  -- no text stands there less often
  text_counts : (test : List ℕ → Bool) (log more : List (List ℕ)) → IsWith may log more → count_by test log ≤ count_by test more
  text_counts test log [] e = let same : count_by test log ≡ 0 = ap (count_by test) e in omega (arith, same)
  text_counts test log (x ∷ more) (inl w) =
      let same = ap (count_by test) w.1 in
      let old = count_by-cons test x w.0 in
      let new = count_by-cons test x more in
      let rest = text_counts test w.0 more w.2 in
      omega (arith, same, old, new, rest)
  text_counts test log (x ∷ more) (inr w) =
      let new = count_by-cons test x more in
      let rest = text_counts test log more w.1 in
      omega (arith, new, rest)

-- ---- blocks

module _ (says : Answers) (log more : List (List ℕ)) (is : IsWith (MayBeAdded says log) log more) where
  abbrev may : List ℕ → Type 0
  may m = MayBeAdded says log m

  abbrev bs : List BlockMessage
  bs = blocks (notes log)

  abbrev ds : List BlockMessage
  ds = blocks (notes more)

  copy_of : (texts : List (List ℕ)) (b : BlockMessage) (t : List ℕ) → Has texts t → (w : (place : ℕ) × Has (blocks (notes texts)) (record b { place = place })) → (c : BlockMessage) × Has (blocks (notes texts)) c × AreCopies b c
  copy_of texts b t h w = (record b { place = w.0 }, w.1, record { session = refl; said = refl; signed = refl })

  stays : (b : BlockMessage) → Has bs b → (c : BlockMessage) × Has ds c × AreCopies b c
  stays b h =
      let t = stored_block log b h in
      let i = text_stays may log more is t.0 (has-slice_get log b.place t.0 t.1) in
      copy_of more b t.0 i (stored_too more b t.0 t.2 i)

  was_there : (c : BlockMessage) (t : List ℕ) → Has log t → (w : (place : ℕ) × Has bs (record c { place = place })) → (b : BlockMessage) × Contains bs b × AreCopies b c
  was_there c t h w = (record c { place = w.0 }, contains_from_has bs (record c { place = w.0 }) w.1, record { session = refl; said = refl; signed = refl })

  added : (c : BlockMessage) → Has ds c → ((b : BlockMessage) × Contains bs b × AreCopies b c) ⊎ IsForeign says c
  added c h =
      let t = stored_block more c h in
      elim (text_added may log more is t.0 (has-slice_get more c.place t.0 t.1)) [
        | inl i ↦ inl (was_there c t.0 i (stored_too log c t.0 t.2 i))
        | inr (inl copied) ↦ (
            let i = has_from_contains log t.0 copied in
            inl (was_there c t.0 i (stored_too log c t.0 t.2 i)))
        | inr (inr foreign) ↦ inr (foreign c.place c (at_place c.place c t.0 t.2))
      ]

  as_many : (p : HashPair) → length (places_with (normals (notes log)) p) ≤ length (places_with (normals (notes more)) p)
  as_many p =
      let test : HashPair → Bool = λ q. same_pair q p in
      let old = length-places_with (normals (notes log)) p in
      let new = length-places_with (normals (notes more)) p in
      let old_texts = normal_counts test log in
      let new_texts = normal_counts test more in
      let fewer = text_counts may (λ text. is_normal (note text) && test (pair text)) log more is in
      omega (arith, old, new, old_texts, new_texts, fewer)

pub added_anywhere : AddedAnywhere
added_anywhere says log more is = record {
  stays = λ b h. (let w = stays says log more is b (has_from_contains (blocks (notes log)) b h) in (w.0, contains_from_has (blocks (notes more)) w.0 w.1, w.2));
  added = λ c h. added says log more is c (has_from_contains (blocks (notes more)) c h);
  messages = as_many says log more is;
}
