-- The first night of each small log leaves over its certificate block alone, and so none that announces a number.
use Rattle.std.proofs.Common.{◌≡◌, inl, inr, false, [], ◌∷◌, refl, sym, ap, ◌∙◌, subst}
use Rattle.std.proofs.lemmas.Bool.{true≢false}
use Rattle.ss_review.specs.keep.BlockMessage.{BlockMessage, Hashes, Fragment}
use Rattle.ss_review.specs.announced.Announced.{Key}
use Rattle.ss_review.specs.report.Rows.{yes}
use Rattle.ss_octets.proofs.Members.{Has, has_from_contains}
use Rattle.ss_block.specs.Block as block
use Rattle.ss_laws.specs.carry.Nights.{Nights, night_log, IsKept}
use Rattle.ss_laws.specs.carry.cases.NightRows.{number_of, disputed_later, another_hash, listed_again, lost_before, twins, twins_wanted}

-- each block is a certificate block, or isn't left over
abbrev IsDropped : Nights → BlockMessage → Type 0
IsDropped x b = (said : block.Signature) → b.said ≡ Hashes said → x.left 0 b.place ≡ false

dropped : (x : Nights) → ((b : BlockMessage) → Has (night_log x 0).blocks b → IsDropped x b) → (k : Key) → IsKept yes (night_log x 0) (x.left 0) k → ⊥
dropped x all k kept =
    let a = kept.announced in
    true≢false (sym kept.left_over ∙ all a.message (has_from_contains (night_log x 0).blocks a.message a.stored) a.said a.says_so)

says_hashes : (c : block.Certificate) (said : block.Signature) → Fragment c ≡ Hashes said → ⊥
says_hashes c said e = cc

disputed_dropped : (b : BlockMessage) → Has (night_log disputed_later 0).blocks b → IsDropped disputed_later b
disputed_dropped b (inl e) said s = absurd (says_hashes _ said (ap (λ (d : BlockMessage). d.said) e ∙ s))
disputed_dropped b (inr (inl e)) said s = subst (λ (d : BlockMessage). disputed_later.left 0 d.place ≡ false) e refl
disputed_dropped b (inr (inr h)) said s = absurd h

hash_dropped : (b : BlockMessage) → Has (night_log another_hash 0).blocks b → IsDropped another_hash b
hash_dropped b (inl e) said s = absurd (says_hashes _ said (ap (λ (d : BlockMessage). d.said) e ∙ s))
hash_dropped b (inr (inl e)) said s = subst (λ (d : BlockMessage). another_hash.left 0 d.place ≡ false) e refl
hash_dropped b (inr (inr h)) said s = absurd h

again_dropped : (b : BlockMessage) → Has (night_log listed_again 0).blocks b → IsDropped listed_again b
again_dropped b (inl e) said s = absurd (says_hashes _ said (ap (λ (d : BlockMessage). d.said) e ∙ s))
again_dropped b (inr (inl e)) said s = subst (λ (d : BlockMessage). listed_again.left 0 d.place ≡ false) e refl
again_dropped b (inr (inr h)) said s = absurd h

lost_dropped : (b : BlockMessage) → Has (night_log lost_before 0).blocks b → IsDropped lost_before b
lost_dropped b (inl e) said s = absurd (says_hashes _ said (ap (λ (d : BlockMessage). d.said) e ∙ s))
lost_dropped b (inr (inl e)) said s = subst (λ (d : BlockMessage). lost_before.left 0 d.place ≡ false) e refl
lost_dropped b (inr (inr h)) said s = absurd h

twins_dropped : (b : BlockMessage) → Has (night_log twins 0).blocks b → IsDropped twins b
twins_dropped b (inl e) said s = absurd (says_hashes _ said (ap (λ (d : BlockMessage). d.said) e ∙ s))
twins_dropped b (inr (inl e)) said s = subst (λ (d : BlockMessage). twins.left 0 d.place ≡ false) e refl
twins_dropped b (inr (inr h)) said s = absurd h

wanted_dropped : (b : BlockMessage) → Has (night_log twins_wanted 0).blocks b → IsDropped twins_wanted b
wanted_dropped b (inl e) said s = absurd (says_hashes _ said (ap (λ (d : BlockMessage). d.said) e ∙ s))
wanted_dropped b (inr (inl e)) said s = subst (λ (d : BlockMessage). twins_wanted.left 0 d.place ≡ false) e refl
wanted_dropped b (inr (inr h)) said s = absurd h

pub disputed_unkept : IsKept yes (night_log disputed_later 0) (disputed_later.left 0) (number_of (104 ∷ []) 1) → ⊥
disputed_unkept = dropped disputed_later disputed_dropped (number_of (104 ∷ []) 1)

pub hash_unkept : IsKept yes (night_log another_hash 0) (another_hash.left 0) (number_of (104 ∷ []) 1) → ⊥
hash_unkept = dropped another_hash hash_dropped (number_of (104 ∷ []) 1)

pub again_unkept : IsKept yes (night_log listed_again 0) (listed_again.left 0) (number_of (104 ∷ []) 1) → ⊥
again_unkept = dropped listed_again again_dropped (number_of (104 ∷ []) 1)

pub lost_unkept : IsKept yes (night_log lost_before 0) (lost_before.left 0) (number_of (105 ∷ []) 1) → ⊥
lost_unkept = dropped lost_before lost_dropped (number_of (105 ∷ []) 1)

pub twins_unkept : IsKept yes (night_log twins 0) (twins.left 0) (number_of (104 ∷ []) 1) → ⊥
twins_unkept = dropped twins twins_dropped (number_of (104 ∷ []) 1)

pub wanted_unkept : IsKept yes (night_log twins_wanted 0) (twins_wanted.left 0) (number_of (104 ∷ []) 1) → ⊥
wanted_unkept = dropped twins_wanted wanted_dropped (number_of (104 ∷ []) 1)
