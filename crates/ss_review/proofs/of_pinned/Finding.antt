-- Which payloads claim a session, step by step.
use Rattle.std.proofs.Common.{◌≡◌, ℕ, ◌+◌, ◌<◌, true, false, cond, ◌&&◌, List, [], ◌∷◌, ◌++◌, length, get_or, take, filter, sym, ap, ◌∙◌}
use Rattle.std.proofs.lemmas.Bool.{and_parts, true≢false, false_from_ne_true}
use Rattle.std.proofs.lemmas.List.{append-nil}
use Rattle.std.proofs.lemmas.List.Elements.{filter_more}
use Rattle.ss_review.specs.keep.BlockMessage.{BlockMessage}
use Rattle.ss_review.specs.sessions.Payloads.{certificates, cover, is_payload}
use Rattle.ss_review.specs.sessions.Verified.{Answers}
use Rattle.ss_review.specs.pinned.Finding.{may_claim}
use Rattle.ss_review.specs.pinned.Pinned.{agrees_in, speaks_for, claims, claimants}
use Rattle.ss_review.proofs.of_pinned.Asking.{claims_may}

-- where it may, and is trusted, the cover decides
pub claims_where : (says : Answers) (p : List ℕ) (own : List BlockMessage) → may_claim p own ≡ true → says.trusted p ≡ true
    → claims says p own ≡ cover (certificates (filter (speaks_for says p) own)) (length p)
unfolding claims
claims_where says p own may trusted =
    let spoken = cover (certificates (filter (speaks_for says p) own)) (length p) in
    let agreed = cover (certificates (filter (λ b. agrees_in p b.said) own)) (length p) in
    λ i. ((and_parts agreed (is_payload p) may).1 i && trusted i) && spoken

-- it claims none where it may claim none
pub no_claim : (says : Answers) (p : List ℕ) (own : List BlockMessage) → may_claim p own ≡ false → claims says p own ≡ false
no_claim says p own e = false_from_ne_true (claims says p own) (λ t. true≢false (sym (claims_may says p own t) ∙ e))

pub distrusted : (says : Answers) (p : List ℕ) (own : List BlockMessage) → says.trusted p ≡ false → claims says p own ≡ false
unfolding claims
distrusted says p own e =
    let spoken = cover (certificates (filter (speaks_for says p) own)) (length p) in
    false_from_ne_true ((is_payload p && says.trusted p) && spoken) (λ t.
    true≢false (sym (and_parts (is_payload p) (says.trusted p) (and_parts (is_payload p && says.trusted p) spoken t).0).1 ∙ e))

-- one payload more
pub one_claimant : (says : Answers) (own : List BlockMessage) (ps : List (List ℕ)) (i : ℕ) (p : List ℕ) → i < length ps → p ≡ get_or ps i p → claims says p own ≡ true
    → claimants says (take (i + 1) ps) own ≡ claimants says (take i ps) own ++ p ∷ []
one_claimant says own ps i p below e t =
    let before = claimants says (take i ps) own in
    filter_more (λ q. claims says q own) ps i p below
    ∙ ap (λ q. before ++ cond (claims says q own) (q ∷ []) []) (sym e)
    ∙ ap (λ b. before ++ cond b (p ∷ []) []) t

pub no_claimant : (says : Answers) (own : List BlockMessage) (ps : List (List ℕ)) (i : ℕ) (p : List ℕ) → i < length ps → p ≡ get_or ps i p → claims says p own ≡ false
    → claimants says (take (i + 1) ps) own ≡ claimants says (take i ps) own
no_claimant says own ps i p below e f =
    let before = claimants says (take i ps) own in
    filter_more (λ q. claims says q own) ps i p below
    ∙ ap (λ q. before ++ cond (claims says q own) (q ∷ []) []) (sym e)
    ∙ ap (λ b. before ++ cond b (p ∷ []) []) f
    ∙ append-nil before
