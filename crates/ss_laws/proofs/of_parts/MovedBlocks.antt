-- What blocks say does not depend on their places.
use Rattle.std.proofs.Common.{◌≡◌, ℕ, Bool, cond, List, length, map, filter, not, refl, sym, ap, ◌∙◌}
use Rattle.std.specs.Prelude.{Result, Ok, Err}
use Rattle.std.specs.List.{flat_map}
use Rattle.ss_block.specs.declared.session.Session.{Session}
use Rattle.ss_review.specs.declared.report.session_report.SessionState.{SessionState}
use Rattle.ss_review.specs.declared.report.session_report.SessionState.TheVariants as states
use Rattle.ss_review.specs.keep.BlockMessage.{BlockMessage}
use Rattle.ss_review.specs.Ordered.{in_order}
use Rattle.ss_review.specs.sessions.Sessions.{same_session, sessions, of_session}
use Rattle.ss_block.specs.Order.{session_cmp}
use Rattle.ss_review.specs.sessions.Payloads.{certificate_of, certificates, cover, stated_payload}
use Rattle.ss_review.specs.sessions.Verified.{Answers, is_valid, is_accepted, judged, joined, is_valid_in, is_verified}
use Rattle.ss_review.specs.announced.Announced.{row_cmp, rows_said, rows}
use Rattle.ss_review.specs.report.Report.{refused}
use Rattle.ss_review.proofs.of_lists.FilteredAlike.{flat_map-map}
use Rattle.ss_review.proofs.of_lists.Mapped.{map-map, filter-map, filter_map-map}

module _ (f : ℕ → ℕ) where
  abbrev pub moved_block : BlockMessage → BlockMessage
  moved_block b = record { place = f b.place; count = b.count; session = b.session; said = b.said; signed = b.signed }

  pub sessions_moved : (bs : List BlockMessage) → sessions (map moved_block bs) ≡ sessions bs
  sessions_moved bs = ap (in_order session_cmp) (map-map (λ (b : BlockMessage). b.session) moved_block bs)

  of_moved : (bs : List BlockMessage) (s : Session) → of_session (map moved_block bs) s ≡ map moved_block (of_session bs s)
  of_moved bs s = filter-map (λ (b : BlockMessage). same_session b.session s) moved_block bs

  certificates_moved : (bs : List BlockMessage) → certificates (map moved_block bs) ≡ certificates bs
  certificates_moved bs = filter_map-map (λ (b : BlockMessage). certificate_of b.said) moved_block bs

  module _ (says : Answers) where
    accepted_moved : (payload : List ℕ) (bs : List BlockMessage) → is_accepted says (map moved_block bs) payload ≡ is_accepted says bs payload
    accepted_moved payload bs =
        ap (λ cs. cover cs (length payload))
        (ap certificates (filter-map (is_valid says payload) moved_block bs) ∙ certificates_moved (filter (is_valid says payload) bs))

    judged_moved : (bs : List BlockMessage) (r : Result (List ℕ) SessionState) → judged says (map moved_block bs) r ≡ judged says bs r
    judged_moved bs (Err state) = refl
    judged_moved bs (Ok payload) =
        λ i. cond (not (says.trusted payload)) (Err states.Untrusted) (cond (accepted_moved payload bs i) (Ok payload) (Err states.Unaccepted))

    joined_by_moved : (bs : List BlockMessage) → joined says (map moved_block bs) ≡ joined says bs
    unfolding joined
    joined_by_moved bs =
        ap (λ cs. judged says (map moved_block bs) (stated_payload cs)) (certificates_moved bs) ∙ judged_moved bs (stated_payload (certificates bs))

    pub joined_moved : (bs : List BlockMessage) (s : Session) → joined says (of_session (map moved_block bs) s) ≡ joined says (of_session bs s)
    joined_moved bs s = ap (joined says) (of_moved bs s) ∙ joined_by_moved (of_session bs s)

    valid_moved : (r : Result (List ℕ) SessionState) (b : BlockMessage) → is_valid_in says r (moved_block b) ≡ is_valid_in says r b
    valid_moved (Ok payload) b = refl
    valid_moved (Err state) b = refl

    verified_moved : (bs : List BlockMessage) (b : BlockMessage) → is_verified says (map moved_block bs) (moved_block b) ≡ is_verified says bs b
    unfolding is_verified
    verified_moved bs b =
        ap (λ r. is_valid_in says r (moved_block b)) (joined_moved bs b.session) ∙ valid_moved (joined says (of_session bs b.session)) b

    pub rows_moved : (bs : List BlockMessage) → rows says (map moved_block bs) ≡ rows says bs
    unfolding rows
    rows_moved bs =
        ap (in_order row_cmp)
        (ap (flat_map (λ (b : BlockMessage). rows_said b.session b.said))
        (filter-map (is_verified says (map moved_block bs)) moved_block bs
        ∙ ap (λ (p : BlockMessage → Bool). map moved_block (filter p bs)) (λ i b. verified_moved bs b i))
        ∙ flat_map-map (λ (b : BlockMessage). rows_said b.session b.said) moved_block (filter (is_verified says bs) bs))

    pub refused_moved : (bs : List BlockMessage) → refused says (map moved_block bs) ≡ map f (refused says bs)
    refused_moved bs =
        ap (map (λ (b : BlockMessage). b.place))
        (filter-map (λ b. not (is_verified says (map moved_block bs) b)) moved_block bs
        ∙ ap (λ (p : BlockMessage → Bool). map moved_block (filter p bs)) (λ i b. not (verified_moved bs b i)))
        ∙ map-map (λ (b : BlockMessage). b.place) moved_block (filter (λ b. not (is_verified says bs b)) bs)
        ∙ sym (map-map f (λ (b : BlockMessage). b.place) (filter (λ b. not (is_verified says bs b)) bs))
