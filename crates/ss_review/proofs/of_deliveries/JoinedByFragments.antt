-- The session of originators is listed as joined exactly where their payload arrived.
use Rattle.std.proofs.Common.{◌≡◌, inl, inr, ℕ, List, [], ◌∷◌, refl, sym, ap, ◌∙◌}
use Rattle.std.specs.Prelude.{◌↔◌, Ok, Err}
use Rattle.std.specs.List.{Contains}
use Rattle.std.specs.Cmp.{Equal-is}
use Rattle.std.proofs.lemmas.List.Elements.{All-contains}
use Rattle.ss_block.specs.Order.{session_cmp}
use Rattle.ss_block.specs.OrderLaws.{session_cmp_exact}
use Rattle.ss_block.specs.declared.session.Session.{Session}
use Rattle.ss_payload.specs.Payload.{payload_text}
use Rattle.ss_review.specs.keep.BlockMessage.{BlockMessage}
use Rattle.ss_review.specs.declared.report.session_report.SessionReport.{SessionReport}
use Rattle.ss_review.specs.declared.report.session_report.SessionState.TheVariants as states
use Rattle.ss_review.specs.keep.Notes.{notes}
use Rattle.ss_review.specs.keep.Contents.{blocks}
use Rattle.ss_review.specs.sessions.Sessions.{same_session, of_session}
use Rattle.ss_review.specs.sessions.Verified.{Answers, joined, state_in}
use Rattle.ss_review.specs.Laws.{OneReport}
use Rattle.ss_review.specs.deliveries.Delivery.{own_session, HasPayload}
use Rattle.ss_review.specs.deliveries.DeliveryLaws.{Case, says, report_in, IsListedAsJoined, JoinedByFragments}
use Rattle.ss_review.specs.deliveries.Delivered.{JoinsOwnPayload}
use Rattle.ss_octets.proofs.Members.{Has, contains_from_has, from_has-filter}
use Rattle.ss_review.proofs.of_deliveries.OwnPayload.{JoinsPayload}
use Rattle.ss_review.proofs.of_sessions.Verifying.{unstated}

-- a session of which no block is stored states no payload
some_stored : (says : Answers) (bs : List BlockMessage) (payload : List ℕ) → joined says bs ≡ Ok payload → (b : BlockMessage) × Has bs b
some_stored says [] payload e = absurd (let no : Err states.Incomplete ≡ Ok payload = sym (unstated says) ∙ e in cc)
some_stored says (b ∷ bs) payload e = (b, inl refl)

module _ (x : Case) (joins : JoinsPayload x) (one : OneReport) where
  abbrev stored : Session → List BlockMessage
  stored s = of_session (blocks (notes x.log)) s

  abbrev HasItsState : SessionReport → Type 0
  HasItsState t = t.state ≡ state_in (joined (says x) (stored t.session))

  state_is : (t : SessionReport) → Contains (report_in x).sessions t → t.session ≡ own_session x.s → t.state ≡ state_in (joined (says x) (stored (own_session x.s)))
  state_is t c own =
      All-contains HasItsState (report_in x).sessions t (one.0 (says x) x.log).states c ∙ ap (λ s. state_in (joined (says x) (stored s))) own

  listed_arrived : IsListedAsJoined x → HasPayload x.chain x.log
  listed_arrived l =
      elim joins [
        | inl arrived ↦ arrived.0
        | inr lacking ↦ absurd (let no : states.Joined ≡ states.Incomplete = sym l.joined ∙ state_is l.entry l.of_report l.own ∙ ap state_in lacking.1 in cc)
      ]

  -- the entry of the session
  listed : joined (says x) (stored (own_session x.s)) ≡ Ok (payload_text x.s.payload) → IsListedAsJoined x
  listed e =
      let w = some_stored (says x) (stored (own_session x.s)) (payload_text x.s.payload) e in
      let f = from_has-filter (λ (b : BlockMessage). same_session b.session (own_session x.s)) (blocks (notes x.log)) w.0 w.1 in
      let own : w.0.session ≡ own_session x.s = session_cmp_exact w.0.session (own_session x.s) ((Equal-is (session_cmp w.0.session (own_session x.s))).0 f.1) in
      let t = ((one.0 (says x) x.log).sessions (own_session x.s)).1 (w.0, contains_from_has (blocks (notes x.log)) w.0 f.0, own) in
      record { entry = t.0; of_report = t.1; own = t.2; joined = state_is t.0 t.1 t.2 ∙ ap state_in e }

  arrived_listed : HasPayload x.chain x.log → IsListedAsJoined x
  arrived_listed p =
      elim joins [
        | inl arrived ↦ listed arrived.1
        | inr lacking ↦ absurd (lacking.0 p)
      ]

  pub joined_where_arrived : IsListedAsJoined x ↔ HasPayload x.chain x.log
  joined_where_arrived = (listed_arrived, arrived_listed)

pub joined_by_fragments : JoinsOwnPayload → OneReport → JoinedByFragments
joined_by_fragments joins one x is = joined_where_arrived x (joins x is) one
