-- What a chain sent: a message that was submitted, and has no block, or a block of its session with a valid signature.
use Rattle.std.proofs.Common.{◌≡◌, ◌⊎◌, inl, inr, ℕ, Bool, true, false, List, [], ◌∷◌, map, replicate, refl, sym, ap, ◌∙◌, subst}
use Rattle.std.specs.Prelude.{Option, Some, None}
use Rattle.std.specs.List.{AllByRecursion, AllZip, Contains, flat_map, enumerate_from}
use Rattle.std.proofs.lemmas.Bool.{not-false}
use Rattle.ss_message.specs.Stamp.{Moment}
use Rattle.ss_payload.specs.declared.cuts.Cut.{Cut}
use Rattle.ss_payload.specs.Payload.{payload_text}
use Rattle.ss_block.specs.declared.reading.Reading.{Reading}
use Rattle.ss_block.specs.declared.reading.Reading.TheVariants as readings
use Rattle.ss_block.specs.Reading.{reading}
use Rattle.ss_block.specs.Session.{session}
use Rattle.ss_block.specs.Signed.{signed}
use Rattle.ss_block.specs.Writing.{unsigned_signature_text, unsigned_certificate_text}
use Rattle.ss_origin.specs.declared.config.Config.{Config}
use Rattle.ss_origin.specs.declared.fault.OriginFault.{OriginFault}
use Rattle.ss_origin.specs.Counting.{Start}
use Rattle.ss_origin.specs.Calls.{Call, Begin, Submit, Flush, Run}
use Rattle.ss_origin.specs.State.{State, state, pending_in, first_pending, runs_closed}
use Rattle.ss_origin.specs.Setting.{Setting}
use Rattle.ss_origin.specs.Emission.{certificate_in, certificate_of, signature_in, block_of, blocks_of, IsSealed, sent_first, EmitsFrom}
use Rattle.ss_origin.specs.Refusals.{first_fault, is_plain, faults_of, fault_of}
use Rattle.ss_origin.specs.Chain.{Turn, calls_of, AreTurns, start_behind, AreChained, IsChain, emitted_by}
use Rattle.ss_review.specs.keep.BlockMessage.{BlockContent, Hashes, Fragment}
use Rattle.ss_review.specs.keep.Contents.{said_in}
use Rattle.ss_review.specs.sessions.Verified.{signature_of}
use Rattle.ss_review.specs.deliveries.Delivery.{own_session}
use Rattle.ss_octets.proofs.Members.{Has, has_from_contains, has-append_cases, from_has-map, from_has-flat_map, from_has-copies}

-- ---- turns

-- an accepted call, and what it emitted
pub record IsTurn (s : Setting) (t : Turn) : Type 0 where
  pub old : State
  pub accepted : fault_of s.config old t.call ≡ None
  pub emits : EmitsFrom s old t.call t.emitted

-- each turn of an originator is one
pub turn_of : (s : Setting) (start : Start) (turns : List Turn) (t : Turn) → AreTurns s start turns → Has turns t → IsTurn s t
turn_of s start [] t are h = absurd h
turn_of s start (u ∷ before) t are (inl e) =
    subst (IsTurn s) e (record { old = state s.config start (calls_of before); accepted = are.1; emits = are.2 })
turn_of s start (u ∷ before) t are (inr h) = turn_of s start before t are.0 h

-- and each of a chain
pub turn_of_chain : (s : Setting) (chain : List (List Turn)) (turns : List Turn) (t : Turn) → AreChained s chain → Has chain turns → Has turns t → IsTurn s t
turn_of_chain s [] turns t are h i = absurd h
turn_of_chain s (first ∷ before) turns t are (inl e) i = turn_of s (start_behind s.config before) first t are.1 (subst (λ (ts : List Turn). Has ts t) (sym e) i)
turn_of_chain s (first ∷ before) turns t are (inr h) i = turn_of_chain s before turns t are.0 h i

abbrev pub AreAllTurns : Setting → List (List Turn) → Type 0
AreAllTurns s chain = (turns : List Turn) (t : Turn) → Has chain turns → Has turns t → IsTurn s t

pub turns_of_chain : (s : Setting) (chain : List (List Turn)) → IsChain s chain → AreAllTurns s chain
turns_of_chain s chain is turns t h i = turn_of_chain s chain turns t is.chained h i

-- a turn of the chain that sent the message
pub record IsSentBy (chain : List (List Turn)) (m : List ℕ) : Type 0 where
  pub turns : List Turn
  pub turn : Turn
  pub of_chain : Has chain turns
  pub of_originator : Has turns turn
  pub sent : Has turn.emitted m

pub sent_by : (chain : List (List Turn)) (m : List ℕ) → Contains (emitted_by chain) m → IsSentBy chain m
sent_by chain m c =
    let o = from_has-flat_map (λ (turns : List Turn). flat_map (λ (t : Turn). t.emitted) turns) chain m (has_from_contains (emitted_by chain) m c) in
    let t = from_has-flat_map (λ (t : Turn). t.emitted) o.0 m o.2 in
    record { turns = o.0; turn = t.0; of_chain = o.1; of_originator = t.1; sent = t.2 }

-- ---- what stands in front

-- where there is no first fault, none applies
none_apply : (rows : List (Bool × OriginFault)) → first_fault rows ≡ None → AllByRecursion (λ row. row.0 ≡ false) rows
none_apply [] e = tt
none_apply ((true, f) ∷ rows) e = absurd (cc)
none_apply ((false, f) ∷ rows) e = (refl, none_apply rows e)

plain_reading : (r : Reading) → is_plain r ≡ true → r ≡ readings.Plain
plain_reading readings.Plain e = refl
plain_reading (readings.Unparsed part pos) e = absurd (cc)
plain_reading (readings.Signature b) e = absurd (cc)
plain_reading (readings.Certificate b) e = absurd (cc)
plain_reading (readings.Spoilt cause) e = absurd (cc)

-- it is a message without a block
pub plain_first : (c : Config) (old : State) (call : Call) (m : List ℕ) → fault_of c old call ≡ None → Has (sent_first call) m → reading m ≡ readings.Plain
plain_first c old (Begin stamp) m e h = absurd h
plain_first c old (Submit message stamp) m e (inl i) =
    let plain = (none_apply (faults_of c old (Submit message stamp)) e).1.1.0 in
    ap reading (sym i) ∙ plain_reading (reading message) (not-false (is_plain (reading message)) plain)
plain_first c old (Submit message stamp) m e (inr i) = absurd i
plain_first c old (Flush stamp) m e h = absurd h

-- ---- blocks

-- a block of the chain's session, whose signature is valid
pub record IsOwnBlock (s : Setting) (m : List ℕ) : Type 0 where
  pub said : BlockContent
  pub octets : List ℕ
  pub read : said_in (reading m) ≡ Some said
  pub signed_is : signed m ≡ Some octets
  pub session_is : session m ≡ Some (own_session s)
  pub valid : s.valid (payload_text s.payload) octets (signature_of said) ≡ true

of_certificate : (s : Setting) (stamp : Option Moment) (cut : Cut) (m : List ℕ) → IsSealed s stamp (certificate_of s.config (payload_text s.payload) cut) m → IsOwnBlock s m
of_certificate s stamp cut m sealed =
    let c = certificate_in s.config (payload_text s.payload) cut in
    record {
      said = Fragment (record c { signature = sealed.signature });
      octets = unsigned_certificate_text s.config.head stamp c;
      read = ap said_in sealed.read.read;
      signed_is = sealed.read.signed;
      session_is = sealed.read.session;
      valid = sealed.valid;
    }

of_run : (s : Setting) (old : State) (stamp : Option Moment) (e : ℕ × Run) (m : List ℕ) → IsSealed s stamp (block_of s.config old e) m → IsOwnBlock s m
of_run s old stamp e m sealed =
    let b = signature_in s.config e.1.spri e.0 (first_pending old e.1.spri) e.1.hashes in
    record {
      said = Hashes (record b { signature = sealed.signature });
      octets = unsigned_signature_text s.config.head stamp b;
      read = ap said_in sealed.read.read;
      signed_is = sealed.read.signed;
      session_is = sealed.read.session;
      valid = sealed.valid;
    }

-- what each of some items gives, where it is told of each pair of items that stand side by side
zipped : {A B : Type 0} (R : A → B → Type 0) (P : B → Type 0) (xs : List A) (ys : List B) (y : B) → AllZip R xs ys → ((x : A) → Has xs x → R x y → P y) → Has ys y → P y
zipped R P [] [] y all f h = absurd h
zipped R P [] (z ∷ ys) y all f h = absurd all
zipped R P (x ∷ xs) [] y all f h = absurd h
zipped R P (x ∷ xs) (z ∷ ys) y all f (inl e) = f x (inl refl) (subst (R x) e all.0)
zipped R P (x ∷ xs) (z ∷ ys) y all f (inr h) = zipped R P xs ys y all.1 (λ w i. f w (inr i)) h

module _ (s : Setting) (old : State) (m : List ℕ) where
  -- a sealed block that a call has to send is one of the session
  of_blocks : (stamp : Option Moment) (call : Call) → (messages : List (List ℕ)) → AllZip (IsSealed s stamp) (blocks_of s.config old call) messages → Has messages m → IsOwnBlock s m
  of_blocks stamp call messages all h =
      let runs = enumerate_from old.gbc (runs_closed s.config (pending_in old) call) in
      zipped (IsSealed s stamp) (IsOwnBlock s) (blocks_of s.config old call) messages m all (λ d i sealed.
      (let w = from_has-map (block_of s.config old) runs d i in
      of_run s old stamp w.0 m (subst (λ b. IsSealed s stamp b m) (sym w.2) sealed))) h

  of_pieces : (stamp : Option Moment) (cuts : List Cut) → (messages : List (List ℕ)) → AllZip (IsSealed s stamp) (map (certificate_of s.config (payload_text s.payload)) cuts) messages → Has messages m → IsOwnBlock s m
  of_pieces stamp cuts messages all h =
      zipped (IsSealed s stamp) (IsOwnBlock s) (map (certificate_of s.config (payload_text s.payload)) cuts) messages m all (λ d i sealed.
      (let w = from_has-map (certificate_of s.config (payload_text s.payload)) cuts d i in
      of_certificate s stamp w.0 m (subst (λ b. IsSealed s stamp b m) (sym w.2) sealed))) h

  pub own_block : (call : Call) (emitted : List (List ℕ)) (e : EmitsFrom s old call emitted) → Has e.sent.messages m → IsOwnBlock s m
  own_block (Begin stamp) emitted e h = of_pieces stamp e.are_due.0 e.sent.messages (subst (λ due. AllZip (IsSealed s stamp) due e.sent.messages) e.are_due.2 e.sent.sealed) h
  own_block (Submit message stamp) emitted e h = of_blocks stamp (Submit message stamp) e.sent.messages (subst (λ due. AllZip (IsSealed s stamp) due e.sent.messages) e.are_due e.sent.sealed) h
  own_block (Flush stamp) emitted e h = of_blocks stamp (Flush stamp) e.sent.messages (subst (λ due. AllZip (IsSealed s stamp) due e.sent.messages) e.are_due e.sent.sealed) h

  -- what a turn sent has no block, or is one of the session
  of_turn : (t : Turn) → (e : EmitsFrom s old t.call t.emitted) → fault_of s.config old t.call ≡ None → Has t.emitted m → (reading m ≡ readings.Plain) ⊎ IsOwnBlock s m
  of_turn t e accepted h =
      let copies = flat_map (λ n. replicate s.config.copies n) e.sent.messages in
      elim (has-append_cases (sent_first t.call) copies m (subst (λ (ms : List (List ℕ)). Has ms m) e.sent.sent_are h)) [
        | inl l ↦ inl (plain_first s.config old t.call m accepted l)
        | inr r ↦ inr (own_block t.call t.emitted e (from_has-copies s.config.copies e.sent.messages m r))
      ]

-- what turns sent has no block, or is one of their session
pub sent_as : (s : Setting) (chain : List (List Turn)) (m : List ℕ) → AreAllTurns s chain → Contains (emitted_by chain) m → (reading m ≡ readings.Plain) ⊎ IsOwnBlock s m
sent_as s chain m are c =
    let b = sent_by chain m c in
    let is_turn = are b.turns b.turn b.of_chain b.of_originator in
    of_turn s is_turn.old m b.turn is_turn.emits is_turn.accepted b.sent
