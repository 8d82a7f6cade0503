-- A run in which messages are wrapped refuses none as no message or for a block element.
use Rattle.std.proofs.Common.{◌≡◌, inl, inr, ℕ, zero, suc, Bool, true, false, List, [], ◌∷◌, map, refl, sym, ap, ◌∙◌, subst}
use Rattle.std.specs.Prelude.{◌≢◌, Option, Some, None, nat_le, not, slice_get}
use Rattle.ss_message.specs.Message.{is_timestamp}
use Rattle.ss_message.specs.Stamp.{Moment}
use Rattle.ss_block.specs.Head.{HeadValue, IsHead}
use Rattle.ss_block.specs.declared.reading.Reading.{Reading}
use Rattle.ss_block.specs.declared.reading.Reading.TheVariants as readings
use Rattle.ss_block.specs.Reading.{reading}
use Rattle.ss_block.specs.Ranges.{past_last_number}
use Rattle.ss_origin.specs.declared.config.Config.{Config}
use Rattle.ss_origin.specs.declared.fault.OriginFault.{OriginFault}
use Rattle.ss_origin.specs.declared.fault.OriginFault.TheVariants as faults
use Rattle.ss_origin.specs.Calls.{Call, Begin, Submit, Flush, spri_in}
use Rattle.ss_origin.specs.State.{State}
use Rattle.ss_origin.specs.Setting.{Setting}
use Rattle.ss_origin.specs.Sealing.{Answers}
use Rattle.ss_origin.specs.Originator.{RefusesStart}
use Rattle.ss_origin.specs.Refusals.{first_fault, fault_of, is_counter_spent, is_plain, is_unparsed, Refuses}
use Rattle.ss_wrap.specs.Wrap.{prepared, unwrapped}
use Rattle.ss_wrap.proofs.Wraps.{prepared_are_plain, prepared_come_back}
use Rattle.ss_signing.specs.Jobs.{going_ahead, planning_from, signing_from}
use Rattle.ss_signing.specs.Prepared.{prepared_for}
use Rattle.ss_signing.specs.Run.{Job, CanStart, IsRefused, RefusesAt}
use Rattle.ss_signing.specs.WrapLaws.{AheadTakesEach, MessagesComeBack, PlanningTakesEach, SigningTakesEach, TakesEach}

-- the fault isn't one of what a message is
abbrev spares : OriginFault → Bool
spares faults.NotSyslog = false
spares faults.HasBlock = false
spares other = true

-- the first fault of these is none of them if no row that applies has one of them
spares_first : (row : Bool × OriginFault) (rows : List (Bool × OriginFault)) (fault : OriginFault)
    → (row.0 ≡ true → spares row.1 ≡ true)
    → (first_fault rows ≡ Some fault → spares fault ≡ true)
    → first_fault (row ∷ rows) ≡ Some fault
    → spares fault ≡ true
spares_first (true, named) rows fault here there e = subst (λ f. spares f ≡ true) (cc) (here refl)
spares_first (false, named) rows fault here there e = there e

spares_none : (fault : OriginFault) → first_fault [] ≡ Some fault → spares fault ≡ true
spares_none fault e = absurd (cc)

-- a plain text is that of a message
parsed : (r : Reading) → is_plain r ≡ true → is_unparsed r ≡ false
parsed readings.Plain h = refl
parsed (readings.Unparsed part pos) h = absurd (cc)
parsed (readings.Spoilt cause) h = refl
parsed (readings.Signature b) h = refl
parsed (readings.Certificate b) h = refl

never : {A : Type 0} (b : Bool) → b ≡ false → b ≡ true → A
never b is other = absurd (cc)

-- the call submits nothing, or a plain message
abbrev IsPlainCall : Call → Type 0
IsPlainCall (Begin stamp) = Unit {0}
IsPlainCall (Submit message stamp) = is_plain (reading message) ≡ true
IsPlainCall (Flush stamp) = Unit {0}

spares_call : (c : Config) (st : State) (call : Call) (fault : OriginFault) → IsPlainCall call → fault_of c st call ≡ Some fault → spares fault ≡ true
spares_call c st (Begin stamp) fault plain e = spares_first (st.begun, faults.AlreadyBegun) [] fault (λ _. refl) (spares_none fault) e
spares_call c st (Submit message stamp) fault plain e =
    let read = reading message in
    let counter : Bool × OriginFault = (is_counter_spent c st (Submit message stamp), faults.CounterSpent) in
    let numbers : Bool × OriginFault = (nat_le past_last_number (st.groups (spri_in c.grouping message)).number, faults.NumbersSpent) in
    let block : Bool × OriginFault = (not (is_plain read), faults.HasBlock) in
    let unparsed : Bool × OriginFault = (is_unparsed read, faults.NotSyslog) in
    spares_first (not st.begun, faults.NotBegun) (unparsed ∷ block ∷ numbers ∷ counter ∷ []) fault (λ _. refl)
    (spares_first unparsed (block ∷ numbers ∷ counter ∷ []) fault (never (is_unparsed read) (parsed read plain))
    (spares_first block (numbers ∷ counter ∷ []) fault (never (not (is_plain read)) (ap not plain))
    (spares_first numbers (counter ∷ []) fault (λ _. refl)
    (spares_first counter [] fault (λ _. refl) (spares_none fault))))) e
spares_call c st (Flush stamp) fault plain e =
    let counter : Bool × OriginFault = (is_counter_spent c st (Flush stamp), faults.CounterSpent) in
    spares_first (not st.begun, faults.NotBegun) (counter ∷ []) fault (λ _. refl) (spares_first counter [] fault (λ _. refl) (spares_none fault)) e

spares_refused : (s : Setting) (answers : Answers) (st : State) (call : Call) (fault : OriginFault) → IsPlainCall call → Refuses s answers st call fault → spares fault ≡ true
spares_refused s answers st call fault plain (inl memory) = ap spares memory
spares_refused s answers st call fault plain (inr (inl is)) = spares_call s.config st call fault plain is
spares_refused s answers st call faults.SealRefused plain (inr (inr fails)) = refl
spares_refused s answers st call faults.SignatureLength plain (inr (inr fails)) = refl
spares_refused s answers st call faults.BadConfig plain (inr (inr fails)) = refl
spares_refused s answers st call faults.NotSyslog plain (inr (inr fails)) = absurd fails.fails.refused
spares_refused s answers st call faults.HasBlock plain (inr (inr fails)) = absurd fails.fails.refused
spares_refused s answers st call faults.NotBegun plain (inr (inr fails)) = refl
spares_refused s answers st call faults.AlreadyBegun plain (inr (inr fails)) = refl
spares_refused s answers st call faults.NumbersSpent plain (inr (inr fails)) = refl
spares_refused s answers st call faults.CounterSpent plain (inr (inr fails)) = refl
spares_refused s answers st call faults.Memory plain (inr (inr fails)) = refl

-- each of the messages that are submitted is plain
plain_there : (h : HeadValue) (stamp : Option Moment) (messages : List (List ℕ)) (place : ℕ) (message : List ℕ) → IsHead h → is_timestamp stamp ≡ true
    → slice_get (map (prepared h stamp) messages) place ≡ Some message
    → is_plain (reading message) ≡ true
plain_there h stamp [] place message head time there = absurd (cc)
plain_there h stamp (m ∷ messages) zero message head time there =
    subst (λ t. is_plain (reading t) ≡ true) (cc) (prepared_are_plain h stamp m head time)
plain_there h stamp (m ∷ messages) (suc place) message head time there = plain_there h stamp messages place message head time there

spares_start : (fit : Type 0) (fault : OriginFault) → RefusesStart fit fault → spares fault ≡ true
spares_start fit faults.BadConfig h = refl
spares_start fit faults.NotSyslog h = absurd h
spares_start fit faults.HasBlock h = absurd h
spares_start fit faults.NotBegun h = refl
spares_start fit faults.AlreadyBegun h = refl
spares_start fit faults.SealRefused h = refl
spares_start fit faults.SignatureLength h = refl
spares_start fit faults.NumbersSpent h = refl
spares_start fit faults.CounterSpent h = refl
spares_start fit faults.Memory h = refl

spares_at : (job : Job) (messages : List (List ℕ)) (place : Option ℕ) (fault : OriginFault) → is_timestamp job.stamp ≡ true
    → RefusesAt job (map (prepared job.setting.config.head job.stamp) messages) place fault
    → spares fault ≡ true
spares_at job messages None fault time (inl start) = spares_start (CanStart job.setting job.start) fault start
spares_at job messages None fault time (inr (inl begin)) = spares_refused job.setting job.answers _ (Begin job.stamp) fault tt begin.refused.refused
spares_at job messages None fault time (inr (inr flush)) = spares_refused job.setting job.answers _ (Flush job.stamp) fault tt flush.refused
spares_at job messages (Some place) fault time h =
    spares_refused job.setting job.answers _ (Submit h.message job.stamp) fault
    (plain_there job.setting.config.head job.stamp messages place h.message h.refused.accepted.setting.head time h.stands_there) h.refused.refused

differs : (fault other : OriginFault) → spares fault ≡ true → spares other ≡ false → fault ≢ other
differs fault other is isnt e = absurd (cc)

takes_each : (job : Job) → job.wraps ≡ true → is_timestamp job.stamp ≡ true → TakesEach job
takes_each job wraps time limits before after place fault refused =
    let spared : spares fault ≡ true
    = spares_at job refused.messages place fault time
    (subst (λ w. RefusesAt job (prepared_for w job.setting.config.head job.stamp refused.messages) place fault) wraps refused.refused) in
    (differs fault faults.NotSyslog spared refl, differs fault faults.HasBlock spared refl)

pub signing_takes_each : {J : Type 0} (answers : J → Answers) → SigningTakesEach answers
signing_takes_each answers sealer start s stamp out time =
    takes_each (signing_from start s (answers sealer) stamp true out) refl time

pub planning_takes_each : PlanningTakesEach
planning_takes_each start config payload stamp time = takes_each (planning_from start config payload stamp true) refl time

pub ahead_takes_each : AheadTakesEach
ahead_takes_each start config payload stamp time = takes_each (going_ahead start config payload stamp true) refl time

pub messages_come_back : MessagesComeBack
messages_come_back h stamp [] head time = refl
messages_come_back h stamp (m ∷ messages) head time =
    ap (λ first. first ∷ map unwrapped (map (prepared h stamp) messages)) (prepared_come_back h stamp m head time)
    ∙ ap (λ rest. m ∷ rest) (messages_come_back h stamp messages head time)
