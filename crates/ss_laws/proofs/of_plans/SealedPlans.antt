-- A plan whose lines are sealed isn't refused for a seal.
use Rattle.std.proofs.Common.{◌≡◌, inl, inr, ℕ, suc, ◌≤◌, Bool, true, false, cond, List, [], ◌∷◌, ◌++◌, length, map, reverse, take, drop, slice_get, Option, Some, None, Result, Ok, Err, refl, sym, ap, ◌∙◌, subst, arith, append-nil, append_assoc}
use Rattle.std.specs.Prelude.{if◌then◌else◌}
use Rattle.std.specs.List.{enumerate_from, list_any}
use Rattle.std.specs.Io.KnownBytes.{Consumes, IsAtEnd}
use Rattle.std.proofs.Math.Seq.{split_at}
use Rattle.std.proofs.lemmas.Bool.{or_parts, true≢false}
use Rattle.std.proofs.lemmas.Grind.{reverse_onto}
use Rattle.std.proofs.lemmas.List.{reverse-append}
use Rattle.std.proofs.lemmas.Option.{get_or_from_slice_get, same_Some, slice_get_within}
use Rattle.ss_octets.proofs.Members.{Has, has-append_right}
use Rattle.ss_message.specs.Stamp.{Moment}
use Rattle.ss_frame.specs.End.{Clean}
use Rattle.ss_frame.specs.Laws.{OneReading}
use Rattle.ss_frame.specs.Stream.{reads}
use Rattle.ss_frame.specs.Watched.{Source}
use Rattle.ss_payload.specs.Payload.{payload_text}
use Rattle.ss_payload.proofs.CutLists.{same_cuts}
use Rattle.ss_block.specs.declared.hash.Hash.{Hash}
use Rattle.ss_origin.specs.declared.config.Config.{Config}
use Rattle.ss_origin.specs.declared.fault.OriginFault.{OriginFault}
use Rattle.ss_origin.specs.declared.fault.OriginFault.TheVariants.{SealRefused, SignatureLength}
use Rattle.ss_origin.specs.declared.sealer.SealFault.{SealFault}
use Rattle.ss_origin.specs.declared.sealer.SealFault.TheVariants as seals
use Rattle.ss_origin.specs.declared.unsigned.Unsigned.{Unsigned}
use Rattle.ss_origin.specs.Blocks.{unsigned_text}
use Rattle.ss_origin.specs.Calls.{Call, Begin, Submit, Flush, stamp_of}
use Rattle.ss_origin.specs.Counting.{Start}
use Rattle.ss_origin.specs.Emission.{AreDue, EmitsFrom, block_of, blocks_of, certificate_of}
use Rattle.ss_origin.specs.Originator.{RefusesStart}
use Rattle.ss_origin.specs.Refusals.{IsRefusal, Refuses, faults_of, first_fault}
use Rattle.ss_origin.specs.Sealing.{Answers}
use Rattle.ss_origin.specs.Setting.{Setting}
use Rattle.ss_origin.specs.State.{State, pending_in, runs_closed, state}
use Rattle.ss_origin.proofs.Configs.{has_ranges}
use Rattle.ss_signing.specs.Accepted.{Accepts, RefusesNext, all_calls, calls_for}
use Rattle.ss_signing.specs.Jobs.{planned, signing_from}
use Rattle.ss_signing.specs.Prepared.{prepared_for}
use Rattle.ss_signing.specs.Run.{CanStart, RefusesAt}
use Rattle.ss_signing.specs.Wants.{want_lines}
use Rattle.ss_signing.proofs.Plans.{same_state}
use Rattle.ss_signing.proofs.Sending.{calls_split}
use Rattle.ss_laws.specs.plans.Known.{Shows}
use Rattle.ss_laws.specs.plans.SealedPlans.{IsOfSeal, IsSeal, IsWanted, RefusesNoSealOfMessages, RefusesNoSealOfPlans, SealsPlan}
use Rattle.ss_laws.proofs.of_plans.ReadBack.{written_is}
use Rattle.ss_laws.proofs.of_plans.SmallOctets.{due_is_small}
use Rattle.ss_laws.proofs.of_plans.WantedOctets.{due_is_sent, has_line, sent_in_turn, turn_of}

-- ---- which faults are of a seal

abbrev of_seal : OriginFault → Bool
of_seal SealRefused = true
of_seal SignatureLength = true
of_seal other = false

not_of_seal : (fault : OriginFault) → of_seal fault ≡ false → ¬ IsOfSeal fault
not_of_seal fault e (inl refused) = true≢false (sym (ap of_seal refused) ∙ e)
not_of_seal fault e (inr length) = true≢false (sym (ap of_seal length) ∙ e)

-- a refusal before anything is sealed
abbrev of_row : Bool × OriginFault → Bool
of_row row = of_seal row.1

first_is_none : (rows : List (Bool × OriginFault)) (fault : OriginFault) → list_any of_row rows ≡ false → first_fault rows ≡ Some fault → of_seal fault ≡ false
first_is_none [] fault none e = absurd (cc)
first_is_none (row ∷ rows) fault none e =
    let parts = or_parts (of_row row) (list_any of_row rows) none in
    by row.0 parts.0 (first_is_none rows fault parts.1) e
  where
    by : (b : Bool) → of_seal row.1 ≡ false → (first_fault rows ≡ Some fault → of_seal fault ≡ false) → (if b then Some row.1 else first_fault rows) ≡ Some fault → of_seal fault ≡ false
    by true here rest is = ap of_seal (sym (same_Some row.1 fault is)) ∙ here
    by false here rest is = rest is

faults_before : (c : Config) (st : State) (call : Call) → list_any of_row (faults_of c st call) ≡ false
faults_before c st (Begin stamp) = refl
faults_before c st (Submit message stamp) = refl
faults_before c st (Flush stamp) = refl

start_is_none : (fit : Type 0) (fault : OriginFault) → RefusesStart fit fault → of_seal fault ≡ false
start_is_none fit SealRefused refused = absurd refused
start_is_none fit SignatureLength refused = absurd refused
start_is_none fit other refused = refl

-- an answer that is taken is no refusal
taken : (fault : OriginFault) (answer : Result (List ℕ) SealFault) → IsSeal answer → IsRefusal fault answer → ⊥
taken SealRefused (Err seals.Refused) seal refused = seal
taken SignatureLength (Ok signature) seal (inl none) = let some = seal.0 in omega (arith, some, none)
taken SignatureLength (Ok signature) seal (inr long) = let most = seal.1 in omega (arith, most, long)
taken fault answer seal refused = absurd refused

-- ---- the blocks that are due don't depend on how often each is sent

abbrev once : Config → Config
once c = record c { copies = 1 }

same_runs : (c : Config) (pending : ℕ → List Hash) (call : Call) → runs_closed (once c) pending call ≡ runs_closed c pending call
same_runs c pending (Begin stamp) = refl
same_runs c pending (Submit message stamp) = refl
same_runs c pending (Flush stamp) = refl

same_blocks : (c : Config) (old : State) (call : Call) → blocks_of (once c) old call ≡ blocks_of c old call
same_blocks c old call = ap (λ runs. map (block_of c old) (enumerate_from old.gbc runs)) (same_runs c (pending_in old) call)

same_due : (s : Setting) (old : State) (call : Call) (due for_plan : List Unsigned) → 1 ≤ s.config.frag → AreDue s old call due → AreDue (planned s.config s.payload) old call for_plan → for_plan ≡ due
same_due s old (Begin stamp) due for_plan some are plan =
    plan.2
    ∙ ap (map (certificate_of s.config (payload_text s.payload))) (same_cuts (length (payload_text s.payload)) s.config.frag plan.0 are.0 some plan.1 are.1)
    ∙ sym are.2
same_due s old (Submit message stamp) due for_plan some are plan = plan ∙ same_blocks s.config old (Submit message stamp) ∙ sym are
same_due s old (Flush stamp) due for_plan some are plan = plan ∙ same_blocks s.config old (Flush stamp) ∙ sym are

-- ---- a call that is refused

has_there : {X : Type 0} (before : List X) (x : X) (behind : List X) → Has (before ++ x ∷ behind) x
has_there before x behind = has-append_right before (x ∷ behind) x (inl refl)

newest_first : (calls behind : List Call) (call : Call) → reverse (calls ++ call ∷ behind) ≡ reverse behind ++ call ∷ reverse calls
newest_first calls behind call =
    reverse-append calls (call ∷ behind)
    ∙ ap (λ cs. cs ++ reverse calls) (reverse_onto behind call [])
    ∙ append_assoc (reverse behind) (call ∷ []) (reverse calls)

module _ (s : Setting) (start : Start) (answers : Answers) (all : List Call) (for_plan : List (List ℕ)) (plan : Accepts (planned s.config s.payload) start all for_plan) where
  -- a block that is due in one of the calls has a line of the plan
  due_is_wanted : (calls behind : List Call) (call : Call) (due : List Unsigned) (d : Unsigned) → all ≡ calls ++ call ∷ behind → 1 ≤ s.config.frag
      → AreDue s (state s.config start (reverse calls)) call due → Has due d → IsWanted (want_lines for_plan) (unsigned_text s.config.head (stamp_of call) d)
  due_is_wanted calls behind call due d e some are has =
      let setting = planned s.config s.payload in
      let turn = turn_of setting start plan.turns (reverse behind) (reverse calls) call (plan.calls_are ∙ ap reverse e ∙ newest_first calls behind call) plan.taken in
      let emits : EmitsFrom setting (state s.config start (reverse calls)) call turn.0.emitted
      = subst (λ st. EmitsFrom setting st call turn.0.emitted) (same_state s.config start (reverse calls)) turn.2 in
      let own : emits.due ≡ due = same_due s (state s.config start (reverse calls)) call due emits.due some are emits.are_due in
      let sent = due_is_sent setting (state s.config start (reverse calls)) call turn.0.emitted d (omega arith) emits (subst (λ ds. Has ds d) (sym own) has) in
      has_line for_plan sent.0 (unsigned_text s.config.head (stamp_of call) d) (subst (λ ms. Has ms sent.0) (sym plan.emitted_are) (sent_in_turn plan.turns turn.0 sent.0 turn.1 sent.1)) sent.2
      (due_is_small s (state s.config start (reverse calls)) call (stamp_of call) due d plan.setting.head are has)

  next_is_none : SealsPlan answers (want_lines for_plan) → (calls behind : List Call) (call : Call) (fault : OriginFault) → all ≡ calls ++ call ∷ behind → RefusesNext s start answers calls call fault → of_seal fault ≡ false
  next_is_none sealed calls behind call fault e next = by next.refused
    where
      by : Refuses s answers (state s.config start (reverse calls)) call fault → of_seal fault ≡ false
      by (inl memory) = ap of_seal memory
      by (inr (inl is)) = first_is_none (faults_of s.config (state s.config start (reverse calls)) call) fault (faults_before s.config (state s.config start (reverse calls)) call) is
      by (inr (inr fails)) =
          let f = fails.fails in
          let there = subst (λ ds. Has ds f.block) (sym f.due_are) (has_there f.before f.block f.behind) in
          let wanted = due_is_wanted calls behind call fails.due f.block e (has_ranges s.config next.accepted.setting.fit.config).some_octet fails.are_due there in
          absurd (taken fault f.answer (sealed (unsigned_text s.config.head (stamp_of call) f.block) wanted f.answer f.allowed) f.refused)

-- ---- a run that is refused

submit_among : (start : Start) (stamp : Option Moment) (messages : List (List ℕ)) (place : ℕ) (message : List ℕ) → slice_get messages place ≡ Some message
    → all_calls start stamp messages ≡ calls_for start stamp (take place messages) ++ Submit message stamp ∷ (map (λ m. Submit m stamp) (drop (suc place) messages) ++ Flush stamp ∷ [])
submit_among start stamp messages place message there =
    let below = slice_get_within messages place message there in
    let here = get_or_from_slice_get messages place message message there in
    let split : messages ≡ take place messages ++ message ∷ drop (suc place) messages
    = split_at messages place message below ∙ ap (λ m. take place messages ++ m ∷ drop (suc place) messages) here in
    calls_split start stamp messages (take place messages) (drop (suc place) messages) message split

begin_among : (start : Start) (stamp : Option Moment) (messages : List (List ℕ)) → start.begun ≡ false
    → all_calls start stamp messages ≡ Begin stamp ∷ (map (λ m. Submit m stamp) messages ++ Flush stamp ∷ [])
begin_among start stamp messages is =
    let submits : List Call = map (λ m. Submit m stamp) messages in
    ap (λ b. cond b submits (Begin stamp ∷ submits) ++ Flush stamp ∷ []) is

pub refuses_no_seal_of_messages : (answers : Answers) → RefusesNoSealOfMessages answers
refuses_no_seal_of_messages answers s start stamp messages for_plan plan sealed wraps form None fault (inl refused) =
    not_of_seal fault (start_is_none (CanStart s start) fault refused)
refuses_no_seal_of_messages answers s start stamp messages for_plan plan sealed wraps form None fault (inr (inl begin)) =
    not_of_seal fault (next_is_none s start answers (all_calls start stamp messages) for_plan plan sealed [] (map (λ m. Submit m stamp) messages ++ Flush stamp ∷ []) (Begin stamp) fault (begin_among start stamp messages begin.is_new) begin.refused)
refuses_no_seal_of_messages answers s start stamp messages for_plan plan sealed wraps form None fault (inr (inr flush)) =
    not_of_seal fault (next_is_none s start answers (all_calls start stamp messages) for_plan plan sealed (calls_for start stamp messages) [] (Flush stamp) fault refl flush)
refuses_no_seal_of_messages answers s start stamp messages for_plan plan sealed wraps form (Some place) fault refused =
    not_of_seal fault (next_is_none s start answers (all_calls start stamp messages) for_plan plan sealed (calls_for start stamp (take place messages)) (map (λ m. Submit m stamp) (drop (suc place) messages) ++ Flush stamp ∷ []) (Submit refused.message stamp) fault (submit_among start stamp messages place refused.message refused.stands_there) refused.refused)

-- ---- from octets to octets

whole_stream : (source : Source) (after : Option (List ℕ)) (log stream : List ℕ) → Shows source log → Consumes source.left after stream → IsAtEnd after → stream ≡ log
whole_stream source after log stream shown consumes ended = by after (subst (λ left. Consumes left after stream) shown consumes) ended
  where
    by : (o : Option (List ℕ)) → Consumes (Some log) o stream → IsAtEnd o → stream ≡ log
    by None taken end = absurd taken
    by (Some rest) taken end = sym (taken ∙ ap (λ r. stream ++ r) end ∙ append-nil stream)

pub refuses_no_seal_of_plans : OneReading → (answers : Answers) → RefusesNoSealOfPlans answers
refuses_no_seal_of_plans one answers s start stamp wraps limits log plan range p sealed form before after was is place fault shown stops =
    let sends = p.run.sends in
    let first = sends.read.reading in
    let second = stops.read.reading in
    let first_log : first.stream ≡ log = whole_stream p.before p.after.left log first.stream p.log_shown first.consumes first.at_end in
    let second_log : second.stream ≡ log = whole_stream before after.left log second.stream shown second.consumes second.at_end in
    let same : stops.messages ≡ sends.messages
    = (one limits log stops.messages sends.messages _ _ range (subst (λ o. reads limits o stops.messages Clean) second_log second.reading.0) (subst (λ o. reads limits o sends.messages Clean) first_log first.reading.0)).0 in
    let text : plan ≡ want_lines p.run.emitted = written_is p.was p.is plan (want_lines p.run.emitted) p.plan_written p.run.written in
    refuses_no_seal_of_messages answers s start stamp (prepared_for wraps s.config.head stamp sends.messages) p.run.emitted sends.accepted (subst (SealsPlan answers) text sealed) wraps form place fault
    (subst (λ ms. RefusesAt (signing_from start s answers stamp wraps form) (prepared_for wraps s.config.head stamp ms) place fault) same stops.refused)
