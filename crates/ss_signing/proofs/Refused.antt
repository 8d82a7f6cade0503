-- An originator that was made answers no call with `BadConfig`.
use Rattle.std.proofs.Common.{◌≡◌, inl, inr, ℕ, Bool, true, false, List, [], ◌∷◌, reverse, take, subst}
use Rattle.std.specs.Prelude.{◌≢◌, Option, Some, None, nat_le, not}
use Rattle.ss_block.specs.Reading.{reading}
use Rattle.ss_block.specs.Ranges.{past_last_number}
use Rattle.ss_origin.specs.declared.config.Config.{Config}
use Rattle.ss_origin.specs.declared.fault.OriginFault.{OriginFault}
use Rattle.ss_origin.specs.declared.fault.OriginFault.TheVariants as faults
use Rattle.ss_origin.specs.Calls.{Call, Begin, Submit, Flush, spri_in}
use Rattle.ss_origin.specs.Counting.{Start}
use Rattle.ss_origin.specs.State.{State, state}
use Rattle.ss_origin.specs.Setting.{Setting}
use Rattle.ss_origin.specs.Sealing.{Answers}
use Rattle.ss_origin.specs.Refusals.{first_fault, fault_of, is_counter_spent, is_plain, is_unparsed, Refuses}
use Rattle.ss_signing.specs.Accepted.{calls_for, RefusesNext}
use Rattle.ss_signing.specs.Run.{Job, CanStart, RefusesAt}

-- it isn't the first of these faults that applies, if no row has it
never_first : (row : Bool × OriginFault) (rows : List (Bool × OriginFault)) → row.1 ≢ faults.BadConfig → first_fault rows ≢ Some faults.BadConfig → first_fault (row ∷ rows) ≢ Some faults.BadConfig
never_first (true, named) rows here there e = here (cc)
never_first (false, named) rows here there e = there e

none_first : first_fault [] ≢ Some faults.BadConfig
none_first e = absurd (cc)

never_before_a_seal : (c : Config) (st : State) (call : Call) → fault_of c st call ≢ Some faults.BadConfig
never_before_a_seal c st (Begin stamp) = never_first (st.begun, faults.AlreadyBegun) [] (λ e. absurd (cc)) none_first
never_before_a_seal c st (Submit message stamp) =
    let counter : Bool × OriginFault = (is_counter_spent c st (Submit message stamp), faults.CounterSpent) in
    let numbers : Bool × OriginFault = (nat_le past_last_number (st.groups (spri_in c.grouping message)).number, faults.NumbersSpent) in
    let block : Bool × OriginFault = (not (is_plain (reading message)), faults.HasBlock) in
    let unparsed : Bool × OriginFault = (is_unparsed (reading message), faults.NotSyslog) in
    never_first (not st.begun, faults.NotBegun) (unparsed ∷ block ∷ numbers ∷ counter ∷ []) (λ e. absurd (cc))
    (never_first unparsed (block ∷ numbers ∷ counter ∷ []) (λ e. absurd (cc))
    (never_first block (numbers ∷ counter ∷ []) (λ e. absurd (cc))
    (never_first numbers (counter ∷ []) (λ e. absurd (cc))
    (never_first counter [] (λ e. absurd (cc)) none_first))))
never_before_a_seal c st (Flush stamp) =
    let counter : Bool × OriginFault = (is_counter_spent c st (Flush stamp), faults.CounterSpent) in
    never_first (not st.begun, faults.NotBegun) (counter ∷ []) (λ e. absurd (cc)) (never_first counter [] (λ e. absurd (cc)) none_first)

never_refused : (s : Setting) (answers : Answers) (st : State) (call : Call) → ¬ Refuses s answers st call faults.BadConfig
never_refused s answers st call (inl memory) = absurd (cc)
never_refused s answers st call (inr (inl is)) = never_before_a_seal s.config st call is
never_refused s answers st call (inr (inr fails)) = absurd fails.fails.refused

never_next : (s : Setting) (start : Start) (answers : Answers) (calls : List Call) (call : Call) → ¬ RefusesNext s start answers calls call faults.BadConfig
never_next s start answers calls call h = never_refused s answers (state s.config start (reverse calls)) call h.refused

never_at : (job : Job) (messages : List (List ℕ)) (place : Option ℕ) → CanStart job.setting job.start → ¬ RefusesAt job messages place faults.BadConfig
never_at job messages None can (inl unfit) = unfit can
never_at job messages None can (inr (inl begin)) = never_next job.setting job.start job.answers [] (Begin job.stamp) begin.refused
never_at job messages None can (inr (inr flush)) = never_next job.setting job.start job.answers (calls_for job.start job.stamp messages) (Flush job.stamp) flush
never_at job messages (Some place) can h = never_next job.setting job.start job.answers (calls_for job.start job.stamp (take place messages)) (Submit h.message job.stamp) h.refused

pub no_bad_config : (job : Job) (messages : List (List ℕ)) (place : Option ℕ) (fault : OriginFault) → CanStart job.setting job.start → RefusesAt job messages place fault → fault ≢ faults.BadConfig
no_bad_config job messages place fault can h bad = never_at job messages place can (subst (RefusesAt job messages place) bad h)
