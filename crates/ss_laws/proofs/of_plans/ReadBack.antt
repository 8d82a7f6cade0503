-- What is written ahead is read back.
use Rattle.std.proofs.Common.{◌≡◌, ◌⊎◌, inl, inr, ℕ, ◌+◌, ◌<◌, ◌^◌, true, false, List, [], ◌∷◌, ◌++◌, length, reverse, All, Option, Some, None, refl, sym, ap, ◌∙◌, subst, arith, append-nil, length-append}
use Rattle.std.specs.List.{AllByRecursion, list_any}
use Rattle.std.specs.Io.KnownBytes.{Appends}
use Rattle.std.proofs.lemmas.Bool.{true≢false}
use Rattle.std.proofs.lemmas.Grind.{flat_map-append}
use Rattle.std.proofs.lemmas.List.{append_cancel_left}
use Rattle.std.proofs.lemmas.List.Elements.{All-from_recursion, recursion_from_All}
use Rattle.ss_message.specs.Message.{is_field}
use Rattle.ss_frame.specs.Output.{WritesWhole}
use Rattle.ss_frame.specs.Watched.{Sink}
use Rattle.ss_block.specs.declared.session.Session.{Session}
use Rattle.ss_block.specs.Session.{field_from}
use Rattle.ss_origin.specs.declared.counters.Counters.{Counters}
use Rattle.ss_origin.specs.declared.grouping.Grouping.{Grouping}
use Rattle.ss_origin.specs.Calls.{Call}
use Rattle.ss_origin.specs.ChainLaws.{CountersStayInRange}
use Rattle.ss_origin.specs.Counting.{Start, are_counters}
use Rattle.ss_origin.specs.Groups.{sg_of}
use Rattle.ss_origin.specs.Setting.{Setting, IsSetting}
use Rattle.ss_origin.specs.State.{state, counters_of}
use Rattle.ss_origin.proofs.Configs.{has_ranges}
use Rattle.ss_review.specs.declared.counted.counter.Counter.{Counter}
use Rattle.ss_review.specs.counted.CounterRange.{IsName, IsSession, IsCounter}
use Rattle.ss_review.specs.counted.Kept.{gbc_in, number_in}
use Rattle.ss_answers.specs.declared.counters.fault.CounterFault.{CounterFault}
use Rattle.ss_answers.specs.declared.counters.fault.CounterFault.TheVariants as reads
use Rattle.ss_answers.specs.declared.counters.start_fault.StartFault.{StartFault}
use Rattle.ss_answers.specs.declared.counters.start_fault.StartFault.TheVariants as starts
use Rattle.ss_answers.specs.CounterInput.{IsCounterFault}
use Rattle.ss_answers.specs.CounterFile.{HasCounters, HasFirstBadCounter, HasOnly, IsNotWhole, PartsHaveTheirCounters, part_text, text_of_parts, together}
use Rattle.ss_answers.specs.Input.{GivesAll, GivesMore}
use Rattle.ss_answers.specs.Start.{IsStartFault, is_of_other, start_of}
use Rattle.ss_signing.specs.Accepted.{all_calls, Accepts}
use Rattle.ss_signing.specs.Prepared.{prepared_for}
use Rattle.ss_signing.specs.Ahead.{counters_text}
use Rattle.ss_signing.specs.Jobs.{planned}
use Rattle.ss_signing.proofs.Plans.{same_state}
use Rattle.ss_laws.specs.plans.Known.{Wrote}
use Rattle.ss_laws.specs.plans.ReadBack.{AheadIsReadAmongOthers, AheadIsReadBack, AreNoGreater, GoesOnAt, IsReadAs, IsReadBack, OlderCountersChangeNothing, RunsAheadAreReadBack, saved, saved_among, session_of, text_among}
use Rattle.ss_laws.proofs.of_plans.SavedNumbers.{AreInRange, are_in_range}
use Rattle.ss_laws.proofs.of_plans.SavedLines.{saved_are_counters, text_is_part, text_is_short}
use Rattle.ss_laws.proofs.of_plans.SavedStarts.{goes_on_at_greater, greater_is_same, refused_for_others}

-- ---- among others

parts_among : (s : Session) (sg : ℕ) (k : Counters) (before behind : List (List Counter)) → text_among s sg k before behind ≡ text_of_parts (before ++ saved s sg k ∷ behind)
parts_among s sg k before behind =
    ap (λ text. text_of_parts before ++ (text ++ text_of_parts behind)) (text_is_part s sg k)
    ∙ sym (flat_map-append part_text before (saved s sg k ∷ behind))

saved_parts : (s : Session) (sg : ℕ) (k : Counters) (before behind : List (List Counter)) → together (before ++ saved s sg k ∷ behind) ≡ saved_among s sg k (together before) (together behind)
saved_parts s sg k before behind = flat_map-append (λ (cs : List Counter). cs) before (saved s sg k ∷ behind)

parts_some : (before behind : List (List Counter)) (own : List Counter) → 0 < length (before ++ own ∷ behind)
parts_some before behind own = omega (arith, length-append before (own ∷ behind))

all_append : (xs ys : List Counter) → AllByRecursion IsCounter xs → AllByRecursion IsCounter ys → AllByRecursion IsCounter (xs ++ ys)
all_append [] ys a b = b
all_append (x ∷ xs) ys a b = (a.0, all_append xs ys a.1 b)

pub counters_among : (s : Session) (grouping : Grouping) (k : Counters) (before behind : List Counter) → IsSession s → AreInRange grouping k → All IsCounter before → All IsCounter behind → All IsCounter (saved_among s (sg_of grouping) k before behind)
counters_among s grouping k before behind is ranges b a =
    All-from_recursion IsCounter (saved_among s (sg_of grouping) k before behind)
    (all_append before (saved s (sg_of grouping) k ++ behind) (recursion_from_All IsCounter before b) (all_append (saved s (sg_of grouping) k) behind (saved_are_counters s grouping k is ranges) (recursion_from_All IsCounter behind a)))

pub ahead_is_read_among_others : PartsHaveTheirCounters → AheadIsReadAmongOthers
ahead_is_read_among_others law s grouping k before behind is grouped are b a =
    let ranges = are_in_range grouping k grouped are in
    let sg = sg_of grouping in
    let parts = before ++ saved s sg k ∷ behind in
    let all = saved_among s sg k (together before) (together behind) in
    let same : together parts ≡ all = saved_parts s sg k before behind in
    let range : All IsCounter (together parts) = subst (All IsCounter) (sym same) (counters_among s grouping k (together before) (together behind) is ranges b a) in
    record {
      read = subst (λ text. HasOnly text all) (sym (parts_among s sg k before behind)) (subst (HasOnly (text_of_parts parts)) same (law parts (parts_some before behind (saved s sg k)) range));
      goes_on = goes_on_at_greater s grouping k (together before) (together behind) ranges.rise;
      refused = refused_for_others s grouping k (together before) (together behind) ranges;
    }

pub older_counters_change_nothing : AheadIsReadAmongOthers → OlderCountersChangeNothing
older_counters_change_nothing among s grouping k before behind is grouped are b a no_greater =
    let ranges = are_in_range grouping k grouped are in
    let m = among s grouping k before behind is grouped are b a in
    let others = together before ++ together behind in
    let same : (counters : List Counter) → HasCounters (text_among s (sg_of grouping) k before behind) counters → counters ≡ saved_among s (sg_of grouping) k (together before) (together behind)
    = λ counters has. m.read.no_others counters has in
    record {
      there = λ counters has. ap (start_of s grouping) (same counters has) ∙ m.goes_on ∙ greater_is_same s grouping k others ranges no_greater;
      refused = λ counters fault has refuses.
          by fault (m.refused fault (subst (λ cs. IsStartFault s grouping cs fault) (same counters has) refuses)) no_greater.own_groups;
    }
  where
    by : (fault : StartFault) → (fault ≡ starts.Memory) ⊎ (list_any (is_of_other s grouping) (together before ++ together behind) ≡ true) → list_any (is_of_other s grouping) (together before ++ together behind) ≡ false
        → fault ≡ starts.Memory
    by fault (inl e) none = e
    by fault (inr other) none = absurd (true≢false (sym other ∙ none))

-- ---- alone

pub nothing_said : (s : Session) (grouping : Grouping) (k : Counters) → AreNoGreater s grouping k []
unfolding gbc_in number_in
nothing_said s grouping k = record { gbc = omega arith; numbers = λ spri below. omega arith; own_groups = refl }

pub no_counters : All IsCounter []
no_counters = All-from_recursion IsCounter [] tt

-- a file that has exactly this text isn't too long, and has no bad line
module _ (text : List ℕ) (counters : List Counter) (only : HasOnly text counters) (short : length text < 2 ^ 32) where
  whole : (after : Option (List ℕ)) (given : List ℕ) → GivesAll (Some text) after 4294967295 given → given ≡ text
  whole None given all = absurd all.taken
  whole (Some rest) given all =
      let taken : text ≡ given ++ rest = all.taken in
      let ended : rest ≡ [] = all.at_end in
      sym (taken ∙ ap (λ r. given ++ r) ended ∙ append-nil given)

  no_more : (after : Option (List ℕ)) → GivesMore (Some text) after 4294967295 → ⊥
  no_more None more = absurd more.taken
  no_more (Some rest) more =
      let taken : text ≡ more.text ++ rest = more.taken in
      let long : length text ≡ length more.text + length rest = ap length taken ∙ length-append more.text rest in
      let beyond = more.beyond in
      omega (arith, short, long, beyond)

  faults : (after : Option (List ℕ)) (fault : CounterFault) → IsCounterFault (Some text) after 4294967295 fault → (fault ≡ reads.Read) ⊎ (fault ≡ reads.Memory)
  faults after (reads.BadLine line) bad = absurd (only.none_bad line (subst (λ t. HasFirstBadCounter t line) (whole after bad.text bad.all) bad.first))
  faults after reads.Read bad = inl refl
  faults after reads.TooBig bad = absurd (no_more after bad)
  faults after reads.NotWhole bad = absurd (only.whole (subst IsNotWhole (whole after bad.text bad.all) bad.not_whole))
  faults after reads.Memory bad = inr refl

  pub is_read_as : IsReadAs text counters
  is_read_as = record { only = only; faults = faults }

pub ahead_is_read_back : AheadIsReadAmongOthers → OlderCountersChangeNothing → AheadIsReadBack
ahead_is_read_back among older s grouping k is grouped are =
    let sg = sg_of grouping in
    let ranges = are_in_range grouping k grouped are in
    let alone : text_among s sg k [] [] ≡ counters_text s sg k = append-nil (counters_text s sg k) in
    let all : saved_among s sg k [] [] ≡ saved s sg k = append-nil (saved s sg k) in
    let m = among s grouping k [] [] is grouped are no_counters no_counters in
    let only : HasOnly (counters_text s sg k) (saved s sg k) = subst (λ text. HasOnly text (saved s sg k)) alone (subst (HasOnly (text_among s sg k [] [])) all m.read) in
    record {
      read = is_read_as (counters_text s sg k) (saved s sg k) only (subst (λ text. length text < 2 ^ 32) (sym (text_is_part s sg k)) (text_is_short s grouping k is ranges));
      goes_on = subst (λ text. GoesOnAt s grouping text k) alone (older s grouping k [] [] is grouped are no_counters no_counters (nothing_said s grouping k));
    }

-- ---- runs

name_from : (limit : ℕ) (o : Option (List ℕ)) → is_field limit o ≡ true → IsName limit (field_from o)
name_from limit None is = is
name_from limit (Some octets) is = is

pub own_session : (s : Setting) → IsSetting s → IsSession (session_of s.config)
own_session s is = record {
  host = name_from 255 s.config.head.hostname is.head.hostname;
  app = name_from 48 s.config.head.app_name is.head.app_name;
  procid = name_from 128 s.config.head.procid is.head.procid;
  rsid = (has_ranges s.config is.fit.config).rsid;
}

-- the counters after accepted calls are in their ranges
pub ends_in_range : CountersStayInRange → (s : Setting) (start : Start) (calls : List Call) (emitted : List (List ℕ)) → Accepts s start calls emitted → are_counters s.config.grouping start.counters ≡ true
    → are_counters s.config.grouping (counters_of (state s.config start (reverse calls))) ≡ true
ends_in_range stay s start calls emitted a are =
    subst (λ cs. are_counters s.config.grouping (counters_of (state s.config start cs)) ≡ true) a.calls_are (stay s start a.turns a.setting.fit.config are a.taken)

pub written_is : (was is : Sink) (text octets : List ℕ) → Wrote was is text → WritesWhole was is octets → text ≡ octets
written_is was is text octets wrote writes =
    let appends : wrote.0 ++ text ≡ wrote.0 ++ octets
    = subst (λ o. Appends (Some wrote.0) o octets) wrote.2 (subst (λ o. Appends o is.written octets) wrote.1 writes.0) in
    append_cancel_left wrote.0 text octets appends

pub runs_ahead_are_read_back : CountersStayInRange → AheadIsReadBack → RunsAheadAreReadBack
runs_ahead_are_read_back stay back config payload start stamp wraps limits before after was is text are run wrote =
    let calls = all_calls start stamp (prepared_for wraps config.head stamp run.sends.messages) in
    let k = counters_of (state config start (reverse calls)) in
    let setting = run.sends.accepted.setting in
    let ends : are_counters config.grouping k ≡ true
    = subst (λ st. are_counters config.grouping (counters_of st) ≡ true) (same_state config start (reverse calls)) (ends_in_range stay (planned config payload) start calls run.emitted run.sends.accepted are) in
    let same : text ≡ counters_text (session_of config) (sg_of config.grouping) k = written_is was is text (counters_text (session_of config) (sg_of config.grouping) k) wrote run.written in
    subst (λ t. IsReadBack (session_of config) config.grouping k t) (sym same) (back (session_of config) config.grouping k (own_session (planned config payload) setting) (has_ranges (planned config payload).config setting.fit.config).grouping ends)
