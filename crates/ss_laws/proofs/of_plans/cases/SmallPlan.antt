-- The premises of the laws are met by a small log.
use Rattle.std.proofs.Common.{◌≡◌, inl, inr, ℕ, ◌≤◌, true, false, List, [], ◌∷◌, ◌++◌, length, flat_map, replicate, Option, Some, None, Err, refl, sym, ap, ◌∙◌, arith, append-nil}
use Rattle.std.specs.List.{AllZip}
use Rattle.std.proofs.lemmas.Bool.{le-ltb}
use Rattle.std.specs.Fmt.{digits}
use Rattle.ss_message.specs.Stamp.{Moment}
use Rattle.ss_message.specs.Message.{text}
use Rattle.ss_frame.specs.Frame.{IsAllowed}
use Rattle.ss_frame.specs.Laws.{UnitsAreRead}
use Rattle.ss_block.specs.Signed.{signed}
use Rattle.ss_origin.specs.declared.counters.Counters.{Counters}
use Rattle.ss_origin.specs.declared.fault.OriginFault.TheVariants.{CounterSpent, SealRefused}
use Rattle.ss_origin.specs.declared.sealer.SealFault.TheVariants.{Refused}
use Rattle.ss_origin.specs.declared.unsigned.Unsigned.{Unsigned}
use Rattle.ss_origin.specs.Calls.{Begin, Call, Flush, Submit, pending_of}
use Rattle.ss_origin.specs.Chain.{AreTurns, Turn, calls_of}
use Rattle.ss_origin.specs.ChainLaws.{CountersStayInRange}
use Rattle.ss_origin.specs.Counting.{Start, anew, resumed}
use Rattle.ss_origin.specs.Emission.{EmitsFrom, IsSealed}
use Rattle.ss_origin.specs.Groups.{sg_of}
use Rattle.ss_origin.specs.Refusals.{first_fault}
use Rattle.ss_origin.specs.Setting.{IsSetting, Setting}
use Rattle.ss_origin.specs.State.{State, state}
use Rattle.ss_review.specs.deliveries.DeliveryLaws.{IsCase}
use Rattle.ss_review.specs.deliveries.SmallChains.{begun, certificate, message, small, whole, whole_turns}
use Rattle.ss_review.specs.deliveries.SmallChains as chains
use Rattle.ss_answers.specs.Seals.{seals_of}
use Rattle.ss_signing.specs.Accepted.{Accepts, all_calls}
use Rattle.ss_signing.specs.GoingOn.{Sent, told_ahead}
use Rattle.ss_frame.specs.declared.limits.Form.TheVariants.{Frames}
use Rattle.ss_signing.specs.Jobs.{planned, signing_from}
use Rattle.ss_signing.specs.PlanLaws.{octets_if_signed, signed_among}
use Rattle.ss_signing.specs.Run.{RefusesAt}
use Rattle.ss_signing.specs.Wants.{want_lines}
use Rattle.ss_signing.proofs.Sending.{anew_fits}
use Rattle.ss_laws.specs.plans.FileStarts.{StartsByFile}
use Rattle.ss_laws.specs.plans.ReadBack.{AheadIsReadAmongOthers, OlderCountersChangeNothing, saved_among, session_of}
use Rattle.ss_laws.specs.plans.SealedPlans.{IsPlanOfLog}
use Rattle.ss_laws.specs.plans.cases.SmallPlan.{SmallPlanIsThis, emitted, limits, log}
use Rattle.ss_laws.proofs.of_plans.ReadBack.{ends_in_range, no_counters, nothing_said, own_session}
use Rattle.ss_laws.proofs.of_plans.WantedMembers.{submitted_unsigned}

-- ---- in a scheme in which everything is valid

abbrev open_to_all : Setting → Setting
open_to_all s = record s { valid = λ text octets signature. true }

all_sealed : (s : Setting) (stamp : Option Moment) (due : List Unsigned) (messages : List (List ℕ)) → AllZip (IsSealed s stamp) due messages → AllZip (IsSealed (open_to_all s) stamp) due messages
all_sealed s stamp [] [] all = tt
all_sealed s stamp [] (m ∷ messages) all = absurd all
all_sealed s stamp (d ∷ due) [] all = absurd all
all_sealed s stamp (d ∷ due) (m ∷ messages) all = (
  record {
    signature = all.0.signature;
    some_octet = all.0.some_octet;
    at_most_1024 = all.0.at_most_1024;
    valid = refl;
    text = all.0.text;
    read = all.0.read;
  },
  all_sealed s stamp due messages all.1,
)

also_emits : (s : Setting) (old : State) (call : Call) (sent : List (List ℕ)) → EmitsFrom s old call sent → EmitsFrom (open_to_all s) old call sent
also_emits s old (Begin stamp) sent e = record { due = e.due; are_due = e.are_due; sent = record { messages = e.sent.messages; sealed = all_sealed s stamp e.due e.sent.messages e.sent.sealed; sent_are = e.sent.sent_are } }
also_emits s old (Submit m stamp) sent e = record { due = e.due; are_due = e.are_due; sent = record { messages = e.sent.messages; sealed = all_sealed s stamp e.due e.sent.messages e.sent.sealed; sent_are = e.sent.sent_are } }
also_emits s old (Flush stamp) sent e = record { due = e.due; are_due = e.are_due; sent = record { messages = e.sent.messages; sealed = all_sealed s stamp e.due e.sent.messages e.sent.sealed; sent_are = e.sent.sent_are } }

also_turns : (s : Setting) (start : Start) (turns : List Turn) → AreTurns s start turns → AreTurns (open_to_all s) start turns
also_turns s start [] are = tt
also_turns s start (t ∷ turns) are =
    (also_turns s start turns are.0, are.1, also_emits s (state s.config start (calls_of turns)) t.call t.emitted are.2)

module _ (case_of : IsCase whole) where
  setting : IsSetting small
  setting = case_of.chain.setting

  turned : AreTurns small anew whole_turns
  turned = case_of.chain.chained.0.1

  -- ---- the plan

  plan : Accepts (planned small.config small.payload) anew (all_calls anew None (message 49 ∷ [])) emitted
  plan = record {
    turns = whole_turns;
    setting = record { fit = setting.fit; head = setting.head; payload = setting.payload };
    taken = also_turns small anew whole_turns turned;
    calls_are = refl;
    emitted_are = refl;
  }

  allowed : IsAllowed limits (message 49)
  unfolding text digits
  allowed = record { some_octet = omega arith; not_too_long = omega arith; fits = tt }

  written : UnitsAreRead → IsPlanOfLog small anew None false limits log (want_lines emitted)
  written read = record {
    before = record { left = Some log; failed = false };
    after = record { left = Some []; failed = false };
    was = record { written = Some []; failed = false };
    is = record { written = Some (want_lines emitted); failed = false };
    log_shown = refl;
    run = record {
      emitted = emitted;
      sends = record {
        messages = message 49 ∷ [];
        read = record {
          reading = record {
            stream = log;
            consumes = sym (append-nil log);
            at_end = refl;
            reading = (read limits (message 49 ∷ []) (allowed, tt) (omega arith), refl);
          };
          no_read_failed = refl;
        };
        fit = refl;
        accepted = plan;
      };
      written = (refl, refl);
    };
    plan_written = ([], refl, refl);
  }

  -- ---- without a seal

  begins : EmitsFrom small (state small.config anew []) (Begin None) (certificate ∷ [])
  begins = turned.0.0.2

  refused_by : (due : List Unsigned) (messages : List (List ℕ)) → AllZip (IsSealed small None) due messages → certificate ∷ [] ≡ [] ++ flat_map (λ m. replicate 1 m) messages
      → (d : Unsigned) × (behind : List Unsigned) × (due ≡ d ∷ behind)
  refused_by [] [] zip e = absurd (cc)
  refused_by [] (m ∷ messages) zip e = absurd zip
  refused_by (d ∷ due) messages zip e = (d, due, refl)

  unsealed : RefusesAt (signing_from anew small (seals_of (Some [])) None false Frames) (message 49 ∷ []) None SealRefused
  unsealed =
      let e = begins in
      let w = refused_by e.due e.sent.messages e.sent.sealed e.sent.sent_are in
      inr (inl (record {
        is_new = refl;
        refused = record {
          emitted = [];
          accepted = record { turns = []; setting = setting; taken = tt; calls_are = refl; emitted_are = refl };
          refused = inr (inr (record {
            no_other = refl;
            due = e.due;
            are_due = e.are_due;
            fails = record {
              before = [];
              block = w.0;
              behind = w.1;
              due_are = w.2;
              sealed = tt;
              answer = Err Refused;
              allowed = refl;
              refused = tt;
            };
          }));
        };
      }))

  -- ---- its lines

  only_signed : (due : List Unsigned) (messages : List (List ℕ)) (m : List ℕ) → AllZip (IsSealed small None) due messages → m ∷ [] ≡ [] ++ flat_map (λ x. replicate 1 x) messages
      → (octets : List ℕ) × (signed m ≡ Some octets)
  only_signed due [] m zip e = absurd (cc)
  only_signed [] (x ∷ messages) m zip e = absurd zip
  only_signed (d ∷ due) (x ∷ messages) m zip e = let same : m ≡ x = cc in (_, ap signed same ∙ zip.0.read.signed)

  two_lines : length (signed_among emitted) ≡ 2
  two_lines =
      let c = begins in
      let last = turned.2 in
      let first_line = only_signed c.due c.sent.messages certificate c.sent.sealed c.sent.sent_are in
      let last_line = only_signed last.due last.sent.messages (chains.block 0 1 (message 49 ∷ [])) last.sent.sealed last.sent.sent_are in
      let between : signed (message 49) ≡ None = submitted_unsigned small.config (state small.config anew (calls_of (begun ∷ []))) (message 49) None turned.0.1 in
      by (signed certificate) (signed (message 49)) (signed (chains.block 0 1 (message 49 ∷ []))) first_line.0 last_line.0 first_line.1 between last_line.1
    where
      by : (a b c : Option (List ℕ)) (x y : List ℕ) → a ≡ Some x → b ≡ None → c ≡ Some y → length (octets_if_signed a ++ (octets_if_signed b ++ (octets_if_signed c ++ []))) ≡ 2
      by a b c x y one none two = λ i. length (octets_if_signed (one i) ++ (octets_if_signed (none i) ++ (octets_if_signed (two i) ++ [])))

  -- ---- a run, and one that starts by its file

  first : Sent small
  first = record {
    start = anew;
    stamp = None;
    messages = message 49 ∷ [];
    emitted = emitted;
    accepted = record { turns = whole_turns; setting = setting; taken = turned; calls_are = refl; emitted_are = refl };
  }

  nothing_more : (k : Counters) → k.gbc ≤ 9999999999 → AreTurns small (resumed k) (chains.turn (Flush None) [] ∷ [])
  unfolding pending_of
  nothing_more k low = (
    tt,
    ap (λ b. first_fault ((b, CounterSpent) ∷ [])) (le-ltb 10000000000 _ (omega (arith, low))),
    record { due = []; are_due = refl; sent = record { messages = []; sealed = tt; sent_are = refl } },
  )

  next_of : (k : Counters) → k.gbc ≤ 9999999999 → Sent small
  next_of k low = record {
    start = resumed k;
    stamp = None;
    messages = [];
    emitted = [];
    accepted = record { turns = chains.turn (Flush None) [] ∷ []; setting = setting; taken = nothing_more k low; calls_are = refl; emitted_are = refl };
  }

  low_gbc : (told_ahead first).gbc ≤ 9999999999
  unfolding first pending_of
  low_gbc = omega arith

  next : Sent small
  next = next_of (told_ahead first) low_gbc

  by_file : CountersStayInRange → AheadIsReadAmongOthers → OlderCountersChangeNothing → StartsByFile first next.start
  unfolding first next next_of
  by_file stay among older =
      let session = session_of small.config in
      let grouping = small.config.grouping in
      let k = told_ahead first in
      let own = own_session small setting in
      let ends = ends_in_range stay small anew (all_calls anew None (message 49 ∷ [])) emitted first.accepted (anew_fits grouping) in
      let m = among session grouping k [] [] own refl ends no_counters no_counters in
      let there = older session grouping k [] [] own refl ends no_counters no_counters (nothing_said session grouping k) in
      record {
        before = [];
        behind = [];
        before_in_range = no_counters;
        behind_in_range = no_counters;
        own_groups = refl;
        counters = saved_among session (sg_of grouping) k [] [];
        read = m.read.has;
        start_is = ap resumed (sym (there.there (saved_among session (sg_of grouping) k [] []) m.read.has));
      }

pub small_plan : IsCase whole → UnitsAreRead → CountersStayInRange → AheadIsReadAmongOthers → OlderCountersChangeNothing → SmallPlanIsThis
unfolding first
small_plan case_of read stay among older = record {
  range = record { some_octet = omega arith; at_most_a_mebibyte = omega arith; some_message = omega arith; at_most_ten_million = omega arith };
  accepted = plan case_of;
  of_log = written case_of read;
  two_lines = two_lines case_of;
  unsealed = unsealed case_of;
  first = first case_of;
  first_is_new = refl;
  next = next case_of;
  next_by_file = by_file case_of stay among older;
}
