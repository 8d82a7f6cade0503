-- A plan's lines are the signed octets of the block messages that a run emits which signs.
use Rattle.std.proofs.Common.{◌≡◌, ℕ, zero, suc, ◌+◌, ◌≤◌, true, ◌||◌, List, [], ◌∷◌, ◌++◌, length, map, replicate, reverse, refl, sym, ap, ◌∙◌, subst}
use Rattle.std.specs.Prelude.{Option, Some, None, Result, Ok, Err, not, ◌==◌}
use Rattle.std.specs.List.{AllZip, flat_map, enumerate_from}
use Rattle.std.proofs.lemmas.Bool.{not-false}
use Rattle.std.proofs.lemmas.Grind.{flat_map-append}
use Rattle.ss_message.specs.declared.fault.BadPart.{BadPart}
use Rattle.ss_message.specs.Message.{MessageValue}
use Rattle.ss_message.specs.Layout.{Layout, value_at}
use Rattle.ss_message.specs.Reading.{layout_at}
use Rattle.ss_payload.specs.Payload.{PayloadValue, payload_text}
use Rattle.ss_payload.proofs.CutLists.{same_cuts}
use Rattle.ss_block.specs.declared.hash.Hash.{Hash}
use Rattle.ss_block.specs.declared.reading.Reading.{Reading}
use Rattle.ss_block.specs.declared.reading.Reading.TheVariants as readings
use Rattle.ss_block.specs.Reading.{reading, reading_from, value_reading}
use Rattle.ss_block.specs.Signed.{signed, signed_from, signed_if_block}
use Rattle.ss_origin.specs.declared.config.Config.{Config}
use Rattle.ss_origin.specs.declared.fault.OriginFault.TheVariants.{NotBegun, NotSyslog, HasBlock}
use Rattle.ss_origin.specs.Counting.{Start, names, number_in}
use Rattle.ss_origin.specs.Calls.{Call, Begin, Submit, Flush, messages_of, pending_of, pending_hashes, has_begin, stamp_of}
use Rattle.ss_origin.specs.State.{State, state, pending_in, blocks_closed, runs_closed}
use Rattle.ss_origin.specs.Blocks.{unsigned_text}
use Rattle.ss_origin.specs.Setting.{Setting}
use Rattle.ss_origin.specs.declared.unsigned.Unsigned.{Unsigned}
use Rattle.ss_origin.specs.Emission.{certificate_of, block_of, blocks_of, AreDue, IsSealed, sent_first, EmitsFrom}
use Rattle.ss_origin.specs.Refusals.{is_unparsed, is_plain, fault_of}
use Rattle.ss_origin.specs.Chain.{Turn, calls_of, AreTurns}
use Rattle.ss_origin.proofs.Configs.{has_ranges}
use Rattle.ss_origin.proofs.CountersInRange.{none_first}
use Rattle.ss_signing.specs.Wants.{want_of, want_line, line_if_signed, want_lines}
use Rattle.ss_signing.specs.Jobs.{planned}
use Rattle.ss_signing.specs.PlanLaws.{octets_if_signed, signed_among, PlansTellWhatIsSigned}
use Rattle.ss_signing.proofs.Sending.{emitted_more}

-- ---- lists

once_each : {X : Type 0} (xs : List X) → flat_map (λ x. replicate 1 x) xs ≡ xs
once_each [] = refl
once_each (x ∷ xs) = ap (λ r. x ∷ r) (once_each xs)

among-append : (xs ys : List (List ℕ)) → signed_among (xs ++ ys) ≡ signed_among xs ++ signed_among ys
among-append xs ys = flat_map-append (λ m. octets_if_signed (signed m)) xs ys

-- ---- how often a block is sent doesn't change what is due

abbrev once : Config → Config
once c = record c { copies = 1 }

same_runs : (c : Config) (pending : ℕ → List Hash) (call : Call) → runs_closed (once c) pending call ≡ runs_closed c pending call
same_runs c pending (Begin stamp) = refl
same_runs c pending (Submit message stamp) = refl
same_runs c pending (Flush stamp) = refl

same_count : (c : Config) (calls : List Call) → blocks_closed (once c) calls ≡ blocks_closed c calls
unfolding pending_of
same_count c [] = refl
same_count c (call ∷ before) =
    ap (λ n. n + length (runs_closed (once c) (pending_hashes c before) call)) (same_count c before)
    ∙ ap (λ runs. blocks_closed c before + length runs) (same_runs c (pending_hashes c before) call)

pub same_state : (c : Config) (start : Start) (calls : List Call) → state (once c) start calls ≡ state c start calls
unfolding pending_of
same_state c start calls =
    let with_count : ℕ → State = λ n. record {
      begun = start.begun || has_begin calls;
      gbc = start.counters.gbc + n;
      groups = λ spri. record {
        known = names start.counters.groups spri || not (length (messages_of c.grouping spri calls) == 0);
        number = number_in start.counters.groups spri + length (messages_of c.grouping spri calls);
        pending = pending_hashes c calls spri;
      };
    } in
    ap with_count (same_count c calls)

same_blocks : (c : Config) (old : State) (call : Call) → blocks_of (once c) old call ≡ blocks_of c old call
same_blocks c old call = ap (λ runs. map (block_of c old) (enumerate_from old.gbc runs)) (same_runs c (pending_in old) call)

due_again : (s : Setting) (old : State) (call : Call) (due : List Unsigned) → AreDue (planned s.config s.payload) old call due → AreDue s old call due
due_again s old (Begin stamp) due are = are
due_again s old (Submit message stamp) due are = are ∙ same_blocks s.config old (Submit message stamp)
due_again s old (Flush stamp) due are = are ∙ same_blocks s.config old (Flush stamp)

-- no other blocks are due in a call
pub none_else_due : (s : Setting) (old : State) (call : Call) (due others : List Unsigned) → 1 ≤ s.config.frag → AreDue s old call due → AreDue s old call others → due ≡ others
none_else_due s old (Begin stamp) due others some are be =
    are.2
    ∙ ap (map (certificate_of s.config (payload_text s.payload))) (same_cuts (length (payload_text s.payload)) s.config.frag are.0 be.0 some are.1 be.1)
    ∙ sym be.2
none_else_due s old (Submit message stamp) due others some are be = are ∙ sym be
none_else_due s old (Flush stamp) due others some are be = are ∙ sym be

-- ---- what is signed of what a call emits

-- nothing is signed of a message that is submitted
nothing_signed : (r : Reading) (v : MessageValue) → is_plain r ≡ true → signed_if_block r v ≡ None
nothing_signed readings.Plain v h = refl
nothing_signed (readings.Unparsed part pos) v h = refl
nothing_signed (readings.Spoilt cause) v h = refl
nothing_signed (readings.Signature b) v h = absurd (cc)
nothing_signed (readings.Certificate b) v h = absurd (cc)

plain_is_unsigned : (m : List ℕ) → is_plain (reading m) ≡ true → signed m ≡ None
unfolding reading signed
plain_is_unsigned m = by (layout_at m)
  where
    by : (l : Result Layout BadPart) → is_plain (reading_from m l) ≡ true → signed_from m l ≡ None
    by (Ok l) h = nothing_signed (value_reading (value_at m l)) (value_at m l) h
    by (Err e) h = refl

first_unsigned : (c : Config) (old : State) (call : Call) → fault_of c old call ≡ None → signed_among (sent_first call) ≡ []
first_unsigned c old (Begin stamp) e = refl
first_unsigned c old (Submit message stamp) e =
    let begun = none_first (not old.begun) NotBegun _ e in
    let parsed = none_first (is_unparsed (reading message)) NotSyslog _ begun.1 in
    let plain = none_first (not (is_plain (reading message))) HasBlock _ parsed.1 in
    ap (λ o. octets_if_signed o ++ []) (plain_is_unsigned message (not-false (is_plain (reading message)) plain.0))
first_unsigned c old (Flush stamp) e = refl

signed_copies : (n : ℕ) (m octets : List ℕ) → signed m ≡ Some octets → signed_among (replicate n m) ≡ replicate n octets
signed_copies zero m octets e = refl
signed_copies (suc n) m octets e =
    ap (λ o. octets_if_signed o ++ signed_among (replicate n m)) e ∙ ap (λ r. octets ∷ r) (signed_copies n m octets e)

signed_sealed : {U : Type 0} (octets_of : U → List ℕ) (R : U → List ℕ → Type 0) → ((d : U) (m : List ℕ) → R d m → signed m ≡ Some (octets_of d)) → (n : ℕ) (due : List U) (messages : List (List ℕ)) → AllZip R due messages
    → signed_among (flat_map (λ m. replicate n m) messages) ≡ flat_map (λ octets. replicate n octets) (map octets_of due)
signed_sealed octets_of R read n [] [] zip = refl
signed_sealed octets_of R read n [] (m ∷ messages) zip = absurd zip
signed_sealed octets_of R read n (d ∷ due) [] zip = absurd zip
signed_sealed octets_of R read n (d ∷ due) (m ∷ messages) zip =
    among-append (replicate n m) (flat_map (λ x. replicate n x) messages)
    ∙ ap (λ front. front ++ signed_among (flat_map (λ x. replicate n x) messages)) (signed_copies n m (octets_of d) (read d m zip.0))
    ∙ ap (λ behind. replicate n (octets_of d) ++ behind) (signed_sealed octets_of R read n due messages zip.1)

signed_emitted : (s : Setting) (old : State) (call : Call) (emitted : List (List ℕ)) → fault_of s.config old call ≡ None → (e : EmitsFrom s old call emitted)
    → signed_among emitted ≡ flat_map (λ octets. replicate s.config.copies octets) (map (unsigned_text s.config.head (stamp_of call)) e.due)
signed_emitted s old call emitted accepted e =
    let blocks = flat_map (λ m. replicate s.config.copies m) e.sent.messages in
    ap signed_among e.sent.sent_are
    ∙ among-append (sent_first call) blocks
    ∙ ap (λ front. front ++ signed_among blocks) (first_unsigned s.config old call accepted)
    ∙ signed_sealed (unsigned_text s.config.head (stamp_of call)) (IsSealed s (stamp_of call)) (λ d m sealed. sealed.read.signed) s.config.copies e.due e.sent.messages e.sent.sealed

-- of what a call of a plan emits
pub signed_once : (c : Config) (payload : PayloadValue) (old : State) (call : Call) (emitted : List (List ℕ)) → fault_of (once c) old call ≡ None → (e : EmitsFrom (planned c payload) old call emitted) → signed_among emitted ≡ map (unsigned_text c.head (stamp_of call)) e.due
signed_once c payload old call emitted accepted e =
    signed_emitted (planned c payload) old call emitted accepted e ∙ once_each (map (unsigned_text c.head (stamp_of call)) e.due)

-- ---- two runs

module _ (s : Setting) (start : Start) (some : 1 ≤ s.config.frag) where
  abbrev copied : List (List ℕ) → List (List ℕ)
  copied octets = flat_map (λ o. replicate s.config.copies o) octets

  abbrev plan : Setting
  plan = planned s.config s.payload

  call_signed : (old : State) (call : Call) (emitted for_plan : List (List ℕ))
      → fault_of s.config old call ≡ None
      → EmitsFrom s old call emitted
      → fault_of plan.config old call ≡ None
      → EmitsFrom plan old call for_plan
      → signed_among emitted ≡ copied (signed_among for_plan)
  call_signed old call emitted for_plan accepted e taken p =
      let form : signed_among for_plan ≡ map (unsigned_text s.config.head (stamp_of call)) e.due
      = signed_once s.config s.payload old call for_plan taken p
      ∙ ap (map (unsigned_text s.config.head (stamp_of call))) (none_else_due s old call p.due e.due some (due_again s old call p.due p.are_due) e.are_due) in
      signed_emitted s old call emitted accepted e ∙ ap copied (sym form)

  abbrev sent : List Turn → List (List ℕ)
  sent turns = flat_map (λ t. t.emitted) (reverse turns)

  turns_signed : (turns others : List Turn) → calls_of others ≡ calls_of turns → AreTurns s start turns → AreTurns plan start others → signed_among (sent turns) ≡ copied (signed_among (sent others))
  turns_signed [] [] same are be = refl
  turns_signed [] (p ∷ others) same are be = absurd (cc)
  turns_signed (t ∷ turns) [] same are be = absurd (cc)
  turns_signed (t ∷ turns) (p ∷ others) same are be =
      let call : p.call ≡ t.call = cc in
      let calls : calls_of others ≡ calls_of turns = cc in
      let old : State = state s.config start (calls_of turns) in
      let known : state plan.config start (calls_of others) ≡ old = same_state s.config start (calls_of others) ∙ ap (state s.config start) calls in
      let taken : fault_of plan.config old t.call ≡ None
      = subst (λ k. fault_of plan.config old k ≡ None) call (subst (λ st. fault_of plan.config st p.call ≡ None) known be.1) in
      let emits : EmitsFrom plan old t.call p.emitted
      = subst (λ k. EmitsFrom plan old k p.emitted) call (subst (λ st. EmitsFrom plan st p.call p.emitted) known be.2) in
      ap signed_among (sym (emitted_more turns t (sent turns) refl))
      ∙ among-append (sent turns) t.emitted
      ∙ ap (λ front. front ++ signed_among t.emitted) (turns_signed turns others calls are.0 be.0)
      ∙ ap (λ behind. copied (signed_among (sent others)) ++ behind) (call_signed old t.call t.emitted p.emitted are.1 are.2 taken emits)
      ∙ sym (flat_map-append (λ o. replicate s.config.copies o) (signed_among (sent others)) (signed_among p.emitted))
      ∙ ap copied (sym (among-append (sent others) p.emitted))
      ∙ ap (λ all. copied (signed_among all)) (emitted_more others p (sent others) refl)

-- ---- the lines

pub lines_told : (messages : List (List ℕ)) → want_lines messages ≡ flat_map want_line (signed_among messages)
unfolding want_of
lines_told [] = refl
lines_told (m ∷ messages) = by (signed m) (lines_told messages)
  where
    by : (o : Option (List ℕ)) → want_lines messages ≡ flat_map want_line (signed_among messages)
        → line_if_signed o ++ want_lines messages ≡ flat_map want_line (octets_if_signed o ++ signed_among messages)
    by (Some octets) rest = ap (λ lines. want_line octets ++ lines) rest
    by None rest = rest

pub plans_tell_what_is_signed : PlansTellWhatIsSigned
plans_tell_what_is_signed s start stamp messages emitted for_plan signs plans = record {
  lines = lines_told for_plan;
  signed =
      ap signed_among signs.emitted_are
      ∙ turns_signed s start (has_ranges s.config signs.setting.fit.config).some_octet signs.turns plans.turns (plans.calls_are ∙ sym signs.calls_are) signs.taken plans.taken
      ∙ ap (λ all. flat_map (λ o. replicate s.config.copies o) (signed_among all)) (sym plans.emitted_are);
}
