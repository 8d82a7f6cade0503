-- What is emitted where lines are written holds no LF.
use Rattle.std.proofs.Common.{◌≡◌, ℕ, zero, suc, ◌+◌, ◌<◌, ◌≤◌, Bool, true, false, cond, eqb, List, [], ◌∷◌, ◌++◌, length, map, replicate, reverse, take, get_or, refl, sym, ap, ◌∙◌, subst, arith}
use Rattle.std.specs.Prelude.{Option, Some, None, option_map, nat_lt, slice_index_or}
use Rattle.std.specs.Option.{option_or}
use Rattle.std.specs.List.{AllByRecursion, AllZip, Contains, flat_map, list_any, position, position_or_len}
use Rattle.std.proofs.lemmas.Bool.{eqb-false, lt-leb, or_parts}
use Rattle.std.proofs.lemmas.Grind.{reverse_onto}
use Rattle.std.proofs.lemmas.List.Sums.{fails_before_first}
use Rattle.ss_octets.proofs.Base64Text.{Clear}
use Rattle.ss_message.specs.Stamp.{Moment}
use Rattle.ss_frame.specs.declared.limits.Form.TheVariants as forms
use Rattle.ss_frame.specs.End.{Clean}
use Rattle.ss_frame.specs.Frame.{FitsForm, HasNoLf, IsAllowed, units_in}
use Rattle.ss_frame.specs.Limits.{Allowance}
use Rattle.ss_frame.specs.Stream.{reads}
use Rattle.ss_frame.proofs.RunLaws.{read_units}
use Rattle.ss_payload.specs.Payload.{payload_text}
use Rattle.ss_payload.specs.declared.cuts.Cut.{Cut}
use Rattle.ss_block.specs.Head.{HeadValue, IsHead}
use Rattle.ss_origin.specs.declared.config.Config.{Config}
use Rattle.ss_origin.specs.declared.unsigned.Unsigned.{Unsigned}
use Rattle.ss_origin.specs.declared.unsigned.Unsigned.TheVariants.{Certificate, Signature}
use Rattle.ss_origin.specs.Calls.{Call, Begin, Submit, Flush, stamp_of}
use Rattle.ss_origin.specs.Chain.{Turn, AreTurns, calls_of}
use Rattle.ss_origin.specs.Counting.{Start}
use Rattle.ss_origin.specs.Emission.{AreDue, EmitsFrom, IsSealed, block_of, certificate_of, sent_first}
use Rattle.ss_origin.specs.Sealing.{Answers}
use Rattle.ss_origin.specs.Setting.{Setting}
use Rattle.ss_origin.specs.State.{State, state}
use Rattle.ss_origin.proofs.RunsClosed.{all-append}
use Rattle.ss_wrap.specs.Wrap.{prepared}
use Rattle.ss_signing.specs.declared.fault.SignFault.{SignFault}
use Rattle.ss_signing.specs.declared.fault.SignFault.TheVariants.{LongWrap, Run}
use Rattle.ss_report.specs.declared.fault.RunFault.TheVariants.{Extract}
use Rattle.ss_report.specs.declared.runs.extraction.ExtractFault.TheVariants.{HoldsLf}
use Rattle.ss_signing.specs.Accepted.{Accepts, all_calls, calls_for}
use Rattle.ss_signing.specs.LineLaws.{FitsLimit, LinesAreRead, LinesHoldNoLf}
use Rattle.ss_signing.specs.Prepared.{first_long, first_no_line, has_lf, prepared_for}
use Rattle.ss_signing.proofs.NoLf.{NoLf, certificate_clear, payload_clear, piece_clear, prepared_clear, signature_clear}
use Rattle.ss_signing.proofs.Sending.{emitted_more}

-- ---- lists

all_reverse : {X : Type 0} (Q : X → Type 0) (xs : List X) → AllByRecursion Q xs → AllByRecursion Q (reverse xs)
all_reverse Q [] all = tt
all_reverse Q (x ∷ xs) all = subst (AllByRecursion Q) (sym (reverse_onto xs x [])) (all-append Q (reverse xs) (x ∷ []) (all_reverse Q xs all.1) (all.0, tt))

all_map : {X Y : Type 0} (Q : X → Type 0) (W : Y → Type 0) (f : X → Y) → ((x : X) → Q x → W (f x)) → (xs : List X) → AllByRecursion Q xs → AllByRecursion W (map f xs)
all_map Q W f each [] all = tt
all_map Q W f each (x ∷ xs) all = (each x all.0, all_map Q W f each xs all.1)

all_replicate : {X : Type 0} (Q : X → Type 0) (n : ℕ) (x : X) → Q x → AllByRecursion Q (replicate n x)
all_replicate Q zero x h = tt
all_replicate Q (suc n) x h = (h, all_replicate Q n x h)

all_copies : {X : Type 0} (Q : X → Type 0) (n : ℕ) (xs : List X) → AllByRecursion Q xs → AllByRecursion Q (flat_map (λ x. replicate n x) xs)
all_copies Q n [] all = tt
all_copies Q n (x ∷ xs) all = all-append Q (replicate n x) (flat_map (λ y. replicate n y) xs) (all_replicate Q n x all.0) (all_copies Q n xs all.1)

all_at : {X : Type 0} (Q : X → Type 0) (d : X) (xs : List X) → ((k : ℕ) → k < length xs → Q (get_or xs k d)) → AllByRecursion Q xs
all_at Q d [] each = tt
all_at Q d (x ∷ xs) each = (each 0 (omega arith), all_at Q d xs (λ k less. each (suc k) (omega (arith, less))))

-- ---- messages of the log

clear_from : (octets : List ℕ) → has_lf octets ≡ false → NoLf octets
clear_from [] h = tt
clear_from (x ∷ octets) h = let parts = or_parts (eqb x 10) (has_lf octets) h in (parts.0, clear_from octets parts.1)

none_of : {X : Type 0} (f : X → SignFault) (o : Option X) (rest : Option SignFault) → option_or (option_map f o) rest ≡ None → o ≡ None
none_of f None rest e = refl
none_of f (Some x) rest e = absurd (cc)

no_position : {X : Type 0} (p : X → Bool) (xs : List X) → position p xs ≡ None → length xs ≤ position_or_len p xs
no_position p xs none = by (nat_lt (position_or_len p xs) (length xs)) refl none
  where
    by : (b : Bool) → nat_lt (position_or_len p xs) (length xs) ≡ b → cond b (Some (position_or_len p xs)) None ≡ None → length xs ≤ position_or_len p xs
    by true is e = absurd (cc)
    by false is e = grind (arith, is)

messages_clear : (messages : List (List ℕ)) → first_no_line forms.Lines messages ≡ None → AllByRecursion NoLf messages
messages_clear messages none =
    let all = no_position has_lf messages none in
    all_at NoLf [] messages (λ k less. clear_from (get_or messages k []) (fails_before_first has_lf messages k [] (omega (arith, less, all))))

submitted_clear : (wraps : Bool) (h : HeadValue) (stamp : Option Moment) (messages : List (List ℕ)) → IsHead h → AllByRecursion NoLf messages → AllByRecursion NoLf (prepared_for wraps h stamp messages)
submitted_clear false h stamp messages head all = all
submitted_clear true h stamp messages head all = all_map NoLf NoLf (prepared h stamp) (λ m clear. prepared_clear h stamp m head clear) messages all

-- ---- what is emitted

-- what is submitted in the call holds no LF
abbrev IsClearCall : Call → Type 0
IsClearCall (Begin stamp) = Unit {0}
IsClearCall (Submit message stamp) = NoLf message
IsClearCall (Flush stamp) = Unit {0}

calls_clear : (start : Start) (stamp : Option Moment) (messages : List (List ℕ)) → AllByRecursion NoLf messages → AllByRecursion IsClearCall (all_calls start stamp messages)
calls_clear start stamp messages all =
    all-append IsClearCall (calls_for start stamp messages) (Flush stamp ∷ []) (by start.begun) (tt, tt)
  where
    submits : AllByRecursion IsClearCall (map (λ m. Submit m stamp) messages)
    submits = all_map NoLf IsClearCall (λ m. Submit m stamp) (λ m clear. clear) messages all

    by : (b : Bool) → AllByRecursion IsClearCall (cond b (map (λ m. Submit m stamp) messages) (Begin stamp ∷ map (λ m. Submit m stamp) messages))
    by true = submits
    by false = (tt, submits)

-- the fragment of a block holds no LF
abbrev IsClearBlock : Unsigned → Type 0
IsClearBlock (Signature b) = Unit {0}
IsClearBlock (Certificate b) = NoLf b.fragment

sealed_clear : (s : Setting) (stamp : Option Moment) (due : Unsigned) (m : List ℕ) → IsHead s.config.head → IsClearBlock due → IsSealed s stamp due m → NoLf m
sealed_clear s stamp (Signature b) m head clear sealed = subst NoLf (sym sealed.text) (signature_clear s.config.head stamp _ head)
sealed_clear s stamp (Certificate b) m head clear sealed = subst NoLf (sym sealed.text) (certificate_clear s.config.head stamp _ head clear)

all_sealed_clear : (s : Setting) (stamp : Option Moment) (due : List Unsigned) (messages : List (List ℕ)) → IsHead s.config.head → AllByRecursion IsClearBlock due → AllZip (IsSealed s stamp) due messages → AllByRecursion NoLf messages
all_sealed_clear s stamp [] [] head clear zip = tt
all_sealed_clear s stamp [] (m ∷ messages) head clear zip = absurd zip
all_sealed_clear s stamp (d ∷ due) [] head clear zip = absurd zip
all_sealed_clear s stamp (d ∷ due) (m ∷ messages) head clear zip =
    (sealed_clear s stamp d m head clear.0 zip.0, all_sealed_clear s stamp due messages head clear.1 zip.1)

anything : {X : Type 0} (xs : List X) → AllByRecursion (λ x. Unit {0}) xs
anything [] = tt
anything (x ∷ xs) = (tt, anything xs)

due_clear : (s : Setting) (old : State) (call : Call) (due : List Unsigned) → AreDue s old call due → AllByRecursion IsClearBlock due
due_clear s old (Begin stamp) due are =
    subst (AllByRecursion IsClearBlock) (sym are.2)
    (all_map (λ c. Unit {0}) IsClearBlock (certificate_of s.config (payload_text s.payload)) (λ c any. piece_clear (payload_text s.payload) c (payload_clear s.payload)) are.0 (anything are.0))
due_clear s old (Submit message stamp) due are =
    subst (AllByRecursion IsClearBlock) (sym are) (all_map (λ c. Unit {0}) IsClearBlock (block_of s.config old) (λ c any. tt) _ (anything _))
due_clear s old (Flush stamp) due are =
    subst (AllByRecursion IsClearBlock) (sym are) (all_map (λ c. Unit {0}) IsClearBlock (block_of s.config old) (λ c any. tt) _ (anything _))

first_clear : (call : Call) → IsClearCall call → AllByRecursion NoLf (sent_first call)
first_clear (Begin stamp) clear = tt
first_clear (Submit message stamp) clear = (clear, tt)
first_clear (Flush stamp) clear = tt

emits_clear : (s : Setting) (old : State) (call : Call) (emitted : List (List ℕ)) → IsHead s.config.head → IsClearCall call → EmitsFrom s old call emitted → AllByRecursion NoLf emitted
emits_clear s old call emitted head clear e =
    let blocks = all_sealed_clear s (stamp_of call) e.due e.sent.messages head (due_clear s old call e.due e.are_due) e.sent.sealed in
    subst (AllByRecursion NoLf) (sym e.sent.sent_are)
    (all-append NoLf (sent_first call) (flat_map (λ m. replicate s.config.copies m) e.sent.messages) (first_clear call clear) (all_copies NoLf s.config.copies e.sent.messages blocks))

turns_clear : (s : Setting) (start : Start) (turns : List Turn) → IsHead s.config.head → AllByRecursion IsClearCall (calls_of turns) → AreTurns s start turns → AllByRecursion NoLf (flat_map (λ t. t.emitted) (reverse turns))
turns_clear s start [] head clear are = tt
turns_clear s start (t ∷ turns) head clear are =
    subst (AllByRecursion NoLf) (emitted_more turns t (flat_map (λ u. u.emitted) (reverse turns)) refl)
    (all-append NoLf (flat_map (λ u. u.emitted) (reverse turns)) t.emitted (turns_clear s start turns head clear.1 are.0) (emits_clear s (state s.config start (calls_of turns)) t.call t.emitted head clear.0 are.2))

accepted_clear : (s : Setting) (start : Start) (calls : List Call) (emitted : List (List ℕ)) → AllByRecursion IsClearCall calls → Accepts s start calls emitted → AllByRecursion NoLf emitted
accepted_clear s start calls emitted clear accepts =
    subst (AllByRecursion NoLf) (sym accepts.emitted_are)
    (turns_clear s start accepts.turns accepts.setting.head (subst (AllByRecursion IsClearCall) (sym accepts.calls_are) (all_reverse IsClearCall calls clear)) accepts.taken)

-- ---- the laws

no_lf : (octets : List ℕ) → NoLf octets → HasNoLf octets
no_lf [] clear (k, less, is) = absurd (omega (arith, less))
no_lf (x ∷ octets) clear (zero, less, is) = eqb-false x 10 clear.0 is
no_lf (x ∷ octets) clear (suc k, less, is) = no_lf octets clear.1 (k, omega (arith, less), is)

all_weaker : {X : Type 0} (Q W : X → Type 0) → ((x : X) → Q x → W x) → (xs : List X) → AllByRecursion Q xs → AllByRecursion W xs
all_weaker Q W each [] all = tt
all_weaker Q W each (x ∷ xs) all = (each x all.0, all_weaker Q W each xs all.1)

pub lines_hold_no_lf : {J : Type 0} (answers : J → Answers) → LinesHoldNoLf answers
lines_hold_no_lf answers sealer start s stamp wraps limits before after emitted sends =
    let long = option_map (λ place. LongWrap place) (first_long wraps s.config.head stamp limits.max_len sends.messages) in
    let clear = messages_clear sends.messages (none_of (λ place. Run (Extract (HoldsLf place))) (first_no_line forms.Lines sends.messages) long sends.fit) in
    let submitted = submitted_clear wraps s.config.head stamp sends.messages sends.accepted.setting.head clear in
    all_weaker NoLf HasNoLf no_lf emitted
    (accepted_clear s start (all_calls start stamp (prepared_for wraps s.config.head stamp sends.messages)) emitted (calls_clear start stamp (prepared_for wraps s.config.head stamp sends.messages) submitted) sends.accepted)

allowed : (wide : Allowance) → wide.form ≡ forms.Lines → (messages : List (List ℕ)) → AllByRecursion HasNoLf messages → AllByRecursion (FitsLimit wide) messages → AllByRecursion (IsAllowed wide) messages
allowed wide form [] clear fit = tt
allowed wide form (m ∷ messages) clear fit = (
  record { some_octet = fit.0.some_octet; not_too_long = fit.0.not_too_long; fits = subst (λ f. FitsForm f m) (sym form) clear.0 },
  allowed wide form messages clear.1 fit.1,
)

pub lines_are_read : {J : Type 0} (answers : J → Answers) → LinesAreRead answers
lines_are_read answers sealer start s stamp wraps limits wide before after emitted sends form fit few =
    let clear = lines_hold_no_lf answers sealer start s stamp wraps limits before after emitted sends in
    subst (λ f. reads wide (units_in f emitted) emitted Clean) form (read_units wide emitted (allowed wide form emitted clear fit) few)
