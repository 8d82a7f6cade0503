-- The octets of a plan's lines are those that are signed of its block messages, and a file can have a seal for each.
use Rattle.std.proofs.Common.{◌≡◌, ◌⊎◌, inl, inr, ℕ, ◌<◌, ◌≤◌, true, codes, List, [], ◌∷◌, ◌++◌, length, map, flat_map, replicate, reverse, Option, Some, None, Result, Ok, Err, refl, sym, ap, ◌∙◌, subst, arith, append_assoc}
use Rattle.std.specs.Prelude.{not}
use Rattle.std.specs.List.{AllByRecursion, Contains}
use Rattle.std.proofs.lemmas.Bool.{eqb-false, not-false}
use Rattle.std.proofs.lemmas.Option.{same_Some}
use Rattle.base64.specs.GeneralPurpose.{IsBytes}
use Rattle.ss_octets.specs.Ascii.{lf}
use Rattle.ss_octets.specs.StrictBase64.{base64}
use Rattle.ss_octets.proofs.Base64Text.{Clear, Clear-append}
use Rattle.ss_octets.proofs.Members.{Has, contains_from_has, from_has-copies, from_has-flat_map, from_has-map, from_has-zipped, has-append_cases, has-map, has_from_contains}
use Rattle.ss_message.specs.declared.fault.BadPart.{BadPart}
use Rattle.ss_message.specs.Message.{MessageValue, text}
use Rattle.ss_message.specs.Layout.{Layout, value_at}
use Rattle.ss_message.specs.Reading.{layout_at}
use Rattle.ss_message.specs.Stamp.{Moment}
use Rattle.ss_block.specs.declared.reading.Reading.{Reading}
use Rattle.ss_block.specs.declared.reading.Reading.TheVariants as readings
use Rattle.ss_block.specs.Head.{HeadValue, IsHead}
use Rattle.ss_block.specs.Reading.{reading, reading_from, value_reading}
use Rattle.ss_block.specs.Signed.{signed, signed_from, signed_if_block}
use Rattle.ss_origin.specs.declared.config.Config.{Config}
use Rattle.ss_origin.specs.declared.fault.OriginFault.TheVariants.{HasBlock, NotBegun, NotSyslog}
use Rattle.ss_origin.specs.declared.unsigned.Unsigned.{Unsigned}
use Rattle.ss_origin.specs.declared.unsigned.Unsigned.TheVariants.{Certificate, Signature}
use Rattle.ss_origin.specs.Blocks.{unsigned_text}
use Rattle.ss_origin.specs.Calls.{Call, Begin, Submit, Flush, stamp_of}
use Rattle.ss_origin.specs.Chain.{Turn, calls_of, AreTurns}
use Rattle.ss_origin.specs.Counting.{Start}
use Rattle.ss_origin.specs.Emission.{EmitsFrom, IsSealed, sent_first}
use Rattle.ss_origin.specs.Refusals.{fault_of, is_plain, is_unparsed}
use Rattle.ss_origin.specs.Setting.{Setting}
use Rattle.ss_origin.specs.State.{State, state}
use Rattle.ss_origin.proofs.CountersInRange.{none_first}
use Rattle.ss_answers.specs.Answers.{Answer, Seal, HasFields, IsField}
use Rattle.ss_answers.proofs.Base64Text.{base64-injective, no_line_feed}
use Rattle.ss_answers.proofs.Cuts.{cut_clear}
use Rattle.ss_signing.specs.PlanLaws.{octets_if_signed, signed_among}
use Rattle.ss_signing.specs.Wants.{want_line, want_lines}
use Rattle.ss_laws.specs.plans.SealedPlans.{AreLinesBefore, EachPlanCanBeSealed, IsWanted}
use Rattle.ss_laws.proofs.of_plans.SmallOctets.{due_is_small}
use Rattle.ss_laws.proofs.of_plans.WantedOctets.{from_has-reverse, has_line}
use Rattle.ss_signing.proofs.Plans.{lines_told}

-- ---- a text that is cut at a line feed

cut_front : (word rest front after : List ℕ) → Clear lf word → word ++ lf ∷ rest ≡ front ++ lf ∷ after
    → ((front ≡ word) × (rest ≡ after)) ⊎ ((more : List ℕ) × (front ≡ word ++ lf ∷ more) × (rest ≡ more ++ lf ∷ after))
cut_front [] rest [] after clear e = inl (refl, cc)
cut_front [] rest (x ∷ front) after clear e =
    let head : x ≡ lf = cc in
    let tail : rest ≡ front ++ lf ∷ after = cc in
    inr (front, ap (λ y. y ∷ front) head, tail)
cut_front (d ∷ word) rest [] after clear e = let head : d ≡ lf = cc in absurd (eqb-false d lf clear.0 head)
cut_front (d ∷ word) rest (x ∷ front) after clear e =
    let head : x ≡ d = cc in
    let tail : word ++ lf ∷ rest ≡ front ++ lf ∷ after = cc in
    by head (cut_front word rest front after clear.1 tail)
  where
    by : x ≡ d → ((front ≡ word) × (rest ≡ after)) ⊎ ((more : List ℕ) × (front ≡ word ++ lf ∷ more) × (rest ≡ more ++ lf ∷ after))
        → ((x ∷ front ≡ d ∷ word) × (rest ≡ after)) ⊎ ((more : List ℕ) × (x ∷ front ≡ d ∷ (word ++ lf ∷ more)) × (rest ≡ more ++ lf ∷ after))
    by head (inl same) = inl ((λ i. head i ∷ same.0 i), same.1)
    by head (inr w) = inr (w.0, (λ i. head i ∷ w.1 i), w.2)

-- ---- the lines of a plan

abbrev word_of : List ℕ → List ℕ
word_of octets = codes "want " ++ base64 octets

clear_word : (octets : List ℕ) → Clear lf (word_of octets)
clear_word octets =
    Clear-append lf (codes "want ") (base64 octets) (refl, (refl, (refl, (refl, (refl, tt))))) (no_line_feed octets)

stripped : (a b : List ℕ) → codes "want " ++ a ≡ codes "want " ++ b → a ≡ b
stripped a b e = cc

line_split : (octets rest : List ℕ) → want_line octets ++ rest ≡ word_of octets ++ lf ∷ rest
line_split octets rest = append_assoc (word_of octets) (lf ∷ []) rest

nothing_behind : {X : Type 0} (before : List X) (c : X) (after : List X) → [] ≡ before ++ c ∷ after → ⊥
nothing_behind [] c after e = cc
nothing_behind (b ∷ before) c after e = cc

member_there : (wanted : List (List ℕ)) (octets before behind : List ℕ) → AllByRecursion IsBytes wanted → IsBytes octets → AreLinesBefore before
    → flat_map want_line wanted ≡ before ++ (want_line octets ++ behind) → Has wanted octets
member_there [] octets before behind bytes own lines e = absurd (nothing_behind before 119 _ e)
member_there (w ∷ wanted) octets before behind bytes own (inl none) e =
    let whole : word_of w ++ lf ∷ flat_map want_line wanted ≡ word_of octets ++ lf ∷ behind
    = sym (line_split w (flat_map want_line wanted)) ∙ e ∙ ap (λ b. b ++ (want_line octets ++ behind)) none ∙ line_split octets behind in
    let same = (cut_clear lf (word_of w) (flat_map want_line wanted) (word_of octets) behind (clear_word w) (clear_word octets) whole).0 in
    inl (base64-injective w octets bytes.0 own (stripped (base64 w) (base64 octets) same))
member_there (w ∷ wanted) octets before behind bytes own (inr ends) e =
    let rest = flat_map want_line wanted in
    let after = want_line octets ++ behind in
    let whole : word_of w ++ lf ∷ rest ≡ ends.0 ++ lf ∷ after
    = sym (line_split w rest) ∙ e ∙ ap (λ b. b ++ after) ends.1 ∙ append_assoc ends.0 (lf ∷ []) after in
    inr (by (cut_front (word_of w) rest ends.0 after (clear_word w) whole) (λ before lines. member_there wanted octets before behind bytes.1 own lines))
  where
    by : ((ends.0 ≡ word_of w) × (flat_map want_line wanted ≡ want_line octets ++ behind))
        ⊎ ((more : List ℕ) × (ends.0 ≡ word_of w ++ lf ∷ more) × (flat_map want_line wanted ≡ more ++ lf ∷ (want_line octets ++ behind)))
        → ((front : List ℕ) → AreLinesBefore front → flat_map want_line wanted ≡ front ++ (want_line octets ++ behind) → Has wanted octets)
        → Has wanted octets
    by (inl same) more = more [] (inl refl) same.1
    by (inr w) more = more (w.0 ++ lf ∷ []) (inr (w.0, refl)) (w.2 ∙ sym (append_assoc w.0 (lf ∷ []) (want_line octets ++ behind)))

-- ---- what is signed of the messages of a plan

some_text : (h : HeadValue) (stamp : Option Moment) (d : Unsigned) → 0 < length (unsigned_text h stamp d)
unfolding text
some_text h stamp (Signature b) = omega arith
some_text h stamp (Certificate b) = omega arith

nothing_signed : (r : Reading) (v : MessageValue) → is_plain r ≡ true → signed_if_block r v ≡ None
nothing_signed readings.Plain v h = refl
nothing_signed (readings.Unparsed part pos) v h = refl
nothing_signed (readings.Spoilt cause) v h = refl
nothing_signed (readings.Signature b) v h = absurd (cc)
nothing_signed (readings.Certificate b) v h = absurd (cc)

plain_is_unsigned : (m : List ℕ) → is_plain (reading m) ≡ true → signed m ≡ None
unfolding reading signed
plain_is_unsigned m = by (layout_at m)
  where
    by : (l : Result Layout BadPart) → is_plain (reading_from m l) ≡ true → signed_from m l ≡ None
    by (Ok l) h = nothing_signed (value_reading (value_at m l)) (value_at m l) h
    by (Err e) h = refl

some_or_none : {X : Type 0} (x : X) → Some x ≡ None → ⊥
some_or_none x e = cc

pub submitted_unsigned : (c : Config) (old : State) (message : List ℕ) (stamp : Option Moment) → fault_of c old (Submit message stamp) ≡ None → signed message ≡ None
submitted_unsigned c old message stamp e =
    let begun = none_first (not old.begun) NotBegun _ e in
    let parsed = none_first (is_unparsed (reading message)) NotSyslog _ begun.1 in
    let plain = none_first (not (is_plain (reading message))) HasBlock _ parsed.1 in
    plain_is_unsigned message (not-false (is_plain (reading message)) plain.0)

first_unsigned : (c : Config) (old : State) (call : Call) (m octets : List ℕ) → fault_of c old call ≡ None → Has (sent_first call) m → signed m ≡ Some octets → ⊥
first_unsigned c old (Begin stamp) m octets e has is = has
first_unsigned c old (Submit message stamp) m octets e (inl same) is =
    some_or_none octets (sym is ∙ ap signed (sym same) ∙ submitted_unsigned c old message stamp e)
first_unsigned c old (Submit message stamp) m octets e (inr has) is = has
first_unsigned c old (Flush stamp) m octets e has is = has

of_call : (s : Setting) (old : State) (call : Call) (emitted : List (List ℕ)) (m octets : List ℕ) → IsHead s.config.head → fault_of s.config old call ≡ None → EmitsFrom s old call emitted → Has emitted m → signed m ≡ Some octets
    → IsField octets
of_call s old call emitted m octets head accepted e has is =
    by (has-append_cases (sent_first call) _ m (subst (λ ms. Has ms m) e.sent.sent_are has))
  where
    by : Has (sent_first call) m ⊎ Has (flat_map (λ x. replicate s.config.copies x) e.sent.messages) m → IsField octets
    by (inl first) = absurd (first_unsigned s.config old call m octets accepted first is)
    by (inr copy) =
        let w = from_has-zipped (IsSealed s (stamp_of call)) e.due e.sent.messages m e.sent.sealed (from_has-copies s.config.copies e.sent.messages m copy) in
        let same : unsigned_text s.config.head (stamp_of call) w.0 ≡ octets = same_Some _ octets (sym w.2.read.signed ∙ is) in
        subst IsField same
        (record { bytes = due_is_small s old call (stamp_of call) e.due w.0 head e.are_due w.1; some = some_text s.config.head (stamp_of call) w.0 })

of_turns : (s : Setting) (start : Start) (turns : List Turn) → IsHead s.config.head → AreTurns s start turns → (t : Turn) → Has turns t → (m octets : List ℕ) → Has t.emitted m → signed m ≡ Some octets → IsField octets
of_turns s start [] head are t has m octets sent is = absurd has
of_turns s start (u ∷ turns) head are t (inl e) m octets sent is =
    of_call s (state s.config start (calls_of turns)) u.call u.emitted m octets head are.1 are.2 (subst (λ v. Has v.emitted m) (sym e) sent) is
of_turns s start (u ∷ turns) head are t (inr has) m octets sent is = of_turns s start turns head are.0 t has m octets sent is

has_signed : (o : Option (List ℕ)) (octets : List ℕ) → Has (octets_if_signed o) octets → o ≡ Some octets
has_signed None octets has = absurd has
has_signed (Some own) octets (inl e) = ap Some e
has_signed (Some own) octets (inr has) = absurd has

all_from : {X : Type 0} (P : X → Type 0) (xs : List X) → ((x : X) → Has xs x → P x) → AllByRecursion P xs
all_from P [] each = tt
all_from P (x ∷ xs) each = (each x (inl refl), all_from P xs (λ y has. each y (inr has)))

same_seal : (a b signature other : List ℕ) → Seal a signature ≡ Seal b other → signature ≡ other
same_seal a b signature other e = cc

pub each_plan_can_be_sealed : EachPlanCanBeSealed
each_plan_can_be_sealed s start calls for_plan plan = record {
  lines = λ octets. (wanted octets, signed_there octets);
  file = λ signature bytes some most. (
    record { fields = all_from HasFields _ (fields signature bytes some); spelt = inl refl },
    record {
      there = λ octets is. (signature, contains_from_has _ (Seal octets signature) (has-map (λ o. Seal o signature) own octets (has_from_contains own octets (wanted octets is))));
      short = λ octets other is contains. short signature octets other most (has_from_contains _ (Seal octets other) contains);
    },
  );
}
  where
    own : List (List ℕ)
    own = signed_among for_plan

    field_of : (octets : List ℕ) → Has own octets → IsField octets
    field_of octets has =
        let m = from_has-flat_map (λ m. octets_if_signed (signed m)) for_plan octets has in
        let t = from_has-flat_map (λ (t : Turn). t.emitted) (reverse plan.turns) m.0 (subst (λ ms. Has ms m.0) plan.emitted_are m.1) in
        of_turns s start plan.turns plan.setting.head plan.taken t.0 (from_has-reverse plan.turns t.0 t.1) m.0 octets t.2 (has_signed (signed m.0) octets m.2)

    wanted : (octets : List ℕ) → IsWanted (want_lines for_plan) octets → Contains own octets
    wanted octets is =
        contains_from_has own octets
        (member_there own octets is.before is.behind (all_from IsBytes own (λ o has. (field_of o has).bytes)) is.bytes is.lines_before (sym (lines_told for_plan) ∙ is.there))

    signed_there : (octets : List ℕ) → Contains own octets → IsWanted (want_lines for_plan) octets
    signed_there octets contains =
        let has = has_from_contains own octets contains in
        let m = from_has-flat_map (λ m. octets_if_signed (signed m)) for_plan octets has in
        has_line for_plan m.0 octets m.1 (has_signed (signed m.0) octets m.2) (field_of octets has).bytes

    fields : (signature : List ℕ) → IsBytes signature → 1 ≤ length signature → (line : Answer) → Has (map (λ o. Seal o signature) own) line → HasFields line
    fields signature bytes some line has =
        let o = from_has-map (λ o. Seal o signature) own line has in
        subst HasFields o.2 (field_of o.0 o.1, record { bytes = bytes; some = omega (arith, some) })

    short : (signature octets other : List ℕ) → length signature ≤ 1024 → Has (map (λ o. Seal o signature) own) (Seal octets other) → length other ≤ 1024
    short signature octets other most has =
        let o = from_has-map (λ o. Seal o signature) own (Seal octets other) has in
        subst (λ x. length x ≤ 1024) (same_seal o.0 octets signature other o.2) most
