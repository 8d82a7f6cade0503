-- Each signature block that a call sent is sealed, and that of a run which the call closed.
use Rattle.std.proofs.Common.{◌≡◌, inl, inr, ℕ, true, List, map, replicate, sym, ap, ◌∙◌, subst}
use Rattle.std.specs.Prelude.{Option, not, None}
use Rattle.std.specs.List.{flat_map, enumerate_from}
use Rattle.std.proofs.lemmas.Bool.{not-false}
use Rattle.ss_message.specs.Stamp.{Moment}
use Rattle.ss_payload.specs.declared.cuts.Cut.{Cut}
use Rattle.ss_payload.specs.Payload.{payload_text}
use Rattle.ss_block.specs.declared.reading.Reading.{Reading}
use Rattle.ss_block.specs.declared.reading.Reading.TheVariants as readings
use Rattle.ss_block.specs.Block as block
use Rattle.ss_block.specs.Reading.{reading}
use Rattle.ss_origin.specs.declared.config.Config.{Config}
use Rattle.ss_origin.specs.declared.unsigned.Unsigned.{Unsigned}
use Rattle.ss_origin.specs.declared.fault.OriginFault.TheVariants.{NotBegun, NotSyslog, HasBlock}
use Rattle.ss_origin.specs.Calls.{Call, Begin, Submit, Flush, Run, stamp_of}
use Rattle.ss_origin.specs.State.{State, pending_in, runs_closed}
use Rattle.ss_origin.specs.Blocks.{signed_reading}
use Rattle.ss_origin.specs.Setting.{Setting}
use Rattle.ss_origin.specs.Emission.{certificate_of, block_of, AreDue, IsSealed, sent_first, EmitsFrom}
use Rattle.ss_origin.specs.Refusals.{is_unparsed, is_plain, fault_of}
use Rattle.ss_origin.proofs.CountersInRange.{none_first}
use Rattle.ss_octets.proofs.Members.{Has, has-append_cases, from_has-map, from_has-copies, from_has-zipped}

-- the message is the sealed block of one of the runs
pub record IsSentRun (s : Setting) (old : State) (call : Call) (m : List ℕ) : Type 0 where
  pub gbc : ℕ
  pub run : Run
  pub closed : Has (enumerate_from old.gbc (runs_closed s.config (pending_in old) call)) (gbc, run)
  pub sealed : IsSealed s (stamp_of call) (block_of s.config old (gbc, run)) m

-- ---- what stands in front

pub plain_first : (c : Config) (old : State) (call : Call) (m : List ℕ) → fault_of c old call ≡ None → Has (sent_first call) m → is_plain (reading m) ≡ true
plain_first c old (Begin stamp) m e h = absurd h
plain_first c old (Submit message stamp) m e (inl i) =
    let begun = none_first (not old.begun) NotBegun _ e in
    let parsed = none_first (is_unparsed (reading message)) NotSyslog _ begun.1 in
    let plain = none_first (not (is_plain (reading message))) HasBlock _ parsed.1 in
    subst (λ t. is_plain (reading t) ≡ true) i (not-false (is_plain (reading message)) plain.0)
plain_first c old (Submit message stamp) m e (inr i) = absurd i
plain_first c old (Flush stamp) m e h = absurd h

pub not_plain : (r : Reading) (b : block.Signature) → is_plain r ≡ true → r ≡ readings.Signature b → ⊥
not_plain r b plain e = let no : is_plain (readings.Signature b) ≡ true = subst (λ q. is_plain q ≡ true) e plain in absurd (cc)

-- ---- blocks

module _ (s : Setting) (old : State) (m : List ℕ) (b : block.Signature) (read : reading m ≡ readings.Signature b) where
  of_certificate : (stamp : Option Moment) (d : Unsigned) (cut : Cut) → certificate_of s.config (payload_text s.payload) cut ≡ d → IsSealed s stamp d m → ⊥
  of_certificate stamp d cut e sealed =
      let own : reading m ≡ signed_reading (certificate_of s.config (payload_text s.payload) cut) sealed.signature
      = sealed.read.read ∙ ap (λ x. signed_reading x sealed.signature) (sym e) in
      absurd (cc)

  abbrev entries : Call → List (ℕ × Run)
  entries call = enumerate_from old.gbc (runs_closed s.config (pending_in old) call)

  of_blocks : (call : Call) (due : List Unsigned) → due ≡ map (block_of s.config old) (entries call) → (d : Unsigned) → Has due d → IsSealed s (stamp_of call) d m → IsSentRun s old call m
  of_blocks call due are d h sealed =
      let w = from_has-map (block_of s.config old) (entries call) d (subst (λ l. Has l d) are h) in
      record { gbc = w.0.0; run = w.0.1; closed = w.1; sealed = subst (λ x. IsSealed s (stamp_of call) x m) (sym w.2) sealed }

  of_due : (call : Call) (due : List Unsigned) → AreDue s old call due → (d : Unsigned) → Has due d → IsSealed s (stamp_of call) d m → IsSentRun s old call m
  of_due (Begin stamp) due are d h sealed =
      let w = from_has-map (certificate_of s.config (payload_text s.payload)) are.0 d (subst (λ l. Has l d) are.2 h) in
      absurd (of_certificate stamp d w.0 w.2 sealed)
  of_due (Submit message stamp) due are d h sealed = of_blocks (Submit message stamp) due are d h sealed
  of_due (Flush stamp) due are d h sealed = of_blocks (Flush stamp) due are d h sealed

  -- it is one of the messages of the blocks that are due
  pub sealed_message : (call : Call) (emitted : List (List ℕ)) → fault_of s.config old call ≡ None → (e : EmitsFrom s old call emitted) → Has emitted m → Has e.sent.messages m
  sealed_message call emitted accepted e h =
      let copies = flat_map (λ x. replicate s.config.copies x) e.sent.messages in
      elim (has-append_cases (sent_first call) copies m (subst (λ l. Has l m) e.sent.sent_are h)) [
        | inl first ↦ absurd (not_plain (reading m) b (plain_first s.config old call m accepted first) read)
        | inr copy ↦ from_has-copies s.config.copies e.sent.messages m copy
      ]

  pub sent_run_of : (call : Call) (emitted : List (List ℕ)) → fault_of s.config old call ≡ None → EmitsFrom s old call emitted → Has emitted m → IsSentRun s old call m
  sent_run_of call emitted accepted e h =
      let w = from_has-zipped (IsSealed s (stamp_of call)) e.due e.sent.messages m e.sent.sealed (sealed_message call emitted accepted e h) in
      of_due call e.due e.are_due w.0 w.1 w.2
