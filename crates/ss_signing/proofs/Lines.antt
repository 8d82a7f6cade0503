-- A plan's sealer, which writes the line of what it is asked to sign, has the lines of what was emitted.
use Rattle.std.proofs.Common.{◌≡◌, ℕ, ◌≤◌, false, List, [], ◌∷◌, ◌++◌, map, reverse, refl, sym, ap, ◌∙◌, append_assoc, append-nil}
use Rattle.std.specs.Prelude.{Option, None}
use Rattle.std.specs.List.{flat_map}
use Rattle.std.proofs.lemmas.Grind.{flat_map-append}
use Rattle.ss_message.specs.Stamp.{Moment}
use Rattle.ss_payload.specs.Payload.{PayloadValue}
use Rattle.ss_origin.specs.declared.config.Config.{Config}
use Rattle.ss_origin.specs.declared.unsigned.Unsigned.{Unsigned}
use Rattle.ss_origin.specs.Asked.{Given, GivesAll, SealsDue}
use Rattle.ss_origin.specs.Blocks.{unsigned_text}
use Rattle.ss_origin.specs.Calls.{Call, stamp_of}
use Rattle.ss_origin.specs.Chain.{Turn, calls_of, AreTurns}
use Rattle.ss_origin.specs.Counting.{Start}
use Rattle.ss_origin.specs.Emission.{EmitsFrom}
use Rattle.ss_origin.specs.Originator.{Kept}
use Rattle.ss_origin.specs.Refusals.{fault_of}
use Rattle.ss_origin.specs.Setting.{Setting}
use Rattle.ss_origin.specs.State.{State, state}
use Rattle.ss_origin.proofs.Configs.{has_ranges}
use Rattle.ss_signing.specs.declared.output.OutputForm.{OutputForm}
use Rattle.ss_signing.specs.Accepted.{all_calls}
use Rattle.ss_signing.specs.Asked.{AskedAlong}
use Rattle.ss_signing.specs.Jobs.{writes_want, planned, planning_from}
use Rattle.ss_signing.specs.Sending.{HasSealed, MakesOutput}
use Rattle.ss_signing.specs.Wants.{want_of, want_line, want_lines}
use Rattle.ss_signing.proofs.Plans.{none_else_due, signed_once, lines_told}
use Rattle.ss_signing.proofs.Sending.{emitted_more}

module _ {J : Type 0} (lines : J → List ℕ) (config : Config) (payload : PayloadValue) where
  abbrev plan : Setting
  plan = planned config payload

  abbrev lines_of : Option Moment → List Unsigned → List ℕ
  lines_of stamp blocks = flat_map want_line (map (unsigned_text config.head stamp) blocks)

  given_lines : (stamp : Option Moment) (old new : J) (all : List Given) → GivesAll (writes_want lines) plan.config stamp old all new
      → lines new ≡ lines old ++ lines_of stamp (map (λ given. given.block) all)
  given_lines stamp old new [] same = ap lines (sym same) ∙ sym (append-nil (lines old))
  given_lines stamp old new (given ∷ all) gives =
      let octets = unsigned_text config.head stamp given.block in
      let rest = lines_of stamp (map (λ x. x.block) all) in
      given_lines stamp gives.0 new all gives.2
      ∙ ap (λ xs. xs ++ rest) gives.1.answered.1
      ∙ append_assoc (lines old) (want_line octets) rest

  call_lines : 1 ≤ config.frag → (st : State) (call : Call) (emitted : List (List ℕ)) (old new : J)
      → fault_of plan.config st call ≡ None
      → EmitsFrom plan st call emitted
      → SealsDue plan (writes_want lines) st call emitted old new
      → lines new ≡ lines old ++ want_lines emitted
  call_lines some st call emitted old new accepted e seals =
      let stamp = stamp_of call in
      given_lines stamp old new seals.seals.all seals.seals.gives
      ∙ ap (λ blocks. lines old ++ lines_of stamp blocks) (seals.seals.blocks_are ∙ none_else_due plan st call seals.due e.due some seals.are_due e.are_due)
      ∙ ap (λ octets. lines old ++ flat_map want_line octets) (sym (signed_once config payload st call emitted accepted e))
      ∙ ap (λ xs. lines old ++ xs) (sym (lines_told emitted))

  turns_lines : 1 ≤ config.frag → (start : Start) (turns : List Turn) (first last : J) → AreTurns plan start turns → AskedAlong plan start (writes_want lines) first turns last
      → lines last ≡ lines first ++ want_lines (flat_map (λ t. t.emitted) (reverse turns))
  turns_lines some start [] first last are along = ap lines along ∙ sym (append-nil (lines first))
  turns_lines some start (t ∷ turns) first last are along =
      let sent = flat_map (λ u. u.emitted) (reverse turns) in
      call_lines some (state plan.config start (calls_of turns)) t.call t.emitted along.0 last are.1 are.2 along.2
      ∙ ap (λ xs. xs ++ want_lines t.emitted) (turns_lines some start turns first along.0 are.0 along.1)
      ∙ append_assoc (lines first) (want_lines sent) (want_lines t.emitted)
      ∙ ap (λ xs. lines first ++ xs) (sym (flat_map-append want_of sent t.emitted) ∙ ap want_lines (emitted_more turns t sent refl))

  -- so the lines of a sealer that had none are what a plan writes
  pub plan_made : (start : Start) (stamp : Option Moment) (form : OutputForm) (messages : List (List ℕ)) {first : J} {o : Kept J} {text : List ℕ}
      → HasSealed plan start (writes_want lines) form (all_calls start stamp messages) first o text
      → lines first ≡ []
      → MakesOutput (planning_from start config payload stamp false) messages (lines o.sealer)
  plan_made start stamp form messages {first} {o} {text} seals none =
      let taken = seals.sent.accepted in
      record {
        emitted = seals.sent.emitted;
        accepted = taken;
        output_is =
            turns_lines (has_ranges plan.config taken.setting.fit.config).some_octet start taken.turns first o.sealer taken.taken seals.asked_along
            ∙ ap (λ xs. xs ++ want_lines (flat_map (λ t. t.emitted) (reverse taken.turns))) none
            ∙ ap want_lines (sym taken.emitted_are);
      }
