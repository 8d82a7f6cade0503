-- The signature blocks that an originator sent have the GBC with which it began, and then one after the other. `Counted`
-- of ss_origin says so of chains that go on from exactly the last counters; its lemmas aren't public.
use Rattle.std.proofs.Common.{◌≡◌, inl, inr, ℕ, ◌+◌, Bool, true, cond, List, [], ◌∷◌, ◌++◌, length, map, filter, replicate, refl, sym, ap, ◌∙◌, subst, arith, length-append}
use Rattle.std.specs.Prelude.{Option, None}
use Rattle.std.specs.List.{AllByRecursion, AllZip, flat_map, enumerate_from}
use Rattle.std.proofs.lemmas.Bool.{cases_Bool}
use Rattle.std.proofs.lemmas.List.Concat.{flat_map-append}
use Rattle.std.proofs.lemmas.List.Elements.{filter-append}
use Rattle.ss_message.specs.Stamp.{Moment}
use Rattle.ss_block.specs.declared.reading.Reading.{Reading}
use Rattle.ss_block.specs.declared.reading.Reading.TheVariants as readings
use Rattle.ss_block.specs.Block as block
use Rattle.ss_block.specs.Reading.{reading}
use Rattle.ss_origin.specs.Configs.{is_config}
use Rattle.ss_origin.specs.Counting.{Start}
use Rattle.ss_origin.specs.Calls.{Call, Begin, Submit, Flush, Run, stamp_of}
use Rattle.ss_origin.specs.State.{State, state, pending_in, first_pending, runs_closed}
use Rattle.ss_origin.specs.Step.{after}
use Rattle.ss_origin.specs.Setting.{Setting}
use Rattle.ss_origin.specs.Emission.{signature_in, block_of, IsSealed, sent_first, EmitsFrom}
use Rattle.ss_origin.specs.Refusals.{fault_of}
use Rattle.ss_origin.specs.Chain.{Turn, calls_of, AreTurns}
use Rattle.ss_origin.specs.CountedLaws.{sent_in_turns, is_signature, HasGbc}
use Rattle.ss_origin.specs.Ahead.{Life, GoOnAhead}
use Rattle.ss_octets.proofs.Members.{Has}
use Rattle.ss_origin.proofs.Configs.{has_ranges}
use Rattle.ss_origin.proofs.RunsClosed.{all-append}
use Rattle.ss_origin.proofs.Sent.{all-copies}
use Rattle.ss_origin.proofs.SentRuns.{plain_first, not_plain, sent_run_of}
use Rattle.ss_origin.proofs.Steps.{states_step}
use Rattle.ss_laws.specs.ahead.RisingGbc.{BlocksAheadAreCounted}

-- ---- filters

module _ {X : Type 0} (p : X → Bool) where
  all_kept : (xs : List X) → AllByRecursion (λ x. p x ≡ true) xs → filter p xs ≡ xs
  all_kept [] all = refl
  all_kept (x ∷ xs) all = ap (λ b. cond b (x ∷ filter p xs) (filter p xs)) all.0 ∙ ap (λ ys. x ∷ ys) (all_kept xs all.1)

  none_kept : (xs : List X) → ((x : X) → Has xs x → p x ≡ true → ⊥) → filter p xs ≡ []
  none_kept [] none = refl
  none_kept (x ∷ xs) none = elim (cases_Bool (p x)) [
    | inl t ↦ absurd (none x (inl refl) t)
    | inr f ↦ ap (λ b. cond b (x ∷ filter p xs) (filter p xs)) f ∙ none_kept xs (λ y h. none y (inr h))
  ]

abbrev pub is_block : List ℕ → Bool
is_block m = is_signature (reading m)

pub of_signature : (r : Reading) → is_signature r ≡ true → (b : block.Signature) × (r ≡ readings.Signature b)
of_signature (readings.Signature b) e = (b, refl)
of_signature readings.Plain e = absurd (cc)
of_signature (readings.Unparsed part pos) e = absurd (cc)
of_signature (readings.Certificate b) e = absurd (cc)
of_signature (readings.Spoilt cause) e = absurd (cc)

abbrev pub copies_of : ℕ → List (List ℕ) → List (List ℕ)
copies_of n messages = flat_map (λ m. replicate n m) messages

enumerate-append : {X : Type 0} (n : ℕ) (xs ys : List X) → enumerate_from n (xs ++ ys) ≡ enumerate_from n xs ++ enumerate_from (n + length xs) ys
enumerate-append n [] ys = ap (λ k. enumerate_from k ys) (let e : n ≡ n + 0 = omega arith in e)
enumerate-append n (x ∷ xs) ys =
    let e : n + 1 + length xs ≡ n + length (x ∷ xs) = omega arith in
    ap (λ rest. (n, x) ∷ rest) (enumerate-append (n + 1) xs ys ∙ ap (λ k. enumerate_from (n + 1) xs ++ enumerate_from k ys) e)

-- ---- some messages and their signature blocks

-- the signature blocks among what was sent, each once, with the GBC from one on and up to another
pub record Counts (copies from to : ℕ) (sent : List (List ℕ)) : Type 0 where
  pub messages : List (List ℕ)
  pub kept : filter is_block sent ≡ copies_of copies messages
  pub counted : AllByRecursion HasGbc (enumerate_from from messages)
  pub next : to ≡ from + length messages

both_sent : (copies from mid to : ℕ) (first second : List (List ℕ)) → Counts copies from mid first → Counts copies mid to second → Counts copies from to (first ++ second)
both_sent copies from mid to first second one two =
    let until = one.next in
    let behind = two.next in
    let longer = length-append one.messages two.messages in
    record {
      messages = one.messages ++ two.messages;
      kept =
          filter-append is_block first second
          ∙ ap (λ ms. ms ++ filter is_block second) one.kept
          ∙ ap (λ ms. copies_of copies one.messages ++ ms) two.kept
          ∙ sym (flat_map-append (λ (m : List ℕ). replicate copies m) one.messages two.messages);
      counted =
          subst (AllByRecursion HasGbc) (sym (enumerate-append from one.messages two.messages))
          (all-append HasGbc (enumerate_from from one.messages) (enumerate_from (from + length one.messages) two.messages) one.counted
          (subst (λ k. AllByRecursion HasGbc (enumerate_from k two.messages)) until two.counted));
      next = omega (arith, until, behind, longer);
    }

-- ---- a call

module _ (s : Setting) (old : State) where
  -- messages beside the runs whose sealed blocks they are
  abbrev SealedIn : Option Moment → ℕ → List Run → List (List ℕ) → Type 0
  SealedIn stamp n runs messages = AllZip (IsSealed s stamp) (map (block_of s.config old) (enumerate_from n runs)) messages

  signatures : (stamp : Option Moment) (n : ℕ) (runs : List Run) (messages : List (List ℕ)) → SealedIn stamp n runs messages → AllByRecursion (λ m. is_block m ≡ true) messages
  signatures stamp n [] [] zip = tt
  signatures stamp n [] (m ∷ messages) zip = absurd zip
  signatures stamp n (r ∷ runs) [] zip = tt
  signatures stamp n (r ∷ runs) (m ∷ messages) zip = (ap is_signature zip.0.read.read, signatures stamp (n + 1) runs messages zip.1)

  have_gbc : (stamp : Option Moment) (n : ℕ) (runs : List Run) (messages : List (List ℕ)) → SealedIn stamp n runs messages → AllByRecursion HasGbc (enumerate_from n messages)
  have_gbc stamp n [] [] zip = tt
  have_gbc stamp n [] (m ∷ messages) zip = absurd zip
  have_gbc stamp n (r ∷ runs) [] zip = tt
  have_gbc stamp n (r ∷ runs) (m ∷ messages) zip =
      let b : block.Signature = record (signature_in s.config r.spri n (first_pending old r.spri) r.hashes) { signature = zip.0.signature } in
      ((b, zip.0.read.read, refl), have_gbc stamp (n + 1) runs messages zip.1)

  as_many : (stamp : Option Moment) (n : ℕ) (runs : List Run) (messages : List (List ℕ)) → SealedIn stamp n runs messages → length runs ≡ length messages
  as_many stamp n [] [] zip = refl
  as_many stamp n [] (m ∷ messages) zip = absurd zip
  as_many stamp n (r ∷ runs) [] zip = absurd zip
  as_many stamp n (r ∷ runs) (m ∷ messages) zip = let e = as_many stamp (n + 1) runs messages zip.1 in omega (arith, e)

  module _ (call : Call) (emitted : List (List ℕ)) (accepted : fault_of s.config old call ≡ None) (e : EmitsFrom s old call emitted) where
    abbrev runs : List Run
    runs = runs_closed s.config (pending_in old) call

    -- what stands in front has no block
    first_not_kept : filter is_block (sent_first call) ≡ []
    first_not_kept = none_kept is_block (sent_first call) (λ m h t.
        (let w = of_signature (reading m) t in
        not_plain (reading m) w.0 (plain_first s.config old call m accepted h) w.1))

    -- so the signature blocks are the copies of these
    of_blocks : SealedIn (stamp_of call) old.gbc runs e.sent.messages → Counts s.config.copies old.gbc (old.gbc + length runs) emitted
    of_blocks zip =
        let messages = e.sent.messages in
        record {
          messages = messages;
          kept =
              ap (filter is_block) e.sent.sent_are
              ∙ filter-append is_block (sent_first call) (copies_of s.config.copies messages)
              ∙ ap (λ ms. ms ++ filter is_block (copies_of s.config.copies messages)) first_not_kept
              ∙ all_kept is_block (copies_of s.config.copies messages) (all-copies (λ m. is_block m ≡ true) s.config.copies messages (signatures (stamp_of call) old.gbc runs messages zip));
          counted = have_gbc (stamp_of call) old.gbc runs messages zip;
          next = ap (λ k. old.gbc + k) (as_many (stamp_of call) old.gbc runs messages zip);
        }

  of_call : (call : Call) (emitted : List (List ℕ)) → fault_of s.config old call ≡ None → EmitsFrom s old call emitted → Counts s.config.copies old.gbc (after s.config old call).gbc emitted
  of_call (Begin stamp) emitted accepted e =
      let none : filter is_block emitted ≡ []
      = none_kept is_block emitted (λ m h t. (let w = of_signature (reading m) t in absurd (sent_run_of s old m w.0 w.1 (Begin stamp) emitted accepted e h).closed)) in
      record { messages = []; kept = none; counted = tt; next = omega arith }
  of_call (Submit message stamp) emitted accepted e =
      of_blocks (Submit message stamp) emitted accepted e (subst (λ due. AllZip (IsSealed s stamp) due e.sent.messages) e.are_due e.sent.sealed)
  of_call (Flush stamp) emitted accepted e =
      of_blocks (Flush stamp) emitted accepted e (subst (λ due. AllZip (IsSealed s stamp) due e.sent.messages) e.are_due e.sent.sealed)

-- ---- an originator

pub of_turns : (s : Setting) → is_config s.config ≡ true → (start : Start) (turns : List Turn) → AreTurns s start turns
    → Counts s.config.copies start.counters.gbc (state s.config start (calls_of turns)).gbc (sent_in_turns turns)
of_turns s is start [] are = record { messages = []; kept = refl; counted = tt; next = omega arith }
of_turns s is start (t ∷ before) are =
    let old = state s.config start (calls_of before) in
    both_sent s.config.copies start.counters.gbc old.gbc (state s.config start (calls_of (t ∷ before))).gbc (sent_in_turns before) t.emitted (of_turns s is start before are.0)
    (subst (λ x. Counts s.config.copies old.gbc x.gbc t.emitted) (sym (states_step s.config start (calls_of before) t.call (has_ranges s.config is).some)) (of_call s old t.call t.emitted are.1 are.2))

-- the last ones of a chain
pub older_of : (s : Setting) (newer rest : List Life) → GoOnAhead s (newer ++ rest) → GoOnAhead s rest
older_of s [] rest are = are
older_of s (l ∷ newer) rest are = older_of s newer rest are.0

pub blocks_ahead_are_counted : BlocksAheadAreCounted
blocks_ahead_are_counted s newer older l is =
    let own : GoOnAhead s (l ∷ older) = older_of s newer (l ∷ older) is.chained in
    let all = of_turns s is.setting.fit.config l.start l.turns own.2 in
    record { messages = all.messages; sent = all.kept; counted = all.counted; next = all.next }
