-- The signature blocks of a chain have the GBC from 0 on, one after the other.
use Rattle.std.proofs.Common.{◌≡◌, inl, ℕ, ◌+◌, Bool, true, false, cond, List, [], ◌∷◌, ◌++◌, length, map, filter, replicate, refl, sym, ap, ◌∙◌, subst, arith, length-append}
use Rattle.std.specs.Prelude.{Option, None}
use Rattle.std.specs.List.{AllByRecursion, AllZip, flat_map, enumerate_from}
use Rattle.std.proofs.lemmas.List.Concat.{flat_map-append}
use Rattle.std.proofs.lemmas.List.Elements.{filter-append}
use Rattle.ss_message.specs.Stamp.{Moment}
use Rattle.ss_payload.specs.declared.cuts.Cut.{Cut}
use Rattle.ss_payload.specs.Payload.{payload_text}
use Rattle.ss_block.specs.declared.reading.Reading.{Reading}
use Rattle.ss_block.specs.declared.reading.Reading.TheVariants as readings
use Rattle.ss_block.specs.Block as block
use Rattle.ss_block.specs.Reading.{reading}
use Rattle.ss_origin.specs.Configs.{is_config}
use Rattle.ss_origin.specs.Counting.{Start}
use Rattle.ss_origin.specs.Calls.{Call, Begin, Submit, Flush, Run, stamp_of}
use Rattle.ss_origin.specs.State.{State, state, pending_in, first_pending, runs_closed}
use Rattle.ss_origin.specs.Step.{after}
use Rattle.ss_origin.specs.Setting.{Setting}
use Rattle.ss_origin.specs.Emission.{signature_in, certificate_of, block_of, IsSealed, sent_first, EmitsFrom}
use Rattle.ss_origin.specs.Refusals.{is_plain, fault_of}
use Rattle.ss_origin.specs.Chain.{Turn, calls_of, AreTurns, start_behind, AreChained}
use Rattle.ss_origin.specs.CountedLaws.{sent_in_turns, sent_in_order, is_signature, HasGbc, SentBlocksAreCounted}
use Rattle.ss_origin.proofs.Configs.{has_ranges}
use Rattle.ss_origin.proofs.RunsClosed.{all-append}
use Rattle.ss_origin.proofs.Sent.{all-copies}
use Rattle.ss_origin.proofs.SentRuns.{plain_first}
use Rattle.ss_origin.proofs.Steps.{states_step}

-- ---- filters

module _ {X : Type 0} (p : X → Bool) where
  all_kept : (xs : List X) → AllByRecursion (λ x. p x ≡ true) xs → filter p xs ≡ xs
  all_kept [] all = refl
  all_kept (x ∷ xs) all = ap (λ b. cond b (x ∷ filter p xs) (filter p xs)) all.0 ∙ ap (λ ys. x ∷ ys) (all_kept xs all.1)

  none_kept : (xs : List X) → AllByRecursion (λ x. p x ≡ false) xs → filter p xs ≡ []
  none_kept [] none = refl
  none_kept (x ∷ xs) none = ap (λ b. cond b (x ∷ filter p xs) (filter p xs)) none.0 ∙ none_kept xs none.1

abbrev is_block : List ℕ → Bool
is_block m = is_signature (reading m)

abbrev copies_of : ℕ → List (List ℕ) → List (List ℕ)
copies_of n messages = flat_map (λ m. replicate n m) messages

not_signature : (r : Reading) → is_plain r ≡ true → is_signature r ≡ false
not_signature readings.Plain e = refl
not_signature (readings.Unparsed part pos) e = absurd (cc)
not_signature (readings.Signature b) e = absurd (cc)
not_signature (readings.Certificate b) e = absurd (cc)
not_signature (readings.Spoilt cause) e = absurd (cc)

enumerate-append : {X : Type 0} (n : ℕ) (xs ys : List X) → enumerate_from n (xs ++ ys) ≡ enumerate_from n xs ++ enumerate_from (n + length xs) ys
enumerate-append n [] ys = ap (λ k. enumerate_from k ys) (let e : n ≡ n + 0 = omega arith in e)
enumerate-append n (x ∷ xs) ys =
    let e : n + 1 + length xs ≡ n + length (x ∷ xs) = omega arith in
    ap (λ rest. (n, x) ∷ rest) (enumerate-append (n + 1) xs ys ∙ ap (λ k. enumerate_from (n + 1) xs ++ enumerate_from k ys) e)

-- ---- some messages and their signature blocks

-- the signature blocks among what was sent, each once, with the GBC from one on and up to another
record Counts (copies from to : ℕ) (sent : List (List ℕ)) : Type 0 where
  messages : List (List ℕ)
  kept : filter is_block sent ≡ copies_of copies messages
  counted : AllByRecursion HasGbc (enumerate_from from messages)
  next : to ≡ from + length messages

none_sent : (copies from : ℕ) (sent : List (List ℕ)) → filter is_block sent ≡ [] → Counts copies from from sent
none_sent copies from sent e = record { messages = []; kept = e; counted = tt; next = omega arith }

both_sent : (copies from mid to : ℕ) (first second : List (List ℕ)) → Counts copies from mid first → Counts copies mid to second → Counts copies from to (first ++ second)
both_sent copies from mid to first second one two =
    let until = one.next in
    let behind = two.next in
    let longer = length-append one.messages two.messages in
    record {
      messages = one.messages ++ two.messages;
      kept =
          filter-append is_block first second
          ∙ ap (λ ms. ms ++ filter is_block second) one.kept
          ∙ ap (λ ms. copies_of copies one.messages ++ ms) two.kept
          ∙ sym (flat_map-append (λ (m : List ℕ). replicate copies m) one.messages two.messages);
      counted =
          subst (AllByRecursion HasGbc) (sym (enumerate-append from one.messages two.messages))
          (all-append HasGbc (enumerate_from from one.messages) (enumerate_from (from + length one.messages) two.messages) one.counted
          (subst (λ k. AllByRecursion HasGbc (enumerate_from k two.messages)) until two.counted));
      next = omega (arith, until, behind, longer);
    }

-- ---- a call

module _ (s : Setting) (old : State) where
  first_not_kept : (call : Call) → fault_of s.config old call ≡ None → filter is_block (sent_first call) ≡ []
  first_not_kept (Begin stamp) e = refl
  first_not_kept (Submit message stamp) e =
      none_kept is_block (message ∷ []) (not_signature (reading message) (plain_first s.config old (Submit message stamp) message e (inl refl)), tt)
  first_not_kept (Flush stamp) e = refl

  -- certificate blocks are no signature blocks
  certificates : (stamp : Option Moment) (cuts : List Cut) (messages : List (List ℕ)) → AllZip (IsSealed s stamp) (map (certificate_of s.config (payload_text s.payload)) cuts) messages → AllByRecursion (λ m. is_block m ≡ false) messages
  certificates stamp [] [] zip = tt
  certificates stamp [] (m ∷ messages) zip = absurd zip
  certificates stamp (cut ∷ cuts) [] zip = tt
  certificates stamp (cut ∷ cuts) (m ∷ messages) zip = (ap is_signature zip.0.read.read, certificates stamp cuts messages zip.1)

  abbrev SealedIn : Option Moment → ℕ → List Run → List (List ℕ) → Type 0
  SealedIn stamp n runs messages = AllZip (IsSealed s stamp) (map (block_of s.config old) (enumerate_from n runs)) messages

  signatures : (stamp : Option Moment) (n : ℕ) (runs : List Run) (messages : List (List ℕ)) → SealedIn stamp n runs messages → AllByRecursion (λ m. is_block m ≡ true) messages
  signatures stamp n [] [] zip = tt
  signatures stamp n [] (m ∷ messages) zip = absurd zip
  signatures stamp n (r ∷ runs) [] zip = tt
  signatures stamp n (r ∷ runs) (m ∷ messages) zip = (ap is_signature zip.0.read.read, signatures stamp (n + 1) runs messages zip.1)

  have_gbc : (stamp : Option Moment) (n : ℕ) (runs : List Run) (messages : List (List ℕ)) → SealedIn stamp n runs messages → AllByRecursion HasGbc (enumerate_from n messages)
  have_gbc stamp n [] [] zip = tt
  have_gbc stamp n [] (m ∷ messages) zip = absurd zip
  have_gbc stamp n (r ∷ runs) [] zip = tt
  have_gbc stamp n (r ∷ runs) (m ∷ messages) zip =
      let b : block.Signature = record (signature_in s.config r.spri n (first_pending old r.spri) r.hashes) { signature = zip.0.signature } in
      ((b, zip.0.read.read, refl), have_gbc stamp (n + 1) runs messages zip.1)

  as_many : (stamp : Option Moment) (n : ℕ) (runs : List Run) (messages : List (List ℕ)) → SealedIn stamp n runs messages → length runs ≡ length messages
  as_many stamp n [] [] zip = refl
  as_many stamp n [] (m ∷ messages) zip = absurd zip
  as_many stamp n (r ∷ runs) [] zip = absurd zip
  as_many stamp n (r ∷ runs) (m ∷ messages) zip = let e = as_many stamp (n + 1) runs messages zip.1 in omega (arith, e)

  -- what stands in front has no block, so the signature blocks are the copies of these
  of_blocks : (call : Call) (emitted : List (List ℕ)) → fault_of s.config old call ≡ None → (e : EmitsFrom s old call emitted)
      → SealedIn (stamp_of call) old.gbc (runs_closed s.config (pending_in old) call) e.sent.messages
      → Counts s.config.copies old.gbc (old.gbc + length (runs_closed s.config (pending_in old) call)) emitted
  of_blocks call emitted accepted e zip =
      let runs = runs_closed s.config (pending_in old) call in
      let messages = e.sent.messages in
      record {
        messages = messages;
        kept =
            ap (filter is_block) e.sent.sent_are
            ∙ filter-append is_block (sent_first call) (copies_of s.config.copies messages)
            ∙ ap (λ ms. ms ++ filter is_block (copies_of s.config.copies messages)) (first_not_kept call accepted)
            ∙ all_kept is_block (copies_of s.config.copies messages) (all-copies (λ m. is_block m ≡ true) s.config.copies messages (signatures (stamp_of call) old.gbc runs messages zip));
        counted = have_gbc (stamp_of call) old.gbc runs messages zip;
        next = ap (λ k. old.gbc + k) (as_many (stamp_of call) old.gbc runs messages zip);
      }

  of_call : (call : Call) (emitted : List (List ℕ)) → fault_of s.config old call ≡ None → EmitsFrom s old call emitted → Counts s.config.copies old.gbc (after s.config old call).gbc emitted
  of_call (Begin stamp) emitted accepted e =
      let zip = subst (λ due. AllZip (IsSealed s stamp) due e.sent.messages) e.are_due.2 e.sent.sealed in
      none_sent s.config.copies old.gbc emitted (
      ap (filter is_block) e.sent.sent_are
      ∙ none_kept is_block (copies_of s.config.copies e.sent.messages) (all-copies (λ m. is_block m ≡ false) s.config.copies e.sent.messages (certificates stamp e.are_due.0 e.sent.messages zip))
      )
  of_call (Submit message stamp) emitted accepted e =
      of_blocks (Submit message stamp) emitted accepted e (subst (λ due. AllZip (IsSealed s stamp) due e.sent.messages) e.are_due e.sent.sealed)
  of_call (Flush stamp) emitted accepted e =
      of_blocks (Flush stamp) emitted accepted e (subst (λ due. AllZip (IsSealed s stamp) due e.sent.messages) e.are_due e.sent.sealed)

-- ---- a chain

of_turns : (s : Setting) → is_config s.config ≡ true → (start : Start) (turns : List Turn) → AreTurns s start turns → Counts s.config.copies start.counters.gbc (state s.config start (calls_of turns)).gbc (sent_in_turns turns)
of_turns s is start [] are = record { messages = []; kept = refl; counted = tt; next = omega arith }
of_turns s is start (t ∷ before) are =
    let old = state s.config start (calls_of before) in
    both_sent s.config.copies start.counters.gbc old.gbc (state s.config start (calls_of (t ∷ before))).gbc (sent_in_turns before) t.emitted (of_turns s is start before are.0)
    (subst (λ x. Counts s.config.copies old.gbc x.gbc t.emitted) (sym (states_step s.config start (calls_of before) t.call (has_ranges s.config is).some)) (of_call s old t.call t.emitted are.1 are.2))

of_chain : (s : Setting) → is_config s.config ≡ true → (chain : List (List Turn)) → AreChained s chain → Counts s.config.copies 0 (start_behind s.config chain).counters.gbc (sent_in_order chain)
of_chain s is [] are = record { messages = []; kept = refl; counted = tt; next = omega arith }
of_chain s is (turns ∷ before) are =
    let start = start_behind s.config before in
    both_sent s.config.copies 0 start.counters.gbc (state s.config start (calls_of turns)).gbc (sent_in_order before) (sent_in_turns turns) (of_chain s is before are.0) (of_turns s is start turns are.1)

pub sent_blocks_are_counted : SentBlocksAreCounted
sent_blocks_are_counted s chain is =
    let all = of_chain s is.setting.fit.config chain is.chained in
    let next = all.next in
    record { messages = all.messages; sent = all.kept; counted = all.counted; next = omega (arith, next) }
