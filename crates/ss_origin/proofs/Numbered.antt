-- The runs of a chain hold the hashes of the messages that have their numbers.
use Rattle.std.proofs.Common.{◌≡◌, ℕ, ◌<◌, List, [], ◌∷◌, ◌++◌, length, sym, ap, ◌∙◌, arith, append-nil, append_assoc, length-append}
use Rattle.std.specs.List.{AllByRecursion}
use Rattle.std.proofs.lemmas.List.{length-map, map-append}
use Rattle.ss_block.specs.Hashes.{hash_of}
use Rattle.ss_origin.specs.declared.grouping.Grouping.{Grouping}
use Rattle.ss_origin.specs.declared.config.Config.{Config}
use Rattle.ss_origin.specs.Calls.{Call, Begin, Submit, Flush, Run, if_in, messages_of, pending_of}
use Rattle.ss_origin.specs.State.{state, pending_in, first_pending, runs_closed}
use Rattle.ss_origin.specs.Chain.{Turn, calls_of, start_behind, given_to}
use Rattle.ss_origin.specs.RunLaws.{IsLastRun}
use Rattle.ss_origin.specs.BlockLaws.{AreNumbered, RunsAreNumbered}
use Rattle.ss_origin.proofs.Numbering.{numbers_go_on}
use Rattle.ss_origin.proofs.RunsClosed.{runs_are_last}

-- what later calls gave to a group
messages_behind : (grouping : Grouping) (spri : ℕ) (later earlier : List Call) → (more : List (List ℕ)) × (messages_of grouping spri (later ++ earlier) ≡ messages_of grouping spri earlier ++ more)
messages_behind grouping spri [] earlier = ([], sym (append-nil (messages_of grouping spri earlier)))
messages_behind grouping spri (Begin stamp ∷ later) earlier = messages_behind grouping spri later earlier
messages_behind grouping spri (Submit message stamp ∷ later) earlier =
    let w = messages_behind grouping spri later earlier in (
      w.0 ++ if_in grouping spri message,
      ap (λ ms. ms ++ if_in grouping spri message) w.1 ∙ append_assoc (messages_of grouping spri earlier) w.0 (if_in grouping spri message),
    )
messages_behind grouping spri (Flush stamp ∷ later) earlier = messages_behind grouping spri later earlier

-- what later originators were given for it
pub given_behind : (c : Config) (spri : ℕ) (newer older : List (List Turn)) → (more : List (List ℕ)) × (given_to c spri (newer ++ older) ≡ given_to c spri older ++ more)
given_behind c spri [] older = ([], sym (append-nil (given_to c spri older)))
given_behind c spri (turns ∷ newer) older =
    let w = given_behind c spri newer older in
    let messages = messages_of c.grouping spri (calls_of turns) in
    (w.0 ++ messages, ap (λ ms. ms ++ messages) w.1 ∙ append_assoc (given_to c spri older) w.0 messages)

pub all-weaker : {X : Type 0} (P Q : X → Type 0) → ((x : X) → P x → Q x) → (xs : List X) → AllByRecursion P xs → AllByRecursion Q xs
all-weaker P Q f [] all = tt
all-weaker P Q f (x ∷ xs) all = (f x all.0, all-weaker P Q f xs all.1)

regrouped : {X : Type 0} (given front run more others : List X) → (given ++ ((front ++ run) ++ more)) ++ others ≡ (given ++ front) ++ (run ++ (more ++ others))
regrouped given front run more others = simp append_assoc

module _ (c : Config) (newer older : List (List Turn)) (later earlier : List Turn) (t : Turn) where
  numbered : (r : Run) → IsLastRun c (calls_of earlier) t.call r → r.spri < 192
      → AreNumbered c (given_to c r.spri (newer ++ (later ++ t ∷ earlier) ∷ older)) (first_pending (state c (start_behind c older) (calls_of earlier)) r.spri) r.hashes
  numbered r last below =
      let given = given_to c r.spri older in
      let others = given_behind c r.spri newer ((later ++ t ∷ earlier) ∷ older) in
      let more = messages_behind c.grouping r.spri (calls_of later) (t.call ∷ calls_of earlier) in
      let goes_on = numbers_go_on c older r.spri below in
      let pending = length-map (pending_of c r.spri (calls_of earlier)) (hash_of c.alg) in
      let before = ap length last.before ∙ length-append last.front (pending_of c r.spri (calls_of earlier)) in
      let front = length-append given last.front in
      record {
        front = given ++ last.front;
        run = last.run;
        behind = more.0 ++ others.0;
        messages_are =
            others.1
            ∙ ap (λ calls. (given ++ messages_of c.grouping r.spri calls) ++ others.0) (map-append (λ (u : Turn). u.call) later (t ∷ earlier))
            ∙ ap (λ ms. (given ++ ms) ++ others.0) (more.1 ∙ ap (λ ms. ms ++ more.0) last.messages)
            ∙ regrouped given last.front last.run more.0 others.0;
        hashes_are = last.hashes;
        first_is = omega (arith, goes_on, pending, before, front);
      }

pub runs_are_numbered : RunsAreNumbered
runs_are_numbered c newer older later earlier t =
    let s = state c (start_behind c older) (calls_of earlier) in
    all-weaker (IsLastRun c (calls_of earlier) t.call)
    (λ r. r.spri < 192 → AreNumbered c (given_to c r.spri (newer ++ (later ++ t ∷ earlier) ∷ older)) (first_pending s r.spri) r.hashes)
    (numbered c newer older later earlier t) (runs_closed c (pending_in s) t.call) (runs_are_last c (calls_of earlier) t.call)
