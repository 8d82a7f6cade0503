-- Each number that a chain gave a message is in a block that it sent, where nothing is left pending.
use Rattle.std.proofs.Common.{◌≡◌, inl, inr, ℕ, ◌+◌, ◌-◌, ◌<◌, ◌≤◌, List, [], ◌∷◌, ◌++◌, length, refl, sym, ap, subst, arith, length-append}
use Rattle.std.specs.Prelude.{Contains}
use Rattle.std.specs.List.{flat_map}
use Rattle.std.proofs.lemmas.Bool.{cases_lt}
use Rattle.std.proofs.lemmas.List.{append_assoc}
use Rattle.ss_origin.specs.Calls.{messages_of, pending_of}
use Rattle.ss_origin.specs.Setting.{Setting}
use Rattle.ss_origin.specs.Chain.{Turn, calls_of, IsChain, emitted_by, given_to}
use Rattle.ss_origin.specs.SentLaws.{HasSentBlock, OthersAreSent}
use Rattle.ss_review.specs.deliveries.Delivered.{NumbersHaveBlocks}
use Rattle.ss_review.specs.keep.BlockMessage.{Hashes}
use Rattle.ss_review.specs.keep.Contents.{said_in}
use Rattle.ss_review.proofs.of_deliveries.StoredBlocks.{block_not_normal}
use Rattle.ss_octets.proofs.Members.{Has, has_from_contains, contains_from_has, has-append_right, has-flat_map}

-- a message that a turn of an originator of a chain sent is one that the chain sent
pub sent_by_turn : (chain : List (List Turn)) (turns : List Turn) (t : Turn) (m : List ℕ) → Has chain turns → Has turns t → Has t.emitted m → Has (emitted_by chain) m
sent_by_turn chain turns t m h i j =
    has-flat_map (λ ts. flat_map (λ (u : Turn). u.emitted) ts) chain turns m h
    (has-flat_map (λ (u : Turn). u.emitted) turns t m i j)

-- one of the originators sent a block that has the number
record IsCovered (s : Setting) (chain : List (List Turn)) (spri number : ℕ) : Type 0 where
  turns : List Turn
  of_chain : Has chain turns
  sent : HasSentBlock s turns spri number

module _ (others : OthersAreSent) (s : Setting) (spri number : ℕ) (small : spri < 192) (some : 1 ≤ number) where
  -- the originator that was given the message is the newest of these, or one behind it
  covered_in : (newer rest : List (List Turn)) → IsChain s (newer ++ rest)
      → ((turns : List Turn) → Has (newer ++ rest) turns → pending_of s.config spri (calls_of turns) ≡ [])
      → number ≤ length (given_to s.config spri rest) → IsCovered s (newer ++ rest) spri number
  covered_in newer [] is none most = absurd (omega (arith, most, some))
  covered_in newer (turns ∷ older) is none most =
      elim (cases_lt (length (given_to s.config spri older)) number) [
        | inl behind ↦ newest behind
        | inr before ↦ (let all : (newer ++ turns ∷ []) ++ older ≡ newer ++ turns ∷ older = append_assoc newer (turns ∷ []) older in
            subst (λ l. IsCovered s l spri number) all
            (covered_in (newer ++ turns ∷ []) older (subst (IsChain s) (sym all) is) (λ ts h. none ts (subst (λ l. Has l ts) all h)) before))
      ]
    where
      here : Has (newer ++ turns ∷ older) turns
      here = has-append_right newer (turns ∷ older) turns (inl refl)

      newest : length (given_to s.config spri older) < number → IsCovered s (newer ++ turns ∷ older) spri number
      newest behind =
          let before = length (given_to s.config spri older) in
          let messages = messages_of s.config.grouping spri (calls_of turns) in
          let own : before + length messages ≡ length (given_to s.config spri (turns ∷ older)) = sym (length-append (given_to s.config spri older) messages) in
          let nothing : length (pending_of s.config spri (calls_of turns)) ≡ 0 = ap length (none turns here) in
          let j = number - 1 - before in
          let number_is : 1 + before + j ≡ number = omega (arith, behind) in
          let sent : HasSentBlock s turns spri (1 + before + j) = others s newer older turns is spri j small (omega (arith, nothing, own, most, behind)) in
          record { turns = turns; of_chain = here; sent = subst (HasSentBlock s turns spri) number_is sent }

pub numbers_have_blocks : OthersAreSent → NumbersHaveBlocks
numbers_have_blocks others x is none stored spri number small some most =
    let w = covered_in others x.s spri number small some [] x.chain is.chain (λ turns h. none turns (contains_from_has x.chain turns h) spri) most in
    let b = w.sent in
    let emitted : Contains (emitted_by x.chain) b.message
    = contains_from_has (emitted_by x.chain) b.message
    (sent_by_turn x.chain w.turns b.turn b.message w.of_chain (has_from_contains w.turns b.turn b.of_turns) (has_from_contains b.turn.emitted b.message b.sent)) in
    record {
      message = b.message;
      block = b.block;
      stored = stored b.message emitted (block_not_normal b.message (Hashes b.block) (ap said_in b.read));
      sent = emitted;
      read = b.read;
      group = b.group;
      first = b.least;
      last = b.below;
    }
