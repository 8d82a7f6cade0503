-- A message after which a flush was accepted isn't pending.
use Rattle.std.proofs.Common.{◌≡◌, ℕ, ◌%◌, ◌≤◌, List, [], ◌∷◌, ◌++◌, length, ap, ◌∙◌, arith, append_assoc, length-append}
use Rattle.std.specs.Prelude.{Option}
use Rattle.std.proofs.Math.Nat.{mod-le}
use Rattle.std.proofs.lemmas.List.{map-append}
use Rattle.ss_message.specs.Stamp.{Moment}
use Rattle.ss_origin.specs.declared.config.Config.{Config}
use Rattle.ss_origin.specs.declared.grouping.Grouping.{Grouping}
use Rattle.ss_origin.specs.Calls.{Call, Begin, Submit, Flush, spri_in, if_in, messages_of, messages_since_flush, pending_of}
use Rattle.ss_origin.specs.Chain.{Turn, calls_of}
use Rattle.ss_origin.specs.SignedLaws.{FlushedMessagesAreNotPending}
use Rattle.ss_origin.proofs.Runs.{length-left_over}

-- those that came since a flush are among those after it
since_flush : (grouping : Grouping) (spri : ℕ) (newer rest between : List Call) (stamp : Option Moment)
    → length (messages_since_flush grouping spri (newer ++ Flush stamp ∷ rest)) ≤ length (messages_of grouping spri (newer ++ Flush stamp ∷ between))
since_flush grouping spri [] rest between stamp = omega arith
since_flush grouping spri (Begin other ∷ newer) rest between stamp = since_flush grouping spri newer rest between stamp
since_flush grouping spri (Submit message other ∷ newer) rest between stamp =
    let most = since_flush grouping spri newer rest between stamp in
    let one = length-append (messages_since_flush grouping spri (newer ++ Flush stamp ∷ rest)) (if_in grouping spri message) in
    let two = length-append (messages_of grouping spri (newer ++ Flush stamp ∷ between)) (if_in grouping spri message) in
    omega (arith, most, one, two)
since_flush grouping spri (Flush other ∷ newer) rest between stamp = omega arith

pending_since : (c : Config) (spri : ℕ) (calls : List Call) → length (pending_of c spri calls) ≤ length (messages_since_flush c.grouping spri calls)
unfolding pending_of
pending_since c spri calls =
    let since = messages_since_flush c.grouping spri calls in
    let e = length-left_over c.per_block since in
    let most : length since % c.per_block ≤ length since = mod-le (length since) c.per_block in
    omega (arith, e, most)

pub flushed_messages_are_not_pending : FlushedMessagesAreNotPending
flushed_messages_are_not_pending c newer between earlier f t message stamp flush pending =
    let spri = spri_in c.grouping message in
    let call_in : Turn → Call = λ u. u.call in
    let rest = calls_of (between ++ t ∷ earlier) in
    let all : calls_of ((newer ++ f ∷ between) ++ t ∷ earlier) ≡ calls_of newer ++ Flush stamp ∷ rest
    = ap calls_of (append_assoc newer (f ∷ between) (t ∷ earlier)) ∙ map-append call_in newer (f ∷ (between ++ t ∷ earlier)) ∙ ap (λ k. calls_of newer ++ k ∷ rest) flush in
    let later : calls_of (newer ++ f ∷ between) ≡ calls_of newer ++ Flush stamp ∷ calls_of between
    = map-append call_in newer (f ∷ between) ∙ ap (λ k. calls_of newer ++ k ∷ calls_of between) flush in
    let few = pending_since c spri (calls_of ((newer ++ f ∷ between) ++ t ∷ earlier)) in
    let same = ap (λ calls. length (messages_since_flush c.grouping spri calls)) all in
    let most = since_flush c.grouping spri (calls_of newer) rest (calls_of between) stamp in
    let given = ap (λ calls. length (messages_of c.grouping spri calls)) later in
    omega (arith, few, same, most, given, pending)
