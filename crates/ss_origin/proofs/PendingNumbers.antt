-- The number of a message that is left pending is in no block.
use Rattle.std.proofs.Common.{◌≡◌, ◌+◌, ◌<◌, ◌≤◌, List, [], ◌∷◌, ◌++◌, length, refl, sym, ap, ◌∙◌, subst, arith, length-append}
use Rattle.std.specs.List.{Contains}
use Rattle.std.proofs.lemmas.List.{length-map}
use Rattle.ss_message.specs.Laws.{FaultsAreOfNoMessage}
use Rattle.ss_block.specs.Hashes.{hash_of}
use Rattle.ss_origin.specs.declared.config.Config.{Config}
use Rattle.ss_origin.specs.Calls.{spri_in, messages_of, pending_of}
use Rattle.ss_origin.specs.State.{state, first_pending}
use Rattle.ss_origin.specs.Chain.{Turn, calls_of, start_behind, given_to}
use Rattle.ss_origin.specs.Ahead.{Life, GoOnAhead, lives_of}
use Rattle.ss_origin.specs.SignedLaws.{number_behind}
use Rattle.ss_origin.specs.NoBlockLaws.{PendingMessagesAreInNoBlock}
use Rattle.ss_origin.proofs.ChainsAhead.{chains_go_on_ahead, same_sent, sent_block, IsSentBlock, pending_number}
use Rattle.ss_origin.proofs.Configs.{has_ranges}
use Rattle.ss_origin.proofs.Groups.{spris_are_small}
use Rattle.ss_origin.proofs.Numbering.{numbers_go_on}
use Rattle.ss_origin.proofs.SignedMessages.{among_own}

-- the originators after some of a chain
lives-append : (c : Config) (newer rest : List (List Turn)) → (front : List Life) × (lives_of c (newer ++ rest) ≡ front ++ lives_of c rest)
lives-append c [] rest = ([], refl)
lives-append c (turns ∷ newer) rest =
    let w = lives-append c newer rest in
    let l : Life = record { start = start_behind c (newer ++ rest); turns = turns } in
    (l ∷ w.0, ap (λ ls. l ∷ ls) w.1)

pub pending_messages_are_in_no_block : FaultsAreOfNoMessage → PendingMessagesAreInNoBlock
pending_messages_are_in_no_block read s newer older later earlier t message stamp is call pending m b sent read_m covers =
    let c = s.config in
    let spri = spri_in c.grouping message in
    let turns = later ++ t ∷ earlier in
    let chain = newer ++ turns ∷ older in
    let l : Life = record { start = start_behind c older; turns = turns } in
    let small : spri < 192 = spris_are_small read c.grouping message (has_ranges c is.setting.fit.config).grouping in
    let cut = lives-append c newer (turns ∷ older) in
    let ahead : GoOnAhead s (cut.0 ++ l ∷ lives_of c older) = subst (GoOnAhead s) cut.1 (chains_go_on_ahead s chain is).chained in
    let here : IsSentBlock (cut.0 ++ l ∷ lives_of c older) m b
    = subst (λ ls. IsSentBlock ls m b) cut.1 (sent_block (lives_of c chain) m b (subst (λ ms. Contains ms m) (sym (same_sent c chain)) sent) read_m) in
    let end = state c l.start (calls_of turns) in
    let own = messages_of c.grouping spri (calls_of earlier) in
    let others = messages_of c.grouping spri (calls_of later) in
    let all : length (messages_of c.grouping spri (calls_of turns)) ≡ length own + length (message ∷ others)
    = ap length (among_own c later earlier t message stamp call) ∙ length-append own (message ∷ others) in
    let goes_on = numbers_go_on c older spri small in
    let number = length-append (given_to c spri older) own in
    let hashes = length-map (pending_of c spri (calls_of turns)) (hash_of c.alg) in
    let first : first_pending end spri ≤ number_behind c older earlier message = omega (arith, all, goes_on, number, hashes, pending) in
    let last : number_behind c older earlier message < (end.groups spri).number = omega (arith, all, goes_on, number) in
    pending_number read s is.setting.fit.config spri (number_behind c older earlier message) cut.0 l (lives_of c older) m b small ahead first last here covers
