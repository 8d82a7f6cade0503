-- The numbers of messages that are left pending are in no block, and no others.
use Rattle.std.proofs.Common.{◌≡◌, ◌⊎◌, inl, inr, ℕ, ◌+◌, ◌<◌, ◌≤◌, List, [], ◌∷◌, ◌++◌, length, refl, sym, ap, ◌∙◌, subst, arith, length-append}
use Rattle.std.specs.List.{Contains, flat_map}
use Rattle.std.proofs.lemmas.Bool.{cases_lt}
use Rattle.std.proofs.lemmas.List.{length-map}
use Rattle.ss_message.specs.Laws.{FaultsAreOfNoMessage}
use Rattle.ss_block.specs.Hashes.{hash_of}
use Rattle.ss_origin.specs.Calls.{spri_in, messages_of, pending_of}
use Rattle.ss_origin.specs.State.{state, first_pending}
use Rattle.ss_origin.specs.Chain.{Turn, calls_of, emitted_by}
use Rattle.ss_origin.specs.Ahead.{Life, GoOnAhead, sent_by}
use Rattle.ss_origin.specs.AheadLaws.{IsGiven, number_given, MessagesAheadAreSigned}
use Rattle.ss_origin.specs.SignedLaws.{IsSigned}
use Rattle.ss_review.specs.declared.counted.counter.Counter.{Counter}
use Rattle.ss_review.specs.announced.Announced.{Key}
use Rattle.ss_review.specs.counted.KeptLaws as fates
use Rattle.ss_review.specs.counted.KeptLaws.{shortfalls_of, IsInTail, IsInHole, Fate, HasFate, EveryNumberIsTold}
use Rattle.ss_review.specs.report.Meaning.{IsTold}
use Rattle.ss_review.specs.deliveries.Delivered.{own_number}
use Rattle.ss_review.specs.deliveries.DeliveryLaws.{Case, says, report_in, HasBlock}
use Rattle.ss_review.specs.deliveries.AheadDelivery.{turns_in, IsCaseAhead, AnnouncedAheadByBlocks}
use Rattle.ss_octets.proofs.Members.{Has, has_from_contains, contains_from_has, has-append_right, has-flat_map}
use Rattle.ss_origin.proofs.ChainsAhead.{IsSentBlock, sent_block, pending_number}
use Rattle.ss_origin.proofs.Configs.{has_ranges}
use Rattle.ss_origin.proofs.Groups.{spris_are_small}
use Rattle.ss_origin.proofs.SignedMessages.{among_own}
use Rattle.ss_laws.proofs.of_ahead.CountedBlocks.{older_of}
use Rattle.ss_laws.specs.ahead.PendingAhead.{IsLeftPending, PendingAheadAreInNoBlock, OnlyPendingAheadAreInNoBlock, PendingAheadAreMissing}
use Rattle.ss_laws.proofs.of_ahead.NewestCounters.{begins_from_one}

-- ---- no block

pub pending_in_no_block : FaultsAreOfNoMessage → PendingAheadAreInNoBlock
pending_in_no_block read s lives is message g pending m b sent read_m covers =
    let c = s.config in
    let spri = spri_in c.grouping message in
    let l = g.life in
    let turns = g.later ++ g.turn ∷ g.earlier in
    let small : spri < 192 = spris_are_small read c.grouping message (has_ranges c is.setting.fit.config).grouping in
    let are : GoOnAhead s (g.newer ++ l ∷ g.older) = subst (GoOnAhead s) g.lives_are is.chained in
    let here : IsSentBlock (g.newer ++ l ∷ g.older) m b = subst (λ ls. IsSentBlock ls m b) g.lives_are (sent_block lives m b sent read_m) in
    let end = state c l.start (calls_of l.turns) in
    let own = messages_of c.grouping spri (calls_of g.earlier) in
    let others = messages_of c.grouping spri (calls_of g.later) in
    let all : length (messages_of c.grouping spri (calls_of l.turns)) ≡ length own + length (message ∷ others)
    = ap (λ ts. length (messages_of c.grouping spri (calls_of ts))) g.turns_are
    ∙ ap length (among_own c g.later g.earlier g.turn message g.stamp g.call)
    ∙ length-append own (message ∷ others) in
    let hashes = length-map (pending_of c spri (calls_of l.turns)) (hash_of c.alg) in
    let left : length (pending_of c spri (calls_of l.turns)) ≡ length (pending_of c spri (calls_of turns)) = ap (λ ts. length (pending_of c spri (calls_of ts))) g.turns_are in
    let first : first_pending end spri ≤ number_given c g = omega (arith, all, hashes, left, pending) in
    let last : number_given c g < (end.groups spri).number = omega (arith, all) in
    pending_number read s is.setting.fit.config spri (number_given c g) g.newer l g.older m b small are first last here covers

-- ---- each other number has a block

-- what an originator of the chain sent, the chain sent
sent_in_chain : (lives : List Life) (l : Life) (t : Turn) (m : List ℕ) → Has lives l → Has l.turns t → Has t.emitted m → Contains (sent_by lives) m
sent_in_chain lives l t m h i j =
    contains_from_has (sent_by lives) m
    (has-flat_map (λ (o : Life). flat_map (λ (u : Turn). u.emitted) o.turns) lives l m h (has-flat_map (λ (u : Turn). u.emitted) l.turns t m i j))

pub only_pending_in_no_block : MessagesAheadAreSigned → OnlyPendingAheadAreInNoBlock
only_pending_in_no_block signed s lives is message g none =
    let c = s.config in
    let spri = spri_in c.grouping message in
    elim (cases_lt (length (messages_of c.grouping spri (calls_of g.later))) (length (pending_of c spri (calls_of (g.later ++ g.turn ∷ g.earlier))))) [
      | inl less ↦ less
      | inr most ↦ absurd (in_block (signed s lives is message g (λ less. omega (arith, most, less))))
    ]
  where
    of_chain : Has lives g.life
    of_chain = subst (λ ls. Has ls g.life) (sym g.lives_are) (has-append_right g.newer (g.life ∷ g.older) g.life (inl refl))

    in_block : IsSigned s g.life.turns message (number_given s.config g) → ⊥
    in_block w =
        let own = has_from_contains g.life.turns w.turn w.of_turns in
        let sent = has_from_contains w.turn.emitted w.text w.sent in
        let many = ap length w.hashes ∙ length-append w.before (hash_of s.config.alg message ∷ w.behind) in
        let at = w.number_is in
        none w.text w.block (sent_in_chain lives g.life w.turn w.text of_chain own sent) w.read (record { own = w.group; least = omega (arith, at); below = omega (arith, at, many) })

-- ---- reports

-- the turns of a case are those of its originators
same_sent : (lives : List Life) → emitted_by (turns_in lives) ≡ sent_by lives
same_sent [] = refl
same_sent (l ∷ older) = ap (λ ms. flat_map (λ (t : Turn). t.emitted) l.turns ++ ms) (same_sent older)

-- what is neither listed nor a gap is in a hole or in a tail
missing_as : (x : Case) (k : Key) (cs : List Counter) → ¬ IsTold (report_in x) k → (fate : Fate) → HasFate (report_in x) (shortfalls_of (says x) x.log cs) k fate
    → IsInHole (report_in x) k ⊎ IsInTail (shortfalls_of (says x) x.log cs) k
missing_as x k cs untold fates.Listed l = absurd (untold (inl l))
missing_as x k cs untold fates.Gap g = absurd (untold (inr g))
missing_as x k cs untold fates.Hole h = inl h
missing_as x k cs untold fates.Tail t = inr t

module _ (x : Case) (lives : List Life) (is : IsCaseAhead x lives) (message : List ℕ) (g : IsGiven lives message) where
  abbrev spri : ℕ
  spri = spri_in x.s.config.grouping message

  abbrev k : Key
  k = own_number x spri (number_given x.s.config g)

  untold : PendingAheadAreInNoBlock → AnnouncedAheadByBlocks → IsLeftPending x.s.config g → ¬ IsTold (report_in x) k
  untold none by_blocks pending = λ t. in_none ((by_blocks x lives is k refl).0.0 t).1
    where
      in_none : HasBlock x k → ⊥
      in_none w =
          none x.s lives is.chain message g pending w.message w.block (subst (λ ms. Contains ms w.message) (ap emitted_by is.turns ∙ same_sent lives) w.sent) w.read
          (record { own = w.group; least = w.first; below = w.last })

  some_number : FaultsAreOfNoMessage → 1 ≤ number_given x.s.config g
  some_number read =
      let small : spri < 192 = spris_are_small read x.s.config.grouping message (has_ranges x.s.config is.chain.setting.fit.config).grouping in
      let own = older_of x.s g.newer (g.life ∷ g.older) (subst (GoOnAhead x.s) g.lives_are is.chain.chained) in
      let first = begins_from_one x.s g.life.start g.older spri small own.0 own.1 in
      omega (arith, first)

pub pending_missing : FaultsAreOfNoMessage → PendingAheadAreInNoBlock → AnnouncedAheadByBlocks → EveryNumberIsTold → PendingAheadAreMissing
pending_missing read none by_blocks every x lives is message g pending =
    let key : Key = own_number x (spri_in x.s.config.grouping message) (number_given x.s.config g) in
    let not_told = untold x lives is message g none by_blocks pending in (
      not_told,
      λ cs below. (let w = (every (says x) x.log cs key).0 (some_number x lives is message g read) below in missing_as x key cs not_told w.0 w.1),
    )
