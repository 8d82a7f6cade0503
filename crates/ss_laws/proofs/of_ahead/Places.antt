-- Each message of a chain has the number of its place in its group.
use Rattle.std.proofs.Common.{◌≡◌, ◌⊎◌, inl, inr, ℕ, zero, suc, ◌+◌, ◌-◌, ◌<◌, List, [], ◌∷◌, ◌++◌, length, refl, sym, ap, ◌∙◌, arith, length-append}
use Rattle.std.specs.Prelude.{Some, slice_get}
use Rattle.ss_message.specs.Laws.{FaultsAreOfNoMessage}
use Rattle.ss_block.specs.declared.block.Group.{Group}
use Rattle.ss_origin.specs.declared.config.Config.{Config}
use Rattle.ss_origin.specs.Ahead.{Life, lives_of}
use Rattle.ss_origin.specs.Calls.{spri_in, messages_of}
use Rattle.ss_origin.specs.Chain.{Turn, calls_of, start_behind, IsChain, given_to}
use Rattle.ss_origin.specs.ChainLaws.{NumbersGoOn}
use Rattle.ss_origin.specs.Counting.{Start, number_in}
use Rattle.ss_origin.specs.Groups.{group_of}
use Rattle.ss_origin.specs.Setting.{Setting}
use Rattle.ss_origin.proofs.Configs.{has_ranges}
use Rattle.ss_origin.proofs.Groups.{spris_are_small}
use Rattle.ss_origin.proofs.SignedMessages.{among_given}
use Rattle.ss_review.specs.announced.Announced.{Key}
use Rattle.ss_review.specs.deliveries.AheadDelivery.{HasNumber}
use Rattle.ss_review.proofs.of_deliveries.GivenAhead.{given_in}
use Rattle.ss_laws.specs.ahead.Places.{IsPlaced, NumbersOfChainsArePlaces}

-- ---- lists

at_seam : {X : Type 0} (xs ys : List X) (x : X) → slice_get (xs ++ x ∷ ys) (length xs) ≡ Some x
at_seam [] ys x = refl
at_seam (z ∷ xs) ys x = at_seam xs ys x

cut_at : {X : Type 0} (xs : List X) (i : ℕ) (x : X) → slice_get xs i ≡ Some x → (front : List X) × (behind : List X) × (xs ≡ front ++ x ∷ behind) × (length front ≡ i)
cut_at [] i x e = absurd (cc)
cut_at (y ∷ xs) zero x e = let same : y ≡ x = cc in ([], xs, ap (λ z. z ∷ xs) same, refl)
cut_at (y ∷ xs) (suc i) x e = let w = cut_at xs i x e in (y ∷ w.0, w.1, ap (λ zs. y ∷ zs) w.2, ap suc w.3)

-- what stands in two lists one after the other stands in one of them
in_either : {X : Type 0} (xs ys : List X) (i : ℕ) (x : X) → slice_get (xs ++ ys) i ≡ Some x
    → (slice_get xs i ≡ Some x) ⊎ ((j : ℕ) × (slice_get ys j ≡ Some x) × (length xs + j ≡ i))
in_either [] ys i x e = inr (i, e, omega arith)
in_either (z ∷ xs) ys zero x e = inl e
in_either (z ∷ xs) ys (suc i) x e = elim (in_either xs ys i x e) [
  | inl front ↦ inl front
  | inr w ↦ inr (w.0, w.1, omega (arith, w.2))
]

none_at : {X : Type 0} (ys zs : List X) (y : X) → [] ≡ ys ++ y ∷ zs → ⊥
none_at [] zs y e = cc
none_at (w ∷ ys) zs y e = cc

-- ---- an originator of a chain

module _ (c : Config) where
  -- its turns stand in the chain, and it begins with the last counters of those before
  record IsAmong (chain : List (List Turn)) (life : Life) : Type 0 where
    newer : List (List Turn)
    before : List (List Turn)
    chain_is : chain ≡ newer ++ life.turns ∷ before
    start_is : life.start ≡ start_behind c before

  among : (chain : List (List Turn)) (newer older : List Life) (life : Life) → lives_of c chain ≡ newer ++ life ∷ older → IsAmong chain life
  among [] newer older life e = absurd (none_at newer older life e)
  among (turns ∷ before) [] older life e =
      let same : record { start = start_behind c before; turns = turns } ≡ life = cc in
      record { newer = []; before = before; chain_is = ap (λ (l : Life). l.turns ∷ before) same; start_is = sym (ap (λ (l : Life). l.start) same) }
  among (turns ∷ before) (l ∷ newer) older life e =
      let tail : lives_of c before ≡ newer ++ life ∷ older = cc in
      let w = among before newer older life tail in
      record { newer = turns ∷ w.newer; before = w.before; chain_is = ap (λ ts. turns ∷ ts) w.chain_is; start_is = w.start_is }

  abbrev life_of : List Turn → List (List Turn) → Life
  life_of turns before = record { start = start_behind c before; turns = turns }

  lives_cut : (newer before : List (List Turn)) (turns : List Turn) → (ls : List Life) × (lives_of c (newer ++ turns ∷ before) ≡ ls ++ life_of turns before ∷ lives_of c before)
  lives_cut [] before turns = ([], refl)
  lives_cut (n ∷ newer) before turns =
      let l = life_of n (newer ++ turns ∷ before) in
      let w = lives_cut newer before turns in
      (l ∷ w.0, ap (λ ls. l ∷ ls) w.1)

  -- ---- a message of a group

  module _ (spri : ℕ) where
    abbrev of_turns : List Turn → List (List ℕ)
    of_turns turns = messages_of c.grouping spri (calls_of turns)

    record IsFound (chain : List (List Turn)) (i : ℕ) (message : List ℕ) : Type 0 where
      newer : List (List Turn)
      turns : List Turn
      before : List (List Turn)
      chain_is : chain ≡ newer ++ turns ∷ before
      front : List (List ℕ)
      behind : List (List ℕ)
      messages : of_turns turns ≡ front ++ message ∷ behind
      place : length (given_to c spri before) + length front ≡ i

    found : (chain : List (List Turn)) (i : ℕ) (message : List ℕ) → slice_get (given_to c spri chain) i ≡ Some message → IsFound chain i message
    found [] i message e = absurd (cc)
    found (turns ∷ before) i message e = elim (in_either (given_to c spri before) (of_turns turns) i message e) [
      | inl earlier ↦ (
          let w = found before i message earlier in
          record { newer = turns ∷ w.newer; turns = w.turns; before = w.before; chain_is = ap (λ ts. turns ∷ ts) w.chain_is; front = w.front; behind = w.behind; messages = w.messages; place = w.place })
      | inr own ↦ (
          let u = cut_at (of_turns turns) own.0 message own.1 in
          record { newer = []; turns = turns; before = before; chain_is = refl; front = u.0; behind = u.1; messages = u.2; place = omega (arith, own.2, u.3) })
    ]

-- ---- the law

module _ (go_on : NumbersGoOn) (s : Setting) (chain : List (List Turn)) (k : Key) (message : List ℕ) where
  abbrev c : Config
  c = s.config

  placed : FaultsAreOfNoMessage → IsChain s chain → HasNumber c (lives_of c chain) k message → IsPlaced c chain k message
  placed read is n =
      let g = n.given in
      let spri = spri_in c.grouping message in
      let small : spri < 192 = spris_are_small read c.grouping message (has_ranges c is.setting.fit.config).grouping in
      let own : k.group.spri ≡ spri = sym (ap (λ (o : Group). o.spri) n.group) in
      let w = among c chain g.newer g.older g.life g.lives_are in
      let front = given_to c spri (g.earlier ∷ w.before) in
      let first = go_on c w.before spri small in
      let started = ap (λ (q : Start). number_in q.counters.groups spri) w.start_is in
      let many = length-append (given_to c spri w.before) (messages_of c.grouping spri (calls_of g.earlier)) in
      let number = n.number in
      let at : k.number - 1 ≡ length front = omega (arith, first, started, many, number) in
      let a = among_given c g.later g.earlier g.turn message g.stamp g.call w.newer w.before in
      let chain_is : chain ≡ w.newer ++ (g.later ++ g.turn ∷ g.earlier) ∷ w.before = w.chain_is ∙ ap (λ ts. w.newer ++ ts ∷ w.before) g.turns_are in
      record {
        group = sym n.group ∙ ap (group_of c.grouping) (sym own);
        small = omega (arith, small, own);
        some = omega (arith, first, started, number);
        given = (λ i. slice_get (given_to c (own i) (chain_is i)) (at i)) ∙ ap (λ ms. slice_get ms (length front)) a.1 ∙ at_seam front a.0 message;
      }

  numbered : IsPlaced c chain k message → HasNumber c (lives_of c chain) k message
  numbered p =
      let spri = k.group.spri in
      let f = found c spri chain (k.number - 1) message p.given in
      let g = given_in c spri f.turns f.front f.behind message f.messages in
      let l = lives_cut c f.newer f.before f.turns in
      let first = go_on c f.before spri p.small in
      let begun = ap (number_in (start_behind c f.before).counters.groups) g.own in
      let many : length (messages_of c.grouping (spri_in c.grouping message) (calls_of g.earlier)) ≡ length f.front
      = ap (λ n. length (messages_of c.grouping n (calls_of g.earlier))) g.own ∙ ap length g.behind in
      let place = f.place in
      let some = p.some in
      record {
        given = record {
          newer = l.0;
          life = life_of c f.turns f.before;
          older = lives_of c f.before;
          lives_are = ap (lives_of c) f.chain_is ∙ l.1;
          later = g.later;
          turn = g.turn;
          earlier = g.earlier;
          turns_are = g.turns_are;
          stamp = g.stamp;
          call = g.call;
        };
        number = omega (arith, first, begun, many, place, some);
        group = ap (group_of c.grouping) g.own ∙ sym p.group;
      }

pub numbers_are_places : FaultsAreOfNoMessage → NumbersGoOn → NumbersOfChainsArePlaces
numbers_are_places read go_on s chain is k message = (placed go_on s chain k message read is, numbered go_on s chain k message)
