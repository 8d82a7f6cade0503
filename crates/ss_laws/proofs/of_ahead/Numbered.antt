-- Each announced number of originators that go on ahead is one that a message got, and has its hash.
use Rattle.std.proofs.Common.{◌≡◌, inl, inr, ℕ, List, [], ◌∷◌, length, sym, ap, ◌∙◌, subst, arith}
use Rattle.std.specs.Prelude.{slice_get}
use Rattle.ss_block.specs.declared.block.Group.{Group}
use Rattle.ss_block.specs.declared.hash.Hash.{Hash}
use Rattle.ss_block.specs.Hashes.{hash_of}
use Rattle.ss_origin.specs.declared.config.Config.{Config}
use Rattle.ss_origin.specs.Ahead.{Life, GoOnAhead}
use Rattle.ss_origin.specs.AheadLaws.{NumbersAreGivenOnce}
use Rattle.ss_origin.specs.Calls.{spri_in, messages_of}
use Rattle.ss_origin.specs.Chain.{Turn, calls_of, AreTurns}
use Rattle.ss_origin.specs.Counting.{number_in}
use Rattle.ss_origin.specs.Groups.{group_of}
use Rattle.ss_origin.specs.Setting.{Setting}
use Rattle.ss_review.specs.keep.BlockMessage.{BlockMessage}
use Rattle.ss_review.specs.announced.Announced.{Key}
use Rattle.ss_review.specs.announced.Announcing.{Announces}
use Rattle.ss_review.specs.deliveries.Delivery.{own_session}
use Rattle.ss_review.specs.deliveries.DeliveryLaws.{Case, says}
use Rattle.ss_review.specs.deliveries.AheadDelivery.{HasNumber}
use Rattle.ss_octets.proofs.Members.{Has, has_split, from_has-map}
use Rattle.ss_origin.proofs.Frontiers.{IsSentIn}
use Rattle.ss_review.proofs.of_deliveries.GivenAhead.{given_in, hash_of_given}
use Rattle.ss_laws.proofs.of_ahead.AsSent.{AreAsSent}
use Rattle.ss_review.proofs.of_deliveries.SentMessages as messages
use Rattle.ss_laws.specs.ahead.Reported.{AreAhead}

-- ---- the turns of lives

turned : (s : Setting) (lives : List Life) (l : Life) → GoOnAhead s lives → Has lives l → AreTurns s l.start l.turns
turned s [] l are h = absurd h
turned s (o ∷ before) l are (inl e) = subst (λ (q : Life). AreTurns s q.start q.turns) e are.2
turned s (o ∷ before) l are (inr h) = turned s before l are.0 h

module _ (x : Case) (lives : List Life) (is : AreAhead x lives) where
  abbrev c : Config
  c = x.s.config

  -- the originator of turns of the case
  record IsOfLife (turns : List Turn) : Type 0 where
    life : Life
    of_lives : Has lives life
    turns_are : life.turns ≡ turns

  life_of : (turns : List Turn) → Has x.chain turns → IsOfLife turns
  life_of turns h =
      let w = from_has-map (λ (l : Life). l.turns) lives turns (subst (λ ts. Has ts turns) is.turns h) in
      record { life = w.0; of_lives = w.1; turns_are = w.2 }

  pub all_turns : messages.AreAllTurns x.s x.chain
  all_turns turns t h i =
      let l = life_of turns h in
      messages.turn_of x.s l.life.start l.life.turns t (turned x.s lives l.life is.chain.chained l.of_lives) (subst (λ ts. Has ts t) (sym l.turns_are) i)

  -- an originator was given a message with the hash under the number
  pub record IsNumbered (k : Key) (h : Hash) : Type 0 where
    pub message : List ℕ
    pub numbered : HasNumber x.s.config lives k message
    pub hash : h ≡ hash_of x.s.config.alg message

  module _ (bs : List BlockMessage) (are : AreAsSent x bs) where
    pub is_numbered : (k : Key) → k.session ≡ own_session x.s → (h : Hash) → Announces (says x) bs k h → IsNumbered k h
    is_numbered k own h a =
        let b = are a.message a.said a.stored (a.session_is ∙ own) a.says_so a.verified in
        let by = messages.sent_by x.chain b.message b.sent in
        let f = life_of by.turns by.of_chain in
        let l = f.life in
        let sent : IsSentIn l.turns b.message b.block = record { turn = by.turn; of_turns = subst (λ ts. Has ts by.turn) (sym f.turns_are) by.of_originator; sent = by.sent; read = b.read } in
        let w = hash_of_given x.s l.start l.turns b.message b.block (turned x.s lives l is.chain.chained f.of_lives) sent a.index h (ap (λ hs. slice_get hs a.index) (sym b.same.hashes) ∙ a.hash) in
        let g = given_in c w.spri l.turns w.before w.after w.message w.messages in
        let outer = has_split lives l f.of_lives in
        let spri : spri_in c.grouping w.message ≡ w.spri = g.own in
        let many : length (messages_of c.grouping (spri_in c.grouping w.message) (calls_of g.earlier)) ≡ length w.before
        = ap (λ n. length (messages_of c.grouping n (calls_of g.earlier))) spri ∙ ap length g.behind in
        let first = ap (number_in l.start.counters.groups) spri in
        let said = b.same.first in
        let at = w.number in
        let own_number = a.number in
        record {
          message = w.message;
          numbered = record {
            given = record {
              newer = outer.0;
              life = l;
              older = outer.1;
              lives_are = outer.2;
              later = g.later;
              turn = g.turn;
              earlier = g.earlier;
              turns_are = g.turns_are;
              stamp = g.stamp;
              call = g.call;
            };
            number = omega (arith, many, first, at, said, own_number);
            group = ap (group_of c.grouping) spri ∙ sym w.group ∙ sym b.same.group ∙ a.group_is;
          };
          hash = w.hash;
        }

    -- all hashes of a number are that of its message
    pub one_hash : NumbersAreGivenOnce → (k : Key) (message : List ℕ) → k.session ≡ own_session x.s → HasNumber x.s.config lives k message → (g : Hash) → Announces (says x) bs k g → g ≡ hash_of x.s.config.alg message
    one_hash once k message own numbered g a =
        let p = is_numbered k own g a in
        let spri : spri_in c.grouping p.message ≡ spri_in c.grouping message = ap (λ (o : Group). o.spri) (p.numbered.group ∙ sym numbered.group) in
        let same = (once x.s lives is.chain p.message message p.numbered.given numbered.given spri (p.numbered.number ∙ sym numbered.number)).0 in
        p.hash ∙ ap (hash_of c.alg) same
