-- What a review says of a log that delivers from originators that go on ahead.
use Rattle.std.proofs.Common.{◌≡◌, ◌⊎◌, inl, inr, ℕ, ◌<◌, ◌≤◌, Bool, true, false, ◌||◌, List, [], ◌∷◌, ◌++◌, length, refl, sym, ap, ◌∙◌, subst, arith}
use Rattle.std.specs.Prelude.{Some, None, slice_get}
use Rattle.std.specs.Ordering.{is_eq}
use Rattle.std.specs.Cmp.{Equal-is}
use Rattle.std.specs.List.{flat_map, list_any}
use Rattle.std.proofs.lemmas.Bool.{both_ways, or_left, cases_Bool}
use Rattle.std.proofs.lemmas.Cmp.{tied_itself}
use Rattle.std.proofs.lemmas.Option.{slice_get_within}
use Rattle.ss_block.specs.declared.block.Group.{Group}
use Rattle.ss_block.specs.declared.hash.Hash.{Hash}
use Rattle.ss_block.specs.Hashes.{pair, hash_of}
use Rattle.ss_origin.specs.declared.config.Config.{Config}
use Rattle.ss_origin.specs.declared.fault.OriginFault.TheVariants.{AlreadyBegun}
use Rattle.ss_origin.specs.Groups.{group_of}
use Rattle.ss_origin.specs.Counting.{Start, number_in}
use Rattle.ss_origin.specs.Calls.{Call, Begin, has_begin, spri_in, messages_of}
use Rattle.ss_origin.specs.State.{state}
use Rattle.ss_origin.specs.Setting.{Setting}
use Rattle.ss_origin.specs.Refusals.{fault_of}
use Rattle.ss_origin.specs.Chain.{Turn, calls_of, AreTurns, IsChain}
use Rattle.ss_origin.specs.ChainLaws.{BeginsFirst}
use Rattle.ss_origin.specs.Ahead.{Life, ended_with, BeginsBehind, GoOnAhead, IsChainAhead, sent_by, lives_of}
use Rattle.ss_origin.specs.AheadLaws.{ChainsGoOnAhead, NumbersAreGivenOnce, SkippedNumbersAreInNoBlock}
use Rattle.ss_review.specs.declared.counted.counter.Counter.{Counter}
use Rattle.ss_review.specs.declared.report.entry.Entry.TheVariants as entry
use Rattle.ss_review.specs.declared.report.entry.Why.TheVariants as whys
use Rattle.ss_review.specs.keep.Notes.{notes}
use Rattle.ss_review.specs.keep.Contents.{normals, blocks, contents}
use Rattle.ss_review.specs.announced.Announced.{Key, keys, key_cmp}
use Rattle.ss_review.specs.announced.Announcing.{Announces, IsAnnounced}
use Rattle.ss_review.specs.assign.Assigned.{has_hash}
use Rattle.ss_review.specs.Laws.{OneReport, AnnouncedAreTold, KeysAreAnnounced, ReportsListWhatIsAnnounced}
use Rattle.ss_review.specs.assign.Listing.{IsDue}
use Rattle.ss_review.specs.report.Meaning.{IsTold}
use Rattle.ss_review.specs.deliveries.Delivery.{own_session, is_normal}
use Rattle.ss_review.specs.deliveries.Delivered.{own_number}
use Rattle.ss_review.specs.deliveries.DeliveryLaws.{Case, says, report_in, rows_in}
use Rattle.ss_review.specs.counted.KeptLaws as fates
use Rattle.ss_review.specs.counted.KeptLaws.{shortfalls_of, IsInTail, IsInHole, Fate, HasFate, EveryNumberIsTold}
use Rattle.ss_review.specs.deliveries.AheadDelivery.{turns_in, IsCaseAhead, CasesGoOnAhead, NothingAheadIsDisputed, JoinedAheadByFragments, HasNumber, HasItsHashAhead, AnnouncedAheadByBlocks, ListedAheadHaveTheirHash, IsSkipped, SkippedNumbersAreInHoles, SkippedNumbersAreMissing}
use Rattle.ss_origin.proofs.CountersInRange.{none_first}
use Rattle.ss_origin.proofs.Frontiers.{IsSentIn}
use Rattle.ss_octets.proofs.Members.{Has, has_from_contains, contains_from_has, has_split, from_has-map, has-flat_map}
use Rattle.ss_origin.proofs.Numbering.{counters_tell}
use Rattle.ss_origin.proofs.Sent as origin
use Rattle.ss_review.proofs.of_deliveries.AnnouncedNumbers.{block_sent, read_said, announced_has_block, announced_by}
use Rattle.ss_review.proofs.of_deliveries.Beginnings.{IsBeginning, begin_stamp, one_beginning}
use Rattle.ss_review.proofs.of_deliveries.Deliveries.{IsDelivery}
use Rattle.ss_review.proofs.of_deliveries.GivenAhead.{given_in, hash_of_given}
use Rattle.ss_review.proofs.of_reports.HoleAt.{hole_at}
use Rattle.ss_review.proofs.of_deliveries.JoinedByFragments.{joined_where_arrived}
use Rattle.ss_review.proofs.of_deliveries.OwnKeys.{own_alg}
use Rattle.ss_review.proofs.of_deliveries.OwnPayload.{Laws, OneBegins, joins_payload}
use Rattle.ss_review.proofs.of_lists.Paired.{one_last}
use Rattle.ss_review.proofs.of_deliveries.SentMessages.{AreAllTurns, turn_of}
use Rattle.ss_review.proofs.of_deliveries.SentMessages as messages
use Rattle.ss_review.proofs.of_deliveries.StoredBlocks.{none_spoilt, own_block_sent, sent_block_stored}
use Rattle.ss_review.proofs.of_lists.Tests.{any_member, member_any}
use Rattle.ss_review.proofs.of_lists.TotalOrders.{key_cmp_total, key_cmp_exact}
use Rattle.ss_review.proofs.of_reports.Witnesses.{stored_normal, hash_is}

-- ---- exact chains

same_turns : (c : Config) (chain : List (List Turn)) → chain ≡ turns_in (lives_of c chain)
same_turns c [] = refl
same_turns c (turns ∷ before) = ap (λ ts. turns ∷ ts) (same_turns c before)

pub cases_go_on_ahead : ChainsGoOnAhead → CasesGoOnAhead
cases_go_on_ahead ahead x is = record {
  chain = ahead x.s x.chain is.chain;
  turns = same_turns x.s.config x.chain;
  delivers = is.delivers;
  trusts = is.trusts;
  accepts = is.accepts;
}

-- ---- the turns of lives

turned : (s : Setting) (lives : List Life) (l : Life) → GoOnAhead s lives → Has lives l → AreTurns s l.start l.turns
turned s [] l are h = absurd h
turned s (o ∷ before) l are (inl e) = subst (λ (q : Life). AreTurns s q.start q.turns) e are.2
turned s (o ∷ before) l are (inr h) = turned s before l are.0 h

behind_of : (s : Setting) (newer older : List Life) (l : Life) → GoOnAhead s (newer ++ l ∷ older) → GoOnAhead s (l ∷ older)
behind_of s [] older l are = are
behind_of s (o ∷ newer) older l are = behind_of s newer older l are.0

-- the first number of a group is 1 or more
begins_from_one : (s : Setting) (start : Start) (older : List Life) (spri : ℕ) → spri < 192 → GoOnAhead s older → BeginsBehind s.config older start → 1 ≤ number_in start.counters.groups spri
begins_from_one s start [] spri small are b = subst (λ (q : Start). 1 ≤ number_in q.counters.groups spri) (sym b) (omega arith)
begins_from_one s start (l ∷ before) spri small are b =
    let some = begins_from_one s l.start before spri small are.0 are.1 in
    let told = counters_tell s.config l.start (calls_of l.turns) spri small in
    let more = b.2.numbers spri small in
    subst (λ (q : Start). 1 ≤ number_in q.counters.groups spri) (sym b.1) (omega (arith, some, told, more))

-- and so is the number behind its last message
ends_from_one : (s : Setting) (l : Life) (older : List Life) (spri : ℕ) → spri < 192 → GoOnAhead s (l ∷ older) → 1 ≤ number_in (ended_with s.config l).groups spri
ends_from_one s l older spri small are =
    let some = begins_from_one s l.start older spri small are.0 are.1 in
    let told = counters_tell s.config l.start (calls_of l.turns) spri small in
    omega (arith, some, told)

-- the originator of turns of the case
pub record IsOfLife (lives : List Life) (turns : List Turn) : Type 0 where
  pub life : Life
  pub of_lives : Has lives life
  pub turns_are : life.turns ≡ turns

of_life : (lives : List Life) (turns : List Turn) → Has (turns_in lives) turns → IsOfLife lives turns
of_life lives turns h =
    let w = from_has-map (λ (l : Life). l.turns) lives turns h in
    record { life = w.0; of_lives = w.1; turns_are = w.2 }

-- one that began goes on from none
first_of_all : (s : Setting) (start : Start) (older : List Life) (calls : List Call) → BeginsBehind s.config older start → (state s.config start calls).begun ≡ false → older ≡ []
first_of_all s start [] calls b e = refl
first_of_all s start (l ∷ before) calls b e =
    absurd (both_ways (start.begun || has_begin calls) e (or_left start.begun (has_begin calls) (ap (λ (q : Start). q.begun) b.1)))

module _ (x : Case) (lives : List Life) (is : IsCaseAhead x lives) where
  abbrev c : Config
  c = x.s.config

  life_of : (turns : List Turn) → Has x.chain turns → IsOfLife lives turns
  life_of turns h = of_life lives turns (subst (λ ts. Has ts turns) is.turns h)

  all_turns : AreAllTurns x.s x.chain
  all_turns turns t h i =
      let l = life_of turns h in
      turn_of x.s l.life.start l.life.turns t (turned x.s lives l.life is.chain.chained l.of_lives) (subst (λ ts. Has ts t) (sym l.turns_are) i)

  delivery : IsDelivery x
  delivery = record {
    setting = is.chain.setting;
    turns = all_turns;
    trusts = is.trusts;
    sent = own_block_sent x all_turns is.delivers is.accepts;
    stored = sent_block_stored x all_turns;
  }

  -- ---- the turn that began

  -- where it stands: its originator is the oldest one
  record IsFirst (t : Turn) : Type 0 where
    life : Life
    newer : List Life
    lives_are : lives ≡ newer ++ life ∷ []
    chained : IsChain x.s (life.turns ∷ [])
    of_life : Has life.turns t

  is_first : (t : Turn) → IsBeginning x.chain t → IsFirst t
  is_first t b =
      let l = life_of b.turns b.of_chain in
      let outer = has_split lives l.life l.of_lives in
      let here : Has l.life.turns t = subst (λ ts. Has ts t) (sym l.turns_are) b.of_turns in
      let inner = has_split l.life.turns t here in
      let own : GoOnAhead x.s (l.life ∷ outer.1) = behind_of x.s outer.0 outer.1 l.life (subst (GoOnAhead x.s) outer.2 is.chain.chained) in
      let stamp = begin_stamp t.call b.begins in
      let turn = origin.turn_of x.s l.life.start inner.0 inner.1 t (subst (AreTurns x.s l.life.start) inner.2 own.2) in
      let old = state c l.life.start (calls_of inner.1) in
      let accepted : fault_of c old (Begin stamp.0) ≡ None = subst (λ k. fault_of c old k ≡ None) stamp.1 turn.0 in
      let none : outer.1 ≡ [] = first_of_all x.s l.life.start outer.1 (calls_of inner.1) own.1 (none_first old.begun AlreadyBegun None accepted).0 in
      let anew_is : BeginsBehind c [] l.life.start = subst (λ ls. BeginsBehind c ls l.life.start) none own.1 in
      record {
        life = l.life;
        newer = outer.0;
        lives_are = outer.2 ∙ ap (λ ls. outer.0 ++ l.life ∷ ls) none;
        chained = record { setting = is.chain.setting; chained = (tt, subst (λ q. AreTurns x.s q l.life.turns) anew_is own.2) };
        of_life = here;
      }

  one_begins : BeginsFirst → OneBegins x
  one_begins first t u b d =
      let p = is_first t b in
      let q = is_first u d in
      let same : q.life ≡ p.life = one_last lives q.newer p.newer q.life p.life q.lives_are p.lives_are in
      one_beginning first x.s (p.life.turns ∷ []) p.chained t u
      (record { turns = p.life.turns; of_chain = inl refl; of_turns = p.of_life; begins = b.begins })
      (record { turns = p.life.turns; of_chain = inl refl; of_turns = subst (λ (l : Life). Has l.turns u) same q.of_life; begins = d.begins })

  -- ---- announced numbers

  -- the block of an announced number is one that an originator sent
  record IsFromLife (k : Key) (h : Hash) (a : Announces (says x) (blocks (notes x.log)) k h) : Type 0 where
    message : List ℕ
    life : Life
    of_lives : Has lives life
    sent : IsSentIn life.turns message a.said

  from_life : (k : Key) → k.session ≡ own_session x.s → (h : Hash) (a : Announces (says x) (blocks (notes x.log)) k h) → IsFromLife k h a
  from_life k own h a =
      let b = block_sent x delivery k own h a in
      let by = messages.sent_by x.chain b.message b.sent in
      let l = life_of by.turns by.of_chain in
      record {
        message = b.message;
        life = l.life;
        of_lives = l.of_lives;
        sent = record { turn = by.turn; of_turns = subst (λ ts. Has ts by.turn) (sym l.turns_are) by.of_originator; sent = by.sent; read = read_said x delivery k own h a };
      }

  -- an originator was given a message with its hash under the number
  record IsNumbered (k : Key) (h : Hash) : Type 0 where
    message : List ℕ
    numbered : HasNumber c lives k message
    hash : h ≡ hash_of c.alg message

  is_numbered : (k : Key) → k.session ≡ own_session x.s → (h : Hash) → Announces (says x) (blocks (notes x.log)) k h → IsNumbered k h
  is_numbered k own h a =
      let f = from_life k own h a in
      let l = f.life in
      let w = hash_of_given x.s l.start l.turns f.message a.said (turned x.s lives l is.chain.chained f.of_lives) f.sent a.index h a.hash in
      let g = given_in c w.spri l.turns w.before w.after w.message w.messages in
      let outer = has_split lives l f.of_lives in
      let spri : spri_in c.grouping w.message ≡ w.spri = g.own in
      let many : length (messages_of c.grouping (spri_in c.grouping w.message) (calls_of g.earlier)) ≡ length w.before
      = ap (λ n. length (messages_of c.grouping n (calls_of g.earlier))) spri ∙ ap length g.behind in
      let first = ap (number_in l.start.counters.groups) spri in
      let at = w.number in
      record {
        message = w.message;
        numbered = record {
          given = record {
            newer = outer.0;
            life = l;
            older = outer.1;
            lives_are = outer.2;
            later = g.later;
            turn = g.turn;
            earlier = g.earlier;
            turns_are = g.turns_are;
            stamp = g.stamp;
            call = g.call;
          };
          number = omega (arith, many, first, at, a.number);
          group = ap (group_of c.grouping) spri ∙ sym w.group ∙ a.group_is;
        };
        hash = w.hash;
      }

  -- all hashes of a number are that of one message
  one_hash : NumbersAreGivenOnce → (k : Key) → k.session ≡ own_session x.s → (h g : Hash) → Announces (says x) (blocks (notes x.log)) k h → Announces (says x) (blocks (notes x.log)) k g → g ≡ h
  one_hash once k own h g a b =
      let p = is_numbered k own h a in
      let q = is_numbered k own g b in
      let spri : spri_in c.grouping q.message ≡ spri_in c.grouping p.message = ap (λ (o : Group). o.spri) (q.numbered.group ∙ sym p.numbered.group) in
      let same = (once x.s lives is.chain q.message p.message q.numbered.given p.numbered.given spri (q.numbered.number ∙ sym p.numbered.number)).0 in
      q.hash ∙ ap (hash_of c.alg) same ∙ sym p.hash

  its_hash : NumbersAreGivenOnce → (k : Key) → k.session ≡ own_session x.s → IsAnnounced (says x) (blocks (notes x.log)) k → HasItsHashAhead x lives k
  its_hash once k own a =
      let p = is_numbered k own a.0 a.1 in
      record {
        message = p.message;
        numbered = p.numbered;
        announced = subst (Announces (says x) (blocks (notes x.log)) k) p.hash a.1;
        no_other = λ g b. one_hash once k own a.0 g a.1 b ∙ p.hash;
      }

  -- ---- numbers that are left out

  module _ (spri number : ℕ) (skipped : IsSkipped c lives spri number) where
    abbrev skipped_key : Key
    skipped_key = own_number x spri number

    pub unannounced : SkippedNumbersAreInNoBlock → ¬ IsAnnounced (says x) (blocks (notes x.log)) skipped_key
    unannounced none = λ a.
        (let f = from_life skipped_key refl a.0 a.1 in
        let rest = skipped.newer ++ skipped.next ∷ skipped.last ∷ skipped.older in
        let in_life : Has (flat_map (λ (t : Turn). t.emitted) f.life.turns) f.message = has-flat_map (λ (t : Turn). t.emitted) f.life.turns f.sent.turn f.message f.sent.of_turns f.sent.sent in
        let in_lives : Has (sent_by rest) f.message
        = has-flat_map (λ (l : Life). flat_map (λ (t : Turn). t.emitted) l.turns) rest f.life f.message (subst (λ ls. Has ls f.life) skipped.lives_are f.of_lives) in_life in
        let at = a.1.number in
        let within = slice_get_within a.1.said.hashes a.1.index a.0 a.1.hash in
        none x.s skipped.newer skipped.older skipped.next skipped.last spri number (subst (IsChainAhead x.s) skipped.lives_are is.chain) skipped.small skipped.least skipped.below
        f.message a.1.said (contains_from_has (sent_by rest) f.message in_lives) f.sent.read
        (record { own = a.1.group_is; least = omega (arith, at); below = omega (arith, at, within) }))

-- ---- laws

pub joined_ahead : BeginsFirst → Laws → OneReport → JoinedAheadByFragments
joined_ahead first laws one x lives is =
    joined_where_arrived x (joins_payload laws x (delivery x lives is) (one_begins x lives is first)) one

pub announced_ahead : BeginsFirst → NumbersAreGivenOnce → Laws → AnnouncedAreTold → AnnouncedAheadByBlocks
announced_ahead first once laws told x lives is k own =
    let joins = joins_payload laws x (delivery x lives is) (one_begins x lives is first) in
    let tells = told (says x) x.log k in (
      (
        λ t. announced_has_block x (delivery x lives is) k own (tells.0 t),
        λ b. tells.1 (announced_by x (delivery x lives is) joins k own b.0 b.1),
      ),
      λ t. its_hash x lives is once k own (tells.0 t),
    )

-- a gap for a dispute has two hashes, and each is that of the number's message
pub nothing_ahead_is_disputed : OneReport → AnnouncedAheadByBlocks → NothingAheadIsDisputed
nothing_ahead_is_disputed one by_blocks x lives is = (
  λ m c. none_spoilt x.s x.chain m (all_turns x lives is) c,
  λ k own gap. (
      let its = (by_blocks x lives is k own).1 (inr (whys.Disputed, gap)) in
      let two = (((one.0 (says x) x.log).entries k.session k.group _).0 gap).2.0 refl in
      two.4 (its.no_other two.0 two.2 ∙ sym (its.no_other two.1 two.3))
      ),
)

pub listed_ahead_have_their_hash : AnnouncedAheadByBlocks → ReportsListWhatIsAnnounced → ListedAheadHaveTheirHash
listed_ahead_have_their_hash by_blocks lists x lives is k place own listed =
    let its : HasItsHashAhead x lives k = (by_blocks x lives is k own).1 (inl (place, listed)) in
    let due : IsDue (says x) (contents (notes x.log)) k place = ((lists (says x) x.log).due k place).0 listed in
    let alg = x.s.config.alg in
    let hash : due.wants.hash ≡ hash_of alg its.message = its.no_other due.wants.hash due.wants.announced in
    let t = stored_normal x.log due.message (has_from_contains (normals (notes x.log)) due.message due.stored) in
    let has : has_hash (hash_of alg its.message) (pair t.0) ≡ true
    = ap (has_hash (hash_of alg its.message)) (t.3 ∙ sym due.wants.pair_is)
    ∙ ap (λ h. has_hash h due.wants.bearer.pair) (sym hash)
    ∙ due.wants.is_bearer.has in
    record {
      message = its.message;
      numbered = its.numbered;
      stored = t.0;
      stored_is = subst (λ i. slice_get x.log i ≡ Some t.0) due.place_is t.1;
      no_block = ap is_normal t.2;
      same_hash = sym (hash_is alg (hash_of alg its.message) t.0 (own_alg alg (pair its.message)) has);
    }

-- whether a key is announced
announced_or_not : KeysAreAnnounced → (x : Case) (k : Key) → IsAnnounced (says x) (blocks (notes x.log)) k ⊎ ¬ IsAnnounced (says x) (blocks (notes x.log)) k
announced_or_not announced x k =
    let ks = keys (rows_in x) in
    let same : Key → Bool = λ i. is_eq (key_cmp i k) in
    elim (cases_Bool (list_any same ks)) [
      | inl t ↦ (
          let w = any_member same ks t in
          let at : w.0 ≡ k = key_cmp_exact w.0 k ((Equal-is (key_cmp w.0 k)).0 w.2) in
          inl ((announced (says x) x.log k).0.0 (contains_from_has ks k (subst (Has ks) at w.1))))
      | inr f ↦ inr (λ p.
          (let mine : same k ≡ true = ap is_eq (tied_itself key_cmp_total k) in
          let t = member_any same ks k (has_from_contains ks k ((announced (says x) x.log k).0.1 p)) mine in
          both_ways (list_any same ks) f t))
    ]

-- numbers begin with 1
some_number : (x : Case) (lives : List Life) (is : IsCaseAhead x lives) (spri number : ℕ) → IsSkipped x.s.config lives spri number → 1 ≤ number
some_number x lives is spri number skipped =
    let rest = skipped.last ∷ skipped.older in
    let are : GoOnAhead x.s (skipped.next ∷ rest) = behind_of x.s skipped.newer rest skipped.next (subst (GoOnAhead x.s) skipped.lives_are is.chain.chained) in
    let some = ends_from_one x.s skipped.last skipped.older spri skipped.small are.0 in
    let least = skipped.least in
    omega (arith, some, least)

pub skipped_are_in_holes : SkippedNumbersAreInNoBlock → AnnouncedAreTold → KeysAreAnnounced → OneReport → SkippedNumbersAreInHoles
skipped_are_in_holes none told announced one x lives is spri number skipped = (
  λ t. unannounced x lives is spri number skipped none ((told (says x) x.log (own_number x spri number)).0 t),
  λ greater above t.
      (let h = hole_at (λ n. IsAnnounced (says x) (blocks (notes x.log)) (own_number x spri n)) (λ n. announced_or_not announced x (own_number x spri n)) number greater
      (some_number x lives is spri number skipped) (unannounced x lives is spri number skipped none) above ((told (says x) x.log (own_number x spri greater)).0 t) in
      record {
        first = h.first;
        last = h.last;
        told = ((one.0 (says x) x.log).entries (own_session x.s) (group_of x.s.config.grouping spri) (entry.Hole h.first h.last)).1 h.hole;
        from = h.from;
        to = h.to;
      }),
)

missing_as : (x : Case) (k : Key) (cs : List Counter) → ¬ IsTold (report_in x) k → (fate : Fate) → HasFate (report_in x) (shortfalls_of (says x) x.log cs) k fate
    → IsInHole (report_in x) k ⊎ IsInTail (shortfalls_of (says x) x.log cs) k
missing_as x k cs untold fates.Listed l = absurd (untold (inl l))
missing_as x k cs untold fates.Gap g = absurd (untold (inr g))
missing_as x k cs untold fates.Hole h = inl h
missing_as x k cs untold fates.Tail t = inr t

pub skipped_are_missing : SkippedNumbersAreInHoles → EveryNumberIsTold → SkippedNumbersAreMissing
skipped_are_missing holes every x lives is spri number skipped cs below =
    let k = own_number x spri number in
    let w = (every (says x) x.log cs k).0 (some_number x lives is spri number skipped) below in
    missing_as x k cs (holes x lives is spri number skipped).0 w.0 w.1
