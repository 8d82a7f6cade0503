-- The blocks that were sent by a chain that goes on ahead.
use Rattle.std.proofs.Common.{◌≡◌, inl, inr, ℕ, ◌+◌, ◌<◌, ◌≤◌, true, List, [], ◌∷◌, ◌++◌, length, refl, sym, ap, ◌∙◌, subst, arith}
use Rattle.std.specs.List.{Contains, flat_map}
use Rattle.ss_message.specs.Laws.{FaultsAreOfNoMessage}
use Rattle.ss_block.specs.declared.reading.Reading.TheVariants as readings
use Rattle.ss_block.specs.Block as block
use Rattle.ss_block.specs.Reading.{reading}
use Rattle.ss_origin.specs.declared.config.Config.{Config}
use Rattle.ss_origin.specs.Groups.{group_of}
use Rattle.ss_origin.specs.Configs.{is_config}
use Rattle.ss_origin.specs.Counting.{Start}
use Rattle.ss_origin.specs.State.{state, counters_of}
use Rattle.ss_origin.specs.Setting.{Setting}
use Rattle.ss_origin.specs.Chain.{Turn, calls_of, start_behind, AreChained, emitted_by}
use Rattle.ss_origin.specs.Ahead.{Life, AreAtLeast, BeginsBehind, GoOnAhead, IsChainAhead, sent_by, lives_of}
use Rattle.ss_origin.specs.AheadLaws.{ChainsGoOnAhead}
use Rattle.ss_origin.specs.OneBlockLaws.{Covers, HaveOneBlockANumber, HaveOneBlockAGbc, NumbersAreInOneBlock, NumbersAheadAreInOneBlock}
use Rattle.ss_origin.proofs.Frontiers.{Frontier, IsAtMost, at_most_itself, at_most_both, IsBetween, widened, Meet, meet_back, same_spri, apart, frontier_of, frontier_at, IsSentIn, from_start, between, one_of_turns}
use Rattle.ss_octets.proofs.Members.{Has, has_from_contains, has-append_cases, from_has-flat_map}
use Rattle.ss_origin.proofs.Numbering.{counters_tell}

-- ---- exact chains

at_least_itself : (k : _) → AreAtLeast k k
at_least_itself k = record { gbc = omega arith; numbers = λ spri small. omega arith }

begins_behind : (c : Config) (chain : List (List Turn)) → BeginsBehind c (lives_of c chain) (start_behind c chain)
begins_behind c [] = refl
begins_behind c (turns ∷ before) = (counters_of (state c (start_behind c before) (calls_of turns)), refl, at_least_itself (counters_of (state c (start_behind c before) (calls_of turns))))

go_on : (s : Setting) (chain : List (List Turn)) → AreChained s chain → GoOnAhead s (lives_of s.config chain)
go_on s [] are = tt
go_on s (turns ∷ before) are = (go_on s before are.0, begins_behind s.config before, are.1)

pub chains_go_on_ahead : ChainsGoOnAhead
chains_go_on_ahead s chain is = record { setting = is.setting; chained = go_on s chain is.chained }

pub same_sent : (c : Config) (chain : List (List Turn)) → sent_by (lives_of c chain) ≡ emitted_by chain
same_sent c [] = refl
same_sent c (turns ∷ before) = ap (λ ms. flat_map (λ (t : Turn). t.emitted) turns ++ ms) (same_sent c before)

-- ---- the blocks of a chain

-- one that an originator of the chain sent
pub record IsSentBlock (lives : List Life) (m : List ℕ) (b : block.Signature) : Type 0 where
  pub life : Life
  pub of_chain : Has lives life
  pub sent : IsSentIn life.turns m b

pub sent_block : (lives : List Life) (m : List ℕ) (b : block.Signature) → Contains (sent_by lives) m → reading m ≡ readings.Signature b → IsSentBlock lives m b
sent_block lives m b c read =
    let o = from_has-flat_map (λ (l : Life). flat_map (λ (t : Turn). t.emitted) l.turns) lives m (has_from_contains (sent_by lives) m c) in
    let t = from_has-flat_map (λ (t : Turn). t.emitted) o.0.turns m o.2 in
    record { life = o.0; of_chain = o.1; sent = record { turn = t.0; of_turns = t.1; sent = t.2; read = read } }

-- where no block is sent before
abbrev pub at_first : Frontier
at_first = record { gbc = 0; first = λ spri. 0 }

-- where the next originator may begin: after all that these were given
abbrev pub behind_all : Config → List Life → Frontier
behind_all c [] = at_first
behind_all c (l ∷ before) = let end = state c l.start (calls_of l.turns) in record { gbc = end.gbc; first = λ spri. (end.groups spri).number }

module _ (read : FaultsAreOfNoMessage) (s : Setting) (is : is_config s.config ≡ true) where
  abbrev ended : Life → Frontier
  ended l = frontier_of (state s.config l.start (calls_of l.turns))

  -- an originator ends no further than what it was given
  pub ends_before : (l : Life) (before : List Life) → IsAtMost (ended l) (behind_all s.config (l ∷ before))
  ends_before l before = record { gbc = omega arith; first = λ spri small. omega arith }

  pub begins_after : (lives : List Life) (start : Start) → BeginsBehind s.config lives start → IsAtMost (behind_all s.config lives) (frontier_at start)
  begins_after [] start e = record { gbc = omega arith; first = λ spri small. omega arith }
  begins_after (l ∷ before) start b =
      subst (λ x. IsAtMost (behind_all s.config (l ∷ before)) (frontier_at x)) (sym b.1) (record {
        gbc = b.2.gbc;
        first = λ spri small. (let told = counters_tell s.config l.start (calls_of l.turns) spri small in let most = b.2.numbers spri small in omega (arith, told, most));
      })

  own_between : (l : Life) (before : List Life) (m : List ℕ) (b : block.Signature) → GoOnAhead s (l ∷ before) → IsSentIn l.turns m b
      → IsBetween s.config.grouping (behind_all s.config before) (behind_all s.config (l ∷ before)) b
  own_between l before m b are sent =
      widened s.config.grouping (frontier_at l.start) (behind_all s.config before) (ended l) (behind_all s.config (l ∷ before)) b (begins_after before l.start are.1) (ends_before l before)
      (between read s is l.start l.turns m b are.2 sent)

  reaches : (l : Life) (before : List Life) → GoOnAhead s (l ∷ before) → IsAtMost (behind_all s.config before) (behind_all s.config (l ∷ before))
  reaches l before are =
      at_most_both (behind_all s.config before) (frontier_at l.start) (behind_all s.config (l ∷ before)) (begins_after before l.start are.1)
      (at_most_both (frontier_at l.start) (ended l) (behind_all s.config (l ∷ before)) (from_start read s is l.start l.turns) (ends_before l before))

  -- the blocks that were sent lie before where the next originator may begin
  pub all_before : (lives : List Life) (m : List ℕ) (b : block.Signature) → GoOnAhead s lives → IsSentBlock lives m b → IsBetween s.config.grouping at_first (behind_all s.config lives) b
  all_before [] m b are sent = absurd sent.of_chain
  all_before (l ∷ before) m b are sent =
      by (λ o i h. all_before before m b are.0 (record { life = o; of_chain = i; sent = h })) sent.life sent.of_chain sent.sent
    where
      by : ((o : Life) → Has before o → IsSentIn o.turns m b → IsBetween s.config.grouping at_first (behind_all s.config before) b)
          → (o : Life) → Has (l ∷ before) o → IsSentIn o.turns m b → IsBetween s.config.grouping at_first (behind_all s.config (l ∷ before)) b
      by rest o (inl e) h =
          widened s.config.grouping (behind_all s.config before) at_first (behind_all s.config (l ∷ before)) (behind_all s.config (l ∷ before)) b
          (record { gbc = omega arith; first = λ spri small. omega arith }) (at_most_itself (behind_all s.config (l ∷ before)))
          (own_between l before m b are (subst (λ (x : Life). IsSentIn x.turns m b) (sym e) h))
      by rest o (inr i) h =
          widened s.config.grouping at_first at_first (behind_all s.config before) (behind_all s.config (l ∷ before)) b (at_most_itself at_first) (reaches l before are) (rest o i h)

  -- two of them that share a number or their GBC are one message
  pub one_of_chain : (lives : List Life) (m p : List ℕ) (a b : block.Signature) → GoOnAhead s lives → IsSentBlock lives m a → IsSentBlock lives p b → Meet a b → m ≡ p
  one_of_chain [] m p a b are one two meet = absurd one.of_chain
  one_of_chain (l ∷ before) m p a b are one two meet =
      by (λ o i h q j k. one_of_chain before m p a b are.0 (record { life = o; of_chain = i; sent = h }) (record { life = q; of_chain = j; sent = k }) meet)
      one.life one.of_chain one.sent two.life two.of_chain two.sent
    where
      here : (o : Life) (x : List ℕ) (c : block.Signature) → l ≡ o → IsSentIn o.turns x c → IsSentIn l.turns x c
      here o x c e h = subst (λ (y : Life). IsSentIn y.turns x c) (sym e) h

      other : (o : Life) (x y : List ℕ) (c d : block.Signature) → Has before o → IsSentIn o.turns x c → IsSentIn l.turns y d → Meet c d → ⊥
      other o x y c d i h k share =
          apart s.config.grouping at_first (behind_all s.config before) (behind_all s.config before) (behind_all s.config (l ∷ before)) c d
          (all_before before x c are.0 (record { life = o; of_chain = i; sent = h })) (own_between l before y d are k) (at_most_itself (behind_all s.config before)) share

      by : ((o : Life) → Has before o → IsSentIn o.turns m a → (q : Life) → Has before q → IsSentIn q.turns p b → m ≡ p)
          → (o : Life) → Has (l ∷ before) o → IsSentIn o.turns m a → (q : Life) → Has (l ∷ before) q → IsSentIn q.turns p b → m ≡ p
      by rest o (inl e) h q (inl f) k = one_of_turns read s is l.start l.turns m p a b are.2 (here o m a e h) (here q p b f k) meet
      by rest o (inl e) h q (inr j) k = absurd (other q p m b a j k (here o m a e h) (meet_back a b meet))
      by rest o (inr i) h q (inl f) k = absurd (other o m p a b i h (here q p b f k) meet)
      by rest o (inr i) h q (inr j) k = rest o i h q j k

  -- ---- numbers in no block

  pub older_of : (newer rest : List Life) → GoOnAhead s (newer ++ rest) → GoOnAhead s rest
  older_of [] rest are = are
  older_of (l ∷ newer) rest are = older_of newer rest are.0

  pub reach : (newer rest : List Life) → GoOnAhead s (newer ++ rest) → IsAtMost (behind_all s.config rest) (behind_all s.config (newer ++ rest))
  reach [] rest are = at_most_itself (behind_all s.config rest)
  reach (l ∷ newer) rest are =
      at_most_both (behind_all s.config rest) (behind_all s.config (newer ++ rest)) (behind_all s.config (l ∷ (newer ++ rest))) (reach newer rest are.0) (reaches l (newer ++ rest) are)

  -- the blocks of later originators lie after all that those before them were given
  pub all_after : (newer rest : List Life) (m : List ℕ) (b : block.Signature) → GoOnAhead s (newer ++ rest) → IsSentBlock newer m b → IsBetween s.config.grouping (behind_all s.config rest) (behind_all s.config (newer ++ rest)) b
  all_after [] rest m b are sent = absurd sent.of_chain
  all_after (l ∷ newer) rest m b are sent =
      by (reach newer rest are.0) (λ o i h. all_after newer rest m b are.0 (record { life = o; of_chain = i; sent = h })) sent.life sent.of_chain sent.sent
    where
      by : IsAtMost (behind_all s.config rest) (behind_all s.config (newer ++ rest))
          → ((o : Life) → Has newer o → IsSentIn o.turns m b → IsBetween s.config.grouping (behind_all s.config rest) (behind_all s.config (newer ++ rest)) b)
          → (o : Life) → Has (l ∷ newer) o → IsSentIn o.turns m b → IsBetween s.config.grouping (behind_all s.config rest) (behind_all s.config (l ∷ (newer ++ rest))) b
      by so_far rest_of o (inl e) h =
          widened s.config.grouping (behind_all s.config (newer ++ rest)) (behind_all s.config rest) (behind_all s.config (l ∷ (newer ++ rest))) (behind_all s.config (l ∷ (newer ++ rest))) b
          so_far (at_most_itself (behind_all s.config (l ∷ (newer ++ rest))))
          (own_between l (newer ++ rest) m b are (subst (λ (x : Life). IsSentIn x.turns m b) (sym e) h))
      by so_far rest_of o (inr i) h =
          widened s.config.grouping (behind_all s.config rest) (behind_all s.config rest) (behind_all s.config (newer ++ rest)) (behind_all s.config (l ∷ (newer ++ rest))) b
          (at_most_itself (behind_all s.config rest)) (reaches l (newer ++ rest) are) (rest_of o i h)

  module _ (spri number : ℕ) where
    -- a block up to a frontier that is no further than the number doesn't cover it
    below_number : (low high : Frontier) (b : block.Signature) → IsBetween s.config.grouping low high b → high.first spri ≤ number → Covers b (group_of s.config.grouping spri) number → ⊥
    below_number low high b is_between most covers =
        let own : is_between.spri ≡ spri = same_spri s.config.grouping is_between.spri spri (sym is_between.group ∙ covers.own) in
        let last : b.first + length b.hashes ≤ high.first spri = subst (λ k. b.first + length b.hashes ≤ high.first k) own is_between.last_high in
        omega (arith, last, most, covers.below)

    -- nor does one from a frontier after it on
    pub above_number : (low high : Frontier) (b : block.Signature) → IsBetween s.config.grouping low high b → number < low.first spri → Covers b (group_of s.config.grouping spri) number → ⊥
    above_number low high b is_between least covers =
        let own : is_between.spri ≡ spri = same_spri s.config.grouping is_between.spri spri (sym is_between.group ∙ covers.own) in
        let first : low.first spri ≤ b.first = subst (λ k. low.first k ≤ b.first) own is_between.first_low in
        omega (arith, first, least, covers.least)

    -- nor does one of an originator that ended before the number, or of one before it
    pub ended_below : (l : Life) (older : List Life) (m : List ℕ) (b : block.Signature) → spri < 192 → GoOnAhead s (l ∷ older) → (ended l).first spri ≤ number → IsSentBlock (l ∷ older) m b
        → Covers b (group_of s.config.grouping spri) number → ⊥
    ended_below l older m b small are most sent covers = by sent.life sent.of_chain sent.sent
      where
        by : (o : Life) → Has (l ∷ older) o → IsSentIn o.turns m b → ⊥
        by o (inl e) h =
            below_number (frontier_at l.start) (ended l) b (between read s is l.start l.turns m b are.2 (subst (λ (x : Life). IsSentIn x.turns m b) (sym e) h)) most covers
        by o (inr i) h =
            let start = (begins_after older l.start are.1).first spri small in
            let end = (from_start read s is l.start l.turns).first spri small in
            below_number at_first (behind_all s.config older) b (all_before older m b are.0 (record { life = o; of_chain = i; sent = h })) (omega (arith, start, end, most)) covers

    -- a number that an originator gave and that was left pending is in no block
    pub pending_number : (newer : List Life) (l : Life) (older : List Life) (m : List ℕ) (b : block.Signature) → spri < 192 → GoOnAhead s (newer ++ l ∷ older)
        → (ended l).first spri ≤ number → number < (behind_all s.config (l ∷ older)).first spri → IsSentBlock (newer ++ l ∷ older) m b → Covers b (group_of s.config.grouping spri) number → ⊥
    pending_number newer l older m b small are most least sent covers = elim (has-append_cases newer (l ∷ older) sent.life sent.of_chain) [
      | inl i ↦
          above_number (behind_all s.config (l ∷ older)) (behind_all s.config (newer ++ l ∷ older)) b (all_after newer (l ∷ older) m b are (record { life = sent.life; of_chain = i; sent = sent.sent })) least covers
      | inr i ↦ ended_below l older m b small (older_of newer (l ∷ older) are) most (record { life = sent.life; of_chain = i; sent = sent.sent }) covers
    ]

-- ---- the laws

share_number : (a b : block.Signature) (group : _) (number : ℕ) → Covers a group number → Covers b group number → Meet a b
share_number a b group number one two =
    inr (record { group = one.own ∙ sym two.own; number = number; a_least = one.least; a_below = one.below; b_least = two.least; b_below = two.below })

module _ (read : FaultsAreOfNoMessage) (s : Setting) (lives : List Life) (is : IsChainAhead s lives) where
  one_message : (m n : List ℕ) (a b : block.Signature) → Contains (sent_by lives) m → Contains (sent_by lives) n → reading m ≡ readings.Signature a → reading n ≡ readings.Signature b → Meet a b → m ≡ n
  one_message m n a b h i read_m read_n meet =
      one_of_chain read s is.setting.fit.config lives m n a b is.chained (sent_block lives m a h read_m) (sent_block lives n b i read_n) meet

  pub one_block_a_number : HaveOneBlockANumber (sent_by lives)
  one_block_a_number m n a b group number h i read_m read_n one two = one_message m n a b h i read_m read_n (share_number a b group number one two)

  pub one_block_a_gbc : HaveOneBlockAGbc (sent_by lives)
  one_block_a_gbc m n a b h i read_m read_n e = one_message m n a b h i read_m read_n (inl e)

pub numbers_ahead_are_in_one_block : FaultsAreOfNoMessage → NumbersAheadAreInOneBlock
numbers_ahead_are_in_one_block read s lives is = (one_block_a_number read s lives is, one_block_a_gbc read s lives is)

pub numbers_are_in_one_block : FaultsAreOfNoMessage → NumbersAreInOneBlock
numbers_are_in_one_block read s chain is =
    let ahead = chains_go_on_ahead s chain is in
    let same = same_sent s.config chain in (
      subst HaveOneBlockANumber same (one_block_a_number read s (lives_of s.config chain) ahead),
      subst HaveOneBlockAGbc same (one_block_a_gbc read s (lives_of s.config chain) ahead),
    )
