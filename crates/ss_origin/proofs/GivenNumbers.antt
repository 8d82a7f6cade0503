-- Originators that go on ahead give no number twice.
use Rattle.std.proofs.Common.{◌≡◌, inl, inr, ℕ, ◌+◌, ◌<◌, ◌≤◌, true, List, [], ◌∷◌, ◌++◌, length, sym, ap, ◌∙◌, subst, arith, length-append}
use Rattle.std.specs.Prelude.{Option}
use Rattle.std.proofs.lemmas.Bool.{cases_lt}
use Rattle.std.proofs.lemmas.List.{map-append, length_push}
use Rattle.ss_message.specs.Stamp.{Moment}
use Rattle.ss_message.specs.Laws.{FaultsAreOfNoMessage}
use Rattle.ss_origin.specs.declared.config.Config.{Config}
use Rattle.ss_origin.specs.Configs.{is_config}
use Rattle.ss_origin.specs.Counting.{number_in}
use Rattle.ss_origin.specs.Calls.{Submit, spri_in, messages_of}
use Rattle.ss_origin.specs.Setting.{Setting}
use Rattle.ss_origin.specs.Chain.{Turn, calls_of}
use Rattle.ss_origin.specs.Ahead.{Life, GoOnAhead, IsChainAhead}
use Rattle.ss_origin.specs.AheadLaws.{IsGiven, number_given, NumbersAreGivenOnce, CountersGoPast}
use Rattle.ss_origin.proofs.ChainsAhead.{behind_all, begins_after, reach, older_of}
use Rattle.ss_origin.proofs.Configs.{has_ranges}
use Rattle.ss_origin.proofs.Groups.{spris_are_small}
use Rattle.ss_origin.proofs.Numbering.{counters_tell}
use Rattle.ss_origin.proofs.RunsClosed.{own_message}
use Rattle.ss_origin.proofs.SignedMessages.{messages-append}

-- ---- one list, cut at two places

-- the cut that has less after it stands in what is after the other
longer_behind : {X : Type 0} (xs ys zs vs : List X) (x w : X) → xs ++ x ∷ ys ≡ zs ++ w ∷ vs → length ys < length vs → (mid : List X) × (vs ≡ mid ++ x ∷ ys)
longer_behind [] ys [] vs x w e below = let same : ys ≡ vs = cc in let many = ap length same in absurd (omega (arith, many, below))
longer_behind (a ∷ xs) ys [] vs x w e below = (xs, (let tail : xs ++ x ∷ ys ≡ vs = cc in sym tail))
longer_behind [] ys (b ∷ zs) vs x w e below =
    let tail : ys ≡ zs ++ w ∷ vs = cc in
    let many = ap length tail ∙ length-append zs (w ∷ vs) in
    absurd (omega (arith, many, below))
longer_behind (a ∷ xs) ys (b ∷ zs) vs x w e below = let tail : xs ++ x ∷ ys ≡ zs ++ w ∷ vs = cc in longer_behind xs ys zs vs x w tail below

-- with as much after them the cuts are one
same_behind : {X : Type 0} (xs ys zs vs : List X) (x w : X) → xs ++ x ∷ ys ≡ zs ++ w ∷ vs → length ys ≡ length vs → (x ≡ w) × (ys ≡ vs)
same_behind [] ys [] vs x w e many = (cc, cc)
same_behind (a ∷ xs) ys [] vs x w e many =
    let tail : xs ++ x ∷ ys ≡ vs = cc in
    let more = ap length tail in
    let length_is = length-append xs (x ∷ ys) in
    absurd (omega (arith, more, length_is, many))
same_behind [] ys (b ∷ zs) vs x w e many =
    let tail : ys ≡ zs ++ w ∷ vs = cc in
    let more = ap length tail ∙ length-append zs (w ∷ vs) in
    absurd (omega (arith, more, many))
same_behind (a ∷ xs) ys (b ∷ zs) vs x w e many = let tail : xs ++ x ∷ ys ≡ zs ++ w ∷ vs = cc in same_behind xs ys zs vs x w tail many

-- ---- numbers of one originator

-- after an accepted message its group has one more
more_given : (c : Config) (m : List ℕ) (stamp : Option Moment) (later earlier : List Turn) (t : Turn) → t.call ≡ Submit m stamp
    → let spri = spri_in c.grouping m in length (messages_of c.grouping spri (calls_of earlier)) < length (messages_of c.grouping spri (calls_of (later ++ t ∷ earlier)))
more_given c m stamp later earlier t call =
    let spri = spri_in c.grouping m in
    let own = messages_of c.grouping spri (calls_of earlier) in
    let others = messages_of c.grouping spri (calls_of later) in
    let all : messages_of c.grouping spri (calls_of (later ++ t ∷ earlier)) ≡ (own ++ m ∷ []) ++ others
    = ap (messages_of c.grouping spri) (map-append (λ (u : Turn). u.call) later (t ∷ earlier))
    ∙ messages-append c.grouping spri (calls_of later) (calls_of (t ∷ earlier))
    ∙ ap (λ k. messages_of c.grouping spri (k ∷ calls_of earlier) ++ others) call
    ∙ ap (λ ms. (own ++ ms) ++ others) (own_message c.grouping m) in
    let many = ap length all ∙ length-append (own ++ m ∷ []) others in
    let pushed = length_push own m in
    omega (arith, many, pushed)

-- ---- numbers of a chain

module _ (read : FaultsAreOfNoMessage) (s : Setting) (lives : List Life) (is : IsChainAhead s lives) where
  abbrev c : Config
  c = s.config

  abbrev fits : is_config s.config ≡ true
  fits = is.setting.fit.config

  small : (m : List ℕ) → spri_in c.grouping m < 192
  small m = spris_are_small read c.grouping m (has_ranges c fits).grouping

  -- a number is below where the originators after it may begin
  below_end : (m : List ℕ) (g : IsGiven lives m) → number_given c g < (behind_all c (g.life ∷ g.older)).first (spri_in c.grouping m)
  below_end m g =
      let more = more_given c m g.stamp g.later g.earlier g.turn g.call in
      let all = ap (λ ts. length (messages_of c.grouping (spri_in c.grouping m) (calls_of ts))) g.turns_are in
      omega (arith, more, all)

  -- so the numbers of an originator that follows are greater
  greater_behind : (m n : List ℕ) (g : IsGiven lives m) (h : IsGiven lives n) → spri_in c.grouping m ≡ spri_in c.grouping n → length g.older < length h.older → number_given c g < number_given c h
  greater_behind m n g h same below =
      let spri = spri_in c.grouping m in
      let cut = longer_behind g.newer g.older h.newer h.older g.life h.life (sym g.lives_are ∙ h.lives_are) below in
      let are : GoOnAhead s (h.life ∷ h.older) = older_of read s fits h.newer (h.life ∷ h.older) (subst (GoOnAhead s) h.lives_are is.chained) in
      let whole : GoOnAhead s (cut.0 ++ g.life ∷ g.older) = subst (GoOnAhead s) cut.1 are.0 in
      let one = below_end m g in
      let two : (behind_all c (g.life ∷ g.older)).first spri ≤ (behind_all c h.older).first spri
      = subst (λ ls. (behind_all c (g.life ∷ g.older)).first spri ≤ (behind_all c ls).first spri) (sym cut.1) ((reach read s fits cut.0 (g.life ∷ g.older) whole).first spri (small m)) in
      let three = (begins_after read s fits h.older h.life.start are.1).first spri (small m) in
      let number : number_given c h ≡ number_in h.life.start.counters.groups spri + length (messages_of c.grouping spri (calls_of h.earlier))
      = ap (λ k. number_in h.life.start.counters.groups k + length (messages_of c.grouping k (calls_of h.earlier))) (sym same) in
      omega (arith, one, two, three, number)

  -- and so are those of later turns
  greater_later : (m n : List ℕ) (g : IsGiven lives m) (h : IsGiven lives n) → spri_in c.grouping m ≡ spri_in c.grouping n → g.life ≡ h.life → length g.earlier < length h.earlier → number_given c g < number_given c h
  greater_later m n g h same life below =
      let spri = spri_in c.grouping m in
      let turns : g.later ++ g.turn ∷ g.earlier ≡ h.later ++ h.turn ∷ h.earlier = sym g.turns_are ∙ ap (λ (l : Life). l.turns) life ∙ h.turns_are in
      let cut = longer_behind g.later g.earlier h.later h.earlier g.turn h.turn turns below in
      let more = more_given c m g.stamp cut.0 g.earlier g.turn g.call in
      let all = ap (λ ts. length (messages_of c.grouping spri (calls_of ts))) cut.1 in
      let start = ap (λ (l : Life). number_in l.start.counters.groups spri) life in
      let number : number_given c h ≡ number_in h.life.start.counters.groups spri + length (messages_of c.grouping spri (calls_of h.earlier))
      = ap (λ k. number_in h.life.start.counters.groups k + length (messages_of c.grouping k (calls_of h.earlier))) (sym same) in
      omega (arith, more, all, start, number)

  one_number : (m n : List ℕ) (g : IsGiven lives m) (h : IsGiven lives n) → spri_in c.grouping m ≡ spri_in c.grouping n → number_given c g ≡ number_given c h
      → (m ≡ n) × (length g.older ≡ length h.older) × (length g.earlier ≡ length h.earlier)
  one_number m n g h same number = elim (cases_lt (length g.older) (length h.older)) [
    | inl less ↦ (let w = greater_behind m n g h same less in absurd (omega (arith, w, number)))
    | inr most ↦ elim (cases_lt (length h.older) (length g.older)) [
      | inl less ↦ (let w = greater_behind n m h g (sym same) less in absurd (omega (arith, w, number)))
      | inr least ↦ (let older : length g.older ≡ length h.older = omega (arith, most, least) in
          of_one_life older (same_behind g.newer g.older h.newer h.older g.life h.life (sym g.lives_are ∙ h.lives_are) older).0)
    ]
  ]
    where
      of_one_life : length g.older ≡ length h.older → g.life ≡ h.life → (m ≡ n) × (length g.older ≡ length h.older) × (length g.earlier ≡ length h.earlier)
      of_one_life older life = elim (cases_lt (length g.earlier) (length h.earlier)) [
        | inl less ↦ (let w = greater_later m n g h same life less in absurd (omega (arith, w, number)))
        | inr most ↦ elim (cases_lt (length h.earlier) (length g.earlier)) [
          | inl less ↦ (let w = greater_later n m h g (sym same) (sym life) less in absurd (omega (arith, w, number)))
          | inr least ↦ (let earlier : length g.earlier ≡ length h.earlier = omega (arith, most, least) in
              let turns : g.later ++ g.turn ∷ g.earlier ≡ h.later ++ h.turn ∷ h.earlier = sym g.turns_are ∙ ap (λ (l : Life). l.turns) life ∙ h.turns_are in
              let turn : g.turn ≡ h.turn = (same_behind g.later g.earlier h.later h.earlier g.turn h.turn turns earlier).0 in
              let calls : Submit m g.stamp ≡ Submit n h.stamp = sym g.call ∙ ap (λ (t : Turn). t.call) turn ∙ h.call in
              let message : m ≡ n = cc in
              (message, older, earlier))
        ]
      ]

pub numbers_are_given_once : FaultsAreOfNoMessage → NumbersAreGivenOnce
numbers_are_given_once read s lives is m n g h same number = one_number read s lives is m n g h same number

pub counters_go_past : FaultsAreOfNoMessage → CountersGoPast
counters_go_past read s newest older is m g =
    let fits = is.setting.fit.config in
    let spri = spri_in s.config.grouping m in
    let small : spri < 192 = spris_are_small read s.config.grouping m (has_ranges s.config fits).grouping in
    let one = below_end read s (newest ∷ older) is m g in
    let whole : GoOnAhead s (g.newer ++ g.life ∷ g.older) = subst (GoOnAhead s) g.lives_are is.chained in
    let two : (behind_all s.config (g.life ∷ g.older)).first spri ≤ (behind_all s.config (newest ∷ older)).first spri
    = subst (λ ls. (behind_all s.config (g.life ∷ g.older)).first spri ≤ (behind_all s.config ls).first spri) (sym g.lives_are) ((reach read s fits g.newer (g.life ∷ g.older) whole).first spri small) in
    let told = counters_tell s.config newest.start (calls_of newest.turns) spri small in
    omega (arith, one, two, told)
