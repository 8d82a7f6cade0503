-- How far several sessions all reach, and what is known of it.
use Rattle.std.proofs.Common.{◌≡◌, ℕ, ◌+◌, ◌<◌, ◌&&◌, Bool, true, false, cond, List, [], ◌∷◌, ◌++◌, length, get_or, take, filter, Bor, refl, sym, ap, ◌∙◌, arith}
use Rattle.std.specs.Prelude.{Option, Some, None, min, nat_lt, unwrap_or, slice_get}
use Rattle.std.specs.BTreeMap as tree
use Rattle.std.specs.BTreeMap.{Updates}
use Rattle.std.specs.List.{list_all}
use Rattle.std.specs.Map.{lookup}
use Rattle.std.specs.Ordering.{is_eq}
use Rattle.std.proofs.lemmas.List.{take_more}
use Rattle.std.proofs.lemmas.List.Elements.{filter-append}
use Rattle.std.proofs.lemmas.List.Folds.{list_all-append}
use Rattle.ss_block.specs.declared.block.Group.{Group}
use Rattle.ss_block.specs.declared.session.Session.{Session}
use Rattle.ss_review.specs.declared.keep.log_blocks.LogBlock.{LogBlock}
use Rattle.ss_review.specs.declared.report.session_report.SessionReport.{SessionReport}
use Rattle.ss_review.specs.report.Verdict.{is_joined}
use Rattle.ss_report.specs.strangers.Strangers.{all_have, has_verified, names_cmp, same_names}
use Rattle.ss_report.specs.strangers.Reaches.{Key, HasReaches, KnowsLeast, at_least, found_in, is_below, is_key, is_same, key_cmp, lesser, reach_in}
use Rattle.ss_report.proofs.of_strangers.SameNames.{Agree, agree_right, same_agree}
use Rattle.ss_report.proofs.of_strangers.RaisedReaches.{key_of, keys_tie}

-- ---- one session more

lt_min : (x a b : ℕ) → nat_lt x (min a b) ≡ (nat_lt x a && nat_lt x b)
lt_min x a b = grind arith

below_lesser : (x : ℕ) (least : Option ℕ) (reach : ℕ) → is_below x (lesser least reach) ≡ (is_below x least && nat_lt x reach)
below_lesser x None reach = refl
below_lesser x (Some least) reach = lt_min x least reach

and_true : (b : Bool) → (b && true) ≡ b
and_true true = refl
and_true false = refl

abbrev pub joined_ones : List SessionReport → List SessionReport
joined_ones ts = filter (λ t. is_joined t.state) ts

module _ (m : tree.BTreeMap Key ℕ) (refused : List ℕ) (bs : List LogBlock) (has : HasReaches m refused bs) (scale : Option Group) (x : ℕ) where
  abbrev test : SessionReport → Bool
  test t = has_verified refused bs (at_least scale x) t.session

  one_more : (t : SessionReport) (ts : List SessionReport) (least : Option ℕ) (b : Bool) → is_below x least ≡ list_all test (joined_ones ts)
      → is_below x (cond b (lesser least (reach_in m t.session scale)) least) ≡ list_all test (joined_ones ts ++ cond b (t ∷ []) [])
  one_more t ts least true so_far =
      below_lesser x least (reach_in m t.session scale)
      ∙ (λ i. so_far i && has t.session scale x i)
      ∙ ap (λ b. list_all test (joined_ones ts) && b) (sym (and_true (test t)))
      ∙ sym (list_all-append test (joined_ones ts) (t ∷ []))
  one_more t ts least false so_far =
      so_far ∙ sym (and_true (list_all test (joined_ones ts))) ∙ sym (list_all-append test (joined_ones ts) [])

  pub fellow_more : (ts : List SessionReport) (i : ℕ) (t : SessionReport) (least : Option ℕ) → i < length ts → t ≡ get_or ts i t
      → is_below x least ≡ list_all test (joined_ones (take i ts))
      → is_below x (cond (is_joined t.state) (lesser least (reach_in m t.session scale)) least) ≡ list_all test (joined_ones (take (i + 1) ts))
  fellow_more ts i t least within is so_far =
      one_more t (take i ts) least (is_joined t.state) so_far
      ∙ ap (list_all test)
      (sym (filter-append (λ (u : SessionReport). is_joined u.state) (take i ts) (t ∷ []))
      ∙ ap joined_ones (ap (λ u. take i ts ++ u ∷ []) is ∙ sym (take_more ts i t within)))

-- ---- sessions with the same names

-- what all sessions of an originator have goes by its names
pub agreed : (ss : List SessionReport) (refused : List ℕ) (bs : List LogBlock) (scale : Option Group) (x : ℕ) (a b : Session) → Agree a b
    → all_have ss refused bs (at_least scale x) a ≡ all_have ss refused bs (at_least scale x) b
agreed ss refused bs scale x a b p = λ i.
    list_all (λ t. has_verified refused bs (at_least scale x) t.session) (joined_ones (filter (λ t. is_eq (agree_right a b t.session p i)) ss))

by_first : (p : SessionReport → Bool) (s t : SessionReport) (ts rest : List SessionReport) (b : Bool) → p s ≡ b → (t ∷ ts ≡ rest → p t ≡ true) → t ∷ ts ≡ cond b (s ∷ rest) rest → p t ≡ true
by_first p s t ts rest true e later same = cc
by_first p s t ts rest false e later same = later same

passes_first : (p : SessionReport → Bool) (ss ts : List SessionReport) (t : SessionReport) → t ∷ ts ≡ filter p ss → p t ≡ true
passes_first p [] ts t is = absurd cc
passes_first p (s ∷ ss) ts t is = by_first p s t ts (filter p ss) (p s) refl (passes_first p ss ts t) is

pub first_passes : (p : SessionReport → Bool) (ss named : List SessionReport) (t : SessionReport) → Some t ≡ slice_get named 0 → named ≡ filter p ss → p t ≡ true
first_passes p ss [] t there is = absurd cc
first_passes p ss (u ∷ us) t there is = ap p (ap (λ o. unwrap_or o t) there) ∙ passes_first p ss us u is

pub nothing_first : (named : List SessionReport) → None ≡ slice_get named 0 → named ≡ []
nothing_first [] none = refl
nothing_first (u ∷ us) none = absurd cc

-- ---- what is known

module _ (ss : List SessionReport) (refused : List ℕ) (bs : List LogBlock) where
  pub none_named : (named : List SessionReport) (s : Session) (scale : Option Group) (x : ℕ) → named ≡ [] → named ≡ filter (λ t. same_names t.session s) ss
      → true ≡ all_have ss refused bs (at_least scale x) s
  none_named named s scale x none is =
      ap (λ ts. list_all (λ t. has_verified refused bs (at_least scale x) t.session) (joined_ones ts)) (sym none ∙ is)

  pub nothing_known : (m : tree.BTreeMap Key (Option ℕ)) → m.entries ≡ [] → KnowsLeast m ss refused bs
  nothing_known m empty = λ s scale least found x.
      let none : None ≡ Some least = ap (λ es. lookup (is_key s scale) es) (sym empty) ∙ found in
      absurd cc

  module _ (m n : tree.BTreeMap Key (Option ℕ)) (key : Key) (least : Option ℕ) (update : Updates key_cmp m n key (Some least)) (knows : KnowsLeast m ss refused bs)
      (is : (x : ℕ) → is_below x least ≡ all_have ss refused bs (at_least key.1 x) key.0.now) where
    known_at : (s : Session) (scale : Option Group) (found : Option ℕ) (x : ℕ) (b : Bool) → is_same key.0.now key.1 s scale ≡ b → found_in n s scale ≡ Some found
        → is_below x found ≡ all_have ss refused bs (at_least scale x) s
    known_at s scale found x true tie has =
        let same = keys_tie key.0.now key.1 s scale tie in
        let kept : Some least ≡ Some found = sym (update.0 (key_of s scale) ∙ ap (λ b. cond b (Some least) (found_in m s scale)) tie) ∙ has in
        ap (λ o. is_below x (unwrap_or o least)) (sym kept)
        ∙ is x
        ∙ (λ i. all_have ss refused bs (at_least (same.1 i) x) (same.0 i))
    known_at s scale found x false tie has =
        knows s scale found (sym (update.0 (key_of s scale) ∙ ap (λ b. cond b (Some least) (found_in m s scale)) tie) ∙ has) x

    pub known_more : KnowsLeast n ss refused bs
    known_more = λ s scale found has x. known_at s scale found x (is_same key.0.now key.1 s scale) refl has
