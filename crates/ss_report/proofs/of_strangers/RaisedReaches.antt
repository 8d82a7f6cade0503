-- How far verified blocks reach, with one block more.
use Rattle.std.proofs.Common.{◌≡◌, ℕ, ◌+◌, ◌&&◌, ◌||◌, Bool, true, false, cond, List, [], ◌∷◌, ◌++◌, Bor, refl, sym, ap, ◌∙◌, arith}
use Rattle.std.specs.Prelude.{Option, Some, None, max, nat_le, nat_lt, unwrap_or}
use Rattle.std.specs.declared.cmp.Ordering.{Ordering}
use Rattle.std.specs.declared.cmp.Ordering.TheVariants.{Less, Equal, Greater}
use Rattle.std.specs.Ordering.{is_eq, ordering_then}
use Rattle.std.specs.Option.{option_cmp}
use Rattle.std.specs.BTreeMap as tree
use Rattle.std.specs.BTreeMap.{Updates}
use Rattle.std.specs.Cmp.{Equal-is}
use Rattle.std.specs.List.{list_any}
use Rattle.std.specs.Map.{lookup}
use Rattle.std.proofs.lemmas.Bool.{le-ltb}
use Rattle.std.proofs.lemmas.List.Folds.{list_any-append}
use Rattle.ss_block.specs.declared.block.Group.{Group}
use Rattle.ss_block.specs.declared.hash.Alg.{Alg}
use Rattle.ss_block.specs.declared.session.Session.{Session}
use Rattle.ss_block.specs.Order.{group_cmp, session_cmp}
use Rattle.ss_block.specs.OrderLaws.{group_cmp_exact, session_cmp_exact}
use Rattle.ss_review.specs.declared.keep.log_blocks.LogBlock.{LogBlock}
use Rattle.ss_review.specs.declared.questions.parameters.AskedParameters.{AskedParameters}
use Rattle.ss_review.specs.declared.questions.parameters.AskedParameters.TheVariants as parameters
use Rattle.ss_review.specs.sessions.Sessions.{same_session}
use Rattle.ss_review.proofs.of_lists.TotalOrders.{both_tie}
use Rattle.ss_report.specs.strangers.Strangers.{has_verified, is_verified}
use Rattle.ss_report.specs.strangers.Reaches.{Key, HasReaches, Raises, at_least, found_in, is_key, is_same, key_cmp, reach_in}
use Rattle.ss_report.proofs.of_strangers.SameNames.{or_false}

-- ---- keys that tie

scales_tie : (a b : Option Group) → option_cmp group_cmp a b ≡ Equal → a ≡ b
scales_tie None None e = refl
scales_tie None (Some h) e = absurd cc
scales_tie (Some g) None e = absurd cc
scales_tie (Some g) (Some h) e = ap Some (group_cmp_exact g h e)

pub keys_tie : (s : Session) (scale : Option Group) (t : Session) (other : Option Group) → is_same s scale t other ≡ true → (s ≡ t) × (scale ≡ other)
keys_tie s scale t other is =
    let both = both_tie (session_cmp s t) (option_cmp group_cmp scale other) ((Equal-is _).0 is) in
    (session_cmp_exact s t both.0, scales_tie scale other both.1)

-- a key for a look-up
abbrev pub key_of : Session → Option Group → Key
key_of s scale = (record { ref_ptr = (0, 0); now = s }, scale)

-- ---- a map with one value raised

module _ (m n : tree.BTreeMap Key ℕ) (key : Key) (end v : ℕ) (update : Updates key_cmp m n key (Some v)) (greatest : v ≡ max (reach_in m key.0.now key.1) end) where
  raised_at : (t : Session) (other : Option Group) (b : Bool) → is_same key.0.now key.1 t other ≡ b
      → reach_in n t other ≡ cond b (max (reach_in m t other) end) (reach_in m t other)
  raised_at t other true is =
      let same = keys_tie key.0.now key.1 t other is in
      ap (λ o. unwrap_or o 0) (update.0 (key_of t other) ∙ ap (λ b. cond b (Some v) (found_in m t other)) is)
      ∙ greatest
      ∙ (λ i. max (reach_in m (same.0 i) (same.1 i)) end)
  raised_at t other false is =
      ap (λ o. unwrap_or o 0) (update.0 (key_of t other) ∙ ap (λ b. cond b (Some v) (found_in m t other)) is)

  pub raised : Raises m n key.0.now key.1 end
  raised = λ t other. raised_at t other (is_same key.0.now key.1 t other) refl

-- ---- what lies below

lt_max : (x r e : ℕ) → nat_lt x (max r (e + 1)) ≡ (nat_lt x r || nat_le x e)
lt_max x r e = grind arith

lt_raised : (x r e : ℕ) (b : Bool) → nat_lt x (cond b (max r (e + 1)) r) ≡ (nat_lt x r || (b && nat_le x e))
lt_raised x r e true = lt_max x r e
lt_raised x r e false = sym (or_false (nat_lt x r))

none_case : (c : Ordering) (a b : Bool) → ((is_eq (ordering_then c Equal) && a) || (is_eq (ordering_then c Greater) && b)) ≡ (is_eq c && a)
none_case Less a b = refl
none_case Equal a b = or_false a
none_case Greater a b = refl

some_case : (c d : Ordering) (a b : Bool) → ((is_eq (ordering_then c Less) && a) || (is_eq (ordering_then c d) && b)) ≡ (is_eq c && (is_eq d && b))
some_case Less d a b = refl
some_case Equal d a b = refl
some_case Greater d a b = refl

-- the two values of a signature block are just what it has
both_values : (v s : Session) (alg : Alg) (group : Group) (gbc first count : ℕ) (scale : Option Group) (x : ℕ)
    → ((is_same v None s scale && nat_le x gbc) || (is_same v (Some group) s scale && nat_le x (first + count)))
    ≡ (same_session v s && at_least scale x (parameters.Signature alg group gbc first count))
both_values v s alg group gbc first count None x = none_case (session_cmp v s) (nat_le x gbc) (nat_le x (first + count))
both_values v s alg group gbc first count (Some h) x = some_case (session_cmp v s) (group_cmp group h) (nat_le x gbc) (nat_le x (first + count))

or_assoc : (a b c : Bool) → ((a || b) || c) ≡ (a || (b || c))
or_assoc true b c = refl
or_assoc false b c = refl

-- ---- one block more

module _ (refused : List ℕ) (bs : List LogBlock) (v : LogBlock) where
  more : (s : Session) (scale : Option Group) (x : ℕ)
      → has_verified refused (bs ++ v ∷ []) (at_least scale x) s
      ≡ (has_verified refused bs (at_least scale x) s || (is_verified refused v && (same_session v.session s && at_least scale x v.parameters)))
  more s scale x =
      let test = λ (b : LogBlock). is_verified refused b && (same_session b.session s && at_least scale x b.parameters) in
      list_any-append test bs (v ∷ []) ∙ ap (λ b. list_any test bs || b) (or_false (test v))

  module _ (m : tree.BTreeMap Key ℕ) (has : HasReaches m refused bs) where
    -- a block that isn't verified, or has no numbers, adds nothing
    adds_none : ((s : Session) (scale : Option Group) (x : ℕ) → (is_verified refused v && (same_session v.session s && at_least scale x v.parameters)) ≡ false)
        → HasReaches m refused (bs ++ v ∷ [])
    adds_none none = λ s scale x.
        has s scale x
        ∙ sym (more s scale x ∙ ap (λ b. has_verified refused bs (at_least scale x) s || b) (none s scale x) ∙ or_false _)

    pub unverified_adds_none : is_verified refused v ≡ false → HasReaches m refused (bs ++ v ∷ [])
    unverified_adds_none not_verified = adds_none (λ s scale x. ap (λ b. b && (same_session v.session s && at_least scale x v.parameters)) not_verified)

    and_false : (a b : Bool) → (a && (b && false)) ≡ false
    and_false true true = refl
    and_false true false = refl
    and_false false b = refl

    none_there : (scale : Option Group) (x : ℕ) (alg : Alg) (group : Group) (total index count : ℕ) → at_least scale x (parameters.Certificate alg group total index count) ≡ false
    none_there None x alg group total index count = refl
    none_there (Some g) x alg group total index count = refl

    pub certificate_adds_none : (alg : Alg) (group : Group) (total index count : ℕ) → v.parameters ≡ parameters.Certificate alg group total index count → HasReaches m refused (bs ++ v ∷ [])
    certificate_adds_none alg group total index count is = adds_none (λ s scale x.
        ap (λ b. is_verified refused v && (same_session v.session s && b)) (ap (at_least scale x) is ∙ none_there scale x alg group total index count)
        ∙ and_false (is_verified refused v) (same_session v.session s))

    pub signature_adds : (m1 m2 : tree.BTreeMap Key ℕ) (alg : Alg) (group : Group) (gbc first count : ℕ)
        → v.parameters ≡ parameters.Signature alg group gbc first count
        → is_verified refused v ≡ true
        → Raises m m1 v.session None (gbc + 1) → Raises m1 m2 v.session (Some group) (first + count + 1)
        → HasReaches m2 refused (bs ++ v ∷ [])
    signature_adds m1 m2 alg group gbc first count is verified one two = λ s scale x.
        let r = reach_in m s scale in
        let a = is_same v.session None s scale in
        let b = is_same v.session (Some group) s scale in
        ap (nat_lt x) (two s scale)
        ∙ lt_raised x (reach_in m1 s scale) (first + count) b
        ∙ ap (λ t. t || (b && nat_le x (first + count))) (ap (nat_lt x) (one s scale) ∙ lt_raised x r gbc a)
        ∙ or_assoc (nat_lt x r) (a && nat_le x gbc) (b && nat_le x (first + count))
        ∙ (λ i. has s scale x i || both_values v.session s alg group gbc first count scale x i)
        ∙ (λ i. has_verified refused bs (at_least scale x) s || (sym verified i && (same_session v.session s && at_least scale x (sym is i))))
        ∙ sym (more s scale x)

-- before the first block
pub none_reached : (m : tree.BTreeMap Key ℕ) (refused : List ℕ) → m.entries ≡ [] → HasReaches m refused []
none_reached m refused empty = λ s scale x.
    ap (λ es. nat_lt x (unwrap_or (lookup (is_key s scale) es) 0)) empty ∙ le-ltb x 0 (omega arith)
