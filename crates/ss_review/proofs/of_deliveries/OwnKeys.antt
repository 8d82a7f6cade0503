-- The announced numbers of the originators' session: what they want, and which of them want the same.
use Rattle.std.proofs.Common.{◌≡◌, inl, inr, ℕ, ◌-◌, Bool, true, false, cond, List, [], ◌∷◌, refl, sym, ap, ◌∙◌}
use Rattle.std.specs.Prelude.{Some, option_map, find}
use Rattle.std.specs.Cmp.{Equal-is}
use Rattle.std.proofs.lemmas.Bool.{and_parts}
use Rattle.ss_block.specs.declared.hash.Alg.{Alg}
use Rattle.ss_block.specs.declared.hash.Alg.TheVariants as algs
use Rattle.ss_block.specs.declared.hash.HashPair.{HashPair}
use Rattle.ss_block.specs.declared.session.Session.{Session}
use Rattle.ss_block.specs.Block as block
use Rattle.ss_block.specs.Hashes.{pair, pair_hash, hash_of}
use Rattle.ss_block.specs.Order.{session_cmp}
use Rattle.ss_block.specs.OrderLaws.{session_cmp_exact}
use Rattle.ss_origin.specs.Chain.{given_to}
use Rattle.ss_review.specs.declared.keep.message.NormalMessage.{NormalMessage}
use Rattle.ss_review.specs.sessions.Sessions.{same_session}
use Rattle.ss_review.specs.announced.Announced.{Key, keys}
use Rattle.ss_review.specs.assign.Assigned.{has_hash, pair_of_bearer, wanted_with, wanted}
use Rattle.ss_review.specs.deliveries.Delivery.{own_session, is_normal, submitted_to}
use Rattle.ss_review.specs.deliveries.DeliveryLaws.{Case, IsCase, normals_in, rows_in, message_of, HashesTellPairs}
use Rattle.ss_review.specs.deliveries.Delivered.{KeysHaveBlocks, HasOneHash}
use Rattle.ss_review.proofs.of_lists.Counting.{same_itself}
use Rattle.ss_review.proofs.of_lists.Finding.{find_some, bearer_of}
use Rattle.ss_review.proofs.of_deliveries.Given.{is_given}
use Rattle.ss_review.proofs.of_lists.Keyed.{has-slice_get}
use Rattle.ss_octets.proofs.Members.{Has, contains_from_has}
use Rattle.ss_review.proofs.of_reports.Witnesses.{stored_normal, hash_is}

-- ---- the bearer of a hash

some_at : (p : NormalMessage → Bool) (b : Bool) (m : NormalMessage) (ms : List NormalMessage) → (b ≡ false → (f : NormalMessage) × (find p ms ≡ Some f)) → (f : NormalMessage) × (cond b (Some m) (find p ms) ≡ Some f)
some_at p true m ms rest = (m, refl)
some_at p false m ms rest = rest refl

-- where a message passes, one is found
some_found : (p : NormalMessage → Bool) (ms : List NormalMessage) (q : NormalMessage) → Has ms q → p q ≡ true → (f : NormalMessage) × (find p ms ≡ Some f)
some_found p [] q h t = absurd h
some_found p (m ∷ ms) q (inl e) t = some_at p (p m) m ms (λ no. absurd (let bad : true ≡ false = sym t ∙ ap p (sym e) ∙ no in cc))
some_found p (m ∷ ms) q (inr h) t = some_at p (p m) m ms (λ no. some_found p ms q h t)

has_own_hash : (alg : Alg) (p : HashPair) → has_hash (pair_hash p alg) p ≡ true
has_own_hash algs.Sha1 p = (and_parts _ _ (same_itself p)).0
has_own_hash algs.Sha256 p = (and_parts _ _ (same_itself p)).1

pub own_alg : (alg : Alg) (p : HashPair) → block.is_of alg (pair_hash p alg) ≡ true
own_alg algs.Sha1 p = refl
own_alg algs.Sha256 p = refl

-- a message with these hashes shows a bearer
some_bearer : (ms : List NormalMessage) (alg : Alg) (q : NormalMessage) → Has ms q → (p : HashPair) × (pair_of_bearer ms (pair_hash q.pair alg) ≡ Some p)
unfolding pair_of_bearer
some_bearer ms alg q h =
    let w = some_found (λ (m : NormalMessage). has_hash (pair_hash q.pair alg) m.pair) ms q h (has_own_hash alg q.pair) in
    (w.0.pair, ap (option_map (λ (m : NormalMessage). m.pair)) w.1)

-- ---- sessions

pub same_session-is : (a b : Session) → same_session a b ≡ true → a ≡ b
same_session-is a b e = session_cmp_exact a b ((Equal-is (session_cmp a b)).0 e)

module _ (by_blocks : KeysHaveBlocks) (x : Case) (is : IsCase x) where
  -- ---- messages of numbers

  -- the message of a number was submitted
  pub is_submitted : (k : Key) (m : List ℕ) → message_of x k ≡ Some m → Has (submitted_to x.chain) m
  is_submitted k m e =
      (is_given x.s.config k.group.spri x.chain m (has-slice_get (given_to x.s.config k.group.spri x.chain) (k.number - 1) m e)).0

  pub its_hash : (k : Key) → k.session ≡ own_session x.s → Has (keys (rows_in x)) k → HasOneHash x k
  its_hash k own h = (by_blocks x is k own).1 (contains_from_has (keys (rows_in x)) k h)

  -- ---- what they want

  module _ (tell : HashesTellPairs x) where
    -- a stored message with the hash of a submitted one has its pair
    stored_pair : (m : List ℕ) (q : NormalMessage) → Has (submitted_to x.chain) m → Has (normals_in x) q → has_hash (hash_of x.s.config.alg m) q.pair ≡ true → q.pair ≡ pair m
    stored_pair m q submitted h has =
        let t = stored_normal x.log q h in
        let its : has_hash (hash_of x.s.config.alg m) (pair t.0) ≡ true = ap (has_hash (hash_of x.s.config.alg m)) t.3 ∙ has in
        let same : hash_of x.s.config.alg m ≡ hash_of x.s.config.alg t.0 = hash_is x.s.config.alg (hash_of x.s.config.alg m) t.0 (own_alg x.s.config.alg (pair m)) its in
        sym t.3
        ∙ sym (tell m t.0
        (contains_from_has (submitted_to x.chain) m submitted)
        (contains_from_has x.log t.0 (has-slice_get x.log q.place t.0 t.1))
        (ap is_normal t.2)
        same)

    module _ (k : Key) (own : k.session ≡ own_session x.s) (h : Has (keys (rows_in x)) k) where
      abbrev its_message : List ℕ
      its_message = (its_hash k own h).message

      wants_bearer : wanted (normals_in x) (rows_in x) k ≡ pair_of_bearer (normals_in x) (hash_of x.s.config.alg its_message)
      unfolding wanted
      wants_bearer = ap (wanted_with (normals_in x)) (its_hash k own h).hashes

      -- they want nothing but the hashes of their message
      pub wants_own : (p : HashPair) → wanted (normals_in x) (rows_in x) k ≡ Some p → p ≡ pair its_message
      wants_own p e =
          let bears : pair_of_bearer (normals_in x) (hash_of x.s.config.alg its_message) ≡ Some p = sym wants_bearer ∙ e in
          let b = bearer_of (normals_in x) (hash_of x.s.config.alg its_message) p bears in
          let found = find_some (λ (m : NormalMessage). has_hash (hash_of x.s.config.alg its_message) m.pair) (normals_in x) b.0 b.1 in
          sym b.2 ∙ stored_pair its_message b.0 (is_submitted k its_message (its_hash k own h).given) found.0 found.1

      -- and want these where a message has them
      pub wants_stored : (q : NormalMessage) → Has (normals_in x) q → q.pair ≡ pair its_message → wanted (normals_in x) (rows_in x) k ≡ Some (pair its_message)
      wants_stored q stored e =
          let some = some_bearer (normals_in x) x.s.config.alg q stored in
          let w : wanted (normals_in x) (rows_in x) k ≡ Some some.0
          = wants_bearer ∙ ap (λ (r : HashPair). pair_of_bearer (normals_in x) (pair_hash r x.s.config.alg)) (sym e) ∙ some.1 in
          w ∙ ap (λ (r : HashPair). Some r) (wants_own some.0 w)
