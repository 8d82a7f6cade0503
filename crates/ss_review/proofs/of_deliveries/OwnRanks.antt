-- The rank of an announced number of the originators' session, and where it is listed.
use Rattle.std.proofs.Common.{◌≡◌, inl, inr, ℕ, Bool, true, false, ◌&&◌, List, [], ◌∷◌, length, refl, sym, ap, ◌∙◌, subst, arith}
use Rattle.std.specs.Prelude.{Option, Some, None, nat_lt, slice_get}
use Rattle.std.specs.declared.cmp.Ordering.{Ordering}
use Rattle.std.specs.declared.cmp.Ordering.TheVariants.{Less, Equal, Greater}
use Rattle.std.specs.Ordering.{nat_cmp, ordering_then, is_lt, is_eq}
use Rattle.std.proofs.lemmas.Bool.{false_from_ne_true, lt-ltb, le-ltb}
use Rattle.std.proofs.lemmas.Option.{slice_get_cases}
use Rattle.ss_block.specs.declared.hash.HashPair.{HashPair}
use Rattle.ss_block.specs.Hashes.{pair}
use Rattle.ss_block.specs.Order.{session_cmp, group_cmp}
use Rattle.ss_review.specs.declared.keep.message.NormalMessage.{NormalMessage}
use Rattle.ss_review.specs.sessions.Sessions.{same_session}
use Rattle.ss_review.specs.announced.Announced.{Key, Row, key_cmp, keys}
use Rattle.ss_review.specs.assign.Assigned.{same_pair, is_pair, places_with, wanted, rank, place_of, assigned}
use Rattle.ss_review.specs.report.Entries.{entry_with, entry_of}
use Rattle.ss_review.specs.report.Verdict.{is_listed}
use Rattle.ss_review.specs.deliveries.Delivery.{own_session, submitted_to}
use Rattle.ss_review.specs.deliveries.DeliveryLaws.{Case, IsCase, normals_in, rows_in, message_of, pair_of, rank_in, HashesTellPairs, OthersWantOthers}
use Rattle.ss_review.specs.deliveries.Delivered.{KeysHaveBlocks}
use Rattle.ss_review.proofs.of_lists.Counting.{same_pair-is}
use Rattle.ss_review.proofs.of_lists.Keyed.{has-slice_get}
use Rattle.ss_octets.proofs.Members.{Has, contains_from_has}
use Rattle.ss_review.proofs.of_assignment.OnePlaceOneKey.{assigned_cases, from_has-places_with}
use Rattle.ss_review.proofs.of_deliveries.OwnKeys.{same_session-is, its_hash, wants_own, wants_stored}
use Rattle.ss_review.proofs.of_lists.Sums.{count_by-same}

-- ---- entries

listed_at : (rs : List Row) (k : Key) (ps : List ℕ) (i : ℕ) → is_listed (entry_with rs k (slice_get ps i)) ≡ nat_lt i (length ps)
listed_at rs k ps i = elim (slice_get_cases ps i).1 [
  | inl w ↦ (ap (λ (o : Option ℕ). is_listed (entry_with rs k o)) w.2 ∙ sym (lt-ltb i (length ps) w.1))
  | inr w ↦ (ap (λ (o : Option ℕ). is_listed (entry_with rs k o)) w.1 ∙ sym (le-ltb i (length ps) w.0))
]

-- ---- pairs that are wanted

-- a test of what is wanted, which is nothing but a pair, and this where it is the one that is asked for
is_pair_at : (p q : HashPair) (w : Option HashPair) → ((r : HashPair) → w ≡ Some r → r ≡ q) → (q ≡ p → w ≡ Some q) → is_pair p w ≡ same_pair q p
is_pair_at p q (Some r) only stored = ap (λ (s : HashPair). same_pair s p) (only r refl)
is_pair_at p q None only stored =
    sym (false_from_ne_true (same_pair q p) (λ t. (let bad : None ≡ Some q = stored (same_pair-is q p t) in cc)))

-- another pair isn't wanted
not_pair : (p : HashPair) (w : Option HashPair) → (w ≡ Some p → ⊥) → is_pair p w ≡ false
not_pair p None apart = refl
not_pair p (Some q) apart = false_from_ne_true (same_pair q p) (λ t. apart (ap (λ (r : HashPair). Some r) (same_pair-is q p t)))

and_alike : (a b c d : Bool) → (a ≡ true → b ≡ (c && d)) → (a && b) ≡ (a && c && d)
and_alike true b c d e = e refl
and_alike false b c d e = refl

-- a smaller key of another session has a session that stands before
session_before : (j k : Key) → is_lt (key_cmp j k) ≡ true → same_session j.session k.session ≡ false → session_cmp j.session k.session ≡ Less
session_before j k less apart = before (session_cmp j.session k.session) (ordering_then (group_cmp j.group k.group) (nat_cmp j.number k.number)) less apart
  where
    before : (c d : Ordering) → is_lt (ordering_then c d) ≡ true → is_eq c ≡ false → c ≡ Less
    before Less d l a = refl
    before Equal d l a = absurd (cc)
    before Greater d l a = absurd (cc)

module _ (by_blocks : KeysHaveBlocks) (x : Case) (is : IsCase x) (tell : HashesTellPairs x) (others : OthersWantOthers x) (m : List ℕ) (submitted : Has (submitted_to x.chain) m) where
  -- ---- where some message with these hashes is stored

  module _ (q : NormalMessage) (stored : Has (normals_in x) q) (its : q.pair ≡ pair m) where
    -- a number below one of the session wants them where its own message has them
    wants_alike : (j k : Key) → k.session ≡ own_session x.s → Has (keys (rows_in x)) j → is_lt (key_cmp j k) ≡ true → (b : Bool) → same_session j.session (own_session x.s) ≡ b
        → is_pair (pair m) (wanted (normals_in x) (rows_in x) j) ≡ (b && is_pair (pair m) (pair_of (message_of x j)))
    wants_alike j k mine h less true e =
        let own = same_session-is j.session (own_session x.s) e in
        let i = its_hash by_blocks x is j own h in
        is_pair_at (pair m) (pair i.message) (wanted (normals_in x) (rows_in x) j)
        (wants_own by_blocks x is tell j own h)
        (λ same. wants_stored by_blocks x is tell j own h q stored (its ∙ sym same))
        ∙ sym (ap (λ (o : Option (List ℕ)). is_pair (pair m) (pair_of o)) i.given)
    wants_alike j k mine h less false e =
        not_pair (pair m) (wanted (normals_in x) (rows_in x) j)
        (others j m (contains_from_has (keys (rows_in x)) j h)
        (ap (session_cmp j.session) (sym mine) ∙ session_before j k less (ap (same_session j.session) mine ∙ e))
        (contains_from_has (submitted_to x.chain) m submitted))

    -- so as many smaller keys want them as smaller numbers have such a message
    rank_is : (k : Key) → k.session ≡ own_session x.s → rank (normals_in x) (rows_in x) k (pair m) ≡ rank_in x k (pair m)
    unfolding rank
    rank_is k mine =
        count_by-same
        (λ j. is_lt (key_cmp j k) && is_pair (pair m) (wanted (normals_in x) (rows_in x) j))
        (λ j. is_lt (key_cmp j k) && same_session j.session (own_session x.s) && is_pair (pair m) (pair_of (message_of x j)))
        (keys (rows_in x))
        (λ j h.
        (let own = same_session j.session (own_session x.s) in
        and_alike (is_lt (key_cmp j k)) (is_pair (pair m) (wanted (normals_in x) (rows_in x) j)) own (is_pair (pair m) (pair_of (message_of x j))) (λ less. wants_alike j k mine h less own refl)))

  -- ---- a number with this message

  module _ (k : Key) (own : k.session ≡ own_session x.s) (h : Has (keys (rows_in x)) k) (given : message_of x k ≡ Some m) where
    its_is : (its_hash by_blocks x is k own h).message ≡ m
    its_is = let both : Some (its_hash by_blocks x is k own h).message ≡ Some m = sym (its_hash by_blocks x is k own h).given ∙ given in cc

    -- where no such message is stored, the number isn't listed
    listed_nowhere : places_with (normals_in x) (pair m) ≡ [] → (o : Option ℕ) → assigned (normals_in x) (rows_in x) k ≡ o → is_listed (entry_with (rows_in x) k o) ≡ false
    listed_nowhere none None e = refl
    listed_nowhere none (Some place) e =
        let a = assigned_cases (normals_in x) (rows_in x) k place e in
        let pair_is : a.0 ≡ pair m = wants_own by_blocks x is tell k own h a.0 a.1 ∙ ap pair its_is in
        let there : Has (places_with (normals_in x) a.0) place = has-slice_get (places_with (normals_in x) a.0) (rank (normals_in x) (rows_in x) k a.0) place a.2 in
        absurd (subst (λ ps. Has ps place) none (subst (λ p. Has (places_with (normals_in x) p) place) pair_is there))

    -- else it is assigned the place of its rank
    assigned_somewhere : (q : NormalMessage) → Has (normals_in x) q → q.pair ≡ pair m → assigned (normals_in x) (rows_in x) k ≡ slice_get (places_with (normals_in x) (pair m)) (rank_in x k (pair m))
    unfolding assigned
    assigned_somewhere q stored its =
        let wants : wanted (normals_in x) (rows_in x) k ≡ Some (pair m)
        = wants_stored by_blocks x is tell k own h q stored (its ∙ ap pair (sym its_is)) ∙ ap (λ (n : List ℕ). Some (pair n)) its_is in
        ap (place_of (normals_in x) (rows_in x) k) wants
        ∙ ap (slice_get (places_with (normals_in x) (pair m))) (rank_is q stored its k own)

    by_places : (ps : List ℕ) → places_with (normals_in x) (pair m) ≡ ps → is_listed (entry_of (normals_in x) (rows_in x) k) ≡ nat_lt (rank_in x k (pair m)) (length (places_with (normals_in x) (pair m)))
    by_places [] e =
        listed_nowhere e (assigned (normals_in x) (rows_in x) k) refl
        ∙ sym (le-ltb (rank_in x k (pair m)) (length (places_with (normals_in x) (pair m))) (omega (arith, ap length e)))
    by_places (place ∷ places) e =
        let q = from_has-places_with (normals_in x) (rows_in x) (pair m) place (subst (λ ps. Has ps place) (sym e) (inl refl)) in
        ap (λ (o : Option ℕ). is_listed (entry_with (rows_in x) k o)) (assigned_somewhere q.0 q.1 q.2)
        ∙ listed_at (rows_in x) k (places_with (normals_in x) (pair m)) (rank_in x k (pair m))

    -- it is listed exactly where its rank is below the number of such messages
    pub listed_by_its_rank : is_listed (entry_of (normals_in x) (rows_in x) k) ≡ nat_lt (rank_in x k (pair m)) (length (places_with (normals_in x) (pair m)))
    listed_by_its_rank = by_places (places_with (normals_in x) (pair m)) refl
