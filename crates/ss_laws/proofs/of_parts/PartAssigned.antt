-- A number of a session of a part is assigned the place in the part that it is in the whole.
use Rattle.std.proofs.Common.{◌≡◌, inl, ℕ, ◌==◌, ◌&&◌, true, List, [], ◌∷◌, map, refl, sym, ap, ◌∙◌, subst}
use Rattle.std.specs.Prelude.{Option, Some, None, option_map, slice_get}
use Rattle.std.specs.Ordering.{is_lt}
use Rattle.std.proofs.lemmas.Bool.{eqb-true, eq-eqb, and_parts}
use Rattle.ss_block.specs.declared.hash.Hash.{Hash}
use Rattle.ss_block.specs.declared.hash.HashPair.{HashPair}
use Rattle.ss_review.specs.declared.keep.message.NormalMessage.{NormalMessage}
use Rattle.ss_review.specs.keep.BlockMessage.{BlockMessage}
use Rattle.ss_review.specs.keep.Contents.{Contents}
use Rattle.ss_review.specs.sessions.Verified.{Answers}
use Rattle.ss_review.specs.announced.Announced.{Key, Row, key_cmp, keys, hashes_for}
use Rattle.ss_review.specs.assign.Assigned.{same_pair, has_hash, is_pair, pair_of_bearer, places_with, wanted_with, wanted, rank, place_of, assigned}
use Rattle.ss_review.specs.announced.Announcing.{Announces}
use Rattle.ss_laws.specs.parts.Parts.{normals_of, blocks_of, SessionsStayWhole, AnnouncedStayWithBlocks}
use Rattle.ss_octets.proofs.Members.{Has, contains_from_has, from_has-filter}
use Rattle.ss_review.proofs.of_numbers.Announcements.{announced_row, keys-rise, from_has-hashes_for, has-announced_key}
use Rattle.ss_review.proofs.of_lists.Counting.{same_pair-is}
use Rattle.ss_review.proofs.of_lists.FilteredAlike.{filter_within, find_within, same_count}
use Rattle.ss_review.proofs.of_lists.Finding.{find_some, bearer_of}
use Rattle.ss_review.proofs.of_assignment.OnePlaceOneKey.{only_one}
use Rattle.ss_laws.proofs.of_parts.PartBlocks.{IsOwn, announcer_is, announced_down, announced_own}
use Rattle.ss_laws.proofs.of_parts.PartKeys.{all_rows, own_rows, key_up, key_own, same_hashes}
use Rattle.ss_review.proofs.of_lists.TotalOrders.{key_cmp_total}

-- ---- what is wanted by some hashes

pub wanted_alike : (ms ns : List NormalMessage) (hs : List Hash) → ((h : Hash) → Has hs h → pair_of_bearer ms h ≡ pair_of_bearer ns h) → wanted_with ms hs ≡ wanted_with ns hs
wanted_alike ms ns [] f = refl
wanted_alike ms ns (h ∷ []) f = f h (inl refl)
wanted_alike ms ns (h ∷ g ∷ hs) f = refl

pub is_pair-is : (p : HashPair) (o : Option HashPair) → is_pair p o ≡ true → o ≡ Some p
is_pair-is p None e = absurd (cc)
is_pair-is p (Some q) e = ap (λ (r : HashPair). Some r) (same_pair-is q p e)

module _ (part : ℕ → ℕ) (log : Contents) (k : ℕ) (whole : SessionsStayWhole part log.blocks) (says : Answers) (stay : AnnouncedStayWithBlocks says part log) where
  abbrev bs : List BlockMessage
  bs = log.blocks

  abbrev ms : List NormalMessage
  ms = log.normal

  abbrev pub own_messages : List NormalMessage
  own_messages = normals_of part k log.normal

  abbrev rs : List Row
  rs = all_rows part bs k whole says

  abbrev os : List Row
  os = own_rows part bs k whole says

  pub from_own_message : (m : NormalMessage) → Has own_messages m → Has ms m × (part m.place ≡ k)
  from_own_message m h =
      let f = from_has-filter (λ (n : NormalMessage). part n.place == k) ms m h in
      (f.0, eqb-true (part m.place) k f.1)

  -- ---- bearers

  -- a message with a hash that is announced for a number of a session of the part is of the part
  pub message_is : (j : Key) (h : Hash) → IsOwn part bs k j.session → Announces says bs j h → (m : NormalMessage) → Has ms m → has_hash h m.pair ≡ true → part m.place ≡ k
  message_is j h i a m here has = stay m j h a (contains_from_has ms m here) has ∙ announcer_is part bs k whole says j h i a

  same_bearer : (j : Key) (h : Hash) → IsOwn part bs k j.session → Announces says bs j h → pair_of_bearer own_messages h ≡ pair_of_bearer ms h
  unfolding pair_of_bearer
  same_bearer j h i a =
      ap (option_map (λ (m : NormalMessage). m.pair))
      (find_within (λ (m : NormalMessage). has_hash h m.pair) (λ (m : NormalMessage). part m.place == k) ms
      (λ m here has. eq-eqb (part m.place) k (message_is j h i a m here has)))

  hash_announced : (j : Key) (h : Hash) → Has (hashes_for rs j) h → Announces says bs j h
  hash_announced j h here = announced_row says bs (record { key = j; hash = h }) (from_has-hashes_for rs j h here)

  pub same_wanted : (j : Key) → IsOwn part bs k j.session → wanted own_messages os j ≡ wanted ms rs j
  unfolding wanted
  same_wanted j i =
      ap (wanted_with own_messages) (same_hashes part bs k whole says j i)
      ∙ wanted_alike own_messages ms (hashes_for rs j) (λ h here. same_bearer j h i (hash_announced j h here))

  -- what wants something is announced with a hash of its bearer, which is there
  pub record WantsOne (j : Key) (p : HashPair) : Type 0 where
    pub hash : Hash
    pub announced : Announces says bs j hash
    pub bearer : NormalMessage
    pub stored : Has ms bearer
    pub pair_is : bearer.pair ≡ p
    pub has : has_hash hash p ≡ true

  pub wants_one : (j : Key) (p : HashPair) → wanted ms rs j ≡ Some p → WantsOne j p
  unfolding wanted
  wants_one j p e =
      let w = only_one ms (hashes_for rs j) p e in
      let b = bearer_of ms w.0 p w.3 in
      let f = find_some (λ (m : NormalMessage). has_hash w.0 m.pair) ms b.0 b.1 in
      record {
        hash = w.0;
        announced = hash_announced j w.0 w.1;
        bearer = b.0;
        stored = f.0;
        pair_is = b.2;
        has = subst (λ q. has_hash w.0 q ≡ true) b.2 f.1;
      }

  -- ---- places

  -- each message with the wanted hashes is of the part
  twin_is : (j : Key) (p : HashPair) → IsOwn part bs k j.session → WantsOne j p → (m : NormalMessage) → Has ms m → m.pair ≡ p → part m.place ≡ k
  twin_is j p i w m here e = message_is j w.hash i w.announced m here (ap (has_hash w.hash) e ∙ w.has)

  same_places : (j : Key) (p : HashPair) → IsOwn part bs k j.session → WantsOne j p → places_with own_messages p ≡ places_with ms p
  unfolding places_with
  same_places j p i w =
      ap (map (λ (m : NormalMessage). m.place))
      (filter_within (λ (m : NormalMessage). same_pair m.pair p) (λ (m : NormalMessage). part m.place == k) ms
      (λ m here e. eq-eqb (part m.place) k (twin_is j p i w m here (same_pair-is m.pair p e))))

  -- who wants them too is of the part
  pub rival_own : (j : Key) (p : HashPair) → IsOwn part bs k j.session → WantsOne j p → (q : Key) → WantsOne q p → IsOwn part bs k q.session × Has (keys os) q
  rival_own j p i w q v =
      let at : part v.announced.message.place ≡ k
      = sym (stay w.bearer q v.hash v.announced (contains_from_has ms w.bearer w.stored) (ap (has_hash v.hash) w.pair_is ∙ v.has)) ∙ twin_is j p i w w.bearer w.stored w.pair_is in
      let a = announced_down part bs k whole says q v.hash v.announced at in
      (announced_own part bs k whole says q v.hash a, has-announced_key says (blocks_of part k bs) q (v.hash, a))

  same_rank : (j : Key) (p : HashPair) → IsOwn part bs k j.session → WantsOne j p → rank own_messages os j p ≡ rank ms rs j p
  unfolding rank
  same_rank j p i w =
      same_count key_cmp_total (λ q. is_lt (key_cmp q j) && is_pair p (wanted own_messages os q)) (λ q. is_lt (key_cmp q j) && is_pair p (wanted ms rs q)) (keys os) (keys rs)
      (keys-rise os) (keys-rise rs)
      (λ q h t. (key_up part bs k whole says q h, ap (λ o. is_lt (key_cmp q j) && is_pair p o) (sym (same_wanted q (key_own part bs k whole says q h))) ∙ t))
      (λ q h t.
      (let v = rival_own j p i w q (wants_one q p (is_pair-is p (wanted ms rs q) (and_parts (is_lt (key_cmp q j)) (is_pair p (wanted ms rs q)) t).1)) in
      (v.1, ap (λ o. is_lt (key_cmp q j) && is_pair p o) (same_wanted q v.0) ∙ t)))

  place_alike : (j : Key) → IsOwn part bs k j.session → (o : Option HashPair) → wanted ms rs j ≡ o → place_of own_messages os j o ≡ place_of ms rs j o
  place_alike j i None e = refl
  place_alike j i (Some p) e =
      let w = wants_one j p e in
      λ x. slice_get (same_places j p i w x) (same_rank j p i w x)

  pub same_assigned : (j : Key) → IsOwn part bs k j.session → assigned own_messages os j ≡ assigned ms rs j
  unfolding assigned
  same_assigned j i =
      ap (place_of own_messages os j) (same_wanted j i) ∙ place_alike j i (wanted ms rs j) refl
