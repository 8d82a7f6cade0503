-- Numbers whose sessions are named by index stand in the order of their keys, and rows in that of theirs.
use Rattle.std.proofs.Common.{◌≡◌, ℕ, ◌<◌, List, length, get_or, map, refl, sym, ap, ◌∙◌, subst}
use Rattle.std.specs.declared.cmp.Ordering.{Ordering}
use Rattle.std.specs.declared.cmp.Ordering.TheVariants.{Less, Equal, Greater}
use Rattle.std.specs.Ordering.{nat_cmp, ordering_then, ordering_reverse}
use Rattle.std.specs.List.{All, Contains}
use Rattle.std.specs.List.Sorted.{IsStrictlySortedBy}
use Rattle.std.proofs.lemmas.Cmp.{tied_itself, nat_cmp_total}
use Rattle.std.proofs.lemmas.List.{length-map}
use Rattle.std.proofs.lemmas.List.Elements.{All-contains, Contains-get_or}
use Rattle.std.proofs.lemmas.Map.Keys.{Less-from_sorted}
use Rattle.std.proofs.lemmas.Map.Lookups.{exact_unsigned}
use Rattle.std.proofs.Math.ListN as listn
use Rattle.ss_block.specs.declared.session.Session.{Session}
use Rattle.ss_block.specs.Order.{session_cmp, group_cmp, hash_cmp}
use Rattle.ss_block.specs.OrderLaws.{session_cmp_total}
use Rattle.ss_review.specs.declared.announced.indexed_number.IndexedNumber.{IndexedNumber}
use Rattle.ss_review.specs.declared.announced.announced_hash.AnnouncedHash as row
use Rattle.ss_review.specs.declared.sessions.joined_session.JoinedSession.{JoinedSession}
use Rattle.ss_review.specs.announced.Announced.{key_cmp, row_cmp}
use Rattle.ss_review.specs.announced.Indexed.{nobody, session_at, key_at, row_at, number_cmp}
use Rattle.ss_octets.proofs.Members.{Has, contains_from_has}
use Rattle.ss_review.proofs.of_lists.Keyed.{from_less}
use Rattle.ss_review.proofs.of_lists.Rising.{reversed}

abbrev session_in : JoinedSession → Session
session_in s = s.session

module _ (js : List JoinedSession) (up : IsStrictlySortedBy session_cmp (map (λ (s : JoinedSession). s.session) js)) where
  below : (i j : ℕ) → i < j → j < length js → session_cmp (session_at js i) (session_at js j) ≡ Less
  below i j less within =
      sym (λ k. session_cmp (listn.get_or-map session_in js i nobody k) (listn.get_or-map session_in js j nobody k))
      ∙ Less-from_sorted session_cmp (map session_in js) i j (session_in nobody) up less (subst (λ n. j < n) (sym (length-map js session_in)) within)

  stand : (c : Ordering) (i j : ℕ) → nat_cmp i j ≡ c → i < length js → j < length js → c ≡ session_cmp (session_at js i) (session_at js j)
  stand Less i j e p q = sym (below i j (from_less i j e) q)
  stand Equal i j e p q =
      sym (ap (λ k. session_cmp (session_at js k) (session_at js j)) (exact_unsigned i j e) ∙ tied_itself session_cmp_total (session_at js j))
  stand Greater i j e p q =
      sym (session_cmp_total.antisymm (session_at js i) (session_at js j) ∙ ap ordering_reverse (below j i (from_less j i (reversed nat_cmp_total i j e)) p))

  pub numbers_stand : (a b : IndexedNumber) → a.session < length js → b.session < length js → number_cmp a b ≡ key_cmp (key_at js a) (key_at js b)
  numbers_stand a b p q =
      ap (λ c. ordering_then c (ordering_then (group_cmp a.group b.group) (nat_cmp a.number b.number))) (stand (nat_cmp a.session b.session) a.session b.session refl p q)

  pub rows_stand : (a b : row.AnnouncedHash) → a.number.session < length js → b.number.session < length js
      → ordering_then (number_cmp a.number b.number) (hash_cmp a.hash b.hash) ≡ row_cmp (row_at js a) (row_at js b)
  rows_stand a b p q = ap (λ c. ordering_then c (hash_cmp a.hash b.hash)) (numbers_stand a.number b.number p q)

  -- an order of rows by their numbers, then their hashes, is that of what they are
  pub members_stand : (Q : row.AnnouncedHash → row.AnnouncedHash → Ordering) → ((a b : row.AnnouncedHash) → Q a b ≡ ordering_then (number_cmp a.number b.number) (hash_cmp a.hash b.hash))
      → (rs : List row.AnnouncedHash) → All (λ r. r.number.session < length js) rs → (a b : row.AnnouncedHash) → Has rs a → Has rs b → Q a b ≡ row_cmp (row_at js a) (row_at js b)
  members_stand Q by rs known a b g h =
      by a b
      ∙ rows_stand a b
      (All-contains (λ r. r.number.session < length js) rs a known (contains_from_has rs a g))
      (All-contains (λ r. r.number.session < length js) rs b known (contains_from_has rs b h))

-- rows that are all among others have known sessions where those have
pub still_known : (n : ℕ) (rs qs : List row.AnnouncedHash) → ((r : row.AnnouncedHash) → Contains qs r → Contains rs r) → All (λ r. r.number.session < n) rs → All (λ r. r.number.session < n) qs
still_known n rs qs within known i d below =
    All-contains (λ r. r.number.session < n) rs (get_or qs i d) known (within (get_or qs i d) (Contains-get_or qs i d below))
