-- Where everything that was sent is in the log, and nothing else: each submitted message stands there as often, and each
-- announced number has a message.
use Rattle.std.proofs.Common.{◌≡◌, inl, inr, ℕ, Bool, true, false, ◌&&◌, List, length, sym, ap, ◌∙◌, arith}
use Rattle.std.specs.Prelude.{count_by}
use Rattle.std.proofs.lemmas.Bool.{and_parts, lt-ltb}
use Rattle.ss_block.specs.declared.hash.HashPair.{HashPair}
use Rattle.ss_block.specs.declared.session.Session.{Session}
use Rattle.ss_block.specs.Hashes.{pair}
use Rattle.ss_block.specs.Order.{session_cmp}
use Rattle.ss_block.specs.OrderLaws.{session_cmp_total}
use Rattle.ss_review.specs.keep.Notes.{note}
use Rattle.ss_review.specs.announced.Announced.{keys}
use Rattle.ss_review.specs.assign.Assigned.{same_pair, places_with}
use Rattle.ss_review.specs.deliveries.Delivery.{own_session, is_normal, submitted_to}
use Rattle.ss_review.specs.deliveries.DeliveryLaws.{Case, normals_in, rows_in, rank_in, OthersWantOthers}
use Rattle.ss_review.specs.deliveries.Delivered.{RanksAreBelowCounts, KeysHaveBlocks, EntriesAreByRank}
use Rattle.ss_review.specs.deliveries.Whole.{IsWhole, BlocksAreVerified, MessagesAreStored, NumbersAreListed}
use Rattle.ss_review.proofs.of_lists.EqualCounts.{same_counts}
use Rattle.ss_octets.proofs.Members.{Has, has_from_contains, contains_from_has}
use Rattle.ss_review.proofs.of_lists.Rising.{not_less_itself}
use Rattle.ss_review.proofs.of_kept_messages.NormalCounts.{normal_counts, length-places_with}
use Rattle.ss_review.proofs.of_deliveries.SentKinds.{sent_kinds, submitted_note}
use Rattle.ss_review.proofs.of_lists.Sums.{count_by-same}
use Rattle.ss_review.proofs.of_deliveries.WholeNumbers.{own_key}

pub messages_are_stored : MessagesAreStored
messages_are_stored x w test =
    same_counts x.log (submitted_to x.chain) (λ m h. w.delivered.messages m (contains_from_has (submitted_to x.chain) m h)) passes among
    ∙ count_by-same passes test (submitted_to x.chain) (λ m h. ap (λ n. is_normal n && test m) (submitted_note x.s x.chain w.case.chain.chained m h))
  where
    passes : List ℕ → Bool
    passes m = is_normal (note m) && test m

    among : (m : List ℕ) → Has x.log m → passes m ≡ true → Has (submitted_to x.chain) m
    among m h e =
        elim (sent_kinds x.s x.chain w.case.chain.chained m (w.delivered.sent m (contains_from_has x.log m h))) [
          | inl given ↦ given
          | inr block ↦ absurd (let no : true ≡ false = sym (and_parts (is_normal (note m)) (test m) e).0 ∙ ap is_normal block in cc)
        ]

-- as many places have two hashes as submitted messages
places_of : MessagesAreStored → (x : Case) → IsWhole x → (p : HashPair) → length (places_with (normals_in x) p) ≡ count_by (λ n. same_pair (pair n) p) (submitted_to x.chain)
places_of stored x w p =
    length-places_with (normals_in x) p
    ∙ normal_counts (λ q. same_pair q p) x.log
    ∙ stored x w (λ n. same_pair (pair n) p)

pub numbers_are_listed : BlocksAreVerified → MessagesAreStored → KeysHaveBlocks → EntriesAreByRank → RanksAreBelowCounts → NumbersAreListed
numbers_are_listed verified stored announced by_rank below x w k c =
    let own : k.session ≡ own_session x.s = own_key verified x w k (has_from_contains (keys (rows_in x)) k c) in
    let its = (announced x w.case k own).1 c in
    let others : OthersWantOthers x = λ j m there before submitted e. not_less_itself session_cmp_total (own_session x.s) (ap (λ (s : Session). session_cmp s (own_session x.s)) (sym (own_key verified x w j (has_from_contains (keys (rows_in x)) j there))) ∙ before) in
    let p = pair its.message in
    let rank = rank_in x k p in
    let fewer = below x w.case k its.message own c its.given in
    let places = places_of stored x w p in
    by_rank x w.case w.pairs others k its.message own c its.given
    ∙ lt-ltb rank (length (places_with (normals_in x) p)) (omega (arith, fewer, places))
