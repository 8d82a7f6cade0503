-- Which numbers a report tells, as listed or as gaps, and which of them it lists.
use Rattle.std.proofs.Common.{◌≡◌, inl, inr, ℕ, ◌<◌, true, List, [], ◌∷◌, length, refl, sym, ap, ◌∙◌, subst}
use Rattle.std.specs.Prelude.{Option, Some, None, nat_lt, Contains}
use Rattle.std.proofs.lemmas.Bool.{lt-ltb, ltb-true}
use Rattle.ss_block.specs.declared.hash.Hash.{Hash}
use Rattle.ss_block.specs.Hashes.{pair, hash_of}
use Rattle.ss_review.specs.declared.report.entry.Why.TheVariants as whys
use Rattle.ss_review.specs.keep.BlockMessage.{BlockMessage}
use Rattle.ss_review.specs.keep.Notes.{notes}
use Rattle.ss_review.specs.keep.Contents.{normals, blocks}
use Rattle.ss_review.specs.sessions.Verified.{Answers}
use Rattle.ss_review.specs.announced.Announced.{Key, Row, rows, keys, hashes_for}
use Rattle.ss_review.specs.announced.Announcing.{IsAnnounced}
use Rattle.ss_review.specs.assign.Assigned.{assigned, places_with}
use Rattle.ss_review.specs.report.Entries.{entry_with, entry_of}
use Rattle.ss_review.specs.report.Report.{report}
use Rattle.ss_review.specs.report.Meaning.{IsTold}
use Rattle.ss_review.specs.report.Verdict.{is_listed}
use Rattle.ss_review.specs.Laws.{OneReport, ListedAreAssigned, GapsAreUnassigned, KeysAreAnnounced, AnnouncedAreTold}
use Rattle.ss_review.specs.deliveries.DeliveryLaws.{Case, says, report_in, normals_in, rows_in, rank_in, NothingIsDisputed, HasItsHash, AnnouncedByBlocks, HasMessage, ListedByRank}
use Rattle.ss_review.specs.deliveries.Delivered.{HasOneHash, KeysHaveBlocks, EntriesAreByRank}
use Rattle.ss_review.proofs.of_numbers.Announcements.{announced_row, announced_key, has-announced_key, disputed_key, has-disputed_key, from_has-hashes_for, has-hashes_for, has-rows}
use Rattle.ss_octets.proofs.Members.{Has, has_from_contains, contains_from_has}
use Rattle.ss_review.proofs.of_assignment.OnePlaceOneKey.{assigned_cases, wanted_key}
use Rattle.ss_review.proofs.of_deliveries.SentMessages.{turns_of_chain}
use Rattle.ss_review.proofs.of_deliveries.StoredBlocks.{none_spoilt}

-- ---- all reports

pub keys_are_announced : KeysAreAnnounced
keys_are_announced says log k = (
  (
    λ c. announced_key says (blocks (notes log)) k (has_from_contains (keys (rows says (blocks (notes log)))) k c),
    λ a. contains_from_has (keys (rows says (blocks (notes log)))) k (has-announced_key says (blocks (notes log)) k a),
  ),
  (disputed_key says (blocks (notes log)) k, has-disputed_key says (blocks (notes log)) k),
)

module _ (listed : ListedAreAssigned) (gaps : GapsAreUnassigned) (says : Answers) (log : List (List ℕ)) (k : Key) where
  from_told : IsTold (report says log) k → IsAnnounced says (blocks (notes log)) k
  from_told (inl l) =
      let rs = rows says (blocks (notes log)) in
      let a = assigned_cases (normals (notes log)) rs k l.0 ((listed says log k l.0).0 l.1) in
      announced_key says (blocks (notes log)) k (wanted_key (normals (notes log)) rs k a.0 a.1)
  from_told (inr g) = ((gaps says log k).0 g).0

  is_told : IsAnnounced says (blocks (notes log)) k → (o : Option ℕ) → assigned (normals (notes log)) (rows says (blocks (notes log))) k ≡ o → IsTold (report says log) k
  is_told a (Some place) e = inl (place, (listed says log k place).1 e)
  is_told a None e = inr ((gaps says log k).1 (a, λ place s. (let bad : None ≡ Some place = sym e ∙ s in cc)))

-- each announced number is listed or a gap, and no other is
pub announced_are_told : ListedAreAssigned → GapsAreUnassigned → AnnouncedAreTold
announced_are_told listed gaps says log k = (
  from_told listed gaps says log k,
  λ a. is_told listed gaps says log k a (assigned (normals (notes log)) (rows says (blocks (notes log))) k) refl,
)

-- ---- entries

-- the entry of a key is a listed message exactly where the key is assigned a place
pub place_listed : (rs : List Row) (k : Key) (o : Option ℕ) → is_listed (entry_with rs k o) ≡ true → (place : ℕ) × (o ≡ Some place)
place_listed rs k None e = absurd (cc)
place_listed rs k (Some place) e = (place, refl)

-- ---- the originators' session

one_of : (h g : Hash) → Has (h ∷ []) g → g ≡ h
one_of h g (inl e) = sym e
one_of h g (inr i) = absurd i

module _ (told : AnnouncedAreTold) (announced : KeysAreAnnounced) (x : Case) where
  abbrev stored_blocks : List BlockMessage
  stored_blocks = blocks (notes x.log)

  pub told_key : (k : Key) → IsTold (report_in x) k → Contains (keys (rows_in x)) k
  told_key k t = (announced (says x) x.log k).0.1 ((told (says x) x.log k).0 t)

  key_told : (k : Key) → Contains (keys (rows_in x)) k → IsTold (report_in x) k
  key_told k c = (told (says x) x.log k).1 ((announced (says x) x.log k).0.0 c)

  its_hash : (k : Key) → HasOneHash x k → HasItsHash x k
  its_hash k o =
      let h = hash_of x.s.config.alg o.message in
      let there : Has (hashes_for (rows_in x) k) h = subst (λ hs. Has hs h) (sym o.hashes) (inl refl) in
      record {
        message = o.message;
        given = o.given;
        announced = announced_row (says x) stored_blocks (record { key = k; hash = h }) (from_has-hashes_for (rows_in x) k h there);
        no_other = λ g a. one_of h g (subst (λ hs. Has hs g) o.hashes (has-hashes_for (rows_in x) k g (has-rows (says x) stored_blocks k g a)));
        number = o.number;
        group = o.group;
      }

pub announced_by_blocks : KeysHaveBlocks → AnnouncedAreTold → KeysAreAnnounced → AnnouncedByBlocks
announced_by_blocks have told announced x is k own = (
  (
    λ t. (have x is k own).0.0 (told_key told announced x k t),
    λ b. key_told told announced x k ((have x is k own).0.1 b),
  ),
  λ t. its_hash told announced x k ((have x is k own).1 (told_key told announced x k t)),
)

-- a gap for a dispute has two hashes, and each is that of the number's message
pub nothing_is_disputed : OneReport → AnnouncedByBlocks → NothingIsDisputed
nothing_is_disputed one by_blocks x is = (
  λ m c. none_spoilt x.s x.chain m (turns_of_chain x.s x.chain is.chain) c,
  λ k own gap. (
      let its = (by_blocks x is k own).1 (inr (whys.Disputed, gap)) in
      let two = (((one.0 (says x) x.log).entries k.session k.group _).0 gap).2.0 refl in
      two.4 (its.no_other two.0 two.2 ∙ sym (its.no_other two.1 two.3))
      ),
)

pub listed_by_rank : EntriesAreByRank → ListedAreAssigned → AnnouncedAreTold → KeysAreAnnounced → ListedByRank
listed_by_rank entries listed told announced x is tell others k m own t given = (there, back)
  where
    rank : ℕ
    rank = rank_in x k (pair m)

    many : ℕ
    many = length (places_with (normals_in x) (pair m))

    its : is_listed (entry_of (normals_in x) (rows_in x) k) ≡ nat_lt rank many
    its = entries x is tell others k m own (told_key told announced x k t) given

    there : HasMessage (report_in x) k → rank < many
    there l =
        let e : is_listed (entry_of (normals_in x) (rows_in x) k) ≡ true
        = ap (λ (o : Option ℕ). is_listed (entry_with (rows_in x) k o)) ((listed (says x) x.log k l.0).0 l.1) in
        ltb-true rank many (sym its ∙ e)

    back : rank < many → HasMessage (report_in x) k
    back less =
        let p = place_listed (rows_in x) k (assigned (normals_in x) (rows_in x) k) (its ∙ lt-ltb rank many less) in
        (p.0, (listed (says x) x.log k p.0).1 p.1)
