-- A report by given payloads lists what the kept blocks announce.
use Rattle.std.proofs.Common.{◌≡◌, ℕ, true, List, length, map, refl, sym, ap, ◌∙◌, subst}
use Rattle.std.specs.Prelude.{Some, slice_get}
use Rattle.ss_block.specs.Block as block
use Rattle.ss_block.specs.Hashes.{pair}
use Rattle.ss_block.specs.Reading.{reading}
use Rattle.ss_block.specs.ReadingLaws.{BlocksAreInRange}
use Rattle.ss_block.specs.declared.hash.Hash.{Hash}
use Rattle.ss_block.specs.declared.hash.HashPair.{HashPair}
use Rattle.ss_block.specs.declared.reading.Reading.TheVariants as readings
use Rattle.ss_review.specs.Laws.{ListsWhatIsAnnounced, ReportsListWhatIsAnnounced}
use Rattle.ss_review.specs.announced.Announced.{Key, rows}
use Rattle.ss_review.specs.announced.Announcing.{IsAnnounced}
use Rattle.ss_review.specs.assign.Assigned.{has_hash, assigned}
use Rattle.ss_review.specs.assign.Listing.{Wants, IsDue}
use Rattle.ss_review.specs.keep.BlockMessage.{BlockMessage, BlockContent}
use Rattle.ss_review.specs.declared.keep.message.NormalMessage.{NormalMessage}
use Rattle.ss_review.specs.declared.keep.spoilt.SpoiltPlace.{SpoiltPlace}
use Rattle.ss_review.specs.declared.report.report.Report.{Report}
use Rattle.ss_review.specs.keep.Contents.{Contents, normals, blocks, spoilts, contents}
use Rattle.ss_review.specs.keep.Notes.{notes}
use Rattle.ss_review.specs.report.Meaning.{IsListed}
use Rattle.ss_review.specs.report.Report.{report_of, report}
use Rattle.ss_review.specs.sessions.Sessions.{of_session}
use Rattle.ss_review.specs.sessions.Verified.{Answers, joined, signature_of}
use Rattle.ss_octets.proofs.Members.{has_from_contains, contains_from_has, has-map}
use Rattle.ss_review.proofs.of_lists.Keyed.{has-slice_get}
use Rattle.ss_review.proofs.of_lists.Tests.{all_member}
use Rattle.ss_review.proofs.of_reports.Witnesses.{stored_normal, stored_block, said_signature, hash_is, verified_cases}
use Rattle.ss_review.specs.pinned.Pinned.{pinned_contents, pinned_report}
use Rattle.ss_review.specs.pinned.Stands.{IsReportedAs, PinnedReportsAreOfLogs, PinnedReportsAreInOrder}
use Rattle.ss_laws.specs.strangers.PinnedListings.{kept_in, IsWitnessedByKept, ListsWhatKeptAnnounce, PinnedReportsListWhatIsAnnounced}
use Rattle.ss_laws.proofs.of_ahead.Reported.{told_in, borne}
use Rattle.ss_laws.proofs.of_strangers.ReportsAgree.{from_has-kept}

-- ---- what is due rests on messages without a block and on blocks alone

module _ (says : Answers) (ms : List NormalMessage) (bs : List BlockMessage) where
  abbrev beside : List SpoiltPlace → ℕ → Contents
  beside spoilt count = record { normal = ms; blocks = bs; spoilt = spoilt; count = count }

  wants_beside : (spoilt others : List SpoiltPlace) (count n : ℕ) (k : Key) (p : HashPair) → Wants says (beside spoilt count) k p → Wants says (beside others n) k p
  wants_beside spoilt others count n k p w = record {
    undisputed = w.undisputed;
    hash = w.hash;
    announced = w.announced;
    bearer = w.bearer;
    is_bearer = w.is_bearer;
    pair_is = w.pair_is;
  }

  due_beside : (spoilt others : List SpoiltPlace) (count n : ℕ) (k : Key) (place : ℕ) → IsDue says (beside spoilt count) k place → IsDue says (beside others n) k place
  due_beside spoilt others count n k place d = record {
    message = d.message;
    stored = d.stored;
    place_is = d.place_is;
    wants = wants_beside spoilt others count n k d.message.pair d.wants;
    smaller = d.smaller;
    smaller_rise = d.smaller_rise;
    smaller_are = λ j. (
      λ c. (let w = (d.smaller_are j).0 c in (w.0, wants_beside spoilt others count n j d.message.pair w.1)),
      λ w. (d.smaller_are j).1 (w.0, wants_beside others spoilt n count j d.message.pair w.1),
    );
    before = d.before;
    before_rise = d.before_rise;
    before_are = d.before_are;
    as_many = d.as_many;
  }

-- ---- the witness

module _ (says : Answers) (ps : List (List ℕ)) (log : List (List ℕ)) where
  abbrev bs : List BlockMessage
  bs = blocks (notes log)

  abbrev r : Report
  r = pinned_report says ps (contents (notes log))

  witness : BlocksAreInRange → (k : Key) (place : ℕ) → IsListed r k place → IsWitnessedByKept says ps log k place
  witness range k place l =
      let o = borne says (pinned_contents says ps (contents (notes log))) k place (told_in r (report_of says (pinned_contents says ps (contents (notes log)))) k.session k.group _ refl l) in
      let t = stored_normal log o.message o.stored in
      let n = o.announced in
      let b = n.message in
      let now = has_from_contains (kept_in says ps log) b n.stored in
      let s = stored_block log b (from_has-kept says ps bs b now).0 in
      let read : reading s.0 ≡ readings.Signature n.said = said_signature (reading s.0) n.said (s.2.said_is ∙ ap (λ (x : BlockContent). Some x) n.says_so) in
      let of_alg : block.is_of n.said.alg o.hash ≡ true = all_member (block.is_of n.said.alg) n.said.hashes (range.0 s.0 n.said read).hashes o.hash (has-slice_get n.said.hashes n.index o.hash n.hash) in
      let has : has_hash o.hash (pair t.0) ≡ true = ap (has_hash o.hash) t.3 ∙ o.has in
      let v = verified_cases says (kept_in says ps log) b n.verified in
      record {
        message = t.0;
        stored = subst (λ i. slice_get log i ≡ Some t.0) o.place_is t.1;
        no_block = t.2;
        block_place = b.place;
        text = s.0;
        block_stored = s.1;
        block_kept = contains_from_has (map (λ (d : BlockMessage). d.place) (kept_in says ps log)) b.place (has-map (λ (d : BlockMessage). d.place) (kept_in says ps log) b now);
        said = n.said;
        read = read;
        session_is = s.2.session_is ∙ ap (λ x. Some x) n.session_is;
        group_is = n.group_is;
        index = n.index;
        number = n.number;
        hash = n.hash ∙ ap (λ (x : Hash). Some x) (hash_is n.said.alg o.hash t.0 of_alg has);
        payload = v.0;
        payload_joined = ap (λ x. joined says (of_session (kept_in says ps log) x)) (sym n.session_is) ∙ v.1;
        octets = b.signed;
        octets_signed = s.2.signed_is;
        said_yes = ap (λ x. says.valid v.0 b.signed (signature_of x)) (sym n.says_so) ∙ v.2;
      }

  -- ---- what holds of the log that stands for it

  module _ (other : List (List ℕ)) (like : IsReportedAs says ps log other) (lists : ListsWhatIsAnnounced says other (report says other)) where
    to : (k : Key) (place : ℕ) → IsListed r k place → IsListed (report says other) k place
    to k place l = told_in r (report says other) k.session k.group _ (sym like.sessions) l

    from : (k : Key) (place : ℕ) → IsListed (report says other) k place → IsListed r k place
    from k place l = told_in (report says other) r k.session k.group _ like.sessions l

    same_assigned : (k : Key) → assigned (normals (notes other)) (rows says (blocks (notes other))) k ≡ assigned (normals (notes log)) (rows says (kept_in says ps log)) k
    same_assigned k =
        let ms = like.normals_are in
        let ds = like.blocks_are in
        λ i. assigned (ms i) (rows says (ds i)) k

    abbrev mixed : List NormalMessage → List BlockMessage → Contents
    mixed ms ds = record { normal = ms; blocks = ds; spoilt = spoilts (notes other); count = length (notes other) }

    same_contents : contents (notes other) ≡ mixed (normals (notes log)) (kept_in says ps log)
    same_contents =
        let ms = like.normals_are in
        let ds = like.blocks_are in
        λ i. mixed (ms i) (ds i)

    to_due : (k : Key) (place : ℕ) → IsDue says (contents (notes other)) k place → IsDue says (pinned_contents says ps (contents (notes log))) k place
    to_due k place d =
        due_beside says (normals (notes log)) (kept_in says ps log) (spoilts (notes other)) (spoilts (notes log)) (length (notes other)) (length (notes log)) k place
        (subst (λ c. IsDue says c k place) same_contents d)

    from_due : (k : Key) (place : ℕ) → IsDue says (pinned_contents says ps (contents (notes log))) k place → IsDue says (contents (notes other)) k place
    from_due k place d =
        subst (λ c. IsDue says c k place) (sym same_contents)
        (due_beside says (normals (notes log)) (kept_in says ps log) (spoilts (notes log)) (spoilts (notes other)) (length (notes log)) (length (notes other)) k place d)

    lists_kept : BlocksAreInRange → PinnedReportsAreInOrder → ListsWhatKeptAnnounce says ps log r
    lists_kept range rises = record {
      listed = λ k place. (
        λ l. sym (same_assigned k) ∙ (lists.listed k place).0 (to k place l),
        λ e. from k place ((lists.listed k place).1 (same_assigned k ∙ e)),
      );
      due = λ k place. (
        λ l. to_due k place ((lists.due k place).0 (to k place l)),
        λ d. from k place ((lists.due k place).1 (from_due k place d)),
      );
      witnessed = witness range;
      number_once = λ k place more l m. lists.number_once k place more (to k place l) (to k more m);
      message_once = λ k j place l m. lists.message_once k j place (to k place l) (to j place m);
      rising = rises says ps log;
      gaps = λ k. (
        λ g.
            (let w = (lists.gaps k).0 (g.0, told_in r (report says other) k.session k.group _ (sym like.sessions) g.1) in
            (subst (λ (ds : List BlockMessage). IsAnnounced says ds k) like.blocks_are w.0, λ place e. w.1 place (same_assigned k ∙ e))),
        λ a.
            (let g = (lists.gaps k).1 (subst (λ (ds : List BlockMessage). IsAnnounced says ds k) (sym like.blocks_are) a.0, λ place e. a.1 place (sym (same_assigned k) ∙ e)) in
            (g.0, told_in (report says other) r k.session k.group _ like.sessions g.1)),
      );
    }

pub lists_what_is_announced : ReportsListWhatIsAnnounced → PinnedReportsAreOfLogs → PinnedReportsAreInOrder → BlocksAreInRange → PinnedReportsListWhatIsAnnounced
lists_what_is_announced each of_logs rises range says ps log =
    let w = of_logs says ps log in
    let lists = each says w.0 in
    ((w.0, w.1, lists), lists_kept says ps log w.0 w.1 lists range rises)
