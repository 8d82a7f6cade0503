-- Each place of a log is told of in one way: its note, whether it is taken, and whether it has a verified block, decide
-- which.
use Rattle.std.proofs.Common.{◌≡◌, ℕ, ◌<◌, Bool, true, false, cond, ◌&&◌, ◌==◌, List, [], length, get_or, refl, sym, ap, ◌∙◌, subst, arith}
use Rattle.std.specs.Prelude.{Option, Some, None, is_some, option_map, slice_get}
use Rattle.std.specs.List.{list_any}
use Rattle.std.proofs.lemmas.Bool.{eqb-true, eq-eqb, and_parts, and_from, false_from_ne_true}
use Rattle.std.proofs.lemmas.Cmp.{nat_cmp_total}
use Rattle.std.proofs.lemmas.List.{length-map}
use Rattle.std.proofs.lemmas.Map.Lookups.{exact_unsigned}
use Rattle.std.proofs.lemmas.Option.{slice_get_within, slice_get-get_or, slice_get-map, same_Some}
use Rattle.ss_block.specs.declared.reading.Reading.{Reading}
use Rattle.ss_block.specs.declared.reading.Reading.TheVariants as readings
use Rattle.ss_block.specs.declared.session.Session.{Session}
use Rattle.ss_block.specs.Reading.{reading}
use Rattle.ss_block.specs.ReadingLaws.{is_block, BlocksAreSigned}
use Rattle.ss_block.specs.Session.{session}
use Rattle.ss_block.specs.Signed.{signed}
use Rattle.ss_review.specs.declared.keep.message.NormalMessage.{NormalMessage}
use Rattle.ss_review.specs.keep.BlockMessage.{BlockMessage, BlockContent, Hashes, Fragment}
use Rattle.ss_review.specs.declared.keep.spoilt.SpoiltPlace.{SpoiltPlace}
use Rattle.ss_review.specs.keep.Notes.{Note, Normal, Block, Spoilt, noted, note, notes}
use Rattle.ss_review.specs.keep.Contents.{said_in, block_with, block_in, normals, blocks, spoilts, contents}
use Rattle.ss_review.specs.questions.Shortened.{hash_count}
use Rattle.ss_review.specs.sessions.Verified.{Answers, is_verified}
use Rattle.ss_review.specs.announced.Announced.{Row, rows}
use Rattle.ss_review.specs.assign.Assigned.{is_taken}
use Rattle.ss_review.specs.report.Report.{report_of}
use Rattle.ss_review.specs.report.Accounts as accounts
use Rattle.ss_review.specs.report.Accounts.{Account, HasAccount}
use Rattle.ss_review.specs.Laws.{EveryPlaceIsTold}
use Rattle.ss_review.proofs.of_lists.Keyed.{has-slice_get, one_of_key}
use Rattle.ss_review.proofs.of_reports.Leftovers.{taken_by, takes, unlisted_are, refused_are}
use Rattle.ss_review.proofs.of_reports.Listings.{listed_assigned, assigned_listed}
use Rattle.ss_octets.proofs.Members.{Has, has_from_contains, contains_from_has, has-map, from_has-map}
use Rattle.ss_review.proofs.of_kept_messages.NotesTold.{block_place, normal_noted, block_noted, spoilt_noted, has-normal, has-block, has-spoilt}
use Rattle.ss_review.proofs.of_assignment.OnePlaceOneKey.{assigned_cases, from_has-places_with}
use Rattle.ss_review.proofs.of_kept_messages.PlacesRise.{blocks_rise}
use Rattle.ss_review.proofs.of_lists.Tests.{any_member, member_any}
use Rattle.ss_review.proofs.of_reports.Witnesses.{got_map, note_block}

-- ---- the block of a text

some_of : {X : Type 0} (o : Option X) → is_some o ≡ true → (x : X) × (o ≡ Some x)
some_of None e = absurd (cc)
some_of (Some x) e = (x, refl)

noted_said : (text : List ℕ) (r : Reading) (t : List ℕ) → noted text r ≡ Block t → (is_block r ≡ true) × ((said : BlockContent) × (said_in r ≡ Some said))
noted_said text readings.Plain t e = absurd (cc)
noted_said text (readings.Unparsed part pos) t e = absurd (cc)
noted_said text (readings.Signature b) t e = (refl, (Hashes b, refl))
noted_said text (readings.Certificate b) t e = (refl, (Fragment b, refl))
noted_said text (readings.Spoilt cause) t e = absurd (cc)

-- a text that is kept as a block has one
block_there : BlocksAreSigned → (place : ℕ) (text : List ℕ) → note text ≡ Block text → (b : BlockMessage) × (block_in place text ≡ Some b)
unfolding note block_in
block_there are_signed place text e =
    let said = noted_said text (reading text) text e in
    let s : (s : Session) × (session text ≡ Some s) = some_of (session text) ((are_signed text).1 ∙ said.0) in
    let o : (o : List ℕ) × (signed text ≡ Some o) = some_of (signed text) ((are_signed text).0 ∙ said.0) in
    (record { place = place; count = hash_count said.1.0; session = s.0; said = said.1.0; signed = o.0 }, λ i. block_with place (said.1.1 i) (s.1 i) (o.1 i))

stored_there : BlocksAreSigned → (log : List (List ℕ)) (place : ℕ) (text : List ℕ) → slice_get (notes log) place ≡ Some (Block text) → (b : BlockMessage) × (block_in place text ≡ Some b)
stored_there are_signed log place text e =
    let got = got_map note log place (Block text) e in
    let one : got.0 ≡ text = note_block got.0 text got.2 in
    block_there are_signed place text (subst (λ t. note t ≡ Block text) one got.2)

-- ---- the account of a place

abbrev account_of : Note → Bool → Bool → Account
account_of (Normal pair) taken verified = cond taken accounts.Listed accounts.Unlisted
account_of (Block text) taken verified = cond verified accounts.Verified accounts.Refused
account_of (Spoilt cause) taken verified = accounts.Spoilt

module _ (says : Answers) (ns : List Note) where
  abbrev all_rows : List Row
  all_rows = rows says (blocks ns)

  abbrev taken_at : ℕ → Bool
  taken_at place = is_taken (normals ns) all_rows place

  abbrev is_verified_at : ℕ → BlockMessage → Bool
  is_verified_at place b = (b.place == place) && is_verified says (blocks ns) b

  abbrev verified_at : ℕ → Bool
  verified_at place = list_any (is_verified_at place) (blocks ns)

  abbrev Accounted : ℕ → Account → Type 0
  Accounted place account = HasAccount says (blocks ns) (report_of says (contents ns)) place account

  -- the account that its note and the two tests give it
  pub record IsAccount (place : ℕ) (account : Account) : Type 0 where
    pub kept : Note
    pub stored : slice_get ns place ≡ Some kept
    pub account_is : account_of kept (taken_at place) (verified_at place) ≡ account

  one_block : (a b : BlockMessage) → Has (blocks ns) a → Has (blocks ns) b → a.place ≡ b.place → a ≡ b
  one_block = one_of_key nat_cmp_total exact_unsigned (λ (b : BlockMessage). b.place) (blocks ns) (blocks_rise ns)

  verified_by : (place : ℕ) → verified_at place ≡ true → accounts.IsVerifiedAt says (blocks ns) place
  verified_by place e =
      let w = any_member (is_verified_at place) (blocks ns) e in
      let both = and_parts (w.0.place == place) (is_verified says (blocks ns) w.0) w.2 in
      (w.0, contains_from_has (blocks ns) w.0 w.1, eqb-true w.0.place place both.0, both.1)

  verifies : (b : BlockMessage) (place : ℕ) → Has (blocks ns) b → b.place ≡ place → is_verified says (blocks ns) b ≡ true → verified_at place ≡ true
  verifies b place h at e =
      member_any (is_verified_at place) (blocks ns) b h (and_from (b.place == place) (is_verified says (blocks ns) b) (eq-eqb b.place place at) e)

  -- ---- each account that a place has is that one

  account_told : (place : ℕ) (account : Account) → Accounted place account → IsAccount place account
  unfolding report_of
  account_told place accounts.Listed l =
      let e = listed_assigned says (contents ns) l.0 place l.1 in
      let a = assigned_cases (normals ns) all_rows l.0 place e in
      let m = from_has-places_with (normals ns) all_rows a.0 place (has-slice_get _ _ place a.2) in
      record {
        kept = Normal m.0.pair;
        stored = subst (λ k. slice_get ns k ≡ Some (Normal m.0.pair)) m.3 (normal_noted ns m.0 m.1);
        account_is = ap (λ t. cond t accounts.Listed accounts.Unlisted) (takes (normals ns) all_rows l.0 place e);
      }
  account_told place accounts.Unlisted u =
      let w = (unlisted_are says (contents ns) place).0 u in
      let m = w.0.0 in
      let untaken : taken_at place ≡ false
      = false_from_ne_true (taken_at place) (λ t. (let k = taken_by (normals ns) all_rows place t in w.1 k.0 k.1)) in
      record {
        kept = Normal m.pair;
        stored = subst (λ k. slice_get ns k ≡ Some (Normal m.pair)) w.0.2 (normal_noted ns m (has_from_contains (normals ns) m w.0.1));
        account_is = ap (λ t. cond t accounts.Listed accounts.Unlisted) untaken;
      }
  account_told place accounts.Verified v =
      let h = has_from_contains (blocks ns) v.0 v.1 in
      let text = block_noted ns v.0 h in
      record {
        kept = Block text.0;
        stored = subst (λ k. slice_get ns k ≡ Some (Block text.0)) v.2 text.1;
        account_is = ap (λ t. cond t accounts.Verified accounts.Refused) (verifies v.0 place h v.2 v.3);
      }
  account_told place accounts.Refused r =
      let w = (refused_are says (contents ns) place).0 r in
      let h = has_from_contains (blocks ns) w.0 w.1 in
      let text = block_noted ns w.0 h in
      let unverified : verified_at place ≡ false
      = false_from_ne_true (verified_at place) (λ t.
      (let v = verified_by place t in
      let one : v.0 ≡ w.0 = one_block v.0 w.0 (has_from_contains (blocks ns) v.0 v.1) h (v.2 ∙ sym w.2) in
      w.3 (ap (is_verified says (blocks ns)) (sym one) ∙ v.3))) in
      record {
        kept = Block text.0;
        stored = subst (λ k. slice_get ns k ≡ Some (Block text.0)) w.2 text.1;
        account_is = ap (λ t. cond t accounts.Verified accounts.Refused) unverified;
      }
  account_told place accounts.Spoilt s =
      let w = from_has-map (λ (p : SpoiltPlace). p.place) (spoilts ns) place (has_from_contains _ place s) in
      record {
        kept = Spoilt w.0.cause;
        stored = subst (λ k. slice_get ns k ≡ Some (Spoilt w.0.cause)) w.2 (spoilt_noted ns w.0 w.1);
        account_is = refl;
      }

  pub one_account : (place : ℕ) (a b : Account) → Accounted place a → Accounted place b → b ≡ a
  one_account place a b h i =
      let u = account_told place a h in
      let v = account_told place b i in
      let same : v.kept ≡ u.kept = same_Some v.kept u.kept (sym v.stored ∙ u.stored) in
      sym v.account_is ∙ ap (λ (n : Note). account_of n (taken_at place) (verified_at place)) same ∙ u.account_is

  -- ---- and each place has it

  normal_account : (place : ℕ) (m : NormalMessage) (b : Bool) → Has (normals ns) m → m.place ≡ place → taken_at place ≡ b → Accounted place (cond b accounts.Listed accounts.Unlisted)
  normal_account place m true h at e =
      let k = taken_by (normals ns) all_rows place e in
      (k.0, assigned_listed says (contents ns) k.0 place k.1)
  normal_account place m false h at e =
      (unlisted_are says (contents ns) place).1
      ((m, contains_from_has (normals ns) m h, at), λ k t. (let bad : true ≡ false = sym (takes (normals ns) all_rows k place t) ∙ e in cc))

  block_account : (place : ℕ) (m : BlockMessage) (b : Bool) → Has (blocks ns) m → m.place ≡ place → verified_at place ≡ b → Accounted place (cond b accounts.Verified accounts.Refused)
  block_account place m true h at e = verified_by place e
  block_account place m false h at e =
      (refused_are says (contents ns) place).1
      (m, contains_from_has (blocks ns) m h, at, λ v. (let bad : true ≡ false = sym (verifies m place h at v) ∙ e in cc))

  pub some_account : (place : ℕ) (n : Note) → slice_get ns place ≡ Some n → ((text : List ℕ) → n ≡ Block text → (b : BlockMessage) × (block_in place text ≡ Some b)) → Accounted place (account_of n (taken_at place) (verified_at place))
  unfolding report_of
  some_account place (Normal pair) e there =
      normal_account place (record { place = place; pair = pair }) (taken_at place) (has-normal ns (record { place = place; pair = pair }) e) refl refl
  some_account place (Block text) e there =
      let b : (b : BlockMessage) × (block_in place text ≡ Some b) = there text refl in
      block_account place b.0 (verified_at place) (has-block ns place text b.0 e b.1) (block_place place (Block text) b.0 b.1) refl
  some_account place (Spoilt cause) e there =
      contains_from_has _ place (has-map (λ (p : SpoiltPlace). p.place) (spoilts ns) (record { place = place; cause = cause }) (has-spoilt ns (record { place = place; cause = cause }) e))

  pub within : (place : ℕ) (account : Account) → Accounted place account → place < length ns
  within place account h = let u = account_told place account h in slice_get_within ns place u.kept u.stored

pub every_place : BlocksAreSigned → EveryPlaceIsTold
every_place are_signed says log place = (there, back)
  where
    there : place < length log → (account : Account) × HasAccount says (blocks (notes log)) (report_of says (contents (notes log))) place account
        × ((other : Account) → HasAccount says (blocks (notes log)) (report_of says (contents (notes log))) place other → other ≡ account)
    there below =
        let text = get_or log place [] in
        let e : slice_get (notes log) place ≡ Some (note text) = slice_get-map note log place ∙ ap (option_map note) (slice_get-get_or log place [] below) in
        let h = some_account says (notes log) place (note text) e (λ t n. stored_there are_signed log place t (e ∙ ap (λ (m : Note). Some m) n)) in
        (account_of (note text) (taken_at says (notes log) place) (verified_at says (notes log) place), h, λ other i. one_account says (notes log) place _ other h i)

    back : (account : Account) → HasAccount says (blocks (notes log)) (report_of says (contents (notes log))) place account → place < length log
    back account h = omega (arith, within says (notes log) place account h, length-map log note)
