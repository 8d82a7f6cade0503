-- Where everything that was sent is in the log, and nothing else: each number is announced, and no group has a hole.
use Rattle.std.proofs.Common.{◌≡◌, ◌+◌, ◌-◌, ◌<◌, length, refl, sym, ◌∙◌, subst, arith}
use Rattle.std.specs.Prelude.{Contains}
use Rattle.std.proofs.lemmas.Option.{slice_get_within}
use Rattle.ss_origin.specs.GroupLaws.{SprisAreSmall}
use Rattle.ss_origin.specs.Calls.{spri_in}
use Rattle.ss_origin.specs.Chain.{given_to}
use Rattle.ss_review.specs.keep.Notes.{notes}
use Rattle.ss_review.specs.keep.Contents.{blocks}
use Rattle.ss_review.specs.announced.Announced.{Key, keys}
use Rattle.ss_review.specs.deliveries.Delivery.{own_session}
use Rattle.ss_review.specs.deliveries.DeliveryLaws.{Case, says, rows_in, JoinedByFragments}
use Rattle.ss_review.specs.deliveries.Delivered.{own_number, NumbersHaveBlocks, KeysHaveBlocks}
use Rattle.ss_review.specs.deliveries.Whole.{IsWhole, PayloadsArrive, BlocksAreVerified, NumbersAreAnnounced, GroupsHaveNoHole}
use Rattle.ss_review.proofs.of_numbers.Announcements.{announced_key, has-announced_key}
use Rattle.ss_review.proofs.of_deliveries.Given.{is_given}
use Rattle.ss_review.proofs.of_lists.Keyed.{has-slice_get}
use Rattle.ss_octets.proofs.Members.{Has, has_from_contains, contains_from_has}
use Rattle.ss_review.proofs.of_deliveries.OwnNumbers.{grouping_of}

pub numbers_are_announced : PayloadsArrive → JoinedByFragments → KeysHaveBlocks → NumbersHaveBlocks → NumbersAreAnnounced
numbers_are_announced arrive joined announced have x w spri number small some most =
    (announced x w.case (own_number x spri number) refl).0.1
    ((joined x w.case).1 (arrive x w), have x w.case w.complete w.delivered.blocks spri number small some most)

-- each announced number is of the session
pub own_key : BlocksAreVerified → (x : Case) → IsWhole x → (k : Key) → Has (keys (rows_in x)) k → k.session ≡ own_session x.s
own_key verified x w k h =
    let a = (announced_key (says x) (blocks (notes x.log)) k h).1 in
    sym a.session_is ∙ (verified x w a.message a.stored).0

pub groups_have_no_hole : BlocksAreVerified → KeysHaveBlocks → NumbersAreAnnounced → SprisAreSmall → GroupsHaveNoHole
groups_have_no_hole verified announced numbers spris x w s g first last hole =
    let behind : Key = record { session = s; group = g; number = last + 1 } in
    let h : Has (keys (rows_in x)) behind = has-announced_key (says x) (blocks (notes x.log)) behind hole.behind in
    let own : s ≡ own_session x.s = own_key verified x w behind h in
    let its = (announced x w.case behind own).1 (contains_from_has (keys (rows_in x)) behind h) in
    let given = given_to x.s.config g.spri x.chain in
    let within : last + 1 - 1 < length given = slice_get_within given (last + 1 - 1) its.message its.given in
    let of_group : spri_in x.s.config.grouping its.message ≡ g.spri = (is_given x.s.config g.spri x.chain its.message (has-slice_get given (last + 1 - 1) its.message its.given)).1 in
    let small : g.spri < 192 = omega (arith, of_group, spris x.s.config.grouping its.message (grouping_of x.s.config w.case.chain.setting.fit.config)) in
    let there : Contains (keys (rows_in x)) (own_number x g.spri first)
    = numbers x w g.spri first small hole.some_first (omega (arith, within, hole.some_number)) in
    let here : Has (keys (rows_in x)) (record { session = s; group = g; number = first })
    = subst (λ (k : Key). Has (keys (rows_in x)) k) (λ i. record { session = sym own i; group = record { sg = sym its.group i; spri = g.spri }; number = first }) (has_from_contains (keys (rows_in x)) _ there) in
    hole.unannounced first (omega arith) hole.some_number (announced_key (says x) (blocks (notes x.log)) (record { session = s; group = g; number = first }) here)
