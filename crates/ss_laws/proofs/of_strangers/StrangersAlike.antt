-- A session that a given payload claims is reported alike where strangers added messages.
use Rattle.std.proofs.Common.{◌≡◌, ℕ, Bool, true, List, map, filter, refl, sym, ◌∙◌, subst, arith}
use Rattle.std.specs.List.{Contains}
use Rattle.std.proofs.lemmas.Cmp.{nat_cmp_total}
use Rattle.std.proofs.lemmas.Map.Lookups.{exact_unsigned}
use Rattle.ss_block.specs.Block as block
use Rattle.ss_block.specs.declared.session.Session.{Session}
use Rattle.ss_block.specs.OrderLaws.{session_cmp_total, session_cmp_exact}
use Rattle.ss_review.specs.declared.counted.counter.Counter.{Counter}
use Rattle.ss_review.specs.keep.BlockMessage.{BlockMessage, BlockContent, Hashes, Fragment}
use Rattle.ss_review.specs.announced.Announced.{Key, keys, rows}
use Rattle.ss_review.specs.counted.Counted.{gbc_said, gbcs_said, gbcs, missing}
use Rattle.ss_review.specs.counted.Kept.{counters_of, end_of_blocks, shortfall}
use Rattle.ss_review.specs.keep.Contents.{Contents}
use Rattle.ss_review.specs.report.Entries.{keys_in}
use Rattle.ss_review.specs.report.Report.{session_report, report_of}
use Rattle.ss_review.specs.sessions.Sessions.{same_session, sessions, of_session}
use Rattle.ss_review.specs.sessions.Verified.{Answers, state_in, is_verified}
use Rattle.ss_octets.proofs.Members.{Has, contains_from_has, has-map, has-filter, from_has-filter, has-flat_map, from_has-flat_map}
use Rattle.ss_review.proofs.of_lists.FilteredAlike.{same_kept}
use Rattle.ss_review.proofs.of_lists.Rising.{has-in_order, in_order_same}
use Rattle.ss_review.proofs.of_lists.TotalOrders.{key_cmp_total}
use Rattle.ss_review.proofs.of_numbers.Announcements.{keys-rise}
use Rattle.ss_review.specs.pinned.Pinned.{keeps, kept, pinned_contents, pinned_report}
use Rattle.ss_review.specs.pinned.Claimants.{IsClaimant}
use Rattle.ss_laws.specs.strangers.Strangers.{IsAddedTo, session_in, gbcs_in, without_places, group_without_places, StrangersTakeNothing, StrangersAddNothing}
use Rattle.ss_laws.proofs.of_strangers.AlikeNumbers.{same_groups, same_tails}
use Rattle.ss_review.proofs.of_pinned.Claims.{some_octet}
use Rattle.ss_review.proofs.of_pinned.KeptOfSessions.{session_is, is_session, claims_of, speaker_kept}
use Rattle.ss_laws.proofs.of_strangers.MoreBlocks.{K, L, rs, rs_more, IsSame, HasCopy, claimed_stays, claimant_up, verified_still, verified_before, key_before, key_still, same_hashes}
use Rattle.ss_laws.proofs.of_strangers.ReportsAgree.{has-kept}
use Rattle.ss_laws.proofs.of_strangers.StrangersListings.{listed_still, listed_anew}

-- ---- the session is in the report

session_there : (says : Answers) (ps : List (List ℕ)) (bs : List BlockMessage) (s : Session) (p : List ℕ) → IsClaimant says ps (of_session bs s) p → Has (sessions (kept says ps bs)) s
session_there says ps bs s p c =
    let own = of_session bs s in
    let its = claims_of says ps own p c in
    let o = its.spoken 1 (omega arith) (some_octet p its.block_is) in
    let i = from_has-filter (λ (d : BlockMessage). same_session d.session s) bs o.message o.stored in
    let same : o.message.session ≡ s = session_is o.message.session s i.1 in
    let k = has-kept says ps bs o.message i.0 (subst (λ t. keeps says ps (of_session bs t) o.message ≡ true) (sym same) (speaker_kept says ps own p c o.message o.speaks)) in
    has-in_order session_cmp_total session_cmp_exact s (map (λ (b : BlockMessage). b.session) (kept says ps bs))
    (subst (Has (map (λ (b : BlockMessage). b.session) (kept says ps bs))) same (has-map (λ (b : BlockMessage). b.session) (kept says ps bs) o.message k))

session_told : (says : Answers) (ps : List (List ℕ)) (log : Contents) (s : Session) (p : List ℕ) → IsClaimant says ps (of_session log.blocks s) p → Contains (pinned_report says ps log).sessions (session_in says ps log s)
unfolding report_of
session_told says ps log s p c =
    let told = session_report says (pinned_contents says ps log) (rows says (kept says ps log.blocks)) in
    let ss = sessions (kept says ps log.blocks) in
    contains_from_has (map told ss) (told s) (has-map told ss s (session_there says ps log.blocks s p c))

-- ---- what it says

said_gbc : (said : BlockContent) (n : ℕ) → Has (gbc_said said) n → (d : block.Signature) × (said ≡ Hashes d)
said_gbc (Hashes d) n h = (d, refl)
said_gbc (Fragment c) n h = absurd h

module _ (says : Answers) (ps : List (List ℕ)) (log more : Contents) (is : IsAddedTo says ps log more) (s : Session) (same : IsSame says ps log more is s) where
  abbrev old : List BlockMessage
  old = K says ps log more is

  abbrev new : List BlockMessage
  new = L says ps log more is

  abbrev mine : Key → Bool
  mine k = same_session k.session s

  own_same : (t : Session) → t ≡ s → IsSame says ps log more is t
  own_same t e = subst (IsSame says ps log more is) (sym e) same

  same_keys : keys_in (rs_more says ps log more is) s ≡ keys_in (rs says ps log more is) s
  same_keys =
      same_kept key_cmp_total mine mine (keys (rs_more says ps log more is)) (keys (rs says ps log more is)) (keys-rise (rs_more says ps log more is)) (keys-rise (rs says ps log more is))
      (λ k h e. ((key_before says ps log more is k h).0, e))
      (λ k h e. (key_still says ps log more is k (own_same k.session (session_is k.session s e)) h, e))

  groups_alike : map group_without_places (session_in says ps more s).groups ≡ map group_without_places (session_in says ps log s).groups
  groups_alike =
      same_groups log.normal more.normal (rs says ps log more is) (rs_more says ps log more is) s same_keys
      (λ k h own. same_hashes says ps log more is k (own_same k.session own))

  pub numbers_alike : without_places (session_in says ps more s) ≡ without_places (session_in says ps log s)
  numbers_alike = λ i. record { session = s; state = state_in (same i); groups = groups_alike i }

  -- ---- the GBC of its blocks

  unfoldable of : List BlockMessage → List BlockMessage
  of bs = filter (is_verified says bs) (of_session bs s)

  gbc_in : (bs ds : List BlockMessage) → ((b : BlockMessage) (said : block.Signature) → Has bs b → b.session ≡ s → b.said ≡ Hashes said → is_verified says bs b ≡ true → HasCopy says ps log more is ds b)
      → (n : ℕ) → Has (gbcs_said (of bs)) n → Has (gbcs_said (of ds)) n
  unfolding of
  gbc_in bs ds there n h =
      let w = from_has-flat_map (λ (b : BlockMessage). gbc_said b.said) (of bs) n h in
      let b : BlockMessage = w.0 in
      let f = from_has-filter (is_verified says bs) (of_session bs s) b w.1 in
      let g = from_has-filter (λ (d : BlockMessage). same_session d.session s) bs b f.0 in
      let d = said_gbc b.said n w.2 in
      let own : b.session ≡ s = session_is b.session s g.1 in
      let c = there b d.0 g.0 own d.1 f.1 in
      has-flat_map (λ (b : BlockMessage). gbc_said b.said) (of ds) c.copy n
      (has-filter (is_verified says ds) (of_session ds s) c.copy
      (has-filter (λ (d : BlockMessage). same_session d.session s) ds c.copy c.stored (is_session c.copy.session s (sym c.copies.session ∙ own))) c.verified)
      (subst (λ said. Has (gbc_said said) n) c.copies.said w.2)

  pub gbcs_alike : gbcs_in says ps more s ≡ gbcs_in says ps log s
  unfolding gbcs of
  gbcs_alike =
      in_order_same nat_cmp_total exact_unsigned (gbcs_said (of new)) (gbcs_said (of old))
      (gbc_in new old (λ b said h own says_so v. (verified_before says ps log more is b said h says_so v).copy))
      (gbc_in old new (λ b said h own says_so v. verified_still says ps log more is b said (own_same b.session own) h says_so v))

  -- ---- what is missing of it

  pub missing_alike : (cs : List Counter) → shortfall cs s (session_in says ps more s).groups (gbcs_in says ps more s) ≡ shortfall cs s (session_in says ps log s).groups (gbcs_in says ps log s)
  missing_alike cs =
      let own = counters_of cs s in
      let tails = same_tails own (session_in says ps more s).groups (session_in says ps log s).groups groups_alike in
      let values = gbcs_alike in
      λ i. record { session = s; tails = tails i; blocks = missing (values i) (end_of_blocks own (values i)) }

-- ---- laws

pub take_nothing : StrangersTakeNothing
take_nothing says ps log more is s p c =
    let same = claimed_stays says ps log more is s p c in
    record {
      told = session_told says ps log s p c;
      told_still = session_told says ps more s p (claimant_up says ps log more is s p c);
      payload = same;
      numbers = numbers_alike says ps log more is s same;
      gbcs_are = gbcs_alike says ps log more is s same;
      missing = missing_alike says ps log more is s same;
      listed = λ k place own l. listed_still says ps log more is k place (subst (IsSame says ps log more is) (sym own) same) l;
    }

pub add_nothing : StrangersAddNothing
add_nothing says ps log more is claimed k place g l = listed_anew says ps log more is claimed k place g l
