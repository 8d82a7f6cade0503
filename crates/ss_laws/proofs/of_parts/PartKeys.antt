-- The numbers of a session of a part, with the hashes and groups, are those of the whole.
use Rattle.std.proofs.Common.{◌≡◌, ℕ, true, List, length, map, filter, sym, ap, subst}
use Rattle.std.specs.Prelude.{nat_lt}
use Rattle.std.specs.Cmp.{Equal-is}
use Rattle.ss_block.specs.declared.block.Group.{Group}
use Rattle.ss_block.specs.declared.session.Session.{Session}
use Rattle.ss_block.specs.Order.{group_cmp}
use Rattle.ss_review.specs.keep.BlockMessage.{BlockMessage}
use Rattle.ss_review.specs.Ordered.{in_order}
use Rattle.ss_review.specs.sessions.Sessions.{same_session}
use Rattle.ss_review.specs.sessions.Verified.{Answers}
use Rattle.ss_review.specs.announced.Announced.{Key, Row, key_cmp, same_key, rows, keys, hashes_for, is_disputed_key}
use Rattle.ss_review.specs.report.Entries.{same_group, keys_in, group_keys}
use Rattle.ss_review.specs.report.Report.{groups}
use Rattle.ss_laws.specs.parts.Parts.{blocks_of, SessionsStayWhole}
use Rattle.ss_octets.proofs.Members.{Has}
use Rattle.ss_review.proofs.of_numbers.Announcements.{announced_row, has-rows, rows-rise, keys-rise, announced_key, has-announced_key}
use Rattle.ss_review.proofs.of_lists.FilteredAlike.{same_kept}
use Rattle.ss_laws.proofs.of_parts.PartBlocks.{IsOwn, announced_up, announced_here, announced_own}
use Rattle.ss_review.proofs.of_lists.TotalOrders.{key_cmp_total, key_cmp_exact, row_cmp_total}
use Rattle.ss_review.proofs.of_pinned.KeptOfSessions.{session_is}

key_is : (j k : Key) → same_key j k ≡ true → j ≡ k
key_is j k e = key_cmp_exact j k ((Equal-is (key_cmp j k)).0 e)

module _ (part : ℕ → ℕ) (bs : List BlockMessage) (k : ℕ) (whole : SessionsStayWhole part bs) (says : Answers) where
  abbrev pub all_rows : List Row
  all_rows = rows says bs

  abbrev pub own_rows : List Row
  own_rows = rows says (blocks_of part k bs)

  -- ---- keys

  pub key_up : (j : Key) → Has (keys own_rows) j → Has (keys all_rows) j
  key_up j h =
      let a = announced_key says (blocks_of part k bs) j h in
      has-announced_key says bs j (a.0, announced_up part bs k whole says j a.0 a.1)

  pub key_own : (j : Key) → Has (keys own_rows) j → IsOwn part bs k j.session
  key_own j h =
      let a = announced_key says (blocks_of part k bs) j h in
      announced_own part bs k whole says j a.0 a.1

  pub key_here : (j : Key) → IsOwn part bs k j.session → Has (keys all_rows) j → Has (keys own_rows) j
  key_here j i h =
      let a = announced_key says bs j h in
      has-announced_key says (blocks_of part k bs) j (a.0, announced_here part bs k whole says j a.0 i a.1)

  pub same_keys : (s : Session) → IsOwn part bs k s → keys_in own_rows s ≡ keys_in all_rows s
  same_keys s i =
      same_kept key_cmp_total (λ (j : Key). same_session j.session s) (λ (j : Key). same_session j.session s) (keys own_rows) (keys all_rows)
      (keys-rise own_rows) (keys-rise all_rows)
      (λ j h t. (key_up j h, t))
      (λ j h t. (key_here j (subst (IsOwn part bs k) (sym (session_is j.session s t)) i) h, t))

  pub same_groups : (s : Session) → IsOwn part bs k s → groups own_rows s ≡ groups all_rows s
  same_groups s i = ap (λ ks. in_order group_cmp (map (λ (j : Key). j.group) ks)) (same_keys s i)

  pub same_group_keys : (s : Session) (g : Group) → IsOwn part bs k s → group_keys own_rows s g ≡ group_keys all_rows s g
  unfolding group_keys
  same_group_keys s g i = ap (filter (λ (j : Key). same_group j.group g)) (same_keys s i)

  -- ---- what is announced for them

  pub same_hashes : (j : Key) → IsOwn part bs k j.session → hashes_for own_rows j ≡ hashes_for all_rows j
  same_hashes j i =
      ap (map (λ (r : Row). r.hash))
      (same_kept row_cmp_total (λ (r : Row). same_key r.key j) (λ (r : Row). same_key r.key j) own_rows all_rows
      (rows-rise says (blocks_of part k bs)) (rows-rise says bs)
      (λ r h t. (has-rows says bs r.key r.hash (announced_up part bs k whole says r.key r.hash (announced_row says (blocks_of part k bs) r h)), t))
      (λ r h t. (has-rows says (blocks_of part k bs) r.key r.hash (announced_here part bs k whole says r.key r.hash (subst (λ (q : Key). IsOwn part bs k q.session) (sym (key_is r.key j t)) i) (announced_row says bs r h)), t)))

  pub same_dispute : (j : Key) → IsOwn part bs k j.session → is_disputed_key own_rows j ≡ is_disputed_key all_rows j
  same_dispute j i = ap (λ hs. nat_lt 1 (length hs)) (same_hashes j i)
