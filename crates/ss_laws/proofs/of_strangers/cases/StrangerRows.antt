-- The small logs into which strangers wrote meet the premises of the laws.
use Rattle.std.proofs.Common.{◌≡◌, ◌⊎◌, inl, inr, ℕ, ◌+◌, ◌≤◌, Bool, true, false, cond, List, [], ◌∷◌, length, refl, sym, ap, ◌∙◌, subst, arith}
use Rattle.std.specs.Prelude.{Ok, Err, ◌&&◌, nat_le}
use Rattle.std.specs.List.{Contains, list_all}
use Rattle.std.specs.Str.{bytes_eq}
use Rattle.std.proofs.lemmas.Bool.{cases_Bool, and_parts, leb-true, true≢false}
use Rattle.std.proofs.lemmas.Slice.Eq.{bytes_eq-Decides}
use Rattle.ss_block.specs.Block as block
use Rattle.ss_block.specs.declared.hash.Hash.{Hash}
use Rattle.ss_block.specs.declared.hash.Hash.TheVariants as hashes
use Rattle.ss_block.specs.declared.hash.HashPair.{HashPair}
use Rattle.ss_block.specs.declared.session.Session.{Session}
use Rattle.ss_block.specs.PayloadReading.{stamp_in, stamp_and_rest_in, blob_in, payload_in}
use Rattle.ss_octets.specs.Cut.{parts_at}
use Rattle.ss_review.specs.keep.BlockMessage.{BlockMessage, BlockContent, Hashes, Fragment}
use Rattle.ss_review.specs.declared.keep.message.NormalMessage.{NormalMessage}
use Rattle.ss_review.specs.declared.report.session_report.SessionState.TheVariants as states
use Rattle.ss_review.specs.assign.Assigned.{has_hash, places_with}
use Rattle.ss_review.specs.declared.report.entry.Entry.{Entry}
use Rattle.ss_review.specs.declared.report.entry.Entry.TheVariants as entry
use Rattle.ss_review.specs.declared.report.entry.Why.TheVariants as whys
use Rattle.ss_review.specs.declared.report.report.Report.{Report}
use Rattle.ss_review.specs.declared.report.session_report.SessionState.{SessionState}
use Rattle.ss_review.specs.keep.Contents.{Contents}
use Rattle.ss_review.specs.report.Meaning.{Tells}
use Rattle.ss_review.specs.report.Rows.{first, second, message, group_told, whole_log}
use Rattle.ss_review.specs.sessions.Payloads.{certificates, is_disputed, cover}
use Rattle.ss_review.specs.sessions.Sessions.{same_session, of_session}
use Rattle.ss_review.specs.sessions.Verified.{joined}
use Rattle.ss_octets.proofs.Members.{Has, has_from_contains, contains_from_has}
use Rattle.ss_review.proofs.of_kept_messages.NormalCounts.{length-places_with}
use Rattle.ss_review.proofs.of_lists.Keyed.{has-slice_get}
use Rattle.ss_review.proofs.of_lists.Tests.{all_member}
use Rattle.ss_review.proofs.of_sessions.Verifying.{unstated}
use Rattle.ss_review.specs.pinned.Pinned.{claims, kept, pinned_report}
use Rattle.ss_laws.specs.strangers.StateLaws.{pinned_joined, IsUndisputedOrUnclaimed}
use Rattle.ss_review.specs.pinned.Claimants.{AreWithin, IsClaimant, IsUnclaimed, IsOnlyClaimant, AreClaimants}
use Rattle.ss_laws.specs.strangers.Strangers.{AreCopies, IsForeign, AnnouncedTellPairs, IsAddedTo, JoinedAreClaimed, HasMoreOf}
use Rattle.ss_laws.specs.strangers.cases.StrangerRows.{here, elsewhere, payload, other_payload, wary, stated, two_announced, told_of, strangers_log, strangers_report, robbed_log, robbed_report, second_number, two_claimants_blocks, two_sessions_log, PremisesAreMet}
use Rattle.ss_review.proofs.of_pinned.KeptOfSessions.{session_is}
use Rattle.ss_laws.proofs.of_strangers.ReportsAgree.{from_has-kept}

-- ---- who claims

one_given : (q : List ℕ) → Has (payload ∷ []) q → payload ≡ q
one_given q (inl e) = e
one_given q (inr h) = absurd h

own_claims : (bs : List BlockMessage) → claims wary payload bs ≡ true → IsOnlyClaimant wary (payload ∷ []) bs payload
own_claims bs e = record {
  is = record { given = contains_from_has (payload ∷ []) payload (inl refl); claims_it = e };
  only = λ q c. sym (one_given q (has_from_contains (payload ∷ []) q c.given));
}

claims_strangers : claims wary payload (of_session strangers_log.blocks here) ≡ true
unfolding claims cover parts_at stamp_in stamp_and_rest_in blob_in payload_in
claims_strangers = refl

-- the blocks of a log without strangers, at these places
abbrev own_blocks : ℕ → ℕ → List BlockMessage
own_blocks i j = stated i here payload ∷ two_announced j ∷ []

claims_whole : (i j : ℕ) → claims wary payload (of_session (own_blocks i j) here) ≡ true
unfolding claims cover parts_at stamp_in stamp_and_rest_in blob_in payload_in
claims_whole i j = refl

claims_first : claims wary payload (of_session two_claimants_blocks here) ≡ true
unfolding claims cover parts_at stamp_in stamp_and_rest_in blob_in payload_in
claims_first = refl

claims_second : claims wary other_payload (of_session two_claimants_blocks here) ≡ true
unfolding claims cover parts_at stamp_in stamp_and_rest_in blob_in payload_in
claims_second = refl

claims_elsewhere : claims wary payload (of_session two_sessions_log.blocks elsewhere) ≡ false
unfolding claims cover parts_at stamp_in stamp_and_rest_in blob_in payload_in
claims_elsewhere = refl

unclaimed : IsUnclaimed wary (payload ∷ []) (of_session two_sessions_log.blocks elsewhere)
unclaimed p c =
    let own = one_given p (has_from_contains (payload ∷ []) p c.given) in
    true≢false (sym c.claims_it ∙ ap (λ q. claims wary q (of_session two_sessions_log.blocks elsewhere)) (sym own) ∙ claims_elsewhere)

two_lengths : payload ≡ other_payload → ⊥
two_lengths e = let long : 3 ≡ 4 = ap length e in omega (arith, long)

two_claim : AreClaimants wary (payload ∷ other_payload ∷ []) (of_session two_claimants_blocks here) payload other_payload
two_claim = record {
  first = record { given = contains_from_has (payload ∷ other_payload ∷ []) payload (inl refl); claims_it = claims_first };
  second = record { given = contains_from_has (payload ∷ other_payload ∷ []) other_payload (inr (inl refl)); claims_it = claims_second };
  differ = two_lengths;
}

-- ---- a log without strangers

abbrev of_whole : Bool → List BlockMessage
of_whole b = cond b (stated 2 here payload ∷ cond b (two_announced 3 ∷ []) []) (cond b (two_announced 3 ∷ []) [])

nothing_disputed : (b : Bool) → is_disputed (certificates (of_whole b)) ≡ false
unfolding is_disputed
nothing_disputed true = refl
nothing_disputed false = refl

undisputed : (s : Session) → IsUndisputedOrUnclaimed wary (payload ∷ []) whole_log.blocks s
undisputed s = inl (nothing_disputed (same_session here s))

none_of : (bs : List BlockMessage) → ((b : BlockMessage) → Has bs b → b.session ≡ here) → (s : Session) → same_session here s ≡ false → of_session bs s ≡ []
none_of [] all s f = refl
none_of (b ∷ bs) all s f =
    ap (λ t. cond t (b ∷ of_session bs s) (of_session bs s)) (ap (λ o. same_session o s) (all b (inl refl)) ∙ f)
    ∙ none_of bs (λ d h. all d (inr h)) s f

unfoldable fits : BlockContent → Bool
fits (Hashes b) = true
fits (Fragment c) = nat_le 1 c.index && nat_le (c.index + length c.fragment) (c.total + 1)

fit_within : (bs : List BlockMessage) → list_all (λ b. fits b.said) bs ≡ true → AreWithin bs
unfolding fits
fit_within bs all b c h said =
    let own : fits b.said ≡ true = all_member (λ (d : BlockMessage). fits d.said) bs all b (has_from_contains bs b h) in
    let both = and_parts (nat_le 1 c.index) (nat_le (c.index + length c.fragment) (c.total + 1)) (sym (ap fits said) ∙ own) in
    (leb-true 1 c.index both.0, leb-true (c.index + length c.fragment) (c.total + 1) both.1)

own_within : (i j : ℕ) → AreWithin (own_blocks i j)
unfolding fits
own_within i j = fit_within (own_blocks i j) refl

strangers_within : AreWithin strangers_log.blocks
unfolding fits
strangers_within = fit_within strangers_log.blocks refl

claimants_within : AreWithin two_claimants_blocks
unfolding fits
claimants_within = fit_within two_claimants_blocks refl

unclaimed_within : AreWithin two_sessions_log.blocks
unfolding fits
unclaimed_within = fit_within two_sessions_log.blocks refl

abbrev said_hashes : BlockContent → List Hash
said_hashes (Hashes b) = b.hashes
said_hashes (Fragment c) = []

-- each message has its second hash by its first one
unfoldable pair_by : List ℕ → HashPair
pair_by [] = first
pair_by (n ∷ ns) = record { sha1 = n ∷ ns; sha256 = (n + 100) ∷ [] }

by_first : (m : NormalMessage) → Has strangers_log.normal m → m.pair ≡ pair_by m.pair.sha1
unfolding pair_by
by_first m (inl e) = subst (λ (n : NormalMessage). n.pair ≡ pair_by n.pair.sha1) e refl
by_first m (inr (inl e)) = subst (λ (n : NormalMessage). n.pair ≡ pair_by n.pair.sha1) e refl
by_first m (inr (inr (inl e))) = subst (λ (n : NormalMessage). n.pair ≡ pair_by n.pair.sha1) e refl
by_first m (inr (inr (inr (inl e)))) = subst (λ (n : NormalMessage). n.pair ≡ pair_by n.pair.sha1) e refl
by_first m (inr (inr (inr (inr h)))) = absurd h

-- what is announced is a SHA-1
one_of_two : (h : Hash) → Has (hashes.Sha1 (1 ∷ []) ∷ hashes.Sha1 (2 ∷ []) ∷ []) h → (octets : List ℕ) × (h ≡ hashes.Sha1 octets)
one_of_two h (inl e) = (1 ∷ [], sym e)
one_of_two h (inr (inl e)) = (2 ∷ [], sym e)
one_of_two h (inr (inr i)) = absurd i

module _ (i j : ℕ) where
  abbrev own : List BlockMessage
  own = own_blocks i j

  of_here : (b : BlockMessage) → Has own b → b.session ≡ here
  of_here b (inl e) = sym (ap (λ (d : BlockMessage). d.session) e)
  of_here b (inr (inl e)) = sym (ap (λ (d : BlockMessage). d.session) e)
  of_here b (inr (inr h)) = absurd h

  joined_here : (s : Session) (p : List ℕ) → pinned_joined wary (payload ∷ []) own s ≡ Ok p → here ≡ s
  joined_here s p e =
      elim (cases_Bool (same_session here s)) [
        | inl t ↦ session_is here s t
        | inr f ↦ absurd (
            let none : of_session (kept wary (payload ∷ []) own) s ≡ [] = none_of (kept wary (payload ∷ []) own) (λ b h. of_here b (from_has-kept wary (payload ∷ []) own b h).0) s f in
            let no : Err states.Incomplete ≡ Ok p = sym (unstated wary) ∙ ap (joined wary) (sym none) ∙ e in
            cc)
      ]

  joined_claimed : JoinedAreClaimed wary (payload ∷ []) own
  joined_claimed s p e =
      let at = joined_here s p e in
      (payload, subst (λ t. IsClaimant wary (payload ∷ []) (of_session own t) payload) at (own_claims (of_session own here) (claims_whole i j)).is)

  -- ---- what strangers added

  abbrev Stays : BlockMessage → Type 0
  Stays b = (c : BlockMessage) × Contains strangers_log.blocks c × AreCopies b c

  abbrev Added : BlockMessage → Type 0
  Added c = ((b : BlockMessage) × Contains own b × AreCopies b c) ⊎ IsForeign wary c

  abbrev there : (c : BlockMessage) → Has strangers_log.blocks c → Contains strangers_log.blocks c
  there c h = contains_from_has strangers_log.blocks c h

  abbrev past : (b : BlockMessage) → Has own b → Contains own b
  past b h = contains_from_has own b h

  stays : (b : BlockMessage) → Has own b → Stays b
  stays b (inl e) = subst Stays e (stated 3 here payload, there (stated 3 here payload) (inr (inl refl)), record { session = refl; said = refl; signed = refl })
  stays b (inr (inl e)) = subst Stays e (two_announced 5, there (two_announced 5) (inr (inr (inl refl))), record { session = refl; said = refl; signed = refl })
  stays b (inr (inr h)) = absurd h

  added : (c : BlockMessage) → Has strangers_log.blocks c → Added c
  added c (inl e) = subst Added e (inr (λ p t. refl))
  added c (inr (inl e)) = subst Added e (inl (stated i here payload, past (stated i here payload) (inl refl), record { session = refl; said = refl; signed = refl }))
  added c (inr (inr (inl e))) = subst Added e (inl (two_announced j, past (two_announced j) (inr (inl refl)), record { session = refl; said = refl; signed = refl }))
  added c (inr (inr (inr (inl e)))) = subst Added e (inl (two_announced j, past (two_announced j) (inr (inl refl)), record { session = refl; said = refl; signed = refl }))
  added c (inr (inr (inr (inr (inl e))))) = subst Added e (inr (λ p t. refl))
  added c (inr (inr (inr (inr (inr h))))) = absurd h

  announced_of : (b : BlockMessage) → Has own b → (said : block.Signature) → b.said ≡ Hashes said → (h : Hash) → Has said.hashes h → (octets : List ℕ) × (h ≡ hashes.Sha1 octets)
  announced_of b (inl e) said says_so h k = let no = ap (λ (d : BlockMessage). d.said) e ∙ says_so in absurd (cc)
  announced_of b (inr (inl e)) said says_so h k = one_of_two h (subst (λ c. Has (said_hashes c) h) (sym (ap (λ (d : BlockMessage). d.said) e ∙ says_so)) k)
  announced_of b (inr (inr n)) said says_so h k = absurd n

  pairs : AnnouncedTellPairs wary (kept wary (payload ∷ []) own) strangers_log.normal
  pairs k h m n a c d s t =
      let ks = kept wary (payload ∷ []) own in
      let w = announced_of a.message (from_has-kept wary (payload ∷ []) own a.message (has_from_contains ks a.message a.stored)).0 a.said a.says_so h (has-slice_get a.said.hashes a.index h a.hash) in
      let of_m : bytes_eq m.pair.sha1 w.0 ≡ true = ap (λ g. has_hash g m.pair) (sym w.1) ∙ s in
      let of_n : bytes_eq n.pair.sha1 w.0 ≡ true = ap (λ g. has_hash g n.pair) (sym w.1) ∙ t in
      by_first m (has_from_contains strangers_log.normal m c)
      ∙ ap pair_by ((bytes_eq-Decides m.pair.sha1 w.0).0 of_m ∙ sym ((bytes_eq-Decides n.pair.sha1 w.0).0 of_n))
      ∙ sym (by_first n (has_from_contains strangers_log.normal n d))

  is_added : (log : Contents) → log.blocks ≡ own → ((p : HashPair) → length (places_with log.normal p) ≤ length (places_with strangers_log.normal p)) → IsAddedTo wary (payload ∷ []) log strangers_log
  is_added log blocks_are as_many = record {
    within = subst AreWithin (sym blocks_are) (own_within i j);
    more_within = strangers_within;
    has_more = record {
      stays = λ b h. stays b (subst (λ bs. Has bs b) blocks_are (has_from_contains log.blocks b h));
      added = λ c h. subst (λ bs. ((b : BlockMessage) × Contains bs b × AreCopies b c) ⊎ IsForeign wary c) (sym blocks_are) (added c (has_from_contains strangers_log.blocks c h));
      messages = as_many;
    };
    pairs = subst (λ bs. AnnouncedTellPairs wary (kept wary (payload ∷ []) bs) strangers_log.normal) (sym blocks_are) pairs;
  }

as_many : (p : HashPair) → length (places_with whole_log.normal p) ≤ length (places_with strangers_log.normal p)
as_many p =
    let old = length-places_with whole_log.normal p in
    let new = length-places_with strangers_log.normal p in
    omega (arith, old, new)

as_many_again : (p : HashPair) → length (places_with robbed_log.normal p) ≤ length (places_with strangers_log.normal p)
as_many_again p =
    let old = length-places_with robbed_log.normal p in
    let new = length-places_with strangers_log.normal p in
    omega (arith, old, new)

-- ---- the message that strangers added

-- what a report of one session and one group tells
told_of_two : (r : Report) (state : SessionState) (es : List Entry) → told_of here state es ∷ [] ≡ r.sessions → (e : Entry) → Has es e → Tells r here second_number.group e
told_of_two r state es same e h = record {
  session = told_of here state es;
  session_told = subst (λ ts. Contains ts (told_of here state es)) same (contains_from_has (told_of here state es ∷ []) (told_of here state es) (inl refl));
  session_is = refl;
  group = _;
  group_told = contains_from_has (group_told es ∷ []) (group_told es) (inl refl);
  group_is = refl;
  entry_told = contains_from_has es e h;
}

pub premises_met : pinned_report wary (payload ∷ []) robbed_log ≡ robbed_report → pinned_report wary (payload ∷ []) strangers_log ≡ strangers_report → PremisesAreMet
premises_met robbed ended = record {
  only_claimant = own_claims (of_session strangers_log.blocks here) claims_strangers;
  only_before = own_claims (of_session whole_log.blocks here) (claims_whole 2 3);
  two_within = claimants_within;
  claimants = two_claim;
  unclaimed_within = unclaimed_within;
  unclaimed = unclaimed;
  undisputed = undisputed;
  added = is_added 2 3 whole_log refl as_many;
  claimed = joined_claimed 2 3;
  added_again = is_added 1 2 robbed_log refl as_many_again;
  claimed_again = joined_claimed 1 2;
  missing = told_of_two (pinned_report wary (payload ∷ []) robbed_log) states.Joined (entry.Listed 1 0 ∷ entry.Gap 2 whys.Lost ∷ []) (ap (λ (r : Report). r.sessions) (sym robbed)) (entry.Gap 2 whys.Lost) (inr (inl refl));
  listed_again = told_of_two (pinned_report wary (payload ∷ []) strangers_log) states.Joined (entry.Listed 1 1 ∷ entry.Listed 2 4 ∷ []) (ap (λ (r : Report). r.sessions) (sym ended)) (entry.Listed 2 4) (inr (inl refl));
}

-- no message of the robbed log has the hashes of the one that was added, and one of the other log has
pub given_back : HasMoreOf robbed_log strangers_log 4
unfolding places_with
given_back = record {
  message = message 4 second;
  stored = contains_from_has strangers_log.normal (message 4 second) (inr (inr (inl refl)));
  place_is = refl;
  as_many = omega arith;
}
