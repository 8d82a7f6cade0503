-- The values of a session are those of its verified signature blocks, and what comes next is behind them all.
use Rattle.std.proofs.Common.{◌≡◌, inl, inr, ℕ, ◌+◌, true, List, map, filter, flat_map, refl, sym, ap, ◌∙◌, subst, arith}
use Rattle.std.specs.Prelude.{Contains}
use Rattle.std.specs.Ordering.{nat_cmp, is_eq}
use Rattle.std.specs.Cmp.{Equal-is}
use Rattle.std.specs.List.Sorted.{IsStrictlySortedBy}
use Rattle.std.proofs.lemmas.Cmp.{tied_itself, nat_cmp_total}
use Rattle.std.proofs.lemmas.List.Elements.{All-contains}
use Rattle.std.proofs.lemmas.Map.Lookups.{exact_unsigned}
use Rattle.ss_block.specs.declared.session.Session.{Session}
use Rattle.ss_block.specs.Order.{session_cmp, group_cmp}
use Rattle.ss_block.specs.OrderLaws.{session_cmp_total, session_cmp_exact, group_cmp_total, group_cmp_exact}
use Rattle.ss_review.specs.keep.BlockMessage.{BlockMessage, BlockContent, Hashes, Fragment}
use Rattle.ss_review.specs.declared.report.entry.Entry.{Entry}
use Rattle.ss_review.specs.declared.report.entry.Entry.TheVariants as entry
use Rattle.ss_review.specs.declared.report.group_report.GroupReport.{GroupReport}
use Rattle.ss_review.specs.declared.report.report.Report.{Report}
use Rattle.ss_review.specs.declared.report.session_report.SessionReport.{SessionReport}
use Rattle.ss_review.specs.keep.Notes.{notes}
use Rattle.ss_review.specs.keep.Contents.{blocks}
use Rattle.ss_review.specs.sessions.Sessions.{same_session, of_session}
use Rattle.ss_review.specs.sessions.Verified.{Answers, is_verified}
use Rattle.ss_review.specs.announced.Announced.{Key}
use Rattle.ss_review.specs.announced.Announcing.{IsAnnounced}
use Rattle.ss_review.specs.report.Meaning.{Tells}
use Rattle.ss_review.specs.report.Report.{report}
use Rattle.ss_review.specs.Laws.{AnnouncedAreTold, ReportsAreInOrder}
use Rattle.ss_review.specs.counted.Counted.{gbc_said, gbcs_said, gbcs, next_after, number_announced, next_number}
use Rattle.ss_review.specs.counted.CountedLaws.{IsCounted, IsNext, CountedAreVerified, CountedOrMissing, NextGbcFollows, NextNumbersFollow}
use Rattle.ss_octets.proofs.Members.{Has, has-map, has_from_contains, contains_from_has, from_has-map, has-filter, from_has-filter, has-flat_map, from_has-flat_map}
use Rattle.ss_review.proofs.of_reports.EntriesMeant.{greatest_of}
use Rattle.ss_review.proofs.of_reports.EntriesRise.{fold_max-member}
use Rattle.ss_review.proofs.of_lists.Keyed.{one_of_key}
use Rattle.ss_review.proofs.of_counters.MissingRuns.{are_missing}
use Rattle.ss_review.proofs.of_lists.Rising.{rises-in_order, has-in_order, from_has-in_order}

-- ---- the values of a session

gbcs_rise : (says : Answers) (bs : List BlockMessage) (s : Session) → IsStrictlySortedBy nat_cmp (gbcs says bs s)
unfolding gbcs
gbcs_rise says bs s = rises-in_order nat_cmp_total exact_unsigned (gbcs_said (filter (is_verified says bs) (of_session bs s)))

counted_said : (says : Answers) (bs : List BlockMessage) (s : Session) (gbc : ℕ) (b : BlockMessage) → Has bs b → b.session ≡ s → is_verified says bs b ≡ true → (said : BlockContent) → b.said ≡ said → Has (gbc_said said) gbc → IsCounted says bs s gbc
counted_said says bs s gbc b h same v (Fragment c) e i = absurd i
counted_said says bs s gbc b h same v (Hashes d) e (inr i) = absurd i
counted_said says bs s gbc b h same v (Hashes d) e (inl is) = record {
  message = b;
  stored = contains_from_has bs b h;
  session_is = same;
  verified = v;
  said = d;
  says_so = e;
  gbc_is = is;
}

counted : (says : Answers) (bs : List BlockMessage) (s : Session) (gbc : ℕ) → Has (gbcs says bs s) gbc → IsCounted says bs s gbc
unfolding gbcs
counted says bs s gbc h =
    let own = of_session bs s in
    let w : (b : BlockMessage) × Has (filter (is_verified says bs) own) b × Has (gbc_said b.said) gbc
    = from_has-flat_map (λ (b : BlockMessage). gbc_said b.said) (filter (is_verified says bs) own) gbc (from_has-in_order nat_cmp_total exact_unsigned gbc (gbcs_said (filter (is_verified says bs) own)) h) in
    let f = from_has-filter (is_verified says bs) own w.0 w.1 in
    let m = from_has-filter (λ (b : BlockMessage). same_session b.session s) bs w.0 f.0 in
    counted_said says bs s gbc w.0 m.0 (session_cmp_exact w.0.session s ((Equal-is (session_cmp w.0.session s)).0 m.1)) f.1 w.0.said refl w.2

has-counted : (says : Answers) (bs : List BlockMessage) (s : Session) (gbc : ℕ) → IsCounted says bs s gbc → Has (gbcs says bs s) gbc
unfolding gbcs
has-counted says bs s gbc c =
    let own = of_session bs s in
    let mine : same_session c.message.session s ≡ true = ap is_eq (ap (λ t. session_cmp t s) c.session_is ∙ tied_itself session_cmp_total s) in
    let said : Has (gbc_said c.message.said) gbc = subst (λ (said : BlockContent). Has (gbc_said said) gbc) (sym c.says_so) (inl c.gbc_is) in
    has-in_order nat_cmp_total exact_unsigned gbc (gbcs_said (filter (is_verified says bs) own))
    (has-flat_map (λ (b : BlockMessage). gbc_said b.said) (filter (is_verified says bs) own) c.message gbc
    (has-filter (is_verified says bs) own c.message
    (has-filter (λ (b : BlockMessage). same_session b.session s) bs c.message (has_from_contains bs c.message c.stored) mine) c.verified) said)

pub counted_are_verified : CountedAreVerified
counted_are_verified says log s =
    let bs = blocks (notes log) in (
      gbcs_rise says bs s,
      λ gbc. (
        λ c. counted says bs s gbc (has_from_contains (gbcs says bs s) gbc c),
        λ c. contains_from_has (gbcs says bs s) gbc (has-counted says bs s gbc c),
      ),
    )

pub counted_or_missing : CountedOrMissing
counted_or_missing says log s next =
    let bs = blocks (notes log) in
    are_missing (IsCounted says bs s) (gbcs says bs s) next (gbcs_rise says bs s) (has-counted says bs s) (counted says bs s)

-- ---- what comes next

next_is : (is_there : ℕ → Type 0) (ns : List ℕ) → ((n : ℕ) → is_there n → Has ns n) → ((n : ℕ) → Has ns n → is_there n) → IsNext is_there (next_after ns)
next_is is_there ns has there =
    let more : ℕ → ℕ = λ n. n + 1 in
    record {
      above = λ n t. (let l = fold_max-member 0 (map more ns) (n + 1) (has-map more ns n (has n t)) in omega (arith, l));
      behind = elim (greatest_of 0 (map more ns)) [
        | inl e ↦ inl e
        | inr h ↦ (let w : (n : ℕ) × Has ns n × (more n ≡ next_after ns) = from_has-map more ns (next_after ns) h in inr (w.0, there w.0 w.1, sym w.2))
      ];
    }

pub next_gbc_follows : NextGbcFollows
next_gbc_follows says log s =
    let bs = blocks (notes log) in
    next_is (IsCounted says bs s) (gbcs says bs s) (has-counted says bs s) (counted says bs s)

-- ---- the numbers of a group

module _ (told : AnnouncedAreTold) (order : ReportsAreInOrder) (says : Answers) (log : List (List ℕ)) (s : SessionReport) (g : GroupReport) (s_told : Contains (report says log).sessions s) (g_told : Contains s.groups g) where
  abbrev its_report : Report
  its_report = report says log

  abbrev numbered : ℕ → Key
  numbered n = record { session = s.session; group = g.group; number = n }

  abbrev IsNumber : ℕ → Type 0
  IsNumber n = IsAnnounced says (blocks (notes log)) (numbered n)

  tells : (e : Entry) → Has g.entries e → Tells its_report s.session g.group e
  tells e h = record {
    session = s;
    session_told = s_told;
    session_is = refl;
    group = g;
    group_told = g_told;
    group_is = refl;
    entry_told = contains_from_has g.entries e h;
  }

  number_of : (n : ℕ) (e : Entry) → Has g.entries e → Has (number_announced e) n → IsNumber n
  number_of n (entry.Listed m place) h (inl q) =
      (told says log (numbered n)).0 (inl (place, subst (λ k. Tells its_report s.session g.group (entry.Listed k place)) q (tells (entry.Listed m place) h)))
  number_of n (entry.Listed m place) h (inr i) = absurd i
  number_of n (entry.Gap m why) h (inl q) =
      (told says log (numbered n)).0 (inr (why, subst (λ k. Tells its_report s.session g.group (entry.Gap k why)) q (tells (entry.Gap m why) h)))
  number_of n (entry.Gap m why) h (inr i) = absurd i
  number_of n (entry.Hole first last) h i = absurd i

  is_number : (n : ℕ) → Has (flat_map number_announced g.entries) n → IsNumber n
  is_number n h =
      let w : (e : Entry) × Has g.entries e × Has (number_announced e) n = from_has-flat_map number_announced g.entries n h in
      number_of n w.0 w.1 w.2

  -- an entry that is told of the group is one of this report of it
  own : (e : Entry) → Tells its_report s.session g.group e → Has g.entries e
  own e t =
      let ordered = order says log in
      let same : t.session ≡ s
      = one_of_key session_cmp_total session_cmp_exact (λ (x : SessionReport). x.session) its_report.sessions ordered.sessions t.session s (has_from_contains its_report.sessions t.session t.session_told) (has_from_contains its_report.sessions s s_told) t.session_is in
      let up : IsStrictlySortedBy group_cmp (map (λ (x : GroupReport). x.group) s.groups)
      = All-contains (λ (x : SessionReport). IsStrictlySortedBy group_cmp (map (λ (y : GroupReport). y.group) x.groups)) its_report.sessions s ordered.groups s_told in
      let there : Has s.groups t.group = subst (λ (x : SessionReport). Has x.groups t.group) same (has_from_contains t.session.groups t.group t.group_told) in
      let same_group : t.group ≡ g
      = one_of_key group_cmp_total group_cmp_exact (λ (x : GroupReport). x.group) s.groups up t.group g there (has_from_contains s.groups g g_told) t.group_is in
      subst (λ (x : GroupReport). Has x.entries e) same_group (has_from_contains t.group.entries e t.entry_told)

  has-number : (n : ℕ) → IsNumber n → Has (flat_map number_announced g.entries) n
  has-number n a =
      elim ((told says log (numbered n)).1 a) [
        | inl l ↦ has-flat_map number_announced g.entries (entry.Listed n l.0) n (own (entry.Listed n l.0) l.1) (inl refl)
        | inr q ↦ has-flat_map number_announced g.entries (entry.Gap n q.0) n (own (entry.Gap n q.0) q.1) (inl refl)
      ]

  number_follows : IsNext IsNumber (next_number g)
  unfolding next_number
  number_follows = next_is IsNumber (flat_map number_announced g.entries) has-number is_number

pub next_numbers_follow : AnnouncedAreTold → ReportsAreInOrder → NextNumbersFollow
next_numbers_follow told order says log s g s_told g_told = number_follows told order says log s g s_told g_told
