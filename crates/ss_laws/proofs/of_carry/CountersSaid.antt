-- The counters of a log say one more than the greatest that its blocks state or announce.
use Rattle.std.proofs.Common.{◌≡◌, ◌⊎◌, inl, inr, ℕ, ◌+◌, ◌<◌, Bool, true, false, List, [], ◌∷◌, ◌++◌, map, filter, flat_map, fold, refl, sym, ap, ◌∙◌, subst, arith}
use Rattle.std.specs.Prelude.{max, Option, Some, None, Ok, if◌then◌else◌}
use Rattle.std.specs.Ordering.{is_eq}
use Rattle.std.specs.Cmp.{Equal-is}
use Rattle.std.proofs.lemmas.Cmp.{tied_itself, nat_cmp_total}
use Rattle.std.proofs.lemmas.Map.Lookups.{exact_unsigned}
use Rattle.ss_block.specs.declared.block.Group.{Group}
use Rattle.ss_block.specs.declared.session.Session.{Session}
use Rattle.ss_block.specs.Order.{group_cmp}
use Rattle.ss_block.specs.OrderLaws.{group_cmp_total, group_cmp_exact}
use Rattle.ss_review.specs.declared.counted.counted_session.CountedSession.{CountedSession}
use Rattle.ss_review.specs.declared.counted.counter.Counter.{Counter}
use Rattle.ss_review.specs.declared.counted.counter.Counts.TheVariants as counts
use Rattle.ss_review.specs.keep.BlockMessage.{BlockMessage, BlockContent, Hashes, Fragment}
use Rattle.ss_review.specs.declared.keep.message.NormalMessage.{NormalMessage}
use Rattle.ss_review.specs.declared.report.entry.Entry.{Entry}
use Rattle.ss_review.specs.declared.report.group_report.GroupReport.{GroupReport}
use Rattle.ss_review.specs.declared.report.session_report.SessionReport.{SessionReport}
use Rattle.ss_review.specs.keep.Contents.{Contents}
use Rattle.ss_review.specs.sessions.Sessions.{same_session, sessions, of_session}
use Rattle.ss_review.specs.sessions.Verified.{Answers, joined, state_in, is_verified}
use Rattle.ss_review.specs.announced.Announced.{Key, Row, rows}
use Rattle.ss_review.specs.announced.Announcing.{IsAnnounced}
use Rattle.ss_review.specs.assign.Assigned.{assigned}
use Rattle.ss_review.specs.report.Entries.{same_group, group_keys, entry_with, entry_of, greatest_below, hole_between, entries}
use Rattle.ss_review.specs.report.Report.{groups, group_report, session_report, report_of}
use Rattle.ss_review.specs.report.Verdict.{is_joined}
use Rattle.ss_review.specs.counted.Counted.{gbc_said, gbcs_said, gbcs, counted_session, next_after, number_announced, next_number}
use Rattle.ss_review.specs.counted.CountedLaws.{IsCounted, IsNext}
use Rattle.ss_review.specs.counted.Kept.{counters_of, blocks_said, number_said, gbc_in, number_in, kept_gbc, kept_number}
use Rattle.ss_review.specs.counted.KeptLaws.{group_given, session_given, given_beside, counters_given}
use Rattle.ss_octets.proofs.Members.{Has, has-map, has_from_contains, contains_from_has, from_has-map, has-filter, from_has-filter, has-flat_map, from_has-flat_map, has-append_right}
use Rattle.ss_laws.proofs.of_parts.PartBlocks.{has-sessions}
use Rattle.ss_review.proofs.of_counters.Shortfalls.{zip-map, is_same, same_is}
use Rattle.ss_review.proofs.of_lists.FilteredAlike.{flat_map-map}
use Rattle.ss_review.proofs.of_lists.Rising.{has-in_order, from_has-in_order}
use Rattle.ss_review.proofs.of_numbers.Announcements.{announced_key, has-announced_key}
use Rattle.ss_review.proofs.of_reports.EntriesMeant.{greatest_of}
use Rattle.ss_review.proofs.of_reports.EntriesRise.{fold_max-member}
use Rattle.ss_review.proofs.of_reports.Listings.{given_cases}
use Rattle.ss_review.proofs.of_reports.Telling.{from_has-group_keys, has-group_keys, has-groups}
use Rattle.ss_laws.proofs.of_carry.AnnouncedNights.{verified_joined}
use Rattle.ss_laws.specs.carry.NightCounters.{counters_in}

-- ---- what comes after numbers

pub next_is : (is_there : ℕ → Type 0) (ns : List ℕ) → ((n : ℕ) → is_there n → Has ns n) → ((n : ℕ) → Has ns n → is_there n) → IsNext is_there (next_after ns)
next_is is_there ns has there =
    let more : ℕ → ℕ = λ n. n + 1 in
    record {
      above = λ n t. (let l = fold_max-member 0 (map more ns) (n + 1) (has-map more ns n (has n t)) in omega (arith, l));
      behind = elim (greatest_of 0 (map more ns)) [
        | inl e ↦ inl e
        | inr h ↦ (let w : (n : ℕ) × Has ns n × (more n ≡ next_after ns) = from_has-map more ns (next_after ns) h in inr (w.0, there w.0 w.1, sym w.2))
      ];
    }

-- The greatest of what elements say comes next, where some element says it of all that is there, and each says it of
-- something that is there, or 0.
pub next_said : {X : Type 0} (is_there : ℕ → Type 0) (said : X → ℕ) (xs : List X)
    → ((n : ℕ) → is_there n → (x : X) × Has xs x × (n < said x))
    → ((x : X) → Has xs x → (said x ≡ 0) ⊎ ((n : ℕ) × is_there n × (said x ≡ n + 1)))
    → IsNext is_there (fold max 0 (map said xs))
next_said is_there said xs all each = record {
  above = λ n t. (let w = all n t in let l = fold_max-member 0 (map said xs) (said w.0) (has-map said xs w.0 w.1) in omega (arith, l, w.2));
  behind = elim (greatest_of 0 (map said xs)) [
    | inl e ↦ inl e
    | inr h ↦ (
        let w = from_has-map said xs (fold max 0 (map said xs)) h in
        elim (each w.0 w.1) [
          | inl none ↦ inl (sym w.2 ∙ none)
          | inr some ↦ inr (some.0, some.1, sym w.2 ∙ some.2)
        ])
  ];
}

-- ---- the GBC of a session

counted_said : (says : Answers) (bs : List BlockMessage) (s : Session) (gbc : ℕ) (b : BlockMessage) → Has bs b → b.session ≡ s → is_verified says bs b ≡ true → (said : BlockContent) → b.said ≡ said → Has (gbc_said said) gbc
    → IsCounted says bs s gbc
counted_said says bs s gbc b h same v (Fragment c) e i = absurd i
counted_said says bs s gbc b h same v (Hashes d) e (inr i) = absurd i
counted_said says bs s gbc b h same v (Hashes d) e (inl is) = record {
  message = b;
  stored = contains_from_has bs b h;
  session_is = same;
  verified = v;
  said = d;
  says_so = e;
  gbc_is = is;
}

pub counted : (says : Answers) (bs : List BlockMessage) (s : Session) (gbc : ℕ) → Has (gbcs says bs s) gbc → IsCounted says bs s gbc
unfolding gbcs
counted says bs s gbc h =
    let own = of_session bs s in
    let w : (b : BlockMessage) × Has (filter (is_verified says bs) own) b × Has (gbc_said b.said) gbc
    = from_has-flat_map (λ (b : BlockMessage). gbc_said b.said) (filter (is_verified says bs) own) gbc (from_has-in_order nat_cmp_total exact_unsigned gbc (gbcs_said (filter (is_verified says bs) own)) h) in
    let f = from_has-filter (is_verified says bs) own w.0 w.1 in
    let m = from_has-filter (λ (b : BlockMessage). same_session b.session s) bs w.0 f.0 in
    counted_said says bs s gbc w.0 m.0 (is_same w.0.session s m.1) f.1 w.0.said refl w.2

pub has-counted : (says : Answers) (bs : List BlockMessage) (s : Session) (gbc : ℕ) → IsCounted says bs s gbc → Has (gbcs says bs s) gbc
unfolding gbcs
has-counted says bs s gbc c =
    let own = of_session bs s in
    let mine : same_session c.message.session s ≡ true = same_is c.message.session s c.session_is in
    let said : Has (gbc_said c.message.said) gbc = subst (λ (said : BlockContent). Has (gbc_said said) gbc) (sym c.says_so) (inl c.gbc_is) in
    has-in_order nat_cmp_total exact_unsigned gbc (gbcs_said (filter (is_verified says bs) own))
    (has-flat_map (λ (b : BlockMessage). gbc_said b.said) (filter (is_verified says bs) own) c.message gbc
    (has-filter (is_verified says bs) own c.message
    (has-filter (λ (b : BlockMessage). same_session b.session s) bs c.message (has_from_contains bs c.message c.stored) mine) c.verified) said)

-- ---- the numbers of entries

number_entered : (rs : List Row) (k : Key) (o : Option ℕ) → Has (number_announced (entry_with rs k o)) k.number
number_entered rs k (Some place) = inl refl
number_entered rs k None = inl refl

from_entered : (rs : List Row) (k : Key) (o : Option ℕ) (n : ℕ) → Has (number_announced (entry_with rs k o)) n → k.number ≡ n
from_entered rs k (Some place) n (inl e) = e
from_entered rs k (Some place) n (inr h) = absurd h
from_entered rs k None n (inl e) = e
from_entered rs k None n (inr h) = absurd h

module _ (ms : List NormalMessage) (rs : List Row) (ks : List Key) where
  abbrev given : Key → List Entry
  given k = hole_between (greatest_below ks k.number) k.number ++ entry_of ms rs k ∷ []

  has-numbers : (k : Key) → Has ks k → Has (flat_map number_announced (entries ms rs ks)) k.number
  unfolding entries
  has-numbers k h =
      has-flat_map number_announced (flat_map given ks) (entry_of ms rs k) k.number
      (has-flat_map given ks k (entry_of ms rs k) h
      (has-append_right (hole_between (greatest_below ks k.number) k.number) (entry_of ms rs k ∷ []) (entry_of ms rs k) (inl refl)))
      (number_entered rs k (assigned ms rs k))

  from_has-numbers : (n : ℕ) → Has (flat_map number_announced (entries ms rs ks)) n → (k : Key) × Has ks k × (k.number ≡ n)
  unfolding entries
  from_has-numbers n h =
      let w = from_has-flat_map number_announced (flat_map given ks) n h in
      let u = from_has-flat_map given ks w.0 w.1 in
      elim (given_cases ms rs ks u.0 w.0 u.2) [
        | inl hole ↦ absurd (subst (λ (e : Entry). Has (number_announced e) n) (sym hole.1) w.2)
        | inr own ↦ (u.0, u.1, from_entered rs u.0 (assigned ms rs u.0) n (subst (λ (e : Entry). Has (number_announced e) n) (sym own) w.2))
      ]

-- ---- the counters

state_joined : (says : Answers) (bs : List BlockMessage) (s : Session) (payload : List ℕ) → joined says bs ≡ Ok payload → is_joined (state_in (joined says bs)) ≡ true
state_joined says bs s payload e = ap (λ r. is_joined (state_in r)) e

module _ (says : Answers) (log : Contents) where
  abbrev bs : List BlockMessage
  bs = log.blocks

  abbrev rs : List Row
  rs = rows says log.blocks

  abbrev told : Session → SessionReport
  told s = session_report says log rs s

  abbrev beside : Session → SessionReport × CountedSession
  beside s = (told s, counted_session says bs s)

  abbrev all : List Counter
  all = counters_in says log

  all_are : all ≡ flat_map (λ s. given_beside (beside s)) (sessions bs)
  unfolding counters_given report_of
  all_are =
      ap (flat_map given_beside) (zip-map told (counted_session says bs) (sessions bs))
      ∙ flat_map-map given_beside beside (sessions bs)

  -- what a session gives
  abbrev IsGiven : Session → Counter → Type 0
  IsGiven s c =
      (c ≡ record { session = s; counts = counts.Blocks; next = next_after (gbcs says bs s) })
      ⊎ ((g : Group) × Has (groups rs s) g × (c ≡ group_given s (group_report log.normal rs s g)))

  given_if : (b : Bool) (s : Session) (c : Counter) → Has (if b then session_given (told s) (counted_session says bs s) else []) c → IsGiven s c
  given_if true s c (inl e) = inl (sym e)
  given_if true s c (inr h) =
      let w = from_has-map (group_given s) (map (group_report log.normal rs s) (groups rs s)) c h in
      let v = from_has-map (group_report log.normal rs s) (groups rs s) w.0 w.1 in
      inr (v.0, v.1, sym w.2 ∙ ap (group_given s) (sym v.2))
  given_if false s c h = absurd h

  session_of : (s : Session) (c : Counter) → IsGiven s c → c.session ≡ s
  session_of s c (inl e) = ap (λ (d : Counter). d.session) e
  session_of s c (inr w) = ap (λ (d : Counter). d.session) w.2

  own_given : (s : Session) (c : Counter) → Has (counters_of all s) c → IsGiven s c
  own_given s c h =
      let f = from_has-filter (λ (d : Counter). same_session d.session s) all c h in
      let w = from_has-flat_map (λ t. given_beside (beside t)) (sessions bs) c (subst (λ cs. Has cs c) all_are f.0) in
      let g = given_if (is_joined (told w.0).state) w.0 c w.2 in
      let at : w.0 ≡ s = sym (session_of w.0 c g) ∙ is_same c.session s f.1 in
      subst (λ t. IsGiven t c) at g

  -- a verified block's session gives its counters
  gives : (b : BlockMessage) (s : Session) (c : Counter) → Has bs b → is_verified says bs b ≡ true → b.session ≡ s → c.session ≡ s
      → Has (session_given (told s) (counted_session says bs s)) c
      → Has (counters_of all s) c
  gives b s c h v own at i =
      let j = verified_joined says bs b v in
      let e : joined says (of_session bs s) ≡ Ok j.0 = ap (λ t. joined says (of_session bs t)) (sym own) ∙ j.1 in
      let state : is_joined (told s).state ≡ true = ap (λ r. is_joined (state_in r)) e in
      let there : Has (given_beside (beside s)) c
      = subst (λ (y : Bool). Has (if y then session_given (told s) (counted_session says bs s) else []) c) (sym state) i in
      has-filter (λ (d : Counter). same_session d.session s) all c
      (subst (λ cs. Has cs c) (sym all_are)
      (has-flat_map (λ t. given_beside (beside t)) (sessions bs) s c (subst (Has (sessions bs)) own (has-sessions bs b h)) there))
      (same_is c.session s at)

  module _ (s : Session) where
    abbrev IsBlock : ℕ → Type 0
    IsBlock n = IsCounted says bs s n

    next_block : IsNext IsBlock (next_after (gbcs says bs s))
    next_block = next_is IsBlock (gbcs says bs s) (has-counted says bs s) (counted says bs s)

    abbrev block_counter : Counter
    block_counter = record { session = s; counts = counts.Blocks; next = next_after (gbcs says bs s) }

    abbrev block_said : Counter → ℕ
    block_said c = blocks_said c.counts c.next

    each_block : (c : Counter) → IsGiven s c → (block_said c ≡ 0) ⊎ ((n : ℕ) × IsBlock n × (block_said c ≡ n + 1))
    each_block c (inl e) =
        let same : block_said c ≡ next_after (gbcs says bs s) = ap block_said e in
        elim next_block.behind [
          | inl none ↦ inl (same ∙ none)
          | inr w ↦ inr (w.0, w.1, same ∙ w.2)
        ]
    each_block c (inr w) = inl (ap block_said w.2)

    pub blocks_follow : IsNext IsBlock (kept_gbc all s)
    unfolding gbc_in
    blocks_follow =
        next_said IsBlock block_said (counters_of all s)
        (λ n t. (
          block_counter,
          gives t.message s block_counter (has_from_contains bs t.message t.stored) t.verified t.session_is refl (inl refl),
          next_block.above n t,
        ))
        (λ c h. each_block c (own_given s c h))

    module _ (g : Group) where
      abbrev key_of : ℕ → Key
      key_of n = record { session = s; group = g; number = n }

      abbrev IsNumber : ℕ → Type 0
      IsNumber n = IsAnnounced says bs (key_of n)

      abbrev its_group : GroupReport
      its_group = group_report log.normal rs s g

      abbrev its_keys : List Key
      its_keys = group_keys rs s g

      has_number : (n : ℕ) → IsNumber n → Has (flat_map number_announced its_group.entries) n
      has_number n a = has-numbers log.normal rs its_keys (key_of n) (has-group_keys rs (key_of n) (has-announced_key says bs (key_of n) a))

      from_number : (n : ℕ) → Has (flat_map number_announced its_group.entries) n → IsNumber n
      from_number n h =
          let w = from_has-numbers log.normal rs its_keys n h in
          let k = from_has-group_keys rs s g w.0 w.1 in
          let same : w.0 ≡ key_of n = λ i. record { session = k.1 i; group = k.2 i; number = w.2 i } in
          subst (IsAnnounced says bs) same (announced_key says bs w.0 k.0)

      next_is_number : IsNext IsNumber (next_number its_group)
      unfolding next_number
      next_is_number = next_is IsNumber (flat_map number_announced its_group.entries) has_number from_number

      abbrev number_counter : Counter
      number_counter = group_given s its_group

      abbrev said_number : Counter → ℕ
      said_number c = number_said g c.counts c.next

      own_group : said_number number_counter ≡ next_number its_group
      own_group = ap (λ (y : Bool). if y then next_number its_group else 0) (ap is_eq (tied_itself group_cmp_total g))

      of_group : (h : Group) (y : Bool) → same_group h g ≡ y
          → ((if y then next_number (group_report log.normal rs s h) else 0) ≡ 0) ⊎ ((n : ℕ) × IsNumber n × ((if y then next_number (group_report log.normal rs s h) else 0) ≡ n + 1))
      of_group h false e = inl refl
      of_group h true e =
          let same : h ≡ g = group_cmp_exact h g ((Equal-is (group_cmp h g)).0 e) in
          let next : next_number (group_report log.normal rs s h) ≡ next_number its_group = ap (λ (f : Group). next_number (group_report log.normal rs s f)) same in
          elim next_is_number.behind [
            | inl none ↦ inl (next ∙ none)
            | inr w ↦ inr (w.0, w.1, next ∙ w.2)
          ]

      each_number : (c : Counter) → IsGiven s c → (said_number c ≡ 0) ⊎ ((n : ℕ) × IsNumber n × (said_number c ≡ n + 1))
      each_number c (inl e) = inl (ap said_number e)
      each_number c (inr w) =
          let same : said_number c ≡ (if same_group w.0 g then next_number (group_report log.normal rs s w.0) else 0) = ap said_number w.2 in
          elim (of_group w.0 (same_group w.0 g) refl) [
            | inl none ↦ inl (same ∙ none)
            | inr v ↦ inr (v.0, v.1, same ∙ v.2)
          ]

      gives_number : (n : ℕ) → IsNumber n → Has (counters_of all s) number_counter
      gives_number n a =
          let k = has-announced_key says bs (key_of n) a in
          let reports = map (group_report log.normal rs s) (groups rs s) in
          gives a.1.message s number_counter (has_from_contains bs a.1.message a.1.stored) a.1.verified a.1.session_is refl
          (inr (has-map (group_given s) reports its_group (has-map (group_report log.normal rs s) (groups rs s) g (has-groups rs (key_of n) k))))

      pub numbers_follow : IsNext IsNumber (kept_number all s g)
      unfolding number_in
      numbers_follow =
          next_said IsNumber said_number (counters_of all s)
          (λ n a. (
            number_counter,
            gives_number n a,
            (let l = next_is_number.above n a in omega (arith, l, own_group)),
          ))
          (λ c h. each_number c (own_given s c h))
