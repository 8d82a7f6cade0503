-- What a report says of a session beside its listed messages: it follows from the session's blocks alone.
use Rattle.std.proofs.Common.{◌≡◌, ℕ, List, [], ◌∷◌, ◌++◌, map, filter, fold, refl, sym, ap, ◌∙◌}
use Rattle.std.specs.Prelude.{max, Option, Some, None, Ok, Err, Result, if◌then◌else◌}
use Rattle.std.specs.Ordering.{nat_cmp}
use Rattle.std.specs.List.{flat_map, zip}
use Rattle.std.proofs.lemmas.Grind.{flat_map-append}
use Rattle.std.proofs.lemmas.List.{map-id}
use Rattle.ss_block.specs.declared.block.Group.{Group}
use Rattle.ss_block.specs.declared.session.Session.{Session}
use Rattle.ss_review.specs.declared.counted.counted_session.CountedSession.{CountedSession}
use Rattle.ss_review.specs.declared.counted.counter.Counter.{Counter}
use Rattle.ss_review.specs.declared.counted.counter.Counts.TheVariants as counts
use Rattle.ss_review.specs.declared.counted.shortfall.LogShortfalls.{LogShortfalls}
use Rattle.ss_review.specs.keep.BlockMessage.{BlockMessage}
use Rattle.ss_review.specs.declared.keep.message.NormalMessage.{NormalMessage}
use Rattle.ss_review.specs.declared.report.entry.Entry.{Entry}
use Rattle.ss_review.specs.declared.report.group_report.GroupReport.{GroupReport}
use Rattle.ss_review.specs.declared.report.session_report.SessionReport.{SessionReport}
use Rattle.ss_review.specs.declared.report.session_report.SessionState.{SessionState}
use Rattle.ss_review.specs.Ordered.{in_order}
use Rattle.ss_review.specs.keep.Contents.{Contents}
use Rattle.ss_review.specs.sessions.Sessions.{same_session, sessions, of_session}
use Rattle.ss_review.specs.sessions.Verified.{Answers, joined, state_in, is_valid_in, is_verified}
use Rattle.ss_review.specs.announced.Announced.{Key, Row, rows}
use Rattle.ss_review.specs.assign.Assigned.{assigned}
use Rattle.ss_review.specs.report.Entries.{same_group, group_keys, entry_with, entry_of, greatest_below, hole_between, entries}
use Rattle.ss_review.specs.report.Report.{groups, group_report, session_report, report_of}
use Rattle.ss_review.specs.report.Verdict.{is_joined}
use Rattle.ss_review.specs.counted.Counted.{gbc_said, gbcs_said, gbcs, counted_session, counted_sessions, number_announced, next_after, next_number}
use Rattle.ss_review.specs.counted.Kept.{counters_of, number_in, groups_in, kept_sessions, number_behind, tail_between, tails_in, shortfall, absent_among, shortfall_beside, log_shortfalls}
use Rattle.ss_review.specs.counted.KeptLaws.{group_given, given_beside, counters_given}
use Rattle.ss_laws.specs.parts.Parts.{blocks_of, SessionsStayWhole, AnnouncedStayWithBlocks}
use Rattle.ss_octets.proofs.Members.{has_from_contains, from_has-filter}
use Rattle.ss_review.proofs.of_counters.Shortfalls.{zip-map}
use Rattle.ss_review.proofs.of_lists.FilteredAlike.{flat_map-map}
use Rattle.ss_review.proofs.of_lists.Mapped.{map-map, filter-map, filter_agree}
use Rattle.ss_laws.proofs.of_parts.MovedBlocks.{moved_block, joined_moved, rows_moved}
use Rattle.ss_laws.proofs.of_parts.PartBlocks.{IsOwn, all_own, own_verified}
use Rattle.ss_laws.proofs.of_parts.PartSessions.{same_session_report}

-- ---- the numbers of a group

module _ (ms ns : List NormalMessage) (rs : List Row) where
  number_of : (k : Key) (o : Option ℕ) → number_announced (entry_with rs k o) ≡ k.number ∷ []
  number_of k None = refl
  number_of k (Some place) = refl

  after : (es : List Entry) (e f : Entry) → number_announced e ≡ number_announced f → flat_map number_announced (es ++ e ∷ []) ≡ flat_map number_announced (es ++ f ∷ [])
  after [] e f same = ap (λ xs. xs ++ []) same
  after (x ∷ es) e f same = ap (λ xs. number_announced x ++ xs) (after es e f same)

  module _ (js : List Key) where
    abbrev given : List NormalMessage → Key → List Entry
    given xs k = hole_between (greatest_below js k.number) k.number ++ entry_of xs rs k ∷ []

    numbers_given : (ks : List Key) → flat_map number_announced (flat_map (given ms) ks) ≡ flat_map number_announced (flat_map (given ns) ks)
    numbers_given [] = refl
    numbers_given (k ∷ ks) =
        let here : flat_map number_announced (given ms k) ≡ flat_map number_announced (given ns k)
        = after (hole_between (greatest_below js k.number) k.number) (entry_of ms rs k) (entry_of ns rs k) (number_of k (assigned ms rs k) ∙ sym (number_of k (assigned ns rs k))) in
        flat_map-append number_announced (given ms k) (flat_map (given ms) ks)
        ∙ (λ i. here i ++ numbers_given ks i)
        ∙ sym (flat_map-append number_announced (given ns k) (flat_map (given ns) ks))

  numbers_alike : (ks : List Key) → flat_map number_announced (entries ms rs ks) ≡ flat_map number_announced (entries ns rs ks)
  unfolding entries
  numbers_alike ks = numbers_given ks ks

  same_next : (s : Session) (g : Group) → next_number (group_report ms rs s g) ≡ next_number (group_report ns rs s g)
  unfolding next_number
  same_next s g = ap next_after (numbers_alike (group_keys rs s g))

-- ---- a session of a log

-- the report of a session where no message without a block is stored
abbrev pub alone : List BlockMessage → Contents
alone bs = record { normal = []; blocks = bs; spoilt = []; count = 0 }

abbrev pub bare : Answers → List BlockMessage → Session → SessionReport
bare says bs s = session_report says (alone bs) (rows says bs) s

abbrev pub beside : Answers → List BlockMessage → Session → SessionReport × CountedSession
beside says bs s = (bare says bs s, counted_session says bs s)

module _ (says : Answers) (log : Contents) (s : Session) where
  abbrev ms : List NormalMessage
  ms = log.normal

  abbrev rs : List Row
  rs = rows says log.blocks

  abbrev gs : List Group
  gs = groups rs s

  abbrev told : SessionReport × CountedSession
  told = (session_report says log rs s, counted_session says log.blocks s)

  counted_alike : map (group_given s) (map (group_report ms rs s) gs) ≡ map (group_given s) (map (group_report [] rs s) gs)
  counted_alike =
      map-map (group_given s) (group_report ms rs s) gs
      ∙ (λ i. map (λ (g : Group). record { session = s; counts = counts.Messages g; next = same_next ms [] rs s g i }) gs)
      ∙ sym (map-map (group_given s) (group_report [] rs s) gs)

  pub given_alike : given_beside (session_report says log (rows says log.blocks) s, counted_session says log.blocks s) ≡ given_beside (beside says log.blocks s)
  given_alike =
      λ i. if is_joined (state_in (joined says (of_session log.blocks s)))
      then record { session = s; counts = counts.Blocks; next = next_after (gbcs says log.blocks s) } ∷ counted_alike i
      else []

  behind_of : (xs : List NormalMessage) (g : Group) → number_behind (map (group_report xs rs s) gs) g ≡ fold max 1 (map (λ h. next_number (group_report xs rs s h)) (filter (λ h. same_group h g) gs))
  behind_of xs g =
      ap (λ ns. fold max 1 ns)
      (ap (map next_number) (filter-map (λ (r : GroupReport). same_group r.group g) (group_report xs rs s) gs)
      ∙ map-map next_number (group_report xs rs s) (filter (λ h. same_group h g) gs))

  behind_alike : (g : Group) → number_behind (map (group_report ms rs s) gs) g ≡ number_behind (map (group_report [] rs s) gs) g
  behind_alike g =
      behind_of ms g
      ∙ (λ i. fold max 1 (map (λ h. same_next ms [] rs s h i) (filter (λ h. same_group h g) gs)))
      ∙ sym (behind_of [] g)

  tails_alike : (own : List Counter) → tails_in own (map (group_report ms rs s) gs) ≡ tails_in own (map (group_report [] rs s) gs)
  unfolding tails_in
  tails_alike own = λ i. flat_map (λ g. tail_between g (behind_alike g i) (number_in own g)) (groups_in own)

  pub missing_alike : (cs : List Counter) → shortfall_beside cs (session_report says log (rows says log.blocks) s, counted_session says log.blocks s) ≡ shortfall_beside cs (beside says log.blocks s)
  missing_alike cs = λ i. record {
    session = s;
    tails = tails_alike (counters_of cs s) i;
    blocks = (shortfall_beside cs (beside says log.blocks s)).blocks;
  }

-- ---- all sessions of a log

module _ (says : Answers) (log : Contents) where
  abbrev bs : List BlockMessage
  bs = log.blocks

  abbrev told_of : Session → SessionReport
  told_of s = session_report says log (rows says log.blocks) s

  zipped : zip (map told_of (sessions bs)) (counted_sessions says bs) ≡ map (λ s. (told_of s, counted_session says bs s)) (sessions bs)
  zipped = zip-map told_of (counted_session says bs) (sessions bs)

  pub given_are : counters_given (report_of says log).sessions (counted_sessions says log.blocks) ≡ flat_map (λ s. given_beside (beside says log.blocks s)) (sessions log.blocks)
  unfolding counters_given report_of
  given_are =
      ap (flat_map given_beside) zipped
      ∙ flat_map-map given_beside (λ s. (told_of s, counted_session says bs s)) (sessions bs)
      ∙ (λ i. flat_map (λ s. given_alike says log s i) (sessions bs))

  -- what is missing of sessions with these blocks, and of others that have a counter
  abbrev pub missing_by : List Counter → LogShortfalls
  missing_by cs = record {
    known = map (λ s. shortfall_beside cs (beside says log.blocks s)) (sessions log.blocks);
    absent = map (λ s. shortfall cs s [] []) (absent_among (kept_sessions cs) (sessions log.blocks));
  }

  abbrev session_of : SessionReport → Session
  session_of r = r.session

  pub missing_are : (cs : List Counter) → log_shortfalls cs (report_of says log).sessions (counted_sessions says log.blocks) ≡ missing_by cs
  unfolding log_shortfalls report_of
  missing_are cs =
      let known : map (shortfall_beside cs) (zip (map told_of (sessions bs)) (counted_sessions says bs)) ≡ map (λ s. shortfall_beside cs (beside says bs s)) (sessions bs)
      = ap (map (shortfall_beside cs)) zipped
      ∙ map-map (shortfall_beside cs) (λ s. (told_of s, counted_session says bs s)) (sessions bs)
      ∙ (λ i. map (λ s. missing_alike says log s cs i) (sessions bs)) in
      let reported : map session_of (map told_of (sessions bs)) ≡ sessions bs = map-map session_of told_of (sessions bs) ∙ map-id (sessions bs) in
      λ i. record { known = known i; absent = map (λ s. shortfall cs s [] []) (absent_among (kept_sessions cs) (reported i)) }

-- ---- blocks at other places

module _ (f : ℕ → ℕ) (says : Answers) (bs : List BlockMessage) where
  abbrev ds : List BlockMessage
  ds = map (moved_block f) bs

  valid_moved : (r : Result (List ℕ) SessionState) (b : BlockMessage) → is_valid_in says r (moved_block f b) ≡ is_valid_in says r b
  valid_moved (Ok payload) b = refl
  valid_moved (Err state) b = refl

  pub verified_moved : (b : BlockMessage) → is_verified says (map (moved_block f) bs) (moved_block f b) ≡ is_verified says bs b
  unfolding is_verified
  verified_moved b =
      ap (λ r. is_valid_in says r (moved_block f b)) (joined_moved f says bs b.session) ∙ valid_moved (joined says (of_session bs b.session)) b

  gbcs_moved : (s : Session) → gbcs says (map (moved_block f) bs) s ≡ gbcs says bs s
  unfolding gbcs
  gbcs_moved s =
      let own = of_session bs s in
      let kept : filter (is_verified says ds) (of_session ds s) ≡ map (moved_block f) (filter (is_verified says bs) own)
      = ap (filter (is_verified says ds)) (filter-map (λ (b : BlockMessage). same_session b.session s) (moved_block f) bs)
      ∙ filter-map (is_verified says ds) (moved_block f) own
      ∙ (λ i. map (moved_block f) (filter (λ b. verified_moved b i) own)) in
      ap (in_order nat_cmp) (ap gbcs_said kept ∙ flat_map-map (λ (b : BlockMessage). gbc_said b.said) (moved_block f) (filter (is_verified says bs) own))

  pub beside_moved : (s : Session) → beside says (map (moved_block f) bs) s ≡ beside says bs s
  beside_moved s = λ i. (
    record {
      session = s;
      state = state_in (joined_moved f says bs s i);
      groups = map (group_report [] (rows_moved f says bs i) s) (groups (rows_moved f says bs i) s);
    },
    record { session = s; gbcs = gbcs_moved s i },
  )

-- ---- the blocks of a part

module _ (part : ℕ → ℕ) (bs : List BlockMessage) (k : ℕ) (whole : SessionsStayWhole part bs) (says : Answers) where
  no_message : AnnouncedStayWithBlocks says part (alone bs)
  no_message m j h a c has = absurd (has_from_contains [] m c)

  gbcs_own : (s : Session) → IsOwn part bs k s → gbcs says (blocks_of part k bs) s ≡ gbcs says bs s
  unfolding gbcs
  gbcs_own s i =
      let own = blocks_of part k bs in
      let kept : filter (is_verified says own) (of_session own s) ≡ filter (is_verified says bs) (of_session bs s)
      = filter_agree (is_verified says own) (is_verified says bs) (of_session own s)
      (λ b h. own_verified part bs k whole says b (from_has-filter (λ (d : BlockMessage). same_session d.session s) own b h).0)
      ∙ ap (filter (is_verified says bs)) (all_own part bs k whole s i) in
      ap (λ xs. in_order nat_cmp (gbcs_said xs)) kept

  pub beside_own : (s : Session) → IsOwn part bs k s → beside says (blocks_of part k bs) s ≡ beside says bs s
  beside_own s i = λ x. (
    same_session_report part (alone bs) k whole says no_message s i x,
    record { session = s; gbcs = gbcs_own s i x },
  )
