-- The counters of the sessions so far, and then those of the next one.
use Rattle.std.proofs.Common.{◌≡◌, ℕ, ◌+◌, ◌<◌, ◌≤◌, Bool, true, false, List, [], ◌∷◌, ◌++◌, length, get_or, take, map, flat_map, Option, Some, None, refl, sym, ap, ◌∙◌, subst, arith}
use Rattle.std.specs.Prelude.{All, zip, min, sum_by, if◌then◌else◌}
use Rattle.std.proofs.lemmas.List.Sums.{sum_by-cons}
use Rattle.std.proofs.lemmas.List.{length-append, length-map, take_all}
use Rattle.std.proofs.lemmas.List.Elements.{All-get_or, All-weaker}
use Rattle.std.proofs.lemmas.Slice.Zip.{length-zip, get_or-zip}
use Rattle.ss_block.specs.Ranges.{past_last_number}
use Rattle.ss_frame.specs.Watched.{Sink}
use Rattle.ss_review.specs.declared.counted.counted_session.CountedSession.{CountedSession}
use Rattle.ss_review.specs.declared.report.session_report.SessionReport.{SessionReport}
use Rattle.ss_review.specs.declared.report.report.Report.{Report}
use Rattle.ss_review.specs.keep.Notes.{notes}
use Rattle.ss_review.specs.keep.Contents.{Contents, blocks, contents}
use Rattle.ss_review.specs.announced.Announced.{Row, rows}
use Rattle.ss_review.specs.sessions.Sessions.{sessions}
use Rattle.ss_review.specs.keep.BlockMessage.{BlockMessage}
use Rattle.ss_block.specs.declared.session.Session.{Session}
use Rattle.ss_review.specs.sessions.Verified.{Answers}
use Rattle.ss_review.specs.report.Report.{session_report, report_of, report}
use Rattle.ss_review.specs.counted.Counted.{counted_session, counted_sessions, next_after, next_number}
use Rattle.ss_review.specs.counted.CountedLaws.{IsInRange, CountedAreInRange, NextNumbersAreInRange}
use Rattle.ss_review.specs.counted.KeptLaws.{counters_given, given_beside, group_given, session_given}
use Rattle.ss_review.specs.report.Verdict.{is_joined}
use Rattle.ss_review.specs.pinned.Pinned.{blocks_by, counted_by, kept, pinned_contents, report_by}
use Rattle.ss_review.specs.pinned.Stands.{PinnedReportsAreOfLogs}
use Rattle.ss_report.specs.log.Writing.{Writes}
use Rattle.ss_report.specs.declared.notation.Notation.{Notation}
use Rattle.ss_report.specs.runs.Counters.{AreInRange, counters_of, counter_lines, counters_beside, counters_end, counter_lines_with, how_many}
use Rattle.ss_report.proofs.of_reports.PinnedLogs.{of_sessions_by}
use Rattle.ss_report.proofs.of_writing.Writings.{writes_more, writes_same}

module _ (ss : List SessionReport) (cs : List CountedSession) where
  -- where the next session and what was found of it stand at one place in their lists
  pub record IsNextPair (n : ℕ) (s : SessionReport) (c : CountedSession) : Type 0 where
    pub in_sessions : n < length ss
    pub in_counted : n < length cs
    pub session : s ≡ get_or ss n s
    pub counted : c ≡ get_or cs n c

  pub pair_in_range : AreInRange ss cs → (n : ℕ) (s : SessionReport) (c : CountedSession) → IsNextPair n s c
      → All (λ g. next_number g ≤ past_last_number) s.groups × (next_after c.gbcs ≤ past_last_number)
  pair_in_range range n s c at = (
    subst (λ (t : SessionReport). All (λ g. next_number g ≤ past_last_number) t.groups) (sym at.session)
        (All-get_or (λ (t : SessionReport). All (λ g. next_number g ≤ past_last_number) t.groups) ss n s at.in_sessions range.numbers),
    subst (λ (t : CountedSession). next_after t.gbcs ≤ past_last_number) (sym at.counted)
        (All-get_or (λ (t : CountedSession). next_after t.gbcs ≤ past_last_number) cs n c at.in_counted range.gbcs),
  )

  pub counters_more : (notation : Notation) (a b d : Sink) (n m : ℕ) (s : SessionReport) (c : CountedSession) → IsNextPair n s c → m ≡ n + 1
      → Writes a b (flat_map (counters_beside notation) (take n (zip ss cs))) → Writes b d (counters_beside notation (s, c)) → Writes a d (flat_map (counters_beside notation) (take m (zip ss cs)))
  counters_more notation a b d n m s c at more so_far next =
      let both : n < length (zip ss cs) = omega (arith, length-zip ss cs, at.in_sessions, at.in_counted) in
      let pair : (s, c) ≡ get_or (zip ss cs) n (s, c) = (λ i. (at.session i, at.counted i)) ∙ sym (get_or-zip ss cs n (s, c) at.in_sessions at.in_counted) in
      writes_same a d _ _ (writes_more (counters_beside notation) (zip ss cs) n (s, c) a b d _ both so_far next (ap (counters_beside notation) pair))
      (ap (λ k. flat_map (counters_beside notation) (take k (zip ss cs))) (sym more))

  pub all_counters : (notation : Notation) (a b : Sink) (n : ℕ) → n ≡ min (length ss) (length cs) → Writes a b (flat_map (counters_beside notation) (take n (zip ss cs))) → Writes a b (flat_map (counters_beside notation) (zip ss cs))
  all_counters notation a b n all so_far =
      writes_same a b _ _ so_far (ap (flat_map (counters_beside notation)) (take_all n (zip ss cs) (omega (arith, length-zip ss cs, all))))

-- the sessions of a report, and the GBC of their blocks, are in range
in_range : CountedAreInRange → NextNumbersAreInRange → (says : Answers) (log : List (List ℕ)) → AreInRange (report says log).sessions (counted_sessions says (blocks (notes log)))
in_range counted numbers says log = record {
  numbers = numbers says log;
  gbcs = All-weaker IsInRange (λ c. next_after c.gbcs ≤ past_last_number) (λ c range. range.next) (counted_sessions says (blocks (notes log))) (counted says log);
}

pub report_in_range : CountedAreInRange → NextNumbersAreInRange → PinnedReportsAreOfLogs
    → (known : Option (List (List ℕ))) (says : Answers) (log : List (List ℕ)) (r : Report) (cs : List CountedSession)
    → r ≡ report_by known says (contents (notes log)) → cs ≡ counted_by known says (blocks (notes log)) → AreInRange r.sessions cs
report_in_range counted numbers law known says log r cs r_is cs_is =
    subst (λ (p : Report × List CountedSession). AreInRange p.0.sessions p.1) (λ i. (sym r_is i, sym cs_is i))
    (of_sessions_by law AreInRange says (in_range counted numbers says) known log)

-- the counters that are found, session by session, are those of the log
counters_found : (notation : Notation) (says : Answers) (log : Contents) (rs : List Row) (bs : List BlockMessage) (ss : List Session)
    → flat_map (counters_beside notation) (zip (map (session_report says log rs) ss) (map (counted_session says bs) ss)) ≡ flat_map (counters_of notation says bs) (map (session_report says log rs) ss)
counters_found notation says log rs bs [] = refl
counters_found notation says log rs bs (s ∷ ss) = ap (λ ls. counters_of notation says bs (session_report says log rs s) ++ ls) (counters_found notation says log rs bs ss)

pub counters_are : (notation : Notation) (known : Option (List (List ℕ))) (says : Answers) (messages : List (List ℕ))
    → counter_lines_with notation (report_by known says (contents (notes messages))) (counted_by known says (blocks (notes messages)))
    ≡ counter_lines notation says (blocks_by known says (blocks (notes messages))) (report_by known says (contents (notes messages)))
unfolding report_of counter_lines counter_lines_with
counters_are notation None says messages =
    let bs = blocks (notes messages) in
    ap (λ t. t ++ counters_end notation (sum_by how_many (report_by None says (contents (notes messages))).sessions))
    (counters_found notation says (contents (notes messages)) (rows says bs) bs (sessions bs))
counters_are notation (Some ps) says messages =
    let bs = kept says ps (blocks (notes messages)) in
    ap (λ t. t ++ counters_end notation (sum_by how_many (report_by (Some ps) says (contents (notes messages))).sessions))
    (counters_found notation says (pinned_contents says ps (contents (notes messages))) (rows says bs) bs (sessions bs))

-- how many counters are found, session by session
counters-given : (says : Answers) (log : Contents) (rs : List Row) (bs : List BlockMessage) (ss : List Session)
    → length (flat_map given_beside (zip (map (session_report says log rs) ss) (map (counted_session says bs) ss))) ≡ sum_by how_many (map (session_report says log rs) ss)
counters-given says log rs bs [] = refl
counters-given says log rs bs (s ∷ ss) =
    let r = session_report says log rs s in
    let c = counted_session says bs s in
    let others = map (session_report says log rs) ss in
    omega (
      arith,
      length-append (given_beside (r, c)) (flat_map given_beside (zip others (map (counted_session says bs) ss))),
      counters-given says log rs bs ss,
      given-many (is_joined r.state) r c,
      sum_by-cons how_many r others,
    )
  where
    given-many : (b : Bool) (r : SessionReport) (c : CountedSession) → length (if b then session_given r c else []) ≡ (if b then length r.groups + 1 else 0)
    given-many true r c = omega (arith, length-map r.groups (group_given r.session))
    given-many false r c = refl

pub counters_many : (known : Option (List (List ℕ))) (says : Answers) (messages : List (List ℕ))
    → length (counters_given (report_by known says (contents (notes messages))).sessions (counted_by known says (blocks (notes messages))))
    ≡ sum_by how_many (report_by known says (contents (notes messages))).sessions
unfolding report_of counters_given
counters_many None says messages =
    let bs = blocks (notes messages) in
    counters-given says (contents (notes messages)) (rows says bs) bs (sessions bs)
counters_many (Some ps) says messages =
    let bs = kept says ps (blocks (notes messages)) in
    counters-given says (pinned_contents says ps (contents (notes messages))) (rows says bs) bs (sessions bs)
