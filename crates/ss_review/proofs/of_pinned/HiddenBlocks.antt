-- A report by given payloads is the report of a log: of one in which a spoilt block stands for each that isn't kept.
use Rattle.std.proofs.Common.{◌≡◌, ℕ, ◌+◌, Bool, true, false, cond, List, [], ◌∷◌, filter, refl, sym, ap, ◌∙◌, arith, suc, length}
use Rattle.std.specs.Prelude.{Option, Some, None}
use Rattle.std.specs.List.{cons_option, enumerate_from, filter_map}
use Rattle.std.proofs.lemmas.List.{length-map}
use Rattle.ss_message.specs.Message.{MessageValue, text}
use Rattle.ss_message.specs.Octets.{is_name}
use Rattle.ss_block.specs.declared.spoil.Spoil.{Spoil}
use Rattle.ss_block.specs.Reading.{signature_reading}
use Rattle.ss_block.specs.ReadingLaws.{ReadingsAreOfValues}
use Rattle.ss_review.specs.declared.counted.counter.Counter.{Counter}
use Rattle.ss_review.specs.keep.BlockMessage.{BlockMessage}
use Rattle.ss_review.specs.declared.keep.message.NormalMessage.{NormalMessage}
use Rattle.ss_review.specs.declared.report.session_report.SessionReport.{SessionReport}
use Rattle.ss_review.specs.counted.Counted.{counted_sessions}
use Rattle.ss_review.specs.counted.Kept.{log_shortfalls}
use Rattle.ss_review.specs.counted.KeptLaws.{shortfalls_of}
use Rattle.ss_review.specs.announced.Announced.{rows}
use Rattle.ss_review.specs.keep.Contents.{normal_at, block_at, normals, blocks, contents}
use Rattle.ss_review.specs.keep.Notes.{Note, Normal, Block, Spoilt, noted, note, notes}
use Rattle.ss_review.specs.report.Report.{unlisted, report_of, report}
use Rattle.ss_review.specs.sessions.Sessions.{of_session}
use Rattle.ss_review.specs.sessions.Verified.{Answers}
use Rattle.ss_review.specs.pinned.Pinned.{keeps, kept, pinned_report}
use Rattle.ss_review.specs.pinned.Stands.{IsReportedAs, PinnedReportsAreOfLogs, pinned_shortfalls}

-- ---- a spoilt block

-- one without a parameter
abbrev spoilt_value : MessageValue
spoilt_value = record {
  pri = 13;
  stamp = None;
  hostname = None;
  app_name = None;
  procid = None;
  msgid = None;
  elements = record { id = 115 ∷ 115 ∷ 105 ∷ 103 ∷ 110 ∷ []; parameters = [] } ∷ [];
  msg = None;
}

abbrev spoilt_text : List ℕ
spoilt_text = text spoilt_value

-- its note says that it is spoilt
pub record IsSpoiltText : Type 0 where
  pub cause : Spoil
  pub noted_so : note spoilt_text ≡ Spoilt cause

pub spoilt_text_is : ReadingsAreOfValues → IsSpoiltText
unfolding note signature_reading is_name
spoilt_text_is values =
    let read = values.0 spoilt_text spoilt_value
    (record { pri = omega arith; stamp = refl; hostname = refl; app_name = refl; procid = refl; msgid = refl; names = refl; raws = refl; ids = refl; msg = refl })
    refl in
    record { cause = _; noted_so = ap (noted spoilt_text) read }

-- ---- the log

module _ (keep : BlockMessage → Bool) where
  abbrev hide_at : List ℕ → Option BlockMessage → List ℕ
  hide_at m None = m
  hide_at m (Some b) = cond (keep b) m spoilt_text

  -- a spoilt block stands for each block that isn't kept, from a place on
  abbrev hide : ℕ → List (List ℕ) → List (List ℕ)
  hide n [] = []
  hide n (m ∷ log) = hide_at m (block_at n (note m)) ∷ hide (n + 1) log

  module _ (spoilt : IsSpoiltText) where
    -- ---- blocks

    abbrev blocks_from : ℕ → List (List ℕ) → List BlockMessage
    blocks_from n log = filter_map (λ (i : ℕ × Note). block_at i.0 i.1) (enumerate_from n (notes log))

    block_hidden : (n : ℕ) (m : List ℕ) (o : Option BlockMessage) → block_at n (note m) ≡ o → (bs ds : List BlockMessage) → bs ≡ filter keep ds
        → cons_option (block_at n (note (hide_at m o))) bs ≡ filter keep (cons_option o ds)
    block_hidden n m None e bs ds rest = ap (λ p. cons_option p bs) e ∙ rest
    block_hidden n m (Some x) e bs ds rest = by (keep x) refl
      where
        by : (t : Bool) → keep x ≡ t → cons_option (block_at n (note (cond (keep x) m spoilt_text))) bs ≡ cond (keep x) (x ∷ filter keep ds) (filter keep ds)
        by true f =
            ap (λ t. cons_option (block_at n (note (cond t m spoilt_text))) bs) f
            ∙ ap (λ p. cons_option p bs) e
            ∙ ap (λ xs. x ∷ xs) rest
            ∙ sym (ap (λ t. cond t (x ∷ filter keep ds) (filter keep ds)) f)
        by false f =
            ap (λ t. cons_option (block_at n (note (cond t m spoilt_text))) bs) f
            ∙ ap (λ k. cons_option (block_at n k) bs) spoilt.noted_so
            ∙ rest
            ∙ sym (ap (λ t. cond t (x ∷ filter keep ds) (filter keep ds)) f)

    blocks_hidden : (n : ℕ) (log : List (List ℕ)) → blocks_from n (hide n log) ≡ filter keep (blocks_from n log)
    blocks_hidden n [] = refl
    blocks_hidden n (m ∷ log) =
        block_hidden n m (block_at n (note m)) refl (blocks_from (n + 1) (hide (n + 1) log)) (blocks_from (n + 1) log) (blocks_hidden (n + 1) log)

    -- ---- messages without a block

    abbrev normals_from : ℕ → List (List ℕ) → List NormalMessage
    normals_from n log = filter_map (λ (i : ℕ × Note). normal_at i.0 i.1) (enumerate_from n (notes log))

    no_normal : (n : ℕ) (k : Note) (x : BlockMessage) → block_at n k ≡ Some x → normal_at n k ≡ None
    no_normal n (Normal pair) x e = absurd (cc)
    no_normal n (Block t) x e = refl
    no_normal n (Spoilt cause) x e = absurd (cc)

    normal_hidden : (n : ℕ) (m : List ℕ) (o : Option BlockMessage) → block_at n (note m) ≡ o → normal_at n (note (hide_at m o)) ≡ normal_at n (note m)
    normal_hidden n m None e = refl
    normal_hidden n m (Some x) e = by (keep x)
      where
        by : (t : Bool) → normal_at n (note (cond t m spoilt_text)) ≡ normal_at n (note m)
        by true = refl
        by false = ap (normal_at n) spoilt.noted_so ∙ sym (no_normal n (note m) x e)

    normals_hidden : (n : ℕ) (log : List (List ℕ)) → normals_from n (hide n log) ≡ normals_from n log
    normals_hidden n [] = refl
    normals_hidden n (m ∷ log) =
        let head = normal_hidden n m (block_at n (note m)) refl in
        let rest = normals_hidden (n + 1) log in
        λ i. cons_option (head i) (rest i)

    pub hidden_count : (n : ℕ) (log : List (List ℕ)) → length (hide n log) ≡ length log
    hidden_count n [] = refl
    hidden_count n (m ∷ log) = ap suc (hidden_count (n + 1) log)

    pub hidden_blocks : (log : List (List ℕ)) → blocks (notes (hide 0 log)) ≡ filter keep (blocks (notes log))
    unfolding blocks
    hidden_blocks log = blocks_hidden 0 log

    pub hidden_normals : (log : List (List ℕ)) → normals (notes (hide 0 log)) ≡ normals (notes log)
    unfolding normals
    hidden_normals log = normals_hidden 0 log

-- ---- its report

module _ (says : Answers) (ps : List (List ℕ)) (log : List (List ℕ)) where
  abbrev keeps_one : BlockMessage → Bool
  keeps_one b = keeps says ps (of_session (blocks (notes log)) b.session) b

  abbrev pub hidden : List (List ℕ)
  hidden = hide keeps_one 0 log

  -- the sessions of contents with these messages and blocks
  abbrev sessions_in : List NormalMessage → List BlockMessage → List SessionReport
  sessions_in ms bs = (report_of says (record { normal = ms; blocks = bs; spoilt = []; count = 0 })).sessions

  module _ (spoilt : IsSpoiltText) where
    pub blocks_are : blocks (notes hidden) ≡ kept says ps (blocks (notes log))
    blocks_are = hidden_blocks keeps_one spoilt log

    pub normals_are : normals (notes hidden) ≡ normals (notes log)
    normals_are = hidden_normals keeps_one spoilt log

    pub same_sessions : (report says hidden).sessions ≡ (pinned_report says ps (contents (notes log))).sessions
    unfolding report_of
    same_sessions = λ i. sessions_in (normals_are i) (blocks_are i)

    pub same_shortfalls : (cs : List Counter) → shortfalls_of says hidden cs ≡ pinned_shortfalls says ps log cs
    same_shortfalls cs = λ i. log_shortfalls cs (same_sessions i) (counted_sessions says (blocks_are i))

    same_unlisted : (report says hidden).unlisted ≡ (pinned_report says ps (contents (notes log))).unlisted
    unfolding report_of
    same_unlisted = λ i. unlisted (normals_are i) (rows says (blocks_are i))

    same_count : (report says hidden).count ≡ (pinned_report says ps (contents (notes log))).count
    unfolding report_of
    same_count = length-map hidden note ∙ hidden_count keeps_one spoilt 0 log ∙ sym (length-map log note)

    pub reported_as : IsReportedAs says ps log hidden
    reported_as = record {
      normals_are = normals_are;
      blocks_are = blocks_are;
      sessions = same_sessions;
      unlisted = same_unlisted;
      count = same_count;
      missing = same_shortfalls;
    }

pub of_logs : IsSpoiltText → PinnedReportsAreOfLogs
of_logs spoilt says ps log = (hidden says ps log, reported_as says ps log spoilt)
