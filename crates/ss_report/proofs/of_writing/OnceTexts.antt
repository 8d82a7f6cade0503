-- The text of questions of which each payload is written once, one session after the other.
use Rattle.std.proofs.Common.{◌≡◌, ℕ, ◌+◌, ◌<◌, List, [], ◌∷◌, ◌++◌, length, get_or, take, map, refl, sym, ap, ◌∙◌, arith, append_assoc}
use Rattle.std.specs.Prelude.{min, zip}
use Rattle.std.specs.List.{flat_map}
use Rattle.std.proofs.lemmas.List.{take_all}
use Rattle.std.proofs.lemmas.List.Concat.{flat_map-append}
use Rattle.std.proofs.lemmas.Slice.Zip.{length-zip, get_or-zip}
use Rattle.ss_frame.specs.Watched.{Sink}
use Rattle.ss_review.specs.declared.questions.asked.AskedBlock.{AskedBlock}
use Rattle.ss_review.specs.declared.questions.asked.AskedSession.{AskedSession}
use Rattle.ss_report.specs.texts.Asked.{AskYes}
use Rattle.ss_report.specs.log.Writing.{Writes}
use Rattle.ss_report.specs.declared.notation.Notation.{Notation}
use Rattle.ss_report.specs.declared.texts.payload_marks.Mark.{Mark}
use Rattle.ss_report.specs.texts.Payloads.{marks}
use Rattle.ss_report.specs.texts.QuestionsOnce.{TrustLine, YesLine, line_of, once_line, once_text_of, payload_lines, session_once, session_once_text}
use Rattle.ss_report.proofs.of_writing.SessionsOnce.{lines_of_sessions, payloads}
use Rattle.ss_report.proofs.of_writing.Writings.{writes_more, writes_same}

-- the line about a block
abbrev pub yes_line : Notation → ℕ → AskedSession → AskedBlock → List ℕ
yes_line notation index s b = once_line notation (YesLine index s.session b)

module _ (notation : Notation) where
  yes_lines : (index : ℕ) (s : AskedSession) (bs : List AskedBlock)
      → flat_map (yes_line notation index s) bs ≡ flat_map (once_line notation) (map (line_of index) (map (AskYes s) bs))
  yes_lines index s [] = refl
  yes_lines index s (b ∷ bs) = ap (λ ls. yes_line notation index s b ++ ls) (yes_lines index s bs)

  -- the line of the payload, where it is new, that about trust, and those about the blocks
  pub session_text : (m : Mark) (s : AskedSession) (payload : List ℕ) → payload ≡ s.payload
      → (flat_map (once_line notation) (payload_lines m payload) ++ once_line notation (TrustLine m.index s.session)) ++ flat_map (yes_line notation m.index s) s.blocks
      ≡ session_once_text notation (m, s)
  session_text m s payload p =
      let lines = flat_map (once_line notation) in
      let trust = once_line notation (TrustLine m.index s.session) in
      ap (λ x. (lines (payload_lines m x) ++ trust) ++ flat_map (yes_line notation m.index s) s.blocks) p
      ∙ append_assoc (lines (payload_lines m s.payload)) trust (flat_map (yes_line notation m.index s) s.blocks)
      ∙ ap (λ ls. lines (payload_lines m s.payload) ++ (trust ++ ls)) (yes_lines m.index s s.blocks)
      ∙ sym (flat_map-append (once_line notation) (payload_lines m s.payload) (TrustLine m.index s.session ∷ map (line_of m.index) (map (AskYes s) s.blocks)))

  sessions_text : (ps : List (Mark × AskedSession)) → flat_map (session_once_text notation) ps ≡ flat_map (once_line notation) (flat_map session_once ps)
  sessions_text [] = refl
  sessions_text (p ∷ ps) =
      ap (λ ls. session_once_text notation p ++ ls) (sessions_text ps) ∙ sym (flat_map-append (once_line notation) (session_once p) (flat_map session_once ps))

  all_text : (ss : List AskedSession) → flat_map (session_once_text notation) (zip (marks (payloads ss)) ss) ≡ once_text_of notation ss
  unfolding once_text_of
  all_text ss = sessions_text (zip (marks (payloads ss)) ss) ∙ ap (flat_map (once_line notation)) (lines_of_sessions ss)

  module _ (ms : List Mark) (ss : List AskedSession) where
    -- the text so far, and then that of the next session
    pub once_more : (a b d : Sink) (n k : ℕ) (m : Mark) (s : AskedSession) → n < length ms → n < length ss → m ≡ get_or ms n m → s ≡ get_or ss n s → k ≡ n + 1
        → Writes a b (flat_map (session_once_text notation) (take n (zip ms ss))) → Writes b d (session_once_text notation (m, s)) → Writes a d (flat_map (session_once_text notation) (take k (zip ms ss)))
    once_more a b d n k m s in_marks in_sessions mark session more so_far next =
        let both : n < length (zip ms ss) = omega (arith, length-zip ms ss, in_marks, in_sessions) in
        let pair : (m, s) ≡ get_or (zip ms ss) n (m, s) = (λ i. (mark i, session i)) ∙ sym (get_or-zip ms ss n (m, s) in_marks in_sessions) in
        writes_same a d _ _ (writes_more (session_once_text notation) (zip ms ss) n (m, s) a b d _ both so_far next (ap (session_once_text notation) pair))
        (ap (λ j. flat_map (session_once_text notation) (take j (zip ms ss))) (sym more))

    pub once_all : (a b : Sink) (n : ℕ) → ms ≡ marks (payloads ss) → n ≡ min (length ms) (length ss) → Writes a b (flat_map (session_once_text notation) (take n (zip ms ss)))
        → Writes a b (once_text_of notation ss)
    once_all a b n are all so_far =
        writes_same a b _ _ so_far
        (ap (flat_map (session_once_text notation)) (take_all n (zip ms ss) (omega (arith, length-zip ms ss, all)))
        ∙ ap (λ l. flat_map (session_once_text notation) (zip l ss)) are ∙ all_text ss)
