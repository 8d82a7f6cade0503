-- The lines of questions session by session, of which each payload is written once.
use Rattle.std.proofs.Common.{◌≡◌, ℕ, true, not, List, [], ◌∷◌, ◌++◌, map, refl, sym, ap, ◌∙◌, append_assoc, cond}
use Rattle.std.specs.Prelude.{◌||◌, zip, fold}
use Rattle.std.specs.List.{flat_map}
use Rattle.std.specs.Str.{bytes_eq}
use Rattle.ss_review.specs.declared.questions.asked.AskedBlock.{AskedBlock}
use Rattle.ss_review.specs.declared.questions.asked.AskedSession.{AskedSession}
use Rattle.ss_report.specs.texts.Asked.{AskYes, Asking, askings, payload_of, session_askings}
use Rattle.ss_report.specs.texts.Payloads.{each_once, index_among, is_among, mark, marks_behind, marks, with_payload}
use Rattle.ss_report.specs.texts.QuestionsOnce.{TrustLine, line_of, marked_lines, once_lines, payload_lines, session_once}
use Rattle.ss_report.proofs.of_writing.OnceRead.{lines_behind}
use Rattle.ss_report.proofs.of_writing.PayloadIndexes.{among_last, among_more, covered, next_among}

-- two lists with the same payloads
abbrev pub Alike : (b c : List (List ℕ)) → Type 0
Alike b c = (p : List ℕ) → is_among b p ≡ is_among c p

alike_more : (b c : List (List ℕ)) (x : List ℕ) → Alike b c → Alike (b ++ x ∷ []) (c ++ x ∷ [])
alike_more b c x alike p = among_more b x p ∙ ap (λ a. a || bytes_eq p x) (alike p) ∙ sym (among_more c x p)

marks_alike : (known b c ps : List (List ℕ)) → Alike b c → marks_behind known b ps ≡ marks_behind known c ps
marks_alike known b c [] alike = refl
marks_alike known b c (p ∷ ps) alike =
    ap (λ a. record { index = index_among known p; is_new = not a } ∷ marks_behind known (b ++ p ∷ []) ps) (alike p)
    ∙ ap (λ ms. mark known c p ∷ ms) (marks_alike known (b ++ p ∷ []) (c ++ p ∷ []) ps (alike_more b c p alike))

lines_alike : (known b c : List (List ℕ)) (qs : List Asking) → Alike b c → lines_behind known b qs ≡ lines_behind known c qs
lines_alike known b c qs alike = ap (λ ms. flat_map marked_lines (zip ms qs)) (marks_alike known b c (map payload_of qs) alike)

-- a payload that is among them already
alike_again : (b : List (List ℕ)) (x : List ℕ) → is_among b x ≡ true → Alike (b ++ x ∷ []) b
alike_again b x among p = among_more b x p ∙ sym (covered b x p (bytes_eq p x) refl among)

-- the lines about blocks whose payload was written
blocks_behind : (known before : List (List ℕ)) (s : AskedSession) (bs : List AskedBlock) (qs : List Asking) → is_among before s.payload ≡ true
    → lines_behind known before (map (AskYes s) bs ++ qs) ≡ map (line_of (index_among known s.payload)) (map (AskYes s) bs) ++ lines_behind known before qs
blocks_behind known before s [] qs among = refl
blocks_behind known before s (b ∷ bs) qs among =
    let p = s.payload in
    let asked = line_of (index_among known p) (AskYes s b) in
    let rest = map (AskYes s) bs ++ qs in
    ap (λ a. (payload_lines (record { index = index_among known p; is_new = not a }) p ++ asked ∷ []) ++ lines_behind known (before ++ p ∷ []) rest) among
    ∙ ap (λ ls. asked ∷ ls) (lines_alike known (before ++ p ∷ []) before rest (alike_again before p among) ∙ blocks_behind known before s bs qs among)

session_behind : (known before : List (List ℕ)) (s : AskedSession) (qs : List Asking)
    → lines_behind known before (session_askings s ++ qs) ≡ session_once (mark known before s.payload, s) ++ lines_behind known (before ++ s.payload ∷ []) qs
session_behind known before s qs =
    let p = s.payload in
    let m = mark known before p in
    let asked = map (line_of m.index) (map (AskYes s) s.blocks) in
    let rest = lines_behind known (before ++ p ∷ []) qs in
    ap (λ ls. (payload_lines m p ++ TrustLine m.index s.session ∷ []) ++ ls) (blocks_behind known (before ++ p ∷ []) s s.blocks qs (among_last before p))
    ∙ append_assoc (payload_lines m p) (TrustLine m.index s.session ∷ []) (asked ++ rest)
    ∙ sym (append_assoc (payload_lines m p) (TrustLine m.index s.session ∷ asked) rest)

abbrev pub payloads : List AskedSession → List (List ℕ)
payloads ss = map (λ (s : AskedSession). s.payload) ss

sessions_behind : (known before : List (List ℕ)) (ss : List AskedSession)
    → lines_behind known before (flat_map session_askings ss) ≡ flat_map session_once (zip (marks_behind known before (payloads ss)) ss)
sessions_behind known before [] = refl
sessions_behind known before (s ∷ ss) =
    session_behind known before s (flat_map session_askings ss)
    ∙ ap (λ ls. session_once (mark known before s.payload, s) ++ ls) (sessions_behind known (before ++ s.payload ∷ []) ss)

again : (ws : List (List ℕ)) (p : List ℕ) → is_among ws p ≡ true → with_payload ws p ≡ ws
again ws p among = ap (λ b. cond b ws (ws ++ p ∷ [])) among

blocks_known : (ws : List (List ℕ)) (s : AskedSession) (bs : List AskedBlock) (qs : List Asking) → is_among ws s.payload ≡ true
    → fold with_payload ws (map payload_of (map (AskYes s) bs ++ qs)) ≡ fold with_payload ws (map payload_of qs)
blocks_known ws s [] qs among = refl
blocks_known ws s (b ∷ bs) qs among =
    ap (λ l. fold with_payload l (map payload_of (map (AskYes s) bs ++ qs))) (again ws s.payload among) ∙ blocks_known ws s bs qs among

sessions_known : (ws : List (List ℕ)) (ss : List AskedSession)
    → fold with_payload ws (map payload_of (flat_map session_askings ss)) ≡ fold with_payload ws (payloads ss)
sessions_known ws [] = refl
sessions_known ws (s ∷ ss) =
    blocks_known (with_payload ws s.payload) s s.blocks (flat_map session_askings ss) (next_among ws s.payload) ∙ sessions_known (with_payload ws s.payload) ss

-- the lines of all that is asked are those of the sessions, one after the other
pub lines_of_sessions : (ss : List AskedSession) → flat_map session_once (zip (marks (payloads ss)) ss) ≡ once_lines (askings ss)
unfolding once_lines marks each_once askings
lines_of_sessions ss =
    sym (ap (λ known. lines_behind known [] (flat_map session_askings ss)) (sessions_known [] ss) ∙ sessions_behind (each_once (payloads ss)) [] ss)
