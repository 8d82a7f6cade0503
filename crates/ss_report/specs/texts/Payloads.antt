-- The payloads that questions are about: each once, and the index of each among these.
use Rattle.std.specs.Prelude.{◌≡◌, ℕ, Bool, not, List, [], ◌∷◌, ◌++◌, if◌then◌else◌, fold, map}
use Rattle.std.specs.List.{list_any, position_or_len}
use Rattle.std.specs.Str.{bytes_eq}
use Rattle.ss_review.specs.declared.questions.asked.AskedSession.{AskedSession}
use Rattle.ss_report.specs.declared.texts.payload_marks.Mark.{Mark}
use Rattle.ss_report.specs.declared.payloads.Payloads.{Payloads}
use Rattle.ss_report.specs.declared.payloads.Payloads.TheVariants as payloads

-- whether a payload is one of these
abbrev pub is_among : List (List ℕ) → List ℕ → Bool
is_among ps p = list_any (bytes_eq p) ps

-- these payloads, and after them this one, if it isn't one of them
abbrev pub with_payload : List (List ℕ) → List ℕ → List (List ℕ)
with_payload ps p = if is_among ps p then ps else ps ++ p ∷ []

-- payloads, each once, in the order in which they come first
unfoldable pub each_once : List (List ℕ) → List (List ℕ)
each_once ps = fold with_payload [] ps

-- the index of a payload among these, from 0
abbrev pub index_among : List (List ℕ) → List ℕ → ℕ
index_among ps p = position_or_len (bytes_eq p) ps

-- the index of a payload among all, each once, and whether none before equals it
abbrev pub mark : (known before : List (List ℕ)) → List ℕ → Mark
mark known before p = record { index = index_among known p; is_new = not (is_among before p) }

-- the marks of payloads that come after these
abbrev pub marks_behind : (known before : List (List ℕ)) → List (List ℕ) → List Mark
marks_behind known before [] = []
marks_behind known before (p ∷ ps) = mark known before p ∷ marks_behind known (before ++ p ∷ []) ps

-- the mark of each of the payloads
unfoldable pub marks : List (List ℕ) → List Mark
marks ps = marks_behind (each_once ps) [] ps

-- they are the marks of the payloads of these sessions, where each payload is written once
abbrev pub AreMarks : Payloads → List AskedSession → List Mark → Type 0
AreMarks payloads.InEach ss ms = Unit {0}
AreMarks payloads.Once ss ms = ms ≡ marks (map (λ s. s.payload) ss)
