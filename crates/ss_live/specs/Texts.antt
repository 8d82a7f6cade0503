-- How answers are spelled.
use Rattle.std.specs.Prelude.{ℕ, ◌++◌, List, ◌∷◌, codes, decimal}
use Rattle.hex.specs.Hex.{encode_lower}
use Rattle.ss_octets.specs.Ascii.{sp}
use Rattle.ss_live.specs.declared.answer.Answer.{Answer}
use Rattle.ss_live.specs.declared.answer.Answer.TheVariants as answers
use Rattle.ss_live.specs.declared.answer.Reason.{Reason}
use Rattle.ss_live.specs.declared.answer.Reason.TheVariants as reasons

abbrev pub word_of : Reason → List ℕ
word_of reasons.Event = codes "event"
word_of reasons.Message = codes "message"
word_of reasons.Own = codes "own"
word_of reasons.Busy = codes "busy"
word_of reasons.Nothing = codes "nothing"
word_of reasons.Signature = codes "signature"

-- SP and a number
abbrev pub spaced : ℕ → List ℕ
spaced number = sp ∷ decimal number

abbrev pub answer_text : Answer → List ℕ
answer_text (answers.Confirmed count) = codes "c" ++ spaced count
answer_text (answers.Refused reason) = codes "r " ++ word_of reason
answer_text (answers.Want octets) = codes "w" ++ octets
answer_text (answers.Done number gbc) = codes "d" ++ spaced number ++ spaced gbc
answer_text (answers.Pending name count) = codes "p" ++ spaced name ++ spaced count
answer_text (answers.Ended name sum) = codes "e" ++ spaced name ++ codes " " ++ encode_lower sum
answer_text (answers.Begun name) = codes "b" ++ spaced name
