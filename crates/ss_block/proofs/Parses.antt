-- What is known of a text from its parse.
use Rattle.std.proofs.Common.{◌≡◌, ℕ, List, Some, None, Result, Ok, Err, refl, sym, ap, ◌∙◌}
use Rattle.ss_message.specs.declared.fault.BadPart.{BadPart}
use Rattle.ss_message.specs.declared.message.Message.{Message}
use Rattle.ss_message.specs.Layout.{Layout, value_of}
use Rattle.ss_message.specs.Reading.{layout_at}
use Rattle.ss_block.specs.declared.reading.Reading.{Reading}
use Rattle.ss_block.specs.Parsed.{IsFault, IsParsed, IsReadAs}
use Rattle.ss_block.specs.Reading.{value_reading, reading_from, reading}
use Rattle.ss_block.specs.Session.{session, session_at, session_if_block}
use Rattle.ss_block.specs.Signed.{signed, signed_from, signed_if_block}

pub signed_none : (t : List ℕ) → IsParsed t None → None ≡ signed t
unfolding signed
signed_none t fault = by_layout t (layout_at t) fault
  where
    by_layout : (t : List ℕ) (r : Result Layout BadPart) → IsFault r → None ≡ signed_from t r
    by_layout t (Ok l) fault = absurd fault
    by_layout t (Err e) fault = refl

pub signed_some : (t : List ℕ) (m : Message) → IsParsed t (Some m) → signed t ≡ signed_if_block (value_reading (value_of m)) (value_of m)
unfolding signed
signed_some t m p = ap signed (sym p.0) ∙ ap (signed_from m.source.now) p.1.layout

pub session_none : (t : List ℕ) → IsParsed t None → None ≡ session t
unfolding session
session_none t fault = by_layout t (layout_at t) fault
  where
    by_layout : (t : List ℕ) (r : Result Layout BadPart) → IsFault r → None ≡ session_at t r
    by_layout t (Ok l) fault = absurd fault
    by_layout t (Err e) fault = refl

pub session_some : (t : List ℕ) (m : Message) → IsParsed t (Some m) → session t ≡ session_if_block (value_reading (value_of m)) (value_of m)
unfolding session
session_some t m p = ap session (sym p.0) ∙ ap (session_at m.source.now) p.1.layout

-- ---- as a text was read

pub reading_some : (t : List ℕ) (m : Message) → IsParsed t (Some m) → reading t ≡ value_reading (value_of m)
unfolding reading
reading_some t m p = ap reading (sym p.0) ∙ ap (reading_from m.source.now) p.1.layout

pub value_read : (t : List ℕ) (r : Reading) (m : Message) → IsReadAs t r (Some m) → r ≡ value_reading (value_of m)
value_read t r m read = read.reading ∙ reading_some t m read.parsed

pub session_read : (t : List ℕ) (r : Reading) (m : Message) → IsReadAs t r (Some m) → session_if_block r (value_of m) ≡ session t
session_read t r m read = ap (λ (x : Reading). session_if_block x (value_of m)) (value_read t r m read) ∙ sym (session_some t m read.parsed)

pub signed_read : (t : List ℕ) (r : Reading) (m : Message) → IsReadAs t r (Some m) → signed_if_block r (value_of m) ≡ signed t
signed_read t r m read = ap (λ (x : Reading). signed_if_block x (value_of m)) (value_read t r m read) ∙ sym (signed_some t m read.parsed)
