use Rattle.std.proofs.Common.{◌≡◌, ℕ, false, List, refl, sym, ap, ◌∙◌, subst}
use Rattle.std.specs.Prelude.{Option, Some, None, Result, Ok, Err}
use Rattle.ss_message.specs.declared.fault.BadPart.{BadPart}
use Rattle.ss_message.specs.Layout.{Layout, value_at}
use Rattle.ss_message.specs.Message.{MessageValue}
use Rattle.ss_message.specs.Reading.{layout_at}
use Rattle.ss_block.specs.declared.reading.Reading.{Reading}
use Rattle.ss_block.specs.declared.reading.Reading.TheVariants as readings
use Rattle.ss_block.specs.Reading.{reading, reading_from, value_reading}
use Rattle.ss_block.specs.ReadingLaws.{is_block}
use Rattle.ss_block.specs.declared.session.Session.{Session}
use Rattle.ss_block.specs.declared.session_places.SessionPlaces.{SessionPlaces}
use Rattle.ss_block.specs.SessionPlaces.{HasSender}
use Rattle.ss_block.specs.Session.{session, session_at, session_if_block}
use Rattle.ss_review.specs.declared.keep.noted.Noted.{Noted}
use Rattle.ss_review.specs.keep.Notes.{noted, note}
use Rattle.ss_review.specs.keep.Noted.{IsKeptOf, IsKeptWithoutBlock}
use Rattle.ss_review.proofs.keep.noted.noted_in.Goals as goal

-- ---- a text without a session holds no block

none_for : (r : Reading) (v : MessageValue) → session_if_block r v ≡ None → is_block r ≡ false
none_for readings.Plain v none = refl
none_for (readings.Unparsed part pos) v none = refl
none_for (readings.Signature b) v none = absurd cc
none_for (readings.Certificate c) v none = absurd cc
none_for (readings.Spoilt cause) v none = refl

none_at : (t : List ℕ) (l : Result Layout BadPart) → session_at t l ≡ None → is_block (reading_from t l) ≡ false
none_at t (Ok l) none = none_for (value_reading (value_at t l)) (value_at t l) none
none_at t (Err e) none = refl

no_block : (t : List ℕ) → session t ≡ None → is_block (reading t) ≡ false
unfolding session reading
no_block t none = none_at t (layout_at t) none

-- where no place of a session is known, there is no session
no_sender : (octets : Option (List ℕ)) (s : Option Session) → HasSender octets None s → s ≡ None
no_sender (Some octets) s has = absurd has
no_sender None s has = has

sender_absent : (octets : Option (List ℕ)) (p : Option SessionPlaces) (s : Option Session) → HasSender octets p s → p ≡ None → s ≡ None
sender_absent octets p s has none = no_sender octets s (subst (λ p. HasSender octets p s) none has)

-- ---- and is kept so

without : (place : ℕ) (text : List ℕ) (r : Reading) (n : Noted) → note text ≡ noted text r → is_block r ≡ false → IsKeptWithoutBlock r n → IsKeptOf place text n
without place text readings.Plain n note_is none is = subst (IsKeptOf place text) (sym is) note_is
without place text (readings.Unparsed part pos) n note_is none is = subst (IsKeptOf place text) (sym is) note_is
without place text (readings.Signature b) n note_is none is = absurd cc
without place text (readings.Certificate c) n note_is none is = absurd cc
without place text (readings.Spoilt cause) n note_is none is = subst (IsKeptOf place text) (sym is) note_is

unkept : (place : ℕ) (text : List ℕ) (r : Reading) (n : Noted) → r ≡ reading text → session text ≡ None → IsKeptWithoutBlock r n → IsKeptOf place text n
unfolding note
unkept place text r n is none kept = without place text r n (ap (noted text) (sym is)) (ap is_block is ∙ no_block text none) kept

pub returns-in_default : goal.returns-in_default
returns-in_default c =
    let told = c.in_ok-reading.ensures in
    let r = c.in_ok-reading.field-0 in
    unkept c.args.place c.args.text.now r.reading c.without_block.result told.reading
    (sender_absent r.signed r.sender (session c.args.text.now) told.sender c.in_default.is) c.without_block.ensures
