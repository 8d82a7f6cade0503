-- Who sent a block, in its text and in what is left without SIGN.
use Rattle.std.proofs.Common.{◌≡◌, ℕ, ◌+◌, ◌≤◌, List, [], ◌∷◌, ◌++◌, length, Option, Some, None, sym, ap, subst, ◌∙◌, arith}
use Rattle.std.specs.Prelude.{codes, IfSome}
use Rattle.std.specs.List.{flat_map}
use Rattle.std.proofs.lemmas.List.{length-append}
use Rattle.ss_message.specs.declared.span.Span.{Span}
use Rattle.ss_message.specs.declared.message.Message.{Message}
use Rattle.ss_message.specs.Octets.{part_of}
use Rattle.ss_message.specs.Message.{MessageValue, field_text, before_hostname, before_app_name, before_procid, header_text, element_text, parameter_text, text}
use Rattle.ss_message.specs.Layout.{Layout, layout_of, value_of, value_at, field_of}
use Rattle.ss_message.specs.Places.{IsWithin, SpanLies, PartsLie}
use Rattle.ss_block.specs.declared.reading.Reading.{Reading}
use Rattle.ss_block.specs.declared.reading.Reading.TheVariants.{Signature, Certificate}
use Rattle.ss_block.specs.declared.session.Session.{Session}
use Rattle.ss_block.specs.declared.session_places.SessionPlaces.{SessionPlaces}
use Rattle.ss_block.specs.Block as block
use Rattle.ss_block.specs.SignPlace.{block_id}
use Rattle.ss_block.specs.Parsed.{IsRead}
use Rattle.ss_block.specs.PlacedReading.{StandsBefore}
use Rattle.ss_block.specs.Reading.{value_reading}
use Rattle.ss_block.specs.Session.{field_from, session_from, session_if_block}
use Rattle.ss_block.specs.SessionPlaces.{LieIn, HasSender, session_at}
use Rattle.ss_block.specs.Signed.{unsigned_value, signed_if_block}
use Rattle.ss_block.proofs.Blocks.{with_block}
use Rattle.ss_block.proofs.Layouts.{follows}
use Rattle.ss_block.proofs.SignPlaces.{front_of, back_of, sign_of, rounds, elements_some}
use Rattle.ss_block.proofs.ContentPlaces.{part_left, within_left}

-- ---- the header

-- a field stands one octet before the next
next_field : (t before octets next : List ℕ) (a b : Span) → SpanLies t before octets a → SpanLies t ((before ++ octets) ++ 32 ∷ []) next b → a.end + 1 ≡ b.start
next_field t before octets next a b first second =
    omega (arith, first.behind.ends, first.stands.ends, second.behind.ends, length-append (before ++ octets) (32 ∷ []), length-append before octets)

-- the places of a message's session
abbrev places_of : Layout → ℕ → SessionPlaces
places_of l rsid = record { host = l.hostname; app = l.app_name; procid = l.procid; rsid = rsid }

-- they end before MSGID begins
fields_before : (t : List ℕ) (l : Layout) (rsid : ℕ) → PartsLie t l → StandsBefore (Some (places_of l rsid)) (Some l.msgid)
fields_before t l rsid places =
    let v : MessageValue = value_at t l in
    let app = next_field t (before_hostname v) (field_text v.hostname) (field_text v.app_name) l.hostname l.app_name places.hostname.lies places.app_name.lies in
    let procid = next_field t (before_app_name v) (field_text v.app_name) (field_text v.procid) l.app_name l.procid places.app_name.lies places.procid.lies in
    let msgid = next_field t (before_procid v) (field_text v.procid) (field_text v.msgid) l.procid l.msgid places.procid.lies places.msgid.lies in (
      omega (arith, app, procid, msgid, places.app_name.within.0, places.procid.within.0),
      omega (arith, procid, msgid, places.procid.within.0),
      omega (arith, msgid),
    )

pub sender_before : (m : Message) (rsid : ℕ) → IsRead m → StandsBefore (Some (places_of (layout_of m) rsid)) (Some m.msgid)
sender_before m rsid read = fields_before m.source.now (layout_of m) rsid read.places

-- what begins behind MSGID begins behind a sender who stands before MSGID
pub stands_before : (p : Option SessionPlaces) (s : Option Span) (msgid : Span) → StandsBefore p (Some msgid) → IfSome s (λ x. msgid.start ≤ x.start) → StandsBefore p s
stands_before None s msgid before behind = tt
stands_before (Some p) None msgid before behind = tt
stands_before (Some p) (Some s) msgid before behind = (omega (arith, before.0, behind), omega (arith, before.1, behind), omega (arith, before.2, behind))

-- ---- in the signed octets as well

-- a part of the header stands where it stood
record PartLeft (t octets : List ℕ) (s : Span) : Type 0 where
  within : IsWithin octets s
  same : part_of t s ≡ part_of octets s

part_stays : (t octets front x y : List ℕ) (long : ℕ) (s : Span) → long ≤ length front → t ≡ front ++ x → octets ≡ front ++ y → s.start ≤ s.end → s.end ≤ long → PartLeft t octets s
part_stays t octets front x y long s fits whole left order before =
    let end : s.end ≤ length front = omega (arith, fits, before) in
    record { within = within_left octets front y s order end left; same = part_left t octets front x y s order end whole left }

-- the session that three texts spell
abbrev spelled_by : List ℕ → List ℕ → List ℕ → ℕ → Session
spelled_by host app procid rsid = record { host = field_from (field_of host); app = field_from (field_of app); procid = field_from (field_of procid); rsid = rsid }

pub sender_left : (m : Message) (id : List ℕ) (rsid : ℕ) → IsRead m → block_id (value_reading (value_of m)) ≡ Some id
    → LieIn (text (unsigned_value (value_of m))) (places_of (layout_of m) rsid) × (Some (session_from (value_of m) rsid) ≡ Some (session_at (text (unsigned_value (value_of m))) (places_of (layout_of m) rsid)))
sender_left m id rsid read is_block =
    let t : List ℕ = m.source.now in
    let l : Layout = layout_of m in
    let v : MessageValue = value_of m in
    let b = with_block v id read.valid.ids is_block in
    let r = rounds v id b in
    let f = follows t l read.places (elements_some t l.elements b.before _ b.after b.is) in
    let h = fields_before t l rsid read.places in
    let last = read.places.msgid.within.0 in
    let F : List ℕ = flat_map element_text b.before in
    let P : List ℕ = flat_map parameter_text b.parameters in
    let front : List ℕ = front_of v b.before id b.parameters in
    let long : length (header_text v) ≤ length front = omega (arith, length-append (header_text v ++ F ++ 91 ∷ id) P, length-append (header_text v ++ F) (91 ∷ id), length-append (header_text v) F) in
    let x : List ℕ = parameter_text (sign_of b.raw) ++ back_of v b.after in
    let y : List ℕ = back_of v b.after in
    let octets : List ℕ = text (unsigned_value v) in
    let whole : t ≡ front ++ x = read.spelled ∙ r.whole in
    let host = part_stays t octets front x y (length (header_text v)) l.hostname long whole r.left read.places.hostname.within.0 (omega (arith, h.0, last, f.header)) in
    let app = part_stays t octets front x y (length (header_text v)) l.app_name long whole r.left read.places.app_name.within.0 (omega (arith, h.1, last, f.header)) in
    let procid = part_stays t octets front x y (length (header_text v)) l.procid long whole r.left read.places.procid.within.0 (omega (arith, h.2, last, f.header)) in (
      (host.within, app.within, procid.within),
      ap (λ (o : List ℕ). Some (spelled_by o (part_of t l.app_name) (part_of t l.procid) rsid)) host.same
          ∙ ap (λ (o : List ℕ). Some (spelled_by (part_of octets l.hostname) o (part_of t l.procid) rsid)) app.same
          ∙ ap (λ (o : List ℕ). Some (spelled_by (part_of octets l.hostname) (part_of octets l.app_name) o rsid)) procid.same,
    )

-- what is told of a message with this reading and RSID
abbrev pub IsTold : Message → Reading → ℕ → Type 0
IsTold m r rsid = HasSender (signed_if_block r (value_of m)) (Some (places_of (layout_of m) rsid)) (session_if_block r (value_of m))

pub told_of_signature : (m : Message) (r : Reading) (b : block.Signature) (rsid : ℕ) → IsRead m → r ≡ value_reading (value_of m) → r ≡ Signature b → rsid ≡ b.rsid → IsTold m r rsid
told_of_signature m r b rsid read is block same =
    let id : block_id (value_reading (value_of m)) ≡ block_id (Signature b) = ap block_id (sym is ∙ block) in
    let told : IsTold m (Signature b) b.rsid = sender_left m (codes "ssign") b.rsid read id in
    subst (λ (x : Reading). IsTold m x rsid) (sym block) (subst (λ (n : ℕ). IsTold m (Signature b) n) (sym same) told)

pub told_of_certificate : (m : Message) (r : Reading) (c : block.Certificate) (rsid : ℕ) → IsRead m → r ≡ value_reading (value_of m) → r ≡ Certificate c → rsid ≡ c.rsid → IsTold m r rsid
told_of_certificate m r c rsid read is block same =
    let id : block_id (value_reading (value_of m)) ≡ block_id (Certificate c) = ap block_id (sym is ∙ block) in
    let told : IsTold m (Certificate c) c.rsid = sender_left m (codes "ssign-cert") c.rsid read id in
    subst (λ (x : Reading). IsTold m x rsid) (sym block) (subst (λ (n : ℕ). IsTold m (Certificate c) n) (sym same) told)
