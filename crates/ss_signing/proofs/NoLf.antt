-- Texts without LF: headers, values of blocks, block messages and wraps.
use Rattle.std.proofs.Common.{◌≡◌, ℕ, zero, suc, ◌+◌, ◌-◌, ◌/◌, ◌%◌, ◌≤◌, Bool, true, false, cond, eqb, leb, List, [], ◌∷◌, ◌++◌, length, map, take, drop, refl, sym, ap, ◌∙◌, subst, arith}
use Rattle.std.specs.Prelude.{Option, Some, None, decimal, nat_lt, nat_le, not, ◌&&◌, ◌==◌, if◌then◌else◌}
use Rattle.std.specs.Fmt.{digits, digits_onto, digit_glyph}
use Rattle.std.specs.List.{AllByRecursion, flat_map, join_with_byte, list_all}
use Rattle.std.proofs.lemmas.Bool.{and_parts, leb-true, ne_eqb}
use Rattle.ss_octets.specs.StrictBase64.{base64}
use Rattle.ss_octets.proofs.Base64Text.{Clear, Clear-append, Clear-base64}
use Rattle.ss_message.specs.declared.stamp.Offset.{Offset}
use Rattle.ss_message.specs.declared.stamp.Offset.TheVariants.{Utc, Plus, Minus}
use Rattle.ss_message.specs.Message.{ParameterValue, ElementValue, MessageValue, element_text, field_text, header_text, is_field, is_timestamp, msg_text, parameter_text, structured_text, text, timestamp_text}
use Rattle.ss_message.specs.Octets.{is_absent, is_printable, is_special, is_text}
use Rattle.ss_message.specs.Raw.{escaped, escaped_octet}
use Rattle.ss_message.specs.Stamp.{Moment, date_text, fraction_text, offset_text, padded, stamp_text, time_text}
use Rattle.ss_payload.specs.declared.kind.Kind.{Kind}
use Rattle.ss_payload.specs.declared.kind.Kind.TheVariants.{C, P, K, N, U}
use Rattle.ss_payload.specs.declared.cuts.Cut.{Cut}
use Rattle.ss_payload.specs.Cuts.{piece_of}
use Rattle.ss_payload.specs.Payload.{PayloadValue, blob_text, letter, payload_text}
use Rattle.ss_block.specs.declared.hash.Alg.{Alg}
use Rattle.ss_block.specs.declared.hash.Alg.TheVariants as algs
use Rattle.ss_block.specs.declared.hash.Hash.{Hash}
use Rattle.ss_block.specs.declared.block_parameter.BlockParameter.TheVariants as kinds
use Rattle.ss_block.specs.Block as block
use Rattle.ss_block.specs.Head.{HeadValue, IsHead}
use Rattle.ss_block.specs.Parameters.{name_of}
use Rattle.ss_block.specs.Versions.{version_text}
use Rattle.ss_block.specs.Writing.{block_message, certificate_parameters, certificate_text, hash_octets, hashes_text, parameter, sign_parameter, signature_parameters, signature_text}
use Rattle.ss_wrap.specs.Wrap.{needs_wrap, prepared, wrap_text, wrap_value}

abbrev pub NoLf : List ℕ → Type 0
NoLf octets = Clear 10 octets

above : (a : ℕ) → 11 ≤ a → eqb a 10 ≡ false
above a more = ne_eqb a 10 (λ e. let is : a ≡ 10 = e in absurd (omega (arith, more, is)))

either : (b : Bool) (x y : List ℕ) → NoLf x → NoLf y → NoLf (if b then x else y)
either true x y h k = h
either false x y h k = k

-- ---- numbers, stamps and fields

glyph : (b : Bool) (d : ℕ) → eqb (if b then 48 + d else 87 + d) 10 ≡ false
glyph true d = above (48 + d) (omega arith)
glyph false d = above (87 + d) (omega arith)

digits_clear : (k n : ℕ) (acc : List ℕ) → NoLf acc → NoLf (digits_onto k 10 false n acc)
digits_clear zero n acc h = h
digits_clear (suc k) n acc h =
    let more : NoLf (digit_glyph false (n % 10) ∷ acc) = (glyph (nat_lt (n % 10) 10) (n % 10), h) in
    either (n / 10 == 0) (digit_glyph false (n % 10) ∷ acc) (digits_onto k 10 false (n / 10) (digit_glyph false (n % 10) ∷ acc)) more
    (digits_clear k (n / 10) (digit_glyph false (n % 10) ∷ acc) more)

decimal_clear : (n : ℕ) → NoLf (decimal n)
unfolding digits
decimal_clear n = digits_clear 64 n [] tt

padded_clear : (w n : ℕ) → NoLf (padded w n)
padded_clear zero n = tt
padded_clear (suc w) n = Clear-append 10 (padded w (n / 10)) ((48 + n % 10) ∷ []) (padded_clear w (n / 10)) (above (48 + n % 10) (omega arith), tt)

fraction_clear : (count n : ℕ) → NoLf (fraction_text count n)
fraction_clear zero n = tt
fraction_clear (suc more) n = (refl, padded_clear (suc more) n)

offset_clear : (o : Offset) → NoLf (offset_text o)
offset_clear Utc = (refl, tt)
offset_clear (Plus hour minute) = (refl, Clear-append 10 (padded 2 hour) (58 ∷ padded 2 minute) (padded_clear 2 hour) (refl, padded_clear 2 minute))
offset_clear (Minus hour minute) = (refl, Clear-append 10 (padded 2 hour) (58 ∷ padded 2 minute) (padded_clear 2 hour) (refl, padded_clear 2 minute))

three : (x y z : List ℕ) (c : ℕ) → NoLf x → NoLf y → NoLf z → eqb c 10 ≡ false → NoLf (x ++ c ∷ y ++ c ∷ z)
three x y z c h k l other = Clear-append 10 (x ++ c ∷ y) (c ∷ z) (Clear-append 10 x (c ∷ y) h (other, k)) (other, l)

stamp_clear : (m : Moment) → NoLf (stamp_text m)
unfolding stamp_text
stamp_clear m =
    let date = three (padded 4 m.year) (padded 2 m.month) (padded 2 m.day) 45 (padded_clear 4 m.year) (padded_clear 2 m.month) (padded_clear 2 m.day) refl in
    let time = three (padded 2 m.hour) (padded 2 m.minute) (padded 2 m.second) 58 (padded_clear 2 m.hour) (padded_clear 2 m.minute) (padded_clear 2 m.second) refl in
    let both = Clear-append 10 (date_text m) (84 ∷ time_text m) date (refl, time) in
    let fraction = Clear-append 10 (date_text m ++ 84 ∷ time_text m) (fraction_text m.digits m.fraction) both (fraction_clear m.digits m.fraction) in
    Clear-append 10 (date_text m ++ 84 ∷ time_text m ++ fraction_text m.digits m.fraction) (offset_text m.offset) fraction (offset_clear m.offset)

timestamp_clear : (stamp : Option Moment) → NoLf (timestamp_text stamp)
timestamp_clear None = (refl, tt)
timestamp_clear (Some m) = stamp_clear m

printable_clear : (octets : List ℕ) → list_all is_printable octets ≡ true → NoLf octets
printable_clear [] h = tt
printable_clear (x ∷ octets) h =
    let parts = and_parts (is_printable x) (list_all is_printable octets) h in
    let least : 33 ≤ x = leb-true 33 x (and_parts (nat_le 33 x) (nat_le x 126) parts.0).0 in
    (above x (omega (arith, least)), printable_clear octets parts.1)

field_clear : (limit : ℕ) (field : Option (List ℕ)) → is_field limit field ≡ true → NoLf (field_text field)
unfolding is_text
field_clear limit None h = (refl, tt)
field_clear limit (Some octets) h =
    let text : is_text limit octets ≡ true = (and_parts (is_text limit octets) (not (is_absent octets)) h).0 in
    printable_clear octets (and_parts (nat_lt 0 (length octets) && nat_le (length octets) limit) (list_all is_printable octets) text).1

-- ---- messages

-- the fields of a header are texts
record HasFields (v : MessageValue) : Type 0 where
  hostname : is_field 255 v.hostname ≡ true
  app_name : is_field 48 v.app_name ≡ true
  procid : is_field 128 v.procid ≡ true
  msgid : is_field 32 v.msgid ≡ true

spaced : (text rest : List ℕ) → NoLf text → NoLf rest → NoLf (text ++ 32 ∷ rest)
spaced text rest h k = Clear-append 10 text (32 ∷ rest) h (refl, k)

header_clear : (v : MessageValue) → HasFields v → NoLf (header_text v)
header_clear v fields =
    let msgid = spaced (field_text v.msgid) [] (field_clear 32 v.msgid fields.msgid) tt in
    let procid = spaced (field_text v.procid) _ (field_clear 128 v.procid fields.procid) msgid in
    let app_name = spaced (field_text v.app_name) _ (field_clear 48 v.app_name fields.app_name) procid in
    let hostname = spaced (field_text v.hostname) _ (field_clear 255 v.hostname fields.hostname) app_name in
    let stamp = spaced (timestamp_text v.stamp) _ (timestamp_clear v.stamp) hostname in
    (refl, Clear-append 10 (decimal v.pri) _ (decimal_clear v.pri) (refl, (refl, (refl, stamp))))

message_clear : (v : MessageValue) → HasFields v → NoLf (structured_text v.elements) → NoLf (msg_text v.msg) → NoLf (text v)
unfolding text
message_clear v fields elements msg =
    Clear-append 10 (header_text v) (structured_text v.elements ++ msg_text v.msg) (header_clear v fields) (Clear-append 10 (structured_text v.elements) (msg_text v.msg) elements msg)

-- ---- values of blocks

escaped_clear : (value : List ℕ) → NoLf value → NoLf (escaped value)
escaped_clear [] h = tt
escaped_clear (b ∷ value) h =
    Clear-append 10 (escaped_octet b) (escaped value) (either (is_special b) (92 ∷ b ∷ []) (b ∷ []) (refl, (h.0, tt)) (h.0, tt)) (escaped_clear value h.1)

abbrev IsClear : ParameterValue → Type 0
IsClear p = NoLf p.name × NoLf p.raw

parameter_clear : (p : ParameterValue) → IsClear p → NoLf (parameter_text p)
parameter_clear p h = (refl, Clear-append 10 p.name _ h.0 (refl, (refl, Clear-append 10 p.raw _ h.1 (refl, tt))))

parameters_clear : (ps : List ParameterValue) → AllByRecursion IsClear ps → NoLf (flat_map parameter_text ps)
parameters_clear [] h = tt
parameters_clear (p ∷ ps) h = Clear-append 10 (parameter_text p) (flat_map parameter_text ps) (parameter_clear p h.0) (parameters_clear ps h.1)

block_clear : (h : HeadValue) (stamp : Option Moment) (e : ElementValue) → IsHead h → NoLf e.id → AllByRecursion IsClear e.parameters → NoLf (text (block_message h stamp e))
block_clear h stamp e head id parameters =
    let all = parameters_clear e.parameters parameters in
    message_clear (block_message h stamp e) (record { hostname = head.hostname; app_name = head.app_name; procid = head.procid; msgid = head.msgid })
    (Clear-append 10 (element_text e) [] (refl, Clear-append 10 e.id _ id (Clear-append 10 (flat_map parameter_text e.parameters) _ all (refl, tt))) tt)
    tt

base64_clear : (octets : List ℕ) → NoLf (base64 octets)
base64_clear octets = Clear-base64 10 octets refl refl refl

version_clear : (alg : Alg) → NoLf (version_text alg)
version_clear algs.Sha1 = (refl, (refl, (refl, (refl, tt))))
version_clear algs.Sha256 = (refl, (refl, (refl, (refl, tt))))

hashes_clear : (hs : List Hash) → NoLf (hashes_text hs)
hashes_clear [] = tt
hashes_clear (h ∷ []) = base64_clear (hash_octets h)
hashes_clear (h ∷ next ∷ hs) = Clear-append 10 (base64 (hash_octets h)) (32 ∷ hashes_text (next ∷ hs)) (base64_clear (hash_octets h)) (refl, hashes_clear (next ∷ hs))

number_clear : (name : List ℕ) (n : ℕ) → NoLf name → IsClear (parameter name (decimal n))
number_clear name n h = (h, escaped_clear (decimal n) (decimal_clear n))

pub signature_clear : (h : HeadValue) (stamp : Option Moment) (b : block.Signature) → IsHead h → NoLf (signature_text h stamp b)
signature_clear h stamp b head =
    let ver : IsClear (parameter (name_of kinds.Ver) (version_text b.alg)) = ((refl, (refl, (refl, tt))), escaped_clear (version_text b.alg) (version_clear b.alg)) in
    let rsid = number_clear (name_of kinds.Rsid) b.rsid (refl, (refl, (refl, (refl, tt)))) in
    let sg = number_clear (name_of kinds.Sg) b.group.sg (refl, (refl, tt)) in
    let spri = number_clear (name_of kinds.Spri) b.group.spri (refl, (refl, (refl, (refl, tt)))) in
    let gbc = number_clear (name_of kinds.Gbc) b.gbc (refl, (refl, (refl, tt))) in
    let fmn = number_clear (name_of kinds.Fmn) b.first (refl, (refl, (refl, tt))) in
    let cnt = number_clear (name_of kinds.Cnt) (length b.hashes) (refl, (refl, (refl, tt))) in
    let hb : IsClear (parameter (name_of kinds.Hb) (hashes_text b.hashes)) = ((refl, (refl, tt)), escaped_clear (hashes_text b.hashes) (hashes_clear b.hashes)) in
    let sign : IsClear (parameter (name_of kinds.Sign) (base64 b.signature)) = ((refl, (refl, (refl, (refl, tt)))), escaped_clear (base64 b.signature) (base64_clear b.signature)) in
    block_clear h stamp _ head (refl, (refl, (refl, (refl, (refl, tt))))) (ver, (rsid, (sg, (spri, (gbc, (fmn, (cnt, (hb, (sign, tt)))))))))

pub certificate_clear : (h : HeadValue) (stamp : Option Moment) (b : block.Certificate) → IsHead h → NoLf b.fragment → NoLf (certificate_text h stamp b)
certificate_clear h stamp b head fragment =
    let ver : IsClear (parameter (name_of kinds.Ver) (version_text b.alg)) = ((refl, (refl, (refl, tt))), escaped_clear (version_text b.alg) (version_clear b.alg)) in
    let rsid = number_clear (name_of kinds.Rsid) b.rsid (refl, (refl, (refl, (refl, tt)))) in
    let sg = number_clear (name_of kinds.Sg) b.group.sg (refl, (refl, tt)) in
    let spri = number_clear (name_of kinds.Spri) b.group.spri (refl, (refl, (refl, (refl, tt)))) in
    let tpbl = number_clear (name_of kinds.Tpbl) b.total (refl, (refl, (refl, (refl, tt)))) in
    let index = number_clear (name_of kinds.Index) b.index (refl, (refl, (refl, (refl, (refl, tt))))) in
    let flen = number_clear (name_of kinds.Flen) (length b.fragment) (refl, (refl, (refl, (refl, tt)))) in
    let frag : IsClear (parameter (name_of kinds.Frag) b.fragment) = ((refl, (refl, (refl, (refl, tt)))), escaped_clear b.fragment fragment) in
    let sign : IsClear (parameter (name_of kinds.Sign) (base64 b.signature)) = ((refl, (refl, (refl, (refl, tt)))), escaped_clear (base64 b.signature) (base64_clear b.signature)) in
    block_clear h stamp _ head (refl, (refl, (refl, (refl, (refl, (refl, (refl, (refl, (refl, (refl, tt)))))))))) (ver, (rsid, (sg, (spri, (tpbl, (index, (flen, (frag, (sign, tt)))))))))

-- ---- payloads, of which the pieces stand in certificate blocks

blob_clear : (kind : Kind) (blob : List ℕ) → NoLf (blob_text kind blob)
blob_clear C blob = (refl, base64_clear blob)
blob_clear P blob = (refl, base64_clear blob)
blob_clear K blob = (refl, base64_clear blob)
blob_clear N blob = tt
blob_clear U blob = (refl, base64_clear blob)

letter_clear : (kind : Kind) (rest : List ℕ) → NoLf rest → NoLf (letter kind ∷ rest)
letter_clear C rest h = (refl, h)
letter_clear P rest h = (refl, h)
letter_clear K rest h = (refl, h)
letter_clear N rest h = (refl, h)
letter_clear U rest h = (refl, h)

pub payload_clear : (p : PayloadValue) → NoLf (payload_text p)
unfolding payload_text
payload_clear p = Clear-append 10 (timestamp_text p.stamp) _ (timestamp_clear p.stamp) (refl, letter_clear p.kind _ (blob_clear p.kind p.blob))

take_clear : (n : ℕ) (octets : List ℕ) → NoLf octets → NoLf (take n octets)
take_clear zero octets h = tt
take_clear (suc n) [] h = tt
take_clear (suc n) (x ∷ octets) h = (h.0, take_clear n octets h.1)

drop_clear : (n : ℕ) (octets : List ℕ) → NoLf octets → NoLf (drop n octets)
drop_clear zero octets h = h
drop_clear (suc n) [] h = tt
drop_clear (suc n) (x ∷ octets) h = drop_clear n octets h.1

pub piece_clear : (text : List ℕ) (c : Cut) → NoLf text → NoLf (piece_of text c)
piece_clear text c h = take_clear c.len (drop (c.index - 1) text) (drop_clear (c.index - 1) text h)

-- ---- wraps

pub prepared_clear : (h : HeadValue) (stamp : Option Moment) (message : List ℕ) → IsHead h → NoLf message → NoLf (prepared h stamp message)
unfolding prepared wrap_text is_text
prepared_clear h stamp message head clear =
    either (needs_wrap message) (wrap_text h stamp message) message
    (message_clear (wrap_value h stamp message) (record { hostname = head.hostname; app_name = head.app_name; procid = head.procid; msgid = refl }) (refl, tt) (refl, (refl, clear)))
    clear
