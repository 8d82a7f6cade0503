-- What is signed of a block that is due is octets, each below 256.
use Rattle.std.proofs.Common.{◌≡◌, ℕ, zero, suc, ◌+◌, ◌*◌, ◌-◌, ◌/◌, ◌%◌, ◌<◌, ◌≤◌, Bool, true, false, ◌&&◌, ◌==◌, codes, List, [], ◌∷◌, ◌++◌, length, map, flat_map, take, drop, replicate, slice_index, Option, Some, None, refl, subst, arith}
use Rattle.std.specs.Prelude.{decimal, if◌then◌else◌, nat_le, nat_lt, not}
use Rattle.std.specs.List.{AllByRecursion, enumerate_from, join_with_byte, list_all}
use Rattle.std.proofs.lemmas.Bool.{and_parts, leb-true, ltb-true}
use Rattle.std.specs.Fmt.{digit_glyph, digits, digits_onto}
use Rattle.base64.specs.Engines.{standard}
use Rattle.base64.specs.GeneralPurpose.{IsBytes, engine_symbols}
use Rattle.base64.specs.Rfc4648.{encode_symbols}
use Rattle.ss_octets.specs.Ascii.{closing_angle, digit_one, opening_angle, sp}
use Rattle.ss_octets.specs.StrictBase64.{base64}
use Rattle.ss_octets.proofs.Members.{Has, from_has-map}
use Rattle.ss_message.specs.declared.stamp.Offset.{Offset}
use Rattle.ss_message.specs.declared.stamp.Offset.TheVariants.{Utc, Plus, Minus}
use Rattle.ss_message.specs.Message.{ElementValue, ParameterValue, element_text, field_text, header_text, is_field, msg_text, parameter_text, structured_text, text, timestamp_text}
use Rattle.ss_message.specs.Octets.{is_absent, is_printable, is_special, is_text}
use Rattle.ss_message.specs.Raw.{escaped, escaped_octet}
use Rattle.ss_message.specs.Stamp.{Moment, date_text, fraction_text, offset_text, padded, stamp_text, time_text}
use Rattle.ss_payload.specs.declared.kind.Kind.{Kind}
use Rattle.ss_payload.specs.declared.kind.Kind.TheVariants as kinds
use Rattle.ss_payload.specs.Payload.{PayloadValue, blob_text, letter, payload_text}
use Rattle.ss_block.specs.declared.hash.Alg.{Alg}
use Rattle.ss_block.specs.declared.hash.Alg.TheVariants as algs
use Rattle.ss_block.specs.declared.hash.Hash.{Hash}
use Rattle.ss_block.specs.Block as block
use Rattle.ss_block.specs.Head.{HeadValue, IsHead}
use Rattle.ss_block.specs.Versions.{version_text}
use Rattle.ss_block.specs.Writing.{block_message, certificate_parameters, hash_octets, hashes_text, parameter, signature_parameters}
use Rattle.ss_origin.specs.declared.unsigned.Unsigned.{Unsigned}
use Rattle.ss_origin.specs.declared.unsigned.Unsigned.TheVariants.{Certificate, Signature}
use Rattle.ss_origin.specs.Blocks.{unsigned_text}
use Rattle.ss_origin.specs.Calls.{Call, Begin, Submit, Flush}
use Rattle.ss_origin.specs.Emission.{AreDue, block_of, blocks_of, certificate_in, certificate_of, signature_in}
use Rattle.ss_origin.specs.Setting.{Setting}
use Rattle.ss_origin.specs.State.{State, first_pending, pending_in, runs_closed}

abbrev Small : List ℕ → Type 0
Small octets = AllByRecursion (λ octet. octet < 256) octets

-- ---- lists

small_append : (xs ys : List ℕ) → Small xs → Small ys → Small (xs ++ ys)
small_append [] ys a b = b
small_append (x ∷ xs) ys a b = (a.0, small_append xs ys a.1 b)

small_take : (n : ℕ) (xs : List ℕ) → Small xs → Small (take n xs)
small_take zero xs a = tt
small_take (suc n) [] a = tt
small_take (suc n) (x ∷ xs) a = (a.0, small_take n xs a.1)

small_drop : (n : ℕ) (xs : List ℕ) → Small xs → Small (drop n xs)
small_drop zero xs a = a
small_drop (suc n) [] a = tt
small_drop (suc n) (x ∷ xs) a = small_drop n xs a.1

small_replicate : (n octet : ℕ) → octet < 256 → Small (replicate n octet)
small_replicate zero octet a = tt
small_replicate (suc n) octet a = (a, small_replicate n octet a)

bytes_of : (octets : List ℕ) → Small octets → IsBytes octets
bytes_of [] a i = omega arith
bytes_of (x ∷ xs) a zero = a.0
bytes_of (x ∷ xs) a (suc i) = bytes_of xs a.1 i

-- ---- numbers

small_glyph : (d : ℕ) → d < 10 → digit_glyph false d < 256
small_glyph d below = by (nat_lt d 10)
  where
    by : (b : Bool) → (if b then 48 + d else 87 + d) < 256
    by true = omega (arith, below)
    by false = omega (arith, below)

small_onto : (k n : ℕ) (acc : List ℕ) → Small acc → Small (digits_onto k 10 false n acc)
small_onto zero n acc a = a
small_onto (suc k) n acc a =
    let here : digit_glyph false (n % 10) < 256 = small_glyph (n % 10) (omega arith) in
    by (n / 10 == 0) (here, a) (small_onto k (n / 10) (digit_glyph false (n % 10) ∷ acc) (here, a))
  where
    by : (b : Bool) → Small (digit_glyph false (n % 10) ∷ acc) → Small (digits_onto k 10 false (n / 10) (digit_glyph false (n % 10) ∷ acc))
        → Small (if b then digit_glyph false (n % 10) ∷ acc else digits_onto k 10 false (n / 10) (digit_glyph false (n % 10) ∷ acc))
    by true last more = last
    by false last more = more

small_decimal : (n : ℕ) → Small (decimal n)
unfolding digits
small_decimal n = small_onto 64 n [] tt

-- ---- base64

symbol_at : (symbols : List ℕ) → Small symbols → (i : ℕ) → slice_index symbols i < 256
symbol_at symbols a i = bytes_of symbols a i

small_symbols : (t m : List ℕ) → ((i : ℕ) → slice_index t i < 256) → Small (encode_symbols t m)
unfolding encode_symbols
small_symbols t [] h = tt
small_symbols t (a ∷ []) h = (h (a / 4), (h (a % 4 * 16), tt))
small_symbols t (a ∷ b ∷ []) h = (h (a / 4), (h (a % 4 * 16 + b / 16), (h (b % 16 * 4), tt)))
small_symbols t (a ∷ b ∷ d ∷ rest) h =
    (h (a / 4), (h (a % 4 * 16 + b / 16), (h (b % 16 * 4 + d / 64), (h (d % 64), small_symbols t rest h))))

from_test : (xs : List ℕ) → list_all (λ x. nat_lt x 256) xs ≡ true → Small xs
from_test [] e = tt
from_test (x ∷ xs) e =
    let parts = and_parts (nat_lt x 256) (list_all (λ y. nat_lt y 256) xs) e in (ltb-true x 256 parts.0, from_test xs parts.1)

small_base64 : (octets : List ℕ) → Small (base64 octets)
unfolding base64
small_base64 octets =
    small_append _ _ (small_symbols (engine_symbols standard) octets (symbol_at (engine_symbols standard) (from_test (engine_symbols standard) refl))) (small_replicate _ 61 (omega arith))

-- ---- fields of a header

small_printable : (octets : List ℕ) → list_all is_printable octets ≡ true → Small octets
small_printable [] e = tt
small_printable (x ∷ xs) e =
    let parts = and_parts (is_printable x) (list_all is_printable xs) e in
    let most : x ≤ 126 = leb-true x 126 (and_parts (nat_le 33 x) (nat_le x 126) parts.0).1 in
    (omega (arith, most), small_printable xs parts.1)

small_field : (limit : ℕ) (o : Option (List ℕ)) → is_field limit o ≡ true → Small (field_text o)
unfolding is_text
small_field limit None e = (omega arith, tt)
small_field limit (Some octets) e =
    let own = (and_parts (is_text limit octets) (not (is_absent octets)) e).0 in
    small_printable octets (and_parts (nat_lt 0 (length octets) && nat_le (length octets) limit) (list_all is_printable octets) own).1

small_padded : (w n : ℕ) → Small (padded w n)
small_padded zero n = tt
small_padded (suc w) n = small_append (padded w (n / 10)) ((48 + n % 10) ∷ []) (small_padded w (n / 10)) (omega arith, tt)

small_offset : (o : Offset) → Small (offset_text o)
small_offset Utc = (omega arith, tt)
small_offset (Plus hour minute) = (omega arith, small_append (padded 2 hour) (58 ∷ padded 2 minute) (small_padded 2 hour) (omega arith, small_padded 2 minute))
small_offset (Minus hour minute) = (omega arith, small_append (padded 2 hour) (58 ∷ padded 2 minute) (small_padded 2 hour) (omega arith, small_padded 2 minute))

small_fraction : (digits fraction : ℕ) → Small (fraction_text digits fraction)
small_fraction zero fraction = tt
small_fraction (suc more) fraction = (omega arith, small_padded (suc more) fraction)

small_then : (xs : List ℕ) (x : ℕ) (ys : List ℕ) → Small xs → x < 256 → Small ys → Small (xs ++ x ∷ ys)
small_then xs x ys a b c = small_append xs (x ∷ ys) a (b, c)

small_stamp : (m : Moment) → Small (stamp_text m)
unfolding stamp_text
small_stamp m =
    let day = small_then (padded 4 m.year ++ 45 ∷ padded 2 m.month) 45 (padded 2 m.day) (small_then (padded 4 m.year) 45 (padded 2 m.month) (small_padded 4 m.year) (omega arith) (small_padded 2 m.month)) (omega arith) (small_padded 2 m.day) in
    let time = small_then (padded 2 m.hour ++ 58 ∷ padded 2 m.minute) 58 (padded 2 m.second) (small_then (padded 2 m.hour) 58 (padded 2 m.minute) (small_padded 2 m.hour) (omega arith) (small_padded 2 m.minute)) (omega arith) (small_padded 2 m.second) in
    let clock = small_then (date_text m) 84 (time_text m) day (omega arith) time in
    small_append (date_text m ++ 84 ∷ time_text m ++ fraction_text m.digits m.fraction) (offset_text m.offset) (small_append (date_text m ++ 84 ∷ time_text m) (fraction_text m.digits m.fraction) clock (small_fraction m.digits m.fraction)) (small_offset m.offset)

small_timestamp : (o : Option Moment) → Small (timestamp_text o)
small_timestamp None = (omega arith, tt)
small_timestamp (Some m) = small_stamp m

-- ---- parameters and elements

small_flat : {X : Type 0} (f : X → List ℕ) (xs : List X) → AllByRecursion (λ x. Small (f x)) xs → Small (flat_map f xs)
small_flat f [] all = tt
small_flat f (x ∷ xs) all = small_append (f x) (flat_map f xs) all.0 (small_flat f xs all.1)

small_escaped : (value : List ℕ) → Small value → Small (escaped value)
small_escaped [] a = tt
small_escaped (x ∷ xs) a = small_append (escaped_octet x) (escaped xs) (by (is_special x) a.0) (small_escaped xs a.1)
  where
    by : (b : Bool) → x < 256 → Small (if b then 92 ∷ x ∷ [] else x ∷ [])
    by true here = (omega arith, (here, tt))
    by false here = (here, tt)

abbrev SmallParameter : ParameterValue → Type 0
SmallParameter p = Small p.name × Small p.raw

small_parameter : (p : ParameterValue) → SmallParameter p → Small (parameter_text p)
small_parameter p is =
    (omega arith, small_append p.name _ is.0 (omega arith, (omega arith, small_append p.raw _ is.1 (omega arith, tt))))

of_parameters : (ps : List ParameterValue) → AllByRecursion SmallParameter ps → AllByRecursion (λ p. Small (parameter_text p)) ps
of_parameters [] all = tt
of_parameters (p ∷ ps) all = (small_parameter p all.0, of_parameters ps all.1)

small_element : (id : List ℕ) (ps : List ParameterValue) → Small id → AllByRecursion SmallParameter ps → Small (element_text (record { id = id; parameters = ps }))
small_element id ps is all =
    (omega arith, small_append id _ is (small_append (flat_map parameter_text ps) _ (small_flat parameter_text ps (of_parameters ps all)) (omega arith, tt)))

-- a value under a name of capitals
named : (name value : List ℕ) → list_all (λ x. nat_lt x 256) name ≡ true → Small value → SmallParameter (parameter name value)
named name value is a = (from_test name is, small_escaped value a)

small_version : (alg : Alg) → Small (version_text alg)
small_version algs.Sha1 = from_test (codes "0111") refl
small_version algs.Sha256 = from_test (codes "0121") refl

small_joined : (words : List (List ℕ)) → AllByRecursion Small words → Small (join_with_byte sp words)
small_joined [] all = tt
small_joined (w ∷ []) all = all.0
small_joined (w ∷ v ∷ words) all = small_then w sp (join_with_byte sp (v ∷ words)) all.0 (omega arith) (small_joined (v ∷ words) all.1)

small_words : (hs : List Hash) → AllByRecursion Small (map (λ h. base64 (hash_octets h)) hs)
small_words [] = tt
small_words (h ∷ hs) = (small_base64 (hash_octets h), small_words hs)

of_signature : (b : block.Signature) → AllByRecursion SmallParameter (signature_parameters b)
of_signature b = (
  named (codes "VER") (version_text b.alg) refl (small_version b.alg),
  (
    named (codes "RSID") (decimal b.rsid) refl (small_decimal b.rsid),
    (
      named (codes "SG") (decimal b.group.sg) refl (small_decimal b.group.sg),
      (
        named (codes "SPRI") (decimal b.group.spri) refl (small_decimal b.group.spri),
        (
          named (codes "GBC") (decimal b.gbc) refl (small_decimal b.gbc),
          (
            named (codes "FMN") (decimal b.first) refl (small_decimal b.first),
            (
              named (codes "CNT") (decimal (length b.hashes)) refl (small_decimal (length b.hashes)),
              (named (codes "HB") (hashes_text b.hashes) refl (small_joined _ (small_words b.hashes)), tt),
            ),
          ),
        ),
      ),
    ),
  ),
)

of_certificate : (b : block.Certificate) → Small b.fragment → AllByRecursion SmallParameter (certificate_parameters b)
of_certificate b is = (
  named (codes "VER") (version_text b.alg) refl (small_version b.alg),
  (
    named (codes "RSID") (decimal b.rsid) refl (small_decimal b.rsid),
    (
      named (codes "SG") (decimal b.group.sg) refl (small_decimal b.group.sg),
      (
        named (codes "SPRI") (decimal b.group.spri) refl (small_decimal b.group.spri),
        (
          named (codes "TPBL") (decimal b.total) refl (small_decimal b.total),
          (
            named (codes "INDEX") (decimal b.index) refl (small_decimal b.index),
            (
              named (codes "FLEN") (decimal (length b.fragment)) refl (small_decimal (length b.fragment)),
              (named (codes "FRAG") b.fragment refl is, tt),
            ),
          ),
        ),
      ),
    ),
  ),
)

-- ---- messages

sp_small : sp < 256
sp_small = omega arith

opening_small : opening_angle < 256
opening_small = omega arith

closing_small : closing_angle < 256
closing_small = omega arith

one_small : digit_one < 256
one_small = omega arith

small_message : (h : HeadValue) (stamp : Option Moment) (id : List ℕ) (ps : List ParameterValue) → IsHead h → Small id → AllByRecursion SmallParameter ps
    → Small (text (block_message h stamp (record { id = id; parameters = ps })))
unfolding text
small_message h stamp id ps head is all =
    let msgid = small_then (field_text h.msgid) sp [] (small_field 32 h.msgid head.msgid) sp_small tt in
    let procid = small_then (field_text h.procid) sp (field_text h.msgid ++ sp ∷ []) (small_field 128 h.procid head.procid) sp_small msgid in
    let app = small_then (field_text h.app_name) sp (field_text h.procid ++ sp ∷ (field_text h.msgid ++ sp ∷ [])) (small_field 48 h.app_name head.app_name) sp_small procid in
    let host = small_then (field_text h.hostname) sp (field_text h.app_name ++ sp ∷ (field_text h.procid ++ sp ∷ (field_text h.msgid ++ sp ∷ []))) (small_field 255 h.hostname head.hostname) sp_small app in
    let fields = field_text h.hostname ++ sp ∷ (field_text h.app_name ++ sp ∷ (field_text h.procid ++ sp ∷ (field_text h.msgid ++ sp ∷ []))) in
    let time = small_then (timestamp_text stamp) sp fields (small_timestamp stamp) sp_small host in
    let front = small_append (decimal h.pri) (closing_angle ∷ digit_one ∷ sp ∷ (timestamp_text stamp ++ sp ∷ fields)) (small_decimal h.pri) (closing_small, (one_small, (sp_small, time))) in
    let e : ElementValue = record { id = id; parameters = ps } in
    let v = block_message h stamp e in
    let element = small_element id ps is all in
    small_append (header_text v) (structured_text v.elements ++ msg_text v.msg) (opening_small, front) (small_append (structured_text v.elements) [] (small_append (element_text e) [] element tt) tt)

-- ---- payloads

small_blob : (kind : Kind) (blob : List ℕ) → Small (blob_text kind blob)
small_blob kinds.C blob = (omega arith, small_base64 blob)
small_blob kinds.P blob = (omega arith, small_base64 blob)
small_blob kinds.K blob = (omega arith, small_base64 blob)
small_blob kinds.N blob = tt
small_blob kinds.U blob = (omega arith, small_base64 blob)

small_letter : (kind : Kind) → letter kind < 256
small_letter kinds.C = omega arith
small_letter kinds.P = omega arith
small_letter kinds.K = omega arith
small_letter kinds.N = omega arith
small_letter kinds.U = omega arith

small_payload : (p : PayloadValue) → Small (payload_text p)
unfolding payload_text
small_payload p = small_append (timestamp_text p.stamp) _ (small_timestamp p.stamp) (omega arith, (small_letter p.kind, small_blob p.kind p.blob))

-- ---- blocks that are due

signature_small : (h : HeadValue) (stamp : Option Moment) (b : block.Signature) → IsHead h → IsBytes (unsigned_text h stamp (Signature b))
signature_small h stamp b head =
    bytes_of _ (small_message h stamp (codes "ssign") (signature_parameters b) head (from_test (codes "ssign") refl) (of_signature b))

certificate_small : (h : HeadValue) (stamp : Option Moment) (b : block.Certificate) → IsHead h → Small b.fragment → IsBytes (unsigned_text h stamp (Certificate b))
certificate_small h stamp b head is =
    bytes_of _ (small_message h stamp (codes "ssign-cert") (certificate_parameters b) head (from_test (codes "ssign-cert") refl) (of_certificate b is))

block_small : (s : Setting) (old : State) (call : Call) (stamp : Option Moment) (d : Unsigned) → IsHead s.config.head → Has (blocks_of s.config old call) d → IsBytes (unsigned_text s.config.head stamp d)
block_small s old call stamp d head has =
    let w = from_has-map (block_of s.config old) (enumerate_from old.gbc (runs_closed s.config (pending_in old) call)) d has in
    let run = w.0.1 in
    subst (λ u. IsBytes (unsigned_text s.config.head stamp u)) w.2
    (signature_small s.config.head stamp (signature_in s.config run.spri w.0.0 (first_pending old run.spri) run.hashes) head)

pub due_is_small : (s : Setting) (old : State) (call : Call) (stamp : Option Moment) (due : List Unsigned) (d : Unsigned) → IsHead s.config.head → AreDue s old call due → Has due d → IsBytes (unsigned_text s.config.head stamp d)
due_is_small s old (Begin at) stamp due d head are has =
    let payload = payload_text s.payload in
    let w = from_has-map (certificate_of s.config payload) are.0 d (subst (λ ds. Has ds d) are.2 has) in
    subst (λ u. IsBytes (unsigned_text s.config.head stamp u)) w.2
    (certificate_small s.config.head stamp (certificate_in s.config payload w.0) head (small_take w.0.len (drop (w.0.index - 1) payload) (small_drop (w.0.index - 1) payload (small_payload s.payload))))
due_is_small s old (Submit message at) stamp due d head are has = block_small s old (Submit message at) stamp d head (subst (λ ds. Has ds d) are has)
due_is_small s old (Flush at) stamp due d head are has = block_small s old (Flush at) stamp d head (subst (λ ds. Has ds d) are has)
