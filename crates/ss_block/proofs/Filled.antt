-- Decoding into a slice that has just the room of what is decoded.
use Rattle.std.proofs.Common.{◌≡◌, ℕ, ◌*◌, ◌/◌, ◌≤◌, Bool, true, false, cond, ltb, List, [], ◌++◌, length, drop, Some, Option, None, Result, Ok, Err, length-append, refl, ap, subst, ◌∙◌, arith}
use Rattle.std.proofs.lemmas.Bool.{le-ltb}
use Rattle.std.proofs.lemmas.List.{append-nil, drop_all}
use Rattle.base64.specs.declared.decode.DecodeError.{DecodeError}
use Rattle.base64.specs.declared.decode.DecodeSliceError.{DecodeSliceError}
use Rattle.base64.specs.declared.decode.DecodeSliceError.TheVariants.{OutputSliceTooSmall}
use Rattle.base64.specs.declared.engine.general_purpose.GeneralPurpose.{GeneralPurpose}
use Rattle.base64.specs.Decode.{or_else, or_error, bytes_fit, decode_outcome, decode_error, groups_bytes, groups_before_last, suffix_bytes, IsWrittenOver, groups_error, suffix_error, lone_error}
use Rattle.base64.specs.GeneralPurpose.{decode_of, decode_slice_of, decoded_bytes_of}
use Rattle.base64.proofs.Decoding.{length-groups_bytes}

abbrev slice_answer : Option DecodeError → Bool → Option DecodeError → ℕ → ℕ → Result ℕ DecodeSliceError
slice_answer lone small rest n out = or_error lone (cond small (Err OutputSliceTooSmall) (or_error rest (bytes_fit n out)))

abbrev too_small : Result ℕ DecodeSliceError
too_small = Err OutputSliceTooSmall

fit_ok : (t : Bool) (n m : ℕ) → cond t too_small (Ok n) ≡ Ok m → n ≡ m
fit_ok true n m e = absurd cc
fit_ok false n m e = cc

answer_ok : (lone : Option DecodeError) (small : Bool) (rest : Option DecodeError) (n out m : ℕ) → slice_answer lone small rest n out ≡ Ok m → (or_else lone rest ≡ None) × (n ≡ m)
answer_ok (Some x) small rest n out m e = absurd cc
answer_ok None true rest n out m e = absurd cc
answer_ok None false (Some x) n out m e = absurd cc
answer_ok None false None n out m e = (refl, fit_ok (ltb out n) n m e)

outcome_ok : (x : Option DecodeError) (d b : List ℕ) → decode_outcome x d ≡ Ok b → (x ≡ None) × (d ≡ b)
outcome_ok None d b h = (refl, cc)
outcome_ok (Some e) d b h = absurd cc

-- a slice was filled by the octets that were decoded
pub slice_ok : (e : GeneralPurpose) (s : List ℕ) (out m : ℕ) → decode_slice_of e s out ≡ Ok m → (decode_of e s ≡ Ok (decoded_bytes_of e s)) × (length (decoded_bytes_of e s) ≡ m)
slice_ok e s out m h =
    let a = answer_ok (lone_error e.decode_table e.padding.value s) (ltb (out / 3) (groups_before_last (length s)))
    (or_else (groups_error e.decode_table s (groups_before_last (length s))) (suffix_error e.decode_table e.padding.value e.config.decode_allow_trailing_bits e.config.decode_padding_mode (4 * groups_before_last (length s)) s))
    (length (decoded_bytes_of e s)) out m h in
    (ap (λ (x : Option DecodeError). decode_outcome x (decoded_bytes_of e s)) a.0, a.1)

answer_again : (lone : Option DecodeError) (small : Bool) (rest : Option DecodeError) (n : ℕ) → or_else lone rest ≡ None → small ≡ false → slice_answer lone small rest n n ≡ Ok n
answer_again (Some x) small rest n e room = absurd cc
answer_again None true rest n e room = absurd cc
answer_again None false (Some x) n e room = absurd cc
answer_again None false None n e room = rw (le-ltb n n (omega arith)) refl

-- octets that are decoded fit into a slice of their length
pub slice_again : (e : GeneralPurpose) (s b : List ℕ) → decode_of e s ≡ Ok b → decode_slice_of e s (length b) ≡ Ok (length b)
slice_again e s b h =
    let o : (decode_error e.decode_table e.padding.value e.config.decode_allow_trailing_bits e.config.decode_padding_mode s ≡ None) × (decoded_bytes_of e s ≡ b) = outcome_ok _ (decoded_bytes_of e s) b h in
    let q : ℕ = groups_before_last (length s) in
    let some : 3 * q ≤ length (decoded_bytes_of e s) = omega (arith, length-append (groups_bytes e.decode_table s q) (suffix_bytes e.decode_table e.padding.value (4 * q) s), length-groups_bytes e.decode_table s q) in
    let room : ltb (length (decoded_bytes_of e s) / 3) q ≡ false = le-ltb (length (decoded_bytes_of e s) / 3) q (omega arith) in
    subst (λ (x : List ℕ). decode_slice_of e s (length x) ≡ Ok (length x)) o.1
    (answer_again (lone_error e.decode_table e.padding.value s) (ltb (length (decoded_bytes_of e s) / 3) q)
    (or_else (groups_error e.decode_table s q) (suffix_error e.decode_table e.padding.value e.config.decode_allow_trailing_bits e.config.decode_padding_mode (4 * q) s))
    (length (decoded_bytes_of e s)) o.0 room)

-- and are all that it holds then
pub all_written : (bytes old new : List ℕ) → IsWrittenOver bytes old new → length bytes ≡ length old → new ≡ bytes
all_written bytes old new w same =
    let none : drop (length bytes) old ≡ [] = drop_all (length bytes) old (omega arith) in
    w ∙ ap (λ (x : List ℕ). bytes ++ x) none ∙ append-nil bytes
