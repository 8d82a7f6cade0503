-- Records that are written field by field.
use Rattle.std.proofs.Common.{List, ℕ, ◌++◌, [], sym, append-nil}
use Rattle.std.proofs.lemmas.Grind.{flat_map-append}
use Rattle.ss_frame.specs.Watched.{Sink}
use Rattle.ss_report.specs.declared.notation.Notation.{Notation}
use Rattle.ss_report.specs.log.Writing.{Writes}
use Rattle.ss_report.specs.records.Record.{Value, field}
use Rattle.ss_report.specs.records.Written.{head_in, field_in, fields_in, end_in, written}
use Rattle.ss_report.proofs.of_writing.Writings.{writes_nothing, writes_then, writes_same}

-- one field
pub field_written : (n : Notation) (a b : Sink) (key : List ℕ) (value : Value) → Writes a b (field_in n (key, value)) → Writes a b (fields_in n (field key value))
unfolding fields_in field
field_written n a b key value w = writes_same a b _ _ w (sym (append-nil (field_in n (key, value))))

-- some fields, and then others
pub fields_then : (n : Notation) (a b c : Sink) (xs ys : List (List ℕ × Value)) → Writes a b (fields_in n xs) → Writes b c (fields_in n ys) → Writes a c (fields_in n (xs ++ ys))
unfolding fields_in
fields_then n a b c xs ys first second = writes_same a c _ _ (writes_then a b c _ _ first second) (sym (flat_map-append (field_in n) xs ys))

-- all of a record
pub record_written : (n : Notation) (a b c d : Sink) (kind : List ℕ) (fields : List (List ℕ × Value)) → Writes a b (head_in n kind) → Writes b c (fields_in n fields) → Writes c d (end_in n)
    → Writes a d (written n (record { kind = kind; fields = fields }))
unfolding written
record_written n a b c d kind fields head all end = writes_then a c d _ _ (writes_then a b c _ _ head all) end

-- no field
pub nothing_put : (n : Notation) (a : Sink) → Writes a a (fields_in n [])
unfolding fields_in
nothing_put n a = writes_nothing a

-- three pieces, and four
pub three_fields : (n : Notation) (a b c d : Sink) (xs ys zs : List (List ℕ × Value)) → Writes a b (fields_in n xs) → Writes b c (fields_in n ys) → Writes c d (fields_in n zs)
    → Writes a d (fields_in n (xs ++ ys ++ zs))
three_fields n a b c d xs ys zs first second third = fields_then n a c d (xs ++ ys) zs (fields_then n a b c xs ys first second) third

pub four_fields : (n : Notation) (a b c d e : Sink) (ws xs ys zs : List (List ℕ × Value)) → Writes a b (fields_in n ws) → Writes b c (fields_in n xs) → Writes c d (fields_in n ys) → Writes d e (fields_in n zs)
    → Writes a e (fields_in n (ws ++ xs ++ ys ++ zs))
four_fields n a b c d e ws xs ys zs first second third fourth = fields_then n a d e (ws ++ xs ++ ys) zs (three_fields n a b c d ws xs ys first second third) fourth
