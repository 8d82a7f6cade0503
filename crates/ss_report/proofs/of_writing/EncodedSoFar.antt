-- What writing octets in base64 keeps from one piece to the next.
use Rattle.std.proofs.Common.{◌≡◌, ℕ, ◌≤◌, ◌%◌, List, [], ◌++◌, length, take, drop, refl, sym, ap, ◌∙◌, append_assoc, length-append, arith}
use Rattle.std.proofs.lemmas.List.{take-append-drop, length-take-le}
use Rattle.base64.specs.Engines.{standard}
use Rattle.base64.proofs.EngineFacts.{encode_of-append, encode_of-nil}
use Rattle.ss_frame.specs.Watched.{Sink}
use Rattle.ss_octets.specs.StrictBase64.{base64}
use Rattle.ss_report.specs.log.Writing.{Writes}
use Rattle.ss_report.proofs.of_writing.Writings.{writes_then, writes_same, writes_nothing}

base64-append : (a b : List ℕ) → length a % 3 ≡ 0 → base64 (a ++ b) ≡ base64 a ++ base64 b
unfolding base64
base64-append a b whole = encode_of-append standard a b whole

base64-nil : base64 [] ≡ []
unfolding base64
base64-nil = encode_of-nil standard

-- the octets so far are whole groups of three, and their text was written
pub record EncodedSoFar (before now : Sink) (octets rest : List ℕ) : Type 0 where
  pub done : List ℕ
  pub is : octets ≡ done ++ rest
  pub whole : length done % 3 ≡ 0
  pub writes : Writes before now (base64 done)

pub none_encoded : (a : Sink) (octets : List ℕ) → EncodedSoFar a a octets octets
none_encoded a octets = record { done = []; is = refl; whole = refl; writes = writes_same a a [] (base64 []) (writes_nothing a) (sym base64-nil) }

pub piece_encoded : (a b c : Sink) (octets rest : List ℕ) (n : ℕ) → EncodedSoFar a b octets rest → n % 3 ≡ 0 → n ≤ length rest → Writes b c (base64 (take n rest))
    → EncodedSoFar a c octets (drop n rest)
piece_encoded a b c octets rest n so_far groups within next =
    let d = so_far.done in
    let piece = take n rest in
    let whole_before = so_far.whole in
    record {
      done = d ++ piece;
      is = so_far.is ∙ (ap (λ (t : List ℕ). d ++ t) (sym (take-append-drop n rest)) ∙ sym (append_assoc d piece (drop n rest)));
      whole = omega (arith, length-append d piece, length-take-le n rest within, whole_before, groups);
      writes = writes_same a c _ _ (writes_then a b c _ _ so_far.writes next) (sym (base64-append d piece so_far.whole));
    }

pub all_encoded : (a b c : Sink) (octets rest : List ℕ) → EncodedSoFar a b octets rest → Writes b c (base64 rest) → Writes a c (base64 octets)
all_encoded a b c octets rest so_far last =
    writes_same a c _ _ (writes_then a b c _ _ so_far.writes last) (sym (ap base64 so_far.is ∙ base64-append so_far.done rest so_far.whole))
