-- Lines that are answered one after the other.
use Rattle.std.proofs.Common.{◌≡◌, ◌==◌, ℕ, zero, suc, ◌+◌, ◌<◌, true, false, List, [], ◌∷◌, ◌++◌, length, flat_map, refl, sym, ap, subst, ◌∙◌, append-nil, arith, inl, inr}
use Rattle.std.specs.Prelude.{is_some, Err}
use Rattle.std.specs.List.{AllByRecursion}
use Rattle.std.specs.Io.KnownBytes.{Consumes, IsAtEnd}
use Rattle.std.proofs.KnownBytes.{Consumes-trans}
use Rattle.std.proofs.lemmas.Grind.{flat_map-append}
use Rattle.std.proofs.lemmas.List.{length-append}
use Rattle.ss_octets.specs.Ascii.{lf}
use Rattle.ss_octets.specs.Cut.{Lacks}
use Rattle.ss_frame.specs.Output.{WritesWhole, WritesPrefix}
use Rattle.ss_frame.specs.Watched.{Source, Sink}
use Rattle.ss_frame.proofs.Written.{whole_then_whole, whole_then_prefix}
use Rattle.ss_block.specs.Reading.{or_none}
use Rattle.ss_signed.specs.declared.fault.DescribeFault.{DescribeFault}
use Rattle.ss_signed.specs.declared.fault.DescribeFault.TheVariants as faults
use Rattle.ss_signed.specs.Lines.{answer_to}
use Rattle.ss_signed.specs.Runs.{ended, answers, IsLine, HasRead, DescribesAll, Answered, StopsAtLine, EndsDescribing, Answers}

-- one more at the end
one_more : {A : Type 0} (f : List ℕ → List A) (lines : List (List ℕ)) (line : List ℕ) → flat_map f (lines ++ line ∷ []) ≡ flat_map f lines ++ f line
one_more {A = A} f lines line = flat_map-append f lines (line ∷ []) ∙ ap (λ (x : List A). flat_map f lines ++ x) (append-nil (f line))

all_more : (lines : List (List ℕ)) (line : List ℕ) → AllByRecursion IsLine lines → IsLine line → AllByRecursion IsLine (lines ++ line ∷ [])
all_more [] line all is = (is, tt)
all_more (x ∷ lines) line all is = (all.0, all_more lines line all.1 is)

-- octets after the lines
pub read_rest : (a b c : Source) (lines : List (List ℕ)) (rest : List ℕ) → HasRead a b lines [] → Consumes b.left c.left rest → HasRead a c lines rest
read_rest a b c lines rest h k =
    let none : ended lines ++ [] ≡ ended lines = append-nil (ended lines) in
    record {
      taken = Consumes-trans a.left b.left c.left (ended lines) rest (subst (Consumes a.left b.left) none h.taken) k;
      each = h.each;
    }

-- a line more
pub read_more : (a b c : Source) (lines : List (List ℕ)) (line : List ℕ) → HasRead a b lines [] → Consumes b.left c.left (line ++ lf ∷ []) → IsLine line → HasRead a c (lines ++ line ∷ []) []
read_more a b c lines line h k is =
    let r = read_rest a b c lines (line ++ lf ∷ []) h k in
    let same : ended lines ++ (line ++ lf ∷ []) ≡ ended (lines ++ line ∷ []) ++ [] = sym (append-nil (ended (lines ++ line ∷ [])) ∙ one_more (λ (l : List ℕ). l ++ lf ∷ []) lines line) in
    record { taken = subst (Consumes a.left c.left) same r.taken; each = all_more lines line h.each is }

pub answered_rest : (a b c : Source) (w x : Sink) (rest : List ℕ) (count : ℕ) → Answered a b w x [] count → Consumes b.left c.left rest → Answered a c w x rest count
answered_rest a b c w x rest count h k = record { lines = h.lines; read = read_rest a b c h.lines rest h.read k; written = h.written; counted = h.counted }

pub answered_more : (a b c : Source) (w x y : Sink) (line : List ℕ) (count : ℕ) → Answered a b w x [] count → Consumes b.left c.left (line ++ lf ∷ []) → Lacks lf line
    → (is_some (answer_to line) ≡ true) × WritesWhole x y (or_none (answer_to line)) → Answered a c w y [] (count + 1)
answered_more a b c w x y line count h k lacks is =
    let written = whole_then_whole w x y (answers h.lines) (or_none (answer_to line)) h.written is.1 in
    let same : answers h.lines ++ or_none (answer_to line) ≡ answers (h.lines ++ line ∷ []) = sym (one_more (λ (l : List ℕ). or_none (answer_to l)) h.lines line) in
    record {
      lines = h.lines ++ line ∷ [];
      read = read_more a b c h.lines line h.read k (lacks, is.0);
      written = subst (WritesWhole w y) same written;
      counted = omega (arith, h.counted, length-append h.lines (line ∷ []));
    }

-- the end, after the last line
pub described_all : (a b c : Source) (w x : Sink) (count : ℕ) → Answered a b w x [] count → Consumes b.left c.left [] → IsAtEnd c.left → DescribesAll a c w x
described_all a b c w x count h k end = record { lines = h.lines; read = read_rest a b c h.lines [] h.read k; at_end = end; written = h.written }

-- octets that no LF ends
pub stops_unended : (a b c : Source) (w x : Sink) (rest : List ℕ) (count : ℕ) → Answered a b w x [] count → Consumes b.left c.left rest → Lacks lf rest → 0 < length rest → StopsAtLine a c w x (count + 1)
stops_unended a b c w x rest count h k lacks some = record { rest = rest; count = count; answered = answered_rest a b c w x rest count h k; bad = inr (lacks, some); number_is = refl }

-- a line that isn't answered
pub stops_answering : (a b c : Source) (w x y : Sink) (line : List ℕ) (count number : ℕ) (fault : DescribeFault) → Answered a b w x [] count → number ≡ count + 1 → Consumes b.left c.left (line ++ lf ∷ []) → Lacks lf line
    → Answers line number x y (Err fault) → EndsDescribing a c w y (Err fault)
stops_answering a b c w x y line count number (faults.Line told) h place k lacks is =
    record {
      rest = line ++ lf ∷ [];
      count = count;
      answered = subst (λ (z : Sink). Answered a c w z (line ++ lf ∷ []) count) (sym is.2) (answered_rest a b c w x (line ++ lf ∷ []) count h k);
      bad = inl (line, refl, lacks, is.1);
      number_is = is.0 ∙ place;
    }
stops_answering a b c w x y line count number faults.Read h place k lacks is = absurd is
stops_answering a b c w x y line count number faults.Write h place k lacks is =
    let written = whole_then_prefix w x y (answers h.lines) (or_none (answer_to line)) h.written is.1 in
    let same : answers h.lines ++ or_none (answer_to line) ≡ answers (h.lines ++ line ∷ []) = sym (one_more (λ (l : List ℕ). or_none (answer_to l)) h.lines line) in
    (h.lines ++ line ∷ [], read_more a b c h.lines line h.read k (lacks, is.0), subst (WritesPrefix w y) same written)
stops_answering a b c w x y line count number faults.Memory h place k lacks is =
    (line ++ lf ∷ [], count, subst (λ (z : Sink). Answered a c w z (line ++ lf ∷ []) count) (sym is) (answered_rest a b c w x (line ++ lf ∷ []) count h k))

-- a line that isn't empty has an octet
pub empty_test : (n : ℕ) → (n == 0) ≡ false → 0 < n
empty_test zero h = absurd cc
empty_test (suc n) h = omega arith
