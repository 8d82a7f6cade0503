-- Lines that are answered one after the other.
use Rattle.std.proofs.Common.{◌≡◌, ◌==◌, ℕ, zero, suc, ◌+◌, ◌<◌, true, false, List, [], ◌∷◌, ◌++◌, length, refl, sym, subst, ◌∙◌, arith, inl, inr, rules}
use Rattle.std.specs.Prelude.{Ok, Err}
use Rattle.std.specs.Io.KnownBytes.{Consumes, IsAtEnd}
use Rattle.std.proofs.lemmas.Bool.{eqb-true}
use Rattle.std.proofs.lemmas.List.{length-append}
use Rattle.ss_octets.specs.Ascii.{lf}
use Rattle.ss_octets.specs.Cut.{Lacks}
use Rattle.ss_frame.specs.Output.{WritesWhole}
use Rattle.ss_frame.specs.Watched.{Source, Sink}
use Rattle.ss_frame.proofs.Written.{whole_then_whole, whole_then_prefix}
use Rattle.ss_lines.proofs.MoreLines.{read_rest, read_more}
use Rattle.ss_spelled.specs.declared.fault.SpellFault.{SpellFault}
use Rattle.ss_spelled.specs.declared.fault.SpellFault.TheVariants as faults
use Rattle.ss_spelled.specs.declared.fragment.Fragment.{Fragment}
use Rattle.ss_spelled.specs.Runs.{Spoken, none_yet, one_kept, answered, HasSpoken, SpellsAll, StopsAtLine, EndsSpelling, Obeys}

-- nothing was read yet
pub spoken_none : (a : Source) (w : Sink) → w.failed ≡ false → HasSpoken a a w w [] [] 0
spoken_none a w ready = record {
  lines = [];
  read = record { taken = search rules; each = tt };
  words = [];
  spoken = none_yet;
  written = (search rules, ready);
  counted = refl;
}

-- octets after the lines
pub spoken_rest : (a b c : Source) (w x : Sink) (fragments : List Fragment) (rest : List ℕ) (count : ℕ) → HasSpoken a b w x fragments [] count → Consumes b.left c.left rest → HasSpoken a c w x fragments rest count
spoken_rest a b c w x fragments rest count h k = record { lines = h.lines; read = read_rest a b c h.lines rest h.read k; words = h.words; spoken = h.spoken; written = h.written; counted = h.counted }

-- a line more
pub spoken_more : (a b c : Source) (w x y : Sink) (line : List ℕ) (number count : ℕ) (fragments left : List Fragment) (done : Unit {0}) → HasSpoken a b w x fragments [] count
    → Consumes b.left c.left (line ++ lf ∷ []) → Lacks lf line → Obeys line number fragments left x y (Ok done) → HasSpoken a c w y left [] (count + 1)
spoken_more a b c w x y line number count fragments left done h k lacks is =
    elim is [
      | inl kept ↦ record {
        lines = h.lines ++ line ∷ [];
        read = read_more a b c h.lines line h.read k lacks;
        words = h.words;
        spoken = subst (λ (fs : List Fragment). Spoken (h.lines ++ line ∷ []) fs h.words) (sym kept.kept) (one_kept h.lines fragments h.words line kept.fragment h.spoken kept.asked);
        written = subst (λ (z : Sink). WritesWhole w z h.words) (sym kept.same) h.written;
        counted = omega (arith, h.counted, length-append h.lines (line ∷ []));
      }
      | inr told ↦ record {
        lines = h.lines ++ line ∷ [];
        read = read_more a b c h.lines line h.read k lacks;
        words = h.words ++ told.1.0;
        spoken = subst (λ (fs : List Fragment). Spoken (h.lines ++ line ∷ []) fs (h.words ++ told.1.0)) (sym told.1.2) (answered h.lines fragments h.words line told.1.0 h.spoken told.0 told.1.1);
        written = whole_then_whole w x y h.words told.1.0 h.written told.1.3;
        counted = omega (arith, h.counted, length-append h.lines (line ∷ []));
      }
    ]

-- octets that no LF ends
pub stops_unended : (a b c : Source) (w x : Sink) (fragments : List Fragment) (rest : List ℕ) (count : ℕ) → HasSpoken a b w x fragments [] count → Consumes b.left c.left rest → Lacks lf rest → 0 < length rest → StopsAtLine a c w x (count + 1)
stops_unended a b c w x fragments rest count h k lacks some = record { fragments = fragments; rest = rest; count = count; spoken = spoken_rest a b c w x fragments rest count h k; bad = inr (lacks, some); number_is = refl }

-- a line that isn't answered
pub stops_obeying : (a b c : Source) (w x y : Sink) (line : List ℕ) (count number : ℕ) (fragments left : List Fragment) (fault : SpellFault) → HasSpoken a b w x fragments [] count → number ≡ count + 1
    → Consumes b.left c.left (line ++ lf ∷ []) → Lacks lf line → Obeys line number fragments left x y (Err fault) → EndsSpelling a c w y (Err fault)
stops_obeying a b c w x y line count number fragments left (faults.Line told) h place k lacks is =
    record {
      fragments = fragments;
      rest = line ++ lf ∷ [];
      count = count;
      spoken = subst (λ (z : Sink). HasSpoken a c w z fragments (line ++ lf ∷ []) count) (sym is.2) (spoken_rest a b c w x fragments (line ++ lf ∷ []) count h k);
      bad = inl (line, refl, lacks, is.1);
      number_is = is.0 ∙ place;
    }
stops_obeying a b c w x y line count number fragments left faults.Read h place k lacks is = absurd is
stops_obeying a b c w x y line count number fragments left faults.Write h place k lacks is =
    record {
      lines = h.lines ++ line ∷ [];
      read = read_more a b c h.lines line h.read k lacks;
      fragments = [];
      words = h.words ++ is.1.0;
      spoken = answered h.lines fragments h.words line is.1.0 h.spoken is.0 is.1.1;
      written = whole_then_prefix w x y h.words is.1.0 h.written is.1.2;
    }
stops_obeying a b c w x y line count number fragments left faults.Memory h place k lacks is =
    (fragments, line ++ lf ∷ [], count, subst (λ (z : Sink). HasSpoken a c w z fragments (line ++ lf ∷ []) count) (sym is) (spoken_rest a b c w x fragments (line ++ lf ∷ []) count h k))

-- a line that isn't empty has an octet
pub empty_test : (n : ℕ) → (n == 0) ≡ false → 0 < n
empty_test zero h = absurd cc
empty_test (suc n) h = omega arith

-- the writer is ready after a line
pub writer_ready : (line : List ℕ) (number : ℕ) (fragments left : List Fragment) (x y : Sink) (done : Unit {0}) → Obeys line number fragments left x y (Ok done) → x.failed ≡ false → y.failed ≡ false
writer_ready line number fragments left x y done is ready =
    elim is [
      | inl kept ↦ subst (λ (z : Sink). z.failed ≡ false) (sym kept.same) ready
      | inr told ↦ told.1.3.1
    ]

-- the end, after the last line
pub spells_all : (a b c : Source) (w x : Sink) (fragments : List Fragment) (count : ℕ) → HasSpoken a b w x fragments [] count → Consumes b.left c.left [] → IsAtEnd c.left → SpellsAll a c w x
spells_all a b c w x fragments count h k end = record { fragments = fragments; count = count; spoken = spoken_rest a b c w x fragments [] count h k; at_end = end }

pub empty_line : (line : List ℕ) → (length line == 0) ≡ true → line ≡ []
empty_line [] h = refl
empty_line (x ∷ line) h = absurd (let e : length (x ∷ line) ≡ 0 = eqb-true _ _ h in omega arith)
