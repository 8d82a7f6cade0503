-- The pieces of a text: which lists they are, that there is one, and what their octets are.
use Rattle.std.proofs.Common.{◌≡◌, ℕ, ◌+◌, ◌-◌, ◌<◌, ◌≤◌, min, List, [], ◌∷◌, ◌++◌, length, take, drop, refl, sym, ap, subst, ◌∙◌, arith}
use Rattle.std.specs.List.{flat_map}
use Rattle.std.proofs.lemmas.List.{append-nil, append_assoc, take_all, drop-drop}
use Rattle.std.proofs.Math.Seq.{take-add}
use Rattle.std.proofs.lemmas.List.Sums.{sum_by-cons}
use Rattle.ss_payload.specs.declared.cuts.Cut.{Cut}
use Rattle.ss_payload.specs.Cuts.{octet_count, AreCuts, piece_of}

-- the pieces of so many octets, from an index on
pub record AreFrom (index octets size : ℕ) (cuts : List Cut) : Type 0 where
  pub follow : (before : List Cut) (c : Cut) (after : List Cut) → cuts ≡ before ++ c ∷ after → c.index ≡ index + octet_count before
  pub end : octet_count cuts ≡ octets
  pub full : (before : List Cut) (c next : Cut) (after : List Cut) → cuts ≡ before ++ c ∷ next ∷ after → c.len ≡ size
  pub last : (before : List Cut) (c : Cut) → cuts ≡ before ++ c ∷ [] → (1 ≤ c.len) × (c.len ≤ size)

pub more_octets : (c : Cut) (cuts : List Cut) → octet_count (c ∷ cuts) ≡ c.len + octet_count cuts
more_octets c cuts = sum_by-cons (λ (d : Cut). d.len) c cuts

none_split : (before : List Cut) (c : Cut) (after : List Cut) → [] ≡ before ++ c ∷ after → ⊥
none_split [] c after e = cc
none_split (b ∷ before) c after e = cc

parts_same : (c d : Cut) (cuts others : List Cut) → c ∷ cuts ≡ d ∷ others → (c ≡ d) × (cuts ≡ others)
parts_same c d cuts others e = (cc, cc)

none_left : (index size : ℕ) → AreFrom index 0 size []
none_left index size = record {
  follow = λ before c after e. absurd (none_split before c after e);
  end = refl;
  full = λ before c next after e. absurd (none_split before c (next ∷ after) e);
  last = λ before c e. absurd (none_split before c [] e);
}

-- the first piece has an octet at least
pub first_size : (index octets size : ℕ) (c : Cut) (cuts : List Cut) → 1 ≤ size → AreFrom index octets size (c ∷ cuts) → (1 ≤ c.len) × (c.len ≤ size)
first_size index octets size c [] some a = a.last [] c refl
first_size index octets size c (d ∷ cuts) some a = let e = a.full [] c d cuts refl in (omega arith, omega arith)

-- one more piece in front; where more octets follow, it's a full one
one_more : (index octets size : ℕ) (c : Cut) (cuts : List Cut) → AreFrom (index + c.len) octets size cuts
    → c.index ≡ index → 1 ≤ c.len → c.len ≤ size → (0 < octets → c.len ≡ size) → AreFrom index (c.len + octets) size (c ∷ cuts)
one_more index octets size c cuts rest at some most full = record {
  follow = follow_more;
  end = more_octets c cuts ∙ ap (λ n. c.len + n) rest.end;
  full = full_more;
  last = last_more;
}
  where
    follow_more : (before : List Cut) (d : Cut) (after : List Cut) → c ∷ cuts ≡ before ++ d ∷ after → d.index ≡ index + octet_count before
    follow_more [] d after e =
        let p = parts_same c d cuts after e in
        let i : c.index ≡ d.index = ap (λ (x : Cut). x.index) p.0 in
        omega arith
    follow_more (b ∷ before) d after e =
        let p = parts_same c b cuts (before ++ d ∷ after) e in
        let n : c.len ≡ b.len = ap (λ (x : Cut). x.len) p.0 in
        omega (arith, rest.follow before d after p.1, more_octets b before)

    full_more : (before : List Cut) (d next : Cut) (after : List Cut) → c ∷ cuts ≡ before ++ d ∷ next ∷ after → d.len ≡ size
    full_more [] d next after e =
        let p = parts_same c d cuts (next ∷ after) e in
        let n : c.len ≡ d.len = ap (λ (x : Cut). x.len) p.0 in
        let behind : AreFrom (index + c.len) octets size (next ∷ after) = subst (AreFrom (index + c.len) octets size) p.1 rest in
        let first = first_size (index + c.len) octets size next after (omega arith) behind in
        let more : 0 < octets = omega (arith, more_octets next after, behind.end, first.0) in
        sym n ∙ full more
    full_more (b ∷ before) d next after e = rest.full before d next after (parts_same c b cuts (before ++ d ∷ next ∷ after) e).1

    last_more : (before : List Cut) (d : Cut) → c ∷ cuts ≡ before ++ d ∷ [] → (1 ≤ d.len) × (d.len ≤ size)
    last_more [] d e =
        let n : c.len ≡ d.len = ap (λ (x : Cut). x.len) (parts_same c d cuts [] e).0 in
        (omega arith, omega arith)
    last_more (b ∷ before) d e = rest.last before d (parts_same c b cuts (before ++ d ∷ []) e).1

-- what stands after the first piece
pub one_less : (index octets size : ℕ) (c : Cut) (cuts : List Cut) → AreFrom index octets size (c ∷ cuts) → AreFrom (index + c.len) (octets - c.len) size cuts
one_less index octets size c cuts a = record {
  follow = λ before d after e. omega (arith, a.follow (c ∷ before) d after (ap (λ (t : List Cut). c ∷ t) e), more_octets c before);
  end = omega (arith, more_octets c cuts, a.end);
  full = λ before d next after e. a.full (c ∷ before) d next after (ap (λ (t : List Cut). c ∷ t) e);
  last = λ before d e. a.last (c ∷ before) d (ap (λ (t : List Cut). c ∷ t) e);
}

-- the first piece is as long as it may be
first_len : (index octets size : ℕ) (c : Cut) (cuts : List Cut) → 1 ≤ size → AreFrom index octets size (c ∷ cuts) → c.len ≡ min octets size
first_len index octets size c [] some a = omega (arith, a.end, more_octets c [], (a.last [] c refl).1)
first_len index octets size c (d ∷ cuts) some a = omega (arith, a.end, more_octets c (d ∷ cuts), a.full [] c d cuts refl)

abbrev piece : ℕ → ℕ → Cut
piece index len = record { index = index; len = len }

same_piece : (c d : Cut) → c.index ≡ d.index → c.len ≡ d.len → c ≡ d
same_piece c d i n = ap (λ (k : ℕ). piece k c.len) i ∙ ap (piece d.index) n

-- Two lists of pieces of the same octets are one.
same_list : (index octets size : ℕ) (cuts others : List Cut) → 1 ≤ size → AreFrom index octets size cuts → AreFrom index octets size others → cuts ≡ others
same_list index octets size [] [] some a b = refl
same_list index octets size [] (d ∷ others) some a b =
    absurd (omega (arith, a.end, b.end, more_octets d others, (first_size index octets size d others some b).0))
same_list index octets size (c ∷ cuts) [] some a b =
    absurd (omega (arith, a.end, b.end, more_octets c cuts, (first_size index octets size c cuts some a).0))
same_list index octets size (c ∷ cuts) (d ∷ others) some a b =
    let n : c.len ≡ d.len = first_len index octets size c cuts some a ∙ sym (first_len index octets size d others some b) in
    let i : c.index ≡ d.index = a.follow [] c cuts refl ∙ sym (b.follow [] d others refl) in
    let rest : AreFrom (index + c.len) (octets - c.len) size others = subst (λ (k : ℕ). AreFrom (index + k) (octets - k) size others) (sym n) (one_less index octets size d others b) in
    let same = same_list (index + c.len) (octets - c.len) size cuts others some (one_less index octets size c cuts a) rest in
    let piece = same_piece c d i n in
    cc

-- The octets of the pieces, joined, are those that they cover.
joined_from : (index octets size : ℕ) (text : List ℕ) (cuts : List Cut) → AreFrom (index + 1) octets size cuts
    → flat_map (piece_of text) cuts ≡ take octets (drop index text)
joined_from index octets size text [] a = let e : 0 ≡ octets = a.end in subst (λ (k : ℕ). [] ≡ take k (drop index text)) e refl
joined_from index octets size text (c ∷ cuts) a =
    let at : c.index - 1 ≡ index = omega (arith, a.follow [] c cuts refl) in
    let most : c.len + (octets - c.len) ≡ octets = omega (arith, a.end, more_octets c cuts) in
    let past : index + 1 + c.len ≡ index + c.len + 1 = omega arith in
    let behind : AreFrom (index + c.len + 1) (octets - c.len) size cuts = subst (λ (k : ℕ). AreFrom k (octets - c.len) size cuts) past (one_less (index + 1) octets size c cuts a) in
    let rest : flat_map (piece_of text) cuts ≡ take (octets - c.len) (drop (index + c.len) text) = joined_from (index + c.len) (octets - c.len) size text cuts behind in
    let whole : take octets (drop index text) ≡ take c.len (drop index text) ++ take (octets - c.len) (drop c.len (drop index text)) =
    ap (λ (k : ℕ). take k (drop index text)) (sym most) ∙ take-add c.len (octets - c.len) (drop index text) in
    rw (at, rest, whole, drop-drop c.len index text) refl

-- The pieces so far cover the text up to `start`: with any pieces of the rest after them they cover it all.
pub record AreBegun (octets size start : ℕ) (cuts : List Cut) : Type 0 where
  pub within : start ≤ octets
  pub whole : (rest : List Cut) → AreFrom (start + 1) (octets - start) size rest → AreFrom 1 octets size (cuts ++ rest)

pub none_yet : (octets size : ℕ) → AreBegun octets size 0 []
none_yet octets size = record { within = omega arith; whole = λ rest a. subst (λ (k : ℕ). AreFrom 1 k size rest) (omega arith) a }

pub one_cut : (octets size start : ℕ) (c : Cut) (cuts : List Cut) → AreBegun octets size start cuts → start < octets → 1 ≤ size
    → c.index ≡ start + 1 → c.len ≡ min (octets - start) size → AreBegun octets size (start + c.len) (cuts ++ c ∷ [])
one_cut octets size start c cuts begun more some at long = record {
  within = omega arith;
  whole = λ rest a.
      let left : c.len + (octets - (start + c.len)) ≡ octets - start = omega arith in
      let behind : AreFrom (start + 1 + c.len) (octets - (start + c.len)) size rest =
      subst (λ (k : ℕ). AreFrom k (octets - (start + c.len)) size rest) (omega arith) a in
      let with_piece : AreFrom (start + 1) (c.len + (octets - (start + c.len))) size (c ∷ rest) =
      one_more (start + 1) (octets - (start + c.len)) size c rest behind at (omega arith) (omega arith) (λ h. omega arith) in
      let there : AreFrom (start + 1) (octets - start) size (c ∷ rest) = subst (λ (k : ℕ). AreFrom (start + 1) k size (c ∷ rest)) left with_piece in
      rw append_assoc (begun.whole (c ∷ rest) there);
}

-- at the end of the text
pub all_cut : (octets size start : ℕ) (cuts : List Cut) → AreBegun octets size start cuts → octets ≤ start → AreCuts octets size cuts
all_cut octets size start cuts begun end =
    let none : octets - start ≡ 0 = omega (arith, begun.within) in
    let left : AreFrom (start + 1) (octets - start) size [] = subst (λ (k : ℕ). AreFrom (start + 1) k size []) (sym none) (none_left (start + 1) size) in
    let a : AreFrom 1 octets size cuts = subst (AreFrom 1 octets size) (append-nil cuts) (begun.whole [] left) in
    record { follow = a.follow; end = a.end; full = a.full; last = a.last }

pub from_cuts : (octets size : ℕ) (cuts : List Cut) → AreCuts octets size cuts → AreFrom 1 octets size cuts
from_cuts octets size cuts a = record { follow = a.follow; end = a.end; full = a.full; last = a.last }

-- Two lists of pieces of one text are one.
pub same_cuts : (octets size : ℕ) (cuts others : List Cut) → 1 ≤ size → AreCuts octets size cuts → AreCuts octets size others → cuts ≡ others
same_cuts octets size cuts others some a b = same_list 1 octets size cuts others some (from_cuts octets size cuts a) (from_cuts octets size others b)

-- The octets of the pieces, joined, are the text.
pub joined_text : (size : ℕ) (text : List ℕ) (cuts : List Cut) → AreCuts (length text) size cuts → flat_map (piece_of text) cuts ≡ text
joined_text size text cuts a =
    let from : AreFrom (0 + 1) (length text) size cuts = from_cuts (length text) size cuts a in
    joined_from 0 (length text) size text cuts from ∙ take_all (length text) text (omega arith)
