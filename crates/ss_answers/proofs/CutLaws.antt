-- Where a text of counters is cut off: inside a part, so that its front isn't whole, or where a part ends.
use Rattle.std.proofs.Common.{◌≡◌, ◌⊎◌, inl, inr, ℕ, ◌+◌, ◌<◌, codes, List, [], ◌∷◌, ◌++◌, length, map, sym, refl, ap, ◌∙◌, subst, arith, append_assoc, append-nil, length-append}
use Rattle.std.specs.Fmt.{decimal}
use Rattle.std.specs.List.{AllByRecursion}
use Rattle.std.proofs.lemmas.Grind.{flat_map-append}
use Rattle.std.proofs.lemmas.List.Elements.{All-from_recursion}
use Rattle.ss_octets.specs.Ascii.{lf}
use Rattle.ss_octets.proofs.Base64Text.{Clear}
use Rattle.ss_review.specs.declared.counted.counter.Counter.{Counter}
use Rattle.ss_review.specs.counted.CounterRange.{IsCounter}
use Rattle.ss_answers.specs.CounterFile.{Begins, CutsAreSeen, HasCounters, IsCutBetweenParts, IsNotWhole, text_of_parts, together}
use Rattle.ss_answers.specs.Lines.{ended}
use Rattle.ss_answers.proofs.LineLaws.{ended-cons}
use Rattle.ss_answers.proofs.PartLaws.{text_lines}
use Rattle.ss_answers.proofs.PartLines.{Count, End, Line, are_spelt, good, lines_of, parts_are, spell, text_is}

-- ---- a cut of lines

-- a text whose first line is cut: inside it, or after its line feed
cut_first : (line text front behind : List ℕ) → Clear lf line → front ++ behind ≡ line ++ lf ∷ text
    → Clear lf front ⊎ ((more : List ℕ) × (front ≡ line ++ lf ∷ more) × (more ++ behind ≡ text))
cut_first line text [] behind h e = inl tt
cut_first [] text (x ∷ front) behind h e =
    let first : x ≡ lf = cc in
    let rest : front ++ behind ≡ text = cc in
    inr (front, ap (λ c. c ∷ front) first, rest)
cut_first (y ∷ line) text (x ∷ front) behind h e =
    let first : x ≡ y = cc in
    let rest : front ++ behind ≡ line ++ lf ∷ text = cc in
    by first (cut_first line text front behind h.1 rest)
  where
    by : x ≡ y → Clear lf front ⊎ ((more : List ℕ) × (front ≡ line ++ lf ∷ more) × (more ++ behind ≡ text))
        → Clear lf (x ∷ front) ⊎ ((more : List ℕ) × (x ∷ front ≡ y ∷ (line ++ lf ∷ more)) × (more ++ behind ≡ text))
    by first (inl clear) = inl (subst (λ c. Clear lf (c ∷ front)) (sym first) (h.0, clear))
    by first (inr more) = inr (more.0, cc, more.2)

record CutLines (lines : List Line) (front behind : List ℕ) : Type 0 where
  before : List Line
  after : List Line
  rest : List ℕ
  lines_are : lines ≡ before ++ after
  front_is : front ≡ ended spell before ++ rest
  clear : Clear lf rest
  behind_is : rest ++ behind ≡ ended spell after

cut_lines : (lines : List Line) (front behind : List ℕ) → AllByRecursion good lines → front ++ behind ≡ ended spell lines → CutLines lines front behind
cut_lines [] front behind f e =
    record { before = []; after = []; rest = front; lines_are = refl; front_is = refl; clear = none front e; behind_is = e }
  where
    none : (front : List ℕ) → front ++ behind ≡ [] → Clear lf front
    none [] e = tt
    none (x ∷ front) e = absurd cc
cut_lines (line ∷ lines) front behind f e =
    by (λ more is. cut_lines lines more behind f.1 is) (cut_first (spell line) (ended spell lines) front behind (are_spelt.clear line f.0) (e ∙ ended-cons spell line lines))
  where
    by : ((more : List ℕ) → more ++ behind ≡ ended spell lines → CutLines lines more behind)
        → Clear lf front ⊎ ((more : List ℕ) × (front ≡ spell line ++ lf ∷ more) × (more ++ behind ≡ ended spell lines)) → CutLines (line ∷ lines) front behind
    by others (inl clear) =
        record { before = []; after = line ∷ lines; rest = front; lines_are = refl; front_is = refl; clear = clear; behind_is = e }
    by others (inr more) =
        let next = others more.0 more.2 in
        record {
          before = line ∷ next.before;
          after = next.after;
          rest = next.rest;
          lines_are = ap (λ ls. line ∷ ls) next.lines_are;
          front_is = more.1 ∙ ap (λ t. spell line ++ lf ∷ t) next.front_is
              ∙ sym (append_assoc (spell line) (lf ∷ ended spell next.before) next.rest)
              ∙ ap (λ t. t ++ next.rest) (sym (ended-cons spell line next.before));
          clear = next.clear;
          behind_is = next.behind_is;
        }

-- ---- a cut of the lines of parts

record InPart (p : List Counter) (end : Line) (lines before after : List Line) : Type 0 where
  taken : List Counter
  left : List Counter
  part_is : p ≡ taken ++ left
  before_is : before ≡ map Count taken
  after_is : after ≡ map Count left ++ end ∷ lines

record BehindPart (p : List Counter) (end : Line) (lines before after : List Line) : Type 0 where
  more : List Line
  before_is : before ≡ map Count p ++ end ∷ more
  lines_are : lines ≡ more ++ after

cut_part : (p : List Counter) (end : Line) (lines before after : List Line) → map Count p ++ end ∷ lines ≡ before ++ after
    → InPart p end lines before after ⊎ BehindPart p end lines before after
cut_part p end lines [] after e = inl (record { taken = []; left = p; part_is = refl; before_is = refl; after_is = sym e })
cut_part [] end lines (x ∷ before) after e =
    let first : end ≡ x = cc in
    let rest : lines ≡ before ++ after = cc in
    inr (record { more = before; before_is = ap (λ l. l ∷ before) (sym first); lines_are = rest })
cut_part (c ∷ p) end lines (x ∷ before) after e =
    let first : Count c ≡ x = cc in
    let rest : map Count p ++ end ∷ lines ≡ before ++ after = cc in
    by first (cut_part p end lines before after rest)
  where
    by : Count c ≡ x → InPart p end lines before after ⊎ BehindPart p end lines before after
        → InPart (c ∷ p) end lines (x ∷ before) after ⊎ BehindPart (c ∷ p) end lines (x ∷ before) after
    by first (inl h) = inl (record {
      taken = c ∷ h.taken;
      left = h.left;
      part_is = ap (λ cs. c ∷ cs) h.part_is;
      before_is = ap (λ l. l ∷ before) (sym first) ∙ ap (λ ls. Count c ∷ ls) h.before_is;
      after_is = h.after_is;
    })
    by first (inr h) = inr (record {
      more = h.more;
      before_is = ap (λ l. l ∷ before) (sym first) ∙ ap (λ ls. Count c ∷ ls) h.before_is;
      lines_are = h.lines_are;
    })

-- a front of the lines of parts: whole parts, and some counters of the next one, or the cut is where a part ends
record Split (parts : List (List Counter)) (before after : List Line) : Type 0 where
  whole : List (List Counter)
  begun : List Counter
  before_is : before ≡ lines_of whole begun
  fields : AllByRecursion IsCounter (together whole ++ begun)
  inside : (0 < length begun) ⊎ ((begun ≡ []) × (rest : List (List Counter)) × (parts ≡ whole ++ rest) × (after ≡ lines_of rest []))

fields-first : (a b : List Counter) → AllByRecursion IsCounter (a ++ b) → AllByRecursion IsCounter a
fields-first [] b h = tt
fields-first (c ∷ a) b h = (h.0, fields-first a b h.1)

fields-rest : (a b : List Counter) → AllByRecursion IsCounter (a ++ b) → AllByRecursion IsCounter b
fields-rest [] b h = h
fields-rest (c ∷ a) b h = fields-rest a b h.1

fields-both : (a b : List Counter) → AllByRecursion IsCounter a → AllByRecursion IsCounter b → AllByRecursion IsCounter (a ++ b)
fields-both [] b h k = k
fields-both (c ∷ a) b h k = (h.0, fields-both a b h.1 k)

split_in : (p : List Counter) (parts : List (List Counter)) (before after : List Line) → AllByRecursion IsCounter (p ++ together parts)
    → (h : InPart p (End (decimal (length p))) (lines_of parts []) before after) → (taken : List Counter) → h.taken ≡ taken → Split (p ∷ parts) before after
split_in p parts before after f h [] e = record {
  whole = [];
  begun = [];
  before_is = h.before_is ∙ ap (map Count) e;
  fields = tt;
  inside = inr (refl, p ∷ parts, refl, h.after_is ∙ ap (λ cs. map Count cs ++ End (decimal (length p)) ∷ lines_of parts []) (sym (h.part_is ∙ ap (λ t. t ++ h.left) e)));
}
split_in p parts before after f h (c ∷ taken) e = record {
  whole = [];
  begun = c ∷ taken;
  before_is = h.before_is ∙ ap (map Count) e;
  fields = subst (AllByRecursion IsCounter) e (fields-first h.taken h.left (subst (AllByRecursion IsCounter) h.part_is (fields-first p (together parts) f)));
  inside = inl (omega arith);
}

inside-more : (p : List Counter) (parts whole : List (List Counter)) (begun : List Counter) (after : List Line)
    → (0 < length begun) ⊎ ((begun ≡ []) × (rest : List (List Counter)) × (parts ≡ whole ++ rest) × (after ≡ lines_of rest []))
    → (0 < length begun) ⊎ ((begun ≡ []) × (rest : List (List Counter)) × (p ∷ parts ≡ p ∷ (whole ++ rest)) × (after ≡ lines_of rest []))
inside-more p parts whole begun after (inl some) = inl some
inside-more p parts whole begun after (inr k) = inr (k.0, k.1, ap (λ ps. p ∷ ps) k.2, k.3)

split : (parts : List (List Counter)) (before after : List Line) → AllByRecursion IsCounter (together parts) → lines_of parts [] ≡ before ++ after
    → Split parts before after
split [] [] after f e =
    record { whole = []; begun = []; before_is = refl; fields = tt; inside = inr (refl, [], refl, sym e) }
split [] (x ∷ before) after f e = absurd cc
split (p ∷ parts) before after f e =
    by (λ more is. split parts more after (fields-rest p (together parts) f) is) (cut_part p (End (decimal (length p))) (lines_of parts []) before after e)
  where
    by : ((more : List Line) → lines_of parts [] ≡ more ++ after → Split parts more after)
        → InPart p (End (decimal (length p))) (lines_of parts []) before after ⊎ BehindPart p (End (decimal (length p))) (lines_of parts []) before after
        → Split (p ∷ parts) before after
    by others (inl h) = split_in p parts before after f h h.taken refl
    by others (inr h) =
        let next = others h.more h.lines_are in
        record {
          whole = p ∷ next.whole;
          begun = next.begun;
          before_is = h.before_is ∙ ap (λ ls. map Count p ++ End (decimal (length p)) ∷ ls) next.before_is;
          fields = subst (AllByRecursion IsCounter) (sym (append_assoc p (together next.whole) next.begun))
              (fields-both p (together next.whole ++ next.begun) (fields-first p (together parts) f) next.fields);
          inside = inside-more p parts next.whole next.begun after next.inside;
        }

-- ---- the law

-- a front that ends after lines, or inside one
not_whole : {front : List ℕ} (parts : List (List Counter)) (begun : List Counter) (rest : List ℕ)
    → AllByRecursion IsCounter (together parts ++ begun) → front ≡ ended spell (lines_of parts begun) ++ rest → Clear lf rest
    → (length parts ≡ 0) ⊎ (0 < length begun) ⊎ (0 < length rest) → IsNotWhole front
not_whole parts begun rest fields spelt clear inside = record {
  parts = parts;
  begun = begun;
  rest = rest;
  begins = record { fields = fields; spelt = spelt ∙ sym (text_is parts begun rest) };
  why = inl (record { lacks = All-from_recursion _ rest clear; inside = inside });
}

cut_between : {front behind : List ℕ} {counters : List Counter} (parts whole rest : List (List Counter)) (begun : List Counter)
    → AllByRecursion IsCounter (together whole ++ begun) → counters ≡ together parts → parts ≡ whole ++ rest → begun ≡ []
    → front ≡ ended spell (lines_of whole begun) ++ [] → behind ≡ ended spell (lines_of rest [])
    → IsNotWhole front ⊎ IsCutBetweenParts front behind counters
cut_between parts [] rest begun fields are cut none front_is behind_is =
    inl (not_whole [] begun [] fields front_is tt (inl refl))
cut_between parts (p ∷ whole) rest begun fields are cut none front_is behind_is =
    inr (record {
      before = p ∷ whole;
      after = rest;
      front_is = front_is ∙ append-nil (ended spell (lines_of (p ∷ whole) begun)) ∙ ap (λ cs. ended spell (lines_of (p ∷ whole) cs)) none ∙ sym (parts_are (p ∷ whole));
      behind_is = behind_is ∙ sym (parts_are rest);
      counters_are = are ∙ ap together cut ∙ flat_map-append (λ (cs : List Counter). cs) (p ∷ whole) rest;
      some = omega arith;
    })

pub cuts_are_seen : CutsAreSeen
cuts_are_seen front behind counters has = by cut.rest cut.front_is cut.clear cut.behind_is apart.inside
  where
    cut : CutLines (lines_of has.parts []) front behind
    cut = cut_lines (lines_of has.parts []) front behind (text_lines has).fields (has.spelt ∙ parts_are has.parts)

    apart : Split has.parts cut.before cut.after
    apart = split has.parts cut.before cut.after (subst (AllByRecursion IsCounter) has.are has.fields) cut.lines_are

    by : (rest : List ℕ) → front ≡ ended spell cut.before ++ rest → Clear lf rest → rest ++ behind ≡ ended spell cut.after
        → (0 < length apart.begun) ⊎ ((apart.begun ≡ []) × (others : List (List Counter)) × (has.parts ≡ apart.whole ++ others) × (cut.after ≡ lines_of others []))
        → IsNotWhole front ⊎ IsCutBetweenParts front behind counters
    by rest e clear behind_is (inl some) =
        inl (not_whole apart.whole apart.begun rest apart.fields (e ∙ ap (λ ls. ended spell ls ++ rest) apart.before_is) clear (inr (inl some)))
    by (x ∷ rest) e clear behind_is (inr k) =
        inl (not_whole apart.whole apart.begun (x ∷ rest) apart.fields (e ∙ ap (λ ls. ended spell ls ++ x ∷ rest) apart.before_is) clear (inr (inr (omega arith))))
    by [] e clear behind_is (inr k) =
        cut_between has.parts apart.whole k.1 apart.begun apart.fields has.are k.2 k.0 (e ∙ ap (λ ls. ended spell ls ++ []) apart.before_is)
        (behind_is ∙ ap (ended spell) k.3)
