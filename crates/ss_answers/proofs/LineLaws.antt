-- A text of lines is read in one way, whatever kind they are of.
use Rattle.std.proofs.Common.{◌≡◌, ℕ, ◌<◌, cond, eqb, List, [], ◌∷◌, ◌++◌, length, ◌⊎◌, sym, refl, ap, ◌∙◌, inl, inr, arith, length-append}
use Rattle.std.specs.List.{AllByRecursion}
use Rattle.std.proofs.lemmas.List.{append_assoc}
use Rattle.ss_octets.specs.Ascii.{lf}
use Rattle.ss_octets.proofs.Base64Text.{Clear}
use Rattle.ss_answers.specs.Lines.{AreLines, IsFirstBad, SpellsNone, ended, first_line}
use Rattle.ss_answers.proofs.Cuts.{cut_clear}
use Rattle.ss_answers.proofs.ReadLines.{first_clear}

-- what is wanted of a kind of lines: no line feed stands in one, none is empty, and no two have one text
pub record AreSpelt {A : Type 0} (good : A → Type 0) (spell : A → List ℕ) : Type 0 where
  pub clear : (line : A) → good line → Clear lf (spell line)
  pub some : (line : A) → good line → [] ≡ spell line → ⊥
  pub apart : (a b : A) → good a → good b → spell a ≡ spell b → a ≡ b

-- the text of lines begins with that of the first
pub ended-cons : {A : Type 0} (spell : A → List ℕ) (line : A) (lines : List A) → ended spell (line ∷ lines) ≡ spell line ++ lf ∷ ended spell lines
ended-cons spell line lines = append_assoc (spell line) (lf ∷ []) (ended spell lines)

-- so does a text that goes on after them
pub ended-behind : {A : Type 0} (spell : A → List ℕ) (line : A) (lines : List A) (rest : List ℕ)
    → ended spell (line ∷ lines) ++ rest ≡ spell line ++ lf ∷ (ended spell lines ++ rest)
ended-behind spell line lines rest =
    ap (λ t. t ++ rest) (ended-cons spell line lines) ∙ append_assoc (spell line) (lf ∷ ended spell lines) rest

-- a line feed after a text doesn't change its first line
first_line-push : (text : List ℕ) → first_line (text ++ lf ∷ []) ≡ first_line text
first_line-push [] = refl
first_line-push (x ∷ text) = ap (λ t. cond (eqb x lf) [] (x ∷ t)) (first_line-push text)

-- what stands after lines, in a text of lines, begins with a line
next_is_line : {A : Type 0} (good : A → Type 0) (spell : A → List ℕ) → AreSpelt good spell → (before lines : List A) (rest : List ℕ)
    → AllByRecursion good before → AllByRecursion good lines → ended spell before ++ rest ≡ ended spell lines → 0 < length rest
    → (line : A) × (good line) × (first_line rest ≡ spell line)
next_is_line good spell are [] [] rest f g e some = absurd (omega (arith, ap length e))
next_is_line good spell are [] (l ∷ lines) rest f g e some =
    (l, g.0, ap first_line (e ∙ ended-cons spell l lines) ∙ first_clear (spell l) (ended spell lines) (are.clear l g.0))
next_is_line good spell are (b ∷ before) [] rest f g e some =
    absurd (omega (arith, ap length e, length-append (ended spell (b ∷ before)) rest))
next_is_line good spell are (b ∷ before) (l ∷ lines) rest f g e some =
    let tails = cut_clear lf (spell b) (ended spell before ++ rest) (spell l) (ended spell lines) (are.clear b f.0) (are.clear l g.0)
    (sym (ended-behind spell b before rest) ∙ e ∙ ended-cons spell l lines) in
    next_is_line good spell are before lines rest f.1 g.1 tails.1 some

good_or_bad : {A : Type 0} (good : A → Type 0) (spell : A → List ℕ) → AreSpelt good spell → (text : List ℕ) (lines : List A) (number : ℕ)
    → AreLines good spell text lines → (bad : IsFirstBad good spell text number)
    → (text ≡ ended spell lines) ⊎ (text ++ lf ∷ [] ≡ ended spell lines) → ⊥
good_or_bad good spell are text lines number has bad (inl e) =
    let next = next_is_line good spell are bad.lines lines bad.rest bad.fields has.fields (sym bad.before ∙ e) bad.some in
    bad.bad next.0 next.1 next.2
good_or_bad good spell are text lines number has bad (inr e) =
    let next = next_is_line good spell are bad.lines lines (bad.rest ++ lf ∷ []) bad.fields has.fields
    (sym (append_assoc (ended spell bad.lines) bad.rest (lf ∷ [])) ∙ ap (λ t. t ++ lf ∷ []) (sym bad.before) ∙ e)
    (omega (arith, length-append bad.rest (lf ∷ []))) in
    bad.bad next.0 next.1 (sym (first_line-push bad.rest) ∙ next.2)

pub none_good_and_bad : {A : Type 0} (good : A → Type 0) (spell : A → List ℕ) → AreSpelt good spell
    → (text : List ℕ) (lines : List A) (number : ℕ) → AreLines good spell text lines → IsFirstBad good spell text number → ⊥
none_good_and_bad good spell are text lines number has bad = good_or_bad good spell are text lines number has bad has.spelt

-- what stands after a line, in a text that begins with one
first_line-behind : {A : Type 0} (good : A → Type 0) (spell : A → List ℕ) → AreSpelt good spell → (line : A) (lines : List A) (rest : List ℕ)
    → good line → first_line (ended spell (line ∷ lines) ++ rest) ≡ spell line
first_line-behind good spell are line lines rest g =
    ap first_line (ended-behind spell line lines rest) ∙ first_clear (spell line) (ended spell lines ++ rest) (are.clear line g)

same_place : {A : Type 0} (good : A → Type 0) (spell : A → List ℕ) → AreSpelt good spell → (ms ns : List A) (rest other : List ℕ)
    → AllByRecursion good ms → AllByRecursion good ns → ended spell ms ++ rest ≡ ended spell ns ++ other
    → SpellsNone good spell (first_line rest) → SpellsNone good spell (first_line other) → length ms ≡ length ns
same_place good spell are [] [] rest other f g e bad worse = refl
same_place good spell are [] (n ∷ ns) rest other f g e bad worse =
    absurd (bad n g.0 (ap first_line e ∙ first_line-behind good spell are n ns other g.0))
same_place good spell are (m ∷ ms) [] rest other f g e bad worse =
    absurd (worse m f.0 (ap first_line (sym e) ∙ first_line-behind good spell are m ms rest f.0))
same_place good spell are (m ∷ ms) (n ∷ ns) rest other f g e bad worse =
    let tails = cut_clear lf (spell m) (ended spell ms ++ rest) (spell n) (ended spell ns ++ other) (are.clear m f.0) (are.clear n g.0)
    (sym (ended-behind spell m ms rest) ∙ e ∙ ended-behind spell n ns other) in
    let same = same_place good spell are ms ns rest other f.1 g.1 tails.1 bad worse in
    omega (arith, same)

pub bad_is_determined : {A : Type 0} (good : A → Type 0) (spell : A → List ℕ) → AreSpelt good spell
    → (text : List ℕ) (m n : ℕ) → IsFirstBad good spell text m → IsFirstBad good spell text n → m ≡ n
bad_is_determined good spell are text m n one two =
    let same = same_place good spell are one.lines two.lines one.rest two.rest one.fields two.fields (sym one.before ∙ two.before) one.bad two.bad in
    omega (arith, same, one.place, two.place)

-- lines at the front of a text of lines are its first ones
pub first_ones : {A : Type 0} (good : A → Type 0) (spell : A → List ℕ) → AreSpelt good spell → (ms ns : List A) (rest : List ℕ)
    → AllByRecursion good ms → AllByRecursion good ns → ended spell ms ++ rest ≡ ended spell ns
    → (after : List A) × (ns ≡ ms ++ after) × (rest ≡ ended spell after)
first_ones good spell are [] ns rest f g e = (ns, refl, e)
first_ones good spell are (m ∷ ms) [] rest f g e =
    absurd (omega (arith, ap length e, length-append (ended spell (m ∷ ms)) rest, ap length (ended-cons spell m ms), length-append (spell m) (lf ∷ ended spell ms)))
first_ones good spell are (m ∷ ms) (n ∷ ns) rest f g e =
    let parts = cut_clear lf (spell m) (ended spell ms ++ rest) (spell n) (ended spell ns) (are.clear m f.0) (are.clear n g.0)
    (sym (ended-behind spell m ms rest) ∙ e ∙ ended-cons spell n ns) in
    let more = first_ones good spell are ms ns rest f.1 g.1 parts.1 in
    let same = are.apart m n f.0 g.0 parts.0 in
    (more.0, ap (λ l. l ∷ ns) (sym same) ∙ ap (λ ls. m ∷ ls) more.1, more.2)

ended-some : {A : Type 0} (spell : A → List ℕ) (line : A) (lines : List A) → 0 < length (ended spell (line ∷ lines))
ended-some spell line lines = omega (arith, ap length (ended-cons spell line lines), length-append (spell line) (lf ∷ ended spell lines))

ended-injective : {A : Type 0} (good : A → Type 0) (spell : A → List ℕ) → AreSpelt good spell → (ms ns : List A)
    → AllByRecursion good ms → AllByRecursion good ns → ended spell ms ≡ ended spell ns → ms ≡ ns
ended-injective good spell are [] [] f g e = refl
ended-injective good spell are [] (n ∷ ns) f g e = absurd (omega (arith, ap length e, ended-some spell n ns))
ended-injective good spell are (m ∷ ms) [] f g e = absurd (omega (arith, ap length e, ended-some spell m ms))
ended-injective good spell are (m ∷ ms) (n ∷ ns) f g e =
    let parts = cut_clear lf (spell m) (ended spell ms) (spell n) (ended spell ns) (are.clear m f.0) (are.clear n g.0)
    (sym (ended-cons spell m ms) ∙ e ∙ ended-cons spell n ns) in
    let first = are.apart m n f.0 g.0 parts.0 in
    let others = ended-injective good spell are ms ns f.1 g.1 parts.1 in
    cc (first, others)

-- lines with a line feed more are no lines
no_line_feed_more : {A : Type 0} (good : A → Type 0) (spell : A → List ℕ) → AreSpelt good spell → (ms ns : List A)
    → AllByRecursion good ms → AllByRecursion good ns → ended spell ms ++ lf ∷ [] ≡ ended spell ns → ⊥
no_line_feed_more good spell are ms ns f g e =
    let next = next_is_line good spell are ms ns (lf ∷ []) f g e (omega arith) in
    are.some next.0 next.1 next.2

same_lines : {A : Type 0} (good : A → Type 0) (spell : A → List ℕ) → AreSpelt good spell → (text : List ℕ) (ms ns : List A)
    → AllByRecursion good ms → AllByRecursion good ns
    → (text ≡ ended spell ms) ⊎ (text ++ lf ∷ [] ≡ ended spell ms) → (text ≡ ended spell ns) ⊎ (text ++ lf ∷ [] ≡ ended spell ns) → ms ≡ ns
same_lines good spell are text ms ns f g (inl a) (inl b) = ended-injective good spell are ms ns f g (sym a ∙ b)
same_lines good spell are text ms ns f g (inl a) (inr b) =
    absurd (no_line_feed_more good spell are ms ns f g (ap (λ t. t ++ lf ∷ []) (sym a) ∙ b))
same_lines good spell are text ms ns f g (inr a) (inl b) =
    absurd (no_line_feed_more good spell are ns ms g f (ap (λ t. t ++ lf ∷ []) (sym b) ∙ a))
same_lines good spell are text ms ns f g (inr a) (inr b) = ended-injective good spell are ms ns f g (sym a ∙ b)

pub lines_are_determined : {A : Type 0} (good : A → Type 0) (spell : A → List ℕ) → AreSpelt good spell
    → (text : List ℕ) (lines others : List A) → AreLines good spell text lines → AreLines good spell text others → lines ≡ others
lines_are_determined good spell are text lines others one two =
    same_lines good spell are text lines others one.fields two.fields one.spelt two.spelt
