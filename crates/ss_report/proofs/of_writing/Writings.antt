-- Texts that are written one after the other.
use Rattle.std.proofs.Common.{◌≡◌, ℕ, ◌+◌, ◌<◌, Bool, true, false, List, [], ◌∷◌, ◌++◌, length, get_or, take, flat_map, refl, sym, ap, ◌∙◌, subst, append-nil, append_assoc, codes}
use Rattle.std.specs.Prelude.{MatchBool}
use Rattle.std.proofs.KnownBytes.{Appends-nil}
use Rattle.std.proofs.lemmas.Grind.{flat_map-append}
use Rattle.std.proofs.lemmas.List.{take_more}
use Rattle.ss_frame.specs.Watched.{Sink}
use Rattle.ss_frame.specs.Output.{WritesWhole, WritesPrefix}
use Rattle.ss_frame.proofs.Written.{whole_then_whole, whole_then_prefix, prefix_of_more}
use Rattle.ss_report.specs.log.Writing.{Writes}

pub writes_whole : (a b : Sink) (x : List ℕ) → WritesWhole a b x → (a.failed ≡ true → b ≡ a) → Writes a b x
writes_whole a b x whole untouched = record {
  written = subst (λ failed. MatchBool failed (WritesPrefix a b x) (WritesWhole a b x)) (sym whole.1) whole;
  untouched = untouched;
}

pub writes_prefix : (a b : Sink) (x : List ℕ) → WritesPrefix a b x → (a.failed ≡ true → b ≡ a) → Writes a b x
writes_prefix a b x prefix untouched = record {
  written = subst (λ failed. MatchBool failed (WritesPrefix a b x) (WritesWhole a b x)) (sym prefix.0) prefix;
  untouched = untouched;
}

-- a writer that reports whether all was written
pub writes_told : (a b : Sink) (r : Bool) (x : List ℕ) → MatchBool r (WritesWhole a b x) (WritesPrefix a b x) → (a.failed ≡ true → b ≡ a) → Writes a b x
writes_told a b true x told untouched = writes_whole a b x told untouched
writes_told a b false x told untouched = writes_prefix a b x told untouched

pub whole_of : (a b : Sink) (x : List ℕ) → Writes a b x → b.failed ≡ false → WritesWhole a b x
whole_of a b x w ready = subst (λ failed. MatchBool failed (WritesPrefix a b x) (WritesWhole a b x)) ready w.written

pub prefix_of : (a b : Sink) (x : List ℕ) → Writes a b x → b.failed ≡ true → WritesPrefix a b x
prefix_of a b x w failed = subst (λ failed. MatchBool failed (WritesPrefix a b x) (WritesWhole a b x)) failed w.written

nothing : (a : Sink) (failed : Bool) → a.failed ≡ failed → Writes a a []
nothing a true is = writes_prefix a a [] (is, ([], [], refl, Appends-nil a.written)) (λ _. refl)
nothing a false is = writes_whole a a [] (Appends-nil a.written, is) (λ _. refl)

pub writes_nothing : (a : Sink) → Writes a a []
writes_nothing a = nothing a a.failed refl

stays : (a b c : Sink) (x y : List ℕ) → Writes a b x → Writes b c y → a.failed ≡ true → c ≡ a
stays a b c x y first second failed =
    let same = first.untouched failed in
    second.untouched (ap (λ (s : Sink). s.failed) same ∙ failed) ∙ same

then : (a b c : Sink) (x y : List ℕ) (failed fails : Bool) → b.failed ≡ failed → c.failed ≡ fails → Writes a b x → Writes b c y → Writes a c (x ++ y)
then a b c x y true fails was is first second =
    let prefix = prefix_of_more a b x y (prefix_of a b x first was) in
    writes_prefix a c (x ++ y) (subst (λ s. WritesPrefix a s (x ++ y)) (sym (second.untouched was)) prefix) (stays a b c x y first second)
then a b c x y false true was is first second =
    writes_prefix a c (x ++ y) (whole_then_prefix a b c x y (whole_of a b x first was) (prefix_of b c y second is)) (stays a b c x y first second)
then a b c x y false false was is first second =
    writes_whole a c (x ++ y) (whole_then_whole a b c x y (whole_of a b x first was) (whole_of b c y second is)) (stays a b c x y first second)

-- a text, and then another one
pub writes_then : (a b c : Sink) (x y : List ℕ) → Writes a b x → Writes b c y → Writes a c (x ++ y)
writes_then a b c x y first second = then a b c x y b.failed c.failed refl refl first second

pub writes_same : (a b : Sink) (x y : List ℕ) → Writes a b x → x ≡ y → Writes a b y
writes_same a b x y w e = subst (λ t. Writes a b t) e w

-- where two lists are written one after the other, the text of the items so far goes on with that of the next one
pub writes_next : {X : Type 0} (f : List X → List ℕ) → ((xs ys : List X) → f (xs ++ ys) ≡ f xs ++ f ys) → (xs : List X) (i : ℕ) (d : X) (a b c : Sink) (told : List ℕ)
    → i < length xs → Writes a b (f (take i xs)) → Writes b c told → told ≡ f (get_or xs i d ∷ []) → Writes a c (f (take (i + 1) xs))
writes_next f splits xs i d a b c told within so_far next is =
    let x = get_or xs i d in
    let more : f (take i xs) ++ told ≡ f (take (i + 1) xs) =
    ap (λ t. f (take i xs) ++ t) is ∙ sym (ap f (take_more xs i d within) ∙ splits (take i xs) (x ∷ [])) in
    writes_same a c _ _ (writes_then a b c _ _ so_far next) more

-- the texts of the items so far, and then that of the next one
pub writes_more : {X : Type 0} (f : X → List ℕ) (xs : List X) (i : ℕ) (d : X) (a b c : Sink) (told : List ℕ) → i < length xs
    → Writes a b (flat_map f (take i xs)) → Writes b c told → told ≡ f (get_or xs i d) → Writes a c (flat_map f (take (i + 1) xs))
writes_more f xs i d a b c told within so_far next is =
    writes_next (flat_map f) (flat_map-append f) xs i d a b c told within so_far next (is ∙ sym (append-nil (f (get_or xs i d))))

-- a word and the SP before it, between what stands before and after
pub word_then : (front word is behind : List ℕ) → word ≡ is → front ++ (codes " " ++ word) ++ behind ≡ front ++ codes " " ++ is ++ behind
word_then front word is behind e = rw e (simp append_assoc)
