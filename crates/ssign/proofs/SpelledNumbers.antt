-- Numbers that texts spell, one by one.
use Rattle.std.proofs.Common.{ℕ, ◌+◌, ◌<◌, ◌^◌, zero, suc, List, [], ◌∷◌, ◌++◌, map, length, get_or, take, sym, ap, ◌∙◌, subst, arith}
use Rattle.std.specs.Borrow.{Bor}
use Rattle.std.specs.List.{AllByRecursion}
use Rattle.std.proofs.lemmas.List.{map-append, take_more}
use Rattle.ssign.specs.CommandLine.{SpellsNumber}
use Rattle.ssign.specs.Extraction.{SpellNumbers}

-- the texts behind references
abbrev pub texts : List (Bor (List ℕ)) → List (List ℕ)
texts xs = map (λ s. s.now) xs

spell-append : (ts : List (List ℕ)) (ns : List ℕ) (t : List ℕ) (n : ℕ) → SpellNumbers ts ns → SpellsNumber t n → SpellNumbers (ts ++ t ∷ []) (ns ++ n ∷ [])
spell-append [] [] t n all one = (one, tt)
spell-append (x ∷ xs) (m ∷ ms) t n all one = (all.0, spell-append xs ms t n all.1 one)
spell-append [] (m ∷ ms) t n all one = absurd all
spell-append (x ∷ xs) [] t n all one = absurd all

-- the numbers of the texts so far, and then that of the next one
pub spells_one_more : (xs : List (Bor (List ℕ))) (i : ℕ) (d : Bor (List ℕ)) (ns : List ℕ) (n : ℕ) → i < length xs → SpellNumbers (texts (take i xs)) ns
    → SpellsNumber (get_or xs i d).now n → SpellNumbers (texts (take (i + 1) xs)) (ns ++ n ∷ [])
spells_one_more xs i d ns n within so_far next =
    subst (λ ts. SpellNumbers ts (ns ++ n ∷ [])) (sym (ap texts (take_more xs i d within) ∙ map-append (λ (s : Bor (List ℕ)). s.now) (take i xs) (get_or xs i d ∷ [])))
    (spell-append (texts (take i xs)) ns (get_or xs i d).now n so_far next)

-- a text among others that spell small numbers spells a small number
pub spelled_there : (xs : List (Bor (List ℕ))) (i : ℕ) (d : Bor (List ℕ)) (ns : List ℕ) → i < length xs → SpellNumbers (texts xs) ns → AllByRecursion (λ n. n < 2 ^ 32) ns
    → (n : ℕ) × SpellsNumber (get_or xs i d).now n × (n < 2 ^ 32)
spelled_there [] i d ns within all small = absurd (omega (arith, within))
spelled_there (x ∷ xs) zero d (n ∷ ns) within all small = (n, all.0, small.0)
spelled_there (x ∷ xs) (suc i) d (n ∷ ns) within all small = spelled_there xs i d ns (omega (arith, within)) all.1 small.1
spelled_there (x ∷ xs) i d [] within all small = absurd all
