-- What a value stands for is what is read.
use Rattle.std.proofs.Common.{◌≡◌, ℕ, Bool, true, false, cond, ◌&&◌, ◌||◌, ◌==◌, List, [], ◌∷◌, refl, sym, ap, subst, ◌∙◌}
use Rattle.std.proofs.lemmas.Bool.{and_parts, or_parts, eqb-true}
use Rattle.ss_message.specs.Octets.{is_special}
use Rattle.ss_message.specs.Raw.{meant, meant_after}
use Rattle.ss_block.specs.Stands.{begins_escaped, Stands}
use Rattle.ss_block.specs.Stands.Stands.{nothing, escape, itself}

escaped_front : (a b : ℕ) (rest : List ℕ) → a ≡ 92 → is_special b ≡ true → meant (a ∷ b ∷ rest) ≡ b ∷ meant rest
escaped_front a b rest backslash special =
    ap (λ (x : ℕ). meant (x ∷ b ∷ rest)) backslash ∙ ap (λ (t : Bool). cond t (b ∷ meant rest) (92 ∷ b ∷ meant rest)) special

-- an octet that isn't special is no `\`
no_backslash : (b : ℕ) (rest : List ℕ) → is_special b ≡ false → meant (b ∷ rest) ≡ b ∷ meant rest
no_backslash b rest plain =
    let other : (b == 92) ≡ false = (or_parts (b == 34) (b == 92) (or_parts ((b == 34) || (b == 92)) (b == 93) plain).0).1 in
    ap (λ (t : Bool). cond t (meant_after true rest) (b ∷ meant rest)) other

plain_front : (a : ℕ) (raw : List ℕ) → begins_escaped (a ∷ raw) ≡ false → meant (a ∷ raw) ≡ a ∷ meant raw
plain_front a [] plain = by_test a (a == 92) refl
  where
    by_test : (a : ℕ) (t : Bool) → (a == 92) ≡ t → cond t (92 ∷ []) (a ∷ []) ≡ a ∷ []
    by_test a true e = ap (λ (x : ℕ). x ∷ []) (sym (eqb-true a 92 e))
    by_test a false e = refl
plain_front a (b ∷ rest) plain = by_tests a b rest (a == 92) (is_special b) refl refl plain
  where
    by_tests : (a b : ℕ) (rest : List ℕ) (t s : Bool) → (a == 92) ≡ t → is_special b ≡ s → (t && s) ≡ false
        → cond t (cond s (b ∷ meant rest) (92 ∷ b ∷ meant rest)) (a ∷ meant (b ∷ rest)) ≡ a ∷ meant (b ∷ rest)
    by_tests a b rest false s e f plain = refl
    by_tests a b rest true true e f plain = absurd cc
    by_tests a b rest true false e f plain =
        ap (λ (x : ℕ). x ∷ b ∷ meant rest) (sym (eqb-true a 92 e)) ∙ ap (λ (x : List ℕ). a ∷ x) (sym (no_backslash b rest f))

-- ---- the reading is one that it stands for

more : (a b : ℕ) (rest : List ℕ) (t : Bool) → begins_escaped (a ∷ b ∷ rest) ≡ t → Stands rest (meant rest) → Stands (b ∷ rest) (meant (b ∷ rest)) → Stands (a ∷ b ∷ rest) (meant (a ∷ b ∷ rest))
more a b rest true e behind next =
    let p = and_parts (a == 92) (is_special b) e in
    let backslash : a ≡ 92 = eqb-true a 92 p.0 in
    subst (Stands (a ∷ b ∷ rest)) (sym (escaped_front a b rest backslash p.1)) (escape backslash p.1 behind)
more a b rest false e behind next = subst (Stands (a ∷ b ∷ rest)) (sym (plain_front a (b ∷ rest) e)) (itself e next)

-- for the octets, and for them after one more
both : (raw : List ℕ) → Stands raw (meant raw) × ((a : ℕ) → Stands (a ∷ raw) (meant (a ∷ raw)))
both [] = (nothing, λ (a : ℕ). subst (Stands (a ∷ [])) (sym (plain_front a [] refl)) (itself refl nothing))
both (b ∷ rest) =
    let r = both rest in
    (r.1 b, λ (a : ℕ). more a b rest (begins_escaped (a ∷ b ∷ rest)) refl r.0 (r.1 b))

pub stands_for_read : (raw : List ℕ) → Stands raw (meant raw)
stands_for_read raw = (both raw).0

-- ---- and the one

pub read_from_stands : {raw value : List ℕ} → Stands raw value → value ≡ meant raw
read_from_stands nothing = refl
read_from_stands (escape {a} {b} {raw} backslash special s) = ap (λ (x : List ℕ). b ∷ x) (read_from_stands s) ∙ sym (escaped_front a b raw backslash special)
read_from_stands (itself {a} {raw} plain s) = ap (λ (x : List ℕ). a ∷ x) (read_from_stands s) ∙ sym (plain_front a raw plain)
