-- What the two kinds of block share (RFC 5848, sections 4.2 and 5.3.2): VER, RSID, SG and SPRI, three numbers of the
-- kind's own, x, y and z, a value of its own, and SIGN.
use Rattle.std.proofs.Common.{◌≡◌, ◌↔◌, ℕ, ◌≤◌, Bool, true, false, List, [], ◌∷◌, ◌++◌, length, Option, Some, None, refl, sym, ap, subst, ◌∙◌, arith}
use Rattle.std.specs.Prelude.{◌&&◌, decimal, IsSome, IfSome, ok_or}
use Rattle.std.specs.List.{list_all}
use Rattle.std.proofs.lemmas.Bool.{and_parts, true_from_ne_false}
use Rattle.base64.specs.GeneralPurpose.{IsBytes}
use Rattle.ss_message.specs.Raw.{meant, escaped, is_raw}
use Rattle.ss_message.specs.Message.{ParameterValue, ElementValue}
use Rattle.ss_message.proofs.Values.{meant-escaped}
use Rattle.ss_block.specs.declared.block.Group.{Group}
use Rattle.ss_block.specs.declared.hash.Alg.{Alg}
use Rattle.ss_block.specs.declared.spoil.Spoil.{Spoil}
use Rattle.ss_block.specs.declared.refusal.Refusal.TheVariants as refusals
use Rattle.ss_block.specs.declared.reading.Reading.{Reading}
use Rattle.ss_block.specs.declared.reading.Reading.TheVariants.{Spoilt}
use Rattle.ss_block.specs.Block.{IsGroup}
use Rattle.ss_block.specs.Causes.{Reads}
use Rattle.ss_block.specs.Ranges.{last_number}
use Rattle.ss_block.specs.Reading.{or_none}
use Rattle.ss_block.specs.Versions.{alg_of, version_text}
use Rattle.ss_block.specs.Writing.{sign_parameter}
use Rattle.ss_octets.specs.Number.{number, is_number}
use Rattle.ss_octets.specs.StrictBase64.{octets_in, base64}
use Rattle.ss_octets.proofs.Base64Text.{octets_in-base64}
use Rattle.ss_octets.proofs.Numbers.{number-decimal, is_number-decimal, is_spelled}
use Rattle.ss_block.proofs.WrittenValues.{raw_version, raw_number, alg_is}

-- ---- the numbers

-- in their ranges: x is `least` to `most`, y 1 to `most`, z 1 to `count`
pub record AreNumbers (least most count r : ℕ) (g : Group) (x y z : ℕ) : Type 0 where
  pub rsid : r ≤ last_number
  pub group : IsGroup g
  pub some_x : least ≤ x
  pub most_x : x ≤ most
  pub some_y : 1 ≤ y
  pub most_y : y ≤ most
  pub some_z : 1 ≤ z
  pub most_z : z ≤ count
  pub small : most ≤ last_number
  pub small_count : count ≤ last_number

-- each text spells a number in its range
abbrev pub numbers_in : ℕ → ℕ → ℕ → List ℕ → List ℕ → List ℕ → List ℕ → List ℕ → List ℕ → Bool
numbers_in least most count r sg spri x y z =
    is_number 0 last_number r && is_number 0 3 sg && is_number 0 191 spri && is_number least most x && is_number 1 most y && is_number 1 count z

-- a group of these two numbers
abbrev pub group_of : ℕ → ℕ → Group
group_of sg spri = record { sg = sg; spri = spri }

pub spelled : (least most count : ℕ) (r sg spri x y z : List ℕ) → most ≤ last_number → count ≤ last_number → numbers_in least most count r sg spri x y z ≡ true
    → AreNumbers least most count (number r) (group_of (number sg) (number spri)) (number x) (number y) (number z)
spelled least most count r sg spri x y z small small_count h =
    let to_z = and_parts (is_number 0 last_number r && is_number 0 3 sg && is_number 0 191 spri && is_number least most x && is_number 1 most y) (is_number 1 count z) h in
    let to_y = and_parts (is_number 0 last_number r && is_number 0 3 sg && is_number 0 191 spri && is_number least most x) (is_number 1 most y) to_z.0 in
    let to_x = and_parts (is_number 0 last_number r && is_number 0 3 sg && is_number 0 191 spri) (is_number least most x) to_y.0 in
    let to_spri = and_parts (is_number 0 last_number r && is_number 0 3 sg) (is_number 0 191 spri) to_x.0 in
    let to_sg = and_parts (is_number 0 last_number r) (is_number 0 3 sg) to_spri.0 in
    record {
      rsid = (is_spelled 0 last_number r to_sg.0).high;
      group = record { sg = (is_spelled 0 3 sg to_sg.1).high; spri = (is_spelled 0 191 spri to_spri.1).high };
      some_x = (is_spelled least most x to_x.1).low;
      most_x = (is_spelled least most x to_x.1).high;
      some_y = (is_spelled 1 most y to_y.1).low;
      most_y = (is_spelled 1 most y to_y.1).high;
      some_z = (is_spelled 1 count z to_z.1).low;
      most_z = (is_spelled 1 count z to_z.1).high;
      small = small;
      small_count = small_count;
    }

-- what is written of numbers in their ranges
pub record AreWritten (least most count r : ℕ) (g : Group) (x y z : ℕ) : Type 0 where
  pub in_range : numbers_in least most count (decimal r) (decimal g.sg) (decimal g.spri) (decimal x) (decimal y) (decimal z) ≡ true
  pub raws : (alg : Alg) (value : List ℕ) (more : List (List ℕ)) → is_raw (escaped value) ≡ true → list_all (λ v. is_raw (escaped v)) more ≡ true
      → list_all (λ v. is_raw (escaped v)) (version_text alg ∷ decimal r ∷ decimal g.sg ∷ decimal g.spri ∷ decimal x ∷ decimal y ∷ decimal z ∷ value ∷ more) ≡ true
  pub rsid : number (decimal r) ≡ r
  pub sg : number (decimal g.sg) ≡ g.sg
  pub spri : number (decimal g.spri) ≡ g.spri
  pub x_is : number (decimal x) ≡ x
  pub y_is : number (decimal y) ≡ y
  pub z_is : number (decimal z) ≡ z

pub written : {least most count r : ℕ} {g : Group} {x y z : ℕ} → AreNumbers least most count r g x y z → AreWritten least most count r g x y z
written {least = least} {most = most} {count = count} {r = r} {g = g} {x = x} {y = y} {z = z} are =
    let rsid = are.rsid in
    let sg = are.group.sg in
    let spri = are.group.spri in
    let most_x = are.most_x in
    let most_y = are.most_y in
    let most_z = are.most_z in
    let small = are.small in
    let small_count = are.small_count in
    record {
      in_range = rw (is_number-decimal 0 last_number r (omega arith) (omega arith) rsid, is_number-decimal 0 3 g.sg (omega arith) (omega arith) sg, is_number-decimal 0 191 g.spri (omega arith) (omega arith) spri, is_number-decimal least most x (omega arith) are.some_x most_x, is_number-decimal 1 most y (omega arith) are.some_y most_y, is_number-decimal 1 count z (omega arith) are.some_z most_z) refl;
      raws = λ alg value more raw raws. rw (raw_version alg, raw_number r (omega arith), raw_number g.sg (omega arith), raw_number g.spri (omega arith), raw_number x (omega arith), raw_number y (omega arith), raw_number z (omega arith), raw, raws) refl;
      rsid = number-decimal r (omega arith);
      sg = number-decimal g.sg (omega arith);
      spri = number-decimal g.spri (omega arith);
      x_is = number-decimal x (omega arith);
      y_is = number-decimal y (omega arith);
      z_is = number-decimal z (omega arith);
    }

-- ---- the element

-- the element that the calls made
pub made_unsigned : (element : List ParameterValue → ElementValue) (e : ElementValue) (ps qs : List ParameterValue) → e ≡ element ps → ps ≡ qs → e ≡ element qs
made_unsigned element e ps qs is first = is ∙ ap element first

-- and with SIGN, which is last
pub made_signed : (element : List ParameterValue → ElementValue) (e : ElementValue) (all ps qs : List ParameterValue) (sign signature : List ℕ)
    → e ≡ element all → all ≡ ps ++ sign_parameter sign ∷ [] → ps ≡ qs → sign ≡ signature → e ≡ element (qs ++ sign_parameter signature ∷ [])
made_signed element e all ps qs sign signature is more first same =
    is ∙ ap element (more ∙ ap (λ (before : List ParameterValue). before ++ sign_parameter sign ∷ []) first ∙ ap (λ (s : List ℕ). qs ++ sign_parameter s ∷ []) same)

-- what its values stand for
pub meant_again : {T : Type 0} (texts : List ℕ → List ℕ → List ℕ → List ℕ → List ℕ → List ℕ → List ℕ → List ℕ → List ℕ → T) (ver r sg spri x y z value sign : List ℕ)
    → texts (meant (escaped ver)) (meant (escaped r)) (meant (escaped sg)) (meant (escaped spri)) (meant (escaped x)) (meant (escaped y)) (meant (escaped z)) (meant (escaped value)) (meant (escaped sign)) ≡ texts ver r sg spri x y z value sign
meant_again texts ver r sg spri x y z value sign =
    rw (meant-escaped ver, meant-escaped r, meant-escaped sg, meant-escaped spri, meant-escaped x, meant-escaped y, meant-escaped z, meant-escaped value, meant-escaped sign) refl

-- ---- the block

-- of equal parts
pub same_parts : {H X : Type 0} (make : Alg → ℕ → Group → ℕ → ℕ → H → List ℕ → X) (a a' : Alg) (r r' sg sg' spri spri' x x' y y' : ℕ) (h h' : H) (s s' : List ℕ)
    → a ≡ a' → r ≡ r' → sg ≡ sg' → spri ≡ spri' → x ≡ x' → y ≡ y' → h ≡ h' → s ≡ s' → make a r (group_of sg spri) x y h s ≡ make a' r' (group_of sg' spri') x' y' h' s'
same_parts make a a' r r' sg sg' spri spri' x x' y y' h h' s s' p1 p2 p3 p4 p5 p6 p7 p8 = rw (p1, p2, p3, p4, p5, p6, p7, p8) refl

-- of the texts that were written
pub block_again : {H X : Type 0} (make : Alg → ℕ → Group → ℕ → ℕ → H → List ℕ → X) {least most count r : ℕ} {g : Group} {x y z : ℕ} (alg : Alg) (h h' : H) (sign : List ℕ)
    → AreWritten least most count r g x y z → h ≡ h' → IsBytes sign → 1 ≤ length sign
    → make (alg_of (version_text alg)) (number (decimal r)) (group_of (number (decimal g.sg)) (number (decimal g.spri))) (number (decimal x)) (number (decimal y)) h (or_none (octets_in (base64 sign))) ≡ make alg r g x y h' sign
block_again make alg h h' sign are same bytes signed =
    same_parts make _ _ _ _ _ _ _ _ _ _ _ _ _ _ _ _ (alg_is alg) are.rsid are.sg are.spri are.x_is are.y_is same (ap or_none (octets_in-base64 sign bytes signed))

-- the answer of the call that makes the block: it is made unless the last cause applies
pub answered : {X : Type 0} (block : X → Reading) (is : X → Type 0) (cause : Spoil) (applies : Bool) (reading : Reading) (there made : X)
    → made ≡ there → (applies ≡ true → reading ≡ Spoilt cause) → (applies ≡ false → reading ≡ block there) → (applies ≡ false → is there) → (is there → applies ≡ false)
    → (o : Option X) → IsSome o ↔ is made → IfSome o (λ b. b ≡ made) → Reads block (ok_or o (refusals.Spoilt cause)) reading
answered block is cause applies reading there made same spoilt read valid fits None some value =
    spoilt (true_from_ne_false applies (λ l. absurd (let k : false ≡ true = some.1 (subst is (sym same) (valid l)) in cc)))
answered block is cause applies reading there made same spoilt read valid fits (Some b) some value =
    read (fits (subst is same (some.0 refl))) ∙ ap block (sym (value ∙ same))
