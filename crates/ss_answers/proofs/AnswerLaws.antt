-- A text of answers is read in one way.
use Rattle.std.proofs.Common.{◌≡◌, ℕ, List, [], ◌∷◌, ◌++◌, codes, refl, ap, arith}
use Rattle.ss_octets.specs.Ascii.{lf, sp}
use Rattle.ss_octets.specs.StrictBase64.{base64}
use Rattle.ss_answers.specs.Answers.{Answer, Trust, Yes, Seal, HasFields, LinesAreDetermined, NoTextIsGoodAndBad, BadLineIsDetermined, line_text}
use Rattle.ss_octets.proofs.Base64Text.{Clear, Clear-append}
use Rattle.ss_answers.proofs.Base64Text.{Lacks-space, base64-injective, no_line_feed}
use Rattle.ss_answers.proofs.Cuts.{cut_once}
use Rattle.ss_answers.proofs.LineLaws as laws
use Rattle.ss_answers.proofs.LineLaws.{AreSpelt}

Clear-line_text : (line : Answer) → Clear lf (line_text line)
Clear-line_text (Trust p) = Clear-append lf (codes "trust ") (base64 p) (refl, (refl, (refl, (refl, (refl, (refl, tt)))))) (no_line_feed p)
Clear-line_text (Yes p o s) =
    Clear-append lf (codes "yes ") (base64 p ++ sp ∷ (base64 o ++ sp ∷ base64 s)) (refl, (refl, (refl, (refl, tt))))
    (Clear-append lf (base64 p) (sp ∷ (base64 o ++ sp ∷ base64 s)) (no_line_feed p)
    (refl, Clear-append lf (base64 o) (sp ∷ base64 s) (no_line_feed o) (refl, no_line_feed s)))
Clear-line_text (Seal o s) =
    Clear-append lf (codes "seal ") (base64 o ++ sp ∷ base64 s) (refl, (refl, (refl, (refl, (refl, tt)))))
    (Clear-append lf (base64 o) (sp ∷ base64 s) (no_line_feed o) (refl, no_line_feed s))

head : (c d : ℕ) (x y : List ℕ) → c ∷ x ≡ d ∷ y → c ≡ d
head c d x y e = cc

-- lines of one text are one line
line_text-injective : (a b : Answer) → HasFields a → HasFields b → line_text a ≡ line_text b → a ≡ b
line_text-injective (Trust p) (Trust q) f g e =
    let tails : base64 p ≡ base64 q = cc in
    ap Trust (base64-injective p q f.bytes g.bytes tails)
line_text-injective (Trust p) (Yes q o s) f g e = absurd (omega (arith, head 116 121 _ _ e))
line_text-injective (Trust p) (Seal o s) f g e = absurd (omega (arith, head 116 115 _ _ e))
line_text-injective (Yes p o s) (Trust q) f g e = absurd (omega (arith, head 121 116 _ _ e))
line_text-injective (Yes p o s) (Yes q m t) f g e =
    let tails : base64 p ++ sp ∷ (base64 o ++ sp ∷ base64 s) ≡ base64 q ++ sp ∷ (base64 m ++ sp ∷ base64 t) = cc in
    let one = cut_once sp (base64 p) (base64 o ++ sp ∷ base64 s) (base64 q) (base64 m ++ sp ∷ base64 t) (Lacks-space p) (Lacks-space q) tails in
    let two = cut_once sp (base64 o) (base64 s) (base64 m) (base64 t) (Lacks-space o) (Lacks-space m) one.1 in
    let payloads = base64-injective p q f.0.bytes g.0.bytes one.0 in
    let octets = base64-injective o m f.1.bytes g.1.bytes two.0 in
    let signatures = base64-injective s t f.2.bytes g.2.bytes two.1 in
    cc (payloads, octets, signatures)
line_text-injective (Yes p o s) (Seal m t) f g e = absurd (omega (arith, head 121 115 _ _ e))
line_text-injective (Seal o s) (Trust q) f g e = absurd (omega (arith, head 115 116 _ _ e))
line_text-injective (Seal o s) (Yes q m t) f g e = absurd (omega (arith, head 115 121 _ _ e))
line_text-injective (Seal o s) (Seal m t) f g e =
    let tails : base64 o ++ sp ∷ base64 s ≡ base64 m ++ sp ∷ base64 t = cc in
    let one = cut_once sp (base64 o) (base64 s) (base64 m) (base64 t) (Lacks-space o) (Lacks-space m) tails in
    let octets = base64-injective o m f.0.bytes g.0.bytes one.0 in
    let signatures = base64-injective s t f.1.bytes g.1.bytes one.1 in
    cc (octets, signatures)

line_text-some : (line : Answer) → [] ≡ line_text line → ⊥
line_text-some (Trust p) e = cc
line_text-some (Yes p o s) e = cc
line_text-some (Seal o s) e = cc

are_spelt : AreSpelt HasFields line_text
are_spelt = record { clear = λ line fields. Clear-line_text line; some = λ line fields. line_text-some line; apart = line_text-injective }

pub no_text_is_good_and_bad : NoTextIsGoodAndBad
no_text_is_good_and_bad = laws.none_good_and_bad HasFields line_text are_spelt

pub lines_are_determined : LinesAreDetermined
lines_are_determined = laws.lines_are_determined HasFields line_text are_spelt

pub bad_line_is_determined : BadLineIsDetermined
bad_line_is_determined = laws.bad_is_determined HasFields line_text are_spelt
