-- The signed octets of a block as they are kept: its hashes in octets.
use Rattle.std.proofs.Common.{◌≡◌, ℕ, zero, suc, ◌+◌, ◌-◌, ◌*◌, ◌≤◌, List, ◌∷◌, ◌++◌, length, take, drop, refl, sym, ap, ◌∙◌, arith, length-append, length-drop}
use Rattle.std.specs.Prelude.{Some}
use Rattle.std.proofs.lemmas.List.{take_at, drop_at, drop-take, drop-drop, take-take, take-append-drop, length-take, length-take-le}
use Rattle.ss_octets.specs.StrictBase64.{base64}
use Rattle.ss_message.specs.declared.span.Span.{Span}
use Rattle.ss_message.specs.Octets.{part_of}
use Rattle.ss_block.specs.declared.hash.Alg.{Alg}
use Rattle.ss_block.specs.declared.hash.Alg.TheVariants as algs
use Rattle.ss_block.specs.declared.hash.Hash.{Hash}
use Rattle.ss_block.specs.declared.session_places.SessionPlaces.{SessionPlaces}
use Rattle.ss_block.specs.HashArrays.{array_of, hashes_at, base64_more, text_more, IsArray}
use Rattle.ss_block.specs.PlacedReading.{StandsBefore}
use Rattle.ss_block.specs.Reading.{hash_with}
use Rattle.ss_block.specs.SessionPlaces.{LieIn, session_at}
use Rattle.ss_block.specs.Versions.{hash_length}
use Rattle.ss_block.specs.Writing.{hash_octets, hashes_text}
use Rattle.ss_block.proofs.HashArrays.{length-text, hash_octets_with}
use Rattle.ss_review.specs.declared.keep.packed.Packed.{Packed}
use Rattle.ss_review.specs.keep.Packed.{kept_packed, array_long, array_on, front_packed, back_packed, hashes_packed, signed_packed, IsPacked}

-- ---- octets about an array of hashes

-- what is kept of the signed octets, and the signature after it
pub parted : (octets kept signature : List ℕ) (end : ℕ) → octets ≡ kept ++ signature → end ≡ length octets - length signature → (take end octets ≡ kept) × (drop end octets ≡ signature)
parted octets kept signature end octets_are ends =
    let at : end ≡ length kept = omega (arith, ends, ap length octets_are, length-append kept signature) in
    (ap (take end) octets_are ∙ take_at kept signature end (sym at), ap (drop end) octets_are ∙ drop_at kept signature end (sym at))

-- What is kept of the signed octets are these before the hashes, then the hashes, then those after. So are those that they stand for.
pub written : (p : Packed) (front : List ℕ) (hs : List Hash) (back : List ℕ)
    → kept_packed p ≡ front ++ (array_of hs ++ back)
    → p.start ≡ length front
    → p.count ≡ length hs
    → IsArray p.alg (array_of hs) hs
    → signed_packed p ≡ front ++ (hashes_text hs ++ back)
written p front hs back octets_are starts counted array =
    let front_is : front_packed p ≡ front = ap (take p.start) octets_are ∙ take_at front (array_of hs ++ back) p.start (sym starts) in
    let on : array_on p ≡ array_of hs ++ back = ap (drop p.start) octets_are ∙ drop_at front (array_of hs ++ back) p.start (sym starts) in
    let hashes_are : hashes_packed p ≡ hs = ap (hashes_at p.alg p.count) on ∙ ap (λ n. hashes_at p.alg n (array_of hs ++ back)) counted ∙ array.read back in
    let long : array_long p ≡ length (array_of hs) = ap (λ n. n * hash_length p.alg) counted ∙ sym array.long in
    let back_is : back_packed p ≡ back = ap (drop (array_long p)) on ∙ drop_at (array_of hs) back (array_long p) (sym long) in
    ap (λ octets. octets ++ (hashes_text (hashes_packed p) ++ back_packed p)) front_is
    ∙ ap (λ (kept : List Hash). front ++ (hashes_text kept ++ back_packed p)) hashes_are
    ∙ ap (λ octets. front ++ (hashes_text hs ++ octets)) back_is

-- octets are those before a span, its own, and those after it
pub about_span : (octets : List ℕ) (s : Span) → s.start ≤ s.end → take s.start octets ++ (part_of octets s ++ drop s.end octets) ≡ octets
about_span octets s forth =
    let sum : s.start + (s.end - s.start) ≡ s.end = omega arith in
    ap (λ n. take s.start octets ++ (part_of octets s ++ drop n octets)) (sym sum)
    ∙ ap (λ rest. take s.start octets ++ (part_of octets s ++ rest)) (sym (drop-drop (s.end - s.start) s.start octets))
    ∙ ap (λ rest. take s.start octets ++ rest) (take-append-drop (s.end - s.start) (drop s.start octets))
    ∙ take-append-drop s.start octets

-- ---- how long HB is

-- a hash of this algorithm in base64
abbrev pub text_long : Alg → ℕ
text_long alg = hash_length alg + base64_more alg

first_long : (alg : Alg) (octets : List ℕ) → hash_length alg ≤ length octets → length (base64 (hash_octets (hash_with alg (take (hash_length alg) octets)))) ≡ text_long alg
first_long alg octets enough =
    ap (λ t. length (base64 t)) (hash_octets_with alg (take (hash_length alg) octets))
    ∙ length-text alg (take (hash_length alg) octets) (length-take-le (hash_length alg) octets enough)

spaced_long : (alg : Alg) (n : ℕ) (octets : List ℕ) → suc n * hash_length alg ≤ length octets
    → length (hashes_text (hashes_at alg (suc n) octets)) + 1 ≡ suc n * (text_long alg + 1)
spaced_long alg zero octets enough = omega (arith, first_long alg octets (omega arith))
spaced_long alg (suc n) octets enough =
    let rest = drop (hash_length alg) octets in
    let others : suc n * hash_length alg ≤ length rest = omega (arith, length-drop (hash_length alg) octets) in
    omega (
      arith,
      first_long alg octets (omega arith),
      spaced_long alg n rest others,
      length-append (base64 (hash_octets (hash_with alg (take (hash_length alg) octets)))) (32 ∷ hashes_text (hashes_at alg (suc n) rest)),
    )

-- HB has one SP fewer than hashes
pub hashes_long : (alg : Alg) (n : ℕ) (octets : List ℕ) → n * hash_length alg ≤ length octets
    → length (hashes_text (hashes_at alg n octets)) ≡ n * (text_long alg + 1) - 1
hashes_long alg zero octets enough = omega arith
hashes_long alg (suc n) octets enough = omega (arith, spaced_long alg n octets enough)

-- what it has more than the hashes
more_long : (alg : Alg) (n : ℕ) → n * (text_long alg + 1) - 1 ≡ n * hash_length alg + text_more alg n
more_long algs.Sha1 n = omega arith
more_long algs.Sha256 n = omega arith

pub text_is_long : (alg : Alg) (n : ℕ) (octets : List ℕ) → n * hash_length alg ≤ length octets
    → length (hashes_text (hashes_at alg n octets)) ≡ n * hash_length alg + text_more alg n
text_is_long alg n octets enough = hashes_long alg n octets enough ∙ more_long alg n

-- so many octets are kept of what is signed
pub kept_long : (p : Packed) → IsPacked p → length (kept_packed p) ≡ length (signed_packed p) - text_more p.alg p.count
kept_long p packed =
    omega (
      arith,
      packed,
      length-append (front_packed p) (hashes_text (hashes_packed p) ++ back_packed p),
      length-append (hashes_text (hashes_packed p)) (back_packed p),
      length-take p.start (kept_packed p),
      length-drop p.start (kept_packed p),
      length-drop (array_long p) (array_on p),
      text_is_long p.alg p.count (array_on p) (omega (arith, packed, length-drop p.start (kept_packed p))),
    )

-- ---- the first hashes

pub first_hashes : (alg : Alg) (n count : ℕ) (octets : List ℕ) → n ≤ count → hashes_at alg n octets ≡ take n (hashes_at alg count octets)
first_hashes alg zero count octets few = refl
first_hashes alg (suc n) zero octets few = absurd (omega arith)
first_hashes alg (suc n) (suc count) octets few =
    ap (λ (hs : List Hash). hash_with alg (take (hash_length alg) octets) ∷ hs) (first_hashes alg n count (drop (hash_length alg) octets) (omega arith))

-- ---- a sender that stands before the hashes

part_before : (octets : List ℕ) (s : Span) (n : ℕ) → s.start ≤ s.end → s.end ≤ n → part_of (take n octets) s ≡ part_of octets s
part_before octets s n forth before =
    let sum : s.start + (n - s.start) ≡ n = omega arith in
    ap (λ k. take (s.end - s.start) (drop s.start (take k octets))) (sym sum)
    ∙ ap (take (s.end - s.start)) (drop-take s.start (n - s.start) octets)
    ∙ take-take (s.end - s.start) (n - s.start) (drop s.start octets) (omega arith)

pub session_before : (octets : List ℕ) (p : SessionPlaces) (s : Span) → LieIn octets p → StandsBefore (Some p) (Some s) → session_at (take s.start octets) p ≡ session_at octets p
session_before octets p s lie before =
    let host = part_before octets p.host s.start lie.0.0 before.0 in
    let app = part_before octets p.app s.start lie.1.0 before.1 in
    let procid = part_before octets p.procid s.start lie.2.0 before.2 in
    rw (host, app, procid) refl

-- where it stands in what is before the hashes, it stands in all that is kept
pub session_in_front : (p : Packed) (s : SessionPlaces) → LieIn (front_packed p) s → session_at (front_packed p) s ≡ session_at (kept_packed p) s
session_in_front p s lie =
    let host_in = lie.0.1 in
    let app_in = lie.1.1 in
    let procid_in = lie.2.1 in
    let host = part_before (kept_packed p) s.host p.start lie.0.0 (omega (arith, host_in, length-take p.start (kept_packed p))) in
    let app = part_before (kept_packed p) s.app p.start lie.1.0 (omega (arith, app_in, length-take p.start (kept_packed p))) in
    let procid = part_before (kept_packed p) s.procid p.start lie.2.0 (omega (arith, procid_in, length-take p.start (kept_packed p))) in
    rw (host, app, procid) refl
