use Rattle.std.proofs.Common.{◌≡◌, ℕ, ◌+◌, ◌-◌, ◌≤◌, List, ◌++◌, length, take, drop, refl, sym, ap, ◌∙◌, arith}
use Rattle.std.proofs.lemmas.List.{length-take-le}
use Rattle.ss_block.specs.HashArrays.{array_of}
use Rattle.ss_review.specs.declared.keep.packed.Packed.{Packed}
use Rattle.ss_review.proofs.of_kept_messages.Packing.{about_span, parted, written}
use Rattle.ss_review.proofs.keep.packed.Packed.of_signature.Goals as goal

pub returns-clause-signed : goal.returns-clause-signed
returns-clause-signed c =
    let signed = c.args.signed.now in
    let text = c.args.text in
    let octets = c.in_ok-octets.octets in
    let signature = c.args.signature.now in
    let front = take text.start signed in
    let back = drop text.end signed in
    let kept = front ++ (array_of c.args.hashes.now ++ back) in
    let end = length c.as_slice-size.result.now - length signature in
    let p : Packed = record { octets = octets; alg = c.args.alg; count = length c.args.hashes.now; start = text.start; end = end } in
    let within : text.start ≤ length signed = omega (arith, c.requires.within.0, c.requires.within.1) in
    written p front c.args.hashes.now back (parted octets kept signature end c.in_ok-octets.ensures.octets (ap (λ (octets : List ℕ). length octets - length signature) c.as_slice-size.ensures)).0
    (sym (length-take-le text.start signed within)) refl c.in_ok-octets.ensures.array
    ∙ ap (λ (octets : List ℕ). front ++ (octets ++ back)) (sym c.requires.spelled)
    ∙ about_span signed text c.requires.within.0
