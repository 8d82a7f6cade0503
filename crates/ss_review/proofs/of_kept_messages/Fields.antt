-- What is kept of a message with a block says the signature, the signed octets and the session of the message.
use Rattle.std.proofs.Common.{◌≡◌, length, refl, sym, arith}
use Rattle.std.proofs.lemmas.List.{length-take}
use Rattle.ss_block.specs.declared.session_places.SessionPlaces.{SessionPlaces}
use Rattle.ss_review.specs.declared.keep.kept_block.KeptFields.{KeptFields}
use Rattle.ss_review.specs.declared.keep.kept_content.KeptContent.{KeptContent}
use Rattle.ss_review.specs.declared.keep.kept_content.KeptContent.TheVariants as kept
use Rattle.ss_review.specs.declared.keep.packed.Packed.{Packed}
use Rattle.ss_review.specs.keep.Kept.{said_by, IsKept}
use Rattle.ss_review.specs.keep.KeptBlock.{message_of, AreKept}
use Rattle.ss_review.specs.keep.KeptFields.{AreFieldsOf}
use Rattle.ss_review.specs.keep.KeptSender.{places_at}
use Rattle.ss_review.specs.keep.Packed.{kept_packed, signature_packed, hashes_packed}
use Rattle.ss_review.specs.keep.Signatures.{alg_said}
use Rattle.ss_review.specs.sessions.Verified.{signature_of}
use Rattle.ss_review.proofs.of_kept_messages.Packing.{session_in_front}

pub one_alg : (content : KeptContent) (sender : SessionPlaces) (packed : Packed) → packed.alg ≡ alg_said (said_by content sender packed)
one_alg (kept.Hashes group gbc first held) sender packed = refl
one_alg (kept.Fragment group total index len text) sender packed = refl

one_signature : (content : KeptContent) (sender : SessionPlaces) (packed : Packed) → signature_packed packed ≡ signature_of (said_by content sender packed)
one_signature (kept.Hashes group gbc first held) sender packed = refl
one_signature (kept.Fragment group total index len text) sender packed = refl

-- only a certificate block has no hashes
no_hashes : (content : KeptContent) (sender : SessionPlaces) (packed : Packed) → IsKept sender content packed → packed.count ≡ 0 → packed.start ≡ length (kept_packed packed)
no_hashes (kept.Hashes group gbc first held) sender packed agrees none =
    let some = agrees.valid.some_hash in
    let few = agrees.text in
    absurd (omega (arith, some, few, none, length-take held (hashes_packed packed)))
no_hashes (kept.Fragment group total index len text) sender packed agrees none = agrees.text.1

pub fields_of : (f : KeptFields) → AreKept f → AreFieldsOf f (message_of f)
fields_of f agrees = record {
  signature_is = one_signature f.content (places_at f.sender) f.packed;
  packed = record {
    packed = agrees.hashes;
    signed = refl;
    count = refl;
    alg = one_alg f.content (places_at f.sender) f.packed;
    none = no_hashes f.content (places_at f.sender) f.packed agrees;
  };
  session_is = sym (session_in_front f.packed (places_at f.sender) agrees.head);
}
