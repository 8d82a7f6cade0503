use Rattle.std.proofs.Common.{◌≡◌, ℕ, List, length, take, ap, ◌∙◌, subst, arith}
use Rattle.std.specs.Prelude.{IfOk}
use Rattle.std.proofs.lemmas.List.{take_all}
use Rattle.ss_block.specs.Block as block
use Rattle.ss_block.specs.declared.block.BlockHeader.{BlockHeader}
use Rattle.ss_block.specs.declared.session.Session.{Session}
use Rattle.ss_block.specs.declared.session_places.SessionPlaces.{SessionPlaces}
use Rattle.ss_block.specs.SessionPlaces.{session_at}
use Rattle.ss_review.specs.declared.keep.kept_content.KeptContent.{KeptContent}
use Rattle.ss_review.specs.declared.keep.kept_content.KeptContent.TheVariants as kept
use Rattle.ss_review.specs.declared.keep.packed.Packed.{Packed}
use Rattle.ss_review.specs.keep.BlockMessage.{BlockMessage, Hashes}
use Rattle.ss_review.specs.keep.Kept.{message_kept}
use Rattle.ss_review.specs.keep.Packed.{signature_packed, front_packed, hashes_packed, signed_packed}
use Rattle.ss_review.proofs.of_kept_messages.Packing.{session_before}
use Rattle.ss_review.proofs.keep.kept_block.KeptBlock.of_signature.Goals as goal

-- a message with a signature block
abbrev message_with : ℕ → ℕ → Session → block.Signature → List ℕ → BlockMessage
message_with place count session b signed = record { place = place; count = count; session = session; said = Hashes b; signed = signed }

-- a block of which all hashes are held
whole : (b : block.Signature) (place : ℕ) (sender : SessionPlaces) (signed : List ℕ) (content : KeptContent) (p : Packed)
    → content ≡ kept.Hashes b.group b.gbc b.first p.count
    → sender.rsid ≡ b.rsid
    → p.alg ≡ b.alg
    → p.count ≡ length b.hashes
    → hashes_packed p ≡ b.hashes
    → signature_packed p ≡ b.signature
    → session_at (front_packed p) sender ≡ session_at signed sender
    → signed_packed p ≡ signed
    → message_kept place sender content p ≡ message_with place (length b.hashes) (session_at signed sender) b signed
whole b place sender signed content p content_is rsid_is alg_is count_is hashes_are signature_is session_is signed_is =
    let session = session_at (front_packed p) sender in
    let held = take p.count (hashes_packed p) in
    let all : held ≡ b.hashes = take_all p.count (hashes_packed p) (omega (arith, count_is, ap length hashes_are)) ∙ hashes_are in
    ap (λ k. message_kept place sender k p) content_is
    ∙ ap (λ rsid. message_with place p.count session (record b { rsid = rsid; alg = p.alg; hashes = held; signature = signature_packed p }) (signed_packed p)) rsid_is
    ∙ ap (λ alg. message_with place p.count session (record b { alg = alg; hashes = held; signature = signature_packed p }) (signed_packed p)) alg_is
    ∙ ap (λ hs. message_with place p.count session (record b { hashes = hs; signature = signature_packed p }) (signed_packed p)) all
    ∙ ap (λ octets. message_with place p.count session (record b { signature = octets }) (signed_packed p)) signature_is
    ∙ ap (λ n. message_with place n session b (signed_packed p)) count_is
    ∙ ap (λ s. message_with place (length b.hashes) s b (signed_packed p)) session_is
    ∙ ap (message_with place (length b.hashes) (session_at signed sender) b) signed_is

pub returns : goal.returns
returns c =
    let b = c.args.block in
    let p = c.in_ok-packed.packed in
    let hashes = c.as_slice-hashes.ensures ∙ c.hashes.ensures in
    let session =
    ap (λ octets. session_at octets c.args.sender) (c.in_ok-packed.ensures.front ∙ ap (take c.args.text.start) c.as_slice.ensures)
    ∙ session_before c.args.signed c.args.sender c.args.text c.requires.sender c.requires.before in
    let group = c.header-3.result.now.group in
    let same : group ≡ b.group = ap (λ (h : BlockHeader). h.group) c.header-3.ensures in
    let content : kept.Hashes group c.gbc.result c.first.result p.count ≡ kept.Hashes b.group b.gbc b.first p.count = cc in
    subst (λ m. IfOk c.block_with.result (λ b. b ≡ m))
    (ap (λ s. message_kept c.args.place s (kept.Hashes group c.gbc.result c.first.result p.count) p) c.of.ensures
    ∙ whole b c.args.place c.args.sender c.args.signed _ p content c.requires.rsid (c.in_ok-packed.ensures.alg ∙ ap (λ (h : BlockHeader). h.alg) c.header-2.ensures)
    (c.in_ok-packed.ensures.count ∙ ap length hashes) (c.in_ok-packed.ensures.hashes ∙ hashes) (c.in_ok-packed.ensures.signature ∙ c.as_slice-signature.ensures ∙ ap (λ (h : BlockHeader). h.signature) c.header.ensures) session
    (c.in_ok-packed.ensures.signed ∙ c.as_slice.ensures))
    c.block_with.ensures
