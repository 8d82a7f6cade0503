-- What is kept of a block holds of each that equals it in signature, signed octets and session.
use Rattle.std.proofs.Common.{◌≡◌, ℕ, ◌*◌, Bool, true, false, cond, List, ◌++◌, take, drop, refl, sym, ap, ◌∙◌, arith}
use Rattle.std.specs.Prelude.{Result, Ok, Err, Some, None, Option, IfSome}
use Rattle.std.specs.declared.cmp.Ordering.TheVariants.{Equal}
use Rattle.std.specs.Ordering.{is_eq}
use Rattle.std.specs.Cmp.{Equal-is}
use Rattle.std.specs.BTreeMap.{get, Updates}
use Rattle.std.proofs.lemmas.Map.Lookups.{exact_bytes, exact_unsigned}
use Rattle.ss_message.specs.Layout.{field_of}
use Rattle.ss_block.specs.declared.hash.Alg.{Alg}
use Rattle.ss_block.specs.declared.hash.Alg.TheVariants.{Sha1, Sha256}
use Rattle.ss_block.specs.HashArrays.{hashes_at}
use Rattle.ss_block.specs.Session.{field_from}
use Rattle.ss_block.specs.SessionPlaces.{session_at}
use Rattle.ss_block.specs.Versions.{hash_length}
use Rattle.ss_block.specs.Writing.{hashes_text}
use Rattle.ss_review.specs.declared.keep.kept_block.KeptFields.{KeptFields}
use Rattle.ss_review.specs.declared.keep.packed.Packed.{Packed}
use Rattle.ss_review.specs.declared.report.session_report.SessionState.{SessionState}
use Rattle.ss_review.specs.keep.BlockMessage.{BlockMessage}
use Rattle.ss_review.specs.keep.Packed.{kept_packed, signature_packed, signed_packed}
use Rattle.ss_review.specs.keep.KeptSender.{places_at}
use Rattle.ss_review.specs.declared.sessions.claim.Claim.{Claim}
use Rattle.ss_review.specs.declared.sessions.found_blocks.FoundBlocks.{FoundBlocks}
use Rattle.ss_review.specs.sessions.Sessions.{of_session}
use Rattle.ss_review.specs.sessions.Verified.{Answers, joined, is_valid, is_valid_in, is_verified}
use Rattle.ss_review.specs.sessions.Claims.{packed_cmp, host_kept, app_kept, procid_kept, sender_cmp, claim_cmp, IsClaimOf}
use Rattle.ss_review.specs.sessions.FoundBlocks.{TellsEqualsAlike, KeepsWhatHolds}
use Rattle.ss_review.proofs.of_lists.TotalOrders.{both_tie}

-- ---- what a scheme says of a block

pub valid_alike : (says : Answers) (payload : List ℕ) → TellsEqualsAlike (is_valid says payload)
valid_alike says payload b c signature octets session = λ i. says.valid payload (octets i) (signature i)

valid_in_alike : (says : Answers) (r : Result (List ℕ) SessionState) → TellsEqualsAlike (is_valid_in says r)
valid_in_alike says (Ok payload) b c signature octets session = valid_alike says payload b c signature octets session
valid_in_alike says (Err state) b c signature octets session = refl

pub verified_alike : (says : Answers) (bs : List BlockMessage) → TellsEqualsAlike (is_verified says bs)
unfolding is_verified
verified_alike says bs b c signature octets session =
    ap (λ s. is_valid_in says (joined says (of_session bs s)) b) session
    ∙ valid_in_alike says (joined says (of_session bs c.session)) b c signature octets session

-- ---- equal claims

-- the hashes of two algorithms differ in length
one_length : (a b : Alg) → hash_length a ≡ hash_length b → a ≡ b
one_length Sha1 Sha1 e = refl
one_length Sha1 Sha256 e = absurd (omega arith)
one_length Sha256 Sha1 e = absurd (omega arith)
one_length Sha256 Sha256 e = refl

-- What is signed follows from what is kept of it, and from the hashes that stand in it.
abbrev signed_from : List ℕ → ℕ → ℕ → Alg → List ℕ
signed_from kept start count alg =
    let on = drop start kept in
    take start kept ++ (hashes_text (hashes_at alg count on) ++ drop (count * hash_length alg) on)

signed_alike : (p q : Packed) → kept_packed p ≡ kept_packed q → p.start ≡ q.start → p.count ≡ q.count → p.alg ≡ q.alg → signed_packed p ≡ signed_packed q
signed_alike p q kept start count alg = λ i. signed_from (kept i) (start i) (count i) (alg i)

one_signed : (p q : Packed) → packed_cmp p q ≡ Equal → signed_packed p ≡ signed_packed q
one_signed p q tie =
    let octets = both_tie _ _ tie in
    let start = both_tie _ _ octets.1 in
    let lengths = both_tie _ _ start.1 in
    signed_alike p q (exact_bytes (kept_packed p) (kept_packed q) octets.0) (exact_unsigned p.start q.start start.0)
    (exact_unsigned p.count q.count lengths.0) (one_length p.alg q.alg (exact_unsigned (hash_length p.alg) (hash_length q.alg) lengths.1))

-- the same session is spelled where the same octets stand
one_session : (a b : KeptFields) → sender_cmp a b ≡ Equal → session_at (kept_packed a.packed) (places_at a.sender) ≡ session_at (kept_packed b.packed) (places_at b.sender)
one_session a b tie =
    let host = both_tie _ _ tie in
    let app = both_tie _ _ host.1 in
    let procid = both_tie _ _ app.1 in
    λ i. record {
      host = field_from (field_of (exact_bytes (host_kept a) (host_kept b) host.0 i));
      app = field_from (field_of (exact_bytes (app_kept a) (app_kept b) app.0 i));
      procid = field_from (field_of (exact_bytes (procid_kept a) (procid_kept b) procid.0 i));
      rsid = exact_unsigned a.sender.rsid b.sender.rsid procid.1 i;
    }

-- ---- what is kept

pub found_at : (f : BlockMessage → Bool) (kept : FoundBlocks) → KeepsWhatHolds f kept → (k : Claim) (b : BlockMessage) → IsClaimOf k b → (o : Option Bool) → o ≡ get claim_cmp kept.found k → IfSome o (λ v. v ≡ f b)
found_at f kept had k b of None e = tt
found_at f kept had k b of (Some v) e = had k b v of (sym e)

module _ (f : BlockMessage → Bool) (same : TellsEqualsAlike f) (k : Claim) (b : BlockMessage) (v : Bool) (of : IsClaimOf k b) (is : v ≡ f b) where
  equal_claims : (j : Claim) (c : BlockMessage) → IsClaimOf j c → claim_cmp k j ≡ Equal → f b ≡ f c
  equal_claims j c at tie =
      let start = both_tie _ _ tie in
      let signature = both_tie _ _ start.1 in
      let rest = both_tie _ _ signature.1 in
      same b c
      (sym of.fields.signature_is ∙ exact_bytes (signature_packed k.kept.now.packed) (signature_packed j.kept.now.packed) signature.0 ∙ at.fields.signature_is)
      (sym of.fields.packed.signed ∙ one_signed k.kept.now.packed j.kept.now.packed rest.0 ∙ at.fields.packed.signed)
      (sym of.fields.session_is ∙ one_session k.kept.now j.kept.now rest.1 ∙ at.fields.session_is)

  of_either : (old : Option Bool) (j : Claim) (c : BlockMessage) (w : Bool) → IsClaimOf j c → (old ≡ Some w → w ≡ f c) → (x : Bool) → is_eq (claim_cmp k j) ≡ x → cond x (Some v) old ≡ Some w → w ≡ f c
  of_either old j c w at had true tie e = let told : v ≡ w = cc in sym told ∙ is ∙ equal_claims j c at ((Equal-is (claim_cmp k j)).0 tie)
  of_either old j c w at had false tie e = had e

  pub found_more : (old new : FoundBlocks) → Updates claim_cmp old.found new.found k (Some v) → KeepsWhatHolds f old → KeepsWhatHolds f new
  found_more old new update had j c w at e =
      of_either (get claim_cmp old.found j) j c w at (had j c w at) (is_eq (claim_cmp k j)) refl (sym (update.0 j) ∙ e)
