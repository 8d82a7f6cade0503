-- Behind each listed message stands a stored block that announces its hash.
use Rattle.std.proofs.Common.{◌≡◌, ℕ, true, List, map, refl, sym, ap, ◌∙◌, subst}
use Rattle.std.specs.Prelude.{Some, Result, Ok, Err, slice_get}
use Rattle.std.specs.Ordering.{nat_cmp}
use Rattle.std.specs.Str.{bytes_eq}
use Rattle.std.specs.Cmp.{Equal-is}
use Rattle.std.specs.Cmp.Lexicographic.{slice_cmp}
use Rattle.std.proofs.lemmas.Map.Lookups.{exact_bytes}
use Rattle.std.proofs.lemmas.Map.Text.{is_eq-slice_cmp}
use Rattle.std.proofs.lemmas.Option.{slice_get-map}
use Rattle.ss_block.specs.declared.hash.Alg.{Alg}
use Rattle.ss_block.specs.declared.hash.Alg.TheVariants as algs
use Rattle.ss_block.specs.declared.hash.Hash.{Hash}
use Rattle.ss_block.specs.declared.hash.Hash.TheVariants as hashes
use Rattle.ss_block.specs.declared.hash.HashPair.{HashPair}
use Rattle.ss_block.specs.declared.reading.Reading.{Reading}
use Rattle.ss_block.specs.declared.reading.Reading.TheVariants as readings
use Rattle.ss_block.specs.Block as block
use Rattle.ss_block.specs.Reading.{reading}
use Rattle.ss_block.specs.ReadingLaws.{BlocksAreInRange}
use Rattle.ss_review.specs.declared.report.session_report.SessionState.{SessionState}
use Rattle.ss_review.specs.declared.keep.message.NormalMessage.{NormalMessage}
use Rattle.ss_review.specs.keep.BlockMessage.{BlockMessage, BlockContent, Hashes}
use Rattle.ss_block.specs.Hashes.{pair, hash_of}
use Rattle.ss_review.specs.keep.Notes.{Note, Normal, Block, noted, note, notes}
use Rattle.ss_review.specs.keep.Contents.{said_in, normals, blocks}
use Rattle.ss_review.specs.sessions.Sessions.{of_session}
use Rattle.ss_review.specs.sessions.Verified.{Answers, joined, is_valid_in, is_verified, signature_of}
use Rattle.ss_review.specs.announced.Announced.{Key, rows, hashes_for}
use Rattle.ss_review.specs.assign.Assigned.{has_hash, pair_of_bearer, places_with, wanted, rank, assigned}
use Rattle.ss_review.specs.announced.Announcing.{Announces}
use Rattle.ss_review.specs.report.Witness.{IsWitnessed}
use Rattle.ss_review.proofs.of_numbers.Announcements.{announced_row, from_has-hashes_for}
use Rattle.ss_review.proofs.of_lists.Keyed.{has-slice_get}
use Rattle.ss_octets.proofs.Members.{Has, has_from_contains}
use Rattle.ss_review.proofs.of_kept_messages.NotesTold.{IsBlockOf, normal_noted, block_noted}
use Rattle.ss_review.proofs.of_assignment.OnePlaceOneKey.{assigned_cases, from_has-places_with, only_one}
use Rattle.ss_review.proofs.of_lists.Tests.{all_member}
use Rattle.ss_review.proofs.of_lists.Finding.{find_some, bearer_of, mapped}

-- ---- what is stored

pub got_map : {X Y : Type 0} (f : X → Y) (xs : List X) (i : ℕ) (y : Y) → slice_get (map f xs) i ≡ Some y → (x : X) × (slice_get xs i ≡ Some x) × (f x ≡ y)
got_map f xs i y e = mapped f (slice_get xs i) y (sym (slice_get-map f xs i) ∙ e)

noted_normal : (text : List ℕ) (r : Reading) (p : HashPair) → noted text r ≡ Normal p → pair text ≡ p
noted_normal text readings.Plain p e = cc
noted_normal text (readings.Unparsed part pos) p e = cc
noted_normal text (readings.Signature b) p e = absurd (cc)
noted_normal text (readings.Certificate b) p e = absurd (cc)
noted_normal text (readings.Spoilt cause) p e = absurd (cc)

noted_block : (text : List ℕ) (r : Reading) (t : List ℕ) → noted text r ≡ Block t → text ≡ t
noted_block text readings.Plain t e = absurd (cc)
noted_block text (readings.Unparsed part pos) t e = absurd (cc)
noted_block text (readings.Signature b) t e = cc
noted_block text (readings.Certificate b) t e = cc
noted_block text (readings.Spoilt cause) t e = absurd (cc)

pub note_normal : (text : List ℕ) (p : HashPair) → note text ≡ Normal p → pair text ≡ p
unfolding note
note_normal text p e = noted_normal text (reading text) p e

pub note_block : (text t : List ℕ) → note text ≡ Block t → text ≡ t
unfolding note
note_block text t e = noted_block text (reading text) t e

-- a message without a block is stored at its place
pub stored_normal : (log : List (List ℕ)) (m : NormalMessage) → Has (normals (notes log)) m → (text : List ℕ) × (slice_get log m.place ≡ Some text) × (note text ≡ Normal (pair text)) × (pair text ≡ m.pair)
stored_normal log m h =
    let got = got_map note log m.place (Normal m.pair) (normal_noted (notes log) m h) in
    let both : pair got.0 ≡ m.pair = note_normal got.0 m.pair got.2 in
    (got.0, got.1, got.2 ∙ ap (λ (p : HashPair). Normal p) (sym both), both)

-- and a block
pub stored_block : (log : List (List ℕ)) (b : BlockMessage) → Has (blocks (notes log)) b → (text : List ℕ) × (slice_get log b.place ≡ Some text) × IsBlockOf b.place text b
stored_block log b h =
    let told = block_noted (notes log) b h in
    let got = got_map note log b.place (Block told.0) told.1 in
    (told.0, got.1 ∙ ap (λ (t : List ℕ). Some t) (note_block got.0 told.0 got.2), told.2)

-- what says hashes is a signature block
pub said_signature : (r : Reading) (b : block.Signature) → said_in r ≡ Some (Hashes b) → r ≡ readings.Signature b
said_signature readings.Plain b e = absurd (cc)
said_signature (readings.Unparsed part pos) b e = absurd (cc)
said_signature (readings.Signature d) b e = let same : d ≡ b = cc in ap (λ (x : block.Signature). readings.Signature x) same
said_signature (readings.Certificate d) b e = absurd (cc)
said_signature (readings.Spoilt cause) b e = absurd (cc)

-- ---- the hash that a key wants

pub bearer_has : (ms : List NormalMessage) (h : Hash) (p : HashPair) → pair_of_bearer ms h ≡ Some p → has_hash h p ≡ true
bearer_has ms h p e =
    let w = bearer_of ms h p e in
    ap (has_hash h) (sym w.2) ∙ (find_some (λ m. has_hash h m.pair) ms w.0 w.1).1

same_octets : (a b : List ℕ) → bytes_eq a b ≡ true → a ≡ b
same_octets a b e = exact_bytes a b ((Equal-is (slice_cmp nat_cmp a b)).0 (is_eq-slice_cmp a b ∙ e))

-- a hash of an algorithm that a message has is the message's by that algorithm
pub hash_is : (alg : Alg) (h : Hash) (message : List ℕ) → block.is_of alg h ≡ true → has_hash h (pair message) ≡ true → h ≡ hash_of alg message
hash_is algs.Sha1 (hashes.Sha1 octets) message o e = ap hashes.Sha1 (sym (same_octets _ octets e))
hash_is algs.Sha1 (hashes.Sha256 octets) message o e = absurd (cc)
hash_is algs.Sha256 (hashes.Sha1 octets) message o e = absurd (cc)
hash_is algs.Sha256 (hashes.Sha256 octets) message o e = ap hashes.Sha256 (sym (same_octets _ octets e))

-- ---- verified blocks

valid_cases : (says : Answers) (j : Result (List ℕ) SessionState) (b : BlockMessage) → is_valid_in says j b ≡ true → (payload : List ℕ) × (j ≡ Ok payload) × (says.valid payload b.signed (signature_of b.said) ≡ true)
valid_cases says (Ok payload) b e = (payload, refl, e)
valid_cases says (Err state) b e = absurd (cc)

pub verified_cases : (says : Answers) (bs : List BlockMessage) (b : BlockMessage) → is_verified says bs b ≡ true → (payload : List ℕ) × (joined says (of_session bs b.session) ≡ Ok payload) × (says.valid payload b.signed (signature_of b.said) ≡ true)
unfolding is_verified
verified_cases says bs b e = valid_cases says (joined says (of_session bs b.session)) b e

-- ---- the witness

pub wanted_hash_of : (says : Answers) (ns : List Note) (k : Key) (p : HashPair) → wanted (normals ns) (rows says (blocks ns)) k ≡ Some p → (h : Hash) × Announces says (blocks ns) k h × (pair_of_bearer (normals ns) h ≡ Some p)
unfolding wanted
wanted_hash_of says ns k p e =
    let w = only_one (normals ns) (hashes_for (rows says (blocks ns)) k) p e in
    (w.0, announced_row says (blocks ns) (record { key = k; hash = w.0 }) (from_has-hashes_for (rows says (blocks ns)) k w.0 w.1), w.3)

pub witnessed : BlocksAreInRange → (says : Answers) (log : List (List ℕ)) (k : Key) (place : ℕ) → assigned (normals (notes log)) (rows says (blocks (notes log))) k ≡ Some place → IsWitnessed says log k place
witnessed range says log k place e =
    let ns = notes log in
    let ms = normals ns in
    let rs = rows says (blocks ns) in
    let a = assigned_cases ms rs k place e in
    let m = from_has-places_with ms rs a.0 place (has-slice_get (places_with ms a.0) (rank ms rs k a.0) place a.2) in
    let t = stored_normal log m.0 m.1 in
    let w = wanted_hash_of says ns k a.0 a.1 in
    let n = w.1 in
    let b = n.message in
    let s = stored_block log b (has_from_contains (blocks ns) b n.stored) in
    let read : reading s.0 ≡ readings.Signature n.said = said_signature (reading s.0) n.said (s.2.said_is ∙ ap (λ (x : BlockContent). Some x) n.says_so) in
    let of_alg : block.is_of n.said.alg w.0 ≡ true = all_member (block.is_of n.said.alg) n.said.hashes (range.0 s.0 n.said read).hashes w.0 (has-slice_get n.said.hashes n.index w.0 n.hash) in
    let has : has_hash w.0 (pair t.0) ≡ true = ap (has_hash w.0) (t.3 ∙ m.2) ∙ bearer_has ms w.0 a.0 w.2 in
    let v = verified_cases says (blocks ns) b n.verified in
    record {
      message = t.0;
      stored = subst (λ i. slice_get log i ≡ Some t.0) m.3 t.1;
      no_block = t.2;
      block_place = b.place;
      text = s.0;
      block_stored = s.1;
      said = n.said;
      read = read;
      session_is = s.2.session_is ∙ ap (λ x. Some x) n.session_is;
      group_is = n.group_is;
      index = n.index;
      number = n.number;
      hash = n.hash ∙ ap (λ (x : Hash). Some x) (hash_is n.said.alg w.0 t.0 of_alg has);
      payload = v.0;
      payload_joined = ap (λ x. joined says (of_session (blocks ns) x)) (sym n.session_is) ∙ v.1;
      octets = b.signed;
      octets_signed = s.2.signed_is;
      said_yes = ap (λ x. says.valid v.0 b.signed (signature_of x)) (sym n.says_so) ∙ v.2;
    }
