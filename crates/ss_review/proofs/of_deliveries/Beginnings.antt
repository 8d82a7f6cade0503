-- The turn in which the originators of a session began, and the certificate blocks that it sent.
use Rattle.std.proofs.Common.{◌≡◌, inl, inr, ℕ, ◌<◌, ◌≤◌, true, List, [], ◌∷◌, ◌++◌, length, map, replicate, refl, sym, ap, ◌∙◌, subst, arith}
use Rattle.std.specs.Prelude.{Option, None}
use Rattle.std.specs.List.{AllZip, flat_map, enumerate_from}
use Rattle.std.proofs.lemmas.List.{append_assoc}
use Rattle.std.proofs.lemmas.List.Sums.{sum_by-append, sum_by-cons}
use Rattle.ss_message.specs.Stamp.{Moment}
use Rattle.ss_payload.specs.declared.cuts.Cut.{Cut}
use Rattle.ss_payload.specs.Cuts.{AreCuts, piece_of}
use Rattle.ss_payload.specs.CuttingLaws.{PiecesLieWithin}
use Rattle.ss_payload.specs.Payload.{payload_text}
use Rattle.ss_block.specs.declared.reading.Reading.TheVariants as readings
use Rattle.ss_block.specs.Block as block
use Rattle.ss_block.specs.Reading.{reading}
use Rattle.ss_origin.specs.Groups.{group_of, spri_of}
use Rattle.ss_origin.specs.Calls.{Call, Begin, Submit, Flush, Run}
use Rattle.ss_origin.specs.State.{State, pending_in, runs_closed}
use Rattle.ss_origin.specs.Blocks.{signed_reading}
use Rattle.ss_origin.specs.Setting.{Setting}
use Rattle.ss_origin.specs.Emission.{certificate_of, block_of, IsSealed, EmitsFrom}
use Rattle.ss_origin.specs.Refusals.{fault_of}
use Rattle.ss_origin.specs.Chain.{Turn, IsChain}
use Rattle.ss_origin.specs.ChainLaws.{BeginsFirst}
use Rattle.ss_review.specs.deliveries.Delivery.{is_begin}
use Rattle.ss_octets.proofs.Members.{Has, contains_from_has, has-append_right, has-append_cases, has-replicate, from_has-copies, has-flat_map, from_has-map}
use Rattle.ss_review.proofs.of_lists.Paired.{parted, one_last, ArePaired, paired_left, paired_right, paired_holds, pair_of_left, pair_of_right, zip_of_map}
use Rattle.ss_review.proofs.of_deliveries.PiecesStated.{IsPiece}
use Rattle.ss_review.proofs.of_deliveries.SentMessages.{IsTurn, plain_first}

-- ---- the turn that begins

pub begin_stamp : (call : Call) → is_begin call ≡ true → (stamp : Option Moment) × (call ≡ Begin stamp)
begin_stamp (Begin stamp) e = (stamp, refl)
begin_stamp (Submit message stamp) e = absurd (cc)
begin_stamp (Flush stamp) e = absurd (cc)

-- the turn of a chain in which an originator began
pub record IsBeginning (chain : List (List Turn)) (t : Turn) : Type 0 where
  pub turns : List Turn
  pub of_chain : Has chain turns
  pub of_turns : Has turns t
  pub begins : is_begin t.call ≡ true

-- where it stands: it is the last turn of the last originator, as each begins behind the others
record IsLast (chain : List (List Turn)) (turns : List Turn) (t : Turn) : Type 0 where
  newer : List (List Turn)
  later : List Turn
  in_chain : chain ≡ newer ++ turns ∷ []
  in_turns : turns ≡ later ++ t ∷ []

is_last : BeginsFirst → (s : Setting) (chain : List (List Turn)) → IsChain s chain → (t : Turn) (b : IsBeginning chain t) → IsLast chain b.turns t
is_last first s chain is t b =
    let outer = parted chain b.turns b.of_chain in
    let inner = parted b.turns t b.of_turns in
    let stamp = begin_stamp t.call b.begins in
    let split : chain ≡ outer.front ++ (inner.front ++ t ∷ inner.behind) ∷ outer.behind = outer.parts ∙ ap (λ l. outer.front ++ l ∷ outer.behind) inner.parts in
    let none = first s outer.front outer.behind inner.front inner.behind t stamp.0 (subst (IsChain s) split is) stamp.1 in
    record {
      newer = outer.front;
      later = inner.front;
      in_chain = outer.parts ∙ ap (λ l. outer.front ++ b.turns ∷ l) none.0;
      in_turns = inner.parts ∙ ap (λ l. inner.front ++ t ∷ l) none.1;
    }

-- there is one such turn at most
pub one_beginning : BeginsFirst → (s : Setting) (chain : List (List Turn)) → IsChain s chain → (t u : Turn) → IsBeginning chain t → IsBeginning chain u → t ≡ u
one_beginning first s chain is t u b d =
    let l = is_last first s chain is t b in
    let k = is_last first s chain is u d in
    let same : b.turns ≡ d.turns = one_last chain l.newer k.newer b.turns d.turns l.in_chain k.in_chain in
    one_last b.turns l.later k.later t u l.in_turns (same ∙ k.in_turns)

-- ---- the pieces of a text stand at one place each

module _ (within : PiecesLieWithin) (octets size : ℕ) (some : 1 ≤ size) where
  -- a piece begins behind each that stands before it
  begins_behind : (before cuts : List Cut) (c d : Cut) → AreCuts octets size (before ++ c ∷ cuts) → Has cuts d → c.index < d.index
  begins_behind before cuts c d are h =
      let w = parted cuts d h in
      let split : before ++ c ∷ cuts ≡ (before ++ c ∷ w.front) ++ d ∷ w.behind
      = ap (λ l. before ++ c ∷ l) w.parts ∙ sym (append_assoc before (c ∷ w.front) (d ∷ w.behind)) in
      let here = are.follow before c cuts refl in
      let there = are.follow (before ++ c ∷ w.front) d w.behind split in
      let l = within octets size (before ++ c ∷ cuts) c some are (contains_from_has (before ++ c ∷ cuts) c (has-append_right before (c ∷ cuts) c (inl refl))) in
      omega (arith, here, there, l.some_octet, sum_by-append (λ (x : Cut). x.len) before (c ∷ w.front), sum_by-cons (λ (x : Cut). x.len) c w.front)

  one_pair : {B : Type 0} (before cuts : List Cut) (ys : List B) (c : Cut) (y z : B) → AreCuts octets size (before ++ cuts) → ArePaired cuts ys c y → ArePaired cuts ys c z → y ≡ z
  one_pair before [] ys c y z are p q = absurd p
  one_pair before (x ∷ cuts) [] c y z are p q = absurd p
  one_pair before (x ∷ cuts) (w ∷ ys) c y z are (inl e) (inl d) = sym e.1 ∙ d.1
  one_pair before (x ∷ cuts) (w ∷ ys) c y z are (inl e) (inr q) =
      let apart = begins_behind before cuts x c are (paired_left cuts ys c z q) in
      let same : x.index ≡ c.index = ap (λ (k : Cut). k.index) e.0 in
      absurd (omega (arith, apart, same))
  one_pair before (x ∷ cuts) (w ∷ ys) c y z are (inr p) (inl d) =
      let apart = begins_behind before cuts x c are (paired_left cuts ys c y p) in
      let same : x.index ≡ c.index = ap (λ (k : Cut). k.index) d.0 in
      absurd (omega (arith, apart, same))
  one_pair before (x ∷ cuts) (w ∷ ys) c y z are (inr p) (inr q) =
      one_pair (before ++ x ∷ []) cuts ys c y z (subst (AreCuts octets size) (sym (append_assoc before (x ∷ []) cuts)) are) p q

-- ---- what the turn that begins sends

pub record Beginning (s : Setting) (emitted : List (List ℕ)) : Type 0 where
  pub stamp : Option Moment
  pub cuts : List Cut
  pub are_cuts : AreCuts (length (payload_text s.payload)) s.config.frag cuts
  pub messages : List (List ℕ)
  pub sealed : AllZip (λ cut m. IsSealed s stamp (certificate_of s.config (payload_text s.payload) cut) m) cuts messages
  pub sent : emitted ≡ flat_map (λ m. replicate s.config.copies m) messages

beginning_of : (s : Setting) (old : State) (stamp : Option Moment) (emitted : List (List ℕ)) → EmitsFrom s old (Begin stamp) emitted → Beginning s emitted
beginning_of s old stamp emitted e =
    let piece = certificate_of s.config (payload_text s.payload) in record {
      stamp = stamp;
      cuts = e.are_due.0;
      are_cuts = e.are_due.1;
      messages = e.sent.messages;
      sealed = zip_of_map (IsSealed s stamp) piece e.are_due.0 e.sent.messages (subst (λ due. AllZip (IsSealed s stamp) due e.sent.messages) e.are_due.2 e.sent.sealed);
      sent = e.sent.sent_are;
    }

pub beginning : (s : Setting) (t : Turn) → IsTurn s t → is_begin t.call ≡ true → Beginning s t.emitted
beginning s t a begins =
    let w = begin_stamp t.call begins in
    beginning_of s a.old w.0 t.emitted (subst (λ call. EmitsFrom s a.old call t.emitted) w.1 a.emits)

-- a certificate block with this piece of the text
record HasPiece (text : List ℕ) (cut : Cut) (m : List ℕ) : Type 0 where
  block : block.Certificate
  read : reading m ≡ readings.Certificate block
  total : block.total ≡ length text
  index : block.index ≡ cut.index
  fragment : block.fragment ≡ piece_of text cut

module _ (s : Setting) (emitted : List (List ℕ)) (b : Beginning s emitted) where
  abbrev text : List ℕ
  text = payload_text s.payload

  abbrev IsSealedPiece : Cut → List ℕ → Type 0
  IsSealedPiece cut m = IsSealed s b.stamp (certificate_of s.config text cut) m

  -- the message of a piece is read as a certificate block with this piece
  read_piece : (cut : Cut) (m : List ℕ) → ArePaired b.cuts b.messages cut m → HasPiece text cut m
  read_piece cut m p =
      let z = paired_holds IsSealedPiece b.cuts b.messages cut m b.sealed p in record {
        block = record {
          alg = s.config.alg;
          rsid = s.config.rsid;
          group = group_of s.config.grouping (spri_of s.config.grouping s.config.head.pri);
          total = length text;
          index = cut.index;
          fragment = piece_of text cut;
          signature = z.signature;
        };
        read = z.read.read;
        total = refl;
        index = refl;
        fragment = refl;
      }

  -- a message that it sent is that of a piece
  pub piece_of_message : (m : List ℕ) → Has emitted m → (cut : Cut) × Has b.cuts cut × ArePaired b.cuts b.messages cut m
  piece_of_message m h =
      let w = pair_of_right IsSealedPiece b.cuts b.messages m b.sealed (from_has-copies s.config.copies b.messages m (subst (λ l. Has l m) b.sent h)) in
      (w.0, paired_left b.cuts b.messages w.0 m w.1, w.1)

  -- and is read as the block of this piece
  pub is_piece : (m : List ℕ) (c : block.Certificate) → Has emitted m → reading m ≡ readings.Certificate c → (p : IsPiece text b.cuts c) × ArePaired b.cuts b.messages p.cut m
  is_piece m c h e =
      let w = piece_of_message m h in
      let r = read_piece w.0 m w.2 in
      let both : readings.Certificate r.block ≡ readings.Certificate c = sym r.read ∙ e in
      let same : r.block ≡ c = cc in (
        record {
          cut = w.0;
          of_cuts = w.1;
          total = sym (ap (λ (x : block.Certificate). x.total) same) ∙ r.total;
          index = sym (ap (λ (x : block.Certificate). x.index) same) ∙ r.index;
          fragment = sym (ap (λ (x : block.Certificate). x.fragment) same) ∙ r.fragment;
        },
        w.2,
      )

  -- and each piece has a block
  pub block_of_piece : 1 ≤ s.config.copies → (cut : Cut) → Has b.cuts cut
      → (m : List ℕ) × Has emitted m × (c : block.Certificate) × (reading m ≡ readings.Certificate c) × (p : IsPiece text b.cuts c) × (p.cut ≡ cut)
  block_of_piece some cut h =
      let w = pair_of_left IsSealedPiece b.cuts b.messages cut b.sealed h in
      let copies = has-flat_map (λ m. replicate s.config.copies m) b.messages w.0 w.0 (paired_right b.cuts b.messages cut w.0 w.1) (has-replicate s.config.copies w.0 some) in
      let r = read_piece cut w.0 w.1 in (
        w.0,
        subst (λ l. Has l w.0) (sym b.sent) copies,
        r.block,
        r.read,
        record { cut = cut; of_cuts = h; total = r.total; index = r.index; fragment = r.fragment },
        refl,
      )

  -- messages of one piece are one
  pub one_message : PiecesLieWithin → 1 ≤ s.config.frag → (cut : Cut) (m n : List ℕ) → ArePaired b.cuts b.messages cut m → ArePaired b.cuts b.messages cut n → m ≡ n
  one_message within some cut m n p q = one_pair within (length text) s.config.frag some [] b.cuts b.messages cut m n b.are_cuts p q

-- ---- no other turn sends a certificate block

no_certificate_sealed : (s : Setting) (old : State) (stamp : Option Moment) (runs : List (ℕ × Run)) (messages : List (List ℕ)) (m : List ℕ) (c : block.Certificate)
    → AllZip (IsSealed s stamp) (map (block_of s.config old) runs) messages → Has messages m → reading m ≡ readings.Certificate c → ⊥
no_certificate_sealed s old stamp runs messages m c sealed h e =
    let blocks = map (block_of s.config old) runs in
    let w = pair_of_right (IsSealed s stamp) blocks messages m sealed h in
    let z = paired_holds (IsSealed s stamp) blocks messages w.0 m sealed w.1 in
    let d = from_has-map (block_of s.config old) runs w.0 (paired_left blocks messages w.0 m w.1) in
    let read : signed_reading (block_of s.config old d.0) z.signature ≡ readings.Certificate c = ap (λ u. signed_reading u z.signature) d.2 ∙ sym z.read.read ∙ e in
    absurd (cc)

-- only where an originator begins it sends a certificate block
certificate_call : (s : Setting) (old : State) (call : Call) (emitted : List (List ℕ)) (m : List ℕ) (c : block.Certificate)
    → fault_of s.config old call ≡ None → EmitsFrom s old call emitted → Has emitted m → reading m ≡ readings.Certificate c → is_begin call ≡ true
certificate_call s old (Begin stamp) emitted m c faultless e h read = refl
certificate_call s old (Submit message stamp) emitted m c faultless e h read =
    let copies = flat_map (λ n. replicate s.config.copies n) e.sent.messages in
    let runs = enumerate_from old.gbc (runs_closed s.config (pending_in old) (Submit message stamp)) in
    elim (has-append_cases (message ∷ []) copies m (subst (λ l. Has l m) e.sent.sent_are h)) [
      | inl l ↦ (let plain : readings.Plain ≡ readings.Certificate c = sym (plain_first s.config old (Submit message stamp) m faultless l) ∙ read in absurd (cc))
      | inr r ↦ absurd (no_certificate_sealed s old stamp runs e.sent.messages m c
          (subst (λ due. AllZip (IsSealed s stamp) due e.sent.messages) e.are_due e.sent.sealed) (from_has-copies s.config.copies e.sent.messages m r) read)
    ]
certificate_call s old (Flush stamp) emitted m c faultless e h read =
    let runs = enumerate_from old.gbc (runs_closed s.config (pending_in old) (Flush stamp)) in
    absurd (no_certificate_sealed s old stamp runs e.sent.messages m c
    (subst (λ due. AllZip (IsSealed s stamp) due e.sent.messages) e.are_due e.sent.sealed)
    (from_has-copies s.config.copies e.sent.messages m (subst (λ l. Has l m) e.sent.sent_are h)) read)

pub certificate_begins : (s : Setting) (t : Turn) (m : List ℕ) (c : block.Certificate) → IsTurn s t → Has t.emitted m → reading m ≡ readings.Certificate c → is_begin t.call ≡ true
certificate_begins s t m c a h e = certificate_call s a.old t.call t.emitted m c a.accepted a.emits h e
