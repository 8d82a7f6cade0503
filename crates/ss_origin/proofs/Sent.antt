-- The signature blocks that a chain sent have the hashes of the messages with their numbers.
use Rattle.std.proofs.Common.{◌≡◌, ℕ, zero, suc, ◌+◌, ◌<◌, true, List, [], ◌∷◌, ◌++◌, map, replicate, refl, sym, ◌∙◌, subst}
use Rattle.std.specs.Prelude.{Option, None, not}
use Rattle.std.specs.List.{AllByRecursion, AllZip, flat_map, enumerate_from}
use Rattle.std.proofs.lemmas.Bool.{not-false}
use Rattle.ss_message.specs.Stamp.{Moment}
use Rattle.ss_message.specs.Laws.{FaultsAreOfNoMessage}
use Rattle.ss_payload.specs.declared.cuts.Cut.{Cut}
use Rattle.ss_payload.specs.Payload.{payload_text}
use Rattle.ss_block.specs.declared.reading.Reading.{Reading}
use Rattle.ss_block.specs.declared.reading.Reading.TheVariants as readings
use Rattle.ss_block.specs.Block as block
use Rattle.ss_block.specs.Reading.{reading}
use Rattle.ss_origin.specs.declared.config.Config.{Config}
use Rattle.ss_origin.specs.declared.unsigned.Unsigned.{Unsigned}
use Rattle.ss_origin.specs.declared.fault.OriginFault.TheVariants.{NotBegun, NotSyslog, HasBlock}
use Rattle.ss_origin.specs.Groups.{group_of}
use Rattle.ss_origin.specs.Counting.{Start}
use Rattle.ss_origin.specs.Calls.{Call, Begin, Submit, Flush, Run, stamp_of}
use Rattle.ss_origin.specs.State.{State, state, pending_in, first_pending, runs_closed}
use Rattle.ss_origin.specs.Blocks.{signed_reading}
use Rattle.ss_origin.specs.Setting.{Setting}
use Rattle.ss_origin.specs.Emission.{certificate_of, block_of, blocks_of, AreDue, IsSealed, sent_first, EmitsFrom}
use Rattle.ss_origin.specs.Refusals.{is_unparsed, is_plain, fault_of}
use Rattle.ss_origin.specs.Chain.{Turn, calls_of, AreTurns, start_behind, AreChained, given_to}
use Rattle.ss_origin.specs.BlockLaws.{AreNumbered}
use Rattle.ss_origin.specs.SentLaws.{IsOfChain, SentBlocksAreNumbered}
use Rattle.ss_origin.proofs.Configs.{has_ranges}
use Rattle.ss_origin.proofs.RunsClosed.{all-append, runs_have_small_spris}
use Rattle.ss_origin.proofs.Numbered.{runs_are_numbered, all-weaker}
use Rattle.ss_origin.proofs.CountersInRange.{none_first}

-- ---- the turn of a chain

pub turn_of : (s : Setting) (start : Start) (later earlier : List Turn) (t : Turn) → AreTurns s start (later ++ t ∷ earlier)
    → (fault_of s.config (state s.config start (calls_of earlier)) t.call ≡ None) × EmitsFrom s (state s.config start (calls_of earlier)) t.call t.emitted
turn_of s start [] earlier t turned = (turned.1, turned.2)
turn_of s start (u ∷ later) earlier t turned = turn_of s start later earlier t turned.0

pub turns_of : (s : Setting) (newer older : List (List Turn)) (turns : List Turn) → AreChained s (newer ++ turns ∷ older) → AreTurns s (start_behind s.config older) turns
turns_of s [] older turns are = are.1
turns_of s (u ∷ newer) older turns are = turns_of s newer older turns are.0

-- ---- what holds of all that is due holds of all that is emitted

all-both : {X : Type 0} (P Q R : X → Type 0) → ((x : X) → P x → Q x → R x) → (xs : List X) → AllByRecursion P xs → AllByRecursion Q xs → AllByRecursion R xs
all-both P Q R f [] all both = tt
all-both P Q R f (x ∷ xs) all both = (f x all.0 both.0, all-both P Q R f xs all.1 both.1)

all-map : {X Y : Type 0} (P : Y → Type 0) (f : X → Y) (xs : List X) → AllByRecursion (λ x. P (f x)) xs → AllByRecursion P (map f xs)
all-map P f [] all = tt
all-map P f (x ∷ xs) all = (all.0, all-map P f xs all.1)

all-always : {X : Type 0} (P : X → Type 0) → ((x : X) → P x) → (xs : List X) → AllByRecursion P xs
all-always P f [] = tt
all-always P f (x ∷ xs) = (f x, all-always P f xs)

all-enumerated : {X : Type 0} (P : X → Type 0) (n : ℕ) (xs : List X) → AllByRecursion P xs → AllByRecursion (λ (e : ℕ × X). P e.1) (enumerate_from n xs)
all-enumerated P n [] all = tt
all-enumerated P n (x ∷ xs) all = (all.0, all-enumerated P (n + 1) xs all.1)

all-replicate : {X : Type 0} (P : X → Type 0) (n : ℕ) (x : X) → P x → AllByRecursion P (replicate n x)
all-replicate P zero x p = tt
all-replicate P (suc n) x p = (p, all-replicate P n x p)

pub all-copies : {X : Type 0} (P : X → Type 0) (n : ℕ) (xs : List X) → AllByRecursion P xs → AllByRecursion P (flat_map (λ x. replicate n x) xs)
all-copies P n [] all = tt
all-copies P n (x ∷ xs) all = all-append P (replicate n x) (flat_map (λ y. replicate n y) xs) (all-replicate P n x all.0) (all-copies P n xs all.1)

all-zipped : {A B : Type 0} (P : A → Type 0) (Q : B → Type 0) (R : A → B → Type 0) → ((a : A) (b : B) → P a → R a b → Q b) → (xs : List A) (ys : List B) → AllByRecursion P xs → AllZip R xs ys → AllByRecursion Q ys
all-zipped P Q R f [] [] all zip = tt
all-zipped P Q R f [] (y ∷ ys) all zip = absurd zip
all-zipped P Q R f (x ∷ xs) [] all zip = absurd zip
all-zipped P Q R f (x ∷ xs) (y ∷ ys) all zip = (f x y all.0 zip.0, all-zipped P Q R f xs ys all.1 zip.1)

-- ---- messages

module _ (P : block.Signature → Type 0) where
  -- P of the signature block that a block before its signature is, if it is one
  abbrev OfDue : Unsigned → Type 0
  OfDue d = (signature : List ℕ) (b : block.Signature) → signed_reading d signature ≡ readings.Signature b → P b

  abbrev OfMessage : List ℕ → Type 0
  OfMessage m = (b : block.Signature) → reading m ≡ readings.Signature b → P b

  not_plain : (r : Reading) (b : block.Signature) → is_plain r ≡ true → r ≡ readings.Signature b → P b
  not_plain r b plain e = absurd (let no : is_plain (readings.Signature b) ≡ true = subst (λ q. is_plain q ≡ true) e plain in cc)

  of_certificate : (c : Config) (text : List ℕ) (cut : Cut) → OfDue (certificate_of c text cut)
  of_certificate c text cut signature b e = absurd (cc)

  of_sealed : (s : Setting) (stamp : Option Moment) (d : Unsigned) (m : List ℕ) → OfDue d → IsSealed s stamp d m → OfMessage m
  of_sealed s stamp d m due sealed b e = due sealed.signature b (sym sealed.read.read ∙ e)

  of_emitted : (s : Setting) (old : State) (call : Call) (emitted : List (List ℕ)) → AllByRecursion OfMessage (sent_first call) → (e : EmitsFrom s old call emitted) → AllByRecursion OfDue e.due → AllByRecursion OfMessage emitted
  of_emitted s old call emitted first e due =
      subst (AllByRecursion OfMessage) (sym e.sent.sent_are)
      (all-append OfMessage (sent_first call) (flat_map (λ m. replicate s.config.copies m) e.sent.messages) first
      (all-copies OfMessage s.config.copies e.sent.messages (all-zipped OfDue OfMessage (IsSealed s (stamp_of call)) (of_sealed s (stamp_of call)) e.due e.sent.messages due e.sent.sealed)))

  first_of : (c : Config) (old : State) (call : Call) → fault_of c old call ≡ None → AllByRecursion OfMessage (sent_first call)
  first_of c old (Begin stamp) e = tt
  first_of c old (Submit message stamp) e =
      let begun = none_first (not old.begun) NotBegun _ e in
      let parsed = none_first (is_unparsed (reading message)) NotSyslog _ begun.1 in
      let plain = none_first (not (is_plain (reading message))) HasBlock _ parsed.1 in
      (λ b read. not_plain (reading message) b (not-false (is_plain (reading message)) plain.0) read, tt)
  first_of c old (Flush stamp) e = tt

-- ---- blocks

module _ (s : Setting) (chain : List (List Turn)) (old : State) where
  abbrev IsNumbered : Run → Type 0
  IsNumbered r = (r.spri < 192) × AreNumbered s.config (given_to s.config r.spri chain) (first_pending old r.spri) r.hashes

  of_block : (e : ℕ × Run) → IsNumbered e.1 → OfDue (IsOfChain s chain) (block_of s.config old e)
  of_block e is signature b read =
      let d : block.Signature = record {
        alg = s.config.alg;
        rsid = s.config.rsid;
        group = group_of s.config.grouping e.1.spri;
        gbc = e.0;
        first = first_pending old e.1.spri;
        hashes = e.1.hashes;
        signature = signature;
      } in
      let same : d ≡ b = cc in
      subst (IsOfChain s chain) same (record { spri = e.1.spri; small = is.0; alg = refl; rsid = refl; group = refl; numbered = is.1 })

  of_blocks : (call : Call) → AllByRecursion IsNumbered (runs_closed s.config (pending_in old) call) → AllByRecursion (OfDue (IsOfChain s chain)) (blocks_of s.config old call)
  of_blocks call all =
      let runs = enumerate_from old.gbc (runs_closed s.config (pending_in old) call) in
      all-map (OfDue (IsOfChain s chain)) (block_of s.config old) runs
      (all-weaker (λ (e : ℕ × Run). IsNumbered e.1) (λ e. OfDue (IsOfChain s chain) (block_of s.config old e)) of_block runs
      (all-enumerated IsNumbered old.gbc (runs_closed s.config (pending_in old) call) all))

  of_due : (call : Call) (due : List Unsigned) → AreDue s old call due → AllByRecursion IsNumbered (runs_closed s.config (pending_in old) call) → AllByRecursion (OfDue (IsOfChain s chain)) due
  of_due (Begin stamp) due are all =
      subst (AllByRecursion (OfDue (IsOfChain s chain))) (sym are.2)
      (all-map (OfDue (IsOfChain s chain)) (certificate_of s.config (payload_text s.payload)) are.0
      (all-always (λ cut. OfDue (IsOfChain s chain) (certificate_of s.config (payload_text s.payload) cut)) (of_certificate (IsOfChain s chain) s.config (payload_text s.payload)) are.0))
  of_due (Submit message stamp) due are all = subst (AllByRecursion (OfDue (IsOfChain s chain))) (sym are) (of_blocks (Submit message stamp) all)
  of_due (Flush stamp) due are all = subst (AllByRecursion (OfDue (IsOfChain s chain))) (sym are) (of_blocks (Flush stamp) all)

pub sent_blocks_are_numbered : FaultsAreOfNoMessage → SentBlocksAreNumbered
sent_blocks_are_numbered read s newer older later earlier t is =
    let chain = newer ++ (later ++ t ∷ earlier) ∷ older in
    let old = state s.config (start_behind s.config older) (calls_of earlier) in
    let turn = turn_of s (start_behind s.config older) later earlier t (turns_of s newer older (later ++ t ∷ earlier) is.chained) in
    let runs = runs_closed s.config (pending_in old) t.call in
    let all : AllByRecursion (IsNumbered s chain old) runs
    = all-both (λ r. r.spri < 192) (λ r. r.spri < 192 → AreNumbered s.config (given_to s.config r.spri chain) (first_pending old r.spri) r.hashes) (IsNumbered s chain old)
    (λ r small numbered. (small, numbered small)) runs
    (runs_have_small_spris read s.config (pending_in old) t.call (has_ranges s.config is.setting.fit.config).grouping)
    (runs_are_numbered s.config newer older later earlier t) in
    of_emitted (IsOfChain s chain) s old t.call t.emitted (first_of (IsOfChain s chain) s.config old t.call turn.0) turn.1
    (of_due s chain old t.call turn.1.due turn.1.are_due all)
