-- What is carried for one block, and what is known of the certificate blocks after it.
use Rattle.std.proofs.Common.{◌≡◌, ℕ, ◌&&◌, ◌||◌, Bool, true, false, cond, not, List, [], ◌∷◌, ◌++◌, length, filter, refl, sym, ap, ◌∙◌, arith}
use Rattle.std.specs.Prelude.{◌==◌, flat_map, Option, Some, None}
use Rattle.std.specs.declared.cmp.Ordering.{Ordering}
use Rattle.std.specs.declared.cmp.Ordering.TheVariants.{Less, Equal, Greater}
use Rattle.std.specs.Ordering.{nat_cmp, ordering_then, is_eq}
use Rattle.std.specs.List.{list_any}
use Rattle.std.specs.BTreeSet.{BTreeSet, Updates, contains}
use Rattle.std.proofs.lemmas.Bool.{eq-eqb, ne_eqb}
use Rattle.std.proofs.lemmas.Cmp.{ranked}
use Rattle.std.proofs.lemmas.Map.Lookups.{exact_unsigned}
use Rattle.std.proofs.Math.Bool.{and-true, and-false, or-false, or-true}
use Rattle.std.proofs.lemmas.List.{append-nil}
use Rattle.std.proofs.lemmas.List.Folds.{list_any-append}
use Rattle.ss_block.specs.declared.session.Session.{Session}
use Rattle.ss_block.specs.Block.{Signature, Certificate}
use Rattle.ss_block.specs.Order.{session_cmp}
use Rattle.ss_block.specs.declared.full_reading.FullReading.{FullReading}
use Rattle.ss_block.specs.Reading.{reading}
use Rattle.ss_block.specs.Session.{session}
use Rattle.ss_block.specs.Signed.{signed}
use Rattle.ss_review.specs.keep.BlockMessage.{BlockMessage, BlockContent, Hashes, Fragment}
use Rattle.ss_review.specs.declared.report.entry.Entry.{Entry}
use Rattle.ss_review.specs.declared.report.group_report.GroupReport.{GroupReport}
use Rattle.ss_review.specs.declared.report.session_report.SessionReport.{SessionReport}
use Rattle.ss_review.specs.declared.report.report.Report.{Report}
use Rattle.ss_review.specs.keep.Contents.{block_at, block_in, block_with, said_in}
use Rattle.ss_review.specs.report.Entries.{same_group}
use Rattle.ss_review.specs.keep.Notes.{note}
use Rattle.ss_review.specs.sessions.Sessions.{same_session}
use Rattle.ss_review.specs.report.Verdict.{is_joined}
use Rattle.ss_review.proofs.of_kept_messages.NotedBlocks.{block_held}
use Rattle.ss_report.specs.declared.runs.carrying.Extent.{Extent}
use Rattle.ss_report.specs.runs.Carrying.{is_joined_in, is_refused_in, is_verified_in, is_numbered, has_fragment_at, is_fragment_of, entries_said, entries_under}
use Rattle.ss_report.specs.runs.CarriedSoFar.{IsToldJoined, KnowsExtents, carried_verified, carried_with, extent_cmp}

-- ---- the report on its session

module _ (r : Report) (s : Session) (t : SessionReport) (told : IsToldJoined r s t) where
  pub is_joined_there : is_joined_in r s ≡ true
  is_joined_there = ap (list_any (λ (u : SessionReport). is_joined u.state)) told.told ∙ ap (λ b. b || false) told.joined

-- the entries of a signature block, from the report on its session
pub entries_are : (r : Report) (b : BlockMessage) (t : SessionReport) (h : Signature) → IsToldJoined r b.session t → b.said ≡ Hashes h
    → entries_under r b ≡ filter (is_numbered h.first (length h.hashes)) (flat_map (λ (g : GroupReport). g.entries) (filter (λ (g : GroupReport). same_group g.group h.group) t.groups))
entries_are r b t h told said =
    let of : SessionReport → List Entry = λ u. flat_map (λ (g : GroupReport). g.entries) (filter (λ (g : GroupReport). same_group g.group h.group) u.groups) in
    ap (λ x. entries_said r b.session x) said
    ∙ ap (λ us. filter (is_numbered h.first (length h.hashes)) (flat_map of us)) told.told
    ∙ ap (filter (is_numbered h.first (length h.hashes))) (append-nil (of t))

-- ---- what is carried for it

module _ (r : Report) (before : List BlockMessage) (b : BlockMessage) where
  pub carried_unjudged : is_joined_in r b.session ≡ false → carried_with r before b ≡ b.place ∷ []
  carried_unjudged e = ap (λ j. cond (not j) (b.place ∷ []) (cond (is_refused_in r b) [] (carried_verified r before b b.said))) e

  pub carried_refused : is_joined_in r b.session ≡ true → is_refused_in r b ≡ true → carried_with r before b ≡ []
  carried_refused e t = λ i. cond (not (e i)) (b.place ∷ []) (cond (t i) [] (carried_verified r before b b.said))

  pub carried_judged : is_joined_in r b.session ≡ true → is_refused_in r b ≡ false → carried_with r before b ≡ carried_verified r before b b.said
  carried_judged e t = λ i. cond (not (e i)) (b.place ∷ []) (cond (t i) [] (carried_verified r before b b.said))

-- ---- what is known after it

is_eq_nat : (a b : ℕ) → is_eq (nat_cmp a b) ≡ (a == b)
is_eq_nat a b = by (nat_cmp a b) refl
  where
    by : (o : Ordering) → nat_cmp a b ≡ o → is_eq o ≡ (a == b)
    by Less e = let lt = ranked a b Less (sym e) in sym (ne_eqb a b (λ s. omega (arith, lt, s)))
    by Equal e = let same : a ≡ b = exact_unsigned a b e in sym (eq-eqb a b same)
    by Greater e = let gt = ranked a b Greater (sym e) in sym (ne_eqb a b (λ s. omega (arith, gt, s)))

then_eq : (a c : Ordering) → is_eq (ordering_then a c) ≡ (is_eq a && is_eq c)
then_eq Less c = refl
then_eq Equal c = refl
then_eq Greater c = refl

or-last : (x y : Bool) → cond x true y ≡ (y || (x || false))
or-last true y = sym (or-true y)
or-last false y = sym (or-false y)

module _ (r : Report) (before : List BlockMessage) (known : BTreeSet Extent) (knows : KnowsExtents r before known) (b : BlockMessage) where
  abbrev holds : Extent → BlockMessage → Bool
  holds q c = is_fragment_of r q.session.now q.index q.length c

  one_more : (q : Extent) → list_any (holds q) (before ++ b ∷ []) ≡ (list_any (holds q) before || (holds q b || false))
  one_more q = list_any-append (holds q) before (b ∷ [])

  -- a block that isn't verified
  pub knows_unverified : is_verified_in r b ≡ false → KnowsExtents r (before ++ b ∷ []) known
  knows_unverified e q =
      let no : holds q b ≡ false = ap (λ v. same_session b.session q.session.now && has_fragment_at q.index q.length b.said && v) e ∙ and-false (same_session b.session q.session.now && has_fragment_at q.index q.length b.said) in
      knows q ∙ sym (one_more q ∙ ap (λ t. list_any (holds q) before || (t || false)) no ∙ or-false (list_any (holds q) before))

  -- a signature block
  pub knows_signature : (h : Signature) → b.said ≡ Hashes h → KnowsExtents r (before ++ b ∷ []) known
  knows_signature h said q =
      let none : has_fragment_at q.index q.length b.said ≡ false = ap (has_fragment_at q.index q.length) said in
      let no : holds q b ≡ false = ap (λ f. same_session b.session q.session.now && f && is_verified_in r b) none ∙ ap (λ f. f && is_verified_in r b) (and-false (same_session b.session q.session.now)) in
      knows q ∙ sym (one_more q ∙ ap (λ t. list_any (holds q) before || (t || false)) no ∙ or-false (list_any (holds q) before))

  module _ (c : Certificate) (said : b.said ≡ Fragment c) (e : Extent) (session_is : e.session.now ≡ b.session) (index_is : e.index ≡ c.index) (length_is : e.length ≡ length c.fragment) where
    -- whether it is the first
    pub known_before : contains extent_cmp known e ≡ list_any (is_fragment_of r b.session c.index (length c.fragment)) before
    known_before = knows e ∙ (λ i. list_any (is_fragment_of r (session_is i) (index_is i) (length_is i)) before)

    at : (q : Extent) → is_verified_in r b ≡ true → is_eq (extent_cmp e q) ≡ holds q b
    at q v =
        then_eq (session_cmp e.session.now q.session.now) (ordering_then (nat_cmp e.index q.index) (nat_cmp e.length q.length))
        ∙ ap (λ t. is_eq (session_cmp e.session.now q.session.now) && t) (then_eq (nat_cmp e.index q.index) (nat_cmp e.length q.length) ∙ (λ i. is_eq_nat e.index q.index i && is_eq_nat e.length q.length i))
        ∙ (λ i. same_session (session_is i) q.session.now && (index_is i == q.index && length_is i == q.length))
        ∙ sym (ap (λ x. same_session b.session q.session.now && has_fragment_at q.index q.length x && is_verified_in r b) said
        ∙ ap (λ t. same_session b.session q.session.now && (c.index == q.index && length c.fragment == q.length) && t) v
        ∙ and-true (same_session b.session q.session.now && (c.index == q.index && length c.fragment == q.length)))

    -- a verified certificate block, whose extent is added
    pub knows_verified : (new : BTreeSet Extent) → is_verified_in r b ≡ true → Updates extent_cmp known new e true → KnowsExtents r (before ++ b ∷ []) new
    knows_verified new v update q =
        update.0 q
        ∙ (λ i. cond (at q v i) true (knows q i))
        ∙ or-last (holds q b) (list_any (holds q) before)
        ∙ sym (one_more q)

-- ---- the block that is read of a message

pub read_held : (place : ℕ) (text : List ℕ) (read : FullReading) → read.reading ≡ reading text → read.session ≡ session text → read.signed ≡ signed text
    → block_with place (said_in read.reading) read.session read.signed ≡ block_at place (note text)
unfolding block_in
read_held place text read r s o = (λ i. block_with place (said_in (r i)) (s i) (o i)) ∙ block_held place text

pub without_session : (place : ℕ) (said : Option BlockContent) (o : Option (List ℕ)) → block_with place said None o ≡ None
without_session place None o = refl
without_session place (Some x) o = refl

pub without_octets : (place : ℕ) (said : Option BlockContent) (s : Option Session) → block_with place said s None ≡ None
without_octets place None s = refl
without_octets place (Some x) None = refl
without_octets place (Some x) (Some y) = refl
