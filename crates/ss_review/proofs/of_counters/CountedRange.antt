-- No block states a number of more than ten digits, so none that comes next is above the one behind the last of these.
use Rattle.std.proofs.Common.{◌≡◌, inl, inr, ℕ, ◌+◌, ◌<◌, ◌≤◌, List, map, ap, ◌∙◌, arith, length}
use Rattle.std.specs.Prelude.{All, Contains, Some}
use Rattle.std.proofs.lemmas.List.Elements.{All-contains, All-contains_itself, All-weaker}
use Rattle.std.proofs.lemmas.Option.{slice_get_within}
use Rattle.ss_block.specs.declared.session.Session.{Session}
use Rattle.ss_block.specs.Block as block
use Rattle.ss_block.specs.Ranges.{last_number, past_last_number}
use Rattle.ss_block.specs.Reading.{reading}
use Rattle.ss_block.specs.ReadingLaws.{BlocksAreInRange}
use Rattle.ss_review.specs.keep.BlockMessage.{BlockMessage, BlockContent, Hashes}
use Rattle.ss_review.specs.declared.report.group_report.GroupReport.{GroupReport}
use Rattle.ss_review.specs.declared.report.session_report.SessionReport.{SessionReport}
use Rattle.ss_review.specs.keep.Notes.{notes}
use Rattle.ss_review.specs.keep.Contents.{blocks}
use Rattle.ss_review.specs.sessions.Sessions.{sessions}
use Rattle.ss_review.specs.sessions.Verified.{Answers}
use Rattle.ss_review.specs.report.Report.{report}
use Rattle.ss_review.specs.counted.Counted.{gbcs, counted_session, next_after, next_number}
use Rattle.ss_review.specs.counted.CountedLaws.{IsInRange, NextNumbersFollow, CountedAreInRange, NextNumbersAreInRange}
use Rattle.ss_octets.proofs.Members.{Has, has_from_contains, contains_from_has, from_has-map}
use Rattle.ss_review.proofs.of_counters.CountedMeant.{counted_are_verified}
use Rattle.ss_review.proofs.of_reports.EntriesMeant.{greatest_of}
use Rattle.ss_review.proofs.of_reports.EntriesRise.{all_map}
use Rattle.ss_review.proofs.of_reports.Witnesses.{stored_block, said_signature}

-- what a stored signature block says is in range
pub said_in_range : BlocksAreInRange → (log : List (List ℕ)) (b : BlockMessage) (said : block.Signature) → Contains (blocks (notes log)) b → b.said ≡ Hashes said → block.IsSignature said
said_in_range range log b said stored says_so =
    let s = stored_block log b (has_from_contains (blocks (notes log)) b stored) in
    range.0 s.0 said (said_signature (reading s.0) said (s.2.said_is ∙ ap (λ (x : BlockContent). Some x) says_so))

pub next_within : (ns : List ℕ) → All (λ n. n ≤ last_number) ns → next_after ns ≤ past_last_number
next_within ns all =
    let more : ℕ → ℕ = λ n. n + 1 in
    elim (greatest_of 0 (map more ns)) [
      | inl e ↦ omega (arith, e)
      | inr h ↦ (
          let w : (n : ℕ) × Has ns n × (more n ≡ next_after ns) = from_has-map more ns (next_after ns) h in
          let l : w.0 ≤ last_number = All-contains (λ n. n ≤ last_number) ns w.0 all (contains_from_has ns w.0 w.1) in
          let e : w.0 + 1 ≡ next_after ns = w.2 in
          omega (arith, l, e))
    ]

session_in_range : BlocksAreInRange → (says : Answers) (log : List (List ℕ)) (s : Session) → IsInRange (counted_session says (blocks (notes log)) s)
session_in_range range says log s =
    let gs = gbcs says (blocks (notes log)) s in
    let law = counted_are_verified says log s in
    let within : All (λ g. g ≤ last_number) gs
    = All-weaker (Contains gs) (λ g. g ≤ last_number)
    (λ g there. (let c = (law.1 g).0 there in let r = said_in_range range log c.message c.said c.stored c.says_so in omega (arith, c.gbc_is, r.gbc)))
    gs (All-contains_itself gs) in
    record { rise = law.0; within = within; next = next_within gs within }

pub counted_are_in_range : BlocksAreInRange → CountedAreInRange
counted_are_in_range range says log =
    let bs = blocks (notes log) in
    all_map IsInRange (counted_session says bs) (sessions bs) (session_in_range range says log)

module _ (range : BlocksAreInRange) (follow : NextNumbersFollow) (says : Answers) (log : List (List ℕ)) where
  number_in_range : (s : SessionReport) (g : GroupReport) → Contains (report says log).sessions s → Contains s.groups g → next_number g ≤ past_last_number
  number_in_range s g s_told g_told =
      elim ((follow says log s g s_told g_told).behind) [
        | inl e ↦ omega (arith, e)
        | inr w ↦ (
            let a = w.1.1 in
            let r = said_in_range range log a.message a.said a.stored a.says_so in
            let below : a.index < length a.said.hashes = slice_get_within a.said.hashes a.index w.1.0 a.hash in
            omega (arith, w.2, a.number, below, r.last))
      ]

  numbers_in_range : All (λ s. All (λ g. next_number g ≤ past_last_number) s.groups) (report says log).sessions
  numbers_in_range =
      let ss = (report says log).sessions in
      All-weaker (Contains ss) (λ s. All (λ g. next_number g ≤ past_last_number) s.groups)
      (λ s s_told. All-weaker (Contains s.groups) (λ g. next_number g ≤ past_last_number) (λ g g_told. number_in_range s g s_told g_told) s.groups (All-contains_itself s.groups))
      ss (All-contains_itself ss)

pub next_numbers_are_in_range : BlocksAreInRange → NextNumbersFollow → NextNumbersAreInRange
next_numbers_are_in_range range follow says log = numbers_in_range range follow says log
