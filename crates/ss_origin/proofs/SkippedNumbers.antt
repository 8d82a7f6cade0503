-- The numbers that are left out by originators that go on ahead are in no block.
use Rattle.std.proofs.Common.{◌≡◌, inl, inr, ℕ, ◌<◌, ◌≤◌, true, List, ◌∷◌, ◌++◌, sym, subst, arith}
use Rattle.ss_message.specs.Laws.{FaultsAreOfNoMessage}
use Rattle.ss_block.specs.Block as block
use Rattle.ss_origin.specs.Groups.{group_of}
use Rattle.ss_origin.specs.Configs.{is_config}
use Rattle.ss_origin.specs.Counting.{number_in}
use Rattle.ss_origin.specs.State.{state}
use Rattle.ss_origin.specs.Setting.{Setting}
use Rattle.ss_origin.specs.Chain.{calls_of}
use Rattle.ss_origin.specs.OneBlockLaws.{Covers}
use Rattle.ss_origin.specs.Ahead.{Life, ended_with, GoOnAhead}
use Rattle.ss_origin.specs.AheadLaws.{SkippedNumbersAreInNoBlock}
use Rattle.ss_origin.proofs.ChainsAhead.{IsSentBlock, sent_block, behind_all, ends_before, all_after, older_of, above_number, ended_below}
use Rattle.ss_origin.proofs.Frontiers.{frontier_at, frontier_of, IsSentIn, from_start, between}
use Rattle.ss_octets.proofs.Members.{Has, has-append_cases}
use Rattle.ss_origin.proofs.Numbering.{counters_tell}

module _ (read : FaultsAreOfNoMessage) (s : Setting) (is : is_config s.config ≡ true) (next last : Life) (older : List Life) (spri number : ℕ) (small : spri < 192)
    (least : number_in (ended_with s.config last).groups spri ≤ number) (below : number < number_in next.start.counters.groups spri) where
  before_next : GoOnAhead s (last ∷ older) → (m : List ℕ) (b : block.Signature) → IsSentBlock (last ∷ older) m b → Covers b (group_of s.config.grouping spri) number → ⊥
  before_next are m b sent covers =
      let told = counters_tell s.config last.start (calls_of last.turns) spri small in
      ended_below read s is spri number last older m b small are (omega (arith, told, least)) sent covers

  from_next : GoOnAhead s (next ∷ last ∷ older) → (m : List ℕ) (b : block.Signature) (o : Life) → Has (next ∷ last ∷ older) o → IsSentIn o.turns m b → Covers b (group_of s.config.grouping spri) number → ⊥
  from_next are m b o (inl e) h covers =
      above_number read s is spri number (frontier_at next.start) (frontier_of (state s.config next.start (calls_of next.turns))) b
      (between read s is next.start next.turns m b are.2 (subst (λ (x : Life). IsSentIn x.turns m b) (sym e) h)) below covers
  from_next are m b o (inr i) h covers = before_next are.0 m b (record { life = o; of_chain = i; sent = h }) covers

  behind_next : (newer : List Life) → GoOnAhead s (newer ++ next ∷ last ∷ older) → (m : List ℕ) (b : block.Signature) → IsSentBlock newer m b → Covers b (group_of s.config.grouping spri) number → ⊥
  behind_next newer are m b sent covers =
      let rest = next ∷ last ∷ older in
      let start = (from_start read s is next.start next.turns).first spri small in
      let end = (ends_before read s is next (last ∷ older)).first spri small in
      above_number read s is spri number (behind_all s.config rest) (behind_all s.config (newer ++ rest)) b (all_after read s is newer rest m b are sent) (omega (arith, start, end, below)) covers

pub skipped_numbers_are_in_no_block : FaultsAreOfNoMessage → SkippedNumbersAreInNoBlock
skipped_numbers_are_in_no_block read s newer older next last spri number is small least below m b sent read_m covers =
    let fits = is.setting.fit.config in
    let rest = next ∷ last ∷ older in
    let w = sent_block (newer ++ rest) m b sent read_m in
    elim (has-append_cases newer rest w.life w.of_chain) [
      | inl i ↦ behind_next read s fits next last older spri number small least below newer is.chained m b (record { life = w.life; of_chain = i; sent = w.sent }) covers
      | inr i ↦ from_next read s fits next last older spri number small least below (older_of read s fits newer rest is.chained) m b w.life i w.sent covers
    ]
