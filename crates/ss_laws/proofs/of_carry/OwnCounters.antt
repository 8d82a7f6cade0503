-- A log of its own gives the counters that its messages give at their places in the whole.
use Rattle.std.proofs.Common.{◌≡◌, inl, inr, ℕ, ◌==◌, Bool, true, false, cond, List, map, filter, refl, sym, ap, ◌∙◌, subst, arith}
use Rattle.std.specs.Prelude.{slice_index}
use Rattle.ss_block.specs.declared.block.Group.{Group}
use Rattle.ss_block.specs.declared.session.Session.{Session}
use Rattle.ss_review.specs.keep.BlockMessage.{BlockMessage}
use Rattle.ss_review.specs.keep.Notes.{notes}
use Rattle.ss_review.specs.keep.Contents.{Contents, blocks, contents}
use Rattle.ss_review.specs.sessions.Verified.{Answers, is_verified}
use Rattle.ss_review.specs.announced.Announced.{Key, keys}
use Rattle.ss_review.specs.announced.Announcing.{IsAnnounced}
use Rattle.ss_review.specs.counted.CountedLaws.{IsCounted, IsNext}
use Rattle.ss_review.specs.counted.Kept.{kept_gbc, kept_number}
use Rattle.ss_review.specs.counted.KeptLaws.{log_counters}
use Rattle.ss_octets.proofs.Members.{Has, has-map, from_has-map, has_from_contains, contains_from_has}
use Rattle.ss_review.proofs.of_numbers.Announcements.{announced_key, has-announced_key}
use Rattle.ss_laws.specs.parts.Parts.{messages_of, places_of}
use Rattle.ss_laws.proofs.of_parts.MovedBlocks.{moved_block, rows_moved}
use Rattle.ss_laws.specs.carry.Nights.{Nights, is_reviewed, night_log}
use Rattle.ss_laws.specs.carry.NightLaws.{reviewed_part}
use Rattle.ss_laws.specs.carry.NightCounters.{night_counters}
use Rattle.ss_laws.proofs.of_carry.CountersSaid.{blocks_follow, numbers_follow}
use Rattle.ss_laws.proofs.of_parts.PartTexts.{own_blocks}
use Rattle.ss_laws.proofs.of_parts.BareSessions.{verified_moved}

-- what comes next is one number
pub one_next : (P Q : ℕ → Type 0) (a b : ℕ) → IsNext P a → IsNext Q b → ((n : ℕ) → P n → Q n) → ((n : ℕ) → Q n → P n) → a ≡ b
one_next P Q a b p q there back =
    elim p.behind [
      | inl none ↦ (elim q.behind [
        | inl other ↦ omega (arith, none, other)
        | inr w ↦ absurd (let less = p.above w.0 (back w.0 w.1) in omega (arith, less, none))
      ])
      | inr v ↦ (elim q.behind [
        | inl other ↦ absurd (let less = q.above v.0 (there v.0 v.1) in omega (arith, less, other))
        | inr w ↦ (let more = q.above v.0 (there v.0 v.1) in let less = p.above w.0 (back w.0 w.1) in omega (arith, more, less, v.2, w.2))
      ])
    ]

-- ---- blocks at other places

module _ (f : ℕ → ℕ) (says : Answers) (bs : List BlockMessage) where
  abbrev ds : List BlockMessage
  ds = map (moved_block f) bs

  counted_there : (s : Session) (n : ℕ) → IsCounted says bs s n → IsCounted says (map (moved_block f) bs) s n
  counted_there s n c = record {
    message = moved_block f c.message;
    stored = contains_from_has ds (moved_block f c.message) (has-map (moved_block f) bs c.message (has_from_contains bs c.message c.stored));
    session_is = c.session_is;
    verified = verified_moved f says bs c.message ∙ c.verified;
    said = c.said;
    says_so = c.says_so;
    gbc_is = c.gbc_is;
  }

  counted_back : (s : Session) (n : ℕ) → IsCounted says (map (moved_block f) bs) s n → IsCounted says bs s n
  counted_back s n c =
      let w : (b : BlockMessage) × Has bs b × (moved_block f b ≡ c.message) = from_has-map (moved_block f) bs c.message (has_from_contains ds c.message c.stored) in
      record {
        message = w.0;
        stored = contains_from_has bs w.0 w.1;
        session_is = ap (λ (b : BlockMessage). b.session) w.2 ∙ c.session_is;
        verified = sym (verified_moved f says bs w.0) ∙ ap (is_verified says ds) w.2 ∙ c.verified;
        said = c.said;
        says_so = ap (λ (b : BlockMessage). b.said) w.2 ∙ c.says_so;
        gbc_is = c.gbc_is;
      }

  announced_there : (k : Key) → IsAnnounced says bs k → IsAnnounced says (map (moved_block f) bs) k
  announced_there k a =
      announced_key says ds k (subst (λ rs. Has (keys rs) k) (sym (rows_moved f says bs)) (has-announced_key says bs k a))

  announced_back : (k : Key) → IsAnnounced says (map (moved_block f) bs) k → IsAnnounced says bs k
  announced_back k a =
      announced_key says bs k (subst (λ rs. Has (keys rs) k) (rows_moved f says bs) (has-announced_key says ds k a))

-- ---- the log of a night

same_test : (b : Bool) → (cond b 0 1 == 0) ≡ b
same_test true = refl
same_test false = refl

module _ (says : Answers) (x : Nights) (night : ℕ) (log : List (List ℕ)) (whole : x.whole ≡ contents (notes log)) where
  abbrev there : ℕ → ℕ
  there = slice_index (places_of (reviewed_part x night) 0 log)

  abbrev own : List (List ℕ)
  own = messages_of (reviewed_part x night) 0 log

  pub night_blocks : map (moved_block (slice_index (places_of (reviewed_part x night) 0 log))) (blocks (notes (messages_of (reviewed_part x night) 0 log))) ≡ (night_log x night).blocks
  night_blocks =
      own_blocks (reviewed_part x night) 0 log
      ∙ (λ i. filter (λ (b : BlockMessage). same_test (is_reviewed x night b.place) i) (blocks (notes log)))
      ∙ ap (λ (c : Contents). filter (λ (b : BlockMessage). is_reviewed x night b.place) c.blocks) (sym whole)

  pub same_gbc : (s : Session) → kept_gbc (log_counters says (messages_of (reviewed_part x night) 0 log)) s ≡ kept_gbc (night_counters says x night) s
  same_gbc s =
      let bs = blocks (notes own) in
      one_next (IsCounted says bs s) (IsCounted says (night_log x night).blocks s) (kept_gbc (log_counters says own) s) (kept_gbc (night_counters says x night) s)
      (blocks_follow says (contents (notes own)) s) (blocks_follow says (night_log x night) s)
      (λ n c. subst (λ ds. IsCounted says ds s n) night_blocks (counted_there there says bs s n c))
      (λ n c. counted_back there says bs s n (subst (λ ds. IsCounted says ds s n) (sym night_blocks) c))

  pub same_number : (s : Session) (g : Group) → kept_number (log_counters says (messages_of (reviewed_part x night) 0 log)) s g ≡ kept_number (night_counters says x night) s g
  same_number s g =
      let bs = blocks (notes own) in
      let key : ℕ → Key = λ n. record { session = s; group = g; number = n } in
      one_next (λ n. IsAnnounced says bs (key n)) (λ n. IsAnnounced says (night_log x night).blocks (key n)) (kept_number (log_counters says own) s g) (kept_number (night_counters says x night) s g)
      (numbers_follow says (contents (notes own)) s g) (numbers_follow says (night_log x night) s g)
      (λ n a. subst (λ ds. IsAnnounced says ds (key n)) night_blocks (announced_there there says bs (key n) a))
      (λ n a. announced_back there says bs (key n) (subst (λ ds. IsAnnounced says ds (key n)) (sym night_blocks) a))
