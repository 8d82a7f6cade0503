-- A part as a log of its own: its blocks, those of them that are kept by given payloads, and what is told of its sessions.
use Rattle.std.proofs.Common.{◌≡◌, ℕ, ◌==◌, ◌&&◌, ◌||◌, List, length, map, filter, refl, sym, ap, ◌∙◌}
use Rattle.std.specs.Prelude.{Option, Some, None, slice_index}
use Rattle.std.specs.List.{list_any}
use Rattle.ss_block.specs.declared.session.Session.{Session}
use Rattle.ss_review.specs.keep.BlockMessage.{BlockMessage}
use Rattle.ss_review.specs.keep.Notes.{notes}
use Rattle.ss_review.specs.keep.Contents.{block_at, blocks}
use Rattle.ss_review.specs.pinned.Pinned.{speaks_for, claims, claimants, is_signature, keeps, kept, blocks_by}
use Rattle.ss_review.specs.report.Verdict.{is_none}
use Rattle.ss_review.specs.sessions.Payloads.{certificate_of, certificates, cover, is_payload}
use Rattle.ss_review.specs.sessions.Sessions.{same_session, sessions, of_session}
use Rattle.ss_review.specs.sessions.Verified.{Answers}
use Rattle.ss_laws.specs.parts.Parts.{SessionsStayWhole, blocks_of, messages_of, places_of}
use Rattle.ss_octets.proofs.Members.{Has, has_from_contains, contains_from_has, from_has-filter}
use Rattle.ss_review.proofs.of_kept_messages.NotesTold.{block_place}
use Rattle.ss_review.proofs.of_lists.Mapped.{filter-map, filter_map-map, filter_agree}
use Rattle.ss_review.proofs.of_pinned.KeptOfSessions.{swapped}
use Rattle.ss_laws.proofs.of_parts.MovedBlocks.{moved_block, sessions_moved}
use Rattle.ss_laws.proofs.of_parts.PartBlocks.{IsOwn, all_own}
use Rattle.ss_laws.proofs.of_parts.PartLogs.{told_of_part}
use Rattle.ss_laws.specs.parts.PartCounters.{AreBlockParts}
use Rattle.ss_laws.proofs.of_parts.BareSessions.{beside, beside_moved, beside_own}
use Rattle.ss_laws.proofs.of_parts.Moves.{block_moves}
use Rattle.ss_laws.proofs.of_parts.Places.{same_places, same_messages}

-- ---- the blocks of a part

module _ (part : ℕ → ℕ) (k : ℕ) (log : List (List ℕ)) where
  part_blocks : map (moved_block (slice_index (places_of part k (notes log)))) (blocks (messages_of part k (notes log))) ≡ blocks_of part k (blocks (notes log))
  unfolding blocks
  part_blocks = told_of_part block_at moved_block (λ (b : BlockMessage). b.place) block_moves block_place part k (notes log)

  pub own_blocks : map (moved_block (slice_index (places_of part k log))) (blocks (notes (messages_of part k log))) ≡ blocks_of part k (blocks (notes log))
  own_blocks = (λ i. map (moved_block (slice_index (sym (same_places part k log) i))) (blocks (sym (same_messages part k log) i))) ∙ part_blocks

-- ---- the blocks that are kept by given payloads

module _ (f : ℕ → ℕ) (says : Answers) (ps : List (List ℕ)) where
  speakers_moved : (p : List ℕ) (bs : List BlockMessage) → certificates (filter (speaks_for says p) (map (moved_block f) bs)) ≡ certificates (filter (speaks_for says p) bs)
  speakers_moved p bs =
      ap certificates (filter-map (speaks_for says p) (moved_block f) bs)
      ∙ filter_map-map (λ (b : BlockMessage). certificate_of b.said) (moved_block f) (filter (speaks_for says p) bs)

  claims_moved : (p : List ℕ) (bs : List BlockMessage) → claims says p (map (moved_block f) bs) ≡ claims says p bs
  unfolding claims
  claims_moved p bs = ap (λ cs. is_payload p && says.trusted p && cover cs (length p)) (speakers_moved p bs)

  claimants_moved : (bs : List BlockMessage) → claimants says ps (map (moved_block f) bs) ≡ claimants says ps bs
  claimants_moved bs = λ i. filter (λ p. claims_moved p bs i) ps

  keeps_moved : (bs : List BlockMessage) (b : BlockMessage) → keeps says ps (map (moved_block f) bs) (moved_block f b) ≡ keeps says ps bs b
  unfolding keeps
  keeps_moved bs b = ap (λ cs. is_signature b.said || is_none cs || list_any (λ p. speaks_for says p b) cs) (claimants_moved bs)

  pub keeps_there : (bs : List BlockMessage) (b : BlockMessage) → keeps says ps (of_session (map (moved_block f) bs) b.session) (moved_block f b) ≡ keeps says ps (of_session bs b.session) b
  keeps_there bs b =
      ap (λ own. keeps says ps own (moved_block f b)) (filter-map (λ (d : BlockMessage). same_session d.session b.session) (moved_block f) bs)
      ∙ keeps_moved (of_session bs b.session) b

  pub kept_moved : (bs : List BlockMessage) → kept says ps (map (moved_block f) bs) ≡ map (moved_block f) (kept says ps bs)
  kept_moved bs =
      filter-map (λ b. keeps says ps (of_session (map (moved_block f) bs) b.session) b) (moved_block f) bs
      ∙ (λ i. map (moved_block f) (filter (λ b. keeps_there bs b i) bs))

module _ (part : ℕ → ℕ) (bs : List BlockMessage) (k : ℕ) (whole : SessionsStayWhole part bs) (says : Answers) (ps : List (List ℕ)) where
  pub kept_own : kept says ps (blocks_of part k bs) ≡ blocks_of part k (kept says ps bs)
  kept_own =
      filter_agree (λ b. keeps says ps (of_session (blocks_of part k bs) b.session) b) (λ b. keeps says ps (of_session bs b.session) b) (blocks_of part k bs)
      (λ b h. ap (λ own. keeps says ps own b) (all_own part bs k whole b.session (b, h, refl)))
      ∙ swapped (λ b. keeps says ps (of_session bs b.session) b) (λ (b : BlockMessage). part b.place == k) (λ (b : BlockMessage). part b.place == k) (λ b e. refl) bs

-- ---- by given payloads, or without any

by_moved : (known : Option (List (List ℕ))) (f : ℕ → ℕ) (says : Answers) (bs : List BlockMessage) → blocks_by known says (map (moved_block f) bs) ≡ map (moved_block f) (blocks_by known says bs)
by_moved None f says bs = refl
by_moved (Some ps) f says bs = kept_moved f says ps bs

by_own : (known : Option (List (List ℕ))) (part : ℕ → ℕ) (bs : List BlockMessage) (k : ℕ) → SessionsStayWhole part bs → (says : Answers) → blocks_by known says (blocks_of part k bs) ≡ blocks_of part k (blocks_by known says bs)
by_own None part bs k whole says = refl
by_own (Some ps) part bs k whole says = kept_own part bs k whole says ps

pub from_by : (known : Option (List (List ℕ))) (says : Answers) (bs : List BlockMessage) (b : BlockMessage) → Has (blocks_by known says bs) b → Has bs b
from_by None says bs b h = h
from_by (Some ps) says bs b h = (from_has-filter (λ d. keeps says ps (of_session bs d.session) d) bs b h).0

pub whole_by : (known : Option (List (List ℕ))) (says : Answers) (part : ℕ → ℕ) (bs : List BlockMessage) → SessionsStayWhole part bs → SessionsStayWhole part (blocks_by known says bs)
whole_by known says part bs whole b d h i =
    let kbs = blocks_by known says bs in
    whole b d (contains_from_has bs b (from_by known says bs b (has_from_contains kbs b h))) (contains_from_has bs d (from_by known says bs d (has_from_contains kbs d i)))

pub parts_by : (known : Option (List (List ℕ))) (says : Answers) (part : ℕ → ℕ) (parts : ℕ) (bs : List BlockMessage) → AreBlockParts bs part parts → AreBlockParts (blocks_by known says bs) part parts
parts_by known says part parts bs are = record {
  within = λ b h. are.within b (contains_from_has bs b (from_by known says bs b (has_from_contains (blocks_by known says bs) b h)));
  sessions = whole_by known says part bs are.sessions;
}

-- ---- the sessions of a part

module _ (known : Option (List (List ℕ))) (says : Answers) (part : ℕ → ℕ) (k : ℕ) (log : List (List ℕ)) (whole : SessionsStayWhole part (blocks (notes log))) where
  abbrev there : ℕ → ℕ
  there = slice_index (places_of part k log)

  abbrev pub reviewed : List BlockMessage
  reviewed = blocks_by known says (blocks (notes log))

  abbrev pub own_reviewed : List BlockMessage
  own_reviewed = blocks_by known says (blocks (notes (messages_of part k log)))

  own_reviewed_are : map (moved_block there) own_reviewed ≡ blocks_of part k reviewed
  own_reviewed_are =
      sym (by_moved known there says (blocks (notes (messages_of part k log))))
      ∙ ap (blocks_by known says) (own_blocks part k log)
      ∙ by_own known part (blocks (notes log)) k whole says

  pub sessions_of_part : sessions own_reviewed ≡ sessions (blocks_of part k reviewed)
  sessions_of_part = sym (sessions_moved there own_reviewed) ∙ ap sessions own_reviewed_are

  pub beside_of_part : (s : Session) → IsOwn part reviewed k s → beside says own_reviewed s ≡ beside says reviewed s
  beside_of_part s i =
      sym (beside_moved there says own_reviewed s)
      ∙ ap (λ bs. beside says bs s) own_reviewed_are
      ∙ beside_own part reviewed k (whole_by known says part (blocks (notes log)) whole) says s i
