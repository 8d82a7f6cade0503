use Rattle.std.proofs.Common.{refl, sym, ◌∙◌}
use Rattle.ss_review.specs.sessions.Sessions.{sessions}
use Rattle.ss_laws.specs.parts.Parts.{blocks_of}
use Rattle.ss_octets.proofs.Members.{has_from_contains, contains_from_has}
use Rattle.ss_laws.proofs.of_parts.PartBlocks.{from_own, has-own, is_own, its_own, part_is, has_its_blocks}
use Rattle.ss_laws.proofs.parts.sessions_of_parts.Goals as goal

pub returns : goal.returns
returns c = λ says bs part whole. (
  λ b h.
      contains_from_has (sessions (blocks_of part (part b.place) bs)) b.session
      (its_own part bs (part b.place) b.session (b, has-own part bs (part b.place) b (has_from_contains bs b h) refl, refl)),
  λ k j s h i.
      (let own = is_own part bs k s (has_from_contains (sessions (blocks_of part k bs)) s h) in
      let other = is_own part bs j s (has_from_contains (sessions (blocks_of part j bs)) s i) in
      let there = from_own part bs j other.0 other.1 in
      sym (part_is part bs k whole s own other.0 there.0 other.2) ∙ there.1),
  λ k s h. has_its_blocks part bs k whole says s (is_own part bs k s (has_from_contains (sessions (blocks_of part k bs)) s h)),
)
