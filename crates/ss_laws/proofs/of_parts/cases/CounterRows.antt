-- What the cut of the small logs keeps: the blocks of each session stay in one part.
use Rattle.std.proofs.Common.{◌≡◌, inl, inr, ℕ, ◌<◌, ◌==◌, Bool, true, false, cond, [], ◌∷◌, refl, sym, ap, ◌∙◌, subst, arith}
use Rattle.std.specs.List.{list_any}
use Rattle.ss_review.specs.keep.BlockMessage.{BlockMessage}
use Rattle.ss_laws.specs.parts.Parts.{SessionsStayWhole}
use Rattle.ss_octets.proofs.Members.{Has, has_from_contains}
use Rattle.ss_laws.specs.parts.cases.CounterRows.{two_logs, by_host, home}
use Rattle.ss_laws.specs.parts.PartCounters.{AreBlockParts}

in_two : (b : Bool) → cond b 1 0 < 2
in_two true = omega arith
in_two false = omega arith

pub by_host_within : (place : ℕ) → by_host place < 2
by_host_within place = in_two (list_any (λ p. p == place) (3 ∷ 4 ∷ 5 ∷ []))

pub at_home : (b : BlockMessage) → Has two_logs.blocks b → home b.session ≡ by_host b.place
at_home b (inl e) = subst (λ (d : BlockMessage). home d.session ≡ by_host d.place) e refl
at_home b (inr (inl e)) = subst (λ (d : BlockMessage). home d.session ≡ by_host d.place) e refl
at_home b (inr (inr (inl e))) = subst (λ (d : BlockMessage). home d.session ≡ by_host d.place) e refl
at_home b (inr (inr (inr (inl e)))) = subst (λ (d : BlockMessage). home d.session ≡ by_host d.place) e refl
at_home b (inr (inr (inr (inr h)))) = absurd h

pub sessions_stay : SessionsStayWhole by_host two_logs.blocks
sessions_stay b d h i e =
    sym (at_home b (has_from_contains two_logs.blocks b h)) ∙ ap home e ∙ at_home d (has_from_contains two_logs.blocks d i)

pub blocks_keep : AreBlockParts two_logs.blocks by_host 2
blocks_keep = record { within = λ b h. by_host_within b.place; sessions = sessions_stay }
