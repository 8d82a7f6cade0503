-- What the cut of the small logs keeps besides: each message stays with the block that announces it.
use Rattle.std.proofs.Common.{◌≡◌, ◌⊎◌, inl, inr, ℕ, ◌<◌, Bool, true, false, cond, [], ◌∷◌, refl, sym, ap, ◌∙◌, subst, arith}
use Rattle.std.specs.Prelude.{Some, slice_get}
use Rattle.ss_block.specs.Block as block
use Rattle.ss_block.specs.declared.hash.Hash.{Hash}
use Rattle.ss_block.specs.declared.hash.Hash.TheVariants as hashes
use Rattle.ss_review.specs.declared.keep.message.NormalMessage.{NormalMessage}
use Rattle.ss_review.specs.keep.BlockMessage.{BlockMessage, Hashes}
use Rattle.ss_review.specs.report.Rows.{first, second, yes}
use Rattle.ss_review.specs.sessions.Sessions.{same_session}
use Rattle.ss_laws.specs.parts.Parts.{AnnouncedStayWithBlocks, AreParts}
use Rattle.ss_octets.proofs.Members.{Has, has_from_contains}
use Rattle.ss_laws.specs.parts.WholeParts.{IsHome}
use Rattle.ss_laws.specs.parts.cases.CounterRows.{two_logs, by_host, gate, home}
use Rattle.ss_laws.proofs.of_parts.cases.CounterRows.{by_host_within, at_home, sessions_stay}
use Rattle.ss_laws.proofs.of_parts.cases.CutRows.{hashes_in, only_one, not_of_second, not_of_first}

home_in_two : (b : Bool) → cond b 0 1 < 2
home_in_two true = omega arith
home_in_two false = omega arith

pub home_is : IsHome two_logs.blocks by_host 2 home
home_is = record {
  blocks = λ b h. at_home b (has_from_contains two_logs.blocks b h);
  within = λ s. home_in_two (same_session s gate);
}

-- ---- messages

half_message : (m : NormalMessage) → Has two_logs.normal m → ((by_host m.place ≡ 0) × (m.pair ≡ first)) ⊎ ((by_host m.place ≡ 1) × (m.pair ≡ second))
half_message m (inl e) = inl (subst (λ (n : NormalMessage). by_host n.place ≡ 0) e refl, ap (λ (n : NormalMessage). n.pair) (sym e))
half_message m (inr (inl e)) = inr (subst (λ (n : NormalMessage). by_host n.place ≡ 1) e refl, ap (λ (n : NormalMessage). n.pair) (sym e))
half_message m (inr (inr h)) = absurd h

half_hash : (b : BlockMessage) → Has two_logs.blocks b → (said : block.Signature) → b.said ≡ Hashes said → (i : ℕ) (h : Hash) → slice_get said.hashes i ≡ Some h
    → ((by_host b.place ≡ 0) × (h ≡ hashes.Sha1 (1 ∷ []))) ⊎ ((by_host b.place ≡ 1) × (h ≡ hashes.Sha1 (2 ∷ [])))
half_hash b (inl e) said s i h at = let no = ap (λ (d : BlockMessage). d.said) e ∙ s in absurd (cc)
half_hash b (inr (inl e)) said s i h at =
    let told : hashes.Sha1 (1 ∷ []) ∷ [] ≡ said.hashes = ap (λ (d : BlockMessage). hashes_in d.said) e ∙ ap hashes_in s in
    inl (subst (λ (d : BlockMessage). by_host d.place ≡ 0) e refl, only_one (hashes.Sha1 (1 ∷ [])) h i (ap (λ hs. slice_get hs i) told ∙ at))
half_hash b (inr (inr (inl e))) said s i h at = let no = ap (λ (d : BlockMessage). d.said) e ∙ s in absurd (cc)
half_hash b (inr (inr (inr (inl e)))) said s i h at =
    let told : hashes.Sha1 (2 ∷ []) ∷ [] ≡ said.hashes = ap (λ (d : BlockMessage). hashes_in d.said) e ∙ ap hashes_in s in
    inr (subst (λ (d : BlockMessage). by_host d.place ≡ 1) e refl, only_one (hashes.Sha1 (2 ∷ [])) h i (ap (λ hs. slice_get hs i) told ∙ at))
half_hash b (inr (inr (inr (inr n)))) said s i h at = absurd n

stay : AnnouncedStayWithBlocks yes by_host two_logs
stay m k h a c has =
    elim (half_message m (has_from_contains two_logs.normal m c)) [
      | inl m0 ↦ (elim (half_hash a.message (has_from_contains two_logs.blocks a.message a.stored) a.said a.says_so a.index h a.hash) [
        | inl a0 ↦ m0.0 ∙ sym a0.0
        | inr a1 ↦ absurd (not_of_first h m.pair a1.1 m0.1 has)
      ])
      | inr m1 ↦ (elim (half_hash a.message (has_from_contains two_logs.blocks a.message a.stored) a.said a.says_so a.index h a.hash) [
        | inl a0 ↦ absurd (not_of_second h m.pair a0.1 m1.1 has)
        | inr a1 ↦ m1.0 ∙ sym a1.0
      ])
    ]

pub cut_keeps : AreParts yes two_logs by_host 2
cut_keeps = record { within = λ place below. by_host_within place; sessions = sessions_stay; messages = stay }
