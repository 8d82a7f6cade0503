-- What the cuts of the small logs keep.
use Rattle.std.proofs.Common.{◌≡◌, ◌⊎◌, inl, inr, ℕ, zero, suc, ◌-◌, ◌<◌, ◌==◌, Bool, true, false, cond, List, [], ◌∷◌, get_or, refl, sym, ap, ◌∙◌, subst, arith}
use Rattle.std.specs.Prelude.{Some, slice_get}
use Rattle.std.specs.List.{list_any}
use Rattle.ss_message.specs.declared.draft.Field.{Field}
use Rattle.ss_message.specs.declared.draft.Field.TheVariants as fields
use Rattle.ss_block.specs.Block as block
use Rattle.ss_block.specs.declared.hash.Hash.{Hash}
use Rattle.ss_block.specs.declared.hash.Hash.TheVariants as hashes
use Rattle.ss_block.specs.declared.hash.HashPair.{HashPair}
use Rattle.ss_block.specs.declared.session.Session.{Session}
use Rattle.ss_review.specs.declared.keep.message.NormalMessage.{NormalMessage}
use Rattle.ss_review.specs.keep.BlockMessage.{BlockMessage, BlockContent, Hashes, Fragment}
use Rattle.ss_laws.specs.parts.Parts.{SessionsStayWhole, AnnouncedStayWithBlocks, AreParts}
use Rattle.ss_laws.specs.parts.cases.PartRows.{cut_off, halves_log}
use Rattle.ss_review.specs.assign.Assigned.{has_hash}
use Rattle.ss_review.specs.report.Rows.{first, second, yes, whole_log, two_sessions_log, two_hosts_payloads_log}
use Rattle.ss_octets.proofs.Members.{Has, has_from_contains}

-- ---- one session, and a message cut off

one_part : (b : BlockMessage) → Has whole_log.blocks b → cut_off (0 ∷ []) b.place ≡ 0
one_part b (inl e) = subst (λ (d : BlockMessage). cut_off (0 ∷ []) d.place ≡ 0) e refl
one_part b (inr (inl e)) = subst (λ (d : BlockMessage). cut_off (0 ∷ []) d.place ≡ 0) e refl
one_part b (inr (inr h)) = absurd h

pub message_from_one_session : SessionsStayWhole (cut_off (0 ∷ [])) whole_log.blocks
message_from_one_session b d h i e =
    one_part b (has_from_contains whole_log.blocks b h) ∙ sym (one_part d (has_from_contains whole_log.blocks d i))

-- ---- one session, and its certificate block cut off

message_at : (m : NormalMessage) → Has whole_log.normal m → cut_off (2 ∷ []) m.place ≡ 0
message_at m (inl e) = subst (λ (n : NormalMessage). cut_off (2 ∷ []) n.place ≡ 0) e refl
message_at m (inr (inl e)) = subst (λ (n : NormalMessage). cut_off (2 ∷ []) n.place ≡ 0) e refl
message_at m (inr (inr h)) = absurd h

announcer_at : (b : BlockMessage) → Has whole_log.blocks b → (said : block.Signature) → b.said ≡ Hashes said → cut_off (2 ∷ []) b.place ≡ 0
announcer_at b (inl e) said s = let no = ap (λ (d : BlockMessage). d.said) e ∙ s in absurd (cc)
announcer_at b (inr (inl e)) said s = subst (λ (d : BlockMessage). cut_off (2 ∷ []) d.place ≡ 0) e refl
announcer_at b (inr (inr h)) said s = absurd h

pub announcer_with_messages : AnnouncedStayWithBlocks yes (cut_off (2 ∷ [])) whole_log
announcer_with_messages m k h a c has =
    message_at m (has_from_contains whole_log.normal m c)
    ∙ sym (announcer_at a.message (has_from_contains whole_log.blocks a.message a.stored) a.said a.says_so)

-- ---- two sessions, which differ in RSID

by_rsid : (b : BlockMessage) → Has two_sessions_log.blocks b → cut_off (0 ∷ 2 ∷ 4 ∷ []) b.place ≡ b.session.rsid - 1
by_rsid b (inl e) = subst (λ (d : BlockMessage). cut_off (0 ∷ 2 ∷ 4 ∷ []) d.place ≡ d.session.rsid - 1) e refl
by_rsid b (inr (inl e)) = subst (λ (d : BlockMessage). cut_off (0 ∷ 2 ∷ 4 ∷ []) d.place ≡ d.session.rsid - 1) e refl
by_rsid b (inr (inr (inl e))) = subst (λ (d : BlockMessage). cut_off (0 ∷ 2 ∷ 4 ∷ []) d.place ≡ d.session.rsid - 1) e refl
by_rsid b (inr (inr (inr (inl e)))) = subst (λ (d : BlockMessage). cut_off (0 ∷ 2 ∷ 4 ∷ []) d.place ≡ d.session.rsid - 1) e refl
by_rsid b (inr (inr (inr (inr h)))) = absurd h

pub message_from_two_sessions : SessionsStayWhole (cut_off (0 ∷ 2 ∷ 4 ∷ [])) two_sessions_log.blocks
message_from_two_sessions b d h i e =
    by_rsid b (has_from_contains two_sessions_log.blocks b h)
    ∙ ap (λ (s : Session). s.rsid - 1) e
    ∙ sym (by_rsid d (has_from_contains two_sessions_log.blocks d i))

-- ---- two sessions, which differ in host

-- the hosts are named `h` and `i`
host_part : Field → ℕ
host_part (fields.Text octets) = get_or octets 0 0 - 104
host_part fields.Nil = 0

by_host : (b : BlockMessage) → Has two_hosts_payloads_log.blocks b → cut_off (2 ∷ []) b.place ≡ host_part b.session.host
unfolding host_part
by_host b (inl e) = subst (λ (d : BlockMessage). cut_off (2 ∷ []) d.place ≡ host_part d.session.host) e refl
by_host b (inr (inl e)) = subst (λ (d : BlockMessage). cut_off (2 ∷ []) d.place ≡ host_part d.session.host) e refl
by_host b (inr (inr (inl e))) = subst (λ (d : BlockMessage). cut_off (2 ∷ []) d.place ≡ host_part d.session.host) e refl
by_host b (inr (inr (inr h))) = absurd h

only_message : (m : NormalMessage) → Has two_hosts_payloads_log.normal m → cut_off (2 ∷ []) m.place ≡ 0
only_message m (inl e) = subst (λ (n : NormalMessage). cut_off (2 ∷ []) n.place ≡ 0) e refl
only_message m (inr h) = absurd h

only_announcer : (b : BlockMessage) → Has two_hosts_payloads_log.blocks b → (said : block.Signature) → b.said ≡ Hashes said → cut_off (2 ∷ []) b.place ≡ 0
only_announcer b (inl e) said s = let no = ap (λ (d : BlockMessage). d.said) e ∙ s in absurd (cc)
only_announcer b (inr (inl e)) said s = let no = ap (λ (d : BlockMessage). d.said) e ∙ s in absurd (cc)
only_announcer b (inr (inr (inl e))) said s = subst (λ (d : BlockMessage). cut_off (2 ∷ []) d.place ≡ 0) e refl
only_announcer b (inr (inr (inr h))) said s = absurd h

in_two : (b : Bool) → cond b 1 0 < 2
in_two true = omega arith
in_two false = omega arith

pub session_kept : AreParts yes two_hosts_payloads_log (cut_off (2 ∷ [])) 2
session_kept = record {
  within = λ place below. in_two (list_any (λ p. p == place) (2 ∷ []));
  sessions = λ b d h i e.
      by_host b (has_from_contains two_hosts_payloads_log.blocks b h)
      ∙ ap (λ (s : Session). host_part s.host) e
      ∙ sym (by_host d (has_from_contains two_hosts_payloads_log.blocks d i));
  messages = λ m k h a c has.
      only_message m (has_from_contains two_hosts_payloads_log.normal m c)
      ∙ sym (only_announcer a.message (has_from_contains two_hosts_payloads_log.blocks a.message a.stored) a.said a.says_so);
}

-- ---- one session, and half of its blocks cut off

abbrev half_cut : ℕ → ℕ
half_cut = cut_off (3 ∷ 4 ∷ 5 ∷ [])

half_message : (m : NormalMessage) → Has halves_log.normal m → ((half_cut m.place ≡ 0) × (m.pair ≡ first)) ⊎ ((half_cut m.place ≡ 1) × (m.pair ≡ second))
half_message m (inl e) = inl (subst (λ (n : NormalMessage). half_cut n.place ≡ 0) e refl, ap (λ (n : NormalMessage). n.pair) (sym e))
half_message m (inr (inl e)) = inr (subst (λ (n : NormalMessage). half_cut n.place ≡ 1) e refl, ap (λ (n : NormalMessage). n.pair) (sym e))
half_message m (inr (inr h)) = absurd h

abbrev pub hashes_in : BlockContent → List Hash
hashes_in (Hashes said) = said.hashes
hashes_in (Fragment said) = []

pub only_one : (h g : Hash) (i : ℕ) → slice_get (h ∷ []) i ≡ Some g → g ≡ h
only_one h g zero e = cc
only_one h g (suc i) e = absurd (cc)

half_hash : (b : BlockMessage) → Has halves_log.blocks b → (said : block.Signature) → b.said ≡ Hashes said → (i : ℕ) (h : Hash) → slice_get said.hashes i ≡ Some h
    → ((half_cut b.place ≡ 0) × (h ≡ hashes.Sha1 (1 ∷ []))) ⊎ ((half_cut b.place ≡ 1) × (h ≡ hashes.Sha1 (2 ∷ [])))
half_hash b (inl e) said s i h at = let no = ap (λ (d : BlockMessage). d.said) e ∙ s in absurd (cc)
half_hash b (inr (inl e)) said s i h at =
    let told : hashes.Sha1 (1 ∷ []) ∷ [] ≡ said.hashes = ap (λ (d : BlockMessage). hashes_in d.said) e ∙ ap hashes_in s in
    inl (subst (λ (d : BlockMessage). half_cut d.place ≡ 0) e refl, only_one (hashes.Sha1 (1 ∷ [])) h i (ap (λ hs. slice_get hs i) told ∙ at))
half_hash b (inr (inr (inl e))) said s i h at = let no = ap (λ (d : BlockMessage). d.said) e ∙ s in absurd (cc)
half_hash b (inr (inr (inr (inl e)))) said s i h at =
    let told : hashes.Sha1 (2 ∷ []) ∷ [] ≡ said.hashes = ap (λ (d : BlockMessage). hashes_in d.said) e ∙ ap hashes_in s in
    inr (subst (λ (d : BlockMessage). half_cut d.place ≡ 1) e refl, only_one (hashes.Sha1 (2 ∷ [])) h i (ap (λ hs. slice_get hs i) told ∙ at))
half_hash b (inr (inr (inr (inr n)))) said s i h at = absurd n

pub not_of_second : (h : Hash) (p : HashPair) → h ≡ hashes.Sha1 (1 ∷ []) → p ≡ second → has_hash h p ≡ true → ⊥
not_of_second h p e f has =
    let no : has_hash (hashes.Sha1 (1 ∷ [])) second ≡ true = (λ i. has_hash (sym e i) (sym f i)) ∙ has in absurd (cc)

pub not_of_first : (h : Hash) (p : HashPair) → h ≡ hashes.Sha1 (2 ∷ []) → p ≡ first → has_hash h p ≡ true → ⊥
not_of_first h p e f has =
    let no : has_hash (hashes.Sha1 (2 ∷ [])) first ≡ true = (λ i. has_hash (sym e i) (sym f i)) ∙ has in absurd (cc)

pub halves_kept : AnnouncedStayWithBlocks yes (cut_off (3 ∷ 4 ∷ 5 ∷ [])) halves_log
halves_kept m k h a c has =
    elim (half_message m (has_from_contains halves_log.normal m c)) [
      | inl m0 ↦ (elim (half_hash a.message (has_from_contains halves_log.blocks a.message a.stored) a.said a.says_so a.index h a.hash) [
        | inl a0 ↦ m0.0 ∙ sym a0.0
        | inr a1 ↦ absurd (not_of_first h m.pair a1.1 m0.1 has)
      ])
      | inr m1 ↦ (elim (half_hash a.message (has_from_contains halves_log.blocks a.message a.stored) a.said a.says_so a.index h a.hash) [
        | inl a0 ↦ absurd (not_of_second h m.pair a0.1 m1.1 has)
        | inr a1 ↦ m1.0 ∙ sym a1.0
      ])
    ]
