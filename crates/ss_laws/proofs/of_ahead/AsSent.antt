-- What is reported of a session of whose verified blocks each says what one says that originators sent.
use Rattle.std.proofs.Common.{◌≡◌, ◌⊎◌, inl, inr, ℕ, true, List, sym, ap, ◌∙◌, subst}
use Rattle.std.specs.Prelude.{Some, slice_get}
use Rattle.std.specs.List.{Contains}
use Rattle.ss_block.specs.declared.hash.Hash.{Hash}
use Rattle.ss_block.specs.Block as block
use Rattle.ss_block.specs.Hashes.{pair, hash_of}
use Rattle.ss_review.specs.declared.counted.shortfall.LogShortfalls.{LogShortfalls}
use Rattle.ss_review.specs.keep.BlockMessage.{BlockMessage, Hashes}
use Rattle.ss_review.specs.declared.report.entry.Why.{Why}
use Rattle.ss_review.specs.declared.report.entry.Why.TheVariants as whys
use Rattle.ss_review.specs.declared.report.report.Report.{Report}
use Rattle.ss_review.specs.announced.Announced.{Key}
use Rattle.ss_review.specs.announced.Announcing.{Announces}
use Rattle.ss_review.specs.assign.Assigned.{has_hash}
use Rattle.ss_review.specs.counted.KeptLaws as fates
use Rattle.ss_review.specs.counted.KeptLaws.{Fate, HasFate, IsInHole, IsInTail, IsLost}
use Rattle.ss_review.specs.deliveries.Delivery.{own_session, is_normal}
use Rattle.ss_review.specs.deliveries.DeliveryLaws.{Case, says}
use Rattle.ss_review.specs.keep.Contents.{Contents, normals}
use Rattle.ss_review.specs.keep.Notes.{note, notes}
use Rattle.ss_review.specs.report.Meaning.{IsListed, IsGap}
use Rattle.ss_review.specs.report.Report.{report_of}
use Rattle.ss_review.specs.sessions.Verified.{is_verified}
use Rattle.ss_octets.proofs.Members.{Has, contains_from_has}
use Rattle.ss_review.proofs.of_deliveries.OwnKeys.{own_alg}
use Rattle.ss_review.proofs.of_lists.Keyed.{has-slice_get}
use Rattle.ss_review.proofs.of_reports.Witnesses.{stored_normal, hash_is}
use Rattle.ss_laws.specs.strangers.Unforged.{IsAsSent}
use Rattle.ss_laws.proofs.of_ahead.Reported.{borne}

-- each verified signature block of the session says what one says that was sent
abbrev pub AreAsSent : Case → List BlockMessage → Type 0
AreAsSent x bs = (b : BlockMessage) (said : block.Signature) → Contains bs b → b.session ≡ own_session x.s → b.said ≡ Hashes said
    → is_verified (says x) bs b ≡ true → IsAsSent x.chain said

-- the message at a place has the hash that is announced for it
pub record HasHashAt (x : Case) (message : List ℕ) (place : ℕ) : Type 0 where
  pub stored : List ℕ
  pub stored_is : slice_get x.log place ≡ Some stored
  pub no_block : is_normal (note stored) ≡ true
  pub same_hash : hash_of x.s.config.alg stored ≡ hash_of x.s.config.alg message

module _ (x : Case) (log : Contents) (ms : log.normal ≡ normals (notes x.log)) where
  -- what is listed has the hash of a message that is announced, if no other hash is
  pub hash_at : (k : Key) (place : ℕ) (message : List ℕ) → ((h : Hash) → Announces (says x) log.blocks k h → h ≡ hash_of x.s.config.alg message) → IsListed (report_of (says x) log) k place → HasHashAt x message place
  hash_at k place message no_other l =
      let b = borne (says x) log k place l in
      let alg = x.s.config.alg in
      let t = stored_normal x.log b.message (subst (λ ns. Has ns b.message) ms b.stored) in
      let has : has_hash (hash_of alg message) (pair t.0) ≡ true = ap (has_hash (hash_of alg message)) t.3 ∙ ap (λ h. has_hash h b.message.pair) (sym (no_other b.hash b.announced)) ∙ b.has in
      record {
        stored = t.0;
        stored_is = subst (λ i. slice_get x.log i ≡ Some t.0) b.place_is t.1;
        no_block = ap is_normal t.2;
        same_hash = sym (hash_is alg (hash_of alg message) t.0 (own_alg alg (pair message)) has);
      }

  -- so nothing is listed for a message that is lost
  pub lost_unlisted : (k : Key) (place : ℕ) (message : List ℕ) → ((h : Hash) → Announces (says x) log.blocks k h → h ≡ hash_of x.s.config.alg message) → IsLost x message → IsListed (report_of (says x) log) k place → ⊥
  lost_unlisted k place message no_other lost l =
      let h = hash_at k place message no_other l in
      lost h.stored (contains_from_has x.log h.stored (has-slice_get x.log place h.stored h.stored_is)) h.no_block h.same_hash

-- ---- what became of a lost message

-- a number that isn't listed and isn't disputed is a gap that is lost, in a hole or in a tail
pub unlisted_fate : (r : Report) (all : LogShortfalls) (k : Key) → ((place : ℕ) → IsListed r k place → ⊥) → (IsGap r k whys.Disputed → ⊥) → (fate : Fate) → HasFate r all k fate
    → IsGap r k whys.Lost ⊎ (IsInHole r k ⊎ IsInTail all k)
unlisted_fate r all k unlisted undisputed fates.Listed l = absurd (unlisted l.0 l.1)
unlisted_fate r all k unlisted undisputed fates.Gap g = inl (lost_gap g.0 g.1)
  where
    lost_gap : (why : Why) → IsGap r k why → IsGap r k whys.Lost
    lost_gap whys.Lost h = h
    lost_gap whys.Disputed h = absurd (undisputed h)
unlisted_fate r all k unlisted undisputed fates.Hole h = inr (inl h)
unlisted_fate r all k unlisted undisputed fates.Tail t = inr (inr t)
