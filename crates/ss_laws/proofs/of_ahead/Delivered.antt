-- Each stored block of originators' session was sent, whatever is answered about it; and what is reported of it.
use Rattle.std.proofs.Common.{◌≡◌, inl, inr, ℕ, ◌<◌, ◌≤◌, true, List, refl, sym, ap, ◌∙◌}
use Rattle.std.specs.Prelude.{Some}
use Rattle.ss_block.specs.declared.hash.Hash.{Hash}
use Rattle.ss_block.specs.Hashes.{hash_of}
use Rattle.ss_block.specs.Reading.{reading}
use Rattle.ss_origin.specs.Ahead.{Life}
use Rattle.ss_origin.specs.AheadLaws.{NumbersAreGivenOnce}
use Rattle.ss_review.specs.declared.counted.counter.Counter.{Counter}
use Rattle.ss_review.specs.keep.BlockMessage.{BlockMessage, BlockContent}
use Rattle.ss_review.specs.announced.Announced.{Key}
use Rattle.ss_review.specs.announced.Announcing.{Announces, IsAnnounced}
use Rattle.ss_review.specs.counted.Kept.{kept_number}
use Rattle.ss_review.specs.counted.KeptLaws.{shortfalls_of, EveryNumberIsTold, IsLost}
use Rattle.ss_review.specs.deliveries.Delivery.{own_session, Delivers}
use Rattle.ss_review.specs.deliveries.DeliveryLaws.{Case, says, report_in, AcceptsSent}
use Rattle.ss_review.specs.deliveries.AheadDelivery.{HasNumber, HasHashOfNumber}
use Rattle.ss_review.specs.keep.Contents.{Contents, blocks, contents}
use Rattle.ss_review.specs.keep.Notes.{notes}
use Rattle.ss_review.specs.report.Meaning.{IsListed, IsGap, IsTold}
use Rattle.ss_review.proofs.of_deliveries.SentMessages.{AreAllTurns}
use Rattle.ss_review.proofs.of_deliveries.StoredBlocks.{own_block_sent}
use Rattle.ss_review.proofs.of_kept_messages.NotesTold.{block_read}
use Rattle.ss_review.proofs.of_reports.Witnesses.{said_signature}
use Rattle.ss_laws.specs.ahead.Reported.{AreAhead, NothingIsDisputed, ListedHaveTheirHash, IsReported, LostAreReported}
use Rattle.ss_laws.proofs.of_ahead.AsSent.{AreAsSent, hash_at, lost_unlisted, unlisted_fate}
use Rattle.ss_laws.proofs.of_ahead.Reported.{told_announced, disputed_announced}
use Rattle.ss_review.specs.declared.report.entry.Why.TheVariants as whys
use Rattle.ss_laws.proofs.of_ahead.Numbered.{all_turns, IsNumbered, is_numbered, one_hash as one_hash_of}

-- the case with the answers of the originators' own scheme
abbrev own_answers : Case → Case
own_answers x = record x { answers = record { trusted = λ payload. true; valid = x.s.valid } }

all_accepted : (x : Case) → AcceptsSent (own_answers x)
all_accepted x m octets said c d read signed valid = valid

-- each stored signature block of the session was sent
pub all_as_sent : (x : Case) → AreAllTurns x.s x.chain → Delivers x.s x.chain x.log → AreAsSent x (blocks (notes x.log))
all_as_sent x are delivers b said c own says_so verified =
    let t = own_block_sent (own_answers x) are delivers (all_accepted x) b c own in
    record {
      message = t.message;
      sent = t.sent;
      block = said;
      read = said_signature (reading t.message) said ((block_read b.place t.message b t.read).said_is ∙ ap (λ (s : BlockContent). Some s) says_so);
      same = record { group = refl; gbc = refl; first = refl; hashes = refl };
    }

module _ (x : Case) where
  abbrev log_of : Contents
  log_of = contents (notes x.log)

  abbrev all : List BlockMessage
  all = blocks (notes x.log)

  -- two hashes of one number aren't announced where each is that of its message
  undisputed : (k : Key) (message : List ℕ) → ((h : Hash) → Announces (says x) all k h → h ≡ hash_of x.s.config.alg message) → IsGap (report_in x) k whys.Disputed → ⊥
  undisputed k message no_other g =
      let two = disputed_announced (says x) log_of k g in
      two.4 (no_other two.0 two.2 ∙ sym (no_other two.1 two.3))

  announced : (k : Key) → IsTold (report_in x) k → IsAnnounced (says x) all k
  announced k t = told_announced (says x) log_of k t

  fate_of : EveryNumberIsTold → (cs : List Counter) (k : Key) → ((place : ℕ) → IsListed (report_in x) k place → ⊥) → (IsGap (report_in x) k whys.Disputed → ⊥)
      → 1 ≤ k.number → k.number < kept_number cs k.session k.group → IsReported x cs k
  fate_of every cs k unlisted disputed some below =
      let w = (every (says x) x.log cs k).0 some below in
      unlisted_fate (report_in x) (shortfalls_of (says x) x.log cs) k unlisted disputed w.0 w.1

-- ---- what is reported of the originators

module _ (once : NumbersAreGivenOnce) (x : Case) (lives : List Life) (is : AreAhead x lives) (delivers : Delivers x.s x.chain x.log) where
  are : AreAsSent x (blocks (notes x.log))
  are = all_as_sent x (all_turns x lives is) delivers

  one_hash : (k : Key) (message : List ℕ) → k.session ≡ own_session x.s → HasNumber x.s.config lives k message → (g : Hash) → Announces (says x) (blocks (notes x.log)) k g → g ≡ hash_of x.s.config.alg message
  one_hash = one_hash_of x lives is (blocks (notes x.log)) are once

  its : (k : Key) → k.session ≡ own_session x.s → (a : IsAnnounced (says x) (blocks (notes x.log)) k) → IsNumbered x lives is k a.0
  its k own a = is_numbered x lives is (blocks (notes x.log)) are k own a.0 a.1

  none_disputed : (k : Key) → k.session ≡ own_session x.s → IsGap (report_in x) k whys.Disputed → ⊥
  none_disputed k own g =
      let n = its k own (announced x k (inr (whys.Disputed, g))) in
      undisputed x k n.message (one_hash k n.message own n.numbered) g

  its_hash : (k : Key) (place : ℕ) → k.session ≡ own_session x.s → IsListed (report_in x) k place → HasHashOfNumber x lives k place
  its_hash k place own l =
      let n = its k own (announced x k (inl (place, l))) in
      let h = hash_at x (log_of x) refl k place n.message (one_hash k n.message own n.numbered) l in
      record { message = n.message; numbered = n.numbered; stored = h.stored; stored_is = h.stored_is; no_block = h.no_block; same_hash = h.same_hash }

  lost : EveryNumberIsTold → (k : Key) (m : List ℕ) → k.session ≡ own_session x.s → HasNumber x.s.config lives k m → IsLost x m
      → (cs : List Counter) → 1 ≤ k.number → k.number < kept_number cs k.session k.group → IsReported x cs k
  lost every k m own numbered is_lost cs some below =
      fate_of x every cs k
      (λ place l. lost_unlisted x (log_of x) refl k place m (one_hash k m own numbered) is_lost l)
      (none_disputed k own) some below

-- ---- laws

pub nothing_disputed : NumbersAreGivenOnce → NothingIsDisputed
nothing_disputed once x lives is delivers k own = none_disputed once x lives is delivers k own

pub listed_hash : NumbersAreGivenOnce → ListedHaveTheirHash
listed_hash once x lives is delivers k place own l = its_hash once x lives is delivers k place own l

pub lost_reported : NumbersAreGivenOnce → EveryNumberIsTold → LostAreReported
lost_reported once every x lives is delivers k m own numbered is_lost cs some below = lost once x lives is delivers every k m own numbered is_lost cs some below
