-- A part has all blocks of its sessions, so it verifies and announces what the whole does of them.
use Rattle.std.proofs.Common.{◌≡◌, ℕ, ◌==◌, List, map, refl, sym, ap, ◌∙◌, subst}
use Rattle.std.proofs.lemmas.Bool.{eqb-true, eq-eqb}
use Rattle.ss_block.specs.declared.hash.Hash.{Hash}
use Rattle.ss_block.specs.declared.session.Session.{Session}
use Rattle.ss_block.specs.OrderLaws.{session_cmp_total, session_cmp_exact}
use Rattle.ss_review.specs.keep.BlockMessage.{BlockMessage}
use Rattle.ss_review.specs.sessions.Sessions.{same_session, sessions, of_session}
use Rattle.ss_review.specs.sessions.Verified.{Answers, joined, is_valid_in, is_verified}
use Rattle.ss_review.specs.announced.Announced.{Key}
use Rattle.ss_review.specs.announced.Announcing.{Announces}
use Rattle.ss_laws.specs.parts.Parts.{blocks_of, SessionsStayWhole}
use Rattle.ss_laws.specs.parts.PartLaws.{HasItsBlocks}
use Rattle.ss_octets.proofs.Members.{Has, has_from_contains, contains_from_has, has-map, from_has-map, has-filter, from_has-filter}
use Rattle.ss_review.proofs.of_lists.Rising.{has-in_order, from_has-in_order}
use Rattle.ss_review.proofs.of_lists.FilteredAlike.{filter_within}
use Rattle.ss_review.proofs.of_pinned.KeptOfSessions.{session_is}

-- ---- the sessions of blocks

pub has-sessions : (bs : List BlockMessage) (b : BlockMessage) → Has bs b → Has (sessions bs) b.session
has-sessions bs b h = has-in_order session_cmp_total session_cmp_exact b.session (map (λ (d : BlockMessage). d.session) bs) (has-map (λ (d : BlockMessage). d.session) bs b h)

pub from_has-sessions : (bs : List BlockMessage) (s : Session) → Has (sessions bs) s → (b : BlockMessage) × Has bs b × (b.session ≡ s)
from_has-sessions bs s h = from_has-map (λ (d : BlockMessage). d.session) bs s (from_has-in_order session_cmp_total session_cmp_exact s (map (λ (d : BlockMessage). d.session) bs) h)

module _ (part : ℕ → ℕ) (bs : List BlockMessage) (k : ℕ) where
  abbrev pub own : List BlockMessage
  own = blocks_of part k bs

  pub from_own : (b : BlockMessage) → Has own b → Has bs b × (part b.place ≡ k)
  from_own b h =
      let f = from_has-filter (λ (d : BlockMessage). part d.place == k) bs b h in
      (f.0, eqb-true (part b.place) k f.1)

  pub has-own : (b : BlockMessage) → Has bs b → part b.place ≡ k → Has own b
  has-own b h e = has-filter (λ (d : BlockMessage). part d.place == k) bs b h (eq-eqb (part b.place) k e)

  -- a session of the part
  abbrev pub IsOwn : Session → Type 0
  IsOwn s = (b : BlockMessage) × Has own b × (b.session ≡ s)

  pub is_own : (s : Session) → Has (sessions own) s → IsOwn s
  is_own s h = from_has-sessions own s h

  pub its_own : (s : Session) → IsOwn s → Has (sessions own) s
  its_own s i = subst (Has (sessions own)) i.2 (has-sessions own i.0 i.1)

  module _ (whole : SessionsStayWhole part bs) where
    -- each block of a session of the part is of the part
    pub part_is : (s : Session) → IsOwn s → (b : BlockMessage) → Has bs b → b.session ≡ s → part b.place ≡ k
    part_is s i b h e =
        let f = from_own i.0 i.1 in
        whole b i.0 (contains_from_has bs b h) (contains_from_has bs i.0 f.0) (e ∙ sym i.2) ∙ f.1

    pub all_own : (s : Session) → IsOwn s → of_session own s ≡ of_session bs s
    all_own s i =
        filter_within (λ (d : BlockMessage). same_session d.session s) (λ (d : BlockMessage). part d.place == k) bs
        (λ d h e. eq-eqb (part d.place) k (part_is s i d h (session_is d.session s e)))

    module _ (says : Answers) where
      pub own_joined : (s : Session) → IsOwn s → joined says (of_session own s) ≡ joined says (of_session bs s)
      own_joined s i = ap (joined says) (all_own s i)

      pub own_verified : (b : BlockMessage) → Has own b → is_verified says own b ≡ is_verified says bs b
      unfolding is_verified
      own_verified b h = ap (λ r. is_valid_in says r b) (own_joined b.session (b, h, refl))

      -- ---- what is announced

      pub announced_up : (j : Key) (h : Hash) → Announces says own j h → Announces says bs j h
      announced_up j h a =
          let here = has_from_contains own a.message a.stored in
          record {
            message = a.message;
            stored = contains_from_has bs a.message (from_own a.message here).0;
            verified = sym (own_verified a.message here) ∙ a.verified;
            session_is = a.session_is;
            said = a.said;
            says_so = a.says_so;
            group_is = a.group_is;
            index = a.index;
            number = a.number;
            hash = a.hash;
          }

      pub announced_down : (j : Key) (h : Hash) (a : Announces says bs j h) → part a.message.place ≡ k → Announces says own j h
      announced_down j h a at =
          let here = has-own a.message (has_from_contains bs a.message a.stored) at in
          record {
            message = a.message;
            stored = contains_from_has own a.message here;
            verified = own_verified a.message here ∙ a.verified;
            session_is = a.session_is;
            said = a.said;
            says_so = a.says_so;
            group_is = a.group_is;
            index = a.index;
            number = a.number;
            hash = a.hash;
          }

      pub announced_own : (j : Key) (h : Hash) → Announces says own j h → IsOwn j.session
      announced_own j h a = (a.message, has_from_contains own a.message a.stored, a.session_is)

      -- who announces a number of a session of the part is of the part
      pub announcer_is : (j : Key) (h : Hash) → IsOwn j.session → (a : Announces says bs j h) → part a.message.place ≡ k
      announcer_is j h i a = part_is j.session i a.message (has_from_contains bs a.message a.stored) a.session_is

      pub announced_here : (j : Key) (h : Hash) → IsOwn j.session → Announces says bs j h → Announces says own j h
      announced_here j h i a = announced_down j h a (announcer_is j h i a)

      pub has_its_blocks : (s : Session) → IsOwn s → HasItsBlocks says bs own s
      has_its_blocks s i = record {
        joined = own_joined s i;
        verified = λ b h e. own_verified b (has_from_contains own b h);
        announced = λ j h e. (announced_up j h, announced_here j h (subst IsOwn (sym e) i));
      }
