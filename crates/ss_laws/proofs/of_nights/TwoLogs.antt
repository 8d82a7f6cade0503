-- Two full logs of nights that follow one another are a full one together.
use Rattle.std.proofs.Common.{◌≡◌, ◌⊎◌, inl, inr, ℕ, ◌<◌, ◌≤◌, true, List, [], ◌∷◌, ◌++◌, length, map, refl, sym, ap, ◌∙◌, subst, arith}
use Rattle.std.specs.Prelude.{Result, Ok}
use Rattle.std.proofs.lemmas.Bool.{cases_lt}
use Rattle.std.proofs.lemmas.List.{append-nil, map-append}
use Rattle.std.proofs.lemmas.List.Elements.{filter-append}
use Rattle.std.proofs.lemmas.Option.{slice_get_within}
use Rattle.ss_block.specs.declared.block.Group.{Group}
use Rattle.ss_block.specs.declared.hash.Hash.{Hash}
use Rattle.ss_block.specs.declared.session.Session.{Session}
use Rattle.ss_block.specs.ReadingLaws.{BlocksAreInRange}
use Rattle.ss_review.specs.declared.counted.counter.Counter.{Counter}
use Rattle.ss_review.specs.keep.BlockMessage.{BlockMessage}
use Rattle.ss_review.specs.declared.keep.message.NormalMessage.{NormalMessage}
use Rattle.ss_review.specs.declared.report.session_report.SessionState.{SessionState}
use Rattle.ss_review.specs.keep.Notes.{Note, Normal, note, notes}
use Rattle.ss_review.specs.keep.Contents.{Contents, normals, blocks, spoilts, contents}
use Rattle.ss_review.specs.sessions.Sessions.{same_session, of_session}
use Rattle.ss_review.specs.sessions.Verified.{Answers, is_valid, joined, is_valid_in, is_verified}
use Rattle.ss_review.specs.announced.Announced.{Key, Row, rows}
use Rattle.ss_review.specs.announced.Announcing.{Announces, IsAnnounced}
use Rattle.ss_review.specs.assign.Assigned.{has_hash}
use Rattle.ss_review.specs.counted.CountedLaws.{IsCounted}
use Rattle.ss_review.specs.counted.Kept.{kept_number, kept_gbc}
use Rattle.ss_between.specs.Between.{number_at, gbc_at, has_counter}
use Rattle.ss_laws.specs.parts.Parts.{moved_spoilt}
use Rattle.ss_laws.specs.carry.Nights.{AreContents}
use Rattle.ss_octets.proofs.Members.{Has, has_from_contains, contains_from_has, has-map, from_has-map, has-append_left, has-append_right, has-append_cases, from_has-filter}
use Rattle.ss_review.proofs.of_kept_messages.NotesTold.{normal_noted}
use Rattle.ss_review.proofs.of_kept_messages.PlacesRise.{normals_rise}
use Rattle.ss_review.proofs.of_lists.Mapped.{filter-map}
use Rattle.ss_review.proofs.of_numbers.Announcements.{announced_key, has-announced_key}
use Rattle.ss_laws.proofs.of_parts.MovedBlocks.{moved_block, joined_moved}
use Rattle.ss_laws.proofs.of_parts.MovedReports.{moved_normal}
use Rattle.ss_review.proofs.of_sessions.Fragments.{fragment_in}
use Rattle.ss_laws.proofs.of_carry.LeftBlocks.{AreInRange}
use Rattle.ss_laws.proofs.of_carry.NightBlocks.{all_in_range}
use Rattle.ss_laws.proofs.of_carry.AnnouncedNights.{verified_joined}
use Rattle.ss_laws.proofs.of_carry.KeysStay.{hashes_alike}
use Rattle.ss_laws.proofs.of_carry.WholeBearers.{contents_rise}
use Rattle.ss_laws.proofs.of_nights.OnePayload.{joined_both}
use Rattle.ss_laws.proofs.of_nights.LogsTogether.{after, normals_both, blocks_both, spoilts_both}
use Rattle.ss_laws.proofs.of_nights.Listings as listings
use Rattle.ss_laws.proofs.of_nights.FullNights.{IsIdle, IsFull}
use Rattle.ss_review.proofs.of_pinned.KeptOfSessions.{session_is}

-- a block is verified where its session is joined under the payload under which it was verified before
verified_as : (says : Answers) (bs cs : List BlockMessage) (b c : BlockMessage) (payload : List ℕ) → joined says (of_session bs b.session) ≡ Ok payload → joined says (of_session cs c.session) ≡ Ok payload
    → is_valid says payload c ≡ is_valid says payload b → is_verified says bs b ≡ true → is_verified says cs c ≡ true
unfolding is_verified
verified_as says bs cs b c payload e f same v =
    ap (λ r. is_valid_in says r c) f ∙ same ∙ sym (ap (λ r. is_valid_in says r b) e) ∙ v

pub same_ok : (r : Result (List ℕ) SessionState) (x y : List ℕ) → r ≡ Ok x → r ≡ Ok y → x ≡ y
same_ok r x y e f = cc

module _ (range : BlocksAreInRange) (says : Answers) (first middle end : List Counter) (log next : List (List ℕ)) where
  abbrev ms : List Note
  ms = notes log

  abbrev ns : List Note
  ns = notes next

  abbrev xs : List BlockMessage
  xs = blocks ms

  abbrev ys : List BlockMessage
  ys = blocks ns

  abbrev move : BlockMessage → BlockMessage
  move = moved_block (after ms)

  abbrev pub both_blocks : List BlockMessage
  both_blocks = xs ++ map move ys

  abbrev pub whole : Contents
  whole = record {
    normal = normals ms ++ map (moved_normal (after ms)) (normals ns);
    blocks = both_blocks;
    spoilt = spoilts ms ++ map (moved_spoilt (after ms)) (spoilts ns);
    count = length (ms ++ ns);
  }

  pub same_whole : contents (notes (log ++ next)) ≡ whole
  same_whole =
      ap contents (map-append note log next)
      ∙ (λ i. record { normal = normals_both ms ns i; blocks = blocks_both ms ns i; spoilt = spoilts_both ms ns i; count = length (ms ++ ns) })

  are : AreContents whole
  are = (log ++ next, sym same_whole)

  ranges : AreInRange both_blocks
  ranges = all_in_range range whole are

  module _ (full : IsFull says (contents ms) first middle) (more : IsFull says (contents ns) middle end)
      (one_payload : (x y : BlockMessage) → Has xs x → Has ys y → x.session ≡ y.session → (payload other : List ℕ) → joined says (of_session xs x.session) ≡ Ok payload → joined says (of_session ys y.session) ≡ Ok other → payload ≡ other)
      (one_pair : (m n : NormalMessage) (h : Hash) → Has whole.normal m → Has whole.normal n → has_hash h m.pair ≡ true → has_hash h n.pair ≡ true → m.pair ≡ n.pair) where
    -- ---- sessions

    sections : (s : Session) → of_session both_blocks s ≡ of_session xs s ++ of_session (map move ys) s
    sections s = filter-append (λ (b : BlockMessage). same_session b.session s) xs (map move ys)

    section_ranges : (s : Session) → AreInRange (of_session xs s ++ of_session (map move ys) s)
    section_ranges s c f =
        let h : Has both_blocks f.message = (from_has-filter (λ (b : BlockMessage). same_session b.session s) both_blocks f.message (subst (λ bs. Has bs f.message) (sym (sections s)) f.stored)).0 in
        ranges c (fragment_in (of_session xs s ++ of_session (map move ys) s) both_blocks c f h)

    moved_section : (s : Session) → of_session (map move ys) s ≡ map move (of_session ys s)
    moved_section s = filter-map (λ (b : BlockMessage). same_session b.session s) move ys

    at_session : (bs : List BlockMessage) (s q : Session) (payload : List ℕ) → s ≡ q → joined says (of_session bs s) ≡ Ok payload → joined says (of_session bs q) ≡ Ok payload
    at_session bs s q payload same e = subst (λ (r : Session). joined says (of_session bs r) ≡ Ok payload) same e

    pub joined_first : (x : BlockMessage) → Has xs x → (payload : List ℕ) → joined says (of_session xs x.session) ≡ Ok payload → joined says (of_session both_blocks x.session) ≡ Ok payload
    joined_first x h payload e = ap (joined says) (sections x.session) ∙ at (of_session ys x.session) refl
      where
        at : (zs : List BlockMessage) → of_session ys x.session ≡ zs → joined says (of_session xs x.session ++ of_session (map move ys) x.session) ≡ Ok payload
        at [] none =
            let nothing : of_session (map move ys) x.session ≡ [] = moved_section x.session ∙ ap (map move) none in
            ap (λ zs. joined says (of_session xs x.session ++ zs)) nothing ∙ ap (joined says) (append-nil (of_session xs x.session)) ∙ e
        at (y ∷ zs) some =
            let i = from_has-filter (λ (b : BlockMessage). same_session b.session x.session) ys y (subst (λ bs. Has bs y) (sym some) (inl refl)) in
            let same : y.session ≡ x.session = session_is y.session x.session i.1 in
            let j = verified_joined says ys y (more.verified y i.0) in
            let payloads : payload ≡ j.0 = one_payload x y h i.0 (sym same) payload j.0 e j.1 in
            joined_both says (of_session xs x.session) (of_session (map move ys) x.session) payload (section_ranges x.session) e
            (joined_moved (after ms) says ys x.session ∙ at_session ys y.session x.session j.0 same j.1 ∙ ap (λ (p : List ℕ). Ok p) (sym payloads))

    pub joined_second : (y : BlockMessage) → Has ys y → (payload : List ℕ) → joined says (of_session ys y.session) ≡ Ok payload → joined says (of_session both_blocks y.session) ≡ Ok payload
    joined_second y h payload e = ap (joined says) (sections y.session) ∙ at (of_session xs y.session) refl
      where
        moved : joined says (of_session (map move ys) y.session) ≡ Ok payload
        moved = joined_moved (after ms) says ys y.session ∙ e

        at : (zs : List BlockMessage) → of_session xs y.session ≡ zs → joined says (of_session xs y.session ++ of_session (map move ys) y.session) ≡ Ok payload
        at [] none = ap (λ zs. joined says (zs ++ of_session (map move ys) y.session)) none ∙ moved
        at (x ∷ zs) some =
            let i = from_has-filter (λ (b : BlockMessage). same_session b.session y.session) xs x (subst (λ bs. Has bs x) (sym some) (inl refl)) in
            let same : x.session ≡ y.session = session_is x.session y.session i.1 in
            let j = verified_joined says xs x (full.verified x i.0) in
            let payloads : j.0 ≡ payload = one_payload x y i.0 h same j.0 payload j.1 e in
            joined_both says (of_session xs y.session) (of_session (map move ys) y.session) payload (section_ranges y.session)
            (at_session xs x.session y.session j.0 same j.1 ∙ ap (λ (p : List ℕ). Ok p) payloads) moved

    verified_first : (x : BlockMessage) → Has xs x → is_verified says both_blocks x ≡ true
    verified_first x h =
        let v = full.verified x h in
        let j = verified_joined says xs x v in
        verified_as says xs both_blocks x x j.0 j.1 (joined_first x h j.0 j.1) refl v

    verified_second : (y : BlockMessage) → Has ys y → is_verified says both_blocks (move y) ≡ true
    verified_second y h =
        let v = more.verified y h in
        let j = verified_joined says ys y v in
        verified_as says ys both_blocks y (move y) j.0 j.1 (joined_second y h j.0 j.1) refl v

    -- a block of both is one of the first, or that of one of the second at its place in both
    pub block_cases : (b : BlockMessage) → Has both_blocks b → Has xs b ⊎ ((y : BlockMessage) × Has ys y × (move y ≡ b))
    block_cases b h =
        elim (has-append_cases xs (map move ys) b h) [
          | inl i ↦ inl i
          | inr i ↦ inr (from_has-map move ys b i)
        ]

    has_first : (x : BlockMessage) → Has xs x → Has both_blocks x
    has_first x h = has-append_left xs (map move ys) x h

    has_second : (y : BlockMessage) → Has ys y → Has both_blocks (move y)
    has_second y h = has-append_right xs (map move ys) (move y) (has-map move ys y h)

    all_verified : (b : BlockMessage) → Has both_blocks b → is_verified says both_blocks b ≡ true
    all_verified b h =
        elim (block_cases b h) [
          | inl i ↦ verified_first b i
          | inr w ↦ subst (λ (z : BlockMessage). is_verified says both_blocks z ≡ true) w.2 (verified_second w.0 w.1)
        ]

    -- ---- numbers

    announced_first : (k : Key) (h : Hash) → Announces says xs k h → Announces says both_blocks k h
    announced_first k h a =
        let i = has_from_contains xs a.message a.stored in
        record {
          message = a.message;
          stored = contains_from_has both_blocks a.message (has_first a.message i);
          verified = verified_first a.message i;
          session_is = a.session_is;
          said = a.said;
          says_so = a.says_so;
          group_is = a.group_is;
          index = a.index;
          number = a.number;
          hash = a.hash;
        }

    announced_second : (k : Key) (h : Hash) → Announces says ys k h → Announces says both_blocks k h
    announced_second k h a =
        let i = has_from_contains ys a.message a.stored in
        record {
          message = move a.message;
          stored = contains_from_has both_blocks (move a.message) (has_second a.message i);
          verified = verified_second a.message i;
          session_is = a.session_is;
          said = a.said;
          says_so = a.says_so;
          group_is = a.group_is;
          index = a.index;
          number = a.number;
          hash = a.hash;
        }

    announced_cases : (k : Key) (h : Hash) → Announces says both_blocks k h → Announces says xs k h ⊎ Announces says ys k h
    announced_cases k h a =
        elim (block_cases a.message (has_from_contains both_blocks a.message a.stored)) [
          | inl i ↦ inl (record {
            message = a.message;
            stored = contains_from_has xs a.message i;
            verified = full.verified a.message i;
            session_is = a.session_is;
            said = a.said;
            says_so = a.says_so;
            group_is = a.group_is;
            index = a.index;
            number = a.number;
            hash = a.hash;
          })
          | inr w ↦ inr (record {
            message = w.0;
            stored = contains_from_has ys w.0 w.1;
            verified = more.verified w.0 w.1;
            session_is = ap (λ (b : BlockMessage). b.session) w.2 ∙ a.session_is;
            said = a.said;
            says_so = ap (λ (b : BlockMessage). b.said) w.2 ∙ a.says_so;
            group_is = a.group_is;
            index = a.index;
            number = a.number;
            hash = a.hash;
          })
        ]

    never_both : (k : Key) → IsAnnounced says xs k → IsAnnounced says ys k → ⊥
    never_both k a b =
        let high = full.high k a in
        let low = more.low k b in
        omega (arith, high, low)

    number_cases : (k : Key) → IsAnnounced says both_blocks k → IsAnnounced says xs k ⊎ IsAnnounced says ys k
    number_cases k a = elim (announced_cases k a.0 a.1) [ inl i ↦ inl (a.0, i) | inr i ↦ inr (a.0, i) ]

    hashes_of_first : (k : Key) → IsAnnounced says xs k → (h : Hash) → Announces says both_blocks k h → Announces says xs k h
    hashes_of_first k a h b = elim (announced_cases k h b) [ inl i ↦ i | inr i ↦ absurd (never_both k a (h, i)) ]

    hashes_of_second : (k : Key) → IsAnnounced says ys k → (h : Hash) → Announces says both_blocks k h → Announces says ys k h
    hashes_of_second k a h b = elim (announced_cases k h b) [ inl i ↦ absurd (never_both k (h, i) a) | inr i ↦ i ]

    abbrev rx : List Row
    rx = rows says xs

    abbrev ry : List Row
    ry = rows says ys

    abbrev rw : List Row
    rw = rows says both_blocks

    stands_before : (m n : NormalMessage) → Has (normals ms) m → Has (normals ns) n → m.place ≡ after ms n.place → ⊥
    stands_before m n h i e =
        let within = slice_get_within ms m.place (Normal m.pair) (normal_noted ms m h) in
        omega (arith, within, e)

    are_listed : listings.AreListed (after ms) (normals ms) (normals ns) rx ry rw
    are_listed = record {
      up = contents_rise whole are;
      up_first = normals_rise ms;
      up_second = normals_rise ns;
      moves_apart = λ p q e. omega (arith, e);
      apart = stands_before;
      key_cases = λ k h. elim (number_cases k (announced_key says both_blocks k h)) [
        | inl a ↦ inl (has-announced_key says xs k a)
        | inr a ↦ inr (has-announced_key says ys k a)
      ];
      key_first = λ k h. (let a = announced_key says xs k h in has-announced_key says both_blocks k (a.0, announced_first k a.0 a.1));
      key_second = λ k h. (let a = announced_key says ys k h in has-announced_key says both_blocks k (a.0, announced_second k a.0 a.1));
      never_both = λ k h i. never_both k (announced_key says xs k h) (announced_key says ys k i);
      hashes_first = λ k i. hashes_alike says both_blocks xs k (λ h. (hashes_of_first k (announced_key says xs k i) h, announced_first k h));
      hashes_second = λ k i. hashes_alike says both_blocks ys k (λ h. (hashes_of_second k (announced_key says ys k i) h, announced_second k h));
      one_pair = one_pair;
      listed_first = λ k h. full.listed k (announced_key says xs k h);
      listed_second = λ k h. more.listed k (announced_key says ys k h);
      taken_first = full.taken;
      taken_second = more.taken;
    }

    both_low : (k : Key) → IsAnnounced says both_blocks k → number_at first k.session k.group ≤ k.number
    both_low k a =
        elim (number_cases k a) [
          | inl i ↦ full.low k i
          | inr i ↦ (
              let low = more.low k i in
              let rise = full.rise k.session k.group in
              omega (arith, low, rise))
        ]

    both_high : (k : Key) → IsAnnounced says both_blocks k → k.number < kept_number end k.session k.group
    both_high k a =
        elim (number_cases k a) [
          | inl i ↦ (
              let high = full.high k i in
              let rise = more.rise k.session k.group in
              omega (arith, high, rise))
          | inr i ↦ more.high k i
        ]

    both_all : (k : Key) → number_at first k.session k.group ≤ k.number → k.number < kept_number end k.session k.group → IsAnnounced says both_blocks k
    both_all k low high =
        elim (cases_lt k.number (kept_number middle k.session k.group)) [
          | inl less ↦ (let a = full.all k low less in (a.0, announced_first k a.0 a.1))
          | inr least ↦ (let a = more.all k (omega (arith, low, least)) high in (a.0, announced_second k a.0 a.1))
        ]

    -- ---- signature blocks

    counted_first : (s : Session) (gbc : ℕ) → IsCounted says xs s gbc → IsCounted says both_blocks s gbc
    counted_first s gbc c =
        let i = has_from_contains xs c.message c.stored in
        record {
          message = c.message;
          stored = contains_from_has both_blocks c.message (has_first c.message i);
          session_is = c.session_is;
          verified = verified_first c.message i;
          said = c.said;
          says_so = c.says_so;
          gbc_is = c.gbc_is;
        }

    counted_second : (s : Session) (gbc : ℕ) → IsCounted says ys s gbc → IsCounted says both_blocks s gbc
    counted_second s gbc c =
        let i = has_from_contains ys c.message c.stored in
        record {
          message = move c.message;
          stored = contains_from_has both_blocks (move c.message) (has_second c.message i);
          session_is = c.session_is;
          verified = verified_second c.message i;
          said = c.said;
          says_so = c.says_so;
          gbc_is = c.gbc_is;
        }

    counted_cases : (s : Session) (gbc : ℕ) → IsCounted says both_blocks s gbc → IsCounted says xs s gbc ⊎ IsCounted says ys s gbc
    counted_cases s gbc c =
        elim (block_cases c.message (has_from_contains both_blocks c.message c.stored)) [
          | inl i ↦ inl (record {
            message = c.message;
            stored = contains_from_has xs c.message i;
            session_is = c.session_is;
            verified = full.verified c.message i;
            said = c.said;
            says_so = c.says_so;
            gbc_is = c.gbc_is;
          })
          | inr w ↦ inr (record {
            message = w.0;
            stored = contains_from_has ys w.0 w.1;
            session_is = ap (λ (b : BlockMessage). b.session) w.2 ∙ c.session_is;
            verified = more.verified w.0 w.1;
            said = c.said;
            says_so = ap (λ (b : BlockMessage). b.said) w.2 ∙ c.says_so;
            gbc_is = c.gbc_is;
          })
        ]

    both_counted : (s : Session) (gbc : ℕ) → gbc_at first s ≤ gbc → gbc < kept_gbc end s → IsCounted says both_blocks s gbc
    both_counted s gbc low high =
        elim (cases_lt gbc (kept_gbc middle s)) [
          | inl less ↦ counted_first s gbc (full.counted s gbc low less)
          | inr least ↦ counted_second s gbc (more.counted s gbc least high)
        ]

    both_counted_below : (s : Session) (gbc more_gbc : ℕ) → gbc_at first s ≤ gbc → gbc < more_gbc → IsCounted says both_blocks s more_gbc → IsCounted says both_blocks s gbc
    both_counted_below s gbc more_gbc low less c =
        elim (counted_cases s more_gbc c) [
          | inl i ↦ counted_first s gbc (full.counted_below s gbc more_gbc low less i)
          | inr i ↦ (elim (cases_lt gbc (kept_gbc middle s)) [
            | inl early ↦ counted_first s gbc (full.counted s gbc low early)
            | inr least ↦ counted_second s gbc (more.counted_below s gbc more_gbc least less i)
          ])
        ]

    both_idle : (s : Session) → has_counter end s ≡ true → ((b : BlockMessage) → Has both_blocks b → b.session ≡ s → ⊥) → IsIdle first end s
    both_idle s has none =
        let late = more.idle s has (λ y h e. none (move y) (has_second y h) e) in
        let early = full.idle s late.begun (λ x h e. none x (has_first x h) e) in
        record {
          begun = early.begun;
          numbers = λ g. (let a = early.numbers g in let b = late.numbers g in omega (arith, a, b));
          gbc = (let a = early.gbc in let b = late.gbc in omega (arith, a, b));
        }

    both_rise : (s : Session) (g : Group) → kept_number first s g ≤ kept_number end s g
    both_rise s g =
        let a = full.rise s g in
        let b = more.rise s g in
        omega (arith, a, b)

    pub full_both : IsFull says whole first end
    full_both = record {
      verified = all_verified;
      low = both_low;
      high = both_high;
      all = both_all;
      listed = λ k a. listings.all_listed (after ms) (normals ms) (normals ns) rx ry rw are_listed k (has-announced_key says both_blocks k a);
      taken = listings.all_messages (after ms) (normals ms) (normals ns) rx ry rw are_listed;
      unspoilt = λ i. full.unspoilt i ++ map (moved_spoilt (after ms)) (more.unspoilt i);
      counted = both_counted;
      counted_below = both_counted_below;
      idle = both_idle;
      rise = both_rise;
    }
