-- What is asked needs no more of a block than its session, its fragment, and what is asked about it.
use Rattle.std.proofs.Common.{◌≡◌, ℕ, Bool, true, false, cond, ◌&&◌, not, List, [], ◌∷◌, ◌++◌, length, map, refl, sym, ap, ◌∙◌}
use Rattle.std.specs.Prelude.{Option, Result, Ok, Err, filter}
use Rattle.std.specs.List.{flat_map, filter_map, cons_option}
use Rattle.std.proofs.lemmas.Simd.{map-map}
use Rattle.ss_block.specs.Block as block
use Rattle.ss_block.specs.Order.{session_cmp}
use Rattle.ss_block.specs.declared.session.Session.{Session}
use Rattle.ss_review.specs.declared.report.session_report.SessionState.{SessionState}
use Rattle.ss_review.specs.declared.questions.asked.AskedBlock.{AskedBlock}
use Rattle.ss_review.specs.declared.questions.asked.AskedSession.{AskedSession}
use Rattle.ss_review.specs.keep.BlockMessage.{BlockMessage, BlockContent, Hashes, Fragment}
use Rattle.ss_review.specs.Ordered.{in_order}
use Rattle.ss_review.specs.sessions.Sessions.{same_session, sessions, of_session}
use Rattle.ss_review.specs.sessions.Payloads.{certificate_of, certificates, cover, is_payload, stated_payload}
use Rattle.ss_review.specs.pinned.Pinned.{agrees, agrees_in, is_candidate, is_stated, pinned_sessions, session_pinned}
use Rattle.ss_review.specs.questions.Questions.{asked_session, asked_sessions, Needed, needed}

filter_at : {X Y : Type 0} (p : Y → Bool) (f : X → Y) (x : X) (xs : List X) (b : Bool) → p (f x) ≡ b → filter p (map f xs) ≡ map f (filter (λ y. p (f y)) xs)
    → filter p (map f (x ∷ xs)) ≡ map f (filter (λ y. p (f y)) (x ∷ xs))
filter_at p f x xs true e rest =
    ap (λ c. cond c (f x ∷ filter p (map f xs)) (filter p (map f xs))) e
    ∙ ap (λ ys. f x ∷ ys) rest
    ∙ ap (λ c. map f (cond c (x ∷ filter (λ y. p (f y)) xs) (filter (λ y. p (f y)) xs))) (sym e)
filter_at p f x xs false e rest =
    ap (λ c. cond c (f x ∷ filter p (map f xs)) (filter p (map f xs))) e
    ∙ rest
    ∙ ap (λ c. map f (cond c (x ∷ filter (λ y. p (f y)) xs) (filter (λ y. p (f y)) xs))) (sym e)

filter-map : {X Y : Type 0} (p : Y → Bool) (f : X → Y) (xs : List X) → filter p (map f xs) ≡ map f (filter (λ x. p (f x)) xs)
filter-map p f [] = refl
filter-map p f (x ∷ xs) = filter_at p f x xs (p (f x)) refl (filter-map p f xs)

filter_map-map : {X Y Z : Type 0} (h : Y → Option Z) (f : X → Y) (xs : List X) → filter_map h (map f xs) ≡ filter_map (λ x. h (f x)) xs
filter_map-map h f [] = refl
filter_map-map h f (x ∷ xs) = ap (cons_option (h (f x))) (filter_map-map h f xs)

-- ---- what is asked, by what is needed of the blocks

abbrev needed_of : List Needed → Session → List Needed
needed_of ns s = filter (λ n. same_session n.session s) ns

abbrev session_by : Session → List Needed → Result (List ℕ) SessionState → List AskedSession
session_by s ns (Err state) = []
session_by s ns (Ok payload) = record { session = s; payload = payload; blocks = map (λ n. n.asked) ns } ∷ []

abbrev section_by : Session → List Needed → List AskedSession
section_by s ns = session_by s ns (stated_payload (filter_map (λ n. n.certificate) ns))

abbrev sessions_by : List Needed → List AskedSession
sessions_by ns = flat_map (λ s. section_by s (needed_of ns s)) (in_order session_cmp (map (λ n. n.session) ns))

session_needed : (s : Session) (bs : List BlockMessage) (r : Result (List ℕ) SessionState) → asked_session s bs r ≡ session_by s (map needed bs) r
session_needed s bs (Err state) = refl
session_needed s bs (Ok payload) =
    let told : List AskedBlock → List AskedSession = λ blocks. record { session = s; payload = payload; blocks = blocks } ∷ [] in
    ap told (sym (map-map (λ (n : Needed). n.asked) needed bs))

section_needed : (s : Session) (bs : List BlockMessage) → asked_session s bs (stated_payload (certificates bs)) ≡ section_by s (map needed bs)
section_needed s bs =
    session_needed s bs (stated_payload (certificates bs))
    ∙ ap (λ cs. session_by s (map needed bs) (stated_payload cs)) (sym (filter_map-map (λ (n : Needed). n.certificate) needed bs))

sessions_are : (bs : List BlockMessage) → asked_sessions bs ≡ sessions_by (map needed bs)
unfolding asked_sessions
sessions_are bs =
    (λ i. flat_map (λ s. each s i) (sessions bs))
    ∙ ap (λ ss. flat_map (λ s. section_by s (needed_of (map needed bs) s)) (in_order session_cmp ss)) (sym (map-map (λ (n : Needed). n.session) needed bs))
  where
    each : (s : Session) → asked_session s (of_session bs s) (stated_payload (certificates (of_session bs s))) ≡ section_by s (needed_of (map needed bs) s)
    each s = section_needed s (of_session bs s) ∙ ap (section_by s) (sym (filter-map (λ (n : Needed). same_session n.session s) needed bs))

-- ---- the same where payloads are known

-- the certificates of the blocks that agree
agreed_in : (p : List ℕ) (b : BlockMessage) (c : block.Certificate) (v : Bool) → b.said ≡ Fragment c → (bs : List BlockMessage) (cs : List block.Certificate) → certificates bs ≡ filter (agrees p) cs
    → certificates (cond v (b ∷ bs) bs) ≡ cond v (c ∷ filter (agrees p) cs) (filter (agrees p) cs)
agreed_in p b c true e bs cs rest = ap (λ s. cons_option (certificate_of s) (certificates bs)) e ∙ ap (λ ds. c ∷ ds) rest
agreed_in p b c false e bs cs rest = rest

agreed_at : (p : List ℕ) (b : BlockMessage) (said : BlockContent) → b.said ≡ said → (bs : List BlockMessage) (cs : List block.Certificate) → certificates bs ≡ filter (agrees p) cs
    → certificates (cond (agrees_in p said) (b ∷ bs) bs) ≡ filter (agrees p) (cons_option (certificate_of said) cs)
agreed_at p b (Hashes d) e bs cs rest = rest
agreed_at p b (Fragment c) e bs cs rest = agreed_in p b c (agrees p c) e bs cs rest

agreed : (p : List ℕ) (bs : List BlockMessage) → certificates (filter (λ b. agrees_in p b.said) bs) ≡ filter (agrees p) (certificates bs)
agreed p [] = refl
agreed p (b ∷ bs) = agreed_at p b b.said refl (filter (λ d. agrees_in p d.said) bs) (certificates bs) (agreed p bs)

abbrev candidate_by : List block.Certificate → List ℕ → Bool
candidate_by cs p = is_payload p && not (is_stated p (stated_payload cs)) && cover (filter (agrees p) cs) (length p)

abbrev pinned_by : List (List ℕ) → Session → List Needed → List block.Certificate → List AskedSession
pinned_by ps s ns cs = session_by s ns (stated_payload cs) ++ flat_map (λ p. session_by s ns (Ok p)) (filter (candidate_by cs) ps)

abbrev pinned_sessions_by : List (List ℕ) → List Needed → List AskedSession
pinned_sessions_by ps ns =
    flat_map (λ s. pinned_by ps s (needed_of ns s) (filter_map (λ n. n.certificate) (needed_of ns s))) (in_order session_cmp (map (λ n. n.session) ns))

pinned_needed : (ps : List (List ℕ)) (s : Session) (bs : List BlockMessage) → session_pinned ps s bs ≡ pinned_by ps s (map needed bs) (filter_map (λ n. n.certificate) (map needed bs))
pinned_needed ps s bs =
    (λ i. session_needed s bs (stated_payload (certificates bs)) i ++ flat_map (λ p. session_needed s bs (Ok p) i) (filter (λ p. candidate p i) ps))
    ∙ ap (pinned_by ps s (map needed bs)) (sym (filter_map-map (λ (n : Needed). n.certificate) needed bs))
  where
    candidate : (p : List ℕ) → is_candidate bs p ≡ candidate_by (certificates bs) p
    candidate p = ap (λ cs. is_payload p && not (is_stated p (stated_payload (certificates bs))) && cover cs (length p)) (agreed p bs)

pinned_are : (ps : List (List ℕ)) (bs : List BlockMessage) → pinned_sessions ps bs ≡ pinned_sessions_by ps (map needed bs)
unfolding pinned_sessions
pinned_are ps bs =
    (λ i. flat_map (λ s. each s i) (sessions bs))
    ∙ ap (λ ss. flat_map (λ s. pinned_by ps s (needed_of (map needed bs) s) (filter_map (λ n. n.certificate) (needed_of (map needed bs) s))) (in_order session_cmp ss)) (sym (map-map (λ (n : Needed). n.session) needed bs))
  where
    each : (s : Session) → session_pinned ps s (of_session bs s) ≡ pinned_by ps s (needed_of (map needed bs) s) (filter_map (λ n. n.certificate) (needed_of (map needed bs) s))
    each s =
        pinned_needed ps s (of_session bs s)
        ∙ ap (λ ns. pinned_by ps s ns (filter_map (λ n. n.certificate) ns)) (sym (filter-map (λ (n : Needed). same_session n.session s) needed bs))

pub same_pinned : (ps : List (List ℕ)) (bs ds : List BlockMessage) → map needed bs ≡ map needed ds → pinned_sessions ps bs ≡ pinned_sessions ps ds
same_pinned ps bs ds e = pinned_are ps bs ∙ ap (pinned_sessions_by ps) e ∙ sym (pinned_are ps ds)

-- ---- without any

-- blocks of which the same is needed are asked about alike
pub same_sessions : (bs ds : List BlockMessage) → map needed bs ≡ map needed ds → asked_sessions bs ≡ asked_sessions ds
same_sessions bs ds e = sessions_are bs ∙ ap sessions_by e ∙ sym (sessions_are ds)
