-- A line is the text of one counter.
use Rattle.std.proofs.Common.{◌≡◌, inl, ℕ, ◌≤◌, codes, List, [], ◌++◌, sym, refl, ap, ◌∙◌, arith, append_assoc}
use Rattle.std.specs.Fmt.{decimal}
use Rattle.ss_octets.specs.Ascii.{lf}
use Rattle.ss_message.specs.declared.draft.Field.{Field}
use Rattle.ss_octets.proofs.Base64Text.{Clear, Clear-append}
use Rattle.ss_block.specs.declared.session.Session.{Session}
use Rattle.ss_review.specs.declared.counted.counter.Counter.{Counter}
use Rattle.ss_review.specs.declared.counted.counter.Counts.{Counts}
use Rattle.ss_review.specs.declared.counted.counter.Counts.TheVariants.{Blocks, Messages}
use Rattle.ss_review.specs.counted.CounterRange.{IsCounter, IsName, IsNext, IsSession}
use Rattle.ss_review.specs.counted.CounterText.{counter_line, counter_text, field_word, session_words}
use Rattle.ss_answers.specs.CounterLine.{BeginsWithNoSession, BeginsWithSession, IsNoCounter, SpellsCounter, SpellsNext, SpellsNoNext, next_text, session_text}
use Rattle.ss_answers.proofs.CounterWords.{Clear-decimal, Clear-text, is_text-word, next_once, session_once}

-- a line by its words, one after the other
regroup : (c q h a p r n : List ℕ) → c ++ (q ++ h ++ q ++ a ++ q ++ p ++ (q ++ r)) ++ (q ++ n) ≡ c ++ (q ++ (h ++ (q ++ (a ++ (q ++ (p ++ (q ++ (r ++ (q ++ n)))))))))
regroup c q h a p r n = simp append_assoc

regroup_group : (c q w sg spri n : List ℕ) → c ++ w ++ (q ++ sg ++ (q ++ spri)) ++ (q ++ n) ≡ c ++ w ++ (q ++ (sg ++ (q ++ (spri ++ (q ++ n)))))
regroup_group c q w sg spri n = simp append_assoc

text_cut : (s : Session) (counts : Counts) (next : ℕ) → counter_text s counts next ≡ codes "count " ++ session_text s (next_text counts next)
text_cut s Blocks next =
    regroup (codes "count") (codes " ") (field_word s.host) (field_word s.app) (field_word s.procid) (decimal s.rsid) (decimal next)
text_cut s (Messages g) next =
    regroup_group (codes "count") (codes " ") (session_words s) (decimal g.sg) (decimal g.spri) (decimal next)
    ∙ regroup (codes "count") (codes " ") (field_word s.host) (field_word s.app) (field_word s.procid) (decimal s.rsid) (next_text (Messages g) next)

pub line_cut : (c : Counter) → counter_line c ≡ codes "count " ++ session_text c.session (next_text c.counts c.next)
line_cut c = text_cut c.session c.counts c.next

stripped : (a b : List ℕ) → codes "count " ++ a ≡ codes "count " ++ b → a ≡ b
stripped a b e = cc

pub spells_counter : {text fields rest : List ℕ} {s : Session} {counts : Counts} {next : ℕ} → text ≡ codes "count " ++ fields
    → BeginsWithSession fields s rest → SpellsNext rest counts next
    → SpellsCounter text (record { session = s; counts = counts; next = next })
spells_counter {text} {fields} {rest} {s} {counts} {next} e b n =
    record {
      counter = record { session = b.session; next = n.in_range };
      spelt = e ∙ ap (λ t. codes "count " ++ t) (b.spelt ∙ ap (session_text s) n.spelt) ∙ sym (text_cut s counts next);
    }

-- what the line of a counter has after its first word
session_of : {text fields : List ℕ} → text ≡ codes "count " ++ fields → (c : Counter) → IsCounter c → text ≡ counter_line c
    → BeginsWithSession fields c.session (next_text c.counts c.next)
session_of {text} {fields} e c good spelt =
    record { session = good.session; spelt = stripped fields _ (sym e ∙ spelt ∙ line_cut c) }

pub no_session : (text fields : List ℕ) → text ≡ codes "count " ++ fields → BeginsWithNoSession fields → IsNoCounter text
no_session text fields e none = λ c good spelt. none c.session _ (session_of e c good spelt)

pub no_counts : {text fields rest : List ℕ} {s : Session} → text ≡ codes "count " ++ fields → BeginsWithSession fields s rest → SpellsNoNext rest
    → IsNoCounter text
no_counts e b none = λ c good spelt.
    none c.counts c.next (record { in_range = good.next; spelt = (session_once b (session_of e c good spelt)).1 })

pub no_count : (text : List ℕ) → ((fields : List ℕ) → text ≡ codes "count " ++ fields → ⊥) → IsNoCounter text
no_count text none = λ c good spelt. none _ (spelt ∙ line_cut c)

-- ---- laws

Clear-word : (limit : ℕ) (f : Field) → 1 ≤ limit → IsName limit f → Clear lf (field_word f)
Clear-word limit f some h = Clear-text lf limit (field_word f) (omega arith) (is_text-word limit f some h)

Clear-session : (s : Session) (rest : List ℕ) → IsSession s → Clear lf rest → Clear lf (session_text s rest)
Clear-session s rest h k =
    let high = h.rsid in
    Clear-append lf (field_word s.host) _ (Clear-word 255 s.host (omega arith) h.host) (
      refl,
      Clear-append lf (field_word s.app) _ (Clear-word 48 s.app (omega arith) h.app) (
        refl,
        Clear-append lf (field_word s.procid) _ (Clear-word 128 s.procid (omega arith) h.procid)
            (refl, Clear-append lf (decimal s.rsid) _ (Clear-decimal lf s.rsid (omega arith) (omega arith)) (refl, k)),
      ),
    )

Clear-next : (counts : Counts) (next : ℕ) → IsNext counts next → Clear lf (next_text counts next)
Clear-next Blocks next h = Clear-decimal lf next (omega arith) (omega arith)
Clear-next (Messages g) next h =
    let sg = h.0.sg in
    let spri = h.0.spri in
    let high = h.2 in
    Clear-append lf (decimal g.sg) _ (Clear-decimal lf g.sg (omega arith) (omega arith))
    (refl, Clear-append lf (decimal g.spri) _ (Clear-decimal lf g.spri (omega arith) (omega arith)) (refl, Clear-decimal lf next (omega arith) (omega arith)))

pub Clear-line : (c : Counter) → IsCounter c → Clear lf (counter_line c)
Clear-line c h =
    rw (line_cut c) (Clear-append lf (codes "count ") _ (refl, (refl, (refl, (refl, (refl, (refl, tt))))))
    (Clear-session c.session _ h.session (Clear-next c.counts c.next h.next)))

same_counter : (a b : Counter) → a.session ≡ b.session → a.counts ≡ b.counts → a.next ≡ b.next → a ≡ b
same_counter a b session counts next =
    ap (λ s. record { session = s; counts = a.counts; next = a.next }) session
    ∙ (ap (λ c. record { session = b.session; counts = c; next = a.next }) counts ∙ ap (λ n. record { session = b.session; counts = b.counts; next = n }) next)

pub line-injective : (a b : Counter) → IsCounter a → IsCounter b → counter_line a ≡ counter_line b → a ≡ b
line-injective a b h k e =
    let one = session_of (line_cut a) a h refl in
    let two = session_of (line_cut a) b k e in
    let sessions = session_once one two in
    let nexts = next_once a.counts b.counts (record { in_range = h.next; spelt = refl }) (record { in_range = k.next; spelt = sessions.1 }) in
    same_counter a b sessions.0 nexts.0 nexts.1
