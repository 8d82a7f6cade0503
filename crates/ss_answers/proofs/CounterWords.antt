-- The words of a counter: what each spells, and that a text has them in one way.
use Rattle.std.proofs.Common.{◌≡◌, ℕ, ◌<◌, ◌≤◌, ◌^◌, Bool, true, false, cond, eqb, codes, List, [], ◌∷◌, ◌++◌, Some, None, sym, refl, ap, ◌∙◌, arith}
use Rattle.std.specs.Fmt.{decimal}
use Rattle.std.specs.List.{list_all}
use Rattle.std.proofs.lemmas.Bool.{and_parts, eqb-true, le-leb}
use Rattle.std.proofs.lemmas.Bool.Decides.{nat_tests}
use Rattle.std.proofs.lemmas.Fmt.{decimal_by_steps}
use Rattle.std.proofs.lemmas.List.Elements.{All-from_recursion, recursion_from_All}
use Rattle.ss_octets.specs.Ascii.{dash, sp}
use Rattle.ss_message.specs.declared.draft.Field.{Field}
use Rattle.ss_message.specs.declared.draft.Field.TheVariants.{Nil, Text}
use Rattle.ss_message.specs.Octets.{is_absent, is_printable, is_text}
use Rattle.ss_block.specs.declared.block.Group.{Group}
use Rattle.ss_block.specs.declared.session.Session.{Session}
use Rattle.ss_octets.specs.Number.{is_number, number, number_in}
use Rattle.ss_block.specs.Ranges.{last_number, past_last_number}
use Rattle.ss_block.specs.Session.{field_from}
use Rattle.ss_octets.proofs.Numbers.{is_spelled, number-decimal, number_in-decimal}
use Rattle.ss_block.proofs.Values.{in_range}
use Rattle.ss_octets.proofs.Base64Text.{Clear, Clear-append}
use Rattle.ss_review.specs.declared.counted.counter.Counts.{Counts}
use Rattle.ss_review.specs.declared.counted.counter.Counts.TheVariants.{Blocks, Messages}
use Rattle.ss_review.specs.counted.CounterRange.{IsName}
use Rattle.ss_review.specs.counted.CounterText.{field_word}
use Rattle.ss_answers.specs.CounterLine.{BeginsWithNoNumber, BeginsWithNoSession, BeginsWithNoWord, BeginsWithNumber, BeginsWithSession, BeginsWithWord, SpellsNext, SpellsNoGroup, SpellsNoNext, field_by}
use Rattle.ss_answers.specs.Lines.{Lacks}
use Rattle.ss_answers.proofs.Cuts.{cut_clear, nowhere}

-- ---- which octets stand in a word

printable_clear : (c b : ℕ) → c < 33 → is_printable b ≡ true → eqb b c ≡ false
printable_clear c b low h = grind (arith, nat_tests)

Clear-printable : (c : ℕ) (w : List ℕ) → c < 33 → list_all is_printable w ≡ true → Clear c w
Clear-printable c [] low h = tt
Clear-printable c (b ∷ w) low h =
    let p = and_parts (is_printable b) (list_all is_printable w) h in
    (printable_clear c b low p.0, Clear-printable c w low p.1)

pub Clear-text : (c limit : ℕ) (w : List ℕ) → c < 33 → is_text limit w ≡ true → Clear c w
unfolding is_text
Clear-text c limit w low h = Clear-printable c w low (and_parts _ (list_all is_printable w) h).1

pub Clear-decimal : (c n : ℕ) → c < 33 → n < 2 ^ 64 → Clear c (decimal n)
Clear-decimal c n low small =
    decimal_by_steps (λ n ds. Clear c ds)
    (λ n h. (grind (arith, nat_tests), tt))
    (λ n ds h d. Clear-append c ds _ d (grind (arith, nat_tests), tt))
    n small

-- ---- fields

absent_is : (o : List ℕ) → is_absent o ≡ true → o ≡ codes "-"
absent_is [] h = absurd cc
absent_is (b ∷ []) h = ap (λ x. x ∷ []) (eqb-true b dash h)
absent_is (b ∷ c ∷ rest) h = absurd cc

chosen_word : (o : List ℕ) (b : Bool) → is_absent o ≡ b → field_word (field_from (cond b None (Some o))) ≡ o
chosen_word o true e = sym (absent_is o e)
chosen_word o false e = refl

-- a field spells the word that it is read from
pub field_word-by : (o : List ℕ) → field_word (field_by o) ≡ o
field_word-by o = chosen_word o (is_absent o) refl

chosen_name : (limit : ℕ) (o : List ℕ) (b : Bool) → is_absent o ≡ b → is_text limit o ≡ true → IsName limit (field_from (cond b None (Some o)))
chosen_name limit o true e h = refl
chosen_name limit o false e h = rw (h, e) refl

pub IsName-by : (limit : ℕ) (o : List ℕ) → is_text limit o ≡ true → IsName limit (field_by o)
IsName-by limit o h = chosen_name limit o (is_absent o) refl h

pub is_text-word : (limit : ℕ) (f : Field) → 1 ≤ limit → IsName limit f → is_text limit (field_word f) ≡ true
unfolding is_text
is_text-word limit Nil some h = rw (le-leb 1 limit some) refl
is_text-word limit (Text o) some h = (and_parts (is_text limit o) _ h).0

absent_once : (limit : ℕ) (o : List ℕ) → IsName limit (Text o) → codes "-" ≡ o → ⊥
absent_once limit o h e =
    let absent : is_absent o ≡ true = ap is_absent (sym e) in
    let p = and_parts (is_text limit o) _ h in
    let q = p.1 in
    let none = rw absent at q in
    absurd cc

-- a word spells one field
pub field_word-injective : (limit : ℕ) (f g : Field) → IsName limit f → IsName limit g → field_word f ≡ field_word g → f ≡ g
field_word-injective limit Nil Nil h k e = refl
field_word-injective limit Nil (Text o) h k e = absurd (absent_once limit o k e)
field_word-injective limit (Text o) Nil h k e = absurd (absent_once limit o h (sym e))
field_word-injective limit (Text o) (Text q) h k e = ap Text e

pub decimal-injective : (m n : ℕ) → m < 2 ^ 64 → n < 2 ^ 64 → decimal m ≡ decimal n → m ≡ n
decimal-injective m n small little e = sym (number-decimal m small) ∙ ap number e ∙ number-decimal n little

-- the number that a text spells
number_is-true : (least most : ℕ) (text : List ℕ) (n : ℕ) (b : Bool) → is_number least most text ≡ b → cond b (Some (number text)) None ≡ Some n
    → text ≡ decimal n
number_is-true least most text n true is e = (is_spelled least most text is).spelled ∙ ap decimal cc
number_is-true least most text n false is e = absurd cc

pub number_is : (least most : ℕ) (text : List ℕ) (n : ℕ) → number_in least most text ≡ Some n → text ≡ decimal n
number_is least most text n e = number_is-true least most text n (is_number least most text) refl e

pub begins_with_number : (least most n : ℕ) (text w r : List ℕ) → text ≡ w ++ sp ∷ r → number_in least most w ≡ Some n → BeginsWithNumber least most text n r
begins_with_number least most n text w r cut e =
    let within = in_range least most w n e in
    record { low = within.0; high = within.1; spelt = cut ∙ ap (λ x. x ++ sp ∷ r) (number_is least most w n e) }

pub spells_blocks : (text : List ℕ) (n : ℕ) → number_in 0 past_last_number text ≡ Some n → SpellsNext text Blocks n
spells_blocks text n e = record { in_range = (in_range 0 past_last_number text n e).1; spelt = number_is 0 past_last_number text n e }

-- a text that isn't read as a number spells none
pub no_number : (least most : ℕ) (text : List ℕ) (n : ℕ) → most < 2 ^ 64 → number_in least most text ≡ None → least ≤ n → n ≤ most → text ≡ decimal n → ⊥
no_number least most text n small none low high e =
    let some = number_in-decimal least most n text (omega arith) low high e in
    absurd cc

-- ---- the rest after a word

-- after words of one text the same rest stands
rest_once : (w r v q text : List ℕ) → Clear sp w → Clear sp v → text ≡ w ++ sp ∷ r → text ≡ v ++ sp ∷ q → (w ≡ v) × (r ≡ q)
rest_once w r v q text h k e f = cut_clear sp w r v q h k (sym e ∙ f)

word_once : {limit : ℕ} {text w r : List ℕ} → BeginsWithWord limit text w r → (f : Field) (q : List ℕ) → 1 ≤ limit → IsName limit f
    → text ≡ field_word f ++ sp ∷ q → (w ≡ field_word f) × (r ≡ q)
word_once {limit} {text} {w} {r} b f q some name e =
    rest_once w r (field_word f) q text (Clear-text sp limit w (omega arith) b.printable)
    (Clear-text sp limit (field_word f) (omega arith) (is_text-word limit f some name)) b.spelt e

number_once : {least most : ℕ} {text : List ℕ} {n : ℕ} {r : List ℕ} → BeginsWithNumber least most text n r → (m : ℕ) (q : List ℕ) → most < 2 ^ 64
    → m < 2 ^ 64 → text ≡ decimal m ++ sp ∷ q → (n ≡ m) × (r ≡ q)
number_once {least} {most} {text} {n} {r} b m q small little e =
    let high = b.high in
    let parts = rest_once (decimal n) r (decimal m) q text (Clear-decimal sp n (omega arith) (omega arith)) (Clear-decimal sp m (omega arith) little) b.spelt e in
    (decimal-injective n m (omega arith) little parts.0, parts.1)

-- where the first word spells no number, the text begins with none
pub no_number-cut : (least most : ℕ) (text w r : List ℕ) → most < 2 ^ 64 → Lacks sp w → text ≡ w ++ sp ∷ r → number_in least most w ≡ None
    → BeginsWithNoNumber least most text
no_number-cut least most text w r small lacks e none = λ n q b.
    let high = b.high in
    let same = rest_once w r (decimal n) q text (recursion_from_All _ w lacks) (Clear-decimal sp n (omega arith) (omega arith)) e b.spelt in
    no_number least most w n small none b.low b.high same.0

pub no_number-uncut : (least most : ℕ) (text : List ℕ) → Lacks sp text → BeginsWithNoNumber least most text
no_number-uncut least most text lacks = λ n q b. nowhere sp (decimal n) q text lacks b.spelt

-- where the first word is no name, the text begins with none
pub no_word-cut : (limit : ℕ) (text w r : List ℕ) → Lacks sp w → text ≡ w ++ sp ∷ r → is_text limit w ≡ false → BeginsWithNoWord limit text
no_word-cut limit text w r lacks e none = λ v q b.
    let is = b.printable in
    let same = rest_once w r v q text (recursion_from_All _ w lacks) (Clear-text sp limit v (omega arith) is) e b.spelt in
    absurd (let t : is_text limit w ≡ true = ap (is_text limit) same.0 ∙ is in cc)

pub no_word-uncut : (limit : ℕ) (text : List ℕ) → Lacks sp text → BeginsWithNoWord limit text
no_word-uncut limit text lacks = λ v q b. nowhere sp v q text lacks b.spelt

-- ---- sessions

pub begins_with_session : {text h r a s p t rest : List ℕ} {n : ℕ} → BeginsWithWord 255 text h r → BeginsWithWord 48 r a s → BeginsWithWord 128 s p t
    → BeginsWithNumber 0 last_number t n rest
    → BeginsWithSession text (record { host = field_by h; app = field_by a; procid = field_by p; rsid = n }) rest
begins_with_session {text} {h} {r} {a} {s} {p} {t} {rest} {n} one two three four =
    let tail = three.spelt ∙ ap (λ x. p ++ sp ∷ x) four.spelt in
    let behind = two.spelt ∙ ap (λ x. a ++ sp ∷ x) tail in
    let whole : text ≡ h ++ sp ∷ (a ++ sp ∷ (p ++ sp ∷ (decimal n ++ sp ∷ rest))) = one.spelt ∙ ap (λ x. h ++ sp ∷ x) behind in
    record {
      session = record {
        host = IsName-by 255 h one.printable;
        app = IsName-by 48 a two.printable;
        procid = IsName-by 128 p three.printable;
        rsid = four.high;
      };
      spelt = rw (field_word-by h, field_word-by a, field_word-by p) whole;
    }

behind_host : {text h r : List ℕ} → BeginsWithWord 255 text h r → {s : Session} {rest : List ℕ} → BeginsWithSession text s rest
    → r ≡ field_word s.app ++ sp ∷ (field_word s.procid ++ sp ∷ (decimal s.rsid ++ sp ∷ rest))
behind_host one {s} b = (word_once one s.host _ (omega arith) b.session.host b.spelt).1

behind_app : {text h r a t : List ℕ} → BeginsWithWord 255 text h r → BeginsWithWord 48 r a t → {s : Session} {rest : List ℕ} → BeginsWithSession text s rest
    → t ≡ field_word s.procid ++ sp ∷ (decimal s.rsid ++ sp ∷ rest)
behind_app one two {s} b = (word_once two s.app _ (omega arith) b.session.app (behind_host one b)).1

behind_procid : {text h r a t p u : List ℕ} → BeginsWithWord 255 text h r → BeginsWithWord 48 r a t → BeginsWithWord 128 t p u
    → {s : Session} {rest : List ℕ} → BeginsWithSession text s rest → u ≡ decimal s.rsid ++ sp ∷ rest
behind_procid one two three {s} b = (word_once three s.procid _ (omega arith) b.session.procid (behind_app one two b)).1

pub no_host : (text : List ℕ) → BeginsWithNoWord 255 text → BeginsWithNoSession text
no_host text none = λ s rest b.
    none (field_word s.host) _ (record { printable = is_text-word 255 s.host (omega arith) b.session.host; spelt = b.spelt })

pub no_app : {text h r : List ℕ} → BeginsWithWord 255 text h r → BeginsWithNoWord 48 r → BeginsWithNoSession text
no_app one none = λ s rest b.
    none (field_word s.app) _ (record { printable = is_text-word 48 s.app (omega arith) b.session.app; spelt = behind_host one b })

pub no_procid : {text h r a t : List ℕ} → BeginsWithWord 255 text h r → BeginsWithWord 48 r a t → BeginsWithNoWord 128 t → BeginsWithNoSession text
no_procid one two none = λ s rest b.
    none (field_word s.procid) _ (record { printable = is_text-word 128 s.procid (omega arith) b.session.procid; spelt = behind_app one two b })

pub no_rsid : {text h r a t p u : List ℕ} → BeginsWithWord 255 text h r → BeginsWithWord 48 r a t → BeginsWithWord 128 t p u
    → BeginsWithNoNumber 0 last_number u → BeginsWithNoSession text
no_rsid one two three none = λ s rest b.
    none s.rsid rest (record { low = omega arith; high = b.session.rsid; spelt = behind_procid one two three b })

-- the words of a session, as they begin a text
host_of : {text : List ℕ} {s : Session} {rest : List ℕ} → BeginsWithSession text s rest
    → BeginsWithWord 255 text (field_word s.host) (field_word s.app ++ sp ∷ (field_word s.procid ++ sp ∷ (decimal s.rsid ++ sp ∷ rest)))
host_of {text} {s} b = record { printable = is_text-word 255 s.host (omega arith) b.session.host; spelt = b.spelt }

app_of : {s : Session} {rest : List ℕ} {text : List ℕ} → BeginsWithSession text s rest
    → BeginsWithWord 48 (field_word s.app ++ sp ∷ (field_word s.procid ++ sp ∷ (decimal s.rsid ++ sp ∷ rest))) (field_word s.app) (field_word s.procid ++ sp ∷ (decimal s.rsid ++ sp ∷ rest))
app_of {s} b = record { printable = is_text-word 48 s.app (omega arith) b.session.app; spelt = refl }

procid_of : {s : Session} {rest : List ℕ} {text : List ℕ} → BeginsWithSession text s rest
    → BeginsWithWord 128 (field_word s.procid ++ sp ∷ (decimal s.rsid ++ sp ∷ rest)) (field_word s.procid) (decimal s.rsid ++ sp ∷ rest)
procid_of {s} b = record { printable = is_text-word 128 s.procid (omega arith) b.session.procid; spelt = refl }

same_session : (s t : Session) → s.host ≡ t.host → s.app ≡ t.app → s.procid ≡ t.procid → s.rsid ≡ t.rsid → s ≡ t
same_session s t host app procid rsid =
    ap (λ h. record { host = h; app = s.app; procid = s.procid; rsid = s.rsid }) host
    ∙ (ap (λ a. record { host = t.host; app = a; procid = s.procid; rsid = s.rsid }) app
    ∙ (ap (λ p. record { host = t.host; app = t.app; procid = p; rsid = s.rsid }) procid
    ∙ ap (λ n. record { host = t.host; app = t.app; procid = t.procid; rsid = n }) rsid))

-- a text begins with one session
pub session_once : {text : List ℕ} {s t : Session} {r q : List ℕ} → BeginsWithSession text s r → BeginsWithSession text t q → (s ≡ t) × (r ≡ q)
session_once {text} {s} {t} {r} {q} b c =
    let low = b.session.rsid in
    let high = c.session.rsid in
    let hosts = (word_once (host_of b) t.host _ (omega arith) c.session.host c.spelt).0 in
    let apps = (word_once (app_of b) t.app _ (omega arith) c.session.app (behind_host (host_of b) c)).0 in
    let procids = (word_once (procid_of b) t.procid _ (omega arith) c.session.procid (behind_app (host_of b) (app_of b) c)).0 in
    let last = cut_clear sp (decimal s.rsid) r (decimal t.rsid) q (Clear-decimal sp s.rsid (omega arith) (omega arith))
    (Clear-decimal sp t.rsid (omega arith) (omega arith)) (behind_procid (host_of b) (app_of b) (procid_of b) c) in
    let host : s.host ≡ t.host = field_word-injective 255 s.host t.host b.session.host c.session.host hosts in
    let app : s.app ≡ t.app = field_word-injective 48 s.app t.app b.session.app c.session.app apps in
    let procid : s.procid ≡ t.procid = field_word-injective 128 s.procid t.procid b.session.procid c.session.procid procids in
    let rsid : s.rsid ≡ t.rsid = decimal-injective s.rsid t.rsid (omega arith) (omega arith) last.0 in
    (same_session s t host app procid rsid, last.1)

-- ---- what is counted

pub spells_group : {text r rest : List ℕ} {sg spri n : ℕ} → BeginsWithNumber 0 3 text sg r → BeginsWithNumber 0 191 r spri rest
    → number_in 1 past_last_number rest ≡ Some n → SpellsNext text (Messages (record { sg = sg; spri = spri })) n
spells_group {text} {r} {rest} {sg} {spri} {n} one two e =
    let within = in_range 1 past_last_number rest n e in
    let behind = two.spelt ∙ ap (λ x. decimal spri ++ sp ∷ x) (number_is 1 past_last_number rest n e) in
    record {
      in_range = (record { sg = one.high; spri = two.high }, within.0, within.1);
      spelt = one.spelt ∙ ap (λ x. decimal sg ++ sp ∷ x) behind;
    }

behind_sg : {text r : List ℕ} {sg : ℕ} → BeginsWithNumber 0 3 text sg r → {g : Group} {n : ℕ} → SpellsNext text (Messages g) n
    → (sg ≡ g.sg) × (r ≡ decimal g.spri ++ sp ∷ decimal n)
behind_sg one {g} b = let high = b.in_range.0.sg in number_once one g.sg _ (omega arith) (omega arith) b.spelt

behind_spri : {text r u : List ℕ} {sg spri : ℕ} → BeginsWithNumber 0 3 text sg r → BeginsWithNumber 0 191 r spri u → {g : Group} {n : ℕ}
    → SpellsNext text (Messages g) n → (spri ≡ g.spri) × (u ≡ decimal n)
behind_spri one two {g} b = let high = b.in_range.0.spri in number_once two g.spri _ (omega arith) (omega arith) (behind_sg one b).1

pub no_sg : (text : List ℕ) → BeginsWithNoNumber 0 3 text → SpellsNoGroup text
no_sg text none = λ g n b. none g.sg _ (record { low = omega arith; high = b.in_range.0.sg; spelt = b.spelt })

pub no_spri : {text r : List ℕ} {sg : ℕ} → BeginsWithNumber 0 3 text sg r → BeginsWithNoNumber 0 191 r → SpellsNoGroup text
no_spri one none = λ g n b. none g.spri _ (record { low = omega arith; high = b.in_range.0.spri; spelt = (behind_sg one b).1 })

pub no_group_number : {text r u : List ℕ} {sg spri : ℕ} → BeginsWithNumber 0 3 text sg r → BeginsWithNumber 0 191 r spri u
    → number_in 1 past_last_number u ≡ None → SpellsNoGroup text
no_group_number {text} {r} {u} one two none = λ g n b.
    no_number 1 past_last_number u n (omega arith) none b.in_range.1 b.in_range.2 (behind_spri one two b).1

pub no_next : (text : List ℕ) → number_in 0 past_last_number text ≡ None → SpellsNoGroup text → SpellsNoNext text
no_next text none groups = λ counts n b. by_counts text none groups counts n b
  where
    by_counts : (text : List ℕ) → number_in 0 past_last_number text ≡ None → SpellsNoGroup text → (counts : Counts) (n : ℕ) → SpellsNext text counts n → ⊥
    by_counts text none groups Blocks n b = no_number 0 past_last_number text n (omega arith) none (omega arith) b.in_range b.spelt
    by_counts text none groups (Messages g) n b = groups g n b

clear_cut : (a x b : List ℕ) → Clear sp b → b ≡ a ++ sp ∷ x → ⊥
clear_cut a x b h e = nowhere sp a x b (All-from_recursion (λ y. eqb y sp ≡ false) b h) e

sg_of : {text : List ℕ} {g : Group} {n : ℕ} → SpellsNext text (Messages g) n → BeginsWithNumber 0 3 text g.sg (decimal g.spri ++ sp ∷ decimal n)
sg_of b = record { low = omega arith; high = b.in_range.0.sg; spelt = b.spelt }

spri_of : {text : List ℕ} {g : Group} {n : ℕ} → SpellsNext text (Messages g) n → BeginsWithNumber 0 191 (decimal g.spri ++ sp ∷ decimal n) g.spri (decimal n)
spri_of b = record { low = omega arith; high = b.in_range.0.spri; spelt = refl }

same_group : (g h : Group) → g.sg ≡ h.sg → g.spri ≡ h.spri → g ≡ h
same_group g h sg spri = ap (λ n. record { sg = n; spri = g.spri }) sg ∙ ap (λ n. record { sg = h.sg; spri = n }) spri

-- a text names one thing that is counted
pub next_once : {text : List ℕ} (j k : Counts) {m n : ℕ} → SpellsNext text j m → SpellsNext text k n → (j ≡ k) × (m ≡ n)
next_once Blocks Blocks {m} {n} b c =
    let low = b.in_range in
    let high = c.in_range in
    (refl, decimal-injective m n (omega arith) (omega arith) (sym b.spelt ∙ c.spelt))
next_once Blocks (Messages g) {m} {n} b c =
    let low = b.in_range in
    absurd (clear_cut (decimal g.sg) (decimal g.spri ++ sp ∷ decimal n) (decimal m) (Clear-decimal sp m (omega arith) (omega arith)) (sym b.spelt ∙ c.spelt))
next_once (Messages g) Blocks {m} {n} b c =
    let high = c.in_range in
    absurd (clear_cut (decimal g.sg) (decimal g.spri ++ sp ∷ decimal m) (decimal n) (Clear-decimal sp n (omega arith) (omega arith)) (sym c.spelt ∙ b.spelt))
next_once (Messages g) (Messages h) {m} {n} b c =
    let low = b.in_range.2 in
    let high = c.in_range.2 in
    let one : g.sg ≡ h.sg = (behind_sg (sg_of b) c).0 in
    let two = behind_spri (sg_of b) (spri_of b) c in
    let groups : g ≡ h = same_group g h one two.0 in
    (ap Messages groups, decimal-injective m n (omega arith) (omega arith) two.1)
