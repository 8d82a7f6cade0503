-- The logs that a keeper makes night by night, of what is carried over and the night's file.
use Rattle.std.proofs.Common.{◌≡◌, inl, inr, ℕ, zero, suc, ◌+◌, ◌<◌, ◌≤◌, ◌==◌, ◌||◌, ◌&&◌, Bool, true, false, cond, List, [], ◌∷◌, ◌++◌, length, get_or, map, refl, sym, ap, ◌∙◌, subst, arith}
use Rattle.std.specs.Prelude.{Option, Some, option_map, slice_get, slice_index}
use Rattle.std.specs.declared.cmp.Ordering.TheVariants.{Less}
use Rattle.std.specs.List.{enumerate_from, filter_map, cons_option}
use Rattle.std.specs.List.Sorted.{IsStrictlySortedBy}
use Rattle.std.specs.Ordering.{nat_cmp}
use Rattle.std.specs.Cmp.{nat_cmp_total}
use Rattle.std.proofs.lemmas.Bool.{cases_lt, cases_eq, eqb-true, eq-eqb}
use Rattle.std.proofs.lemmas.List.{length-map, map-append}
use Rattle.std.proofs.lemmas.Map.Lookups.{exact_unsigned}
use Rattle.std.proofs.lemmas.Option.{slice_get_within, slice_get-get_or, slice_get-map}
use Rattle.ss_review.specs.declared.keep.message.NormalMessage.{NormalMessage}
use Rattle.ss_review.specs.keep.BlockMessage.{BlockMessage}
use Rattle.ss_review.specs.keep.Notes.{Normal, Block, note, notes}
use Rattle.ss_review.specs.keep.Contents.{Contents, normals, blocks, contents}
use Rattle.ss_laws.specs.parts.Parts.{placed_of, messages_of, places_of}
use Rattle.ss_review.specs.report.Report.{report_of}
use Rattle.ss_review.specs.sessions.Verified.{Answers}
use Rattle.ss_octets.proofs.Members.{Has, has-append_left, has-append_right, has-append_cases, has-map, from_has-map, has-filter, from_has-filter, all-has}
use Rattle.ss_review.proofs.of_numbers.Announcements.{numbered_from, has-numbered}
use Rattle.ss_review.proofs.of_lists.Keyed.{less}
use Rattle.ss_review.proofs.of_lists.Mapped.{map-map}
use Rattle.ss_review.proofs.of_kept_messages.NotesTold.{normal_noted, block_noted}
use Rattle.ss_review.proofs.of_lists.Rising.{all_below, same_members, rises-in_order, from_has-in_order}
use Rattle.ss_review.proofs.of_lists.Sections.{map_agree}
use Rattle.ss_review.proofs.of_lists.Tests.{any_member, member_any}
use Rattle.ss_report.specs.runs.Carrying as carrying
use Rattle.ss_report.specs.runs.Carrying.{carried_by, carried}
use Rattle.ss_laws.specs.carry.CarriedNights.{is_carried, CarryOver, CarriedOfOwnLogs, carried_texts, night_texts, is_gone_over, carried_nights}
use Rattle.ss_laws.specs.carry.Nights.{Nights, is_reviewed, at_places, night_log}
use Rattle.ss_laws.specs.carry.NightLaws.{reviewed_part}
use Rattle.ss_laws.proofs.of_carry.CarriedEnough.{carried_places}
use Rattle.ss_laws.proofs.of_carry.NightBlocks.{reviewed_file, reviewed_cases, own_reviewed, left_reviewed}
use Rattle.ss_laws.proofs.of_carry.OwnLogs.{carried_within}
use Rattle.ss_laws.proofs.of_carry.ToldApart.{are_apart}
use Rattle.ss_laws.proofs.of_parts.Places.{places_rise}

-- ---- what each night goes over

gone_over : (says : Answers) (file : ℕ → ℕ) (whole : Contents) (night place : ℕ) → is_gone_over says file whole night place ≡ is_reviewed (carried_nights says file whole) night place
gone_over says file whole zero place = refl
gone_over says file whole (suc night) place =
    ap (λ b. (file place == suc night) || (b && is_carried says (at_places (is_gone_over says file whole night) whole) place)) (gone_over says file whole night place)

pub carry_over : (says : Answers) (file : ℕ → ℕ) (whole : Contents) (last : ℕ) → CarryOver says (carried_nights says file whole) last
carry_over says file whole last night place low = λ i. is_carried says (at_places (λ p. gone_over says file whole night p i) whole) place

-- ---- lists

appended : (xs ys : List ℕ) → IsStrictlySortedBy nat_cmp xs → IsStrictlySortedBy nat_cmp ys → ((p q : ℕ) → Has xs p → Has ys q → p < q) → IsStrictlySortedBy nat_cmp (xs ++ ys)
unfolding IsStrictlySortedBy
appended [] ys up vp f = vp
appended (x ∷ xs) ys up vp f = (
  all_below (λ p. nat_cmp x p ≡ Less) (xs ++ ys) (λ p h.
      elim (has-append_cases xs ys p h) [
        | inl i ↦ all-has (λ q. nat_cmp x q ≡ Less) xs p up.0 i
        | inr i ↦ less x p (f x p (inl refl) i)
      ]),
  appended xs ys up.1 vp (λ p q h i. f p q (inr h) i),
)

found_each : {X Y : Type 0} (g : X → Option Y) (h : X → Y) (xs : List X) → ((x : X) → Has xs x → g x ≡ Some (h x)) → filter_map g xs ≡ map h xs
found_each g h [] e = refl
found_each g h (x ∷ xs) e =
    (λ i. cons_option (e x (inl refl) i) (filter_map g xs)) ∙ ap (λ ys. h x ∷ ys) (found_each g h xs (λ y i. e y (inr i)))

-- ---- the messages of a part

abbrev text_at : List (List ℕ) → ℕ → List ℕ
text_at log place = get_or log place []

module _ (part : ℕ → ℕ) (k : ℕ) (log : List (List ℕ)) where
  numbered_text : (n : ℕ × List ℕ) → Has (enumerate_from 0 log) n → (n.0 < length log) × (text_at log n.0 ≡ n.1)
  numbered_text n h =
      let w = numbered_from 0 log n h in
      let at : w.0 ≡ n.0 = omega (arith, w.1) in
      let got : slice_get log n.0 ≡ Some n.1 = subst (λ i. slice_get log i ≡ Some n.1) at w.2 in
      let low = slice_get_within log n.0 n.1 got in
      (low, same_text (sym (slice_get-get_or log n.0 [] low) ∙ got))
    where
      same_text : Some (get_or log n.0 []) ≡ Some n.1 → get_or log n.0 [] ≡ n.1
      same_text e = cc

  pub texts_of : messages_of part k log ≡ map (text_at log) (places_of part k log)
  texts_of =
      map_agree (λ (n : ℕ × List ℕ). n.1) (λ (n : ℕ × List ℕ). text_at log n.0) (placed_of part k log)
      (λ n h. sym (numbered_text n (from_has-filter (λ (m : ℕ × List ℕ). part m.0 == k) (enumerate_from 0 log) n h).0).1)
      ∙ sym (map-map (text_at log) (λ (n : ℕ × List ℕ). n.0) (placed_of part k log))

  pub from_places : (p : ℕ) → Has (places_of part k log) p → (p < length log) × (part p ≡ k)
  from_places p h =
      let w : (n : ℕ × List ℕ) × Has (placed_of part k log) n × (n.0 ≡ p) = from_has-map (λ (n : ℕ × List ℕ). n.0) (placed_of part k log) p h in
      let f = from_has-filter (λ (m : ℕ × List ℕ). part m.0 == k) (enumerate_from 0 log) w.0 w.1 in
      subst (λ q. (q < length log) × (part q ≡ k)) w.2 ((numbered_text w.0 f.0).0, eqb-true (part w.0.0) k f.1)

  pub has-places : (p : ℕ) → p < length log → part p ≡ k → Has (places_of part k log) p
  has-places p low e =
      let at : 0 + p ≡ p = omega arith in
      let there : Has (enumerate_from 0 log) (p, get_or log p []) = subst (λ i. Has (enumerate_from 0 log) (i, get_or log p [])) at (has-numbered 0 log p (get_or log p []) (slice_get-get_or log p [] low)) in
      has-map (λ (n : ℕ × List ℕ). n.0) (placed_of part k log) (p, get_or log p [])
      (has-filter (λ (m : ℕ × List ℕ). part m.0 == k) (enumerate_from 0 log) (p, get_or log p []) there (eq-eqb (part p) k e))

-- ---- a place that is reviewed

abbrev first_part : ℕ
first_part = 0

reviewed_is : (b : Bool) → cond b 0 1 ≡ first_part → b ≡ true
reviewed_is true e = refl
reviewed_is false e = absurd (cc)

module _ (says : Answers) (file : ℕ → ℕ) (log : List (List ℕ)) (own : CarriedOfOwnLogs)
    (follow : (place other : ℕ) → place < other → other < length log → file place ≤ file other) where
  abbrev whole : Contents
  whole = contents (notes log)

  abbrev x : Nights
  x = carried_nights says file whole

  abbrev part : ℕ → ℕ → ℕ
  part = reviewed_part x

  -- what is carried over of a night's log
  abbrev over : ℕ → List ℕ
  over night = carried_by (report_of says (night_log x night)) (night_log x night).blocks

  over_rises : (night : ℕ) → IsStrictlySortedBy nat_cmp (over night)
  unfolding carried_by
  over_rises night =
      let r = report_of says (night_log x night) in
      let bs = (night_log x night).blocks in
      rises-in_order nat_cmp_total exact_unsigned (carrying.unjudged r bs ++ carrying.certificates r bs ++ carrying.gaps r bs ++ carrying.listed r bs ++ r.unlisted)

  left_is : (night place : ℕ) → x.left night place ≡ is_carried says (night_log x night) place
  left_is night place = carry_over says file whole (suc night) night place (omega arith)

  over_left : (night place : ℕ) → Has (over night) place → x.left night place ≡ true
  over_left night place h = left_is night place ∙ member_any (λ p. p == place) (over night) place h (eq-eqb place place refl)

  left_over : (night place : ℕ) → x.left night place ≡ true → Has (over night) place
  left_over night place e =
      let w : (p : ℕ) × Has (over night) p × ((p == place) ≡ true) = any_member (λ p. p == place) (over night) (sym (left_is night place) ∙ e) in
      subst (Has (over night)) (eqb-true w.0 place w.2) w.1

  -- and is reviewed in that night
  over_reviewed : (night place : ℕ) → Has (over night) place → (is_reviewed x night place ≡ true) × (place < length log)
  unfolding carried_by
  over_reviewed night place h =
      let r = report_of says (night_log x night) in
      let bs = (night_log x night).blocks in
      let five = from_has-in_order nat_cmp_total exact_unsigned place (carrying.unjudged r bs ++ carrying.certificates r bs ++ carrying.gaps r bs ++ carrying.listed r bs ++ r.unlisted) h in
      elim (carried_places says (night_log x night) (are_apart (is_reviewed x night) whole (log, refl)) place five) [
        | inl b ↦ (
            let f = from_has-filter (λ (d : BlockMessage). is_reviewed x night d.place) (blocks (notes log)) b.0 b.1 in
            let w = block_noted (notes log) b.0 f.0 in
            let low = slice_get_within (notes log) b.0.place (Block w.0) w.1 in
            let long = length-map log note in
            (ap (is_reviewed x night) (sym b.2) ∙ f.1, omega (arith, low, long, b.2)))
        | inr m ↦ (
            let f = from_has-filter (λ (n : NormalMessage). is_reviewed x night n.place) (normals (notes log)) m.0 m.1 in
            let low = slice_get_within (notes log) m.0.place (Normal m.0.pair) (normal_noted (notes log) m.0 f.0) in
            let long = length-map log note in
            (ap (is_reviewed x night) (sym m.2) ∙ f.1, omega (arith, low, long, m.2)))
      ]

  part_is : (night place : ℕ) → is_reviewed x night place ≡ true → part night place ≡ 0
  part_is night place e = ap (λ b. cond b 0 1) e

  -- the next night's places are those that are carried over, and after them those of its file
  next_places : (night : ℕ) → places_of (part (suc night)) 0 log ≡ over night ++ places_of file (suc night) log
  next_places night =
      same_members nat_cmp_total (places_of (part (suc night)) 0 log) (over night ++ places_of file (suc night) log)
      (places_rise (part (suc night)) 0 log)
      (appended (over night) (places_of file (suc night) log) (over_rises night) (places_rise file (suc night) log) behind)
      there back
    where
      behind : (p q : ℕ) → Has (over night) p → Has (places_of file (suc night) log) q → p < q
      behind p q h i =
          let o = over_reviewed night p h in
          let at = reviewed_file x night p o.0 in
          let f = from_places file (suc night) log q i in
          elim (cases_lt p q) [
            | inl low ↦ low
            | inr over_it ↦ (elim (cases_eq q p) [
              | inl same ↦ absurd (let e = ap file same in omega (arith, at, f.1, e))
              | inr apart ↦ absurd (let e = follow q p (omega (arith, over_it, apart)) o.1 in omega (arith, at, f.1, e))
            ])
          ]

      there : (p : ℕ) → Has (places_of (part (suc night)) 0 log) p → Has (over night ++ places_of file (suc night) log) p
      there p h =
          let f = from_places (part (suc night)) 0 log p h in
          elim (reviewed_cases x night p (reviewed_is (is_reviewed x (suc night) p) f.1)) [
            | inl new ↦ has-append_right (over night) (places_of file (suc night) log) p (has-places file (suc night) log p f.0 new)
            | inr old ↦ has-append_left (over night) (places_of file (suc night) log) p (left_over night p old.1)
          ]

      back : (p : ℕ) → Has (over night ++ places_of file (suc night) log) p → Has (places_of (part (suc night)) 0 log) p
      back p h =
          elim (has-append_cases (over night) (places_of file (suc night) log) p h) [
            | inl i ↦ (
                let o = over_reviewed night p i in
                has-places (part (suc night)) 0 log p o.1 (part_is (suc night) p (left_reviewed x night p o.0 (over_left night p i))))
            | inr i ↦ (
                let f = from_places file (suc night) log p i in
                has-places (part (suc night)) 0 log p f.0 (part_is (suc night) p (own_reviewed x (suc night) p f.1)))
          ]

  -- the messages that are carried over of a night's log as a log of its own
  carried_messages : (night : ℕ) → carried_texts says (messages_of (part night) 0 log) ≡ map (text_at log) (over night)
  carried_messages night =
      let texts = messages_of (part night) 0 log in
      let places = places_of (part night) 0 log in
      found_each (slice_get texts) (λ c. text_at log (slice_index places c)) (carried says texts) each
      ∙ sym (map-map (text_at log) (slice_index places) (carried says texts))
      ∙ ap (map (text_at log)) (sym (own says x night log refl))
    where
      each : (c : ℕ) → Has (carried says (messages_of (part night) 0 log)) c
          → slice_get (messages_of (part night) 0 log) c ≡ Some (text_at log (slice_index (places_of (part night) 0 log) c))
      each c h =
          let texts = messages_of (part night) 0 log in
          let places = places_of (part night) 0 log in
          let low = carried_within (part night) 0 log says c h in
          let long : length texts ≡ length places = ap length (texts_of (part night) 0 log) ∙ length-map places (text_at log) in
          ap (λ ts. slice_get ts c) (texts_of (part night) 0 log)
          ∙ slice_get-map (text_at log) places c
          ∙ ap (option_map (text_at log)) (slice_get-get_or places c 0 (omega (arith, low, long)))

  pub texts_of_nights : (night : ℕ) → night_texts says file log night ≡ messages_of (reviewed_part (carried_nights says file (contents (notes log))) night) 0 log
  texts_of_nights zero =
      texts_of file 0 log
      ∙ ap (map (text_at log)) first_places
      ∙ sym (texts_of (part 0) 0 log)
    where
      first_places : places_of file 0 log ≡ places_of (part 0) 0 log
      first_places =
          same_members nat_cmp_total (places_of file 0 log) (places_of (part 0) 0 log) (places_rise file 0 log) (places_rise (part 0) 0 log)
          (λ p h. (let f = from_places file 0 log p h in has-places (part 0) 0 log p f.0 (part_is 0 p (own_reviewed x 0 p f.1))))
          (λ p h. (let f = from_places (part 0) 0 log p h in has-places file 0 log p f.0 (eqb-true (file p) 0 (reviewed_is (is_reviewed x 0 p) f.1))))
  texts_of_nights (suc night) =
      ap (λ texts. carried_texts says texts ++ messages_of file (suc night) log) (texts_of_nights night)
      ∙ (λ i. carried_messages night i ++ texts_of file (suc night) log i)
      ∙ sym (map-append (text_at log) (over night) (places_of file (suc night) log))
      ∙ ap (map (text_at log)) (sym (next_places night))
      ∙ sym (texts_of (part (suc night)) 0 log)
