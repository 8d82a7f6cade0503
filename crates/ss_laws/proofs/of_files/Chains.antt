-- Two chains are the same from one SHA-256 on, or from one link on.
use Rattle.std.proofs.Common.{◌≡◌, ◌⊎◌, inl, inr, ℕ, suc, List, [], ◌∷◌, ◌++◌, refl, sym, ap, ◌∙◌, subst}
use Rattle.std.specs.Prelude.{◌≢◌, Some, None}
use Rattle.std.specs.List.{AllByRecursion, Contains}
use Rattle.std.specs.Str.{bytes_eq}
use Rattle.std.proofs.lemmas.Bool.{cases_Bool}
use Rattle.std.proofs.lemmas.Option.{same_Some}
use Rattle.std.proofs.lemmas.Slice.Eq.{bytes_eq-Decides}
use Rattle.sha2.specs.Sha256.{sha256}
use Rattle.ss_octets.proofs.Members.{has_from_contains, contains_from_has, has-append_left}
use Rattle.ss_laws.specs.files.ChainLaws.{LinksAreOne, FilesBeforeAreOne, ChainsAreOne}
use Rattle.ss_laws.specs.files.ChainLaws.{HasAllThatWasSigned, NothingIsMissing}
use Rattle.ss_laws.specs.files.Files.{SignedFile, Naming, AreLinked, GoBackToTheFirst}
use Rattle.ss_laws.specs.files.Files.{HaveOneNewest, GoesOn, AreTheSame, ShareASum}
use Rattle.ss_laws.specs.files.Links.{Check, HasLink}

abbrev Outcome : List SignedFile → List SignedFile → Type 0
Outcome fs gs = AreTheSame fs gs ⊎ ShareASum fs gs

-- one more file at the front of both
more : (f g : SignedFile) (fs gs : List SignedFile) → f ≡ g → Outcome fs gs → Outcome (f ∷ fs) (g ∷ gs)
more f g fs gs e (inl (inl on)) = inl (inl (on.0, λ i. sym e i ∷ on.1 i))
more f g fs gs e (inl (inr on)) = inl (inr (on.0, λ i. e i ∷ on.1 i))
more f g fs gs e (inr s) =
    inr
    (record {
      place = suc s.place;
      one = s.one;
      other = s.other;
      one_is = s.one_is;
      other_is = s.other_is;
      differ = s.differ;
      same_sum = s.same_sum;
    })

same_or_not : (a b : List ℕ) → (a ≡ b) ⊎ (a ≢ b)
same_or_not a b = elim (cases_Bool (bytes_eq a b)) [
  | inl t ↦ inl ((bytes_eq-Decides a b).0 t)
  | inr f ↦ inr (λ e. absurd (let t = (bytes_eq-Decides a b).1 e in cc))
]

-- ---- what links say

older_linked : (names : Naming) (f : SignedFile) (fs : List SignedFile) → AreLinked names (f ∷ fs) → AreLinked names fs
older_linked names f [] linked = tt
older_linked names f (g ∷ fs) linked = linked.1

-- where one link stands in front of both, they name one SHA-256
one_before : (names : Naming) (f g : SignedFile) (fs gs : List SignedFile)
    → AreLinked names (f ∷ fs) → AreLinked names (g ∷ gs) → f.link ≡ g.link → HaveOneNewest fs gs
one_before names f g [] gs lf lg same = tt
one_before names f g (x ∷ xs) [] lf lg same = tt
one_before names f g (x ∷ xs) (y ∷ ys) lf lg same =
    same_Some (sha256 x.octets) (sha256 y.octets) (sym lf.0 ∙ ap names same ∙ lg.0)

module _ (c : Check) (names : Naming) (one_link : LinksAreOne) where
  abbrev HaveLinks : List SignedFile → Type 0
  HaveLinks files = AllByRecursion (λ f. HasLink c f.octets f.link) files

  -- files with the same octets have one link
  same_file : (f g : SignedFile) → HasLink c f.octets f.link → HasLink c g.octets g.link → f.octets ≡ g.octets → f ≡ g
  same_file f g h k e =
      let links : f.link ≡ g.link = one_link c g.octets f.link g.link (subst (λ o. HasLink c o f.link) e h) k in
      λ i. record { octets = e i; link = links i }

  from_newest : (fs gs : List SignedFile) → HaveLinks fs → HaveLinks gs
      → AreLinked names fs → AreLinked names gs → HaveOneNewest fs gs → Outcome fs gs
  from_newest [] gs hf hg lf lg sums = inl (inl (gs, refl))
  from_newest (x ∷ xs) [] hf hg lf lg sums = inl (inr (x ∷ xs, refl))
  from_newest (x ∷ xs) (y ∷ ys) hf hg lf lg sums = elim (same_or_not x.octets y.octets) [
    | inl e ↦ (let file : x ≡ y = same_file x y hf.0 hg.0 e in
        let before = one_before names x y xs ys lf lg (ap (λ (z : SignedFile). z.link) file) in
        more x y xs ys file
        (from_newest xs ys hf.1 hg.1 (older_linked names x xs lf) (older_linked names y ys lg) before))
    | inr n ↦ inr
        (record {
          place = 0;
          one = x;
          other = y;
          one_is = refl;
          other_is = refl;
          differ = n;
          same_sum = sums;
        })
  ]

-- ---- back to a first file

-- no file is older than one whose link names none
none_older : (names : Naming) (fs older : List SignedFile)
    → GoBackToTheFirst names fs → AreLinked names (fs ++ older) → older ≡ []
none_older names [] older whole linked = absurd whole
none_older names (f ∷ []) [] whole linked = refl
none_older names (f ∷ []) (x ∷ xs) whole linked =
    absurd (let e : None ≡ Some (sha256 x.octets) = sym whole ∙ linked.0 in cc)
none_older names (f ∷ g ∷ fs) older whole linked = none_older names (g ∷ fs) older whole linked.1

nothing_more : (fs : List SignedFile) → fs ++ [] ≡ fs
nothing_more [] = refl
nothing_more (f ∷ fs) = ap (λ gs. f ∷ gs) (nothing_more fs)

same_where_first : (names : Naming) (fs gs : List SignedFile)
    → GoBackToTheFirst names fs → AreLinked names gs → GoesOn fs gs → gs ≡ fs
same_where_first names fs gs whole linked on =
    let none : on.0 ≡ [] = none_older names fs on.0 whole (subst (AreLinked names) on.1 linked) in
    on.1 ∙ ap (λ older. fs ++ older) none ∙ nothing_more fs

all_signed : (names : Naming) (folder : List (List ℕ)) (signed walked : List SignedFile)
    → ((f : SignedFile) → Contains walked f → Contains folder f.octets) → AreLinked names walked
    → GoesOn signed walked → HasAllThatWasSigned names folder signed walked
all_signed names folder signed walked of_folder linked on = record {
  there = λ f h.
      (let whole = has-append_left signed on.0 f (has_from_contains signed f h) in
      of_folder f (subst (λ fs. Contains fs f) (sym on.1) (contains_from_has (signed ++ on.0) f whole)));
  in_order = on;
  no_other = λ whole. same_where_first names signed walked whole linked on;
}

-- ---- the laws

pub files_before_are_one : LinksAreOne → FilesBeforeAreOne
files_before_are_one one c names f g fs gs k l same =
    from_newest c names one fs gs k.links.1 l.links.1
    (older_linked names f fs k.linked) (older_linked names g gs l.linked)
    (one_before names f g fs gs k.linked l.linked same)

pub chains_are_one : LinksAreOne → ChainsAreOne
chains_are_one one c names fs gs k l sums = from_newest c names one fs gs k.links l.links k.linked l.linked sums

pub nothing_is_missing : ChainsAreOne → NothingIsMissing
nothing_is_missing one c names folder signed walked k l of_folder whole sums =
    elim (one c names signed walked k l sums) [
      | inl same ↦ inl (elim same [
        | inl on ↦ all_signed names folder signed walked of_folder l.linked on
        | inr on ↦ (let e : signed ≡ walked = same_where_first names walked signed whole k.linked on in
            all_signed names folder signed walked of_folder l.linked ([], sym e ∙ sym (nothing_more signed)))
      ])
      | inr shared ↦ inr shared
    ]
