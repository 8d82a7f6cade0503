-- Reading bounds one after the other, as a loop does.
use Rattle.std.proofs.Common.{◌≡◌, ℕ, Bool, true, false, ◌&&◌, cond, List, [], ◌∷◌, ◌++◌, Option, Some, None, refl, sym, ap, ◌∙◌, append_assoc}
use Rattle.std.specs.Prelude.{map}
use Rattle.std.specs.List.{list_all}
use Rattle.std.proofs.lemmas.List.{append-nil}
use Rattle.std.proofs.lemmas.Option.{cond_some}
use Rattle.ss_octets.specs.Number.{number, is_number, number_in}
use Rattle.ss_origin.specs.Groups.{are_bounds}

-- the numbers of the texts, and whether each is a PRI
abbrev pub numbers : List (List ℕ) → List ℕ
numbers texts = map number texts

abbrev pub all_pris : List (List ℕ) → Bool
all_pris texts = list_all (is_number 0 191) texts

abbrev pub bounds_by : List (List ℕ) → Option (List ℕ)
bounds_by texts = cond (all_pris texts && are_bounds (numbers texts)) (Some (numbers texts)) None

-- of all the texts these numbers were read, and those left are still to come
pub record HasRead (texts : List (List ℕ)) (done : List ℕ) (left : List (List ℕ)) : Type 0 where
  pub numbers : numbers texts ≡ done ++ numbers left
  pub all : all_pris texts ≡ all_pris left

pub begins : (texts : List (List ℕ)) → HasRead texts [] texts
begins texts = record { numbers = refl; all = refl }

-- one more text is read
pub goes_on : (texts : List (List ℕ)) (done : List ℕ) (text : List ℕ) (left : List (List ℕ)) (n : ℕ) → number_in 0 191 text ≡ Some n → HasRead texts done (text ∷ left) → HasRead texts (done ++ n ∷ []) left
goes_on texts done text left n e read =
    let is = cond_some (is_number 0 191 text) (number text) n e in
    let one : (is_number 0 191 text && all_pris left) ≡ all_pris left = rw is.0 refl in
    record {
      numbers = read.numbers ∙ ap (λ (x : ℕ). done ++ x ∷ numbers left) is.1 ∙ sym (append_assoc done (n ∷ []) (numbers left));
      all = read.all ∙ one;
    }

no_number : (b : Bool) (n : ℕ) → cond b (Some n) None ≡ None → b ≡ false
no_number true n e = absurd cc
no_number false n e = refl

-- where a text is no PRI, they aren't bounds
pub gives_up : (texts : List (List ℕ)) (done : List ℕ) (text : List ℕ) (left : List (List ℕ)) → number_in 0 191 text ≡ None → HasRead texts done (text ∷ left) → bounds_by texts ≡ None
gives_up texts done text left e read =
    let one : (is_number 0 191 text && all_pris left) ≡ false = rw (no_number _ _ e) refl in
    ap (λ b. cond (b && are_bounds (numbers texts)) (Some (numbers texts)) None) (read.all ∙ one)

-- all texts are read
pub ends : (texts : List (List ℕ)) (done : List ℕ) → HasRead texts done [] → bounds_by texts ≡ cond (are_bounds done) (Some done) None
ends texts done read =
    ap (λ b. cond (b && are_bounds (numbers texts)) (Some (numbers texts)) None) read.all
    ∙ ap (λ (ns : List ℕ). cond (are_bounds ns) (Some ns) None) (read.numbers ∙ append-nil done)
