-- What a search answers.
use Rattle.std.specs.Prelude.{◌≡◌, ◌⊎◌, ℕ, ◌<◌, ◌≤◌, true, false, List, length}
use Rattle.std.specs.List.{All, Contains, sum_by}
use Rattle.std.specs.List.Sorted.{IsStrictlySortedBy}
use Rattle.ss_spelled.specs.declared.fragment.Fragment.{Fragment}
use Rattle.ss_spelled.specs.declared.front.Front.{Front}
use Rattle.ss_spelled.specs.declared.search.Bounds.{Bounds}
use Rattle.ss_spelled.specs.declared.search.Spelled.{Spelled}
use Rattle.ss_spelled.specs.Orders.{text_cmp, front_cmp}
use Rattle.ss_spelled.specs.Spelled.{IsSpelled}
use Rattle.ss_spelled.specs.Fronts.{IsFront, front_cost}

-- as many texts are listed as may be, and another one is spelled
pub record HasMoreTexts (fragments : List Fragment) (bounds : Bounds) (texts : List (List ℕ)) : Type 0 where
  pub full : length texts ≡ bounds.texts
  pub other : List ℕ
  pub is_spelled : IsSpelled fragments other
  pub is_unlisted : ¬ Contains texts other

-- some fronts, no two of which are equal, take more steps than may be taken
pub record TakesMoreSteps (fragments : List Fragment) (bounds : Bounds) : Type 0 where
  pub fronts : List Front
  pub distinct : IsStrictlySortedBy front_cmp fronts
  pub each : All (IsFront fragments) fronts
  pub too_many : bounds.steps < sum_by (front_cost fragments) fronts

-- all fronts together take no more steps than may be taken
pub record TakesFewSteps (fragments : List Fragment) (bounds : Bounds) : Type 0 where
  pub fronts : List Front
  pub all : (q : Front) → IsFront fragments q → Contains fronts q
  pub enough : sum_by (front_cost fragments) fronts ≤ bounds.steps

-- Only spelled texts are listed, in their order and so each once, and no more than may be. If the search isn't cut, all are
-- listed, and the steps were enough; it is cut only at a bound.
pub record IsAnswer (fragments : List Fragment) (bounds : Bounds) (s : Spelled) : Type 0 where
  pub sound : All (IsSpelled fragments) s.texts
  pub ordered : IsStrictlySortedBy text_cmp s.texts
  pub few : length s.texts ≤ bounds.texts
  pub complete : s.cut ≡ false → (text : List ℕ) → IsSpelled fragments text → Contains s.texts text
  pub within : s.cut ≡ false → TakesFewSteps fragments bounds
  pub cut : s.cut ≡ true → HasMoreTexts fragments bounds s.texts ⊎ TakesMoreSteps fragments bounds
