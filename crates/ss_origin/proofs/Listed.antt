-- A sealer that lists what it is asked.
use Rattle.std.proofs.Common.{◌≡◌, ◌⊎◌, inl, inr, ℕ, List, [], ◌∷◌, ◌++◌, map, sym, ap, ◌∙◌, subst, append_assoc, append-nil}
use Rattle.std.specs.Prelude.{Option, Ok}
use Rattle.std.proofs.lemmas.List.{map-append}
use Rattle.ss_message.specs.Stamp.{Moment}
use Rattle.ss_origin.specs.declared.config.Config.{Config}
use Rattle.ss_origin.specs.declared.fault.OriginFault.{OriginFault}
use Rattle.ss_origin.specs.declared.unsigned.Unsigned.{Unsigned}
use Rattle.ss_origin.specs.Asked.{Given, GivesAll, StopsAt}
use Rattle.ss_origin.specs.AskedLaws.{Lists, ListsWhatIsDue, ListsTheFirstDue}
use Rattle.ss_origin.specs.Asking.{Asking}
use Rattle.ss_origin.specs.Blocks.{unsigned_text}
use Rattle.ss_origin.specs.Calls.{stamp_of}
use Rattle.ss_origin.specs.Emission.{AreDue}

module _ {J : Type 0} (asked : Asking J) (list : J → List (List ℕ)) (lists : Lists asked list) (c : Config) (stamp : Option Moment) where
  given_listed : (old new : J) (all : List Given) → GivesAll asked c stamp old all new
      → list new ≡ list old ++ map (unsigned_text c.head stamp) (map (λ given. given.block) all)
  given_listed old new [] same = ap list (sym same) ∙ sym (append-nil (list old))
  given_listed old new (given ∷ all) gives =
      let octets = unsigned_text c.head stamp given.block in
      let rest = map (unsigned_text c.head stamp) (map (λ given. given.block) all) in
      given_listed gives.0 new all gives.2
      ∙ ap (λ xs. xs ++ rest) (lists old gives.0 octets (Ok given.signature) gives.1.answered)
      ∙ append_assoc (list old) (octets ∷ []) rest

  -- where it stops at a block, it was asked for that one, or not
  stop_listed : (old new : J) (d : Unsigned) (fault : OriginFault) → StopsAt asked (unsigned_text c.head stamp d) fault old new
      → (list new ≡ list old) ⊎ (list new ≡ list old ++ unsigned_text c.head stamp d ∷ [])
  stop_listed old new d fault (inl unasked) = inl (ap list unasked.1)
  stop_listed old new d fault (inr none) = inr (lists old new (unsigned_text c.head stamp d) none.answer none.answered)

  abbrev texts : List Unsigned → List (List ℕ)
  texts blocks = map (unsigned_text c.head stamp) blocks

  first_listed : (due : List Unsigned) (old last new : J) (before : List Given) (d : Unsigned) (behind : List Unsigned)
      → due ≡ map (λ given. given.block) before ++ d ∷ behind
      → GivesAll asked c stamp old before last
      → (list new ≡ list last) ⊎ (list new ≡ list last ++ unsigned_text c.head stamp d ∷ [])
      → (first rest : List Unsigned) × (due ≡ first ++ rest) × (list new ≡ list old ++ texts first)
  first_listed due old last new before d behind is gives (inl same) = (map (λ given. given.block) before, d ∷ behind, is, same ∙ given_listed old last before gives)
  first_listed due old last new before d behind is gives (inr more) =
      let blocks = map (λ given. given.block) before in
      let octets = unsigned_text c.head stamp d in (
        blocks ++ d ∷ [],
        behind,
        is ∙ sym (append_assoc blocks (d ∷ []) behind),
        more
            ∙ ap (λ xs. xs ++ octets ∷ []) (given_listed old last before gives)
            ∙ append_assoc (list old) (texts blocks) (octets ∷ [])
            ∙ ap (λ xs. list old ++ xs) (sym (map-append (unsigned_text c.head stamp) blocks (d ∷ []))),
      )

pub lists_what_is_due : {J : Type 0} (asked : Asking J) → ListsWhatIsDue asked
lists_what_is_due asked list lists s state call emitted old new seals =
    let texts : List Unsigned → List (List ℕ) = map (unsigned_text s.config.head (stamp_of call)) in (
      seals.due,
      seals.are_due,
      given_listed asked list lists s.config (stamp_of call) old new seals.seals.all seals.seals.gives ∙ ap (λ blocks. list old ++ texts blocks) seals.seals.blocks_are,
    )

pub lists_the_first_due : {J : Type 0} (asked : Asking J) → ListsTheFirstDue asked
lists_the_first_due asked list lists s state call fault old new stops =
    let among = stops.stops in
    let stamp = stamp_of call in
    let first = first_listed asked list lists s.config stamp stops.due old among.last new among.before among.block among.behind among.due_are among.gives
    (stop_listed asked list lists s.config stamp among.last new among.block fault among.stops) in
    (first.0, first.1, subst (λ due. AreDue s state call due) first.2 stops.are_due, first.3)
