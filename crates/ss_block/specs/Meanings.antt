-- The parameters of a block element: their names, and what their values stand for.
use Rattle.std.specs.Prelude.{◌≡◌, ℕ, Bool, List, map, length}
use Rattle.std.specs.Str.{bytes_eq}
use Rattle.std.specs.Cmp.Lexicographic.{pointwise}
use Rattle.ss_message.specs.declared.message.Parameter.{Parameter}
use Rattle.ss_message.specs.declared.message.Element.{Element}
use Rattle.ss_message.specs.Layout.{parameter_values}
use Rattle.ss_message.specs.Places.{ElementIsWithin}
use Rattle.ss_block.specs.declared.block_parameter.BlockParameter.{BlockParameter}
use Rattle.ss_block.specs.declared.texts.Meant.{Meant}
use Rattle.ss_block.specs.declared.texts.Meant.TheVariants.{Raw, Unescaped}
use Rattle.ss_block.specs.Parameters.{names_in, parameter_count}

abbrev pub octets_of : Meant → List ℕ
octets_of (Raw octets) = octets.now
octets_of (Unescaped octets) = octets

-- the names of parameters are those of these
abbrev pub are_named : List ℕ → List Parameter → List BlockParameter → Bool
are_named source ps names = pointwise bytes_eq (map (λ p. p.name) (parameter_values source ps)) (names_in names)

-- an element of as many parameters as a block has, whose spans lie within the source
pub record HasAll (source : List ℕ) (e : Element) : Type 0 where
  pub within : ElementIsWithin source e
  pub all : length e.parameters ≡ parameter_count
