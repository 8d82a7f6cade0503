-- Which parameters of a message are the SIGN and the content of its block.
use Rattle.std.specs.Prelude.{ℕ, List, codes, Option, Some, None, option_and_then}
use Rattle.std.specs.List.{slice_get}
use Rattle.ss_message.specs.declared.message.Parameter.{Parameter}
use Rattle.ss_message.specs.declared.message.Element.{Element}
use Rattle.ss_message.specs.Elements.{element_from}
use Rattle.ss_block.specs.declared.block_parameter.BlockParameter.TheVariants as kinds
use Rattle.ss_block.specs.declared.reading.Reading.{Reading}
use Rattle.ss_block.specs.declared.reading.Reading.TheVariants.{Plain, Unparsed, Signature, Certificate, Spoilt}
use Rattle.ss_block.specs.Parameters.{place_of}

-- the SD-ID of the element that holds the block
abbrev pub block_id : Reading → Option (List ℕ)
block_id (Signature b) = Some (codes "ssign")
block_id (Certificate b) = Some (codes "ssign-cert")
block_id Plain = None
block_id (Unparsed part pos) = None
block_id (Spoilt cause) = None

-- the SIGN of the element with this SD-ID, if it is that of a block
abbrev pub sign_parameter : List ℕ → List ℕ → List Element → Option Parameter
sign_parameter source id es =
    option_and_then (λ e. slice_get e.parameters (place_of kinds.Sign))
    (option_and_then (slice_get es) (element_from 0 source id es))

-- the HB or FRAG, which have one place, of the element with this SD-ID, if it is that of a block
abbrev pub content_parameter : List ℕ → List ℕ → List Element → Option Parameter
content_parameter source id es =
    option_and_then (λ e. slice_get e.parameters (place_of kinds.Hb))
    (option_and_then (slice_get es) (element_from 0 source id es))
