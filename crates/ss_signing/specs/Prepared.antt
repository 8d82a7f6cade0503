-- What is signed for the messages of a log: each itself, or its wrap if it needs one. And what keeps messages from being
-- signed, before there is an originator.
use Rattle.std.specs.Prelude.{ℕ, Bool, true, false, ◌&&◌, ◌==◌, nat_lt, List, length, map, Option, None, option_map}
use Rattle.std.specs.List.{list_any, position}
use Rattle.std.specs.Option.{option_or}
use Rattle.ss_octets.specs.Ascii.{lf}
use Rattle.ss_message.specs.Stamp.{Moment}
use Rattle.ss_frame.specs.declared.limits.Form.{Form}
use Rattle.ss_frame.specs.declared.limits.Form.TheVariants.{Frames, Lines}
use Rattle.ss_block.specs.Head.{HeadValue}
use Rattle.ss_report.specs.declared.fault.RunFault.TheVariants.{Extract}
use Rattle.ss_report.specs.declared.runs.extraction.ExtractFault.TheVariants.{HoldsLf}
use Rattle.ss_wrap.specs.Wrap.{needs_wrap, prepared, wrap_text}
use Rattle.ss_signing.specs.declared.fault.SignFault.{SignFault}
use Rattle.ss_signing.specs.declared.fault.SignFault.TheVariants.{LongWrap, Run}

-- Where messages are wrapped, a wrap has this head and this stamp.
abbrev pub prepared_for : (wraps : Bool) → HeadValue → Option Moment → List (List ℕ) → List (List ℕ)
prepared_for false h stamp messages = messages
prepared_for true h stamp messages = map (prepared h stamp) messages

-- the message needs a wrap, which would be longer than a message may be
abbrev pub is_long : HeadValue → Option Moment → (max_len : ℕ) → List ℕ → Bool
is_long h stamp max_len message = needs_wrap message && nat_lt max_len (length (wrap_text h stamp message))

-- the place of the first message whose wrap would be too long
abbrev pub first_long : (wraps : Bool) → HeadValue → Option Moment → (max_len : ℕ) → List (List ℕ) → Option ℕ
first_long false h stamp max_len messages = None
first_long true h stamp max_len messages = position (is_long h stamp max_len) messages

abbrev pub has_lf : List ℕ → Bool
has_lf message = list_any (λ octet. octet == lf) message

-- the place of the first message that isn't one line, where lines are written
abbrev pub first_no_line : Form → List (List ℕ) → Option ℕ
first_no_line Frames messages = None
first_no_line Lines messages = position has_lf messages

-- E2, and then O11
abbrev pub unfit : Form → (wraps : Bool) → HeadValue → Option Moment → (max_len : ℕ) → List (List ℕ) → Option SignFault
unfit form wraps h stamp max_len messages =
    option_or (option_map (λ place. Run (Extract (HoldsLf place))) (first_no_line form messages))
    (option_map (λ place. LongWrap place) (first_long wraps h stamp max_len messages))
