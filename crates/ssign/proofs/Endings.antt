-- How an order ends that reads through a buffer.
use Rattle.std.proofs.Common.{◌≡◌, ◌∙◌, Bool, true, false, ℕ, List, [], Option, Some, None, Result, ap, ap₂, refl, subst}
use Rattle.std.specs.Prelude.{IfErr}
use Rattle.std.specs.Io.KnownBytes.{prepend_known}
use Rattle.std.proofs.lemmas.Result.{IfErr-weaker}
use Rattle.clap.specs.declared.parser.matches.ArgMatches.{ArgMatches}
use Rattle.ss_frame.specs.Buffered.{behind, waiting}
use Rattle.ss_frame.specs.Watched.{Source, has_failed, inner_of, sink_of, source_of}
use Rattle.ss_frame.specs.declared.buffered.Buffered.{Buffered}
use Rattle.ss_frame.specs.declared.watched.Watched.{Watched}
use Rattle.ss_report.specs.declared.verdict.verdict.Verdict.{Verdict}
use Rattle.ssign.specs.GivenFiles.{Files}
use Rattle.ssign.specs.Orders.{Ends, questions_path}
use Rattle.ssign.specs.Outcome.{EndsOver, fresh}
use Rattle.ssign.specs.Refusal.{is_before_questions, is_before_run, may_have_written}
use Rattle.ssign.specs.declared.command_line.Order.{Order}
use Rattle.ssign.specs.declared.explanations.Tables.{Tables}
use Rattle.ssign.specs.declared.refusal.Refusal.{Refusal}

-- nothing stands in front of the known octets
none_waiting : (known : Option (List ℕ)) → prepend_known [] known ≡ known
none_waiting None = refl
none_waiting (Some octets) = refl

-- what an empty buffer in front of a reader has is what the reader has
pub is_fresh : {I : Type 0} (remaining : I → Option (List ℕ)) (reader : Watched (Buffered I)) (input : I) → behind (inner_of reader) ≡ input
    → waiting (inner_of reader) ≡ [] → has_failed reader ≡ false
    → source_of (λ (b : Buffered I). prepend_known (waiting b) (remaining (behind b))) reader ≡ fresh (remaining input)
is_fresh remaining reader input same none sound =
    let left : prepend_known (waiting (inner_of reader)) (remaining (behind (inner_of reader))) ≡ remaining input =
    ap₂ prepend_known none (ap remaining same) ∙ none_waiting (remaining input) in
    ap₂ (λ (known : Option (List ℕ)) (failed : Bool). record { left = known; failed = failed }) left sound

-- what an order does with a reader that has these octets
pub ends_over : {T W : Type 0} (remaining : T → Option (List ℕ)) (contents : W → Option (List ℕ)) (given made : Files) (tables : Tables)
    (m : ArgMatches) (order : Order) (old new : Watched T) (was is : Watched W) (known : Option (List ℕ)) (ended : Result Verdict Refusal)
    → source_of remaining old ≡ fresh known
    → Ends given made tables m order (source_of remaining old) (source_of remaining new) (sink_of contents was) (sink_of contents is) ended
    → IfErr ended (λ refusal. is_before_run refusal ≡ true → new ≡ old)
    → IfErr ended (λ refusal. may_have_written refusal ≡ false → is ≡ was)
    → (questions_path order m ≡ None → made.written ≡ given.written)
    → IfErr ended (λ refusal. is_before_questions refusal ≡ true → made.written ≡ given.written)
    → EndsOver given made tables m order known (sink_of contents was) (sink_of contents is) ended
ends_over remaining contents given made tables m order old new was is known ended begun ends unread untouched unasked unopened = record {
  after = source_of remaining new;
  ends = subst (λ (before : Source). Ends given made tables m order before (source_of remaining new) (sink_of contents was) (sink_of contents is) ended) begun ends;
  unread = IfErr-weaker ended _ _ (λ refusal kept before. ap (source_of remaining) (kept before) ∙ begun) unread;
  untouched = IfErr-weaker ended _ _ (λ refusal kept written. ap (sink_of contents) (kept written)) untouched;
  unasked = unasked;
  unopened = unopened;
}
