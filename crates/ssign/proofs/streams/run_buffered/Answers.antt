use Rattle.std.proofs.Common.{Err, ap, refl, inl, inr}
use Rattle.std.specs.Io.KnownBytes.{prepend_known}
use Rattle.std.proofs.lemmas.Result.{IfErr-weaker}
use Rattle.ss_frame.specs.Buffered.{behind, waiting}
use Rattle.ss_report.specs.declared.fault.RunFault.{RunFault}
use Rattle.ssign.specs.GivenFiles.{files_of}
use Rattle.ssign.specs.declared.refusal.Refusal.TheVariants as refusals
use Rattle.ssign.proofs.Endings.{ends_over, is_fresh}
use Rattle.ssign.proofs.streams.run_buffered.Goals as goal

pub returns-in-Err : goal.returns-in-Err
returns-in-Err g c = inl (record { refused = ap (λ (fault : RunFault). Err (refusals.Run fault)) c.in-Err.ensures.opened; untouched = refl; unopened = refl })

pub returns : goal.returns
returns g c =
    let begun = is_fresh g.I.Read.remaining c.in-Ok.reader c.args.input c.in-Ok.ensures.given.0 c.in-Ok.ensures.given.1 c.in-Ok.ensures.opened.0 in
    inr (ends_over (λ b. prepend_known (waiting b) (g.I.Read.remaining (behind b))) g.W.Write.contents (files_of g.F.GivenFiles.contents g.F.GivenFiles.written c.args.files.now) (files_of g.F.GivenFiles.contents g.F.GivenFiles.written c.run_order.new.files) c.args.tables c.args.options.now c.args.order
    c.in-Ok.reader c.run_order.new.reader c.args.writer.now c.run_order.new.writer (g.I.Read.remaining c.args.input) c.run_order.result begun
    c.run_order.ensures.ends c.run_order.ensures.unread c.run_order.ensures.untouched
    (λ none. ap g.F.GivenFiles.written (c.run_order.ensures.unasked none))
    (IfErr-weaker c.run_order.result _ _ (λ refusal kept before. ap g.F.GivenFiles.written (kept before)) c.run_order.ensures.unopened))
