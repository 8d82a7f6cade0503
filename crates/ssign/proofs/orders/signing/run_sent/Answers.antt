use Rattle.std.proofs.Common.{◌≡◌, false, true, Some, Ok, Err, inl, inr}
use Rattle.ssign.specs.declared.start.StartRefusal.TheVariants as starts
use Rattle.ssign.proofs.GivenPaths.{at_path, start_at}
use Rattle.ssign.proofs.Limits.{limits_given}
use Rattle.ssign.proofs.orders.signing.run_sent.Goals as goal

pub returns-in-None-clause-ends : goal.returns-in-None-clause-ends
returns-in-None-clause-ends g c = inl c.in-None.ensures.value

pub returns-in-None-settings_of-clause-ends : goal.returns-in-None-settings_of-clause-ends
returns-in-None-settings_of-clause-ends g c =
    let limits = limits_given c.args.options.now (Some c.in-Some.limits) c.in-Some.ensures.value c.in-Some.ensures.numbers in
    inr (
      (c.in-Some.limits, limits),
      λ choices texts chosen given.
          let bad : false ≡ true = c.in-None-settings_of.ensures.only choices texts chosen given in
          absurd cc,
    )

pub returns-in-Some-Err-clause-ends : goal.returns-in-Some-Err-clause-ends
returns-in-Some-Err-clause-ends g c =
    let limits = limits_given c.args.options.now (Some c.in-Some.limits) c.in-Some.ensures.value c.in-Some.ensures.numbers in
    ((c.in-Some.limits, limits), rw c.in-Some-Err.field-0-is at c.in-Some-Err.ensures.read)

pub returns-in-Err-File-clause-ends : goal.returns-in-Err-File-clause-ends
returns-in-Err-File-clause-ends g c =
    let files = g.F.GivenFiles.contents c.args.files.now in
    let limits = limits_given c.args.options.now (Some c.in-Some.limits) c.in-Some.ensures.value c.in-Some.ensures.numbers in
    let given = start_at files c.in-Some-Ok.settings.config (Err (starts.File c.in-Err-File.fault)) c.resume_file.ensures (rw c.in-Err-File.field-0-is at c.in-Err-File.ensures) in
    rw c.in-Err-File.field-0-is ((c.in-Some.limits, limits), (c.in-Some-Ok.settings, (rw c.in-Some-Ok.field-0-is at c.in-Some-Ok.ensures.read), given))

pub returns-in-Err-Counters-clause-ends : goal.returns-in-Err-Counters-clause-ends
returns-in-Err-Counters-clause-ends g c =
    let files = g.F.GivenFiles.contents c.args.files.now in
    let limits = limits_given c.args.options.now (Some c.in-Some.limits) c.in-Some.ensures.value c.in-Some.ensures.numbers in
    let given = start_at files c.in-Some-Ok.settings.config (Err (starts.Counters c.in-Err-Counters.fault)) c.resume_file.ensures (rw c.in-Err-Counters.field-0-is at c.in-Err-Counters.ensures) in
    rw c.in-Err-Counters.field-0-is ((c.in-Some.limits, limits), (c.in-Some-Ok.settings, (rw c.in-Some-Ok.field-0-is at c.in-Some-Ok.ensures.read), given))

pub returns-in-Err-clause-ends : goal.returns-in-Err-clause-ends
returns-in-Err-clause-ends g c =
    let files = g.F.GivenFiles.contents c.args.files.now in
    let limits = limits_given c.args.options.now (Some c.in-Some.limits) c.in-Some.ensures.value c.in-Some.ensures.numbers in (
      (c.in-Some.limits, limits),
      (c.in-Some-Ok.settings, c.in-Ok.start, (rw c.in-Some-Ok.field-0-is at c.in-Some-Ok.ensures.read), start_at files c.in-Some-Ok.settings.config (Ok c.in-Ok.start) c.resume_file.ensures c.in-Ok.ensures),
      at_path files.answers (Err c.in-Err.fault) c.answers_file.ensures c.in-Err.ensures,
    )

pub returns-in-Ok-run_signing-clause-ends : goal.returns-in-Ok-run_signing-clause-ends
returns-in-Ok-run_signing-clause-ends g c =
    let files = g.F.GivenFiles.contents c.args.files.now in (
      record {
        limits = c.in-Some.limits;
        settings = c.in-Some-Ok.settings;
        sending = c.sending_of.result;
        start = c.in-Ok.start;
        answers = c.in-Ok-answers_in.answers;
      },
      record {
        limits = limits_given c.args.options.now (Some c.in-Some.limits) c.in-Some.ensures.value c.in-Some.ensures.numbers;
        settings = rw c.in-Some-Ok.field-0-is at c.in-Some-Ok.ensures.read;
        sending = c.sending_of.ensures;
        start = start_at files c.in-Some-Ok.settings.config (Ok c.in-Ok.start) c.resume_file.ensures c.in-Ok.ensures;
        answers = at_path files.answers (Ok c.in-Ok-answers_in.answers) c.answers_file.ensures c.in-Ok-answers_in.ensures;
      },
      c.in-Ok-run_signing.ensures.signed,
    )

pub returns-in-Err-run_signing-clause-ends : goal.returns-in-Err-run_signing-clause-ends
returns-in-Err-run_signing-clause-ends g c =
    let files = g.F.GivenFiles.contents c.args.files.now in (
      record {
        limits = c.in-Some.limits;
        settings = c.in-Some-Ok.settings;
        sending = c.sending_of.result;
        start = c.in-Ok.start;
        answers = c.in-Ok-answers_in.answers;
      },
      record {
        limits = limits_given c.args.options.now (Some c.in-Some.limits) c.in-Some.ensures.value c.in-Some.ensures.numbers;
        settings = rw c.in-Some-Ok.field-0-is at c.in-Some-Ok.ensures.read;
        sending = c.sending_of.ensures;
        start = start_at files c.in-Some-Ok.settings.config (Ok c.in-Ok.start) c.resume_file.ensures c.in-Ok.ensures;
        answers = at_path files.answers (Ok c.in-Ok-answers_in.answers) c.answers_file.ensures c.in-Ok-answers_in.ensures;
      },
      c.in-Err-run_signing.ensures.stopped,
    )
