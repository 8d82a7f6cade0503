use Rattle.ss_frame.specs.Watched.{sink_of}
use Rattle.ss_live.specs.Replies.{reply_frames}
use Rattle.ss_live.specs.Served.{written}
use Rattle.ss_live.proofs.Appending.{writes_then}
use Rattle.ss_live.proofs.Going.{leaves_moves, moves_then}
use Rattle.ss_live.proofs.Whole.{leaves_failed, leaves_unread, leaves_whole}
use Rattle.ss_live.proofs.life.run_live.Goals as goal

pub returns-in_err-seconds-clause-any_moment : goal.returns-in_err-seconds-clause-any_moment
returns-in_err-seconds-clause-any_moment g c =
    let d = g.D.Disk in leaves_unread d.seen d.may_leave d.moment d.left_since g.met.D.Disk.only_now c.args.engine.now.journal

pub returns-in_err-answer-clause-any_moment : goal.returns-in_err-answer-clause-any_moment
returns-in_err-answer-clause-any_moment g c =
    let d = g.D.Disk in leaves_failed d.seen d.may_leave d.moment d.left_since c.args.engine.now.journal c.begin.new.self.journal c.begin.ensures.any_moment

pub returns-in_err-answer_begun-clause-any_moment : goal.returns-in_err-answer_begun-clause-any_moment
returns-in_err-answer_begun-clause-any_moment g c =
    let d = g.D.Disk in
    leaves_whole d.seen d.may_leave d.moment d.left_since c.args.engine.now.journal c.begin.new.self.journal c.answer_begun.new.engine.journal c.begin.ensures.any_moment c.in_ok-answer.ensures.begun.wakes c.answer_begun.ensures.any_moment

pub returns-in_err-serve_live-clause-any_moment : goal.returns-in_err-serve_live-clause-any_moment
returns-in_err-serve_live-clause-any_moment g c =
    let d = g.D.Disk in
    let mid = c.begin.new.self.journal in
    let new = c.serve_live.new.engine.journal in
    leaves_whole d.seen d.may_leave d.moment d.left_since c.args.engine.now.journal mid new c.begin.ensures.any_moment c.in_ok-answer.ensures.begun.wakes
    (leaves_moves d.seen d.may_leave d.moment d.left_since mid c.answer_begun.new.engine.journal new c.in_ok-answer_begun.ensures.moves c.answer_begun.ensures.any_moment c.serve_live.ensures.any_moment)

pub returns-clause-any_moment : goal.returns-clause-any_moment
returns-clause-any_moment g c =
    let d = g.D.Disk in
    let mid = c.begin.new.self.journal in
    let new = c.serve_live.new.engine.journal in
    leaves_whole d.seen d.may_leave d.moment d.left_since c.args.engine.now.journal mid new c.begin.ensures.any_moment c.in_ok-answer.ensures.begun.wakes
    (leaves_moves d.seen d.may_leave d.moment d.left_since mid c.answer_begun.new.engine.journal new c.in_ok-answer_begun.ensures.moves c.answer_begun.ensures.any_moment c.serve_live.ensures.any_moment)

pub returns-clause-ran : goal.returns-clause-ran
returns-clause-ran g c =
    let d = g.D.Disk in
    let read = c.in_ok-seconds.ensures.read in
    let answered = c.in_ok-answer_begun.ensures.answered in
    let served = c.in_ok-serve_live.ensures.served in
    record {
      first = read.0;
      seconds = c.in_ok-seconds.seconds;
      stamp = c.in_ok-seconds.stamp;
      spells = read.1;
      rest = g.R.Read.remaining c.first_event.new.reader.inner;
      reads = read.2;
      begun = c.begin.new.self;
      reply = record { answer = c.in_ok-answer.answer; turned = answered.0 };
      begins = c.in_ok-answer.ensures.begun;
      next = c.answer_begun.new.engine;
      turns = answered.1;
      exchanges = served.0;
      served = served.1;
      taken = served.3;
      writes = writes_then (sink_of g.W.Write.contents c.args.writer.now) (sink_of g.W.Write.contents c.answer_begun.new.writer) (sink_of g.W.Write.contents c.serve_live.new.writer)
          (reply_frames (record { answer = c.in_ok-answer.answer; turned = answered.0 })) (written served.0) answered.2.0 served.2;
      moves = moves_then d.seen d.may_leave c.begin.new.self.journal c.answer_begun.new.engine.journal c.serve_live.new.engine.journal c.in_ok-answer_begun.ensures.moves c.in_ok-serve_live.ensures.moves;
    }
