use Rattle.std.proofs.Common.{◌≡◌, ◌≤◌, ◌+◌, ◌-◌, ℕ, List, length, take, drop, arith, subst}
use Rattle.std.proofs.lemmas.List.{length-take, length-drop}
use Rattle.std.proofs.lemmas.Bool.{true≢false}
use Rattle.ss_payload.specs.Slots.{IsPut, NoneDiffers}
use Rattle.ss_payload.proofs.Runs.{more_put, more_differ, more_agree, part_is}
use Rattle.ss_payload.proofs.joiner.runs.Runs.put_all.Goals as goal

pub loop-start-preserved-then-put : goal.loop-start-preserved-then-put
loop-start-preserved-then-put c =
    let octets : List ℕ = c.args.fragment.now in
    let start : ℕ = c.loop-start.start in
    let end : ℕ = c.min-end.result in
    let within : end ≤ length octets = omega arith in
    let piece : List ℕ = take (end - start) (drop start octets) in
    let part = part_is octets start end within in
    let long : start + length piece ≡ end = omega (arith, length-take (end - start) (drop start octets), length-drop start octets) in
    record {
      within = within;
      room = λ j lt. c.put.ensures.kept _ (c.loop-start.invariant.room j lt);
      put = subst (IsPut c.args.self.now c.put.new.self c.args.index octets) long (more_put c.args.self.now c.loop-start.self c.put.new.self c.args.index start octets piece part c.loop-start.invariant.put c.put.ensures.put);
      some = λ _. more_differ c.args.self.now c.loop-start.self c.put.new.self c.args.index start octets piece part c.loop-start.invariant.put c.put.ensures.put (omega (arith, long, within)) (c.put.ensures.some c.if-put.true);
      none = λ f. absurd (true≢false f);
      kept = λ n h. c.put.ensures.kept n (c.loop-start.invariant.kept n h);
      alone = λ n h. c.loop-start.invariant.alone n (c.put.ensures.alone n h);
    }

pub loop-start-preserved : goal.loop-start-preserved
loop-start-preserved c =
    let octets : List ℕ = c.args.fragment.now in
    let start : ℕ = c.loop-start.start in
    let end : ℕ = c.min-end.result in
    let within : end ≤ length octets = omega arith in
    let piece : List ℕ = take (end - start) (drop start octets) in
    let part = part_is octets start end within in
    let long : start + length piece ≡ end = omega (arith, length-take (end - start) (drop start octets), length-drop start octets) in
    record {
      within = within;
      room = λ j lt. c.put.ensures.kept _ (c.loop-start.invariant.room j lt);
      put = subst (IsPut c.args.self.now c.put.new.self c.args.index octets) long (more_put c.args.self.now c.loop-start.self c.put.new.self c.args.index start octets piece part c.loop-start.invariant.put c.put.ensures.put);
      some = c.loop-start.invariant.some;
      none = λ f. subst (NoneDiffers c.args.self.now c.args.index octets) long (more_agree c.args.self.now c.loop-start.self c.put.new.self c.args.index start octets piece part c.loop-start.invariant.put c.put.ensures.put (c.loop-start.invariant.none f) (c.put.ensures.none c.if-put.false));
      kept = λ n h. c.put.ensures.kept n (c.loop-start.invariant.kept n h);
      alone = λ n h. c.loop-start.invariant.alone n (c.put.ensures.alone n h);
    }
