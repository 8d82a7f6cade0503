use Rattle.ss_review.proofs.laws.kept.logs_are_reviewed.Goals as goal

pub returns : goal.returns
returns c = λ says log.
    let ordered = c.reports_are_in_order.ensures says log in
    record {
      rise = ordered.sessions;
      groups = λ k d below. record { rise = ordered.groups k d below; within = c.next_numbers_are_in_range.ensures says log k d below };
      gbcs = c.counted_are_in_range.ensures says log;
    }
