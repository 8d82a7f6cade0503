use Rattle.std.proofs.Common.{sym, ◌∙◌}
use Rattle.std.proofs.lemmas.Option.{same_Some}
use Rattle.ss_review.proofs.laws.reports.reports_list_what_is_announced.Goals as goal

pub returns : goal.returns
returns c = λ says log. record {
  listed = λ k place. c.listed_are_assigned.ensures says log k place;
  due = λ k place. (
    λ l. (c.assigned_where_due.ensures says log k place).0 ((c.listed_are_assigned.ensures says log k place).0 l),
    λ d. (c.listed_are_assigned.ensures says log k place).1 ((c.assigned_where_due.ensures says log k place).1 d),
  );
  witnessed = λ k place. c.listed_are_witnessed.ensures says log k place;
  number_once = λ k place other e f. same_Some place other (sym ((c.listed_are_assigned.ensures says log k place).0 e) ∙ (c.listed_are_assigned.ensures says log k other).0 f);
  message_once = λ k j place e f. c.places_have_one_key.ensures says log k j place ((c.listed_are_assigned.ensures says log k place).0 e) ((c.listed_are_assigned.ensures says log j place).0 f);
  rising = c.reports_are_in_order.ensures says log;
  gaps = λ k. c.gaps_are_unassigned.ensures says log k;
}
