-- A message that gets SIGN stays one.
use Rattle.std.proofs.Common.{◌≡◌, ℕ, Bool, true, false, cond, List, [], ◌∷◌, ◌++◌, refl, ap, ◌∙◌}
use Rattle.std.specs.Prelude.{◌&&◌, not}
use Rattle.std.specs.List.{list_all}
use Rattle.std.proofs.lemmas.Bool.{and_parts, and_from}
use Rattle.ss_message.specs.Octets.{is_name}
use Rattle.ss_message.specs.Raw.{is_raw}
use Rattle.ss_message.specs.Message.{ParameterValue, ElementValue, MessageValue, IsMessage, has_names, has_raws, is_among, are_new}
use Rattle.ss_block.specs.Signed.{is_block_id}
use Rattle.ss_signed.specs.Completed.{some_sign, completed_element, completed_elements, completed_value}
use Rattle.ss_signed.proofs.Signs.{sign_name, sign_raw}

-- one more parameter at the end
one_more : (p : ParameterValue → Bool) (ps : List ParameterValue) (q : ParameterValue) → list_all p ps ≡ true → p q ≡ true → list_all p (ps ++ q ∷ []) ≡ true
one_more p [] q all last = and_from (p q) true last refl
one_more p (x ∷ ps) q all last =
    let t = and_parts (p x) (list_all p ps) all in
    and_from (p x) (list_all p (ps ++ q ∷ [])) t.0 (one_more p ps q t.1 last)

names : (e : ElementValue) → has_names e ≡ true → has_names (completed_element e) ≡ true
names e h =
    let t = and_parts (is_name e.id) (list_all (λ (p : ParameterValue). is_name p.name) e.parameters) h in
    and_from (is_name e.id) (list_all (λ (p : ParameterValue). is_name p.name) (e.parameters ++ some_sign ∷ [])) t.0 (one_more (λ (p : ParameterValue). is_name p.name) e.parameters some_sign t.1 sign_name)

raws : (e : ElementValue) → has_raws e ≡ true → has_raws (completed_element e) ≡ true
raws e h = one_more (λ (p : ParameterValue). is_raw p.raw) e.parameters some_sign h sign_raw

-- what holds of an element with SIGN and of all elements
all_completed : (p : ElementValue → Bool) → ((e : ElementValue) → p e ≡ true → p (completed_element e) ≡ true) → (es : List ElementValue) → list_all p es ≡ true → list_all p (completed_elements es) ≡ true
all_completed p more [] h = refl
all_completed p more (e ∷ es) h = by_test p more e es (is_block_id e.id) (and_parts (p e) (list_all p es) h) (λ k. all_completed p more es k)
  where
    by_test : (p : ElementValue → Bool) → ((e : ElementValue) → p e ≡ true → p (completed_element e) ≡ true) → (e : ElementValue) (es : List ElementValue) (b : Bool) → (p e ≡ true) × (list_all p es ≡ true)
        → (list_all p es ≡ true → list_all p (completed_elements es) ≡ true) → list_all p (cond b (completed_element e ∷ es) (e ∷ completed_elements es)) ≡ true
    by_test p more e es true t rest = and_from (p (completed_element e)) (list_all p es) (more e t.0) t.1
    by_test p more e es false t rest = and_from (p e) (list_all p (completed_elements es)) t.0 (rest t.1)

same_new : (ids : List (List ℕ)) (es : List ElementValue) → are_new ids (completed_elements es) ≡ are_new ids es
same_new ids [] = refl
same_new ids (e ∷ es) = by_test ids e es (is_block_id e.id) (same_new (e.id ∷ ids) es)
  where
    by_test : (ids : List (List ℕ)) (e : ElementValue) (es : List ElementValue) (b : Bool) → are_new (e.id ∷ ids) (completed_elements es) ≡ are_new (e.id ∷ ids) es
        → are_new ids (cond b (completed_element e ∷ es) (e ∷ completed_elements es)) ≡ are_new ids (e ∷ es)
    by_test ids e es true rest = refl
    by_test ids e es false rest = ap (λ (b : Bool). not (is_among ids e.id) && b) rest

pub completed_valid : (v : MessageValue) → IsMessage v → IsMessage (completed_value v)
completed_valid v valid = record {
  pri = valid.pri;
  stamp = valid.stamp;
  hostname = valid.hostname;
  app_name = valid.app_name;
  procid = valid.procid;
  msgid = valid.msgid;
  names = all_completed has_names names v.elements valid.names;
  raws = all_completed has_raws raws v.elements valid.raws;
  ids = same_new [] v.elements ∙ valid.ids;
  msg = valid.msg;
}
