-- A message without the SIGN of its block stays one.
use Rattle.std.proofs.Common.{◌≡◌, ℕ, zero, suc, Bool, true, false, cond, List, [], ◌∷◌, take, map, refl, ap, ◌∙◌}
use Rattle.std.specs.Prelude.{◌&&◌, not}
use Rattle.std.specs.List.{list_all}
use Rattle.std.proofs.lemmas.Bool.{and_parts, and_from}
use Rattle.ss_message.specs.Octets.{is_name}
use Rattle.ss_message.specs.Raw.{is_raw}
use Rattle.ss_message.specs.Message.{ParameterValue, ElementValue, MessageValue, IsMessage, has_names, has_raws, is_among, are_new}
use Rattle.ss_block.specs.Signed.{is_block_id, unsigned_element, unsigned_value}

-- the first of them
some_first : (p : ParameterValue → Bool) (n : ℕ) (ps : List ParameterValue) → list_all p ps ≡ true → list_all p (take n ps) ≡ true
some_first p zero ps all = refl
some_first p (suc n) [] all = refl
some_first p (suc n) (x ∷ ps) all =
    let t = and_parts (p x) (list_all p ps) all in
    and_from (p x) (list_all p (take n ps)) t.0 (some_first p n ps t.1)

abbrev shorter : ElementValue → ElementValue
shorter e = record { id = e.id; parameters = take 8 e.parameters }

names : (e : ElementValue) → has_names e ≡ true → has_names (shorter e) ≡ true
names e h =
    let t = and_parts (is_name e.id) (list_all (λ (p : ParameterValue). is_name p.name) e.parameters) h in
    and_from (is_name e.id) (list_all (λ (p : ParameterValue). is_name p.name) (take 8 e.parameters)) t.0 (some_first (λ (p : ParameterValue). is_name p.name) 8 e.parameters t.1)

raws : (e : ElementValue) → has_raws e ≡ true → has_raws (shorter e) ≡ true
raws e h = some_first (λ (p : ParameterValue). is_raw p.raw) 8 e.parameters h

all_unsigned : (p : ElementValue → Bool) → ((e : ElementValue) → p e ≡ true → p (shorter e) ≡ true) → (es : List ElementValue) → list_all p es ≡ true → list_all p (map unsigned_element es) ≡ true
all_unsigned p less [] h = refl
all_unsigned p less (e ∷ es) h =
    let t = and_parts (p e) (list_all p es) h in
    and_from (p (unsigned_element e)) (list_all p (map unsigned_element es)) (by_test p less e (is_block_id e.id) t.0) (all_unsigned p less es t.1)
  where
    by_test : (p : ElementValue → Bool) → ((e : ElementValue) → p e ≡ true → p (shorter e) ≡ true) → (e : ElementValue) (b : Bool) → p e ≡ true → p (cond b (shorter e) e) ≡ true
    by_test p less e true h = less e h
    by_test p less e false h = h

same_id : (e : ElementValue) → (unsigned_element e).id ≡ e.id
same_id e = by_test e (is_block_id e.id)
  where
    by_test : (e : ElementValue) (b : Bool) → (cond b (shorter e) e).id ≡ e.id
    by_test e true = refl
    by_test e false = refl

same_new : (ids : List (List ℕ)) (es : List ElementValue) → are_new ids (map unsigned_element es) ≡ are_new ids es
same_new ids [] = refl
same_new ids (e ∷ es) =
    ap (λ (id : List ℕ). not (is_among ids id) && are_new (id ∷ ids) (map unsigned_element es)) (same_id e) ∙ ap (λ (b : Bool). not (is_among ids e.id) && b) (same_new (e.id ∷ ids) es)

pub unsigned_valid : (v : MessageValue) → IsMessage v → IsMessage (unsigned_value v)
unsigned_valid v valid = record {
  pri = valid.pri;
  stamp = valid.stamp;
  hostname = valid.hostname;
  app_name = valid.app_name;
  procid = valid.procid;
  msgid = valid.msgid;
  names = all_unsigned has_names names v.elements valid.names;
  raws = all_unsigned has_raws raws v.elements valid.raws;
  ids = same_new [] v.elements ∙ valid.ids;
  msg = valid.msg;
}
