-- A TIMESTAMP ends at the first SP.
use Rattle.std.proofs.Common.{◌≡◌, ℕ, ◌+◌, Bool, true, false, cond, List, [], ◌∷◌, ◌++◌, length, drop, Option, Some, None, Ok, Err, refl, sym, ap, arith}
use Rattle.std.specs.Prelude.{ok_or}
use Rattle.std.specs.List.{prefix_len}
use Rattle.std.proofs.lemmas.List.{drop_at}
use Rattle.ss_message.specs.declared.fault.BadPart.{BadPart}
use Rattle.ss_message.specs.Octets.{is_no_space}
use Rattle.ss_message.specs.Stamp.{Moment}
use Rattle.ss_message.specs.Message.{timestamp_text, is_timestamp}
use Rattle.ss_message.specs.Reading.{◌>>=◌, timestamp_at}
use Rattle.ss_message.proofs.Standing.{stands_from}
use Rattle.ss_message.proofs.Fields.{timestamp_again}

end_is : (fails absent : Bool) (stamp : Option Moment) (end : ℕ) (f g : BadPart) (x : Option Moment × ℕ)
    → cond fails (Err f) (cond absent (Ok (None, end)) (ok_or stamp g >>= λ m. Ok (Some m, end))) ≡ Ok x → x.1 ≡ end
end_is true absent stamp end f g x e = absurd cc
end_is false true stamp end f g x e = let same : (None, end) ≡ x = cc in sym (ap (λ (y : Option Moment × ℕ). y.1) same)
end_is false false (Some m) end f g x e = let same : (Some m, end) ≡ x = cc in sym (ap (λ (y : Option Moment × ℕ). y.1) same)
end_is false false None end f g x e = absurd cc

-- what is read up to the first SP ends there
ends_at_space : (text : List ℕ) (x : Option Moment × ℕ) → timestamp_at text 0 ≡ Ok x → x.1 ≡ 0 + prefix_len is_no_space text
unfolding timestamp_at
ends_at_space text x e = end_is _ _ _ _ _ _ x e

pub stamp_ends : (s : Option Moment) (rest : List ℕ) → is_timestamp s ≡ true → prefix_len is_no_space (timestamp_text s ++ 32 ∷ rest) ≡ length (timestamp_text s)
stamp_ends s rest valid =
    let text : List ℕ = timestamp_text s ++ 32 ∷ rest in
    let end : ℕ = 0 + length (timestamp_text s) in
    let space : drop end text ≡ 32 ∷ rest = drop_at (timestamp_text s) (32 ∷ rest) end (omega arith) in
    let read = timestamp_again text 0 s end (end + 1) (stands_from text 0 (timestamp_text s) (32 ∷ rest) refl) (stands_from text end (32 ∷ []) rest space) valid in
    omega (arith, ends_at_space text (s, end) read)
