use Rattle.std.proofs.Common.{◌≡◌, ◌∙◌, ◌++◌, ap, append_assoc, ℕ, List, Ok, Err, Result}
use Rattle.std.specs.Prelude.{OnOk}
use Rattle.sig_txend.proofs.counting.put_counted.Goals as goal

-- one part more after what was put
put_on : (a b c p q : List ℕ) → b ≡ a ++ p → c ≡ b ++ q → c ≡ a ++ (p ++ q)
put_on a b c p q one two = two ∙ ap (λ (l : List ℕ). l ++ q) one ∙ append_assoc a p q

where_ok : {T E P Q : Type 0} (result : Result T E) → (P → Q) → OnOk result P → OnOk result Q
where_ok (Ok x) f p = f p
where_ok (Err e) f p = tt

pub returns : goal.returns
returns c =
    let records = put_on _ _ _ _ _ c.in_ok-put.ensures c.in_ok-put_records.ensures in
    let bytes = put_on _ _ _ _ _ records c.in_ok-put_bytes.ensures in
    let late = put_on _ _ _ _ _ bytes c.in_ok-put_late.ensures in
    where_ok c.put_due.result (put_on _ _ _ _ _ late) c.put_due.ensures
