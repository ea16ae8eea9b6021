use Rattle.std.proofs.Common.{◌≡◌, List, ℕ, [], ◌∷◌, ◌++◌, length, true, false, ◌==◌, sym, ap, ◌∙◌, append_assoc, append-nil, arith}
use Rattle.std.specs.Prelude.{codes}
use Rattle.std.proofs.lemmas.Bool.{eqb-true}
use Rattle.std.proofs.lemmas.Result.{IfOk-equal, IfOk-from_err}
use Rattle.sig_http.specs.Spelling.{query_part}
use Rattle.sig_http.proofs.writing.add_query.Goals as goal

no_query : (old query : List ℕ) → (length query == 0) ≡ true → old ≡ old ++ query_part query
no_query old [] e = sym (append-nil old)
no_query old (b ∷ query) e = let none : length (b ∷ query) ≡ 0 = eqb-true (length (b ∷ query)) 0 e in absurd (omega arith)

some_query : (old marked query bytes : List ℕ) → marked ≡ old ++ codes "?" → bytes ≡ query → (length query == 0) ≡ false → marked ++ bytes ≡ old ++ query_part query
some_query old marked [] bytes e f some = absurd cc
some_query old marked (b ∷ query) bytes e f some = ap (λ l. l ++ bytes) e ∙ append_assoc old (codes "?") bytes ∙ ap (λ l. old ++ (codes "?" ++ l)) f

pub returns-then-is_empty : goal.returns-then-is_empty
returns-then-is_empty c = no_query c.args.text.now c.args.query.now (sym c.is_empty.ensures ∙ c.if-is_empty.true)

pub returns-in_err-add : goal.returns-in_err-add
returns-in_err-add c = IfOk-from_err c.from_residual.result _ c.from_residual.ensures.0

pub returns : goal.returns
returns c =
    IfOk-equal c.add-2.result c.add-2.new.self _ _ c.add-2.ensures.ok
    (some_query c.args.text.now c.add.new.self c.args.query.now c.as_bytes.result.now c.in_ok-add.ensures.ok c.as_bytes.ensures.value (sym c.is_empty.ensures ∙ c.if-is_empty.false))
