-- How the pieces of a table come together.
use Rattle.std.proofs.Common.{◌≡◌, ◌∙◌, ap, sym, ℕ, ◌+◌, ◌<◌, List, ◌∷◌, ◌++◌, length, get_or, drop, arith, append_assoc, add-one}
use Rattle.std.proofs.Math.Seq.{drop-cons}
use Rattle.sig_receiver.specs.Printed.{row_text, rows_text}
use Rattle.sig_sessions.specs.declared.row.Row.{Row}

-- the next row's line, and then those of the rows after it
pub rows_text-next : (rows : List Row) (i place : ℕ) (r : Row) → i < length rows → r ≡ get_or rows i r
    → rows_text place (drop i rows) ≡ row_text place r ++ rows_text (place + 1) (drop (i + 1) rows)
rows_text-next rows i place r within is =
    ap (rows_text place) (drop-cons rows i r within ∙ ap (λ k. get_or rows i r ∷ drop k rows) (sym (add-one i)))
    ∙ ap (λ first. row_text place first ++ rows_text (place + 1) (drop (i + 1) rows)) (sym is)

-- what was put and gathered, with the next row
pub row_added : (text gathered row more whole : List ℕ) → (text ++ gathered) ++ (row ++ more) ≡ whole → whole ≡ (text ++ (gathered ++ row)) ++ more
row_added text gathered row more whole is = sym is ∙ grind (arith, append_assoc)

-- the next row is gathered, and a part of that is put
pub row_put : (text put gathered' gathered row more whole : List ℕ) → put ++ gathered' ≡ gathered ++ row → whole ≡ (text ++ (gathered ++ row)) ++ more
    → ((text ++ put) ++ gathered') ++ more ≡ whole
row_put text put gathered' gathered row more whole parts is =
    ap (λ l. l ++ more) (append_assoc text put gathered' ∙ ap (λ l. text ++ l) parts) ∙ sym is

-- the rows are put or gathered, and the counts follow
pub counts_follow : (text gathered' gathered rows counts : List ℕ) → text ++ gathered' ≡ gathered ++ rows → gathered ++ (rows ++ counts) ≡ text ++ (gathered' ++ counts)
counts_follow text gathered' gathered rows counts is =
    sym (append_assoc gathered rows counts) ∙ ap (λ l. l ++ counts) (sym is) ∙ append_assoc text gathered' counts
