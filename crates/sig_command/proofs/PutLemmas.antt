-- How the pieces of a text that is put come together.
use Rattle.std.proofs.Common.{◌≡◌, sym, subst, ℕ, List, ◌++◌, Option, refl}
use Rattle.std.specs.Io.KnownBytes.{Appends}
use Rattle.std.proofs.KnownBytes.{Appends-trans}
use Rattle.sig_outside.specs.Causes.{AppendsPrefix}
use Rattle.sig_outside.proofs.CauseLemmas.{appends_then_prefix, prefix_longer}
use Rattle.sig_command.specs.declared.lines_end.LinesEnd.{LinesEnd}
use Rattle.sig_command.specs.declared.lines_end.LinesEnd.TheVariants.{Done, Stopped, Input, Output, Memory}
use Rattle.sig_command.specs.Telling.{PutSo}

-- a first piece was put whole, and the other ended so
pub put_join : (whole text piece : List ℕ) (old mid new : Option (List ℕ)) (e : LinesEnd) → whole ≡ text ++ piece → Appends old mid text
    → PutSo piece mid new e → PutSo whole old new e
put_join whole text piece old mid new Done is put h = subst (Appends old new) (sym is) (Appends-trans old mid new text piece put h)
put_join whole text piece old mid new (Stopped s) is put h = h
put_join whole text piece old mid new Input is put h = h
put_join whole text piece old mid new Output is put h = subst (AppendsPrefix old new) (sym is) (appends_then_prefix old mid new text piece put h)
put_join whole text piece old mid new Memory is put h = subst (AppendsPrefix old new) (sym is) (appends_then_prefix old mid new text piece put h)

-- where a piece ended it, so ended what begins with it
pub put_longer : (whole piece more : List ℕ) (old new : Option (List ℕ)) (e : LinesEnd) → whole ≡ piece ++ more → (e ≡ Done → ⊥)
    → PutSo piece old new e → PutSo whole old new e
put_longer whole piece more old new Done is ended h = absurd (ended refl)
put_longer whole piece more old new (Stopped s) is ended h = h
put_longer whole piece more old new Input is ended h = h
put_longer whole piece more old new Output is ended h = subst (AppendsPrefix old new) (sym is) (prefix_longer old new piece more h)
put_longer whole piece more old new Memory is ended h = subst (AppendsPrefix old new) (sym is) (prefix_longer old new piece more h)
