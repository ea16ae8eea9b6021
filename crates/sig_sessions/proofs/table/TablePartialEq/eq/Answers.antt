use Rattle.std.proofs.lemmas.Bool.Decides.{same_from_decides}
use Rattle.std.proofs.lemmas.Slice.Eq.{slice_eq-Decides}
use Rattle.std.proofs.Common.{refl}
use Rattle.sig_sessions.proofs.EqualRows.{row_eq_Decides}
use Rattle.sig_sessions.proofs.table.TablePartialEq.eq.Goals as goal

pub returns : goal.returns
returns c = same_from_decides _ _ c.has_same_rows.ensures (slice_eq-Decides row_eq_Decides _ _ _ refl)
