use Rattle.std.proofs.Common.{◌≡◌, ◌-◌, length}
use Rattle.std.specs.Prelude.{vec_len, vec_capacity}
use Rattle.std.specs.Vec.Iter.{into_iter_items, into_iter_len}
use Rattle.sig_sessions.specs.Changes.{ArePlaced, updated_by}
use Rattle.sig_sessions.proofs.changing.update_rows.Given as goal

abbrev pub invariant-loop-update : goal.invariant-loop-update
invariant-loop-update l = record {
  rest : updated_by (into_iter_items l.update-iterator) l.rows.items ≡ updated_by (into_iter_items l.initial.update-iterator) l.fn.rows.items;
  placed : ArePlaced (length l.rows.items) (into_iter_items l.update-iterator);
  ended : into_iter_len l.update-iterator ≡ length (into_iter_items l.update-iterator);
  count : length l.rows.items ≡ length l.fn.rows.items;
  room : vec_capacity l.rows - vec_len l.rows ≡ vec_capacity l.fn.rows - vec_len l.fn.rows;
}
