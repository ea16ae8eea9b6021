use Rattle.std.proofs.Common.{◌≡◌, [], ◌∷◌, List, ℕ, ◌∙◌, ap, rules}
use Rattle.sig_journal.specs.declared.layout.TheConstants.{GATE_OPEN}
use Rattle.sig_journal.specs.Layout.{new_bytes}
use Rattle.sig_journal.specs.Store.{tells}
use Rattle.sig_journal.proofs.NewStores.{new_tells}
use Rattle.sig_journal.proofs.making.make.Goals as goal

pub returns-clause-tells : goal.returns-clause-tells
returns-clause-tells g c = λ told_a told_b.
    let first : g.D.Disk.seen c.write_synced-3.new.file ≡ GATE_OPEN ∷ new_bytes c.args.kind c.args.store_id = search rules in
    let second : g.D.Disk.seen c.write_synced-2.new.file ≡ 0 ∷ [] = search rules in
    ap (λ (l : List ℕ). tells c.args.kind l (g.D.Disk.seen c.write_synced-2.new.file)) first
    ∙ ap (λ (l : List ℕ). tells c.args.kind (GATE_OPEN ∷ new_bytes c.args.kind c.args.store_id) l) second
    ∙ new_tells c.args.kind c.args.store_id c.closed_file.ensures.named
