use Rattle.std.proofs.Common.{◌≡◌, ◌-◌, inl, ℕ, List, [], ◌∷◌, length, refl, sym, ◌∙◌, ap, subst}
use Rattle.std.specs.Prelude.{is_ok, is_err}
use Rattle.sig_outside.specs.Disk.{Torn, with_bytes}
use Rattle.sig_journal.specs.declared.layout.TheConstants.{GATE_OPEN}
use Rattle.sig_journal.specs.Layout.{framed_bytes}
use Rattle.sig_journal.specs.Added.{ShowsAfter, ShowsEither}
use Rattle.sig_journal.specs.Durable.{TornFrom}
use Rattle.sig_journal.proofs.Adding.{torn_behind_shows, torn_gate_shows, open_gate_shows, on_ok, ok_or_err, rest_is, rests_behind, rests_after}
use Rattle.sig_journal.proofs.Moments.{joined, weaker}
use Rattle.sig_journal.proofs.added.add_record.Goals as goal

pub returns-in_err-write_synced-clause-any_moment : goal.returns-in_err-write_synced-clause-any_moment
returns-in_err-write_synced-clause-any_moment g c =
    let file = c.args.file.now in
    let before = g.D.Disk.seen file in
    let size = length c.bytes.result.now in
    λ told. weaker g.D.Disk.moment g.D.Disk.left_since file c.write_synced.new.file (TornFrom (g.D.Disk.may_leave file) c.args.end size) (ShowsEither before c.args.end c.args.framed.now) c.write_synced.ensures.moments
    (λ image torn kind content j. inl (torn_behind_shows before c.args.end c.args.framed.now c.bytes.ensures.bound c.requires.room size image
    (subst (λ (l : List ℕ). Torn c.args.end size l image) (c.requires.rests torn.0 torn.1) torn.2) kind content j))

pub returns-in_err-write_synced-clause-stop : goal.returns-in_err-write_synced-clause-stop
returns-in_err-write_synced-clause-stop g c =
    let file = c.args.file.now in
    let before = g.D.Disk.seen file in
    λ told. rests_behind before c.args.end c.args.framed.now c.bytes.ensures.bound c.requires.room c.bytes.result.now (g.D.Disk.seen c.write_synced.new.file) (g.D.Disk.stop file) (g.D.Disk.stop c.write_synced.new.file)
    (g.D.Disk.short c.write_synced.new.file) c.write_synced.result c.from_residual.result (rest_is (g.D.Disk.stop file) (g.D.Disk.may_leave file) before (g.met.D.Disk.rests file) c.requires.rests)
    (ap is_err c.in_err-write_synced.was) c.from_residual.ensures.0 c.write_synced.ensures.stop

pub returns-clause-added : goal.returns-clause-added
returns-clause-added g c =
    let file = c.args.file.now in
    let mid = c.write_synced.new.file in
    let before = g.D.Disk.seen file in
    on_ok c.write_synced-2.result
    (λ written told.
    let staged : g.D.Disk.seen mid ≡ with_bytes c.args.end (framed_bytes c.args.framed.now) before =
    c.in_ok-write_synced.ensures.written told ∙ ap (λ (l : List ℕ). with_bytes c.args.end l before) c.bytes.ensures.bytes in
    let opened = written (c.write_synced.ensures.kind.0 ∙ told) ∙ ap (λ (l : List ℕ). with_bytes (c.args.end - 1) (GATE_OPEN ∷ []) l) staged in
    subst (ShowsAfter before c.args.end c.args.framed.now) (sym opened) (open_gate_shows before c.args.end c.args.framed.now c.bytes.ensures.bound c.requires.room GATE_OPEN refl))
    c.write_synced-2.ensures.written

pub returns-clause-any_moment : goal.returns-clause-any_moment
returns-clause-any_moment g c =
    let file = c.args.file.now in
    let mid = c.write_synced.new.file in
    let before = g.D.Disk.seen file in
    let size = length c.bytes.result.now in
    λ told.
    let staged : g.D.Disk.seen mid ≡ with_bytes c.args.end (framed_bytes c.args.framed.now) before =
    c.in_ok-write_synced.ensures.written told ∙ ap (λ (l : List ℕ). with_bytes c.args.end l before) c.bytes.ensures.bytes in
    joined g.D.Disk.moment g.D.Disk.left_since file mid c.write_synced-2.new.file (TornFrom (g.D.Disk.may_leave file) c.args.end size) (TornFrom (g.D.Disk.may_leave mid) (c.args.end - 1) 1)
    (ShowsEither before c.args.end c.args.framed.now) c.write_synced.ensures.moments c.write_synced-2.ensures.moments
    (λ image torn kind content j. inl (torn_behind_shows before c.args.end c.args.framed.now c.bytes.ensures.bound c.requires.room size image
    (subst (λ (l : List ℕ). Torn c.args.end size l image) (c.requires.rests torn.0 torn.1) torn.2) kind content j))
    (λ image torn. torn_gate_shows before c.args.end c.args.framed.now c.bytes.ensures.bound c.requires.room image
    (subst (λ (l : List ℕ). Torn (c.args.end - 1) 1 l image) (c.in_ok-write_synced.ensures.durable torn.0 torn.1 ∙ staged) torn.2))

pub returns-clause-stop : goal.returns-clause-stop
returns-clause-stop g c =
    let file = c.args.file.now in
    let mid = c.write_synced.new.file in
    let before = g.D.Disk.seen file in
    λ told.
    let staged : g.D.Disk.seen mid ≡ with_bytes c.args.end (framed_bytes c.args.framed.now) before =
    c.in_ok-write_synced.ensures.written told ∙ ap (λ (l : List ℕ). with_bytes c.args.end l before) c.bytes.ensures.bytes in
    let opened = ok_or_err c.write_synced-2.result (on_ok c.write_synced-2.result
    (λ written. written (c.write_synced.ensures.kind.0 ∙ told) ∙ ap (λ (l : List ℕ). with_bytes (c.args.end - 1) (GATE_OPEN ∷ []) l) staged) c.write_synced-2.ensures.written) in
    rests_after before c.args.end c.args.framed.now c.bytes.ensures.bound c.requires.room c.bytes.result.now (g.D.Disk.seen mid) (g.D.Disk.seen c.write_synced-2.new.file) (g.D.Disk.stop file) (g.D.Disk.stop mid) (g.D.Disk.stop c.write_synced-2.new.file)
    (g.D.Disk.short mid) (g.D.Disk.short c.write_synced-2.new.file) c.write_synced.result c.write_synced-2.result (rest_is (g.D.Disk.stop file) (g.D.Disk.may_leave file) before (g.met.D.Disk.rests file) c.requires.rests)
    (ap is_ok c.in_ok-write_synced.was) staged opened c.write_synced.ensures.stop c.write_synced-2.ensures.stop
