use Rattle.std.proofs.Common.{ℕ, List, length, ◌∙◌, ap, subst}
use Rattle.sig_outside.specs.Disk.{Cut}
use Rattle.sig_journal.specs.Durable.{TornFrom}
use Rattle.sig_journal.specs.Store.{gate_of}
use Rattle.sig_journal.proofs.Moments.{started, goes_on, joined}
use Rattle.sig_journal.specs.Gates.{IsShut}
use Rattle.sig_journal.proofs.GateLemmas.{cut_shut, torn_shut}
use Rattle.sig_journal.proofs.checkpoint.writing.write_content.Goals as goal

pub returns-clause-any_moment : goal.returns-clause-any_moment
returns-clause-any_moment g c =
    let D = g.D.Disk in
    let file = c.args.file.now in
    let mid = c.cut.new.self in
    let size = length c.args.bytes.now in
    λ told.
    let shut : IsShut (D.seen file) = c.requires.gate told in
    let images : (image : List ℕ) → D.may_leave mid image → IsShut image = λ image left.
    let from = c.cut.ensures.images image left in
    cut_shut (D.seen file) image shut (subst (λ (l : List ℕ). Cut 1 l image) (c.requires.rests from.0 from.1) from.2) in
    let at_start = started D.moment D.left_since file IsShut (λ image left. ap gate_of (c.requires.rests image (g.met.D.Disk.only_now file image left)) ∙ shut) in
    let after_cut = goes_on D.moment D.left_since file file mid IsShut _ at_start c.cut.ensures.time images in
    joined D.moment D.left_since file mid c.write_synced.new.file IsShut (TornFrom (D.may_leave mid) 1 size) IsShut after_cut c.write_synced.ensures.moments
    (λ image is. is) (λ image torn. torn_shut size torn.0 image (images torn.0 torn.1) torn.2)
