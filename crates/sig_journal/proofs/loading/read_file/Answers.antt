use Rattle.std.proofs.Common.{◌≡◌, inl, inr, ⊎_elim, ℕ, List, refl, sym, ◌∙◌, ap}
use Rattle.sig_journal.specs.Content.{content_view}
use Rattle.sig_journal.specs.declared.fault.LoadFault.TheVariants.{Store}
use Rattle.sig_journal.specs.declared.gate.Gate.TheVariants.{Opened}
use Rattle.sig_journal.specs.Layout.{content_of, generation_of}
use Rattle.sig_journal.specs.Store.{file_number, in_file_at}
use Rattle.sig_journal.proofs.GateLemmas.{opened_as}
use Rattle.sig_journal.proofs.LoadLemmas.{memory_no_store, never_store, told_ok, told_err}
use Rattle.sig_journal.proofs.Stands.{in_file-ok}
use Rattle.sig_journal.proofs.loading.read_file.Goals as goal

pub returns-in-Ok-clause-told : goal.returns-in-Ok-clause-told
returns-in-Ok-clause-told g c = λ told.
    let seen = g.D.Disk.seen c.args.file.now in
    let bytes = c.as_slice.ensures.value ∙ c.in_ok-bytes.ensures.bytes told in
    told_ok c.args.in_b (content_of c.args.kind seen) (content_view c.in-Ok.content)
    (ap (λ (l : List ℕ). in_file_at (file_number c.args.in_b) (content_of c.args.kind l)) (sym bytes)
    ∙ ap (λ (n : ℕ). in_file_at n (content_of c.args.kind c.as_slice.result.now)) (sym c.number_of.ensures) ∙ c.in-Ok.ensures.content)

pub returns-clause-told : goal.returns-clause-told
returns-clause-told g c = λ told.
    let seen = g.D.Disk.seen c.args.file.now in
    let bytes = c.as_slice.ensures.value ∙ c.in_ok-bytes.ensures.bytes told in
    ⊎_elim (λ memory. inl memory)
    (λ damaged. inr (inr (told_err c.args.in_b (content_of c.args.kind seen) c.in-Err.fault
    (ap (λ (l : List ℕ). in_file_at (file_number c.args.in_b) (content_of c.args.kind l)) (sym bytes)
    ∙ ap (λ (n : ℕ). in_file_at n (content_of c.args.kind c.as_slice.result.now)) (sym c.number_of.ensures) ∙ damaged))))
    c.in-Err.ensures.content

pub returns-in_err-bytes-clause-reads : goal.returns-in_err-bytes-clause-reads
returns-in_err-bytes-clause-reads g c = c.in_err-bytes.ensures.reads

pub returns-in-Ok-clause-reads : goal.returns-in-Ok-clause-reads
returns-in-Ok-clause-reads g c = c.in_ok-bytes.ensures.reads

pub returns-clause-reads : goal.returns-clause-reads
returns-clause-reads g c = c.in_ok-bytes.ensures.reads

pub returns-in-Ok-clause-in_force : goal.returns-in-Ok-clause-in_force
returns-in-Ok-clause-in_force g c = λ told begins.
    let seen = g.D.Disk.seen c.args.file.now in
    let bytes = c.as_slice.ensures.value ∙ c.in_ok-bytes.ensures.bytes told in
    record {
      content = content_view c.in-Ok.content;
      holds = ap (content_of c.args.kind) (sym bytes) ∙ in_file-ok c.number_of.result (content_of c.args.kind c.as_slice.result.now) (content_view c.in-Ok.content) c.in-Ok.ensures.content;
      ends = c.in-Ok.ensures.ends;
      named = refl;
      begins = opened_as seen begins ∙ ap (λ (n : ℕ). Opened n) (sym (c.in-Ok.ensures.generation.0 ∙ ap generation_of bytes));
    }

pub returns-clause-store : goal.returns-clause-store
returns-clause-store g c = λ err.
    let is : c.in-Err.fault ≡ Store = cc in
    ⊎_elim (λ memory. absurd (memory_no_store c.in-Err.fault memory is))
    (λ damaged. absurd (never_store c.number_of.result (content_of c.args.kind c.as_slice.result.now) c.in-Err.fault damaged is))
    c.in-Err.ensures.content
