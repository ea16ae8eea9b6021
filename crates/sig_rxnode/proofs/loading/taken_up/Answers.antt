use Rattle.std.proofs.Common.{◌∙◌, ap, sym, ℕ, List, length}
use Rattle.sig_rxnode.proofs.TakingUp.{places_count}
use Rattle.sig_rxnode.proofs.loading.taken_up.Goals as goal

pub take_records-requires : goal.take_records-requires
take_records-requires g c =
    ap (λ (l : List ℕ). length l) (c.as_slice-2.ensures ∙ c.requires.places.0) ∙ places_count _ c.args.loaded.records ∙ sym (ap (λ (l : List (List ℕ)). length l) c.as_slice.ensures)
