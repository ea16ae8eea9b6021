use Rattle.std.proofs.Common.{◌≡◌, ◌≤◌, [], bytes_eq, drop, false, length}
use Rattle.indexmap.specs.IndexSet.{contains}
use Rattle.sig_json.specs.declared.limits.TheConstants.{TOKENS_PER_PAGE}
use Rattle.sig_calls.specs.Handing.{pushed_by}
use Rattle.sig_ledger.specs.Books.{sum_in}
use Rattle.sig_token_calls.proofs.HandingLemmas.{page_of_names}
use Rattle.sig_token_calls.proofs.handing.handed.Given as goal

abbrev pub invariant-loop-name : goal.invariant-loop-name
invariant-loop-name l =
    (length l.tokens.items ≤ TOKENS_PER_PAGE)
    × (page_of_names TOKENS_PER_PAGE (pushed_by (sum_in l.ledger.books)) [] (λ n. false) l.streams
    ≡ page_of_names TOKENS_PER_PAGE (pushed_by (sum_in l.ledger.books)) l.tokens.items (contains bytes_eq l.seen) (drop l.name-index l.streams))
