-- The pair of a token that is acknowledged stands among those of the journal's texts.
use Rattle.std.proofs.Common.{◌≡◌, ◌∙◌, ap, ℕ, List, [], ◌∷◌, ◌++◌, Bool, true, false, ◌||◌, Option, Some, None, if◌then◌else◌, refl}
use Rattle.std.proofs.lemmas.List.Folds.{list_any-append}
use Rattle.sig_json.specs.Checks.{first_failing}
use Rattle.sig_inbox.specs.declared.pair.Pair.{Pair}
use Rattle.sig_inbox.specs.Pairs.{has_pair, pair_eq}
use Rattle.sig_inbox.proofs.Distinct.{pair_decided}
use Rattle.sig_set.specs.Checks.{Fault}
use Rattle.sig_set.specs.Judgement.{checks, claims_of, judged_by}
use Rattle.sig_receiver.specs.declared.heard.Heard.TheVariants.{Accepted, Seen}
use Rattle.sig_receiver.specs.Journal.{journal_by, pair_of, pairs_of}
use Rattle.sig_receiver.specs.Receiver.{heard_by, nothing, received_of}
use Rattle.sig_receiver.proofs.JournalLemmas.{known_by_distinct, pairs_of-more}
use Rattle.sig_rxnode.specs.Laws.{AcknowledgedStand, is_acknowledged}

or_true : (a b : Bool) → b ≡ true → a || (b || false) ≡ true
or_true true b h = refl
or_true false true h = refl
or_true false false h = absurd cc

last_known : (p : Pair) (pairs : List Pair) → has_pair p (pairs ++ p ∷ []) ≡ true
last_known p pairs = list_any-append (pair_eq p) pairs (p ∷ []) ∙ or_true (has_pair p pairs) (pair_eq p p) ((pair_decided p p).1 refl)

module _ (texts : List (List ℕ)) (text : List ℕ) where
  by_known : (known : Bool) → has_pair (pair_of (claims_of text)) (received_of nothing texts).pairs ≡ known
      → has_pair (pair_of (claims_of text)) (pairs_of (journal_by (if known then Seen else Accepted) texts text)) ≡ true
  by_known true is = known_by_distinct (pair_of (claims_of text)) [] texts ∙ is
  by_known false is = ap (has_pair (pair_of (claims_of text))) (pairs_of-more texts text) ∙ last_known (pair_of (claims_of text)) (pairs_of texts)

  by_fault : (o : Option Fault) → is_acknowledged (heard_by (received_of nothing texts).pairs (judged_by o (claims_of text))) ≡ true
      → has_pair (pair_of (claims_of text)) (pairs_of (journal_by (heard_by (received_of nothing texts).pairs (judged_by o (claims_of text))) texts text)) ≡ true
  by_fault None h = by_known (has_pair (pair_of (claims_of text)) (received_of nothing texts).pairs) refl
  by_fault (Some fault) h = absurd cc

pub stands : AcknowledgedStand
stands trust principal named texts text acknowledged = by_fault texts text (first_failing (checks trust principal named text)) acknowledged
