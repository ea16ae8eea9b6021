-- A token that is heard, over what is kept before room was made for it.
use Rattle.std.proofs.Common.{◌≡◌, ◌∙◌, ap, sym, subst, ℕ, List, [], ◌∷◌, Bool, true, Option, Some, Result}
use Rattle.sig_outside.specs.Disk.{Stop}
use Rattle.sig_entry.specs.Tokens.{token_spelling}
use Rattle.sig_set.specs.declared.trust.Trust.{Trust}
use Rattle.sig_receiver.specs.declared.heard.Heard.{Heard}
use Rattle.sig_receiver.specs.declared.heard.Heard.TheVariants.{Accepted}
use Rattle.sig_receiver.specs.Journal.{journal_by}
use Rattle.sig_receiver.specs.Receiver.{Received, heard_at, is_accepted, received_of}
use Rattle.sig_journal.specs.declared.node_fault.NodeFault.{NodeFault}
use Rattle.sig_rxnode.specs.Answers.{heard_texts}
use Rattle.sig_rxnode.specs.Holding.{Holding}
use Rattle.sig_rxnode.specs.Journals.{Causes, Writes}
use Rattle.sig_rxnode.specs.Records.{receiving}
use Rattle.sig_rxnode.proofs.AcceptedTexts.{accepted_step}
use Rattle.sig_rxnode.proofs.Cases.{is_heard}

module _ (trust : Trust) (principal named : Option (List ℕ)) (state : Received) (text : List ℕ) (heard : Heard) (is : heard ≡ heard_at trust principal named state text) (accepted : true ≡ is_accepted heard) where
  pub heard_accepted : heard_at trust principal named state text ≡ Accepted
  heard_accepted = sym is ∙ is_heard heard accepted

  pub heard_text : text ∷ [] ≡ heard_texts trust principal named state text
  heard_text = ap (λ (h : Heard). journal_by h [] text) (sym heard_accepted)

  -- its record is taken up over what is kept the same
  pub heard_step : (mid : Received) → mid ≡ state → receiving.step mid (token_spelling text) ≡ Some (received_of mid (text ∷ []))
  heard_step mid same = subst (λ (s : Received). receiving.step s (token_spelling text) ≡ Some (received_of s (text ∷ []))) (sym same) (accepted_step trust principal named state text heard_accepted)

module _ {D T : Type 0} (texts texts' : List (List ℕ)) (mid old new : Holding D) (same : texts ≡ texts') (before : mid ≡ old) (result : Result T NodeFault) where
  pub writes_over : (told : D → Bool) (seen : D → List ℕ) (may_leave : D → List ℕ → Type 0) (moment : D → ℕ) (left_since : D → ℕ → List ℕ → Type 0) (stop : D → Option Stop) (short : D → Bool)
      → Writes told seen may_leave moment left_since stop short texts mid new result → Writes told seen may_leave moment left_since stop short texts' old new result
  writes_over told seen may_leave moment left_since stop short h =
      subst (λ (ts : List (List ℕ)). Writes told seen may_leave moment left_since stop short ts old new result) same
      (subst (λ (o : Holding D). Writes told seen may_leave moment left_since stop short texts o new result) before h)

  pub causes_over : (faults : D → ℕ) (turn : ℕ) → Causes faults texts turn mid new result → Causes faults texts' turn old new result
  causes_over faults turn h =
      subst (λ (ts : List (List ℕ)). Causes faults ts turn old new result) same
      (subst (λ (o : Holding D). Causes faults texts turn o new result) before h)
