-- Lists of checks that all hold.
use Rattle.std.proofs.Common.{◌≡◌, List, ◌∷◌, ◌++◌, Bool, true, false, Option, Some, None, refl, sym, ap, ◌∙◌}
use Rattle.sig_json.specs.Checks.{Check, first_failing, or_else}
use Rattle.sig_json.proofs.CheckLemmas.{first_failing-append}

abbrev pub Passes : {F : Type 0} → List (Check F) → Type 0
Passes cs = first_failing cs ≡ None

none_is_some : {A : Type 0} {a : A} → Some a ≡ None → ⊥
none_is_some k = cc

pub passes_cons : {F : Type 0} (c : Check F) (cs : List (Check F)) → c.holds ≡ true → Passes cs → Passes (c ∷ cs)
passes_cons c cs h k = rw h k

pub passes_head : {F : Type 0} (c : Check F) (cs : List (Check F)) → Passes (c ∷ cs) → c.holds ≡ true
passes_head c cs h = by_test c.holds refl
  where
    by_test : (b : Bool) → c.holds ≡ b → c.holds ≡ true
    by_test true e = e
    by_test false e = absurd (none_is_some (rw e at h))

pub passes_tail : {F : Type 0} (c : Check F) (cs : List (Check F)) → Passes (c ∷ cs) → Passes cs
passes_tail c cs h = rw (passes_head c cs h) at h

pub passes_append : {F : Type 0} (cs ds : List (Check F)) → Passes cs → Passes ds → Passes (cs ++ ds)
passes_append cs ds h k = first_failing-append cs ds ∙ ap (λ o. or_else o (first_failing ds)) h ∙ k

pub passes_front : {F : Type 0} (cs ds : List (Check F)) → Passes (cs ++ ds) → Passes cs
passes_front {F = F} cs ds h = by_first (first_failing cs) refl (sym (first_failing-append cs ds) ∙ h)
  where
    by_first : (o : Option F) → first_failing cs ≡ o → or_else o (first_failing ds) ≡ None → first_failing cs ≡ None
    by_first None e k = e
    by_first (Some f) e k = absurd (none_is_some k)

pub passes_back : {F : Type 0} (cs ds : List (Check F)) → Passes (cs ++ ds) → Passes ds
passes_back cs ds h = ap (λ o. or_else o (first_failing ds)) (sym (passes_front cs ds h)) ∙ sym (first_failing-append cs ds) ∙ h
