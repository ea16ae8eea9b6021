-- What a load gives of a store, by what its journal's load gives.
use Rattle.std.proofs.Common.{◌≡◌, ◌∙◌, ap, sym, subst, refl, inl, inr, ℕ, List, Bool, true, false, Result, Ok, Err}
use Rattle.std.specs.Prelude.{◌⊎◌, IsTrue, IfErr, IfOk, MatchResult}
use Rattle.sig_json.specs.Answers.{Answers}
use Rattle.sig_outside.specs.Causes.{Rose}
use Rattle.sig_journal.specs.declared.fault.LoadFault.{LoadFault}
use Rattle.sig_journal.specs.declared.fault.LoadFault.TheVariants.{Memory, Store}
use Rattle.sig_journal.specs.declared.kind.Kind.{Kind}
use Rattle.sig_journal.specs.declared.loaded.LoadRefused.{LoadRefused}
use Rattle.sig_journal.specs.Journal.{BothTold, Open, store_with, told_store}
use Rattle.sig_journal.specs.Store.{Told, in_file_at, pick, tells}
use Rattle.sig_history.specs.Owed.{Sum}
use Rattle.sig_txnode.specs.Loaded.{GivesState, state_by}
use Rattle.sig_txnode.specs.Node.{NodeView}

-- the store of the file in force and the other one, by its files in order
in_order : {D : Type 0} (seen : D → List ℕ) (in_b : Bool) (kind : Kind) (written other : D)
    → store_with in_b kind (seen written) (seen other) ≡ tells kind (seen (pick in_b written other)) (seen (pick in_b other written))
in_order seen true kind written other = refl
in_order seen false kind written other = refl

told_in_order : {D : Type 0} (told : D → Bool) (in_b : Bool) (written other : D) → IsTrue (told written) → IsTrue (told other)
    → IsTrue (told (pick in_b written other)) × IsTrue (told (pick in_b other written))
told_in_order told true written other w o = (o, w)
told_in_order told false written other w o = (w, o)

-- a journal that was loaded tells what its files told
pub told_loaded : {D : Type 0} (told : D → Bool) (seen : D → List ℕ) (a b : D) (kind : Kind) (journal : Open D) (what : Result Told LoadFault) → journal.kind ≡ kind
    → told (pick journal.in_b journal.written journal.other) ≡ told a → told (pick journal.in_b journal.other journal.written) ≡ told b
    → seen (pick journal.in_b journal.written journal.other) ≡ seen a → seen (pick journal.in_b journal.other journal.written) ≡ seen b
    → (IsTrue (told a) → IsTrue (told b) → tells kind (seen a) (seen b) ≡ what) → BothTold told journal → told_store seen journal ≡ what
told_loaded told seen a b kind journal what same_kind told_a told_b seen_a seen_b tells_what both =
    let q = told_in_order told journal.in_b journal.written journal.other both.0 both.1 in
    in_order seen journal.in_b journal.kind journal.written journal.other
    ∙ ap (λ (k : Kind). tells k (seen (pick journal.in_b journal.written journal.other)) (seen (pick journal.in_b journal.other journal.written))) same_kind
    ∙ ap (λ (l : List ℕ). tells kind l (seen (pick journal.in_b journal.other journal.written))) seen_a
    ∙ ap (λ (l : List ℕ). tells kind (seen a) l) seen_b
    ∙ tells_what (sym told_a ∙ q.0) (sym told_b ∙ q.1)

pub gives_state : (told result : Result Sum LoadFault) → Answers Memory result told → GivesState told result
gives_state told (Ok s) h = h
gives_state told (Err e) (inl memory) = inl memory
gives_state told (Err e) (inr is) = inr (inr is)

never_store : (n : ℕ) (x : Result Sum ℕ) (e : LoadFault) → (e ≡ Memory) ⊎ (in_file_at n x ≡ Err e) → e ≡ Store → ⊥
never_store n x e (inl memory) store = cc
never_store n (Ok s) e (inr is) store = cc
never_store n (Err at) e (inr is) store = cc

pub store_opened : {D : Type 0} (faults : D → ℕ) (a b : D) (n : ℕ) (x : Result Sum ℕ) (result : Result (NodeView D) (LoadRefused D)) → Answers Memory (state_by result) (in_file_at n x)
    → IfErr result (λ r. r.fault ≡ Store → Rose (faults a) (faults r.a) ⊎ Rose (faults b) (faults r.b))
store_opened faults a b n x (Ok node) h = tt
store_opened faults a b n x (Err r) h = λ store. absurd (never_store n x r.fault h store)

abbrev pub AreFiles : {D : Type 0} → Open D → Result (NodeView D) (LoadRefused D) → Type 0
AreFiles journal result = MatchResult result (λ n. n.store.journal ≡ journal)
    (λ r. (r.a ≡ pick journal.in_b journal.written journal.other) × (r.b ≡ pick journal.in_b journal.other journal.written))

-- what holds of both files of the journal holds of those that are given
pub of_files : {D : Type 0} (P Q : D → Type 0) (journal : Open D) (result : Result (NodeView D) (LoadRefused D)) → AreFiles journal result
    → P (pick journal.in_b journal.written journal.other) → Q (pick journal.in_b journal.other journal.written)
    → MatchResult result
    (λ n. P (pick n.store.journal.in_b n.store.journal.written n.store.journal.other) × Q (pick n.store.journal.in_b n.store.journal.other n.store.journal.written))
    (λ r. P r.a × Q r.b)
of_files {D} P Q journal (Ok n) files p q =
    subst (λ (j : Open D). P (pick j.in_b j.written j.other) × Q (pick j.in_b j.other j.written)) (sym files) (p, q)
of_files P Q journal (Err r) files p q = (subst P (sym files.0) p, subst Q (sym files.1) q)

pub ok_of : {T E : Type 0} (P : T → Type 0) (Q : E → Type 0) (result : Result T E) → MatchResult result P Q → IfOk result P
ok_of P Q (Ok x) h = h
ok_of P Q (Err e) h = tt

pub err_of : {T E : Type 0} (P : T → Type 0) (Q R : E → Type 0) (result : Result T E) → MatchResult result P Q → IfErr result (λ e. R e → Q e)
err_of P Q R (Ok x) h = tt
err_of P Q R (Err e) h = λ _. h
