-- What a load of a receiver's store gives.
use Rattle.std.proofs.Common.{◌≡◌, ◌∙◌, ap, sym, subst, inl, inr, ℕ, ◌+◌, List, length, Bool, true, false, Result, Ok, Err}
use Rattle.std.specs.Prelude.{◌⊎◌, IfOk, IsTrue}
use Rattle.sig_journal.specs.declared.fault.LoadFault.{LoadFault}
use Rattle.sig_journal.specs.declared.fault.LoadFault.TheVariants.{Memory, Store}
use Rattle.sig_journal.specs.declared.kind.Kind.TheVariants.{Rx}
use Rattle.sig_journal.specs.Journal.{BothTold, Open, store_with, told_store}
use Rattle.sig_journal.specs.Store.{Told, file_number, in_file_at, pick, tells}
use Rattle.sig_receiver.specs.Receiver.{Received, nothing}
use Rattle.sig_journal.specs.Taking.{loaded, state_after}
use Rattle.sig_rxnode.specs.Holding.{Holding}
use Rattle.sig_rxnode.specs.Loading.{HoldsTold}
use Rattle.sig_rxnode.specs.Records.{receiving, texts_of}

-- what the store of an open journal tells is what its two files told that were loaded
pub tells_same : {D : Type 0} (seen : D → List ℕ) (journal : Open D) (a b : D) → journal.kind ≡ Rx → seen (pick journal.in_b journal.written journal.other) ≡ seen a → seen (pick journal.in_b journal.other journal.written) ≡ seen b
    → told_store seen journal ≡ tells Rx (seen a) (seen b)
tells_same seen journal a b kind first second =
    ap (λ k. store_with journal.in_b k (seen journal.written) (seen journal.other)) kind ∙ by journal.in_b first second
  where
    by : (in_b : Bool) → seen (pick in_b journal.written journal.other) ≡ seen a → seen (pick in_b journal.other journal.written) ≡ seen b
        → store_with in_b Rx (seen journal.written) (seen journal.other) ≡ tells Rx (seen a) (seen b)
    by true f s = ap (λ l. tells Rx l (seen journal.written)) f ∙ ap (tells Rx (seen a)) s
    by false f s = ap (λ l. tells Rx l (seen journal.other)) f ∙ ap (tells Rx (seen a)) s

-- both of its files are told where those were
pub both_told : {D : Type 0} (told : D → Bool) (journal : Open D) (a b : D) → told (pick journal.in_b journal.written journal.other) ≡ told a → told (pick journal.in_b journal.other journal.written) ≡ told b
    → IsTrue (told a) → IsTrue (told b) → BothTold told journal
both_told told journal a b first second told_a told_b = by journal.in_b (first ∙ told_a) (second ∙ told_b)
  where
    by : (in_b : Bool) → told (pick in_b journal.written journal.other) ≡ true → told (pick in_b journal.other journal.written) ≡ true → BothTold told journal
    by true f s = (s, f)
    by false f s = (f, s)

pub told_both : {D : Type 0} (told : D → Bool) (journal : Open D) (a b : D) → told (pick journal.in_b journal.written journal.other) ≡ told a → told (pick journal.in_b journal.other journal.written) ≡ told b
    → BothTold told journal → IsTrue (told a) × IsTrue (told b)
told_both told journal a b first second both =
    let found = by journal.in_b both in
    (sym first ∙ found.0, sym second ∙ found.1)
  where
    by : (in_b : Bool) → BothTold told journal → (told (pick in_b journal.written journal.other) ≡ true) × (told (pick in_b journal.other journal.written) ≡ true)
    by true h = (h.1, h.0)
    by false h = (h.0, h.1)

-- what a store loads to that tells this
pub loads_as : (told : Result Told LoadFault) (content : Told) (file : ℕ) → told ≡ Ok content → file ≡ file_number content.in_b
    → loaded receiving told ≡ in_file_at file (state_after receiving.step nothing (35 + length content.content.snapshot) content.content.records)
loads_as told content file is numbered =
    ap (loaded receiving) is
    ∙ ap (λ n. in_file_at n (state_after receiving.step nothing (35 + length content.content.snapshot) content.content.records)) (sym numbered)

-- a file that is damaged is no failed disk
pub damaged_no_store : (file : ℕ) (read : Result Received ℕ) (fault : LoadFault) → (fault ≡ Memory) ⊎ (in_file_at file read ≡ Err fault) → fault ≡ Store → ⊥
damaged_no_store file (Ok state) fault h store = elim h [ inl e ↦ cc | inr e ↦ cc ]
damaged_no_store file (Err at) fault h store = elim h [ inl e ↦ cc | inr e ↦ cc ]

pub holds_told : {D : Type 0} (told : Result Told LoadFault) (content : Told) (holding : Holding D) → told ≡ Ok content → loaded receiving told ≡ Ok holding.state → holding.entries ≡ texts_of content.content.records → HoldsTold told holding
holds_told told content holding is loads texts = record {
  state = loads;
  entries = subst (λ (t : Result Told LoadFault). IfOk t (λ c. holding.entries ≡ texts_of c.content.records)) (sym is) texts;
}
