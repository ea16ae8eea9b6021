-- What a store tells whose file in force is another image.
use Rattle.std.proofs.Common.{◌≡◌, ℕ, List, Bool, true, false, Result, Ok, Err, sym, ◌∙◌, ap}
use Rattle.sig_journal.specs.declared.fault.LoadFault.{LoadFault}
use Rattle.sig_journal.specs.declared.kind.Kind.{Kind}
use Rattle.sig_journal.specs.Layout.{Content, content_of}
use Rattle.sig_journal.specs.Added.{Shows}
use Rattle.sig_journal.specs.Journal.{store_with}
use Rattle.sig_journal.specs.Store.{Told, gate_of, in_force, pick, told_by, told_in}

-- which file is in force, where a store tells something, and what it holds
told_in-ok : (in_b found : Bool) (held : Result Content ℕ) (content : Content) → told_in found held ≡ Ok (record { in_b = in_b; content = content }) → (found ≡ in_b) × (held ≡ Ok content)
told_in-ok in_b found (Ok c) content is = (ap (in_b_or found) is, ap (held_or (Ok c)) is)
  where
    in_b_or : Bool → Result Told LoadFault → Bool
    in_b_or other (Ok told) = told.in_b
    in_b_or other (Err fault) = other

    held_or : Result Content ℕ → Result Told LoadFault → Result Content ℕ
    held_or other (Ok told) = Ok told.content
    held_or other (Err fault) = other
told_in-ok in_b found (Err at) content is = absurd cc

pub told_by-ok : (kind : Kind) (a b : List ℕ) (force : Result Bool LoadFault) (in_b : Bool) (content : Content) → told_by kind a b force ≡ Ok (record { in_b = in_b; content = content })
    → (force ≡ Ok in_b) × (content_of kind (pick in_b a b) ≡ Ok content)
told_by-ok kind a b (Ok found) in_b content is =
    let parts = told_in-ok in_b found (content_of kind (pick found a b)) content is in
    (ap (λ (f : Bool). Ok f) parts.0, ap (λ (f : Bool). content_of kind (pick f a b)) (sym parts.0) ∙ parts.1)
told_by-ok kind a b (Err fault) in_b content is = absurd cc

-- the file in force of a store is a journal
pub held : (in_b : Bool) (kind : Kind) (written other : List ℕ) (content : Content) → store_with in_b kind written other ≡ Ok (record { in_b = in_b; content = content }) → content_of kind written ≡ Ok content
held true kind written other content is = (told_by-ok kind other written (in_force (gate_of other) (gate_of written)) true content is).1
held false kind written other content is = (told_by-ok kind written other (in_force (gate_of written) (gate_of other)) false content is).1

-- a store tells what an image of that file holds which begins as the file does
pub shown : (in_b : Bool) (kind : Kind) (written other image : List ℕ) (content next : Content) → store_with in_b kind written other ≡ Ok (record { in_b = in_b; content = content })
    → Shows kind written image next → store_with in_b kind image other ≡ Ok (record { in_b = in_b; content = next })
shown true kind written other image content next is s =
    let force = told_by-ok kind other written (in_force (gate_of other) (gate_of written)) true content is in
    ap (told_by kind other image) (ap (in_force (gate_of other)) s.begins ∙ force.0) ∙ ap (told_in true) s.holds
shown false kind written other image content next is s =
    let force = told_by-ok kind written other (in_force (gate_of written) (gate_of other)) false content is in
    ap (told_by kind image other) (ap (λ g. in_force g (gate_of other)) s.begins ∙ force.0) ∙ ap (told_in false) s.holds
