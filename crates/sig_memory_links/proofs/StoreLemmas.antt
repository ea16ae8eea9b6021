-- A store that came back leaves the others as they were told.
use Rattle.std.proofs.Common.{◌≡◌, ◌∙◌, ap, sym, subst, ℕ, List, [], ◌∷◌, Bool, true, false, IsTrue, Option, Some, None, is_some, bytes_eq, if◌then◌else◌, refl}
use Rattle.std.specs.Prelude.{◌||◌, IfNone, IfSome, option_map}
use Rattle.sig_links.specs.Told.{KeepsOthers}
use Rattle.std.proofs.lemmas.Slice.Eq.{bytes_eq-Decides}
use Rattle.sig_outside.specs.KeptDisk.{Kept}
use Rattle.sig_memory_links.specs.declared.named.NamedDisk.{NamedDisk}
use Rattle.sig_memory_links.specs.Named.{but_named, first_named, is_listed}
use Rattle.sig_memory_links.specs.Outside.{MemoryStores, bytes_in, disk_of, is_out, is_there, store_told, without_disk}
use Rattle.sig_memory_links.proofs.NamedLemmas.{other_name, others_found, own_name}

pub others_told : (name other : List ℕ) (disk : Kept) (old new : MemoryStores) → (other ≡ name → ⊥)
    → (IsTrue (is_listed name old.out) → new.there ≡ record { name = name; disk = disk } ∷ old.there)
    → (is_listed name old.out ≡ false → new.there ≡ old.there) → store_told new other ≡ store_told old other
others_told name other disk old new apart there unasked =
    elim (is_listed name old.out) as (λ b. is_listed name old.out ≡ b → store_told new other ≡ store_told old other) [
      | true ↦ λ listed. rw (there listed) (rw (other_name name other apart) refl)
      | false ↦ λ not. rw (unasked not) refl
    ] refl

pub others_out : (name other : List ℕ) (old new : MemoryStores) → (other ≡ name → ⊥)
    → new.out ≡ but_named (λ (text : List ℕ). text) name old.out → is_out new other ≡ is_out old other
others_out name other old new apart out =
    rw out (ap (λ (o : Option (List ℕ)). is_some o) (others_found (λ (text : List ℕ). text) name other old.out apart))

-- so does one that is looked for, found or not
pub others_kept : {D : Type 0} (found : Option D) (name : List ℕ) (old new : MemoryStores) → IfSome found (λ disk. new ≡ without_disk name old) → IfNone found (new ≡ old)
    → KeepsOthers name (store_told old) (store_told new) × KeepsOthers name (is_out old) (is_out new)
others_kept None name old new some none = (λ other apart. ap (λ (s : MemoryStores). store_told s other) none, λ other apart. ap (λ (s : MemoryStores). is_out s other) none)
others_kept (Some disk) name old new some none = (
  λ other apart. ap (λ (s : MemoryStores). store_told s other) some ∙ ap (λ (o : Option NamedDisk). Some (bytes_in o)) (others_found (λ (given : NamedDisk). given.name) name other old.there apart),
  λ other apart. ap (λ (s : MemoryStores). is_out s other) some ∙ ap (λ b. is_some (if b then Some name else first_named (λ (text : List ℕ). text) other old.out)) (other_name name other apart),
)

-- ---- which stores are there

or_true : (a b : Bool) → b ≡ true → (a || b) ≡ true
or_true true b h = refl
or_true false b h = h

-- one that is out is there
pub out_there : (name : List ℕ) (there : List NamedDisk) (out : List (List ℕ)) → is_there (record { there = there; out = name ∷ out }) name ≡ Some true
out_there name there out =
    let listed : is_listed name (name ∷ out) ≡ true = ap (λ b. is_some (if b then Some name else first_named (λ (text : List ℕ). text) name out)) (own_name name) in
    ap (λ b. Some b) (or_true (is_some (first_named (λ (given : NamedDisk). given.name) name there)) (is_listed name (name ∷ out)) listed)

-- of another name nothing changes as a store is handed out
pub others_there : (name other : List ℕ) (old : MemoryStores) → (other ≡ name → ⊥) → is_there (without_disk name old) other ≡ is_there old other
others_there name other old apart =
    ap (λ (o : Option NamedDisk). Some (is_some o || is_listed other (name ∷ old.out))) (others_found (λ (given : NamedDisk). given.name) name other old.there apart)
    ∙ ap (λ b. Some (is_some (disk_of other old) || is_some (if b then Some name else first_named (λ (text : List ℕ). text) other old.out))) (other_name name other apart)

by_name : (name other : List ℕ) (P : List ℕ → Type 0) → P name → ((other ≡ name → ⊥) → P other) → P other
by_name name other P same differs =
    elim (bytes_eq other name) as (λ b. bytes_eq other name ≡ b → P other) [
      | true ↦ λ is. subst P (sym ((bytes_eq-Decides other name).0 is)) same
      | false ↦ λ not. differs (λ is. absurd (cc (sym ((bytes_eq-Decides other name).1 is) ∙ not)))
    ] refl

-- a store that was there is there while it is out
pub found_there : (name : List ℕ) (old : MemoryStores) → is_some (disk_of name old) ≡ true → is_there (without_disk name old) ≡ is_there old
found_there name old some = λ i other. all other i
  where
    all : (other : List ℕ) → is_there (without_disk name old) other ≡ is_there old other
    all other =
        by_name name other (λ (n : List ℕ). is_there (without_disk name old) n ≡ is_there old n)
        (out_there name (without_disk name old).there old.out ∙ sym (ap (λ b. Some (b || is_listed name old.out)) some)) (others_there name other old)

mapped_some : {T U : Type 0} (f : T → U) (o : Option T) → is_some (option_map f o) ≡ is_some o
mapped_some f None = refl
mapped_some f (Some x) = refl

-- nor does it change which are there that one is looked for
pub looked_there : {D K : Type 0} (disk_in : D → K) (kept_in : NamedDisk → K) (found : Option D) (name : List ℕ) (old new : MemoryStores) → option_map disk_in found ≡ option_map kept_in (disk_of name old)
    → IfSome found (λ disk. new ≡ without_disk name old) → IfNone found (new ≡ old) → is_there new ≡ is_there old
looked_there disk_in kept_in None name old new same some none = ap is_there none
looked_there {K = K} disk_in kept_in (Some disk) name old new same some none =
    ap is_there some ∙ found_there name old (sym (ap (λ (o : Option K). is_some o) same ∙ mapped_some kept_in (disk_of name old)))

but_none : (name : List ℕ) (names : List (List ℕ)) → is_listed name names ≡ false → but_named (λ (text : List ℕ). text) name names ≡ names
but_none name [] none = refl
but_none name (x ∷ names) none =
    elim (bytes_eq x name) as (λ b. is_some (if b then Some x else first_named (λ (text : List ℕ). text) name names) ≡ false
    → (if b then names else x ∷ but_named (λ (text : List ℕ). text) name names) ≡ x ∷ names) [
      | true ↦ λ listed. absurd (cc)
      | false ↦ λ unlisted. ap (λ (l : List (List ℕ)). x ∷ l) (but_none name names unlisted)
    ] none

-- nor does it change which are there that one comes back
pub back_there : (name : List ℕ) (disk : Kept) (old new : MemoryStores)
    → (IsTrue (is_listed name old.out) → new.there ≡ record { name = name; disk = disk } ∷ old.there)
    → (is_listed name old.out ≡ false → new.there ≡ old.there) → new.out ≡ but_named (λ (text : List ℕ). text) name old.out → is_there new ≡ is_there old
back_there name disk old new there unasked out =
    elim (is_listed name old.out) as (λ b. is_listed name old.out ≡ b → is_there new ≡ is_there old) [
      | true ↦ λ listed. λ i other. comes listed other i
      | false ↦ λ not. λ i. is_there (record { there = unasked not i; out = (out ∙ but_none name old.out not) i })
    ] refl
  where
    comes : is_listed name old.out ≡ true → (other : List ℕ) → is_there new other ≡ is_there old other
    comes listed other =
        ap (λ (l : List NamedDisk). is_there (record { there = l; out = new.out }) other) (there listed)
        ∙ by_name name other (λ (n : List ℕ). is_there (record { there = record { name = name; disk = disk } ∷ old.there; out = new.out }) n ≡ is_there old n)
        (ap (λ b. Some (is_some (if b then Some (record { name = name; disk = disk }) else disk_of name old) || is_listed name new.out)) (own_name name)
        ∙ sym (ap (λ b. Some b) (or_true (is_some (disk_of name old)) (is_listed name old.out) listed)))
        (λ apart.
        ap (λ b. Some (is_some (if b then Some (record { name = name; disk = disk }) else disk_of other old) || is_listed other new.out)) (other_name name other apart)
        ∙ ap (λ b. Some (is_some (disk_of other old) || b)) (ap (λ (o : Option (List ℕ)). is_some o) (ap (first_named (λ (text : List ℕ). text) other) out ∙ others_found (λ (text : List ℕ). text) name other old.out apart)))
