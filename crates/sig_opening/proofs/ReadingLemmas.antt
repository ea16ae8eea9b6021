-- What was read of a source.
use Rattle.std.proofs.Common.{◌≡◌, ◌∙◌, ℕ, ◌≤◌, List, ◌++◌, length, take, Option, Some, None, IfSome, Result, Ok, Err, refl, sym, ap, subst, arith, append-nil}
use Rattle.std.specs.Prelude.{IfErr, IfOk}
use Rattle.std.specs.Io.KnownBytes.{Consumes, IsAtEnd}
use Rattle.std.proofs.lemmas.List.{take_all, take_at}
use Rattle.sig_links.specs.Told.{Gathers, KeepsOthers, KeepsTold}
use Rattle.sig_opening.specs.declared.reading.ReadFault.{ReadFault}
use Rattle.sig_opening.specs.declared.reading.ReadFault.TheVariants.{Failed, Memory}
use Rattle.sig_opening.specs.Reading.{Halts, HaltsReading}
use Rattle.sig_opening.specs.Stays.{Held, KeepsOtherSettings, TellsSame}

-- a source that is at its end gave all that it had
pub whole_end : (a b : Option (List ℕ)) (bytes : List ℕ) (n : ℕ) → Consumes a b bytes → IsAtEnd b → length bytes ≤ n → IfSome a (λ all. bytes ≡ take n all)
whole_end None b bytes n gave end short = tt
whole_end (Some all) None bytes n gave end short = absurd gave
whole_end (Some all) (Some rest) bytes n gave end short =
    let same : all ≡ bytes = gave ∙ ap (λ r. bytes ++ r) end ∙ append-nil bytes in
    sym (take_all n bytes short) ∙ ap (take n) (sym same)

-- so many bytes were given, and there may be more
pub whole_cut : (a b : Option (List ℕ)) (bytes : List ℕ) (n : ℕ) → Consumes a b bytes → length bytes ≡ n → IfSome a (λ all. bytes ≡ take n all)
whole_cut None b bytes n gave full = tt
whole_cut (Some all) None bytes n gave full = absurd gave
whole_cut (Some all) (Some rest) bytes n gave full = sym (take_at bytes rest n full) ∙ ap (take n) (sym gave)

-- ---- by a name

-- what holds of what a source tells holds of what the outside tells of its name
pub named : (told left : Option (List ℕ)) (holds : List ℕ → Type 0) → IfSome told (λ bytes. left ≡ Some bytes) → IfSome left holds → IfSome told holds
named None left holds same h = tt
named (Some bytes) left holds same h = subst (λ (o : Option (List ℕ)). IfSome o holds) same h

pub read_named : {T E : Type 0} (r : Result T E) (told left : Option (List ℕ)) (holds : T → List ℕ → Type 0) → IfSome told (λ bytes. left ≡ Some bytes)
    → IfOk r (λ x. IfSome left (holds x)) → IfOk r (λ x. IfSome told (holds x))
read_named (Ok x) told left holds same h = named told left (holds x) same h
read_named (Err e) told left holds same h = tt

-- a fault of a source that met none before is one of the outside, once the source is given back
halts_fault : (fault : ReadFault) (before between now first met : ℕ) → between ≡ before → first ≡ 0 → Gathers between now met → Halts fault first met → HaltsReading fault before now
halts_fault Failed before between now first met steady whole gathers halts = omega (arith, steady, whole, halts.0, halts.1, gathers.0, gathers.1)
halts_fault Memory before between now first met steady whole gathers halts = omega (arith, steady, whole, halts, gathers.0, gathers.1)

pub halts_named : {T : Type 0} (r : Result T ReadFault) (before between now first met : ℕ) → between ≡ before → first ≡ 0 → Gathers between now met
    → IfErr r (λ fault. Halts fault first met) → IfErr r (λ fault. HaltsReading fault before now)
halts_named (Ok x) before between now first met steady whole gathers h = tt
halts_named (Err fault) before between now first met steady whole gathers h = halts_fault fault before between now first met steady whole gathers h

pub steady_named : (before between now first met : ℕ) → between ≡ before → first ≡ 0 → Gathers between now met → met ≡ first → now ≡ before
steady_named before between now first met steady whole gathers same = omega (arith, steady, whole, same, gathers.0, gathers.1)

-- ---- what stays

pub tells_itself : (told : Option (List ℕ)) → TellsSame told told
tells_itself None = tt
tells_itself (Some bytes) = refl

pub tells_on : (old now : Option (List ℕ)) → now ≡ old → TellsSame old now
tells_on old now same = subst (TellsSame old) (sym same) (tells_itself old)

pub others_named : (name : List ℕ) (before between now : Held) → KeepsOthers name before between → KeepsTold between now → KeepsOtherSettings name before now
others_named name before between now keeps told = λ other apart.
    subst (λ (o : Option (List ℕ)). TellsSame o (now other)) (keeps other apart) (told other)

pub others_same : (name : List ℕ) (before now : Held) → now ≡ before → KeepsOtherSettings name before now
others_same name before now same = λ other apart. tells_on (before other) (now other) (ap (λ (f : Held). f other) same)
