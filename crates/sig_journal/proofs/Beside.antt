-- What a store tells whose other file is another image.
use Rattle.std.proofs.Common.{◌≡◌, ℕ, ◌+◌, List, Bool, true, false, nat_lt, Ok, refl, ◌∙◌, ap, arith}
use Rattle.std.proofs.lemmas.Bool.Decides.{nat_tests}
use Rattle.std.specs.Prelude.{not}
use Rattle.sig_journal.specs.declared.gate.Gate.{Gate}
use Rattle.sig_journal.specs.declared.gate.Gate.TheVariants.{NoByte, Closed, Opened}
use Rattle.sig_journal.specs.declared.kind.Kind.{Kind}
use Rattle.sig_journal.specs.Journal.{store_with}
use Rattle.sig_journal.specs.Layout.{Content, content_of}
use Rattle.sig_journal.specs.Store.{gate_of, in_force, told_by, told_in}
use Rattle.sig_journal.specs.Beside.{IsInForce, LeavesTold}
use Rattle.sig_journal.proofs.Stores.{told_by-ok}

-- a closed gate leaves the file in force that is: the second one, or the first
second_stays : (first second : Gate) → in_force first second ≡ Ok true → in_force Closed second ≡ Ok true
second_stays (Opened x) (Opened y) is = refl
second_stays (Opened x) Closed is = absurd cc
second_stays (Opened x) NoByte is = absurd cc
second_stays Closed (Opened y) is = refl
second_stays Closed Closed is = absurd cc
second_stays Closed NoByte is = absurd cc
second_stays NoByte second is = absurd cc

first_stays : (first second : Gate) → in_force first second ≡ Ok false → in_force first Closed ≡ Ok false
first_stays (Opened x) second is = refl
first_stays Closed (Opened y) is = absurd cc
first_stays Closed Closed is = absurd cc
first_stays Closed NoByte is = absurd cc
first_stays NoByte second is = absurd cc

-- a file with a closed gate leaves what the store tells
pub shut_leaves : (before image : List ℕ) → gate_of image ≡ Closed → LeavesTold before image
shut_leaves before image shut = λ kind written in_b content is. by_place in_b kind written content is
  where
    by_place : (in_b : Bool) (kind : Kind) (written : List ℕ) (content : Content) → IsInForce in_b kind written before content → IsInForce in_b kind written image content
    by_place true kind written content is =
        let parts = told_by-ok kind before written (in_force (gate_of before) (gate_of written)) true content is in
        ap (told_by kind image written) (ap (λ (g : Gate). in_force g (gate_of written)) shut ∙ second_stays (gate_of before) (gate_of written) parts.0) ∙ ap (told_in true) parts.1
    by_place false kind written content is =
        let parts = told_by-ok kind written before (in_force (gate_of written) (gate_of before)) false content is in
        ap (told_by kind written image) (ap (in_force (gate_of written)) shut ∙ first_stays (gate_of written) (gate_of before) parts.0) ∙ ap (told_in false) parts.1

pub same_leaves : (before image : List ℕ) → image ≡ before → LeavesTold before image
same_leaves before image is = λ kind written in_b content told. ap (store_with in_b kind written) is ∙ told

-- a file of the next generation is in force, whichever of the two it is
pub next_in_force : (kind : Kind) (written image : List ℕ) (generation : ℕ) (content : Content) → gate_of written ≡ Opened generation → gate_of image ≡ Opened (generation + 1)
    → content_of kind image ≡ Ok content → (in_b : Bool) → store_with in_b kind written image ≡ Ok (record { in_b = not in_b; content = content })
next_in_force kind written image generation content old new holds true =
    ap (told_by kind image written) ((λ i. in_force (new i) (old i)) ∙ ap (λ (b : Bool). Ok b) earlier) ∙ ap (told_in false) holds
  where
    earlier : nat_lt (generation + 1) generation ≡ false
    earlier = grind (arith, nat_tests)
next_in_force kind written image generation content old new holds false =
    ap (told_by kind written image) ((λ i. in_force (old i) (new i)) ∙ ap (λ (b : Bool). Ok b) later) ∙ ap (told_in true) holds
  where
    later : nat_lt generation (generation + 1) ≡ true
    later = grind (arith, nat_tests)
