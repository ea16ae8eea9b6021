use Rattle.std.proofs.Common.{◌≡◌, ℕ, Bool, List, Option, Some, None, bytes_eq, if◌then◌else◌, option_and_then}
use Rattle.std.proofs.lemmas.Option.{none-some, same_Some}
use Rattle.std.proofs.lemmas.Slice.Eq.{bytes_eq-Decides}
use Rattle.std.proofs.Common.{ap, sym, true, false, refl, ◌∙◌}
use Rattle.uuid.specs.Text.{hyphenated_text, lower, parsed}
use Rattle.sig_accounts.specs.PublishIds.{written_as}
use Rattle.sig_accounts.proofs.publish_id.form_of.Goals as goal

written : (text bytes found : List ℕ) (b : Bool) → b ≡ bytes_eq (hyphenated_text lower bytes) text → (if b then Some bytes else None) ≡ Some found
    → hyphenated_text lower found ≡ text
written text bytes found true same is =
    ap (hyphenated_text lower) (sym (same_Some bytes found is)) ∙ (bytes_eq-Decides (hyphenated_text lower bytes) text).0 (sym same)
written text bytes found false same is = absurd (none-some found is)

found_text : (text found : List ℕ) (o : Option (List ℕ)) → option_and_then (written_as text) o ≡ Some found → hyphenated_text lower found ≡ text
found_text text found None is = absurd (none-some found is)
found_text text found (Some bytes) is = written text bytes found (bytes_eq (hyphenated_text lower bytes) text) refl is

pub returns-in-Some : goal.returns-in-Some
returns-in-Some c = found_text c.args.text.now c.in-Some.bytes (parsed c.args.text.now) (sym c.in-Some.ensures)
